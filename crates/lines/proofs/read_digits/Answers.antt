use mathlib.Core.Path.{refl, ◌∙◌, sym}
use native.Mathlib.Omega.{arith}
use Rattle.lines.specs.Text.{is_digit, number}
use Rattle.lines.proofs.Runs.{run_more, run_stops, run_ends, number_more, number_stops, number-ends, digits_are}
use Rattle.lines.proofs.read_digits.Goals as goal

pub loop-i-init : goal.loop-i-init
unfolding number
loop-i-init c = (omega arith, (refl, refl))

pub returns-then-not-is_digit : goal.returns-then-not-is_digit
returns-then-not-is_digit c =
    let l = c.loop-i in
    let d = sym c.is_digit.ensures ∙ c.if-not-is_digit.true in
    let i = run_stops is_digit _ _ _ l.invariant.1.0 c.loop-i-test.true d in
    digits_are _ _ _ (number_stops _ _ _ _ l.invariant.0 l.invariant.1.1 c.loop-i-test.true d) i refl

pub loop-i-preserved : goal.loop-i-preserved
loop-i-preserved c =
    let l = c.loop-i in
    let d = sym c.is_digit.ensures ∙ c.if-not-is_digit.false in
    let h = c.loop-i-test.true in
    let n = number_more _ _ _ _ l.invariant.0 l.invariant.1.1 _ h d c.longer-value.ensures in
    (n.0, (run_more is_digit _ _ _ l.invariant.1.0 h d, n.1))

pub returns : goal.returns
returns c =
    let l = c.loop-i in
    let i = run_ends is_digit _ _ _ l.invariant.1.0 c.loop-i-test.false in
    digits_are _ _ _ (number-ends _ _ _ _ l.invariant.0 l.invariant.1.1 c.loop-i-test.false) i refl
