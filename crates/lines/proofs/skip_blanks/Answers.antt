use mathlib.Core.Path.{refl, ◌∙◌, sym}
use Rattle.lines.specs.Text.{is_blank, after_blanks}
use Rattle.lines.proofs.Runs.{run_more, run_stops, run_ends}
use Rattle.lines.proofs.skip_blanks.Goals as goal

pub loop-i-init : goal.loop-i-init
loop-i-init c = refl

pub returns-then-not-is_blank : goal.returns-then-not-is_blank
unfolding after_blanks
returns-then-not-is_blank c =
    let loop-inv = c.loop-i.invariant in
    let loop-test-taken = c.loop-i-test.true in
    run_stops is_blank _ _ _ loop-inv loop-test-taken (sym c.is_blank.ensures ∙ c.if-not-is_blank.true)

pub loop-i-preserved : goal.loop-i-preserved
loop-i-preserved c =
    let loop-inv = c.loop-i.invariant in
    let loop-test-taken = c.loop-i-test.true in
    run_more is_blank _ _ _ loop-inv loop-test-taken (sym c.is_blank.ensures ∙ c.if-not-is_blank.false)

pub returns : goal.returns
unfolding after_blanks
returns c = run_ends is_blank _ _ _ c.loop-i.invariant c.loop-i-test.false
