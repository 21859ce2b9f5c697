use native.Mathlib.Omega.{arith}
use Rattle.script.proofs.Lines.{ends-line, ends-word, goes_on_lem}
use Rattle.script.proofs.number.at_place.Goals as goal

pub returns-then-line-next : goal.returns-then-line-next
returns-then-line-next c = ends-line _ _ _ c.read_digits-d.ensures c.if-line-next.true

pub returns-then-next-skip_blanks : goal.returns-then-next-skip_blanks
returns-then-next-skip_blanks c =
    let read-digits = c.read_digits-d.ensures in
    ends-word _ _ _ read-digits (omega (arith, c.skip_blanks.ensures, c.if-next-skip_blanks.true))

pub returns : goal.returns
returns c =
    let read-digits = c.read_digits-d.ensures in
    let if1-left = c.if-line-next.false in
    goes_on_lem _ _ _ read-digits if1-left (omega (arith, c.skip_blanks.ensures, c.if-next-skip_blanks.false))
