use native.Mathlib.Omega.{arith}
use borrow.Author.Tests.{eq-eqb, ne_eqb}
use Rattle.lines.proofs.Runs.{byte_there}
use Rattle.programs.specs.Listed.{signed_at}
use Rattle.programs.proofs.numbers.number_at.Goals as goal

pub returns-then-byte_at-ne45 : goal.returns-then-byte_at-ne45
unfolding signed_at
returns-then-byte_at-ne45 c = rw (c.read_digits.ensures, ← c.byte_at.ensures, ne_eqb _ 45 c.if-byte_at-ne45.true)

pub overflow_add-at : goal.overflow_add-at
overflow_add-at c =
    let args = c.args in
    omega (
      arith,
      byte_there args.text.now args.at c.byte_at.result c.byte_at.ensures
          (λ z. omega (arith, c.if-byte_at-ne45.false)),
    )

pub returns : goal.returns
unfolding signed_at
returns c =
    let byte_at = c.byte_at.ensures in
    let if1-left = c.if-byte_at-ne45.false in
    rw (c.negated.ensures, c.read_digits-2.ensures, ← byte_at, eq-eqb _ 45 if1-left)
