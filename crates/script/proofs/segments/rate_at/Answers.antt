use native.Mathlib.Omega.{arith}
use borrow.Author.Tests.{eq-eqb, ne_eqb}
use Rattle.script.specs.Segment.{rate_at}
use Rattle.lines.proofs.Runs.{byte_there}
use Rattle.script.proofs.segments.rate_at.Goals as goal

pub returns-then-byte_at-ne45 : goal.returns-then-byte_at-ne45
unfolding rate_at
returns-then-byte_at-ne45 c =
    let byte_at = c.byte_at.ensures in
    let if1-taken = c.if-byte_at-ne45.true in
    rw (c.from_0.ensures, c.at_place.ensures, ← byte_at, ne_eqb _ 45 if1-taken)

pub overflow_add-at : goal.overflow_add-at
overflow_add-at c =
    let args = c.args in
    let there = byte_there args.text.now args.at _ c.byte_at.ensures (λ z. omega (arith, c.if-byte_at-ne45.false)) in omega arith

pub returns : goal.returns
unfolding rate_at
returns c =
    let byte_at = c.byte_at.ensures in
    let if1-left = c.if-byte_at-ne45.false in
    rw (c.below_0.ensures, c.at_place-2.ensures, ← byte_at, eq-eqb _ 45 if1-left)
