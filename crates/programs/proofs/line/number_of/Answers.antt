use native.Mathlib.Omega.{arith}
use borrow.Author.Tests.{eq-eqb, ne_eqb}
use Rattle.programs.specs.Case.{number_after}
use Rattle.programs.proofs.line.number_of.Goals as goal

pub returns-then-b-eq124 : goal.returns-then-b-eq124
unfolding number_after
returns-then-b-eq124 c = (rw (eq-eqb _ 124 c.if-b-eq124.true), omega arith)

pub returns-then-b-eq32 : goal.returns-then-b-eq32
unfolding number_after
returns-then-b-eq32 c = (rw (ne_eqb _ 124 c.if-b-eq124.false, eq-eqb _ 32 c.if-b-eq32.true), omega arith)

pub returns : goal.returns
unfolding number_after
returns c = (rw (ne_eqb _ 124 c.if-b-eq124.false, ne_eqb _ 32 c.if-b-eq32.false), omega arith)
