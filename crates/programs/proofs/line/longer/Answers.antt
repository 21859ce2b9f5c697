use borrow.Author.Tests.{eq-eqb, ne_eqb}
use Rattle.programs.specs.Case.{longer}
use Rattle.programs.proofs.line.longer.Goals as goal

pub returns-then-b-eq32 : goal.returns-then-b-eq32
unfolding longer
returns-then-b-eq32 c = rw (eq-eqb _ 32 c.if-b-eq32.true)

pub returns-then-b-eq124 : goal.returns-then-b-eq124
unfolding longer
returns-then-b-eq124 c = rw (ne_eqb _ 32 c.if-b-eq32.false, eq-eqb _ 124 c.if-b-eq124.true)

pub returns : goal.returns
unfolding longer
returns c = rw (ne_eqb _ 32 c.if-b-eq32.false, ne_eqb _ 124 c.if-b-eq124.false)
