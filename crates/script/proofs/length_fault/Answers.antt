use Rattle.script.specs.Line.{length_fault}
use Rattle.script.proofs.length_fault.Goals as goal

pub returns-then-least-length : goal.returns-then-least-length
unfolding length_fault
returns-then-least-length c = rw c.if-least-length.true

pub returns : goal.returns
unfolding length_fault
returns c = rw c.if-least-length.false
