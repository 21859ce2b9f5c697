use Rattle.std.proofs.Common.{rules}
use Rattle.lms.specs.Check.{above}
use Rattle.lms.proofs.checking.above.Goals as goal

pub returns-then-node-eq1 : goal.returns-then-node-eq1
unfolding above
returns-then-node-eq1 c = search rules

pub returns-else-node-eq1 : goal.returns-else-node-eq1
unfolding above
returns-else-node-eq1 c = search rules
