use Rattle.std.proofs.Common.{rules}
use Rattle.lms.specs.Sets.{other_type}
use Rattle.lms.proofs.sets.other_type.Goals as goal

pub returns-then-t-eq0 : goal.returns-then-t-eq0
unfolding other_type
returns-then-t-eq0 c = search rules

pub returns-else-t-eq0 : goal.returns-else-t-eq0
unfolding other_type
returns-else-t-eq0 c = search rules
