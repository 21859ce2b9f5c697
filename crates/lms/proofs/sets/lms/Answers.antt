use Rattle.std.proofs.Common.{rules}
use Rattle.lms.specs.Sets.{lms_of}
use Rattle.lms.proofs.sets.lms.Goals as goal

pub returns-in-5 : goal.returns-in-5
unfolding lms_of
returns-in-5 c = search rules

pub returns-in-6 : goal.returns-in-6
unfolding lms_of
returns-in-6 c = search rules

pub returns-in_default : goal.returns-in_default
unfolding lms_of
returns-in_default c = search rules
