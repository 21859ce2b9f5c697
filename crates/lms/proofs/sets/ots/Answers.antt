use Rattle.std.proofs.Common.{rules}
use Rattle.lms.specs.Sets.{ots_of}
use Rattle.lms.proofs.sets.ots.Goals as goal

pub returns-in-1 : goal.returns-in-1
unfolding ots_of
returns-in-1 c = search rules

pub returns-in-2 : goal.returns-in-2
unfolding ots_of
returns-in-2 c = search rules

pub returns-in-3 : goal.returns-in-3
unfolding ots_of
returns-in-3 c = search rules

pub returns-in-4 : goal.returns-in-4
unfolding ots_of
returns-in-4 c = search rules

pub returns-in_default : goal.returns-in_default
unfolding ots_of
returns-in_default c = search rules
