use Rattle.std.proofs.Common.{rules}
use Rattle.c_layout.specs.User.{call_of}
use Rattle.c_layout.proofs.user_call.Call.of.Goals as goal

pub returns-in-1 : goal.returns-in-1
unfolding call_of
returns-in-1 c = search rules

pub returns-in-2 : goal.returns-in-2
unfolding call_of
returns-in-2 c = search rules

pub returns-in-3 : goal.returns-in-3
unfolding call_of
returns-in-3 c = search rules

pub returns-in-4 : goal.returns-in-4
unfolding call_of
returns-in-4 c = search rules

pub returns-in_default : goal.returns-in_default
unfolding call_of
returns-in_default c = search rules

pub returns-in_default-2 : goal.returns-in_default-2
unfolding call_of
returns-in_default-2 c = search rules

pub returns-in_default-3 : goal.returns-in_default-3
unfolding call_of
returns-in_default-3 c = search rules
