use Rattle.std.proofs.Common.{rules}
use Rattle.c_layout.specs.User.{give_up_of}
use Rattle.c_layout.proofs.user_call.give_up_of.Goals as goal

pub returns : goal.returns
unfolding give_up_of
returns c = search rules
