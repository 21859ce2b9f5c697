use Rattle.std.proofs.Common.{rules}
use Rattle.c_layout.specs.User.{read_of}
use Rattle.c_layout.proofs.user_call.read_of.Goals as goal

pub returns : goal.returns
unfolding read_of
returns c = search rules
