use Rattle.std.proofs.Common.{rules}
use Rattle.c_layout.specs.User.{progress_of}
use Rattle.c_layout.proofs.user_state.progress_of.Goals as goal

pub returns : goal.returns
unfolding progress_of
returns c = search rules
