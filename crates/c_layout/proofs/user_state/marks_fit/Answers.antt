use Rattle.std.proofs.Common.{rules}
use Rattle.c_layout.specs.User.{marks_fit}
use Rattle.c_layout.proofs.user_state.marks_fit.Goals as goal

pub returns : goal.returns
unfolding marks_fit
returns c = search rules
