use mathlib.Core.Path.{refl}
use Rattle.lms.specs.Tree.{tree_size}
use Rattle.user_list.specs.Users.{tree_length}
use Rattle.user_list.proofs.tree_length.Goals as goal

pub returns : goal.returns
unfolding tree_length tree_size
returns c = refl
