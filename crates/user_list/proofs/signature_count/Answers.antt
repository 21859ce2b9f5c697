use mathlib.Core.Path.{refl}
use Rattle.user_list.specs.Users.{signature_count}
use Rattle.user_list.proofs.signature_count.Goals as goal

pub returns : goal.returns
unfolding signature_count
returns c = refl
