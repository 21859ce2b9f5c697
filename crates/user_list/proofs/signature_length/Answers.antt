use mathlib.Core.Path.{refl}
use Rattle.lms.specs.Signature.{signature_size}
use Rattle.user_list.specs.Users.{signature_length}
use Rattle.user_list.proofs.signature_length.Goals as goal

pub returns : goal.returns
unfolding signature_length signature_size
returns c = refl
