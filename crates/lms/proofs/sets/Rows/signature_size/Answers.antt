use mathlib.Core.Path.{refl}
use Rattle.lms.specs.Signature.{signature_size}
use Rattle.lms.proofs.sets.Rows.signature_size.Goals as goal

pub returns : goal.returns
unfolding signature_size
returns c = refl
