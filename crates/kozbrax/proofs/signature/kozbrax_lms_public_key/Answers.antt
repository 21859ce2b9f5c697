use Rattle.lms.proofs.ByType.{ots_three, lms_six}
use Rattle.kozbrax.proofs.signature.kozbrax_lms_public_key.Goals as goal

pub returns : goal.returns
returns c = rw (ots_three, lms_six) at c.public_key.ensures
