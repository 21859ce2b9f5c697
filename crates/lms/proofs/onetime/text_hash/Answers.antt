use Rattle.lms.specs.Ots.{text_hash}
use Rattle.lms.proofs.onetime.text_hash.Goals as goal

pub returns : goal.returns
unfolding text_hash
returns c = rw (← c.prefix.ensures) c.hash3.ensures
