use Rattle.sha256.specs.Word.{σ0, ROTR, SHR, SHL}
use Rattle.sha256.proofs.word.small_sigma0.Goals as goal

pub returns : goal.returns
unfolding σ0 ROTR SHR SHL
returns c = rw (c.rotate_right-2.ensures, c.rotate_right.ensures)
