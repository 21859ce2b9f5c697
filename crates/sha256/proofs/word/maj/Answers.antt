use Rattle.std.proofs.Common.{refl}
use Rattle.sha256.specs.Word.{Maj}
use Rattle.sha256.proofs.word.maj.Goals as goal

pub returns : goal.returns
unfolding Maj
returns c = refl
