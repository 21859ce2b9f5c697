use mathlib.Core.Path.{refl}
use Rattle.script.specs.Length.{too_long}
use Rattle.script.proofs.is_too_long.Goals as goal

pub returns : goal.returns
unfolding too_long
returns c = refl
