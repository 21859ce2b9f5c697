use mathlib.Core.Path.{refl}
use Rattle.opening_hours.specs.Opening.{no_start}
use Rattle.opening_hours.proofs.opening.refused.Goals as goal

pub returns : goal.returns
unfolding no_start
returns c = refl
