use mathlib.Core.Path.{refl}
use Rattle.owner_map.specs.Input.{in_range}
use Rattle.owner_map.proofs.input.in_range.Goals as goal

pub returns : goal.returns
unfolding in_range
returns c = refl
