use mathlib.Core.Path.{refl}
use Rattle.script.specs.Number.{is_within}
use Rattle.script.proofs.number.is_within.Goals as goal

pub returns : goal.returns
unfolding is_within
returns c = refl
