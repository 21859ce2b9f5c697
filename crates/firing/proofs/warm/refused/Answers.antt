use mathlib.Core.Path.{refl}
use Rattle.firing.specs.Warm.{warm_unreported}
use Rattle.firing.proofs.warm.refused.Goals as goal

pub returns : goal.returns
unfolding warm_unreported
returns c = refl
