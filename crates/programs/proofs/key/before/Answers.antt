use native.Mathlib.Omega.{arith}
use mathlib.Core.Path.{refl}
use Rattle.programs.specs.Key.{before}
use Rattle.programs.proofs.key.before.Goals as goal

pub returns : goal.returns
unfolding before
returns c = (refl, omega arith)
