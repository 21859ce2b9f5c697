use mathlib.Core.Path.{refl}
use Rattle.lines.specs.Memory.{zeros}
use Rattle.exchange.proofs.user_place.blank_memory.Goals as goal

pub returns : goal.returns
unfolding zeros
returns c = refl
