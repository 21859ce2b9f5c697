use mathlib.Core.Path.{refl}
use Rattle.lines.specs.Memory.{zeros}
use Rattle.programs.proofs.key.blank_tree.Goals as goal

pub returns : goal.returns
unfolding zeros
returns c = refl
