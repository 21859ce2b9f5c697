-- The level is given so that no list is unfolded.
use mathlib.Core.Path.{refl, sym}
use Prim.Native.Nat.{ℕ}
use lib.ListN.{length-replicate}
use Rattle.lines.specs.Memory.{zeros}
use Rattle.programs.proofs.key.memory.Goals as goal

pub returns : goal.returns
unfolding zeros
returns c = (sym (length-replicate {0} {A = ℕ} 200152 0), refl)
