-- The level is given so that no list is unfolded.
use mathlib.Core.Path.{refl, sym}
use Prim.Native.Nat.{ℕ}
use lib.ListN.{length-replicate}
use Rattle.lines.specs.Memory.{zeros}
use Rattle.script.proofs.memory.Goals as goal

pub returns : goal.returns
unfolding zeros
returns c = (sym (length-replicate {0} {A = ℕ} 65537 0), refl)
