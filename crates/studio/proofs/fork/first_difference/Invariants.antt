-- `first_difference` answers no position past the shorter view. It has a turn for each position.
use mathlib.Core.Path.{◌≡◌}
use Prim.Native.Nat.{◌≤◌, ◌-◌}
use lib.ListN.{length}
use Rattle.studio.proofs.fork.first_difference.Given as goal

abbrev pub invariant-loop-p : goal.invariant-loop-p
invariant-loop-p l = (l.p ≤ l.shorter) × (length l.world ≡ length l.initial.world)

abbrev pub decreases-loop-p : goal.decreases-loop-p
decreases-loop-p l = l.shorter - l.p
