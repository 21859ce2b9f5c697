use mathlib.Core.Path.{◌≡◌}
use Prim.Native.Nat.{◌≤◌, ◌-◌}
use lib.ListN.{length}
use Rattle.firing_text.proofs.Segments.{Standing}
use Rattle.firing_text.proofs.kiln.lay_segments.Given as goal

abbrev pub invariant-loop-count : goal.invariant-loop-count
invariant-loop-count l = (l.count ≤ 16) × ((length l.entry ≡ length l.initial.entry) × Standing l.text l.initial.entry l.entry l.at l.count)

abbrev pub decreases-loop-count : goal.decreases-loop-count
decreases-loop-count l = 16 - l.count
