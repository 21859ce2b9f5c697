-- `print_segments` is safe and ends: it has a turn for each segment.
use Prim.Native.Nat.{◌≤◌, ◌-◌}
use Rattle.firing_text.proofs.kiln.print_segments.Given as goal

abbrev pub invariant-loop-k : goal.invariant-loop-k
invariant-loop-k g l = l.k ≤ l.count

abbrev pub decreases-loop-k : goal.decreases-loop-k
decreases-loop-k g l = l.count - l.k
