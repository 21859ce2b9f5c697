-- `mark_segment` is safe and ends: it has a turn for each minute.
use mathlib.Core.Path.{◌≡◌}
use Prim.Native.Nat.{◌≤◌, ◌-◌}
use lib.ListN.{length}
use Rattle.firing_text.proofs.curve.mark_segment.Given as goal

abbrev pub invariant-loop-m : goal.invariant-loop-m
invariant-loop-m l = (l.m ≤ l.minutes) × (length l.marks ≡ length l.initial.marks)

abbrev pub decreases-loop-m : goal.decreases-loop-m
decreases-loop-m l = l.minutes - l.m
