-- `mark_segments` is safe and ends: it has a turn for each segment. The minutes so far are below 2^32 for each.
use mathlib.Core.Path.{◌≡◌}
use Prim.Native.Nat.{◌*◌, ◌≤◌, ◌-◌}
use lib.ListN.{length}
use Rattle.firing_text.proofs.curve.mark_segments.Given as goal

abbrev pub invariant-loop-k : goal.invariant-loop-k
invariant-loop-k l =
    (l.k ≤ l.count) × ((l.start ≤ 4294967295 * l.k) × (length l.marks ≡ length l.initial.marks))

abbrev pub decreases-loop-k : goal.decreases-loop-k
decreases-loop-k l = l.count - l.k
