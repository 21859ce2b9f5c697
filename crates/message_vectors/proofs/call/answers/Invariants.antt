-- `answers` is safe and ends. The turns that are left fall.
use Prim.Native.Nat.{◌≤◌, ◌-◌}
use Rattle.message_vectors.proofs.call.answers.Given as goal

abbrev pub invariant-loop-taken : goal.invariant-loop-taken
invariant-loop-taken g l = l.taken ≤ 99

abbrev pub decreases-loop-taken : goal.decreases-loop-taken
decreases-loop-taken g l = 99 - l.taken
