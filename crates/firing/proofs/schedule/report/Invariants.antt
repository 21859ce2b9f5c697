use Prim.Native.Nat.{◌+◌, ◌-◌, ◌*◌}
use Rattle.firing.proofs.Schedules.{Walk}
use Rattle.firing.proofs.schedule.report.Given as goal

abbrev pub invariant-loop-k : goal.invariant-loop-k
invariant-loop-k l = Walk l.entry (l.k-end - l.k) (2 + 6 * l.k) l.before l.minutes l.peak
