-- What is left to list falls with each segment or minute.
use mathlib.Core.Path.{◌≡◌}
use Prim.Native.Nat.{◌≤◌, ◌-◌}
use Rattle.script.specs.Listed.{list_fault}
use Rattle.script.proofs.list.fault.Given as goal

abbrev pub invariant-loop-count : goal.invariant-loop-count
invariant-loop-count l = (l.count ≤ l.most) × (list_fault l.minutes l.most l.text 0 ≡ list_fault l.minutes (l.most - l.count) l.text l.at)

abbrev pub decreases-loop-count : goal.decreases-loop-count
decreases-loop-count l = l.most - l.count
