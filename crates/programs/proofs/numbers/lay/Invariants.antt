use Rattle.programs.specs.Listed.{numbers_at}
use lib.ListN.{length, take, drop}
use Prim.Native.Nat.{◌≤◌, ◌-◌}
use mathlib.Core.List.{◌++◌}
use mathlib.Core.Path.{◌≡◌}
use Rattle.programs.proofs.numbers.lay.Given as goal

abbrev pub invariant-loop-count : goal.invariant-loop-count
invariant-loop-count l =
    (l.count ≤ length l.initial.out)
    × ((length l.out ≡ length l.initial.out)
    × ((numbers_at l.text l.initial.at (length l.initial.out) ≡ take l.count l.out ++ numbers_at l.text l.at (length l.initial.out - l.count)) × (drop l.count l.out ≡ drop l.count l.initial.out)))

abbrev pub decreases-loop-count : goal.decreases-loop-count
decreases-loop-count l = length l.initial.out - l.count
