use Rattle.programs.specs.Case.{numbers_from}
use lib.ListN.{length, drop}
use Prim.Native.Nat.{◌≤◌, ◌-◌}
use mathlib.Core.Path.{◌≡◌}
use Rattle.programs.proofs.line.numbers.Given as goal

abbrev pub invariant-loop-i : goal.invariant-loop-i
invariant-loop-i l = (l.i ≤ length l.text) × ((length l.f ≡ 16) × (numbers_from l.text 0 l.initial.f ≡ numbers_from (drop l.i l.text) l.k l.f))

abbrev pub decreases-loop-i : goal.decreases-loop-i
decreases-loop-i l = length l.text - l.i
