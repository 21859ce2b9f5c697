use mathlib.Core.Path.{◌≡◌}
use Prim.Native.Nat.{◌≤◌, ◌+◌, ◌-◌, min}
use lib.ListN.{length, drop}
use Rattle.lines.specs.Text.{is_digit, run, number, number_from}
use Rattle.lines.proofs.read_digits.Given as goal

abbrev pub invariant-loop-i : goal.invariant-loop-i
invariant-loop-i l =
    (l.value ≤ 9999999)
    × ((l.at + run is_digit (drop l.at l.text) ≡ l.i + run is_digit (drop l.i l.text))
    × (min (number (drop l.at l.text)) 9999999 ≡ min (number_from l.value (drop l.i l.text)) 9999999))

abbrev pub decreases-loop-i : goal.decreases-loop-i
decreases-loop-i l = length l.text - l.i
