-- A segment of a schedule on a line: a rate, a target and a hold. docs/STUDIO.md: "rates from -32,768 to 32,767, targets and holds from 0
-- to 65,535".
use Rattle.std.specs.Prelude.{cond, List, ℕ, ◌+◌, ◌-◌, ◌%◌, eqb, get_or}
use Rattle.lines.specs.Text.{after_blanks}
use Rattle.lines.specs.declared.Digits.{Digits}
use Rattle.script.specs.declared.Fault.{Fault}
use Rattle.script.specs.declared.segments.Rate.{Rate}
use Rattle.script.specs.declared.segments.Listed.{Listed}
use Rattle.script.specs.Number.{whole_number, next_number, two_bytes, is_within}

-- The rate with these digits: as two bytes hold it, and whether they do.
unfoldable pub from_zero : Digits → Rate
from_zero d = record { bits = d.value % 65536; fits = is_within d (record { least = 0; most = 32767 }); next = d.next }

-- The rate with these digits after a minus sign, in two's complement.
unfoldable pub below_zero : Digits → Rate
below_zero d = record { bits = (65536 - d.value % 65536) % 65536; fits = is_within d (record { least = 0; most = 32768 }); next = d.next }

-- The rate at a place; 45 is the minus sign.
unfoldable pub rate_at : List ℕ → ℕ → Rate
rate_at text at = cond (eqb (get_or text at 0) 45) (below_zero (whole_number text (at + 1))) (from_zero (whole_number text at))

-- What is wrong with a segment.
unfoldable pub segment_fault : Rate → Digits → Digits → Fault
segment_fault rate target hold =
    cond rate.fits (cond (is_within target two_bytes) (cond (is_within hold two_bytes) Fault.Nothing Fault.Hold) Fault.Target) Fault.Rate

-- The segment after the blanks at a place, and the place of what follows it.
unfoldable pub segment_at : List ℕ → ℕ → Listed
segment_at text at =
    let rate = rate_at text (after_blanks text at) in
    let target = next_number text rate.next in
    let hold = next_number text target.next in
    record {
      rate = rate.bits;
      target = target.value % 65536;
      hold = hold.value % 65536;
      fault = segment_fault rate target hold;
      next = after_blanks text hold.next;
    }
