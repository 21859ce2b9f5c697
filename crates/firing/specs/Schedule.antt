-- Document 02, d: firing schedules, "Schedules that a kiln can run". The words in quotes are its own.
use Rattle.std.specs.Prelude.{Bool, true, cond, not, ◌&&◌, ◌||◌, List, [], ◌∷◌, ℕ, zero, suc, ◌+◌, ◌-◌, ◌*◌, ◌/◌, max, eqb, leb, ltb, ℤ, pos, nat_abs, ◌-ℤ◌, length, drop, get_or}
use Rattle.std.specs.Int.Signed.{lt_z}
use Rattle.sha256.specs.Bytes.{number_at}
use Rattle.firing.specs.declared.segment.Segment.{Segment}
use Rattle.firing.specs.declared.schedule.Firing.{Firing}
use Rattle.firing.specs.Entry.{entry_fits, is_schedule}

-- "in two's complement": the number that two bytes stand for.
unfoldable pub twos_complement : ℕ → ℤ
twos_complement n = cond (ltb n 32768) (pos n) (pos n -ℤ pos 65536)

-- "per segment 6 bytes, 2 for each: signed rate in °C per hour (negative when cooling) in two's complement, target in °C, hold in
-- minutes"
unfoldable pub segment_of : List ℕ → Segment
segment_of s = record { rate = twos_complement (number_at 2 s 0); target = number_at 2 s 2; hold = number_at 2 s 4 }

-- So many segments, one behind the other.
unfoldable pub segments_in : ℕ → List ℕ → List Segment
segments_in zero s = []
segments_in (suc n) s = segment_of s ∷ segments_in n (drop 6 s)

-- "Entries with first byte 3 hold a firing: a segment count (1 byte) from 1 to 16, then per segment 6 bytes". "The entry ends with its
-- last segment."
unfoldable pub segment_count : List ℕ → ℕ
segment_count entry = get_or entry 1 0

unfoldable pub segments : List ℕ → List Segment
segments entry = segments_in (segment_count entry) (drop 2 entry)

unfoldable pub laid_out : List ℕ → Bool
laid_out entry = let n = segment_count entry in is_schedule entry && (leb 1 n && (leb n 16 && eqb (length entry) (2 + 6 * n)))

-- "target minus the temperature before"
unfoldable pub change : ℕ → Segment → ℤ
change before s = pos s.target -ℤ pos before

-- Whether two numbers are both below 0, both above it, or both 0.
unfoldable pub same_sign : ℤ → ℤ → Bool
same_sign a b = (lt_z a (pos 0) && lt_z b (pos 0)) || ((lt_z (pos 0) a && lt_z (pos 0) b) || (eqb (nat_abs a) 0 && eqb (nat_abs b) 0))

-- "The rate has the sign of target minus the temperature before, and is 0 exactly if they are equal."
unfoldable pub sign_fits : ℕ → Segment → Bool
sign_fits before s = same_sign s.rate (change before s)

-- "Rates lie in -600..600, targets in 20..1,350, holds in 0..5,999." The rate has the sign that it must have.
unfoldable pub segment_fits : ℕ → Segment → Bool
segment_fits before s =
    leb (nat_abs s.rate) 600 && (leb 20 s.target && (leb s.target 1350 && (leb s.hold 5999 && sign_fits before s)))

-- Segments in order: the temperature before the first is given, and before each other one it is the target before it.
unfoldable pub segments_fit : ℕ → List Segment → Bool
segments_fit before [] = true
segments_fit before (s ∷ rest) = segment_fits before s && segments_fit s.target rest

-- a over b, rounded up to a whole number.
unfoldable pub rounded_up : ℕ → ℕ → ℕ
rounded_up a b = (a + (b - 1)) / b

-- "A segment lasts 60 × the difference over the rate's size, rounded up to whole minutes, plus the hold; one with rate 0 lasts its hold
-- alone."
unfoldable pub segment_minutes : ℕ → Segment → ℕ
segment_minutes before s = cond (eqb (nat_abs s.rate) 0) s.hold (rounded_up (60 * nat_abs (change before s)) (nat_abs s.rate) + s.hold)

-- "The total of the segments and the peak, the highest target, are reported."
unfoldable pub total : ℕ → List Segment → ℕ
total before [] = 0
total before (s ∷ rest) = segment_minutes before s + total s.target rest

unfoldable pub peak : List Segment → ℕ
peak [] = 0
peak (s ∷ rest) = max s.target (peak rest)

-- "The kiln starts at 20."
abbrev pub start : ℕ
start = 20

-- A schedule that keeps all of these rules.
unfoldable pub schedule_fits : List ℕ → Bool
schedule_fits entry = laid_out entry && segments_fit start (segments entry)

-- "26, a schedule against these rules", in a Write: whether an entry is no schedule, or one that keeps the rules.
unfoldable pub rules_kept : List ℕ → Bool
rules_kept entry = not (is_schedule entry) || schedule_fits entry

-- "26, a schedule against these rules or a report asked on another first byte, directly after 19's shape check". With a refusal, minutes
-- and peak are 0.
unfoldable pub report_code : List ℕ → ℕ
report_code entry = cond (entry_fits entry) (cond (schedule_fits entry) 0 26) 19

unfoldable pub unreported : ℕ → Firing
unreported code = record { code = code; minutes = 0; peak = 0 }

unfoldable pub reported : List ℕ → Firing
reported entry = let firing : Firing = record { code = 0; minutes = total start (segments entry); peak = peak (segments entry) } in
    cond (eqb (report_code entry) 0) firing (unreported (report_code entry))
