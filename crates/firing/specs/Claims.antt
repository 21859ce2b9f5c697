-- Document 02, d and i: what is claimed of schedules, by the numbers that their bytes stand for, and of starts. The words in quotes are its
-- own.
use Rattle.std.specs.Prelude.{◌≡◌, ◌↔◌, true, List, [], ◌∷◌, ◌++◌, ℕ, zero, suc, ◌+◌, ◌-◌, ◌*◌, ◌≤◌, ◌<◌, ℤ, pos, negsuc, nat_abs, length, drop, get_or, ◌<ℤ◌}
use Rattle.sha256.specs.Bytes.{be}
use Rattle.firing.specs.declared.segment.Segment.{Segment}
use Rattle.firing.specs.Schedule.{segment_of, segments, sign_fits, start, schedule_fits, report_code}
use Rattle.firing.specs.Warm.{starts_fit}

-- A segment that keeps the rules after a temperature. "Rates lie in -600..600, targets in 20..1,350, holds in 0..5,999." "The rate has the
-- sign of target minus the temperature before, and is 0 exactly if they are equal."
pub record SegmentKeepsRules (before : ℕ) (s : Segment) : Type 0 where
  pub rate : nat_abs s.rate ≤ 600
  pub least : 20 ≤ s.target
  pub most : s.target ≤ 1350
  pub hold : s.hold ≤ 5999
  pub cools : (s.rate <ℤ pos 0) ↔ (s.target < before)
  pub heats : (pos 0 <ℤ s.rate) ↔ (before < s.target)
  pub stays : (s.rate ≡ pos 0) ↔ (s.target ≡ before)

-- Segment k of an entry, where the first is 0: its 6 bytes begin at 2 + 6k. And the temperature before it: "The kiln starts at 20."
abbrev pub segment_at : List ℕ → ℕ → Segment
segment_at entry k = segment_of (drop (2 + 6 * k) entry)

abbrev pub reached_at : List ℕ → ℕ → ℕ
reached_at entry zero = 20
reached_at entry (suc k) = (segment_at entry k).target

-- An entry that is a schedule which keeps the rules: "first byte 3", "a segment count (1 byte) from 1 to 16, then per segment 6 bytes".
-- "The entry ends with its last segment."
pub record ScheduleKeepsRules (entry : List ℕ) : Type 0 where
  pub first : get_or entry 0 0 ≡ 3
  pub count : ℕ
  pub counted : get_or entry 1 0 ≡ count
  pub least : 1 ≤ count
  pub most : count ≤ 16
  pub whole : length entry ≡ 2 + 6 * count
  pub each : (k : ℕ) → k < count → SegmentKeepsRules (reached_at entry k) (segment_at entry k)

-- The test that 26 goes by, in a Write and in a report, passes exactly these,
unfoldable pub SchedulesFit : Type 0
SchedulesFit = (entry : List ℕ) → (schedule_fits entry ≡ true) ↔ ScheduleKeepsRules entry

-- and exactly these are reported: neither 19 nor 26 refuses them.
unfoldable pub SchedulesReported : Type 0
SchedulesReported = (entry : List ℕ) → (report_code entry ≡ 0) ↔ ScheduleKeepsRules entry

-- The other way round, the bytes of numbers: rate "in two's complement", target and hold, "2 for each".
unfoldable pub rate_bits : ℤ → ℕ
rate_bits (pos n) = n
rate_bits (negsuc n) = 65535 - n

unfoldable pub segments_laid : List Segment → List ℕ
segments_laid [] = []
segments_laid (s ∷ rest) = be 2 (rate_bits s.rate) ++ (be 2 s.target ++ (be 2 s.hold ++ segments_laid rest))

unfoldable pub schedule_laid : List Segment → List ℕ
schedule_laid xs = 3 ∷ length xs ∷ segments_laid xs

-- Segments that keep the rules one after the other, the first after a temperature that is given.
unfoldable pub AllKeepRules : ℕ → List Segment → Type 0
AllKeepRules before [] = Unit {0}
AllKeepRules before (s ∷ rest) = SegmentKeepsRules before s × AllKeepRules s.target rest

-- Every 1 to 16 segments that keep the rules are those of such a schedule, with these bytes.
unfoldable pub NumbersFit : Type 0
NumbersFit =
    (xs : List Segment) → 1 ≤ length xs → length xs ≤ 16 → AllKeepRules start xs
    → ScheduleKeepsRules (schedule_laid xs) × (segments (schedule_laid xs) ≡ xs)

-- Document 02, i: a range of starts that fits. "Ends lie in 0..1,350." "32, a above b, an end out of range, or a start in the range for
-- which the first rate breaks the sign rule, its case of 0 included".
pub record RangeKeepsRules (first : Segment) (a b : ℕ) : Type 0 where
  pub order : a ≤ b
  pub lower : a ≤ 1350
  pub upper : b ≤ 1350
  pub sign : (t : ℕ) → a ≤ t → t ≤ b → sign_fits t first ≡ true

unfoldable pub RangesFit : Type 0
RangesFit = (first : Segment) (a b : ℕ) → (starts_fit first a b ≡ true) ↔ RangeKeepsRules first a b
