-- Computed examples: document 01's own cases of entries, firings at the ends of their ranges, and starts at the ends of theirs.
use Rattle.std.specs.Prelude.{◌≡◌, refl, true, false, List, [], ◌∷◌, ℕ, zero, suc, pos, negsuc, replicate}
use Rattle.sha256.specs.Bytes.{number_at}
use Rattle.firing.specs.Entry.{strikes, is_schedule, entry_fits, target_of}
use Rattle.firing.specs.Schedule.{twos_complement, segment_of, segments_in, segment_count, segments, laid_out, change, same_sign}
use Rattle.firing.specs.Schedule.{sign_fits, segment_fits, segments_fit, rounded_up, segment_minutes, total, peak, schedule_fits, rules_kept}
use Rattle.firing.specs.Schedule.{report_code, reported}
use Rattle.firing.specs.Warm.{combined_from, over_starts, starts_fit, warm_code, warm_reported}

-- "Entries of 1,024 and 1,025 bytes: taken, 19."
entries_of_1024_and_1025 : (entry_fits (1 ∷ replicate 1023 65) ≡ true) × (entry_fits (1 ∷ replicate 1024 65) ≡ false)
unfolding entry_fits strikes is_schedule
entries_of_1024_and_1025 = (refl, refl)

-- An empty entry and the first bytes 0 and 4 are refused, 3 is not; a strike has 5 bytes.
entry_shapes : (entry_fits [] ≡ false) × (entry_fits (0 ∷ []) ≡ false) × (entry_fits (4 ∷ []) ≡ false) × (entry_fits (3 ∷ []) ≡ true)
    × (entry_fits (2 ∷ 0 ∷ 0 ∷ 0 ∷ 7 ∷ []) ≡ true) × (entry_fits (2 ∷ 0 ∷ 0 ∷ 0 ∷ 7 ∷ 0 ∷ []) ≡ false)
unfolding entry_fits strikes is_schedule
entry_shapes = (refl, refl, refl, refl, refl, refl)

-- On the board a strike has its target, and a text, a schedule and what has the first byte of a strike but not its length have 0.
board_targets : (target_of (2 ∷ 0 ∷ 0 ∷ 1 ∷ 7 ∷ []) ≡ 263) × (target_of (1 ∷ 0 ∷ 0 ∷ 1 ∷ 7 ∷ []) ≡ 0)
    × (target_of (3 ∷ 0 ∷ 0 ∷ 1 ∷ 7 ∷ []) ≡ 0) × (target_of (2 ∷ 0 ∷ 0 ∷ 7 ∷ []) ≡ 0)
unfolding target_of strikes number_at
board_targets = (refl, refl, refl, refl)

-- 32,767, -32,768 and -1
two_bytes : (twos_complement 32767 ≡ pos 32767) × (twos_complement 32768 ≡ negsuc 32767) × (twos_complement 65535 ≡ negsuc 0)
unfolding twos_complement
two_bytes = (refl, refl, refl)

-- 100 °C an hour to 950 and 20 minutes there, which is 558 minutes and 20; then 150 °C an hour down to 600, which is 140
abbrev bisque : List ℕ
bisque = 3 ∷ 2 ∷ 0 ∷ 100 ∷ 3 ∷ 182 ∷ 0 ∷ 20 ∷ 255 ∷ 106 ∷ 2 ∷ 88 ∷ 0 ∷ 0 ∷ []

-- Sixteen segments between 20 and 1,350 °C at 1 °C an hour, each with the longest hold: no firing lasts longer.
abbrev up_and_down : ℕ → List ℕ
up_and_down zero = []
up_and_down (suc n) = 0 ∷ 1 ∷ 5 ∷ 70 ∷ 23 ∷ 111 ∷ 255 ∷ 255 ∷ 0 ∷ 20 ∷ 23 ∷ 111 ∷ up_and_down n

-- The two above; from 20 to 21 °C at 7 °C an hour, which is 8 4/7 minutes and reported as 9; and a first target of 20, which has rate 0 and
-- lasts its hold. 26: 100 °C an hour from 950 to 600; a segment of which a byte is missing; a text. 19: a strike of 6 bytes.
reports : (reported bisque ≡ record { code = 0; minutes = 718; peak = 950 })
    × (reported (3 ∷ 16 ∷ up_and_down 8) ≡ record { code = 0; minutes = 1372784; peak = 1350 })
    × (reported (3 ∷ 1 ∷ 0 ∷ 7 ∷ 0 ∷ 21 ∷ 0 ∷ 0 ∷ []) ≡ record { code = 0; minutes = 9; peak = 21 })
    × (reported (3 ∷ 1 ∷ 0 ∷ 0 ∷ 0 ∷ 20 ∷ 0 ∷ 30 ∷ []) ≡ record { code = 0; minutes = 30; peak = 20 })
    × (report_code (3 ∷ 2 ∷ 0 ∷ 100 ∷ 3 ∷ 182 ∷ 0 ∷ 20 ∷ 0 ∷ 100 ∷ 2 ∷ 88 ∷ 0 ∷ 0 ∷ []) ≡ 26)
    × (report_code (3 ∷ 1 ∷ 0 ∷ 7 ∷ 0 ∷ 21 ∷ 0 ∷ []) ≡ 26)
    × (report_code (1 ∷ 65 ∷ []) ≡ 26)
    × (report_code (2 ∷ 0 ∷ 0 ∷ 0 ∷ 7 ∷ 0 ∷ []) ≡ 19)
unfolding reported report_code schedule_fits laid_out segments segments_in segment_count segment_of segments_fit segment_fits sign_fits
    segment_minutes rounded_up change same_sign total peak twos_complement number_at entry_fits strikes is_schedule
reports = (refl, refl, refl, refl, refl, refl, refl, refl)

-- 26 in a Write: a text passes, a schedule with no segment does not.
written_entries : (rules_kept (1 ∷ 65 ∷ []) ≡ true) × (rules_kept (3 ∷ 0 ∷ []) ≡ false)
unfolding rules_kept schedule_fits laid_out segment_count is_schedule
written_entries = (refl, refl)

-- A kiln still warm. The first firing from 0 to 40 °C: 570 minutes at most to 950, 546 at least, and 160 more; the longest from 0 alone,
-- which no total is above; to 22 °C at 7 °C an hour from 20 and from 21; rate 0 from 20 alone. 32: a start at the first target; rate 0 from
-- 19 on, and up to 21; ends that are crossed; ends above 1,350. 26 and 19 come before it.
warm_reports : (warm_reported bisque 0 40 ≡ record { code = 0; least = 706; greatest = 730 })
    × (warm_reported (3 ∷ 16 ∷ up_and_down 8) 0 0 ≡ record { code = 0; least = 1373984; greatest = 1373984 })
    × (warm_reported (3 ∷ 1 ∷ 0 ∷ 7 ∷ 0 ∷ 22 ∷ 0 ∷ 0 ∷ []) 20 21 ≡ record { code = 0; least = 9; greatest = 18 })
    × (warm_reported (3 ∷ 1 ∷ 0 ∷ 0 ∷ 0 ∷ 20 ∷ 0 ∷ 30 ∷ []) 20 20 ≡ record { code = 0; least = 30; greatest = 30 })
    × (warm_code bisque 949 950 ≡ 32)
    × (warm_code (3 ∷ 1 ∷ 0 ∷ 0 ∷ 0 ∷ 20 ∷ 0 ∷ 30 ∷ []) 19 20 ≡ 32)
    × (warm_code (3 ∷ 1 ∷ 0 ∷ 0 ∷ 0 ∷ 20 ∷ 0 ∷ 30 ∷ []) 20 21 ≡ 32)
    × (warm_code bisque 40 39 ≡ 32)
    × (warm_code bisque 1351 1351 ≡ 32)
    × (warm_code (3 ∷ 0 ∷ []) 40 39 ≡ 26)
    × (warm_code (2 ∷ 0 ∷ 0 ∷ 0 ∷ 7 ∷ 0 ∷ []) 40 39 ≡ 19)
unfolding warm_reported warm_code starts_fit over_starts combined_from sign_fits report_code schedule_fits laid_out segments segments_in
    segment_count segment_of segments_fit segment_fits segment_minutes rounded_up change same_sign total twos_complement number_at entry_fits
    strikes is_schedule
warm_reports = (refl, refl, refl, refl, refl, refl, refl, refl, refl, refl, refl)
