-- Document 02, i: "Kiln still warm". The words in quotes are its own.
use Rattle.std.specs.Prelude.{Bool, cond, ◌&&◌, List, ℕ, zero, suc, ◌-◌, min, max, eqb, leb, drop}
use Rattle.firing.specs.declared.segment.Segment.{Segment}
use Rattle.firing.specs.declared.warm.Totals.{Totals}
use Rattle.firing.specs.Schedule.{segment_of, segments, sign_fits, total, report_code}

-- What a start and so many whole starts after it give, combined.
unfoldable pub combined_from : {A : Type 0} → (A → A → A) → (ℕ → A) → ℕ → ℕ → A
combined_from combine f a zero = f a
combined_from combine f a (suc n) = combine (f a) (combined_from combine f (suc a) n)

-- "its start lies somewhere from a to b °C": what all whole starts in the range give, combined.
unfoldable pub over_starts : {A : Type 0} → (A → A → A) → (ℕ → A) → ℕ → ℕ → A
over_starts combine f a b = combined_from combine f a (b - a)

-- "Ends lie in 0..1,350." "32, a above b, an end out of range, or a start in the range for which the first rate breaks the sign rule, its
-- case of 0 included": whether a range is none of these.
unfoldable pub starts_fit : Segment → ℕ → ℕ → Bool
starts_fit first a b = leb a b && (leb a 1350 && (leb b 1350 && over_starts ◌&&◌ (λ s. sign_fits s first) a b))

-- 32 comes "after 26, still judged from 20"; 19 and 26 are those of the schedule's report. The first segment stands after two bytes.
unfoldable pub warm_code : List ℕ → ℕ → ℕ → ℕ
warm_code entry a b = cond (eqb (report_code entry) 0) (cond (starts_fit (segment_of (drop 2 entry)) a b) 0 32) (report_code entry)

-- With a refusal, both are 0.
unfoldable pub warm_unreported : ℕ → Totals
warm_unreported code = record { code = code; least = 0; greatest = 0 }

-- "report the least and the greatest total time"
unfoldable pub warm_reported : List ℕ → ℕ → ℕ → Totals
warm_reported entry a b = let least = over_starts min (λ s. total s (segments entry)) a b in
    let greatest = over_starts max (λ s. total s (segments entry)) a b in
    cond (eqb (warm_code entry a b) 0) (record { code = 0; least = least; greatest = greatest }) (warm_unreported (warm_code entry a b))
