-- Which bytes are a schedule that keeps the rules, both ways: its segments by their numbers, the first one 0; and the bytes of numbers.
use mathlib.Core.Path.{◌≡◌, refl, sym, ap, subst, ◌∙◌}
use mathlib.Core.Logic.{◌↔◌}
use mathlib.Core.Bool.{Bool, true, false, and-eq-true_iff, or-true}
use mathlib.Core.List.{List, [], ◌∷◌, ◌++◌}
use Prim.Native.Nat.{ℕ, zero, suc, ◌+◌, ◌-◌, ◌*◌, ◌≤◌, ◌<◌}
use native.Mathlib.Omega.{arith}
use lib.Dec.{T, leb, ltb, ltb→lt, lt→ltb}
use lib.IntN.{ℤ, pos, negsuc, nat_abs}
use lib.ListN.{length, drop, get_or, length-append}
use lib.Seq.{drop-drop, drop_at}
use lib.Signed.{lt_z, ◌<ℤ◌}
use borrow.Author.Tests.{lt-ltb, le-ltb, le-leb, eq-eqb, leb-true, eqb-true}
use Rattle.sha256.specs.Bytes.{be, number_at}
use Rattle.sha256.proofs.Cases.{cases_lt}
use Rattle.sha256.proofs.Laws.{be-length, number-be}
use Rattle.sha256.proofs.Words.{number-drop}
use Rattle.firing.specs.declared.segment.Segment.{Segment}
use Rattle.firing.specs.Schedule.{twos_complement, segment_of, segments_in, segment_count, segments, laid_out, sign_fits, segment_fits}
use Rattle.firing.specs.Schedule.{segments_fit, start, schedule_fits, report_code}
use Rattle.firing.specs.Entry.{is_schedule}
use Rattle.firing.specs.Claims.{SegmentKeepsRules, segment_at, reached_at, ScheduleKeepsRules, SchedulesFit, SchedulesReported}
use Rattle.firing.specs.Claims.{rate_bits, segments_laid, schedule_laid, AllKeepRules, NumbersFit}
use Rattle.firing.proofs.Signed.{lowered}
use Rattle.firing.proofs.Segments.{keeps_rules}
use Rattle.firing.proofs.Schedules.{layout, code-none}
use Rattle.firing.proofs.Firings.{rate_signs}
use Rattle.firing.proofs.Starts.{sign_tests}

-- a test of signed numbers that answers as a test of numbers
same_order : (a b : ℤ) (x y : ℕ) → lt_z a b ≡ ltb x y → (a <ℤ b) ↔ (x < y)
same_order a b x y e = (λ h. ltb→lt x y (subst T e h.lt), λ h. record { lt = subst T (sym e) (lt→ltb x y h) })

passes : (b : Bool) → T b → b ≡ true
passes true h = refl
passes false h = absurd h

none_is_zero : (z : ℤ) → nat_abs z ≡ 0 → z ≡ pos 0
none_is_zero (pos n) e = ap pos e
none_is_zero (negsuc n) e = absurd (omega arith)

-- a segment
module _ (before : ℕ) (s : Segment) where
  segment_kept : segment_fits before s ≡ true → SegmentKeepsRules before s
  unfolding segment_fits
  segment_kept e =
      let k = keeps_rules before s e in
      let signs = rate_signs before s k.sign in
      record {
        rate = leb-true (nat_abs s.rate) 600 ((and-eq-true_iff (leb (nat_abs s.rate) 600) _).0 e).0;
        least = k.warm;
        most = k.low;
        hold = k.short;
        cools = same_order s.rate (pos 0) s.target before signs.0;
        heats = same_order (pos 0) s.rate before s.target signs.1;
        stays = (
          λ z. eqb-true s.target before (sym signs.2 ∙ eq-eqb (nat_abs s.rate) 0 (ap nat_abs z)),
          λ t. none_is_zero s.rate (eqb-true (nat_abs s.rate) 0 (signs.2 ∙ eq-eqb s.target before t)),
        );
      }

  -- the sign is judged by which of target and temperature is the greater
  sign_kept : SegmentKeepsRules before s → sign_fits before s ≡ true
  sign_kept k =
      sign_tests before s
      ∙ cases_lt s.target before
      (λ h. rw (passes (lt_z s.rate (pos 0)) (k.cools.1 h).lt, lt-ltb s.target before h))
      (λ h.
      cases_lt before s.target
      (λ g. rw (passes (lt_z (pos 0) s.rate) (k.heats.1 g).lt, lt-ltb before s.target g) (simp or-true))
      (λ g.
      let same : s.target ≡ before = omega arith in
      let none = ap nat_abs (k.stays.1 same) in
      rw (eq-eqb (nat_abs s.rate) 0 none, eq-eqb s.target before same) (simp or-true)))

  kept_segment : SegmentKeepsRules before s → segment_fits before s ≡ true
  unfolding segment_fits
  kept_segment k =
      rw (
        le-leb (nat_abs s.rate) 600 k.rate,
        le-leb 20 s.target k.least,
        le-leb s.target 1350 k.most,
        le-leb s.hold 5999 k.hold,
      )
      (sign_kept k)

none_left : (before : ℕ) (s : List ℕ) → segments_fit before (segments_in 0 s) ≡ true
unfolding segments_fit segments_in
none_left before s = refl

-- the segments of an entry, from segment k on
module _ (entry : List ℕ) where
  abbrev from : ℕ → ℕ → List Segment
  from left k = segments_in left (drop (2 + 6 * k) entry)

  next : (left k : ℕ) → from (suc left) k ≡ segment_at entry k ∷ from left (suc k)
  unfolding segments_in
  next left k =
      let place : 2 + 6 * k + 6 ≡ 2 + 6 * suc k = omega arith in
      rw (drop-drop 6 (2 + 6 * k) entry, place)

  module _ (count : ℕ) where
    each_left : segments_fit (reached_at entry 0) (from count 0) ≡ true → (k left : ℕ) → k + left ≡ count
        → segments_fit (reached_at entry k) (from left k) ≡ true
    unfolding segments_fit
    each_left e zero left h = let all : count ≡ left = omega arith in rw all at e
    each_left e (suc k) left h =
        let here = each_left e k (suc left) (omega arith) in
        ((and-eq-true_iff (segment_fits (reached_at entry k) (segment_at entry k)) _).0 (rw (next left k) at here)).1

    each-kept : segments_fit (reached_at entry 0) (from count 0) ≡ true → (k : ℕ) → k < count
        → SegmentKeepsRules (reached_at entry k) (segment_at entry k)
    unfolding segments_fit
    each-kept e k h =
        let here = each_left e k (suc (count - suc k)) (omega arith) in
        segment_kept (reached_at entry k) (segment_at entry k)
        ((and-eq-true_iff (segment_fits (reached_at entry k) (segment_at entry k)) _).0 (rw (next (count - suc k) k) at here)).0

    all_fit : ((k : ℕ) → k < count → SegmentKeepsRules (reached_at entry k) (segment_at entry k)) → (left k : ℕ) → k + left ≡ count
        → segments_fit (reached_at entry k) (from left k) ≡ true
    unfolding segments_fit
    all_fit each zero k h = none_left (reached_at entry k) (drop (2 + 6 * k) entry)
    all_fit each (suc left) k h =
        rw (
          next left k,
          kept_segment (reached_at entry k) (segment_at entry k) (each k (omega arith)),
        )
        (all_fit each left (suc k) (omega arith))

schedule-kept : (entry : List ℕ) → schedule_fits entry ≡ true → ScheduleKeepsRules entry
unfolding schedule_fits segments segment_count
schedule-kept entry e =
    let both = (and-eq-true_iff (laid_out entry) _).0 e in
    let laid = layout entry both.0 in
    record {
      first = laid.is;
      count = get_or entry 1 0;
      counted = refl;
      least = laid.some;
      most = laid.few;
      whole = laid.ends;
      each = each-kept entry (get_or entry 1 0) both.1;
    }

kept-laid : (entry : List ℕ) → ScheduleKeepsRules entry → laid_out entry ≡ true
unfolding laid_out is_schedule segment_count
kept-laid entry k =
    let whole = k.whole in
    rw (
      k.first,
      k.counted,
      le-leb 1 k.count k.least,
      le-leb k.count 16 k.most,
      eq-eqb (length entry) (2 + 6 * k.count) whole,
    )

kept-schedule : (entry : List ℕ) → ScheduleKeepsRules entry → schedule_fits entry ≡ true
unfolding schedule_fits segments segment_count
kept-schedule entry k = rw (kept-laid entry k, k.counted) (all_fit entry k.count k.each k.count 0 (omega arith))

pub schedules_fit : SchedulesFit
unfolding SchedulesFit
schedules_fit entry = (schedule-kept entry, kept-schedule entry)

pub schedules_reported : SchedulesReported
unfolding SchedulesReported
schedules_reported entry = (
  λ z. schedule-kept entry (sym (code-none entry) ∙ eq-eqb (report_code entry) 0 z),
  λ k. eqb-true (report_code entry) 0 (code-none entry ∙ kept-schedule entry k),
)

-- the bytes of a rate, read
bits_read : (z : ℤ) → nat_abs z ≤ 600 → (rate_bits z < 65536) × (twos_complement (rate_bits z) ≡ z)
unfolding rate_bits twos_complement
bits_read (pos n) h = (omega arith, rw (lt-ltb n 32768 (omega arith)))
bits_read (negsuc n) h =
    let back : 65535 - (65535 - n) ≡ n = omega arith in
    (omega arith, rw (le-ltb (65535 - n) 32768 (omega arith)) (lowered (65535 - n) (omega arith) (omega arith) ∙ ap negsuc back))

-- the bytes of a segment, read, and what stands behind them
module _ (before : ℕ) (s : Segment) (k : SegmentKeepsRules before s) (behind : List ℕ) where
  abbrev laid : List ℕ
  laid = be 2 (rate_bits s.rate) ++ (be 2 s.target ++ (be 2 s.hold ++ behind))

  from-target : drop 2 laid ≡ be 2 s.target ++ (be 2 s.hold ++ behind)
  from-target = drop_at (be 2 (rate_bits s.rate)) _ 2 (be-length 2 (rate_bits s.rate))

  from-hold : drop 4 laid ≡ be 2 s.hold ++ behind
  from-hold =
      sym (drop-drop 2 2 laid) ∙ ap (drop 2) from-target ∙ drop_at (be 2 s.target) _ 2 (be-length 2 s.target)

  from-behind : drop 6 laid ≡ behind
  from-behind = sym (drop-drop 2 4 laid) ∙ ap (drop 2) from-hold ∙ drop_at (be 2 s.hold) _ 2 (be-length 2 s.hold)

  number_there : (at x : ℕ) (rest : List ℕ) → drop at laid ≡ be 2 x ++ rest → x < 65536 → number_at 2 laid at ≡ x
  number_there at x rest e h =
      let place : at + 0 ≡ at = omega arith in
      ap (number_at 2 laid) (sym place) ∙ sym (number-drop 2 laid at 0) ∙ ap (λ (y : List ℕ). number_at 2 y 0) e ∙ number-be 2 x rest h

  segment_read : segment_of laid ≡ s
  unfolding segment_of
  segment_read =
      let bits = bits_read s.rate k.rate in
      let most = k.most in
      let hold = k.hold in
      rw (
        number-be 2 (rate_bits s.rate) (be 2 s.target ++ (be 2 s.hold ++ behind)) bits.0,
        bits.1,
        number_there 2 s.target (be 2 s.hold ++ behind) from-target (omega arith),
        number_there 4 s.hold behind from-hold (omega arith),
      )

segments-read : (before : ℕ) (xs : List Segment) → AllKeepRules before xs → segments_in (length xs) (segments_laid xs) ≡ xs
unfolding AllKeepRules segments_in segments_laid
segments-read before [] k = refl
segments-read before (x ∷ xs) k =
    rw (segment_read before x k.0 (segments_laid xs), from-behind before x k.0 (segments_laid xs), segments-read x.target xs k.1)

segments_long : (xs : List Segment) → length (segments_laid xs) ≡ 6 * length xs
unfolding segments_laid
segments_long [] = refl
segments_long (x ∷ xs) =
    simp length-append
    (omega (arith, be-length 2 (rate_bits x.rate), be-length 2 x.target, be-length 2 x.hold, segments_long xs))

all_kept_fit : (before : ℕ) (xs : List Segment) → AllKeepRules before xs → segments_fit before xs ≡ true
unfolding AllKeepRules segments_fit
all_kept_fit before [] k = refl
all_kept_fit before (x ∷ xs) k = rw (kept_segment before x k.0) (all_kept_fit x.target xs k.1)

pub numbers_fit : NumbersFit
unfolding NumbersFit schedule_laid segments segment_count schedule_fits laid_out is_schedule
numbers_fit xs least most k =
    let read = segments-read start xs k in
    let long : suc (suc (length (segments_laid xs))) ≡ 2 + 6 * length xs = omega (arith, segments_long xs) in
    let whole = eq-eqb (suc (suc (length (segments_laid xs)))) (2 + 6 * length xs) long in (
      schedule-kept (schedule_laid xs)
          (rw (le-leb 1 (length xs) least, le-leb (length xs) 16 most, whole, read, all_kept_fit start xs k)),
      read,
    )
