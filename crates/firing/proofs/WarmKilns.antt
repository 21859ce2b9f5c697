-- A kiln still warm: what is reported, by the way through the checks, and the laws of it.
use mathlib.Core.Path.{◌≡◌, refl, sym, ap, subst, ◌∙◌}
use mathlib.Core.Bool.{true, false, and-eq-true_iff}
use mathlib.Core.List.{List, ◌∷◌}
use Prim.Native.Nat.{ℕ, zero, suc, ◌+◌, ◌-◌, ◌*◌, min, max, ◌≤◌}
use native.Mathlib.Nat.{le_antisymm}
use native.Mathlib.Omega.{arith}
use lib.ListN.{drop}
use borrow.Author.Tests.{ltb-false, le-ltb, ne_eqb, eqb-true}
use Rattle.firing.specs.declared.segment.Segment.{Segment}
use Rattle.firing.specs.declared.schedule.Firing.{Firing}
use Rattle.firing.specs.Schedule.{segment_of, segments_in, segment_count, segments, laid_out, sign_fits, segment_fits, segments_fit}
use Rattle.firing.specs.Schedule.{segment_minutes, total, start, schedule_fits, report_code, reported}
use Rattle.firing.specs.Warm.{over_starts, starts_fit, warm_code, warm_unreported, warm_reported}
use Rattle.firing.proofs.Segments.{KeepsRules, keeps_rules, segment_most}
use Rattle.firing.proofs.Schedules.{layout, code-none}
use Rattle.firing.proofs.Firings.{rate_signs, total-most, segments-counted, report_runs}
use Rattle.firing.proofs.Starts.{starts_fit_lem, fitting-starts, total_heating, least-reached, greatest_reached, least_below}
use Rattle.firing.proofs.Starts.{greatest_above}

module _ (entry : List ℕ) where
  abbrev pub first : Segment
  first = segment_of (drop 2 entry)

  abbrev pub later : List Segment
  later = segments_in (segment_count entry - 1) (drop 6 (drop 2 entry))

  abbrev total_from : ℕ → ℕ
  total_from t = total t (segments entry)

  -- The segment whose sign is judged is the first one of the schedule.
  pub first_segment : laid_out entry ≡ true → segments entry ≡ first ∷ later
  unfolding segments segments_in
  first_segment e = split (segment_count entry) refl (layout entry e).some
    where
      split : (n : ℕ) → n ≡ segment_count entry → 1 ≤ n → segments_in n (drop 2 entry) ≡ first ∷ later
      split zero e h = absurd (omega arith)
      split (suc n) e h =
          let less : n ≡ segment_count entry - 1 = omega arith in
          ap (λ (k : ℕ). first ∷ segments_in k (drop 6 (drop 2 entry))) less

  -- a schedule that keeps the rules from 20: its first segment and those after it
  record Begins : Type 0 where
    split : segments entry ≡ first ∷ later
    keeps : KeepsRules start first
    later-most : total first.target later ≤ 85799 * 15

  begins : schedule_fits entry ≡ true → Begins
  unfolding schedule_fits segments_fit
  begins e =
      let both = (and-eq-true_iff (laid_out entry) _).0 e in
      let is = first_segment both.0 in
      let few = (layout entry both.0).few in
      let fit = (and-eq-true_iff (segment_fits start first) _).0 (subst (λ xs. segments_fit start xs ≡ true) is both.1) in
      let keeps = keeps_rules start first fit.0 in
      let most = total-most first.target later keeps.warm keeps.low fit.1 in
      let count = segments-counted (segment_count entry - 1) (drop 6 (drop 2 entry)) in
      record {
        split = is;
        keeps = keeps;
        later-most = omega arith;
      }

  -- An entry that its report from 20 refuses is refused with the same code, whatever the range.
  pub warm_entry-refused : (a b : ℕ) → (report_code entry ≡ 0 → ⊥) → warm_reported entry a b ≡ warm_unreported (report_code entry)
  unfolding warm_reported warm_code
  warm_entry-refused a b n = rw (ne_eqb (report_code entry) 0 n, ne_eqb (report_code entry) 0 n)

  pub fits_of : report_code entry ≡ 0 → schedule_fits entry ≡ true
  fits_of e = sym (code-none entry) ∙ rw e

  module _ (a b : ℕ) (fits : schedule_fits entry ≡ true) where
    code-is-none : report_code entry ≡ 0
    code-is-none = eqb-true (report_code entry) 0 (code-none entry ∙ fits)

    -- A range that does not fit is refused.
    pub warm_range_refused : starts_fit first a b ≡ false → warm_reported entry a b ≡ warm_unreported 32
    unfolding warm_reported warm_code
    warm_range_refused e = rw (code-is-none, e)

    module _ (in_range_lem : starts_fit first a b ≡ true) where
      order : a ≤ b
      order = (starts_fit_lem first a b in_range_lem).order

      -- what keeps the rules from 20 begins with no cooling, so no start in the range is above the first target
      heats : b ≤ first.target
      heats =
          let g = (begins fits).keeps in
          let cold = (rate_signs start first g.sign).0 ∙ le-ltb first.target start g.warm in
          let warm = (rate_signs b first ((starts_fit_lem first a b in_range_lem).sign b order (omega arith))).0 in
          ltb-false first.target b (sym warm ∙ cold)

      -- so the total does not rise with the start: the least is that of the upper end, and the greatest that of the lower
      falls : (t u : ℕ) → t ≤ u → u ≤ b → total_from u ≤ total_from t
      falls t u l m = let h = heats in rw (begins fits).split (total_heating first later t u l (omega arith))

      least-is : over_starts min total_from a b ≡ total_from b
      least-is =
          let r = least-reached a b order total_from in
          le_antisymm (least_below a b order total_from b order (omega arith))
          (subst (λ (n : ℕ). total_from b ≤ n) (sym r.1.1.1) (falls r.0 b r.1.1.0 (omega arith)))

      greatest_is : over_starts max total_from a b ≡ total_from a
      greatest_is =
          let r = greatest_reached a b order total_from in
          le_antisymm (subst (λ (n : ℕ). n ≤ total_from a) (sym r.1.1.1) (falls a r.0 r.1.0 r.1.1.0))
          (greatest_above a b order total_from a (omega arith) order)

      -- what a function needs of them: the times of the first segment and of those after it
      pub record Times : Type 0 where
        pub lower-end : a ≤ 1350
        pub upper-end : b ≤ 1350
        pub whole : (reported entry).minutes ≡ segment_minutes start first + total first.target later
        pub later-most : total first.target later ≤ 85799 * 15
        pub first-most : (t : ℕ) → t ≤ 1350 → segment_minutes t first ≤ 86999

      pub times : Times
      unfolding total
      times =
          let g = begins fits in
          let f = starts_fit_lem first a b in_range_lem in
          record {
            lower-end = f.lower;
            upper-end = f.upper;
            whole = ap (λ (x : Firing). x.minutes) (report_runs entry fits) ∙ rw g.split;
            later-most = g.later-most;
            first-most = λ t h. segment_most 0 t start first (omega arith) (omega arith) h g.keeps;
          }

      -- A schedule that keeps the rules from 20 and a range that fits: code 0, the total from the upper end and that from the lower.
      pub warm_runs : warm_reported entry a b ≡ record { code = 0; least = total_from b; greatest = total_from a }
      unfolding warm_reported warm_code
      warm_runs = rw (code-is-none, in_range_lem, least-is, greatest_is)

      pub warm_found : (least greatest : ℕ) → least ≡ segment_minutes b first + total first.target later
          → greatest ≡ segment_minutes a first + total first.target later
          → record { code = 0; least = least; greatest = greatest } ≡ warm_reported entry a b
      unfolding total
      warm_found least greatest el eg =
          let split = sym (begins fits).split in
          rw (el ∙ ap (total b) split, eg ∙ ap (total a) split) (sym warm_runs)

      -- Both are reached by a start in the range, and no start in it lies outside them.
      pub warm_reached : ((t : ℕ) × ((a ≤ t) × ((t ≤ b) × (total_from t ≡ (warm_reported entry a b).least))))
          × ((t : ℕ) × ((a ≤ t) × ((t ≤ b) × (total_from t ≡ (warm_reported entry a b).greatest))))
      warm_reached = let h = order in rw warm_runs ((b, (h, (omega arith, refl))), (a, (omega arith, (h, refl))))

      pub warm_between : (t : ℕ) → a ≤ t → t ≤ b
          → ((warm_reported entry a b).least ≤ total_from t) × (total_from t ≤ (warm_reported entry a b).greatest)
      warm_between t l m = rw warm_runs (falls t b m (omega arith), falls a t l m)

      -- No total is above that of 16 segments at 1 °C an hour with the longest hold, the first of them from 0. Examples has one.
      pub warm_most : (warm_reported entry a b).greatest ≤ 1373984
      unfolding total
      warm_most =
          let m = times in
          let lower = m.first-most a m.lower-end in
          let most = m.later-most in
          rw (warm_runs, (begins fits).split) (omega arith)

  -- From 20 alone, both are the total that the schedule's report has.
  pub warm_cold : schedule_fits entry ≡ true
      → warm_reported entry start start ≡ record { code = 0; least = (reported entry).minutes; greatest = (reported entry).minutes }
  warm_cold fits =
      let k = (begins fits).keeps in
      let in_range_lem = fitting-starts first start start (record {
        order = omega arith;
        lower = omega arith;
        upper = omega arith;
        sign = λ t l m. let is : start ≡ t = omega arith in subst (λ (n : ℕ). sign_fits n first ≡ true) is k.sign;
      }) in
      warm_runs start start fits in_range_lem ∙ rw (report_runs entry fits)
