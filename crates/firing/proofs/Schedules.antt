-- Firings: their layout by the way through its tests, and the walk over their segments.
use mathlib.Core.Path.{◌≡◌, refl, sym, ap, ◌∙◌}
use mathlib.Core.Bool.{true, false, cond, and-eq-true_iff}
use mathlib.Core.List.{List, ◌∷◌}
use Prim.Native.Nat.{ℕ, zero, suc, ◌+◌, ◌-◌, ◌*◌, max, ◌≤◌, ◌<◌}
use native.Mathlib.Nat.{max-zero, zero-max, max-le, le-max_left, le-max_right, le_trans, le_antisymm, zero-add}
use native.Mathlib.Omega.{arith}
use lib.Dec.{eqb, leb}
use lib.ListN.{length, drop, get_or}
use lib.Seq.{drop-drop}
use borrow.Author.Tests.{le-leb, leb-true, eqb-true, ne_eqb}
use Rattle.sha256.proofs.Cases.{by_bool}
use Rattle.firing.specs.declared.segment.Segment.{Segment}
use Rattle.firing.specs.declared.schedule.Firing.{Firing}
use Rattle.firing.specs.Entry.{strikes, is_schedule, entry_fits}
use Rattle.firing.specs.Schedule.{segment_of, segments_in, segment_count, segments, laid_out, segment_fits, segments_fit, segment_minutes}
use Rattle.firing.specs.Schedule.{total, peak, start, schedule_fits, rules_kept, report_code, unreported, reported}
use Rattle.firing.proofs.Segments.{keeps_rules, segment_most}

-- the highest of three
highest : (a b c : ℕ) → max a (max b c) ≡ max (max a b) c
highest a b c =
    le_antisymm
    (max-le (le_trans (le-max_left a b) (le-max_left (max a b) c))
    (max-le (le_trans (le-max_right a b) (le-max_left (max a b) c)) (le-max_right (max a b) c)))
    (max-le (max-le (le-max_left a (max b c)) (le_trans (le-max_left b c) (le-max_right a (max b c))))
    (le_trans (le-max_right b c) (le-max_right a (max b c))))

module _ (entry : List ℕ) where
  -- what the layout says
  pub record Layout : Type 0 where
    pub is : get_or entry 0 0 ≡ 3
    pub some : 1 ≤ segment_count entry
    pub few : segment_count entry ≤ 16
    pub ends : length entry ≡ 2 + 6 * segment_count entry

  pub layout : laid_out entry ≡ true → Layout
  unfolding laid_out is_schedule
  layout e =
      let first = (and-eq-true_iff (eqb (get_or entry 0 0) 3) _).0 e in
      let some = (and-eq-true_iff (leb 1 (segment_count entry)) _).0 first.1 in
      let few = (and-eq-true_iff (leb (segment_count entry) 16) _).0 some.1 in
      record {
        is = eqb-true (get_or entry 0 0) 3 first.0;
        some = leb-true 1 (segment_count entry) some.0;
        few = leb-true (segment_count entry) 16 few.0;
        ends = eqb-true (length entry) (2 + 6 * segment_count entry) few.1;
      }

  -- the walk over the segments: so many are left, from a place and a temperature on; minutes and peak are of those behind
  pub record Walk (left at before minutes high : ℕ) : Type 0 where
    pub fits : segments_fit start (segments entry) ≡ segments_fit before (segments_in left (drop at entry))
    pub minutes_are : total start (segments entry) ≡ minutes + total before (segments_in left (drop at entry))
    pub peak-is : peak (segments entry) ≡ max high (peak (segments_in left (drop at entry)))
    pub least : 20 ≤ before
    pub most : before ≤ 1350
    pub high_most : high ≤ 1350
    pub place : at + 6 * left ≤ 98
    pub time : minutes + 85799 * left ≤ 1372784

  pub begun : (count : ℕ) → count ≡ get_or entry 1 0 → laid_out entry ≡ true → Walk count 2 20 0 0
  unfolding segments segment_count
  begun count ec laid =
      let few = (layout laid).few in
      let first = ap (λ (n : ℕ). segments_in n (drop 2 entry)) (sym ec) in
      record {
        fits = ap (segments_fit start) first;
        minutes_are = ap (total start) first ∙ sym (zero-add _);
        peak-is = ap peak first ∙ sym (zero-max _);
        least = omega arith;
        most = omega arith;
        high_most = omega arith;
        place = omega arith;
        time = omega arith;
      }

  module _ (left at before minutes high : ℕ) (w : Walk left at before minutes high) where
    -- no segment is left
    pub ended : left ≡ 0
        → (segments_fit start (segments entry) ≡ true) × (minutes ≡ total start (segments entry)) × (high ≡ peak (segments entry))
    unfolding segments_in segments_fit total peak
    ended z =
        let none = ap (λ (n : ℕ). segments_in n (drop at entry)) z in (
          w.fits ∙ rw none,
          sym (w.minutes_are ∙ rw none (omega arith)),
          sym (w.peak-is ∙ rw none (max-zero high)),
        )

    module _ (more : 0 < left) (s : Segment) (es : s ≡ segment_of (drop at entry)) where
      abbrev behind : List Segment
      behind = segments_in (left - 1) (drop (at + 6) entry)

      split : (n : ℕ) → n ≡ left → segments_in n (drop at entry) ≡ s ∷ behind
      unfolding segments_in
      split zero e = absurd (omega arith)
      split (suc n) e =
          let less : n ≡ left - 1 = omega arith in
          rw (es, less, drop-drop 6 at entry)

      next : segments_in left (drop at entry) ≡ s ∷ behind
      next = split left refl

      pub broken : segment_fits before s ≡ false → segments_fit start (segments entry) ≡ false
      unfolding segments_fit
      broken e = w.fits ∙ rw (next, e)

      module _ (e : segment_fits before s ≡ true) where
        pub minutes_most : segment_minutes before s ≤ 85799
        minutes_most = segment_most 20 before before s (omega arith) w.least w.most (keeps_rules before s e)

        pub turn : Walk (left - 1) (at + 6) s.target (minutes + segment_minutes before s) (max high s.target)
        unfolding segments_fit total peak
        turn =
            let k = keeps_rules before s e in
            let long = minutes_most in
            let time = w.time in
            let place = w.place in
            record {
              fits = w.fits ∙ rw (next, e);
              minutes_are = w.minutes_are ∙ rw next (omega arith);
              peak-is = w.peak-is ∙ rw next (highest high s.target (peak behind));
              least = k.warm;
              most = k.low;
              high_most = max-le w.high_most k.low;
              place = omega arith;
              time = omega arith;
            }

  -- what is reported, by the way through the checks
  module _ (shaped : entry_fits entry ≡ true) where
    refused_rules : schedule_fits entry ≡ false → unreported 26 ≡ reported entry
    unfolding reported report_code
    refused_rules e = rw (shaped, e)

    module _ (laid : laid_out entry ≡ true) where
      pub refused_segment : segments_fit start (segments entry) ≡ false → unreported 26 ≡ reported entry
      unfolding schedule_fits
      refused_segment e = refused_rules (rw (laid, e))

      pub runs : (minutes high : ℕ)
          → (segments_fit start (segments entry) ≡ true) × (minutes ≡ total start (segments entry)) × (high ≡ peak (segments entry))
          → record { code = 0; minutes = minutes; peak = high } ≡ reported entry
      unfolding reported report_code schedule_fits
      runs minutes high e = rw (shaped, laid, e.0, e.1, e.2)

    pub refused_layout : laid_out entry ≡ false → unreported 26 ≡ reported entry
    unfolding schedule_fits
    refused_layout e = refused_rules (rw e)

  pub refused_shape : entry_fits entry ≡ false → unreported 19 ≡ reported entry
  unfolding reported report_code
  refused_shape e = rw e

  -- the code of a report is the one that its checks give
  pub code_is : (reported entry).code ≡ report_code entry
  unfolding reported unreported
  code_is =
      let runs : Firing = record { code = 0; minutes = total start (segments entry); peak = peak (segments entry) } in
      by_bool (λ t. (cond t runs (unreported (report_code entry))).code ≡ report_code entry) (eqb (report_code entry) 0)
      (λ e. sym (eqb-true (report_code entry) 0 e))
      (λ e. refl)

  -- a schedule that keeps the rules has 19's shape: it has 8 to 98 bytes
  pub schedule-shaped : schedule_fits entry ≡ true → entry_fits entry ≡ true
  unfolding schedule_fits entry_fits is_schedule strikes
  schedule-shaped e =
      let laid = layout ((and-eq-true_iff (laid_out entry) _).0 e).0 in
      let few = laid.few in
      let ends = laid.ends in
      rw (le-leb 1 (length entry) (omega arith), le-leb (length entry) 1024 (omega arith), laid.is)

  -- a report has code 0 exactly for a schedule that keeps the rules
  pub code-none : eqb (report_code entry) 0 ≡ schedule_fits entry
  unfolding report_code
  code-none =
      by_bool (λ t. eqb (cond (entry_fits entry) (cond t 0 26) 19) 0 ≡ t) (schedule_fits entry)
      (λ e. rw (schedule-shaped e))
      (λ e. by_bool (λ t. eqb (cond t 26 19) 0 ≡ false) (entry_fits entry) (λ _. refl) (λ _. refl))

  -- 26 of a Write
  module _ (first : ℕ) (ef : first ≡ get_or entry 0 0) where
    pub no_schedule : (first ≡ 3 → ⊥) → true ≡ rules_kept entry
    unfolding rules_kept is_schedule
    no_schedule n = rw (← ef, ne_eqb first 3 n)

    pub report_decides : first ≡ 3 → eqb (reported entry).code 0 ≡ rules_kept entry
    unfolding rules_kept is_schedule
    report_decides e = rw (← ef, e, code_is) code-none
