-- The earliest start: each of its answers by what holds then.
use mathlib.Core.Path.{◌≡◌, refl, ◌∙◌}
use mathlib.Core.Bool.{true, false, cond, ◌&&◌}
use mathlib.Core.List.{List}
use Prim.Native.Nat.{ℕ, ◌+◌, ◌-◌, ◌≤◌, ◌<◌}
use native.Mathlib.Omega.{arith}
use lib.Dec.{eqb, ltb}
use borrow.Author.Tests.{lt-ltb, le-ltb, eq-eqb, ne_eqb}
use Rattle.sha256.proofs.Cases.{by_bool, cases_lt}
use Rattle.firing.specs.Schedule.{reported}
use Rattle.opening_hours.specs.declared.opening.Start.{Start}
use Rattle.opening_hours.specs.Opening.{week, windows_fit, open_for, earliest, earliest_start}
use Rattle.opening_hours.specs.Opening.{opening_code, no_start, opening, schedule_opening}
use Rattle.opening_hours.specs.Inner.{first_closed}
use Rattle.opening_hours.proofs.InOrder.{closed_is, in_order_lem}
use Rattle.opening_hours.proofs.Minutes.{always_open, stretch_open, stretch_week-later}
use Rattle.opening_hours.proofs.Minutes.{earliest-is, earliest-none, Earliest, earliest-found}

abbrev pub at_start : ℕ → Start
at_start u = record { code = 0; start = u }

module _ (ws : List ℕ) (m n : ℕ) where
  -- 33
  inputs_refused : ltb m week && windows_fit ws ≡ false → opening ws m n ≡ no_start 33
  unfolding opening opening_code
  inputs_refused e = rw e

  pub minute_refused : week ≤ m → opening ws m n ≡ no_start 33
  minute_refused h = inputs_refused (rw (le-ltb m week h))

  module _ (minute : m < week) where
    pub windows_refused : windows_fit ws ≡ false → opening ws m n ≡ no_start 33
    windows_refused e = inputs_refused (rw (lt-ltb m week minute, e))

    module _ (fit : windows_fit ws ≡ true) where
      -- what the earliest start decides
      judged : opening ws m n ≡ cond (ltb (earliest_start ws m n) (m + week)) (at_start (earliest_start ws m n)) (no_start 34)
      unfolding opening opening_code
      judged =
          rw (lt-ltb m week minute, fit) (by_bool
          (λ b. cond (eqb (cond b 0 34) 0) (at_start (earliest_start ws m n)) (no_start (cond b 0 34))
          ≡ cond b (at_start (earliest_start ws m n)) (no_start 34))
          (ltb (earliest_start ws m n) (m + week)) (λ _. refl) (λ _. refl))

      pub either : {C : Type 0}
          → (earliest_start ws m n < m + week → opening ws m n ≡ at_start (earliest_start ws m n) → C)
          → (m + week ≤ earliest_start ws m n → opening ws m n ≡ no_start 34 → C) → C
      either found none =
          cases_lt (earliest_start ws m n) (m + week)
          (λ l. found l (judged ∙ rw (lt-ltb (earliest_start ws m n) (m + week) l)))
          (λ l. none l (judged ∙ rw (le-ltb (earliest_start ws m n) (m + week) l)))

      pub begins-at : (u : ℕ) → m ≤ u → u < m + week → open_for ws n u ≡ true
          → ((v : ℕ) → m ≤ v → v < u → open_for ws n v ≡ false) → opening ws m n ≡ at_start u
      unfolding earliest_start
      begins-at u a b e none = judged ∙ rw (earliest-is ws n week m u a b e none, lt-ltb u (m + week) b)

      pub none-begins : ((v : ℕ) → m ≤ v → v < m + week → open_for ws n v ≡ false) → opening ws m n ≡ no_start 34
      unfolding earliest_start
      none-begins none = judged ∙ rw (earliest-none ws n week m none, le-ltb (m + week) (m + week) (omega arith))

      pub begins-at_once : open_for ws n m ≡ true → opening ws m n ≡ at_start m
      begins-at_once e = begins-at m (omega arith) (omega arith) e (λ v a b. absurd (omega arith))

      -- windows that cover the week
      pub week_covered : first_closed 0 ws ≡ week → opening ws m n ≡ at_start m
      week_covered e =
          let known = closed_is ws 0 (omega arith) (in_order_lem ws fit) in
          let always = always_open ws (λ t h. known.opened t (omega arith) (omega arith)) in
          begins-at_once (stretch_open ws n m (λ t a b. always t))

      -- from the minute to the week's end, and then from the next week's beginning
      module _ (here : ℕ) (is : here ≡ earliest ws n m (week - m)) where
        first-week : Earliest ws n (week - m) m here
        first-week = rw is (earliest-found ws n (week - m) m)

        pub in_first-week : here < week → opening ws m n ≡ at_start here
        in_first-week h =
            let e = first-week in
            begins-at here e.from (omega arith) (e.opened (omega arith)) e.before

        module _ (none : week ≤ here) (next : ℕ) (next-is : next ≡ earliest ws n 0 week) where
          second-week : Earliest ws n week 0 next
          second-week = rw next-is (earliest-found ws n week 0)

          -- no start before the one that was found in the next week, up to a bound
          before-next : (bound : ℕ) → bound ≤ week + next → (v : ℕ) → m ≤ v → v < bound → open_for ws n v ≡ false
          before-next bound b v a l =
              cases_lt v week
              (λ h. first-week.before v a (omega arith))
              (λ h.
              let later : v ≡ week + (v - week) = omega arith in
              rw later (stretch_week-later ws n (v - week) ∙ second-week.before (v - week) (omega arith) (omega arith)))

          pub in_second-week : next < m → opening ws m n ≡ at_start (week + next)
          in_second-week h =
              begins-at (week + next) (omega arith) (omega arith)
              (stretch_week-later ws n next ∙ second-week.opened (omega arith)) (before-next (week + next) (omega arith))

          pub in_neither_week : m ≤ next → opening ws m n ≡ no_start 34
          in_neither_week h = none-begins (before-next (m + week) (omega arith))

-- for a schedule
module _ (entry ws : List ℕ) (m : ℕ) where
  pub report_refused : ((reported entry).code ≡ 0 → ⊥) → schedule_opening entry ws m ≡ no_start (reported entry).code
  unfolding schedule_opening
  report_refused n = rw (ne_eqb (reported entry).code 0 n)

  pub total-begins : (reported entry).code ≡ 0 → schedule_opening entry ws m ≡ opening ws m (reported entry).minutes
  unfolding schedule_opening
  total-begins e = rw (eq-eqb (reported entry).code 0 e)
