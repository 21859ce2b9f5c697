-- The pass over the windows of a week, from a minute on.
use mathlib.Core.Path.{◌≡◌, refl, sym, ◌∙◌}
use mathlib.Core.Bool.{true, false}
use mathlib.Core.List.{List, [], ◌∷◌}
use Prim.Native.Nat.{ℕ, ◌+◌, ◌-◌, ◌≤◌, ◌<◌}
use native.Mathlib.Omega.{arith}
use lib.ListN.{length}
use Rattle.sha256.proofs.Cases.{cases_lt}
use Rattle.opening_hours.specs.Opening.{week, in_windows, in_order, windows_fit, is_open, open_for, earliest}
use Rattle.opening_hours.specs.Inner.{first_closed}
use Rattle.opening_hours.proofs.InOrder.{first, end, later, WindowAt, window-at, in_order_lem, order-goes-on, inside, past, before_all}
use Rattle.opening_hours.proofs.InOrder.{FirstClosed, closed_is}
use Rattle.opening_hours.proofs.Minutes.{open_in_week, open_week-later, stretch_open, one-closed, earliest-is, earliest-none}

-- no window is left in a list of less than two numbers
none-left : (rest : List ℕ) (t : ℕ) → length rest < 2 → in_windows rest t ≡ false
unfolding in_windows
none-left [] t h = refl
none-left (x ∷ []) t h = refl
none-left (x ∷ y ∷ rest) t h = absurd (omega arith)

-- How far the pass has come, before the windows that are left: all minutes from `start` to `reach` are open, no start before `start` is left, and
-- from `reach` to the week's end the windows that are left say which minutes are open.
pub record Searched (ws : List ℕ) (minute minutes : ℕ) (rest : List ℕ) (start reach : ℕ) : Type 0 where
  pub from : minute ≤ start
  pub in_week : start < week
  pub order : start ≤ reach
  pub within : reach ≤ week
  pub opened : (t : ℕ) → start ≤ t → t < reach → is_open ws t ≡ true
  pub tried : (s : ℕ) → minute ≤ s → s < start → open_for ws minutes s ≡ false
  pub ended : ℕ
  pub behind : ended ≤ reach
  pub sorted : in_order ended rest ≡ true
  pub left : (t : ℕ) → reach ≤ t → t < week → is_open ws t ≡ in_windows rest t

module _ (ws : List ℕ) (minute minutes : ℕ) where
  pub begun : windows_fit ws ≡ true → minute < week → Searched ws minute minutes ws minute minute
  begun fit h =
      record {
        from = omega arith;
        in_week = h;
        order = omega arith;
        within = omega arith;
        opened = λ t a b. absurd (omega arith);
        tried = λ s a b. absurd (omega arith);
        ended = 0;
        behind = omega arith;
        sorted = in_order_lem ws fit;
        left = λ t a b. open_in_week ws t b;
      }

  module _ (rest : List ℕ) (start reach : ℕ) (s : Searched ws minute minutes rest start reach) where
    -- No start up to a closed minute is left, where the stretch from `start` goes past `reach`, nor one up to a minute before which
    -- all from `reach` on are closed.
    none_through : (shut bound : ℕ) → reach ≤ shut → shut < start + minutes → is_open ws shut ≡ false
        → ((t : ℕ) → shut < t → t < bound → is_open ws t ≡ false)
        → (v : ℕ) → minute ≤ v → v < bound → open_for ws minutes v ≡ false
    none_through shut bound a b e later v c d =
        cases_lt v start
        (λ l. s.tried v c l)
        (λ l.
        cases_lt shut v
        (λ m. one-closed ws minutes v (v, (omega arith, (omega (arith, s.order), later v m d))))
        (λ m. one-closed ws minutes v (shut, (m, (omega arith, e)))))

    -- what is open from `start` on is the answer
    pub starts_here : (n : ℕ) → minutes ≤ n → ((t : ℕ) → start ≤ t → t < start + n → is_open ws t ≡ true)
        → start ≡ earliest ws minutes minute (week - minute)
    starts_here n h opened =
        sym (earliest-is ws minutes (week - minute) minute start s.from (omega (arith, s.in_week))
        (stretch_open ws minutes start (λ t a b. opened t a (omega arith))) s.tried)

    pub found : minutes ≤ reach - start → start ≡ earliest ws minutes minute (week - minute)
    found h = starts_here (reach - start) h (λ t a b. s.opened t a (omega (arith, s.order)))

    -- one turn
    module _ (more : 0 < length rest) where
      pub window : WindowAt rest 0 s.ended
      window = window-at rest 0 s.ended s.sorted more

      step : (start' reach' : ℕ) → minute ≤ start' → start' < week → start' ≤ reach' → reach ≤ reach' → end rest 0 ≤ reach' → reach' ≤ week
          → ((t : ℕ) → start' ≤ t → t < reach' → is_open ws t ≡ true)
          → ((v : ℕ) → minute ≤ v → v < start' → open_for ws minutes v ≡ false)
          → Searched ws minute minutes (later rest 0) start' reach'
      step start' reach' from in_week order farther past_end within opened tried =
          record {
            from = from;
            in_week = in_week;
            order = order;
            within = within;
            opened = opened;
            tried = tried;
            ended = end rest 0;
            behind = past_end;
            sorted = window.rest;
            left = λ t a b. s.left t (omega arith) b ∙ past rest 0 t window.pair (omega arith);
          }

      -- a minute from `reach` on that lies in the window
      in_window : (t : ℕ) → reach ≤ t → first rest 0 ≤ t → t < end rest 0 → is_open ws t ≡ true
      in_window t a b c = s.left t a (omega (arith, window.within)) ∙ inside rest 0 t window.pair b c

      -- a minute between `reach` and the window
      in_gap : (t : ℕ) → reach ≤ t → t < first rest 0 → is_open ws t ≡ false
      in_gap t a b = s.left t a (omega (arith, window.some, window.within)) ∙ before_all rest (first rest 0) t sorted b
        where
          sorted : in_order (first rest 0) rest ≡ true
          sorted = order-goes-on rest 0 (first rest 0) window.pair (omega arith) window.some window.within ∙ window.rest

      pub after_gap : reach - start < minutes → reach < first rest 0 → Searched ws minute minutes (later rest 0) (first rest 0) (end rest 0)
      after_gap h g =
          let w = window in
          let o = s.order in
          step (first rest 0) (end rest 0) (omega (arith, s.from)) (omega (arith, w.some, w.within)) (omega (arith, w.some))
          (omega (arith, w.some)) (omega arith) w.within
          (λ t a b. in_window t (omega arith) a b)
          (none_through reach (first rest 0) (omega arith) (omega arith) (in_gap reach (omega arith) g) (λ t a b. in_gap t (omega arith) b))

      pub joined : first rest 0 ≤ reach → reach < end rest 0 → Searched ws minute minutes (later rest 0) start (end rest 0)
      joined h g =
          let w = window in
          let o = s.order in
          step start (end rest 0) s.from s.in_week (omega arith) (omega arith) (omega arith) w.within
          (λ t a b. cases_lt t reach (λ l. s.opened t a l) (λ l. in_window t l (omega arith) b))
          s.tried

      pub passed : end rest 0 ≤ reach → Searched ws minute minutes (later rest 0) start reach
      passed g = step start reach s.from s.in_week s.order (omega arith) g s.within s.opened s.tried

    -- after the last window
    module _ (closed : ℕ) (fit : windows_fit ws ≡ true) (is : closed ≡ first_closed 0 ws) (some : closed < week) (last : length rest < 2) where
      shut_from : (t : ℕ) → reach ≤ t → t < week → is_open ws t ≡ false
      shut_from t a b = s.left t a b ∙ none-left rest t last

      -- the first closed minute
      known : FirstClosed ws 0 closed
      known = rw is (closed_is ws 0 (omega arith) (in_order_lem ws fit))

      -- up to the next week's first closed minute all are open, where those up to the week's end are
      round_open : reach ≡ week → (t : ℕ) → start ≤ t → t < week + closed → is_open ws t ≡ true
      round_open e t a b =
          cases_lt t week
          (λ l. s.opened t a (omega arith))
          (λ l.
          let is_later : t ≡ week + (t - week) = omega arith in
          rw is_later (open_week-later ws (t - week) ∙ open_in_week ws (t - week) (omega arith)
          ∙ known.opened (t - week) (omega arith) (omega arith)))

      pub found-round : reach ≡ week → minutes ≤ reach + closed - start → start ≡ earliest ws minutes minute (week - minute)
      found-round e h = starts_here (reach + closed - start) h (λ t a b. round_open e t a (omega (arith, s.order)))

      nothing : minute ≤ week → ((v : ℕ) → minute ≤ v → v < week → open_for ws minutes v ≡ false)
          → week ≡ earliest ws minutes minute (week - minute)
      nothing m none =
          sym (earliest-none ws minutes (week - minute) minute (λ v a b. none v a (omega arith)) ∙ omega arith)

      pub none-round : reach ≡ week → reach + closed - start < minutes → week ≡ earliest ws minutes minute (week - minute)
      none-round e h =
          let o = s.order in
          nothing (omega (arith, s.from, s.in_week))
          (none_through (week + closed) week (omega arith) (omega arith)
          (open_week-later ws closed ∙ open_in_week ws closed some ∙ known.shut)
          (λ t a b. absurd (omega arith)))

      pub none_in_week : reach < week → reach - start < minutes → week ≡ earliest ws minutes minute (week - minute)
      none_in_week e h =
          let o = s.order in
          nothing (omega (arith, s.from, s.in_week))
          (none_through reach week (omega arith) (omega arith) (shut_from reach (omega arith) e) (λ t a b. shut_from t (omega arith) b))
