-- Windows in order: the one at a place of the list, the minutes before them, and the first closed minute.
use mathlib.Core.Path.{◌≡◌, refl, sym, ap, ◌∙◌}
use Rattle.std.specs.Bool.{◌==◌}
use mathlib.Core.Bool.{true, false, cond, not, ◌&&◌, and-false, and-eq-true_iff, false≢true}
use mathlib.Core.List.{List, [], ◌∷◌}
use Prim.Native.Nat.{ℕ, suc, ◌+◌, ◌-◌, ◌≤◌, ◌<◌}
use native.Mathlib.Omega.{arith}
use lib.Dec.{eqb, leb, ltb}
use lib.ListN.{length, take, drop, get_or, drop_of_length-le, length-drop}
use lib.Seq.{drop-cons, take_all}
use borrow.Author.Tests.{lt-ltb, le-ltb, lt-leb, le-leb, eq-eqb, ne_eqb, eqb-true, eqb-false}
use Rattle.sha256.proofs.Cases.{by_bool, cases_lt}
use Rattle.opening_hours.specs.Opening.{week, in_windows, in_order, windows_fit}
use Rattle.opening_hours.specs.Inner.{first_closed}

-- The list of windows from a place on, where two numbers stand.
pub two_at : (ws : List ℕ) (at : ℕ) → at + 2 ≤ length ws → drop at ws ≡ get_or ws at 0 ∷ get_or ws (at + 1) 0 ∷ drop (at + 2) ws
two_at ws at h =
    let one : suc at ≡ at + 1 = omega arith in
    let two : suc (at + 1) ≡ at + 2 = omega arith in
    let second : drop (suc at) ws ≡ get_or ws (at + 1) 0 ∷ drop (at + 2) ws = rw (one, ← two) (drop-cons ws (at + 1) 0 (omega arith)) in
    drop-cons ws at 0 (omega arith) ∙ ap (λ (r : List ℕ). get_or ws at 0 ∷ r) second

-- where one number is left
pub one_at : (ws : List ℕ) (at : ℕ) → at < length ws → length ws < at + 2 → drop at ws ≡ get_or ws at 0 ∷ []
one_at ws at h l = drop-cons ws at 0 h ∙ ap (λ (r : List ℕ). get_or ws at 0 ∷ r) (drop_of_length-le ws {i = suc at} (omega arith))

-- the list behind its first window
pub behind-first : (ws : List ℕ) → take (length ws - 2) (drop 2 ws) ≡ drop 2 ws
behind-first ws = take_all (length ws - 2) (drop 2 ws) (omega (arith, length-drop 2 ws))

-- the window at a place
module _ (ws : List ℕ) (at : ℕ) where
  abbrev pub first : ℕ
  first = get_or ws at 0

  abbrev pub end : ℕ
  end = get_or ws (at + 1) 0

  abbrev pub later : List ℕ
  later = drop (at + 2) ws

-- What is known of the window at a place of windows that are in order.
pub record WindowAt (ws : List ℕ) (at after : ℕ) : Type 0 where
  pub pair : at + 2 ≤ length ws
  pub order : after ≤ first ws at
  pub some : first ws at < end ws at
  pub within : end ws at ≤ week
  pub rest : in_order (end ws at) (later ws at) ≡ true

order_by_tests : (first end : ℕ) (rest : List ℕ) (after : ℕ) → after ≤ first → first < end → end ≤ week
    → in_order after (first ∷ end ∷ rest) ≡ in_order end rest
unfolding in_order
order_by_tests first end rest after a b c = rw (le-leb after first a, lt-ltb first end b, le-leb end week c)

-- one turn of the check
module _ (ws : List ℕ) (at after : ℕ) where
  pub half-window : at < length ws → length ws < at + 2 → in_order after (drop at ws) ≡ false
  unfolding in_order
  half-window h l = rw (one_at ws at h l)

  pub order-ended : length ws ≤ at → in_order after (drop at ws) ≡ true
  unfolding in_order
  order-ended h = rw (drop_of_length-le ws {i = at} h)

  module _ (pair : at + 2 ≤ length ws) where
    pub overlaps : first ws at < after → in_order after (drop at ws) ≡ false
    unfolding in_order
    overlaps h = rw (two_at ws at pair, lt-leb after (first ws at) h)

    pub empty : end ws at ≤ first ws at → in_order after (drop at ws) ≡ false
    unfolding in_order
    empty h = rw (two_at ws at pair, le-ltb (first ws at) (end ws at) h) (and-false (leb after (first ws at)))

    pub too_late : week < end ws at → in_order after (drop at ws) ≡ false
    unfolding in_order
    too_late h =
        rw (two_at ws at pair, lt-leb (end ws at) week h, and-false (ltb (first ws at) (end ws at))) (and-false (leb after (first ws at)))

    pub order-goes-on : after ≤ first ws at → first ws at < end ws at → end ws at ≤ week
        → in_order after (drop at ws) ≡ in_order (end ws at) (later ws at)
    order-goes-on a b c = rw (two_at ws at pair) (order_by_tests (first ws at) (end ws at) (later ws at) after a b c)

  pub window-at : in_order after (drop at ws) ≡ true → at < length ws → WindowAt ws at after
  window-at e h =
      let pair : at + 2 ≤ length ws =
      cases_lt (length ws) (at + 2) (λ l. absurd (false≢true (sym (half-window h l) ∙ e))) (λ l. l) in
      let order = cases_lt (first ws at) after (λ l. absurd (false≢true (sym (overlaps pair l) ∙ e))) (λ l. l) in
      let some = cases_lt (first ws at) (end ws at) (λ l. l) (λ l. absurd (false≢true (sym (empty pair l) ∙ e))) in
      let within = cases_lt week (end ws at) (λ l. absurd (false≢true (sym (too_late pair l) ∙ e))) (λ l. l) in
      record {
        pair = pair;
        order = order;
        some = some;
        within = within;
        rest = sym (order-goes-on pair order some within) ∙ e;
      }

-- what the check answers
pub too_many : (ws : List ℕ) → 64 < length ws → false ≡ windows_fit ws
unfolding windows_fit
too_many ws h = rw (lt-leb (length ws) 64 h) (sym (and-false (ltb 0 (length ws))))

pub not_in_order : (ws : List ℕ) → in_order 0 ws ≡ false → false ≡ windows_fit ws
unfolding windows_fit
not_in_order ws e = rw (e, and-false (leb (length ws) 64)) (sym (and-false (ltb 0 (length ws))))

pub all_in_order : (ws : List ℕ) → length ws ≤ 64 → in_order 0 ws ≡ true → ltb 0 (length ws) ≡ windows_fit ws
unfolding windows_fit
all_in_order ws h e = rw (e, le-leb (length ws) 64 h) (by_bool (λ b. b ≡ b && true) (ltb 0 (length ws)) (λ _. refl) (λ _. refl))

-- where the check has come to less than a window
pub all-read : (ws rest : List ℕ) (after : ℕ) → length ws ≤ 64 → length rest < 2 → in_order 0 ws ≡ in_order after rest
    → not (length ws == 0) && (length rest == 0) ≡ windows_fit ws
unfolding in_order
all-read ws [] after short h e = some ws ∙ all_in_order ws short e
  where
    some : (ws : List ℕ) → not (length ws == 0) && true ≡ ltb 0 (length ws)
    some [] = refl
    some (w ∷ ws) = rw (lt-ltb 0 (suc (length ws)) (omega arith), ne_eqb (suc (length ws)) 0 (λ q. omega arith)) refl
all-read ws (x ∷ []) after short h e = and-false (not (length ws == 0)) ∙ not_in_order ws e
all-read ws (x ∷ y ∷ rest) after short h e = absurd (omega arith)

pub in_order_lem : (ws : List ℕ) → windows_fit ws ≡ true → in_order 0 ws ≡ true
unfolding windows_fit
in_order_lem ws e = ((and-eq-true_iff (leb (length ws) 64) _).0 ((and-eq-true_iff (ltb 0 (length ws)) _).0 e).1).1

-- Whether a minute lies in the window at a place or in a later one.
module _ (ws : List ℕ) (at t : ℕ) (pair : at + 2 ≤ length ws) where
  pub inside : first ws at ≤ t → t < end ws at → in_windows (drop at ws) t ≡ true
  unfolding in_windows
  inside a b = rw (two_at ws at pair, le-leb (first ws at) t a, lt-ltb t (end ws at) b)

  pub past : end ws at ≤ t → in_windows (drop at ws) t ≡ in_windows (later ws at) t
  unfolding in_windows
  past h = rw (two_at ws at pair, le-ltb t (end ws at) h, and-false (leb (first ws at) t))

-- No minute before the window that they come after lies in windows in order.
pub before_all : (ws : List ℕ) (after t : ℕ) → in_order after ws ≡ true → t < after → in_windows ws t ≡ false
unfolding in_windows
before_all [] after t e h = refl
before_all (f ∷ []) after t e h = refl
before_all (f ∷ n ∷ rest) after t e h =
    let w = window-at (f ∷ n ∷ rest) 0 after e (omega arith) in
    rw (lt-leb f t (omega (arith, w.order))) (before_all rest n t w.rest (omega (arith, w.order, w.some)))

-- What the first closed minute is: all from `after` to it lie in windows, and it does not.
pub record FirstClosed (ws : List ℕ) (after closed : ℕ) : Type 0 where
  pub reached : after ≤ closed
  pub within : closed ≤ week
  pub opened : (t : ℕ) → after ≤ t → t < closed → in_windows ws t ≡ true
  pub shut : in_windows ws closed ≡ false

closed-at_once : (ws : List ℕ) (after : ℕ) → after ≤ week → in_windows ws after ≡ false → FirstClosed ws after after
closed-at_once ws after h e =
    record { reached = omega arith; within = h; opened = λ t a b. absurd (omega arith); shut = e }

pub closed_is : (ws : List ℕ) (after : ℕ) → after ≤ week → in_order after ws ≡ true → FirstClosed ws after (first_closed after ws)
unfolding first_closed in_windows
closed_is [] after h e = closed-at_once [] after h refl
closed_is (f ∷ []) after h e = closed-at_once (f ∷ []) after h refl
closed_is (f ∷ n ∷ rest) after h e =
    let w = window-at (f ∷ n ∷ rest) 0 after e (omega arith) in
    by_bool (λ b. FirstClosed (f ∷ n ∷ rest) after (cond b (first_closed n rest) after)) (eqb f after)
    (λ q.
    let same = eqb-true f after q in
    let r = closed_is rest n w.within w.rest in
    record {
      reached = omega (arith, w.some, r.reached);
      within = r.within;
      opened = λ t a b.
          cases_lt t n
          (λ l. inside (f ∷ n ∷ rest) 0 t w.pair (omega arith) l)
          (λ l. past (f ∷ n ∷ rest) 0 t w.pair l ∙ r.opened t l b);
      shut = past (f ∷ n ∷ rest) 0 (first_closed n rest) w.pair r.reached ∙ r.shut;
    })
    (λ q.
    let other = eqb-false f after q in
    let gap : after < f = omega (arith, w.order) in
    closed-at_once (f ∷ n ∷ rest) after h
    (rw (lt-leb f after gap) (before_all rest n after w.rest (omega (arith, w.some)))))

-- one turn of the search for it
module _ (ws : List ℕ) (at after : ℕ) (pair : at + 2 ≤ length ws) where
  pub run-goes-on : first ws at ≡ after → first_closed after (drop at ws) ≡ first_closed (end ws at) (later ws at)
  unfolding first_closed
  run-goes-on e = rw (two_at ws at pair, eq-eqb (first ws at) after e)

  pub run_ends : (first ws at ≡ after → ⊥) → first_closed after (drop at ws) ≡ after
  unfolding first_closed
  run_ends n = rw (two_at ws at pair, ne_eqb (first ws at) after n)

pub run-passed : (rest : List ℕ) (after : ℕ) → length rest < 2 → first_closed after rest ≡ after
unfolding first_closed
run-passed [] after h = refl
run-passed (x ∷ []) after h = refl
run-passed (x ∷ y ∷ rest) after h = absurd (omega arith)
