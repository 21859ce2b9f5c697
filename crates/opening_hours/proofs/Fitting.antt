-- Which windows fit, both ways: the windows of a list by their numbers, the first one 0.
use mathlib.Core.Path.{◌≡◌, refl, sym, subst, ◌∙◌}
use mathlib.Core.Bool.{true, false≢true, and-eq-true_iff}
use mathlib.Core.List.{List, [], ◌∷◌}
use Prim.Native.Nat.{ℕ, zero, suc, ◌+◌, ◌*◌, ◌≤◌, ◌<◌}
use native.Mathlib.Omega.{arith}
use lib.Dec.{leb, ltb}
use lib.ListN.{length, drop}
use borrow.Author.Tests.{ltb-true, lt-ltb, leb-true}
use Rattle.opening_hours.specs.Opening.{in_order, windows_fit}
use Rattle.opening_hours.specs.Starts.{Fitting}
use Rattle.opening_hours.specs.Claims.{WindowsFit}
use Rattle.opening_hours.proofs.InOrder.{first, end, WindowAt, window-at, order-goes-on, half-window, order-ended, all_in_order}
use Rattle.opening_hours.proofs.InOrder.{in_order_lem}

-- windows in order have two numbers each
even_count : (ws : List ℕ) (after : ℕ) → in_order after ws ≡ true → (c : ℕ) × (length ws ≡ 2 * c)
even_count [] after e = (0, refl)
even_count (f ∷ []) after e = absurd (false≢true (sym (half-window (f ∷ []) 0 after (omega arith) (omega arith)) ∙ e))
even_count (f ∷ n ∷ rest) after e =
    let w = window-at (f ∷ n ∷ rest) 0 after e (omega arith) in
    let r = even_count rest n w.rest in
    (suc r.0, omega (arith, r.1))

-- where the window before ends
end_before : List ℕ → ℕ → ℕ
end_before ws zero = 0
end_before ws (suc k) = end ws (2 * k)

module _ (ws : List ℕ) where
  each-window : in_order 0 ws ≡ true → (k : ℕ) → 2 * k < length ws → WindowAt ws (2 * k) (end_before ws k)
  unfolding end_before
  each-window e zero h = window-at ws 0 0 e h
  each-window e (suc k) h =
      let w = each-window e k (omega arith) in
      let next : 2 * k + 2 ≡ 2 * suc k = omega arith in
      window-at ws (2 * suc k) (end ws (2 * k)) (subst (λ (at : ℕ). in_order (end ws (2 * k)) (drop at ws) ≡ true) next w.rest) h

  fits : windows_fit ws ≡ true → Fitting ws
  unfolding windows_fit end_before
  fits e =
      let in_order_lem = in_order_lem ws e in
      let pairs = even_count ws 0 in_order_lem in
      let some = (and-eq-true_iff (ltb 0 (length ws)) _).0 e in
      let most = (and-eq-true_iff (leb (length ws) 64) _).0 some.1 in
      let is = pairs.1 in
      record {
        count = pairs.0;
        pairs = is;
        least = omega (arith, ltb-true 0 (length ws) some.0);
        most = omega (arith, leb-true (length ws) 64 most.0);
        some = λ k h. (each-window in_order_lem k (omega arith)).some;
        within = λ k h. (each-window in_order_lem k (omega arith)).within;
        rising = λ k h. (each-window in_order_lem (suc k) (omega arith)).order;
      }

  module _ (f : Fitting ws) where
    order-before : (k : ℕ) → k < f.count → end_before ws k ≤ first ws (2 * k)
    unfolding end_before
    order-before zero h = omega arith
    order-before (suc k) h = f.rising k h

    in_order-from : (left k : ℕ) → k + left ≡ f.count → in_order (end_before ws k) (drop (2 * k) ws) ≡ true
    unfolding end_before
    in_order-from zero k h = order-ended ws (2 * k) (end_before ws k) (omega (arith, f.pairs))
    in_order-from (suc left) k h =
        let next : 2 * k + 2 ≡ 2 * suc k = omega arith in
        order-goes-on ws (2 * k) (end_before ws k) (omega (arith, f.pairs)) (order-before k (omega arith)) (f.some k (omega arith))
        (f.within k (omega arith))
        ∙ rw next (in_order-from left (suc k) (omega arith))

    fitting : windows_fit ws ≡ true
    unfolding end_before
    fitting =
        let p = f.pairs in
        let least = f.least in
        let most = f.most in
        sym (all_in_order ws (omega arith) (in_order-from f.count 0 (omega arith))) ∙ lt-ltb 0 (length ws) (omega arith)

pub windows_fit_lem : WindowsFit
unfolding WindowsFit
windows_fit_lem windows = (fits windows, fitting windows)
