-- Whole starts in a range: what they give, combined; the sign rule from all of them; and how the total depends on the start.
use mathlib.Core.Path.{◌≡◌, refl, sym, subst, ◌∙◌}
use mathlib.Core.Bool.{Bool, true, false, cond, ◌&&◌, ◌||◌, and-false, and-eq-true_iff}
use mathlib.Core.List.{List, ◌∷◌}
use Prim.Native.Nat.{ℕ, zero, suc, ◌+◌, ◌-◌, ◌*◌, min, max, ◌≤◌, ◌<◌}
use native.Mathlib.Omega.{arith, min_cases, max_cases}
use lib.Dec.{eqb, leb, ltb}
use lib.IntN.{pos, nat_abs}
use lib.Signed.{lt_z}
use borrow.Author.Tests.{ltb-true, lt-ltb, le-ltb, lt-leb, le-leb, eq-eqb, ne_eqb, eqb-true, eqb-false, leb-true}
use Rattle.sha256.proofs.Cases.{by_bool, cases_lt}
use Rattle.firing.specs.declared.segment.Segment.{Segment}
use Rattle.firing.specs.Schedule.{change, same_sign, sign_fits, rounded_up, segment_minutes, total}
use Rattle.firing.specs.Warm.{combined_from, over_starts, starts_fit}
use Rattle.firing.specs.Claims.{RangeKeepsRules, RangesFit}
use Rattle.firing.proofs.Signed.{pos_minus}
use Rattle.firing.proofs.Segments.{rounded_monotone, distance}
use Rattle.firing.proofs.Firings.{change_signs, rate_signs}

-- What is combined is what one of the starts gives, where combining two picks one of them.
combined_reached : {A : Type 0} (combine : A → A → A) → ((x y : A) (P : A → Type 0) → P x → P y → P (combine x y))
    → (f : ℕ → A) (a n : ℕ) → (t : ℕ) × ((a ≤ t) × ((t ≤ a + n) × (combined_from combine f a n ≡ f t)))
unfolding combined_from
combined_reached combine picks f a zero = (a, (omega arith, (omega arith, refl)))
combined_reached combine picks f a (suc n) =
    let r = combined_reached combine picks f (suc a) n in
    picks (f a) (combined_from combine f (suc a) n) (λ v. (t : ℕ) × ((a ≤ t) × ((t ≤ a + suc n) × (v ≡ f t))))
    (a, (omega arith, (omega arith, refl)))
    (r.0, (omega (arith, r.1.0), (omega (arith, r.1.1.0), r.1.1.1)))

-- It is related to what each start gives, where two combined are related to what either is related to.
combined_related : {A : Type 0} (combine : A → A → A) (R : A → A → Type 0) → ((x : A) → R x x)
    → ((x y z : A) → R x z → R (combine x y) z) → ((x y z : A) → R y z → R (combine x y) z)
    → (f : ℕ → A) (a n t : ℕ) → a ≤ t → t ≤ a + n → R (combined_from combine f a n) (f t)
unfolding combined_from
combined_related combine R same left right f a zero t l m =
    let is : a ≡ t = omega arith in
    subst (λ (k : ℕ). R (f a) (f k)) is (same (f a))
combined_related combine R same left right f a (suc n) t l m =
    cases_lt a t
    (λ h. right (f a) _ (f t) (combined_related combine R same left right f (suc a) n t (omega arith) (omega arith)))
    (λ h.
    let is : a ≡ t = omega arith in
    left (f a) _ (f t) (subst (λ (k : ℕ). R (f a) (f k)) is (same (f a))))

module _ (a b : ℕ) (order : a ≤ b) where
  -- the least and the greatest are reached, and no start lies outside them
  module _ (f : ℕ → ℕ) where
    pub least-reached : (t : ℕ) × ((a ≤ t) × ((t ≤ b) × (over_starts min f a b ≡ f t)))
    unfolding over_starts
    least-reached =
        let r = combined_reached min (λ x y P p q. min_cases x y (P (min x y)) (λ _ e. subst P (sym e) p) (λ _ e. subst P (sym e) q)) f a
        (b - a) in
        (r.0, (r.1.0, (omega (arith, r.1.1.0), r.1.1.1)))

    pub greatest_reached : (t : ℕ) × ((a ≤ t) × ((t ≤ b) × (over_starts max f a b ≡ f t)))
    unfolding over_starts
    greatest_reached =
        let r = combined_reached max (λ x y P p q. max_cases x y (P (max x y)) (λ _ e. subst P (sym e) q) (λ _ e. subst P (sym e) p)) f a
        (b - a) in
        (r.0, (r.1.0, (omega (arith, r.1.1.0), r.1.1.1)))

    pub least_below : (t : ℕ) → a ≤ t → t ≤ b → over_starts min f a b ≤ f t
    unfolding over_starts
    least_below t l m =
        combined_related min (λ x z. x ≤ z) (λ x. omega arith) (λ x y z h. omega arith) (λ x y z h. omega arith) f a (b - a) t l
        (omega arith)

    pub greatest_above : (t : ℕ) → a ≤ t → t ≤ b → f t ≤ over_starts max f a b
    unfolding over_starts
    greatest_above t l m =
        combined_related max (λ x z. z ≤ x) (λ x. omega arith) (λ x y z h. omega arith) (λ x y z h. omega arith) f a (b - a) t l
        (omega arith)

  -- a test passes in all starts together exactly if it passes in each
  module _ (p : ℕ → Bool) where
    pub each_start : over_starts ◌&&◌ p a b ≡ true → (t : ℕ) → a ≤ t → t ≤ b → p t ≡ true
    unfolding over_starts
    each_start e t l m =
        combined_related ◌&&◌ (λ x z. x ≡ true → z ≡ true) (λ x h. h)
        (λ x y z f h. f ((and-eq-true_iff x y).0 h).0) (λ x y z f h. f ((and-eq-true_iff x y).0 h).1) p a (b - a) t l (omega arith) e

    pub all_starts : ((t : ℕ) → a ≤ t → t ≤ b → p t ≡ true) → over_starts ◌&&◌ p a b ≡ true
    unfolding over_starts
    all_starts h =
        let r = combined_reached ◌&&◌ (λ x y P q s. by_bool (λ v. P (v && y)) x (λ _. s) (λ e. subst P e q)) p a (b - a) in
        r.1.1.1 ∙ h r.0 r.1.0 (omega (arith, r.1.1.0))

-- the sign rule by three tests of target and start
pub sign_tests : (t : ℕ) (s : Segment) → sign_fits t s
    ≡ (lt_z s.rate (pos 0) && ltb s.target t)
    || ((lt_z (pos 0) s.rate && ltb t s.target) || (eqb (nat_abs s.rate) 0 && eqb s.target t))
unfolding sign_fits same_sign change
sign_tests t s = let d = change_signs s.target t in rw (pos_minus s.target t, d.0, d.1, d.2)

-- A start between two from which the rate has its sign lies on their side of the target, so the rate has its sign from there too.
pub sign_between : (s : Segment) (a b t : ℕ) → a ≤ t → t ≤ b → sign_fits a s ≡ true → sign_fits b s ≡ true → sign_fits t s ≡ true
sign_between s a b t l m ea eb =
    let ra = rate_signs a s ea in
    let rb = rate_signs b s eb in
    cases_lt s.target a
    (λ h.
    same (lt-ltb s.target a h ∙ sym (lt-ltb s.target t (omega arith)))
    (le-ltb a s.target (omega arith) ∙ sym (le-ltb t s.target (omega arith)))
    (ne_eqb s.target a (λ q. omega arith) ∙ sym (ne_eqb s.target t (λ q. omega arith))))
    (λ h.
    cases_lt a s.target
    (λ g.
    let far = ltb-true b s.target (sym rb.1 ∙ ra.1 ∙ lt-ltb a s.target g) in
    same (le-ltb s.target a h ∙ sym (le-ltb s.target t (omega arith)))
    (lt-ltb a s.target g ∙ sym (lt-ltb t s.target (omega arith)))
    (ne_eqb s.target a (λ q. omega arith) ∙ sym (ne_eqb s.target t (λ q. omega arith))))
    (λ g.
    let end = eqb-true s.target b (sym rb.2 ∙ ra.2 ∙ eq-eqb s.target a (omega arith)) in
    let is : a ≡ t = omega arith in
    subst (λ (k : ℕ). sign_fits k s ≡ true) is ea))
  where
    same : ltb s.target a ≡ ltb s.target t → ltb a s.target ≡ ltb t s.target → eqb s.target a ≡ eqb s.target t
        → sign_fits t s ≡ true
    same below above none = sign_tests t s ∙ rw (← below, ← above, ← none) (sym (sign_tests a s) ∙ ea)

-- whether a range of starts fits, by the way through its tests
module _ (s : Segment) (a b : ℕ) where
  abbrev keeps_sign : ℕ → Bool
  keeps_sign t = sign_fits t s

  pub ends_crossed : b < a → false ≡ starts_fit s a b
  unfolding starts_fit
  ends_crossed h = rw (lt-leb a b h)

  module _ (order : a ≤ b) where
    pub end_high : 1350 < b → false ≡ starts_fit s a b
    unfolding starts_fit
    end_high h = rw (le-leb a b order, lt-leb b 1350 h) (sym (and-false (leb a 1350)))

    module _ (low : b ≤ 1350) where
      sign_decides : starts_fit s a b ≡ over_starts ◌&&◌ keeps_sign a b
      unfolding starts_fit
      sign_decides = rw (le-leb a b order, le-leb a 1350 (omega arith), le-leb b 1350 low)

      pub start_breaks : (t : ℕ) → a ≤ t → t ≤ b → sign_fits t s ≡ false → false ≡ starts_fit s a b
      start_breaks t l m e =
          rw sign_decides (by_bool (λ v. false ≡ v) (over_starts ◌&&◌ keeps_sign a b)
          (λ h. sym e ∙ each_start a b order keeps_sign h t l m) (λ _. refl))

      pub upper-end_decides : sign_fits a s ≡ true → sign_fits b s ≡ starts_fit s a b
      upper-end_decides ea =
          by_bool (λ v. v ≡ starts_fit s a b) (sign_fits b s)
          (λ eb. sym (sign_decides ∙ all_starts a b order keeps_sign (λ t l m. sign_between s a b t l m ea eb)))
          (start_breaks b order (omega arith))

      pub both_decide : sign_fits a s && sign_fits b s ≡ starts_fit s a b
      both_decide =
          by_bool (λ v. v && sign_fits b s ≡ starts_fit s a b) (sign_fits a s) upper-end_decides (start_breaks a (omega arith) order)

-- A range of starts fits exactly if its ends are in order and in their range and the sign rule holds from every start in it.
pub starts_fit_lem : (s : Segment) (a b : ℕ) → starts_fit s a b ≡ true → RangeKeepsRules s a b
unfolding starts_fit
starts_fit_lem s a b e =
    let order = (and-eq-true_iff (leb a b) _).0 e in
    let lower = (and-eq-true_iff (leb a 1350) _).0 order.1 in
    let upper = (and-eq-true_iff (leb b 1350) _).0 lower.1 in
    let is = leb-true a b order.0 in
    record {
      order = is;
      lower = leb-true a 1350 lower.0;
      upper = leb-true b 1350 upper.0;
      sign = each_start a b is (keeps_sign s a b) upper.1;
    }

pub fitting-starts : (s : Segment) (a b : ℕ) → RangeKeepsRules s a b → starts_fit s a b ≡ true
fitting-starts s a b f = sign_decides s a b f.order f.upper ∙ all_starts a b f.order (keeps_sign s a b) f.sign

pub ranges_fit : RangesFit
unfolding RangesFit
ranges_fit s a b = (starts_fit_lem s a b, fitting-starts s a b)

-- A segment's time does not fall with the distance.
farther_longer : (s : Segment) (t u : ℕ) → nat_abs (change t s) ≤ nat_abs (change u s) → segment_minutes t s ≤ segment_minutes u s
unfolding segment_minutes
farther_longer s t u h =
    by_bool
    (λ v. cond v s.hold (rounded_up (60 * nat_abs (change t s)) (nat_abs s.rate) + s.hold)
    ≤ cond v s.hold (rounded_up (60 * nat_abs (change u s)) (nat_abs s.rate) + s.hold))
    (eqb (nat_abs s.rate) 0)
    (λ e. omega arith)
    (λ e.
    let some = eqb-false (nat_abs s.rate) 0 e in
    let time = rounded_monotone (60 * nat_abs (change t s)) (60 * nat_abs (change u s)) (nat_abs s.rate) (omega arith) (omega arith) in
    omega arith)

-- While the first segment heats, the total does not rise with the start; while it cools, the total does not fall.
module _ (s : Segment) (rest : List Segment) (t u : ℕ) (warmer : t ≤ u) where
  pub total_heating : u ≤ s.target → total u (s ∷ rest) ≤ total t (s ∷ rest)
  unfolding total change
  total_heating h =
      let time = farther_longer s u t (rw (distance s.target t, distance s.target u) (omega arith)) in
      omega arith

  pub total_cooling : s.target ≤ t → total t (s ∷ rest) ≤ total u (s ∷ rest)
  unfolding total change
  total_cooling h =
      let time = farther_longer s t u (rw (distance s.target t, distance s.target u) (omega arith)) in
      omega arith
