use Rattle.std.proofs.Common.{◌≡◌, true, false, T, ℤ, pos, negsuc, nat_abs, sym, refl, ap, ◌∙◌, subst, arith, to_z-of_z, w64, Fits, SFits, ltb-false}
use mathlib.Core.Bool.{false≢true}
use lib.Signed.{non_neg, lt_z}
use Rattle.state_files.specs.Slot.{toℕ}
use Rattle.state_files.proofs.file.or_zero.Goals as goal

positive : (y : ℤ) → SFits w64 y → lt_z (pos 0) y ≡ true → (T (non_neg y) × Fits w64 (nat_abs y)) × (nat_abs y ≡ toℕ y)
unfolding toℕ
positive (pos n) g e = ((tt, record { fits = let h = g.sfits in omega arith }), refl)
positive (negsuc n) g e = absurd (false≢true e)

not-positive : (y : ℤ) → lt_z (pos 0) y ≡ false → 0 ≡ toℕ y
unfolding toℕ
not-positive (pos n) e = let h = ltb-false 0 n e in omega arith
not-positive (negsuc n) e = refl

pub overflow_cast-result : goal.overflow_cast-result
overflow_cast-result c =
    let f = c.ranges.n in
    subst (λ (y : ℤ). T (non_neg y) × Fits w64 (nat_abs y)) (sym (to_z-of_z f)) (positive _ f (rw (← to_z-of_z f) c.if-n-gt0.true)).0

pub returns-then-n-gt0 : goal.returns-then-n-gt0
returns-then-n-gt0 c =
    let f = c.ranges.n in
    ap nat_abs (to_z-of_z f) ∙ (positive _ f (rw (← to_z-of_z f) c.if-n-gt0.true)).1

pub returns : goal.returns
returns c = let f = c.ranges.n in not-positive _ (rw (← to_z-of_z f) c.if-n-gt0.false)
