-- Signed numbers and the bits that the machine holds for them: widening, differences of two counts, and signs.
use mathlib.Core.Path.{◌≡◌, refl, sym, ap, subst, ◌∙◌}
use mathlib.Core.Bool.{cond}
use Prim.Native.Nat.{ℕ, zero, suc, ◌-◌, ◌≤◌, ◌<◌, min}
use native.Mathlib.Nat.{min-eq_right}
use native.Mathlib.Omega.{arith}
use lib.Dec.{T, eqb, leb, ltb}
use lib.IntN.{ℤ, pos, negsuc, sub_ℕ, ◌-ℤ◌}
use Rattle.std.specs.Int.{int_signum}
use mir.Syntax.{Width, w16, w32}
use mir.Val.{SFits, hbits, to_z, of_z}
use mir.Facts.{sfits_widen, to_z-of_z, to_z_pos, to_z-neg}
use borrow.Author.Tests.{lt-ltb, le-ltb, ne_eqb}
use Rattle.sha256.proofs.Cases.{by_bool, cases_lt}
use Rattle.firing.specs.Schedule.{twos_complement, same_sign}

-- A number of one width, cast to a wider one, is the same number.
module _ (w w' : Width) (z : ℤ) (wider : T (leb (hbits w) (hbits w'))) (f : SFits w z) where
  pub widened : to_z w' (of_z w' (to_z w (of_z w z))) ≡ z
  widened = ap (λ (y : ℤ). to_z w' (of_z w' y)) (to_z-of_z f) ∙ to_z-of_z {w = w'} (sfits_widen wider f)

-- The difference of two counts, and its bits.
pub pos_minus : (a b : ℕ) → pos a -ℤ pos b ≡ sub_ℕ a b
pos_minus a zero = rw (le-ltb a 0 (omega arith)) (ap pos (omega arith))
pos_minus a (suc b) = refl

sub-fits : (a b : ℕ) → a < 65537 → b < 65537 → SFits w32 (sub_ℕ a b)
sub-fits a b f g =
    by_bool (λ t. SFits w32 (cond t (negsuc (b - suc a)) (pos (a - b)))) (ltb a b)
    (λ e. record { sfits = omega arith })
    (λ e. record { sfits = omega arith })

module _ (a b : ℕ) (f : a < 65537) (g : b < 65537) where
  from_bits : to_z w32 a -ℤ to_z w32 b ≡ pos a -ℤ pos b
  from_bits = rw (to_z_pos w32 {n = a} (omega arith), to_z_pos w32 {n = b} (omega arith))

  pub difference_fits : SFits w32 (to_z w32 a -ℤ to_z w32 b)
  difference_fits = subst (SFits w32) (sym (from_bits ∙ pos_minus a b)) (sub-fits a b f g)

  pub difference : to_z w32 (of_z w32 (to_z w32 a -ℤ to_z w32 b)) ≡ pos a -ℤ pos b
  difference = to_z-of_z difference_fits ∙ from_bits

-- two's complement of two bytes
pub lowered : (n : ℕ) → 32768 ≤ n → n < 65536 → pos n -ℤ pos 65536 ≡ negsuc (65535 - n)
lowered n high f = pos_minus n 65536 ∙ rw (lt-ltb n 65536 f) (ap negsuc (omega arith))

pub signed-bits : (n : ℕ) → n < 65536 → to_z w16 n ≡ twos_complement n
unfolding twos_complement
signed-bits n f =
    cases_lt n 32768 (λ low. to_z_pos w16 {n = n} (omega arith) ∙ rw (lt-ltb n 32768 low))
    (λ high.
    let back : 65536 - suc (65535 - n) ≡ n = omega arith in
    subst (λ (k : ℕ). to_z w16 k ≡ negsuc (65535 - n)) back (to_z-neg w16 (65535 - n) (omega arith))
    ∙ sym (rw (le-ltb n 32768 high) (lowered n high f)))

-- the signs of two numbers
sign-one : (n : ℕ) → (n ≡ 0 → ⊥) → min n 1 ≡ 1
sign-one n z = let h : 1 ≤ n = omega (arith, z) in min-eq_right h

pub signs-told : (a b : ℤ) → eqb (of_z w32 (int_signum a)) (of_z w32 (int_signum b)) ≡ same_sign a b
unfolding same_sign
signs-told (pos zero) (pos zero) = refl
signs-told (pos zero) (pos (suc m)) = rw (sign-one (suc m) (λ e. omega arith), ne_eqb (suc m) 0 (λ e. omega arith)) refl
signs-told (pos (suc n)) (pos zero) =
    rw (sign-one (suc n) (λ e. omega arith), le-ltb (suc n) 0 (omega arith), lt-ltb 0 (suc n) (omega arith), ne_eqb (suc n) 0 (λ e. omega arith)) refl
signs-told (pos (suc n)) (pos (suc m)) =
    rw (
      sign-one (suc n) (λ e. omega arith),
      sign-one (suc m) (λ e. omega arith),
      le-ltb (suc n) 0 (omega arith),
      lt-ltb 0 (suc n) (omega arith),
      lt-ltb 0 (suc m) (omega arith),
    )
    refl
signs-told (pos zero) (negsuc m) = rw (ne_eqb (suc m) 0 (λ e. omega arith)) refl
signs-told (pos (suc n)) (negsuc m) =
    rw (sign-one (suc n) (λ e. omega arith), le-ltb (suc n) 0 (omega arith), lt-ltb 0 (suc n) (omega arith), ne_eqb (suc n) 0 (λ e. omega arith)) refl
signs-told (negsuc n) (pos zero) = rw (ne_eqb (suc n) 0 (λ e. omega arith)) refl
signs-told (negsuc n) (pos (suc m)) =
    rw (sign-one (suc m) (λ e. omega arith), le-ltb (suc m) 0 (omega arith), ne_eqb (suc n) 0 (λ e. omega arith)) refl
signs-told (negsuc n) (negsuc m) = refl
