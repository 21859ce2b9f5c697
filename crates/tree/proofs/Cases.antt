-- Case splits on a test, each case with the fact that it brings.
use mathlib.Core.Path.{◌≡◌, refl, sym}
use mathlib.Core.Bool.{Bool, true, false, ◌&&◌}
use Prim.Native.Nat.{ℕ, zero, suc, ◌≤◌, ◌<◌}
use native.Mathlib.Omega.{arith}
use lib.Dec.{leb, eqb}
pub use Rattle.sha256.proofs.Cases.{by_bool}
use borrow.Author.Tests.{leb-true, leb-false, eqb-true, eqb-false}

pub by_leb {ℓ} : (P : Bool → Type ℓ) (a b : ℕ) → (a ≤ b → P true) → (b < a → P false) → P (leb a b)
by_leb P a b f g = by_bool P (leb a b) (λ e. f (leb-true a b e)) (λ e. g (leb-false a b e))

pub by_eqb {ℓ} : (P : Bool → Type ℓ) (a b : ℕ) → (a ≡ b → P true) → ((a ≡ b → ⊥) → P false) → P (eqb a b)
by_eqb P a b f g = by_bool P (eqb a b) (λ e. f (eqb-true a b e)) (λ e. g (eqb-false a b e))

pub cases_le {ℓ} : {C : Type ℓ} (a b : ℕ) → (a ≤ b → C) → (b < a → C) → C
cases_le {C = C} a b f g = by_leb (λ t. C) a b f g

pub cases_eq {ℓ} : {C : Type ℓ} (a b : ℕ) → (a ≡ b → C) → ((a ≡ b → ⊥) → C) → C
cases_eq {C = C} a b f g = by_eqb (λ t. C) a b f g

-- a number other than 0 is above it
pub positive : (n : ℕ) → (n ≡ 0 → ⊥) → 0 < n
positive zero n = absurd (n refl)
positive (suc n) k = omega arith

-- a test has one value
pub not_both {ℓ} : {C : Type ℓ} (b : Bool) → b ≡ true → b ≡ false → C
not_both b e g = let z : ◌≡◌ {A = ℕ} 0 1 = cc in absurd (omega arith)

-- two tests with the same facts are equal
pub same_test : (a b : Bool) → (a ≡ true → b ≡ true) → (b ≡ true → a ≡ true) → a ≡ b
same_test true b f g = sym (f refl)
same_test false true f g = g refl
same_test false false f g = refl

pub and-true : (a b : Bool) → a && b ≡ true → (a ≡ true) × (b ≡ true)
and-true true b e = (refl, e)
and-true false b e = not_both false e refl

-- a test that is not true is false
pub untrue : (b : Bool) → (b ≡ true → ⊥) → b ≡ false
untrue true n = absurd (n refl)
untrue false n = refl
