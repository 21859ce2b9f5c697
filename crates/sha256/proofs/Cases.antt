-- Splitting a proof by a test.
use Rattle.std.proofs.Common.{◌≡◌, ℕ, ◌<◌, ◌≤◌, Bool, true, false, ltb, refl, ltb-false, ltb-true}

pub by_bool {ℓ} : (P : Bool → Type ℓ) (b : Bool) → (b ≡ true → P true) → (b ≡ false → P false) → P b
by_bool P true f g = f refl
by_bool P false f g = g refl

pub cases_lt {ℓ} : {C : Type ℓ} (a b : ℕ) → (a < b → C) → (b ≤ a → C) → C
cases_lt {C = C} a b f g = by_bool (λ t. C) (ltb a b) (λ e. f (ltb-true a b e)) (λ e. g (ltb-false a b e))
