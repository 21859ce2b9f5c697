-- A number of servers or of a user that does not fit its range is refused with 22, whatever it is. So a call over lent bytes may pass on another one.
use mathlib.Core.Path.{◌≡◌, ◌∙◌, sym}
use mathlib.Core.Bool.{Bool, true, false}
use mathlib.Core.List.{List}
use Prim.Native.Nat.{ℕ, ◌≤◌, ◌<◌, min}
use native.Mathlib.Omega.{arith}
use lib.Dec.{leb}
use borrow.Author.Tests.{leb-true}
use Rattle.tree.proofs.Cases.{cases_le, and-true, untrue}
use Rattle.user_list.proofs.Lists.{group-fits}
use Rattle.tree.specs.declared.setup.Config.{Config}
use Rattle.tree.specs.Setup.{Settings, settings, first_code}
use Rattle.user_list.specs.Users.{group_fits, user_count, is_listed}
use Rattle.tree.specs.Inner.{settings_of}
use Rattle.user.specs.declared.call.Kept.{Kept}
use Rattle.user.specs.Asking.{user_settings_fit, user_fits}
use Rattle.user.specs.Outcome.{State, Lent}
use Rattle.user.specs.Settled.{settled_given}
use Rattle.user_calls.specs.Calls.{Call, Input, stepped}
use Rattle.user_calls.proofs.Refusals.{step_unfit}
use Rattle.c_layout.specs.Inner.{config_of}

-- What is the same for all numbers that do not fit does not tell one that is too great from the one that is passed on.
module _ {A : Type 0} (f : ℕ → ℕ → A) (x : A) (fits : ℕ → ℕ → Bool) (small : (n m : ℕ) → fits n m ≡ true → (n ≤ 16) × (m ≤ 64))
    (unfit : (n m : ℕ) → fits n m ≡ false → f n m ≡ x) where
  too_great : (n m : ℕ) → (n ≤ 16 → m ≤ 64 → ⊥) → f n m ≡ x
  too_great n m z = unfit n m (untrue (fits n m) (λ t. let b = small n m t in z b.0 b.1))

  pub narrowed : (greatest servers own : ℕ) → 64 < greatest → f (min servers 255) (min own greatest) ≡ f servers own
  narrowed greatest servers own h =
      cases_le servers 255
      (λ a.
      cases_le own greatest
      (λ b. let p : min servers 255 ≡ servers = omega arith in let q : min own greatest ≡ own = omega arith in rw (p, q))
      (λ b. both (λ y z. omega arith) (λ y z. omega arith)))
      (λ a. both (λ y z. omega arith) (λ y z. omega arith))
    where
      both : (servers ≤ 16 → own ≤ 64 → ⊥) → (min servers 255 ≤ 16 → min own greatest ≤ 64 → ⊥)
          → f (min servers 255) (min own greatest) ≡ f servers own
      both p q = too_great (min servers 255) (min own greatest) q ∙ sym (too_great servers own p)

-- what a user's settings that fit say of the two numbers
numbers_fit : (s : Settings) → user_settings_fit s ≡ true → (s.servers ≤ 16) × (s.own ≤ 64)
unfolding user_settings_fit is_listed
numbers_fit s t =
    let a = and-true (group_fits s.servers s.users) _ t in
    let g = group-fits s.servers s.users a.0 in
    let o = leb-true s.own (user_count s.users) (and-true (leb 1 s.own) _ a.1).1 in
    (g.sixteen, omega (arith, g.few))

settled_unfit : (s : Settings) (k : Kept) (p : ℕ) → user_settings_fit s ≡ false → settled_given s k p ≡ record { code = 22; settled = false }
unfolding settled_given user_fits first_code
settled_unfit s k p e = rw e

-- a user's step and settled, with the numbers that are passed on and with those that are given
module _ (servers own : ℕ) (log users : List ℕ) (config : Config) (e : config ≡ config_of servers own log) where
  passed_on : {A : Type 0} (f : Settings → A) (x : A) → ((s : Settings) → user_settings_fit s ≡ false → f s ≡ x)
      → f (settings_of config users) ≡ f (settings servers own log users)
  unfolding config_of
  passed_on f x g =
      rw e
      (narrowed (λ n m. f (settings n m log users)) x (λ n m. user_settings_fit (settings n m log users)) (λ n m. numbers_fit (settings n m log users))
      (λ n m. g (settings n m log users)) 65535 servers own (omega arith))

  pub settled_passed-on : (k : Kept) (p : ℕ) → settled_given (settings_of config users) k p ≡ settled_given (settings servers own log users) k p
  settled_passed-on k p = passed_on (λ s. settled_given s k p) _ (λ s. settled_unfit s k p)

  pub step-passed-on : (σ : State) (m : Lent) (c : Call) (i : Input)
      → stepped (settings_of config users) σ m c i ≡ stepped (settings servers own log users) σ m c i
  step-passed-on σ m c i = passed_on (λ s. stepped s σ m c i) _ (λ s. step_unfit s σ m c i)
