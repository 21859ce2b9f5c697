-- A whole list of steps, what is noted of it, and events among them.
use mathlib.Core.Path.{◌≡◌, refl}
use mathlib.Core.Bool.{Bool, true, false, cond}
use mathlib.Core.List.Memᴰ
use mathlib.Core.List.{List, [], ◌∷◌, ◌++◌, map, Memᴰ}
use mathlib.Core.Logic.{inl, inr}
use Prim.Native.Nat.{ℕ}
use lib.ListN.{length}
use Rattle.tree.specs.Expr.{Expr, strings}
use Rattle.tree.proofs.Agree.{AllIn, Sized, all_in}
use Rattle.whole_run.specs.World.{Setup, Event, hashed}
use Rattle.whole_run.specs.Runs.{World}
use Rattle.fork_bound.specs.Fair.{Account}

-- What every lemma speaks of: the group, whose log has a name of 16 bytes, server H with the account of what its answers belong to, and the
-- world after the whole list, with all that is noted of it.
pub record Whole : Type 0 where
  pub group : Setup
  pub named : length group.log ≡ 16
  pub follows : ℕ
  pub account : Account
  pub world : World

-- the strings that were hashed
abbrev pub Hashed : Whole → List ℕ → Type 0
Hashed W t = Memᴰ (hashed t) W.world.log

-- events that are noted of the list
abbrev pub Within : Whole → List Event → Type 0
Within W es = (e : Event) → Memᴰ e es → Memᴰ e W.world.log

pub within-left : (W : Whole) (xs ys : List Event) → Within W (xs ++ ys) → Within W xs
within-left W xs ys f e m = f e (Memᴰ.append_left ys m)

pub within_right : (W : Whole) (xs ys : List Event) → Within W (xs ++ ys) → Within W ys
within_right W xs ys f e m = f e (Memᴰ.append_right xs m)

-- what was hashed for an expression of which a step noted the strings
pub all_hashed : (W : Whole) (e : Expr) (ss : List (List ℕ)) → Sized e → ((t : List ℕ) → Memᴰ t (strings e) → Memᴰ t ss)
    → Within W (map hashed ss) → AllIn (Hashed W) e
all_hashed W e ss z f h = all_in (Hashed W) e z (λ t m. h (hashed t) (Memᴰ.map hashed (f t m)))

-- what holds of each event of a list
abbrev pub Every : (Event → Type 0) → List Event → Type 0
Every P es = (e : Event) → Memᴰ e es → P e

module _ (P : Event → Type 0) where
  pub every_none : Every P []
  every_none e m = absurd (Memᴰ.not-nil m)

  pub every_cons : (x : Event) (es : List Event) → P x → Every P es → Every P (x ∷ es)
  every_cons x es p f e m = elim (Memᴰ.cases_cons m) [ inl q ↦ rw q p | inr y ↦ f e y ]

  pub every_append : (xs ys : List Event) → Every P xs → Every P ys → Every P (xs ++ ys)
  every_append xs ys f g e m = elim (Memᴰ.append_cases xs m) [ inl x ↦ f e x | inr y ↦ g e y ]

  -- where a test decides what is noted
  pub every_cond : (b : Bool) (xs ys : List Event) → (b ≡ true → Every P xs) → (b ≡ false → Every P ys) → Every P (cond b xs ys)
  every_cond true xs ys f g = f refl
  every_cond false xs ys f g = g refl

  pub every_hashed : ((s : List ℕ) → P (hashed s)) → (ss : List (List ℕ)) → Every P (map hashed ss)
  every_hashed h [] = every_none
  every_hashed h (s ∷ ss) = every_cons (hashed s) (map hashed ss) (h s) (every_hashed h ss)
