-- The numbers of events: an event keeps its number while more is noted.
use mathlib.Core.Path.{refl}
use mathlib.Core.List.Memᴰ
use mathlib.Core.List.{List, [], ◌∷◌, ◌++◌, Memᴰ}
use mathlib.Core.Logic.{◌⊎◌, inl, inr}
use Prim.Native.Nat.{ℕ, ◌<◌, ◌≤◌}
use native.Mathlib.Omega.{arith}
use lib.ListN.{length, length-append}
use Rattle.whole_run.specs.World.{Event, Noted}

-- what is noted has a number, below the count of events
pub noted_in : (log : List Event) (i : ℕ) (e : Event) → Noted log i e → Memᴰ e log
unfolding Noted
noted_in [] i e m = absurd m
noted_in (x ∷ log) i e m = elim m [ inl y ↦ Memᴰ.head y.1 | inr y ↦ Memᴰ.tail (noted_in log i e y) ]

pub numbered : (log : List Event) (e : Event) → Memᴰ e log → (i : ℕ) × Noted log i e
unfolding Noted
numbered [] e m = absurd (Memᴰ.not-nil m)
numbered (x ∷ log) e m = elim (Memᴰ.cases_cons m) [
  | inl y ↦ (length log, inl (refl, y))
  | inr y ↦ (let n = numbered log e y in (n.0, inr n.1))
]

pub noted_below : (log : List Event) (i : ℕ) (e : Event) → Noted log i e → i < length log
unfolding Noted
noted_below [] i e m = absurd m
noted_below (x ∷ log) i e m = elim m [ inl y ↦ omega (arith, y.0) | inr y ↦ omega (arith, noted_below log i e y) ]

-- more is noted
pub noted-later : (es log : List Event) (i : ℕ) (e : Event) → Noted log i e → Noted (es ++ log) i e
unfolding Noted
noted-later [] log i e m = m
noted-later (x ∷ es) log i e m = inr (noted-later es log i e m)

-- what is noted by then was so before, or is new
pub noted-before : (es log : List Event) (i : ℕ) (e : Event) → Noted (es ++ log) i e → Noted log i e ⊎ (Memᴰ e es × (length log ≤ i))
unfolding Noted
noted-before [] log i e m = inl m
noted-before (x ∷ es) log i e m =
    elim m [
      | inl y ↦ inr (Memᴰ.head y.1, omega (arith, y.0, length-append es log))
      | inr y ↦ elim (noted-before es log i e y) [ inl z ↦ inl z | inr z ↦ inr (Memᴰ.tail z.0, z.1) ]
    ]
