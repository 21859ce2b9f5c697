-- The laws of refusals, over the steps of every list: a step that is refused, a start or an answer, leaves the user as it was, and its own
-- outcome leaves what is kept, the memory that it was lent and, of an answer, the call.
use mathlib.Core.Path.{◌≡◌, refl, ap, ◌∙◌}
use mathlib.Core.List.{List}
use Prim.Native.Nat.{ℕ}
use borrow.Author.Tests.{eq-eqb, ne_eqb}
use Rattle.tree.specs.Setup.{Settings}
use Rattle.user.specs.Outcome.{Lent, Outcome}
use Rattle.user_calls.specs.Calls.{Call, Input, start_update, start_write, start_read, start_give_up, answer, stepped}
use Rattle.user_calls.specs.Claims.{refused_step, StepRefusal}
use Rattle.user_calls.proofs.Refusals.{step-refusal, refused-state}
use Rattle.whole_run.specs.World.{User, after, user_step}

-- A step that is refused, a start or an answer, leaves the user as it was.
pub refused-step : (s : Settings) (u : User) (i : Input) → ((user_step s u i).step.code ≡ 0 → ⊥) → (user_step s u i).user ≡ u
unfolding user_step
refused-step s u i n = rw (ne_eqb (stepped s u.state u.lent u.call i).step.code 0 n)

-- One that is not refused leaves what its call left.
pub accepted-step : (s : Settings) (u : User) (i : Input) → (user_step s u i).step.code ≡ 0
    → (user_step s u i).user ≡ after u (stepped s u.state u.lent u.call i)
unfolding user_step
accepted-step s u i z = rw (eq-eqb (stepped s u.state u.lent u.call i).step.code 0 z)

-- The memory that a step works in: what a start is lent, or what the call was lent.
abbrev pub lent_to : User → Input → Lent
lent_to u (start_update m) = m
lent_to u (start_write m entry randomizer) = m
lent_to u (start_read m i) = m
lent_to u (start_give_up m) = m
lent_to u (answer a) = u.lent

refused-lent : (u : User) (code : ℕ) (i : Input) → (refused_step code u.state u.lent u.call i).lent ≡ lent_to u i
refused-lent u code (start_update m) = refl
refused-lent u code (start_write m entry randomizer) = refl
refused-lent u code (start_read m i) = refl
refused-lent u code (start_give_up m) = refl
refused-lent u code (answer a) = refl

-- The outcome of a refused step has what is kept and that memory as they were.
pub refused-start : (s : Settings) (u : User) (i : Input) → ((user_step s u i).step.code ≡ 0 → ⊥)
    → ((stepped s u.state u.lent u.call i).state ≡ u.state) × ((stepped s u.state u.lent u.call i).lent ≡ lent_to u i)
unfolding user_step StepRefusal
refused-start s u i n =
    let e = step-refusal s u.state u.lent u.call i n in
    (ap (λ (o : Outcome Call). o.state) e ∙ refused-state _ u.state u.lent u.call i, ap (λ (o : Outcome Call). o.lent) e ∙ refused-lent u _ i)

-- And, of an answer, the call.
pub refused-answer : (s : Settings) (u : User) (a : List ℕ) → ((user_step s u (answer a)).step.code ≡ 0 → ⊥)
    → (stepped s u.state u.lent u.call (answer a)).call ≡ u.call
unfolding user_step StepRefusal
refused-answer s u a n = ap (λ (o : Outcome Call). o.call) (step-refusal s u.state u.lent u.call (answer a) n)
