-- A step that is refused, whatever the code, leaves every lent byte as it was.
use mathlib.Core.Path.{◌≡◌, refl, ◌∙◌, sym, ap}
use mathlib.Core.List.{List, []}
use Prim.Native.Nat.{ℕ}
use Rattle.tree.specs.Setup.{Settings}
use Rattle.user.specs.declared.call.Kept.{Kept}
use Rattle.user.specs.Outcome.{State, Key, key_of, Lent, Outcome}
use Rattle.user_calls.specs.Calls.{Call, idle, updating, writing, reading, giving_up, Input, start_update, start_write, start_read, start_give_up}
use Rattle.user_calls.specs.Calls.{answer, stepped}
use Rattle.user_calls.specs.Claims.{refused_step, StepRefusal}
use Rattle.user_calls.proofs.Refusals.{step-refusal, refused-state}
use Rattle.c_layout.specs.User.{call_of, kept_after, kept_by, asked_of, UserLent, user_lent, state_in, lent_in, user_left, user_begun}
use Rattle.c_layout.specs.User.{answered_by, user_answered, give_up_begun}
use Rattle.c_layout.specs.Claims.{RefusedLeaves, RefusalLeavesAllBytes}
use Rattle.c_layout.proofs.States.{kept-left, call-left}
use Rattle.c_layout.proofs.UserAnswers.{same_lent}

kept-stays : (c : Call) (code : ℕ) (k : Kept) (kept : List ℕ) → (code ≡ 0 → ⊥) → kept_by c code k kept ≡ kept
unfolding kept_by
kept-stays idle code k kept n = refl
kept-stays (updating u) code k kept n = sym (kept-left code k kept n)
kept-stays (writing w) code k kept n = sym (kept-left code k kept n)
kept-stays (reading r) code k kept n = refl
kept-stays (giving_up g) code k kept n = sym (kept-left code k kept n)

module _ (s : Settings) (m : UserLent) (key : Key) where
  left_alone : (kept : List ℕ) (o : Outcome Call) → (o.step.code ≡ 0 → ⊥) → kept ≡ m.kept → o.state ≡ state_in m → o.lent ≡ lent_in m key
      → (user_left m kept o).lent ≡ m
  unfolding user_left
  left_alone kept o n ek es el =
      same_lent ek (ap (λ (σ : State). σ.path) es) (ap (λ (σ : State). σ.signature) es) (sym (call-left o.step.code _ m.call n))
      (ap (λ (l : Lent). l.hashes) el) (ap (λ (l : Lent). l.held) el) (ap (λ (l : Lent). l.request) el) (ap (λ (l : Lent). l.entry) el)

  answer-leaves : (a : List ℕ) → RefusedLeaves m (user_answered s m key a)
  unfolding user_answered answered_by user_left asked_of StepRefusal
  answer-leaves a n =
      let o : Outcome Call = stepped s (state_in m) (lent_in m key) (call_of m.call) (answer a) in
      let e = step-refusal s (state_in m) (lent_in m key) (call_of m.call) (answer a) n in
      left_alone (kept_by o.call o.step.code o.state.kept m.kept) o n (kept-stays o.call _ _ _ n)
      (ap (λ (x : Outcome Call). x.state) e)
      (ap (λ (x : Outcome Call). x.lent) e)

  -- a start with the memory that is lent
  start-leaves : (start : Lent → Input)
      → ((code : ℕ) → (refused_step code (state_in m) (lent_in m key) (call_of m.call) (start (lent_in m key))).lent ≡ lent_in m key)
      → RefusedLeaves m (user_begun s m key start)
  unfolding user_begun user_left asked_of StepRefusal
  start-leaves start same n =
      let i : Input = start (lent_in m key) in
      let o : Outcome Call = stepped s (state_in m) (lent_in m key) (call_of m.call) i in
      let e = step-refusal s (state_in m) (lent_in m key) (call_of m.call) i n in
      left_alone m.kept o n refl
      (ap (λ (x : Outcome Call). x.state) e ∙ refused-state o.step.code (state_in m) (lent_in m key) (call_of m.call) i)
      (ap (λ (x : Outcome Call). x.lent) e ∙ same o.step.code)

give_up_start-leaves : (s : Settings) (kept path call request : List ℕ)
    → RefusedLeaves (user_lent kept path [] call [] [] request []) (give_up_begun s kept path call request)
unfolding give_up_begun user_left asked_of StepRefusal
give_up_start-leaves s kept path call request n =
    let m : UserLent = user_lent kept path [] call [] [] request [] in
    let l : Lent = lent_in m (key_of [] [] []) in
    let o : Outcome Call = stepped s (state_in m) l (call_of call) (start_give_up l) in
    let e = step-refusal s (state_in m) l (call_of call) (start_give_up l) n in
    left_alone s m (key_of [] [] []) (kept_after o.step.code o.state.kept kept) o n
    (sym (kept-left o.step.code o.state.kept kept n)) (ap (λ (x : Outcome Call). x.state) e) (ap (λ (x : Outcome Call). x.lent) e)

pub refusal-leaves_all_bytes : RefusalLeavesAllBytes
unfolding RefusalLeavesAllBytes
refusal-leaves_all_bytes s =
    record {
      answer = answer-leaves s;
      update = λ kept call request.
          start-leaves s (user_lent kept [] [] call [] [] request []) (key_of [] [] []) start_update (λ _. refl);
      write = λ tree entry randomizer kept path call held request.
          start-leaves s (user_lent kept path [] call [] held request []) (key_of [] [] tree) (λ l. start_write l entry randomizer)
          (λ _. refl);
      read = λ i kept call request entry.
          start-leaves s (user_lent kept [] [] call [] [] request entry) (key_of [] [] []) (λ l. start_read l i) (λ _. refl);
      give_up = give_up_start-leaves s;
    }
