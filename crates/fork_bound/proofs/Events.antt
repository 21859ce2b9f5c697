-- What is noted of a user's step: the request that it hands out, strings that were hashed, a Record that was accepted, and what an open
-- write signs.
use mathlib.Core.Path.{◌≡◌, refl}
use mathlib.Core.Bool.{Bool, true, false, cond}
use mathlib.Core.List.{List, [], ◌∷◌, ◌++◌, map, Memᴰ}
use mathlib.Core.Logic.{◌⊎◌, inl, inr}
use Prim.Native.Nat.{ℕ, suc}
use native.Mathlib.Omega.{arith}
use lib.Dec.{eqb}
use borrow.Author.Tests.{eqb-true}
use Rattle.tree.specs.Level.{lg}
use Rattle.tree.specs.Expr.{strings}
use Rattle.tree.specs.Cover.{cover_path}
use Rattle.tree.specs.Message.{signed_text}
use Rattle.tree.specs.Setup.{Settings, on, first_code}
use Rattle.tree.proofs.Cases.{not_both}
use Rattle.user.specs.declared.call.Kept.{Kept}
use Rattle.user.specs.declared.call.StepResult.{StepResult}
use Rattle.user.specs.Asking.{user_setup_checks, request_room}
use Rattle.user.specs.Outcome.{State, Lent, Outcome}
use Rattle.user.proofs.Passed.{setup-passed, by_cond}
use Rattle.user_update.specs.declared.call.Update.{Update}
use Rattle.user_write.specs.declared.call.Write.{Write}
use Rattle.user_write.specs.Write.{own_leaf, path_digest, held_entry, signs_next, write_goes, write_taken}
use Rattle.user_read.specs.declared.call.Read.{Read}
use Rattle.user_read.specs.Read.{read_over}
use Rattle.user_calls.specs.Calls.{Call, idle, updating, writing, reading, giving_up, Input, start_update, start_write, start_read, start_give_up, answer, taken, stepped}
use Rattle.whole_run.specs.World.{Event, hashed, signed, accepted, handed_out, User, sent_by, cover_strings, record_accepted}
use Rattle.whole_run.specs.World.{update_events, opening_hashed, write_signed, write_events, read_events, answer_events}
use Rattle.whole_run.specs.World.{accepted_events, handed_events, events_of, user_step}
use Rattle.fork_bound.proofs.Noted.{Every, every_none, every_cons, every_append, every_cond, every_hashed}

-- an answer where no request is out is refused
pub stray : (s : Settings) (σ : State) (m : Lent) → first_code (user_setup_checks s σ.kept (request_room m.request) ++ (on 10 false ∷ [])) ≡ 0 → ⊥
unfolding first_code
stray s σ m z = let x = (setup-passed s σ.kept (request_room m.request) _ z).2 in omega arith

-- what holds of each string hashed and each Record accepted holds of all but signatures
module _ (P : Event → Type 0) (of-hashed : (t : List ℕ) → P (hashed t)) (of-accepted : (a : ℕ) (t : List ℕ) → P (accepted a t)) (s : Settings) where
  maybe_hashed : (b : Bool) (ss : List (List ℕ)) → Every P (cond b (map hashed ss) [])
  maybe_hashed b ss = every_cond P b _ [] (λ _. every_hashed P of-hashed ss) (λ _. every_none P)

  record_events : (c next : Update) (a : List ℕ) → Every P (record_accepted s c next a)
  unfolding record_accepted
  record_events c next a =
      every_cond P (eqb c.answers s.servers) _ [] (λ _. every_cons P _ [] (of-accepted _ _) (every_none P)) (λ _. every_none P)

  update-events : (v : ℕ) (o : Outcome Update) (c : Update) (a : List ℕ) → Every P (update_events s v c a o)
  unfolding update_events
  update-events v o c a =
      every_append P _ _ (maybe_hashed o.step.ended (cover_strings v o.call.position o.lent.hashes)) (record_events c o.call a)

  read-events : (v : ℕ) (o : Outcome Read) → Every P (read_events v o)
  unfolding read_events
  read-events v o = maybe_hashed o.step.ended (strings (read_over v o.call o.lent.hashes o.lent.held))

  opening-events : (v : ℕ) (w : Write) (o : Outcome Write) → Every P (opening_hashed s v w o)
  unfolding opening_hashed
  opening-events v w o =
      let p = o.state.kept.version in
      let path = cover_path v p o.lent.hashes (own_leaf s (held_entry w o.lent.held)) (lg (suc p)) in
      maybe_hashed o.call.opened (cover_strings v p o.lent.hashes ++ strings path)

  -- the text that an open write signs
  abbrev pub signed_in : Kept → Outcome Write → List ℕ
  signed_in k o = let p = suc k.version in signed_text s.log p (path_digest p o.state.path)

  write-events : (k : Kept) (w : Write) (o : Outcome Write) (a : List ℕ)
      → (w.opened ≡ true → signs_next k w ≡ true → P (signed s.own (signed_in k o))) → Every P (write_events s k w a o)
  unfolding write_events write_signed
  write-events k w o a f =
      every_cond P w.opened _ _
      (λ e. every_cond P (signs_next k w) _ [] (λ y. every_cons P _ [] (f e y) (every_none P)) (λ _. every_none P))
      (λ _. every_append P _ _ (opening-events k.version w o) (record_events w.update o.call.update a))

  module _ (u : User) where
    -- what holds of the signature, if an answer to the call c makes one
    abbrev pub Signing : List ℕ → Call → Type 0
    Signing a idle = Unit {0}
    Signing a (updating c) = Unit {0}
    Signing a (writing w) =
        let o = write_goes s u.state u.lent w a in
        w.opened ≡ true → o.step.code ≡ 0 → signs_next u.state.kept w ≡ true → P (signed s.own (signed_in u.state.kept o))
    Signing a (reading r) = Unit {0}
    Signing a (giving_up g) = Unit {0}

    abbrev pub SigningIn : Input → Type 0
    SigningIn (start_update m) = Unit {0}
    SigningIn (start_write m entry randomizer) = Unit {0}
    SigningIn (start_read m i) = Unit {0}
    SigningIn (start_give_up m) = Unit {0}
    SigningIn (answer a) = Signing a u.call

    answer-events : (a : List ℕ) (c : Call) → Signing a c → (taken s u.state u.lent c a).step.code ≡ 0 → Every P (answer_events s u a c)
    unfolding taken answer_events write_taken
    answer-events a idle f = λ _. every_none P
    answer-events a (updating c) f = λ _. update-events _ _ c a
    answer-events a (writing w) f =
        let k = u.state.kept in
        by_cond (λ (o : Outcome Write). o.step.code ≡ 0 → Every P (write_events s k w a o)) w.opened _ _
        (λ e z. write-events k w _ a (λ _ n. f e z n)) (λ e _. write-events k w _ a (λ o _. not_both w.opened o e))
    answer-events a (reading r) f = λ _. read-events _ _
    answer-events a (giving_up g) f = λ _. every_none P

    pub accepted-events : (i : Input) → SigningIn i → (stepped s u.state u.lent u.call i).step.code ≡ 0 → Every P (accepted_events s u i)
    unfolding stepped accepted_events
    accepted-events (start_update m) f z = every_none P
    accepted-events (start_write m entry randomizer) f z = maybe_hashed u.state.kept.opened (strings (own_leaf s entry))
    accepted-events (start_read m i) f z = every_none P
    accepted-events (start_give_up m) f z = every_none P
    accepted-events (answer a) f z = answer-events a u.call f z

-- the request that a step hands out
pub handed_event : (a : ℕ) (x : StepResult) (buffer : List ℕ) (e : Event) → Memᴰ e (handed_events a x buffer)
    → e ≡ handed_out a (sent_by x buffer).server (sent_by x buffer).bytes
unfolding handed_events
handed_event a x buffer e =
    let r = handed_out a (sent_by x buffer).server (sent_by x buffer).bytes in
    every_cond (λ f. f ≡ r) x.ended [] _ (λ _. every_none (λ f. f ≡ r)) (λ _. every_cons (λ f. f ≡ r) r [] refl (every_none (λ f. f ≡ r))) e

-- every event of a step is that request, or is noted of what the step accepted
pub step_event : (s : Settings) (u : User) (i : Input) (e : Event) → Memᴰ e (user_step s u i).events
    → let o = stepped s u.state u.lent u.call i in
    (o.step.code ≡ 0) × ((e ≡ handed_out s.own (sent_by o.step o.lent.request).server (sent_by o.step o.lent.request).bytes)
    ⊎ Memᴰ e (accepted_events s u i))
unfolding user_step events_of
step_event s u i e =
    let o = stepped s u.state u.lent u.call i in
    let Is : Event → Type 0 = λ f. (o.step.code ≡ 0)
    × ((f ≡ handed_out s.own (sent_by o.step o.lent.request).server (sent_by o.step o.lent.request).bytes)
    ⊎ Memᴰ f (accepted_events s u i)) in
    every_cond Is (eqb o.step.code 0) _ []
    (λ z.
    every_append Is (handed_events s.own o.step o.lent.request) (accepted_events s u i)
    (λ f y. (eqb-true o.step.code 0 z, inl (handed_event s.own o.step o.lent.request f y)))
    (λ f y. (eqb-true o.step.code 0 z, inr y)))
    (λ _. every_none Is) e
