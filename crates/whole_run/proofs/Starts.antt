-- A start takes no notice of what it is not lent: what the exports' contracts say, which name only what is lent, is what the runs use.
use mathlib.Core.Path.{◌≡◌, refl}
use mathlib.Core.Bool.{cond}
use mathlib.Core.List.{List, []}
use Prim.Native.Nat.{ℕ, suc}
use lib.Dec.{eqb}
use Rattle.tree.specs.Bytes.{written}
use Rattle.tree.specs.Setup.{first_code, Settings}
use Rattle.tree.proofs.Cases.{by_bool}
use Rattle.user.specs.Outcome.{State, state_of, with_kept, key_of, Lent, lent_of, with_held, with_request, Outcome, nothing, refusal, ending, handing_out}
use Rattle.user_update.specs.Update.{fresh_update, no_update, update_ended, update_setup, update_goes, update_started}
use Rattle.user_write.specs.declared.call.Write.{Write}
use Rattle.user_give_up.specs.declared.call.GiveUp.{GiveUp}
use Rattle.user_give_up.specs.GiveUp.{waiting, no_give_up, next_told, give_up_want, give_up_setup, beginning, closed, give_up_goes, give_up_started}
use Rattle.user_write.specs.Write.{path_digest, write_room, write_start_checks, fresh_write, no_write, held_entry, write_asks, write_waits, write_started}
use Rattle.user_read.specs.Read.{read_checks, read_at, no_read, read_asks, read_started}
use Rattle.user_update.proofs.UpdateRules.{ended_with, going_on}
use Rattle.user_write.proofs.Writes.{body-first}

-- What a start left that was lent less than σ and m, with the rest of them put in place.
abbrev pub restored : {C : Type 0} → State → Lent → Outcome C → Outcome C
restored σ m o =
    record {
      step = o.step;
      found = o.found;
      state = state_of o.state.kept σ.path σ.signature;
      call = o.call;
      lent = with_request m o.lent.request;
    }

module _ (s : Settings) (σ : State) (m : Lent) where
  -- An Update is lent the request buffer, and of the state neither path nor signature.
  pub update_start : update_started s σ m
      ≡ restored σ m (update_started s (state_of σ.kept [] []) (lent_of [] [] m.request [] (key_of [] [] [])))
  unfolding update_started update_goes
  update_start =
      let σ₀ = state_of σ.kept [] [] in
      let m₀ = lent_of [] [] m.request [] (key_of [] [] []) in
      let code = first_code (update_setup s σ.kept m.request) in
      by_bool (λ b. cond b (update_goes s σ m fresh_update) (refusal code [] σ m no_update)
      ≡ restored σ m (cond b (update_goes s σ₀ m₀ fresh_update) (refusal code [] σ₀ m₀ no_update)))
      (eqb code 0)
      (λ _.
      by_bool (λ b. cond b (ended_with σ m fresh_update) (going_on s σ m fresh_update)
      ≡ restored σ m (cond b (ended_with σ₀ m₀ fresh_update) (going_on s σ₀ m₀ fresh_update)))
      (update_ended s.servers σ.kept.version fresh_update) (λ _. refl) (λ _. refl))
      (λ _. refl)

  -- A Read is lent the buffer for the entry as well.
  pub read-start : (i : ℕ) → read_started s σ m i
      ≡ restored σ m (read_started s (state_of σ.kept [] []) (lent_of [] [] m.request m.entry (key_of [] [] [])) i)
  unfolding read_started read_checks read_asks
  read-start i =
      let σ₀ = state_of σ.kept [] [] in
      let m₀ = lent_of [] [] m.request m.entry (key_of [] [] []) in
      let code = first_code (read_checks s σ.kept i m) in
      by_bool (λ b. cond b (read_asks s σ m (read_at i 0)) (refusal code [] σ m (no_read i))
      ≡ restored σ m (cond b (read_asks s σ₀ m₀ (read_at i 0)) (refusal code [] σ₀ m₀ (no_read i))))
      (eqb code 0) (λ _. refl) (λ _. refl)

  -- A give-up is lent the path and the request buffer.
  pub give_up_start : give_up_started s σ m
      ≡ restored σ m (give_up_started s (state_of σ.kept σ.path []) (lent_of [] [] m.request [] (key_of [] [] [])))
  unfolding give_up_started give_up_goes
  give_up_start =
      let σ₀ = state_of σ.kept σ.path [] in
      let m₀ = lent_of [] [] m.request [] (key_of [] [] []) in
      let code = first_code (give_up_setup s σ.kept m.request) in
      let k = beginning σ.kept in
      by_bool (λ b. cond b (give_up_goes s (with_kept σ k) m) (refusal code [] σ m no_give_up)
      ≡ restored σ m (cond b (give_up_goes s (with_kept σ₀ k) m₀) (refusal code [] σ₀ m₀ no_give_up)))
      (eqb code 0)
      (λ _.
      let asks : Lent → State → Outcome GiveUp =
      λ l τ. handing_out s (give_up_want s.servers k) (path_digest (suc k.version) σ.path) (with_kept τ k) l waiting in
      let ends : Lent → State → Outcome GiveUp = λ l τ. ending nothing (with_kept τ (closed k)) l no_give_up in
      by_bool (λ b. cond b (ends m σ) (asks m σ) ≡ restored σ m (cond b (ends m₀ σ₀) (asks m₀ σ₀))) (eqb (next_told s.servers k) 0) (λ _. refl) (λ _. refl))
      (λ _. refl)

  -- A Write is lent the path, the entry that it holds, which it changes, the request buffer and the key's tree.
  module _ (entry randomizer : List ℕ) where
    abbrev pub σ₀ : State
    σ₀ = state_of σ.kept σ.path []

    abbrev pub m₀ : Lent
    m₀ = lent_of [] m.held m.request [] (key_of [] [] m.key.tree)

    abbrev holding : Lent → Lent
    holding l = with_held l (written l.held 0 entry)

    abbrev fresh : Write
    fresh = fresh_write σ.kept entry randomizer

    abbrev pub Alike : Outcome Write → Outcome Write → Type 0
    Alike o o₀ = o ≡ restored σ (with_held m o₀.lent.held) o₀

    resumes : Alike (write_asks s σ (holding m) fresh) (write_asks s σ₀ (holding m₀) fresh)
    unfolding write_asks fresh_write
    resumes =
        let held = held_entry fresh (written m.held 0 entry) in
        rw (body-first (suc σ.kept.version) σ.path held held σ.signature)

    waits : Alike (write_waits σ fresh (update_goes s σ (holding m) fresh_update)) (write_waits σ₀ fresh (update_goes s σ₀ (holding m₀) fresh_update))
    unfolding write_waits update_goes
    waits =
        by_bool (λ b. Alike (write_waits σ fresh (cond b (ended_with σ (holding m) fresh_update) (going_on s σ (holding m) fresh_update)))
        (write_waits σ₀ fresh (cond b (ended_with σ₀ (holding m₀) fresh_update) (going_on s σ₀ (holding m₀) fresh_update))))
        (update_ended s.servers σ.kept.version fresh_update) (λ _. refl) (λ _. refl)

    pub write_start : Alike (write_started s σ m entry randomizer) (write_started s σ₀ m₀ entry randomizer)
    unfolding write_started write_start_checks write_room
    write_start =
        let code = first_code (write_start_checks s σ m entry) in
        let asks = write_asks s σ (holding m) fresh in
        let asks₀ = write_asks s σ₀ (holding m₀) fresh in
        let updates = write_waits σ fresh (update_goes s σ (holding m) fresh_update) in
        let updates₀ = write_waits σ₀ fresh (update_goes s σ₀ (holding m₀) fresh_update) in
        by_bool (λ b. Alike (cond b (cond σ.kept.opened asks updates) (refusal code [] σ m no_write))
        (cond b (cond σ.kept.opened asks₀ updates₀) (refusal code [] σ₀ m₀ no_write)))
        (eqb code 0) (λ _. by_bool (λ o. Alike (cond o asks updates) (cond o asks₀ updates₀)) σ.kept.opened (λ _. resumes) (λ _. waits)) (λ _. refl)
