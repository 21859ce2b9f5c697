-- What no step of an Update and none of a Write changes; only a Read finds something. What no step of a give-up changes stands with its
-- counts, in user_give_up's GiveUpAnswers.
use mathlib.Core.Path.{◌≡◌, refl}
use mathlib.Core.Bool.{cond}
use mathlib.Core.List.{List, []}
use Prim.Native.Nat.{ℕ}
use lib.Dec.{eqb}
use Rattle.tree.specs.Bytes.{written}
use Rattle.tree.specs.Setup.{Settings, first_code}
use Rattle.tree.proofs.Cases.{by_bool}
use Rattle.user.specs.Outcome.{State, Lent, with_held, Outcome, nothing, refusal}
use Rattle.user_update.specs.declared.call.Update.{Update}
use Rattle.user_update.specs.Update.{fresh_update, no_update, update_setup, update_goes, update_started, update_taken}
use Rattle.user_write.specs.declared.call.Write.{Write}
use Rattle.user_write.specs.Write.{fresh_write, no_write, write_start_checks, write_asks, write_waits, write_started, write_updates, write_goes, write_taken}
use Rattle.user_update.proofs.UpdateRules.{by_taken, by_goes}
use Rattle.user_write.proofs.WriteRules.{by_going, by_opening}
use Rattle.user_write.proofs.WriteAnswers.{by_updating}

-- an Update
pub record UpdateKeeps (σ : State) (m : Lent) (o : Outcome Update) : Type 0 where
  pub found : o.found ≡ nothing
  pub path : o.state.path ≡ σ.path
  pub signature : o.state.signature ≡ σ.signature
  pub held : o.lent.held ≡ m.held
  pub entry : o.lent.entry ≡ m.entry

goes_finds : (s : Settings) (σ : State) (m : Lent) (u : Update) → (update_goes s σ m u).found ≡ nothing
goes_finds s σ m u = by_goes s σ m u (λ o. o.found ≡ nothing) (λ _. refl) (λ _. refl)

pub update-start_finds : (s : Settings) (σ : State) (m : Lent) → (update_started s σ m).found ≡ nothing
unfolding update_started
update-start_finds s σ m =
    let code : ℕ = first_code (update_setup s σ.kept m.request) in
    by_bool (λ b. (cond b (update_goes s σ m fresh_update) (refusal code [] σ m no_update)).found ≡ nothing) (eqb code 0)
    (λ _. goes_finds s σ m fresh_update) (λ _. refl)

pub update-keeps : (s : Settings) (σ : State) (m : Lent) (u : Update) (a : List ℕ) → UpdateKeeps σ m (update_taken s σ m u a)
update-keeps s σ m u a =
    let Keeps : Outcome Update → Type 0 = λ o. UpdateKeeps σ m o in
    by_taken s σ m u a Keeps (λ _. record { found = refl; path = refl; signature = refl; held = refl; entry = refl })
    (λ _.
    by_goes s σ _ _ Keeps (λ _. record { found = refl; path = refl; signature = refl; held = refl; entry = refl })
    (λ _. record { found = refl; path = refl; signature = refl; held = refl; entry = refl }))

-- a Write
pub record WriteKeeps (m : Lent) (o : Outcome Write) : Type 0 where
  pub found : o.found ≡ nothing
  pub held : o.lent.held ≡ m.held
  pub entry : o.lent.entry ≡ m.entry

pub write-start_finds : (s : Settings) (σ : State) (m : Lent) (entry randomizer : List ℕ) → (write_started s σ m entry randomizer).found ≡ nothing
unfolding write_started write_asks write_waits
write-start_finds s σ m entry randomizer =
    let code : ℕ = first_code (write_start_checks s σ m entry) in
    let w : Write = fresh_write σ.kept entry randomizer in
    let m' : Lent = with_held m (written m.held 0 entry) in
    let asks : Outcome Write = write_asks s σ m' w in
    let waits : Outcome Write = write_waits σ w (update_goes s σ m' fresh_update) in
    by_bool (λ b. (cond b (cond σ.kept.opened asks waits) (refusal code [] σ m no_write)).found ≡ nothing) (eqb code 0)
    (λ _. by_bool (λ b. (cond b asks waits).found ≡ nothing) σ.kept.opened (λ _. refl) (λ _. refl)) (λ _. refl)

module _ (s : Settings) (σ : State) (m : Lent) (w : Write) (a : List ℕ) where
  open_keeps : WriteKeeps m (write_goes s σ m w a)
  unfolding write_asks
  open_keeps =
      by_going s σ m w a (λ o. WriteKeeps m o) (λ _. record { found = refl; held = refl; entry = refl })
      (λ _ _. record { found = refl; held = refl; entry = refl }) (λ _ _. record { found = refl; held = refl; entry = refl })

  updating-keeps : WriteKeeps m (write_updates s σ m w a)
  unfolding write_asks write_waits
  updating-keeps =
      by_updating s σ m w a (λ o. WriteKeeps m o) (λ _ _. record { found = refl; held = refl; entry = refl })
      (λ _ _.
      by_opening s σ m w _ a (λ o. WriteKeeps m o) (λ _. record { found = refl; held = refl; entry = refl })
      (λ _. record { found = refl; held = refl; entry = refl }))
      (λ _ _. record { found = refl; held = refl; entry = refl })

  pub write_keeps : WriteKeeps m (write_taken s σ m w a)
  unfolding write_taken
  write_keeps =
      by_bool (λ b. WriteKeeps m (cond b (write_goes s σ m w a) (write_updates s σ m w a))) w.opened (λ _. open_keeps) (λ _. updating-keeps)
