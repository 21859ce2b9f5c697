-- Every step of a user keeps what holds of it, and of each event that it notes there is what stands behind it.
use mathlib.Core.Path.{◌≡◌, refl, sym, subst}
use mathlib.Core.List.{List}
use Prim.Native.Nat.{ℕ}
use borrow.Author.Tests.{eq-eqb}
use Rattle.tree.specs.Setup.{Settings}
use Rattle.tree.proofs.Cases.{cases_eq}
use Rattle.user.specs.Asking.{refused}
use Rattle.user_write.specs.Write.{write_taken}
use Rattle.user.proofs.Passed.{by_cond}
use Rattle.user_calls.specs.Calls.{Call, idle, updating, writing, reading, giving_up, Input, start_update, start_write, start_read, start_give_up, answer, taken, stepped}
use Rattle.whole_run.specs.World.{settings_for, User, after, answer_events, accepted_events, handed_events, events_of, user_step}
use Rattle.whole_run.specs.Runs.{Sized}
use Rattle.whole_run.proofs.Refusals.{refused-step, accepted-step}
use Rattle.fork_bound.proofs.Noted.{Whole, Within, within_right, Every}
use Rattle.fork_bound.proofs.Events.{stray, Signing, SigningIn, accepted-events}
use Rattle.fork_bound.proofs.States.{CallOk, UserOk, Behind}
use Rattle.fork_bound.proofs.UpdateSteps.{update-taken_ok, update-started_ok}
use Rattle.fork_bound.proofs.WriteSteps.{WriteKeeps, write-goes_ok, signs_rightly}
use Rattle.fork_bound.proofs.Opening.{write_updates_ok, write-started_ok}
use Rattle.fork_bound.proofs.ReadSteps.{read-taken_ok, read-started_ok}
use Rattle.fork_bound.proofs.GiveUpSteps.{give_up_taken_ok, give_up_started_ok}

module _ (W : Whole) (own : ℕ) (u : User) (ok : UserOk W own u) where
  abbrev s : Settings
  s = settings_for W.group own

  -- an answer that is taken
  taken_ok : (a : List ℕ) (c : Call) → CallOk W own u.state u.sent c → (taken s u.state u.lent c a).step.code ≡ 0
      → Within W (answer_events s u a c) → UserOk W own (after u (taken s u.state u.lent c a))
  unfolding taken answer_events write_taken refused
  taken_ok a idle i = λ z _. absurd (stray s u.state u.lent z)
  taken_ok a (updating c) i = update-taken_ok W own u ok c a i
  taken_ok a (writing w) i =
      by_cond (WriteKeeps W own u w a) w.opened _ _ (λ e. write-goes_ok W own u ok w a i e) (λ e. write_updates_ok W own u ok w a i e)
  taken_ok a (reading r) i = read-taken_ok W own u ok r a i
  taken_ok a (giving_up c) i = λ z _. give_up_taken_ok W own u ok c a z

  accepted_ok : (i : Input) → Sized i → (stepped s u.state u.lent u.call i).step.code ≡ 0
      → Within W (accepted_events s u i) → UserOk W own (after u (stepped s u.state u.lent u.call i))
  unfolding stepped accepted_events
  accepted_ok (start_update m) fair z f = update-started_ok W own u ok m z
  accepted_ok (start_write m entry randomizer) fair z f = write-started_ok W own u ok m entry randomizer fair z
  accepted_ok (start_read m p) fair z f = read-started_ok W own u ok m p z
  accepted_ok (start_give_up m) fair z f = give_up_started_ok W own u ok m z
  accepted_ok (answer a) fair z f = taken_ok a u.call ok.call z f

  pub step_ok : (i : Input) → Sized i → Within W (user_step s u i).events → UserOk W own (user_step s u i).user
  unfolding user_step events_of
  step_ok i fair f =
      cases_eq (user_step s u i).step.code 0
      (λ z.
      let o = stepped s u.state u.lent u.call i in
      let noted = within_right W (handed_events own o.step o.lent.request) (accepted_events s u i) (rw (eq-eqb o.step.code 0 z) at f) in
      subst (UserOk W own) (sym (accepted-step s u i z)) (accepted_ok i fair z noted))
      (λ n. subst (UserOk W own) (sym (refused-step s u i n)) ok)

  -- what is noted of it
  behind-signing : (i : Input) → SigningIn (Behind W own) (λ _. tt) (λ _ _. tt) s u i
  behind-signing (start_update m) = tt
  behind-signing (start_write m entry randomizer) = tt
  behind-signing (start_read m i) = tt
  behind-signing (start_give_up m) = tt
  behind-signing (answer a) = go u.call ok.call
    where
      go : (c : Call) → CallOk W own u.state u.sent c → Signing (Behind W own) (λ _. tt) (λ _ _. tt) s u a c
      go idle i = tt
      go (updating c) i = tt
      go (writing w) i = λ e z n. (refl, signs_rightly W own u ok w a i e z n)
      go (reading r) i = tt
      go (giving_up g) i = tt

  pub step-behind : (i : Input) → (stepped s u.state u.lent u.call i).step.code ≡ 0 → Every (Behind W own) (accepted_events s u i)
  step-behind i z = accepted-events (Behind W own) (λ _. tt) (λ _ _. tt) s u i (behind-signing i) z
