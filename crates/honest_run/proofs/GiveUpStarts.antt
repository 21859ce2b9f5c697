-- A valid give-up of an honest run starts: it begins, or goes on where an earlier one was cut, and tells the next server.
use mathlib.Core.Path.{◌≡◌, refl, ap, sym, ◌∙◌, subst}
use mathlib.Core.Bool.{true, false}
use mathlib.Core.List.{List}
use Prim.Native.Nat.{ℕ, suc, ◌<◌}
use native.Mathlib.Omega.{arith}
use Rattle.tree.specs.Label.{owner}
use Rattle.tree.proofs.Cases.{by_bool, not_both}
use Rattle.tree.proofs.Labels.{owner_range}
use Rattle.user.specs.Asking.{asking}
use Rattle.user.specs.Outcome.{State, with_kept, Lent, Outcome}
use Rattle.user_give_up.specs.declared.call.GiveUp.{GiveUp}
use Rattle.user_give_up.specs.GiveUp.{next_told, give_up_answers, beginning, give_up_started}
use Rattle.user_give_up.proofs.Servers.{unsent}
use Rattle.user_give_up.proofs.GiveUpAnswers.{nobody_missed, one_less}
use Rattle.user_calls.specs.Calls.{giving_up, start_give_up, as_call, stepped}
use Rattle.whole_run.specs.World.{User, new_reads, after}
use Rattle.honest_run.specs.Network.{HonestSetup, InRange, settings_in, Network, Run, entries_of}
use Rattle.honest_run.specs.Claim.{ValidMemory, ValidInput, ValidCall, answers_of, count_of}
use Rattle.honest_run.proofs.Invariant.{GivenUpOk, OpenOk}
use Rattle.honest_run.proofs.Frames.{set_same, open_progress, kept_still, kept-begun}
use Rattle.honest_run.proofs.Moves.{Leaves}
use Rattle.honest_run.proofs.Calls.{CallOk, begun_by, Between, Started}
use Rattle.honest_run.proofs.Starts.{fit_user, start-leaves}
use Rattle.honest_run.proofs.GiveUpSteps.{give_up_starts, asks_on, give_up_asks, give_up_waits}

module _ (c : HonestSetup) (range : InRange c) (r : Run Network) (a : ℕ) (m : Lent) (between : Between c r) (valid : ValidCall c r a (start_give_up m)) where
  abbrev user : User
  user = r.network.users a

  abbrev σ : State
  σ = user.state

  abbrev n : ℕ
  n = c.servers

  abbrev left_now : ℕ
  left_now = count_of c r a (start_give_up m)

  given : ValidMemory m × (σ.kept.opened ≡ true) × (σ.kept.progress.put ≡ false)
  unfolding ValidInput
  given = valid.input

  ok : OpenOk c between.log between.w between.g a (r.begun a) σ
  ok = (between.good.users_ok a).open_ok given.1

  shown_ok : GivenUpOk n between.g σ.kept between.good.servers_ok.shown
  shown_ok = between.good.shown_ok a given.1

  -- the owner of level 0 is to be told where nobody is done
  somebody : next_told n σ.kept ≡ 0 → ⊥
  somebody e =
      by_bool (λ b. σ.kept.progress.begun ≡ b → ⊥) σ.kept.progress.begun (λ _ b. shown_ok.left b e)
      (λ _ b.
      let p : ℕ = suc σ.kept.version in
      let o = owner_range n p 0 (omega (arith, range.two)) in
      let none = nobody_missed n σ.kept e (owner n p 0) (omega (arith, o.0, ok.progress.unbegun b)) o.1 in
      unsent n p (owner n p 0) σ.kept.progress.levels none 0 (omega (arith, ok.progress.some)) refl) refl

  abbrev τ : State
  τ = with_kept σ (beginning σ.kept)

  ok_then : OpenOk c between.log between.w between.g a (r.begun a) τ
  unfolding beginning
  ok_then =
      open_progress c between.log between.w between.g a (r.begun a) σ _ ok
      (record {
        some = ok.progress.some;
        most = ok.progress.most;
        signed_put = ok.progress.signed_put;
        begun_unput = λ _. given.2;
        done = ok.progress.done;
        unbegun = λ b. not_both true refl b;
      }) ok.unput

  next-then : next_told n τ.kept ≡ 0 → ⊥
  unfolding beginning next_told
  next-then = somebody

  leaves : Leaves c between.log between.w between.g a (begun_by r a (start_give_up m) a) τ r.network.servers
  unfolding beginning entries_of
  leaves =
      let same-entry = set_same r.begun a (r.begun a) in
      let before-then =
      kept-begun c between.log between.w between.g a (r.begun a) _ σ (λ _. same-entry) (between.good.users_ok a) in
      record {
        servers = between.good.servers_ok;
        shown = λ _. record { all = λ b. not_both true refl b; done = shown_ok.done; left = λ _. next-then };
        own =
            kept_still c between.log between.w between.g between.g a _ σ (beginning σ.kept) before-then refl refl refl
            (λ _. subst (λ (e : List ℕ). OpenOk c between.log between.w between.g a e τ) (sym same-entry) ok_then);
        room = λ _. between.good.room_ok a given.1;
        shut = λ t. not_both σ.kept.opened given.1 t;
        fits = between.good.fits;
        items = between.good.items;
        within = between.good.within;
      }

  abbrev asks_first : Outcome GiveUp
  asks_first = asks_on c range between.log between.w between.g a (r.begun a) τ m ok_then next-then

  starts : give_up_started (settings_in c a) σ m ≡ asks_first
  starts =
      let fit = fit_user c range between.log between.w between.g a r.begun r.network valid.one valid.listed between.good in
      give_up_starts (settings_in c a) σ m fit.settings-fit fit.kept-fit given.1 given.2 given.0.request
      ∙ give_up_asks c range between.log between.w between.g a (r.begun a) τ m ok_then next-then

  counted : give_up_answers n τ.kept ≡ left_now
  unfolding answers_of beginning give_up_answers
  counted = refl

  some : 0 < left_now
  unfolding answers_of
  some = omega (arith, one_less n σ.kept somebody)

  -- a valid give-up starts
  pub give_up_start : Started c r a (start_give_up m) left_now
  unfolding stepped CallOk asking after new_reads beginning
  give_up_start =
      start-leaves c r a (start_give_up m) left_now (as_call giving_up asks_first) between valid.alone some (ap (as_call giving_up) starts) refl refl leaves refl
      (give_up_waits c range between.log between.w between.g a (r.begun a) τ m ok_then next-then user left_now given.0 given.1 given.2 refl
      counted)
