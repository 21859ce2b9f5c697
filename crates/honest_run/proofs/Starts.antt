-- A valid call of an honest run starts: it is not refused, and is on its way with its count of answers to come.
use mathlib.Core.Path.{◌≡◌, refl, ap, sym, ◌∙◌, subst}
use mathlib.Core.Bool.{true, false}
use mathlib.Core.List.{List, []}
use Prim.Native.Nat.{ℕ, suc, ◌≤◌, ◌<◌}
use native.Mathlib.Omega.{arith}
use native.Mathlib.Nat.{zero-add}
use Rattle.sha256.proofs.Cases.{by_bool}
use Rattle.tree.proofs.Cases.{not_both}
use Rattle.user.specs.Asking.{kept_fits, asking}
use Rattle.user.proofs.Ranges.{ProgressInRange}
use Rattle.user.specs.Outcome.{State, Lent, Outcome}
use Rattle.user_update.specs.Update.{fresh_update, update_goes, update_started, update_want, update_answers}
use Rattle.user_update.proofs.UpdateRules.{by_goes, fresh_waits, going_on}
use Rattle.user_calls.specs.Calls.{updating, Input, start_update, as_call, stepped, Call}
use Rattle.whole_run.specs.World.{User, user_step, returned, new_reads, after}
use Rattle.whole_run.proofs.Refusals.{accepted-step}
use Rattle.honest_run.specs.Network.{HonestSetup, InRange, settings_in, Network, steps, Run, entries_of}
use Rattle.honest_run.specs.Claim.{Alone, ValidMemory, ValidInput, ValidCall, answers_of, count_of}
use Rattle.honest_run.proofs.Invariant.{Item, Good}
use Rattle.honest_run.proofs.Frames.{set_same, sent_for_lem, memory-asks, handed_out}
use Rattle.honest_run.proofs.Keys.{user-count, user-settings, kept-fits_shut, kept-fits_open}
use Rattle.honest_run.proofs.Answers.{Fit}
use Rattle.honest_run.proofs.Updates.{fresh-update}
use Rattle.honest_run.proofs.UpdateSteps.{update-starts}
use Rattle.honest_run.proofs.Moves.{with_user, Leaves, none_open, leaves_same}
use Rattle.honest_run.proofs.Calls.{Updates, UpdateCall, CallOk, begun_by, Between, OnWay, Started, entry_begun}
use Rattle.honest_run.proofs.Steps.{on_way_from}

-- what a user keeps is in range
kept-fits : (c : HonestSetup) (L : ℕ → Item) (w g a : ℕ) (b : ℕ → List ℕ) (x : Network) → Good c L w g b x
    → kept_fits (settings_in c a) (x.users a).state.kept ≡ true
kept-fits c L w g a b x good =
    let u = good.users_ok a in
    let k = (x.users a).state.kept in
    by_bool (λ t. k.opened ≡ t → kept_fits (settings_in c a) k ≡ true) k.opened
    (λ _ e.
    let ok = u.open_ok e in
    kept-fits_open (settings_in c a) k (omega (arith, ok.version, ok.within)) u.number
    (subst (λ v. ProgressInRange c.servers (suc v) k.signed k.progress) (sym ok.version) ok.progress))
    (λ _ e. kept-fits_shut (settings_in c a) k e (omega (arith, u.low, good.within)) u.number) refl

-- the user's settings, and what it keeps, are those of a user in this log
pub fit_user : (c : HonestSetup) → InRange c → (L : ℕ → Item) (w g a : ℕ) (b : ℕ → List ℕ) (x : Network) → 1 ≤ a → a ≤ c.count → Good c L w g b x
    → Fit c L w a (x.users a).state.kept
fit_user c range L w g a b x one last good =
    record {
      settings-fit = user-settings c range a one last;
      kept-fit = kept-fits c L w g a b x good;
      low = (good.users_ok a).low;
      within = good.within;
      digest_ok = (good.users_ok a).digest_ok;
      items = good.items;
      counted = user-count c range;
    }

-- a start that leaves o and has a request out: the call is on its way
pub start-leaves : (c : HonestSetup) (r : Run Network) (a : ℕ) (i : Input) (n : ℕ) (o : Outcome Call) (between : Between c r) → Alone r.network a → 0 < n
    → stepped (settings_in c a) (r.network.users a).state (r.network.users a).lent (r.network.users a).call i ≡ o
    → o.step.code ≡ 0 → o.step.ended ≡ false
    → Leaves c between.log between.w between.g a (begun_by r a i a) o.state r.network.servers
    → (after (r.network.users a) o).reads ≡ (r.network.users a).reads
    → CallOk c between.log between.w between.g a n (after (r.network.users a) o) r.network.servers i → Started c r a i n
unfolding steps user_step after
start-leaves c r a i n o between alone some is code ended leaves reads_same call =
    let x = r.network in
    let u = x.users a in
    let g = between.g in
    let passed = ap (λ (z : Outcome Call). z.step.code) is ∙ code in
    record {
      some = some;
      code = passed;
      ended = ap (λ (z : Outcome Call). z.step.ended) is ∙ ended;
      on_way =
          subst (λ (v : User). OnWay c r a i n (with_user x a v x.servers))
          (sym (accepted-step (settings_in c a) u i passed ∙ ap (λ (z : Outcome Call). after u z) is))
          (on_way_from c r a i between.log between.log between.w g g n r.begun x (after u o) x.servers between.good alone
          between.holds refl (λ j h. refl) leaves reads_same call);
    }

-- one that leaves what was kept
pub start-goes : (c : HonestSetup) (r : Run Network) (a : ℕ) (i : Input) (n : ℕ) (o : Outcome Call) (between : Between c r) → Alone r.network a → 0 < n
    → stepped (settings_in c a) (r.network.users a).state (r.network.users a).lent (r.network.users a).call i ≡ o
    → o.step.code ≡ 0 → o.step.ended ≡ false → o.state ≡ (r.network.users a).state
    → (after (r.network.users a) o).reads ≡ (r.network.users a).reads
    → ((r.network.users a).state.kept.opened ≡ true → entry_begun i (r.begun a) ≡ r.begun a)
    → CallOk c between.log between.w between.g a n (after (r.network.users a) o) r.network.servers i → Started c r a i n
start-goes c r a i n o between alone some is code ended state-same reads_same entry-same =
    let x = r.network in
    start-leaves c r a i n o between alone some is code ended
    (leaves_same c between.log between.w between.g a r.begun x between.good alone o.state x.servers (begun_by r a i a) state-same
    (λ t. set_same r.begun a (entry_begun i (r.begun a)) ∙ entry-same t) (λ s one. refl)) reads_same

-- the first Status goes out
pub first_status : (c : HonestSetup) → InRange c → (a : ℕ) (σ : State) (m : Lent)
    → update_goes (settings_in c a) σ m fresh_update ≡ going_on (settings_in c a) σ m fresh_update
first_status c range a σ m =
    by_goes (settings_in c a) σ m fresh_update (λ l. l ≡ going_on (settings_in c a) σ m fresh_update)
    (λ e. not_both _ e (fresh_waits c.servers σ.kept.version (omega (arith, range.two)))) (λ _. refl)

-- with nothing open and memory m: the Update that starts, a call of its own or a Write's
pub first_updates : (c : HonestSetup) → InRange c → (r : Run Network) (a : ℕ) (between : Between c r) → Alone r.network a
    → (r.network.users a).state.kept.opened ≡ false → (m : Lent) → ValidMemory m
    → Updates c between.log between.w between.g a (r.network.users a).state m.hashes
    (handed_out c a (update_want c.servers (r.network.users a).state.kept.version fresh_update) [] m.request) fresh_update
first_updates c range r a between alone shut m memory =
    let v = (r.network.users a).state.kept.version in
    record {
      none_open = none_open c between.log between.w between.g a r.begun r.network between.good alone shut;
      shut = shut;
      on_way = fresh-update c.servers v between.w between.log m.hashes (omega (arith, range.two));
      waits = fresh_waits c.servers v (omega (arith, range.two));
      asks_next_lem = sent_for_lem c range a (update_want c.servers v fresh_update) [] m.request (omega (arith, memory.request));
    }

-- an Update
module _ (c : HonestSetup) (range : InRange c) (r : Run Network) (a : ℕ) (m : Lent) (between : Between c r) (valid : ValidCall c r a (start_update m)) where
  abbrev user : User
  user = r.network.users a

  abbrev asks_first : Outcome Call
  asks_first = as_call updating (going_on (settings_in c a) user.state m fresh_update)

  input : ValidMemory m × (user.state.kept.opened ≡ false)
  unfolding ValidInput
  input = valid.input

  fit : Fit c between.log between.w a user.state.kept
  fit = fit_user c range between.log between.w between.g a r.begun r.network valid.one valid.listed between.good

  starts : update_started (settings_in c a) user.state m ≡ going_on (settings_in c a) user.state m fresh_update
  starts =
      update-starts c between.log between.w a user.state m fit input.1 input.0.request ∙ first_status c range a user.state m

  call : UpdateCall c between.log between.w between.g a (count_of c r a (start_update m)) (after user asks_first)
  unfolding after answers_of fresh_update asking returned
  call =
      record {
        call = fresh_update;
        is = refl;
        memory = memory-asks m _ input.0;
        updates = first_updates c range r a between valid.alone input.1 m input.0;
        count = zero-add _ ∙ ap (update_answers c.servers user.state.kept.version) (sym between.holds.count);
      }

  -- a valid Update starts
  pub update_start : Started c r a (start_update m) (count_of c r a (start_update m))
  unfolding stepped CallOk entries_of answers_of update_answers asking after new_reads
  update_start =
      start-goes c r a (start_update m) (count_of c r a (start_update m)) asks_first between valid.alone (omega (arith, range.two))
      (ap (as_call updating) starts) refl refl refl refl (λ _. refl) call
