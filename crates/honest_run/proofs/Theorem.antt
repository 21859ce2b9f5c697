-- The claim about every honest run.
use mathlib.Core.Path.{◌≡◌, refl}
use mathlib.Core.Bool.{false}
use mathlib.Core.List.{[]}
use Prim.Native.Nat.{ℕ, suc, ◌-◌, ◌<◌}
use native.Mathlib.Omega.{arith}
use Rattle.sha256.proofs.Cases.{by_bool}
use Rattle.tree.proofs.Cases.{not_both}
use Rattle.user.specs.declared.call.StepResult.{StepResult}
use Rattle.user_calls.specs.Calls.{Input, start_update, start_write, start_read, start_give_up, answer}
use Rattle.whole_run.specs.Runs.{NewUser, new_user, NewWorld, new_server, server_after}
use Rattle.honest_run.specs.Network.{HonestSetup, InRange, in_records, Network, reply, arrives, network_after, new_network, Run, run_of}
use Rattle.honest_run.specs.Claim.{ValidInput, ValidCall, count_of, CallsServe, HonestRun}
use Rattle.honest_run.proofs.Invariant.{Item, Good, KeptOk}
use Rattle.honest_run.proofs.Frames.{set_other, run_from}
use Rattle.honest_run.proofs.Keys.{server-settings}
use Rattle.honest_run.proofs.Servers.{server-at-first}
use Rattle.honest_run.proofs.Moves.{all_reached, good_same}
use Rattle.honest_run.proofs.Calls.{begun_by, Between, OnWay, Over, Started, Stepped, Late, write-call}
use Rattle.honest_run.proofs.Starts.{update_start}
use Rattle.honest_run.proofs.WriteStarts.{write_start}
use Rattle.honest_run.proofs.ReadStarts.{read-start}
use Rattle.honest_run.proofs.UpdateCalls.{update-step, update_late}
use Rattle.honest_run.proofs.WriteCalls.{updating-step, updating_late}
use Rattle.honest_run.proofs.OpenCalls.{open_late, open_step}
use Rattle.honest_run.proofs.ReadCalls.{read_step, read_late}
use Rattle.honest_run.proofs.GiveUpStarts.{give_up_start}
use Rattle.honest_run.proofs.GiveUpCalls.{give_up_step_lem, give_up_late}
use Rattle.honest_run.proofs.Refused.{refused-leaves}
use Rattle.honest_run.proofs.Run.{on_way, every_call}

-- nothing is written yet
none : ℕ → Item
none i = record { author = 0; entry = []; signature = [] }

first-user : (c : HonestSetup) (a : ℕ) (b : NewUser) → KeptOk c none 0 0 a [] (new_user b).state
unfolding new_user
first-user c a b =
    record {
      low = omega arith;
      number = omega arith;
      digest_ok = λ z. absurd (omega arith);
      path_size = b.path_size;
      signature_size = b.signature_size;
      open_ok = λ t. not_both false t refl;
    }

first_between : (c : HonestSetup) → InRange c → (b : NewWorld) → Between c (run_from c b [])
unfolding run_of new_network new_user new_server
first_between c range b =
    record {
      log = none;
      w = 0;
      g = 0;
      good =
          record {
            servers_ok =
                all_reached c none 0 0 (λ s. new_server (b.servers s))
                (λ s low high. server-at-first c none s (b.servers s) low (server-settings c range s low high));
            shown_ok = λ a t. not_both false t refl;
            users_ok = λ a. first-user c a (b.users a);
            room_ok = λ a t. not_both false t refl;
            free = λ _. refl;
            fits = omega arith;
            items = λ i h. absurd (omega arith);
            within = omega arith;
          };
      holds = record { count = refl; author = λ i h. absurd (omega arith); entry = λ i h. absurd (omega arith) };
    }

-- a call that has ended has no request out
late_over : (c : HonestSetup) (r : Run Network) (a : ℕ) (i : Input) (z : StepResult) (x : Network) (o : Over c r a i z x)
    → Good c o.log o.w o.g (begun_by r a i) (arrives c x a)
unfolding arrives
late_over c r a i z x o =
    good_same c o.log o.w o.g (begun_by r a i) (begun_by r a i) x (arrives c x a) o.good (λ j. refl)
    (λ s one. set_other x.servers (x.users a).sent.server (server_after (reply c x (x.users a).sent)) s (λ e. let n = o.none_out in omega arith))
    (λ j _. refl)

module _ (c : HonestSetup) (range : InRange c) where
  start : (r : Run Network) (a : ℕ) (i : Input) → Between c r → ValidCall c r a i → Started c r a i (count_of c r a i)
  unfolding ValidInput
  start r a (start_update m) between valid = update_start c range r a m between valid
  start r a (start_write m entry randomizer) between valid = write_start c range r a m entry randomizer between valid
  start r a (start_read m i) between valid = read-start c range r a m i between valid
  start r a (start_give_up m) between valid = give_up_start c range r a m between valid
  start r a (answer y) between valid = absurd valid.input

  step : (r : Run Network) (a : ℕ) (i : Input) (left : ℕ) (x : Network) → ValidCall c r a i → OnWay c r a i (suc left) x → Stepped c r a i left x
  unfolding ValidInput
  step r a (start_update m) left x valid o = update-step c range r a m left x valid.one valid.listed o
  step r a (start_write m entry randomizer) left x valid o =
      let k = write-call c r a m entry randomizer (suc left) x o in
      by_bool (λ t. k.call.opened ≡ t → Stepped c r a (start_write m entry randomizer) left x) k.call.opened
      (λ _ t. open_step c range r a m entry randomizer left x o k t valid.one valid.listed)
      (λ _ f. updating-step c range r a m entry randomizer left x valid.one valid.listed o k f) refl
  step r a (start_read m i) left x valid o = read_step c range r a m i left x valid.one valid.listed o
  step r a (start_give_up m) left x valid o = give_up_step_lem c range r a m left x valid.one valid.listed o
  step r a (answer y) left x valid o = absurd valid.input

  late : (r : Run Network) (a : ℕ) (i : Input) (left : ℕ) (x : Network) → ValidCall c r a i → (o : OnWay c r a i (suc left) x)
      → Late c o.log o.w (begun_by r a i) (arrives c x a)
  unfolding ValidInput
  late r a (start_update m) left x valid o = update_late c range r a m left x valid.one valid.listed o
  late r a (start_write m entry randomizer) left x valid o =
      let k = write-call c r a m entry randomizer (suc left) x o in
      by_bool (λ t. k.call.opened ≡ t → Late c o.log o.w (begun_by r a (start_write m entry randomizer)) (arrives c x a)) k.call.opened
      (λ _ t. open_late c range r a m entry randomizer left x o k t valid.one valid.listed)
      (λ _ f. updating_late c range r a m entry randomizer left x valid.one valid.listed o k f) refl
  late r a (start_read m i) left x valid o = read_late c range r a m i left x valid.one valid.listed o
  late r a (start_give_up m) left x valid o = give_up_late c range r a m left x valid.one valid.listed o
  late r a (answer y) left x valid o = absurd valid.input

-- a first call on its way
pub on_its_way : (c : HonestSetup) (range : InRange c) (b : NewWorld) (a : ℕ) (i : Input) → ValidCall c (run_from c b []) a i → (k : ℕ)
    → k < count_of c (run_from c b []) a i
    → OnWay c (run_from c b []) a i (count_of c (run_from c b []) a i - k) (network_after (in_records c) (run_from c b []).network a i k)
on_its_way c range b a i valid k h =
    on_way c range (start c range) (step c range) (late c range) (λ r a i z x o. late_over c r a i z x o) (refused-leaves c range)
    (run_from c b []) a i (first_between c range b) valid k h

-- No valid call is refused, each ends at its count of answers, and with what it is for.
pub honest_run : HonestRun
unfolding HonestRun CallsServe
honest_run c range b xs valid a i call =
    every_call c range (start c range) (step c range) (late c range) (λ r a i z x o. late_over c r a i z x o)
    (refused-leaves c range) b (first_between c range b) xs valid a i call
