-- Document 02, e, "Box switched off in mid-write": the first Write of user 1 is cut while its Reserve is out, which arrives. The Update of user 2
-- is refused then, by 11 with 8. User 1 gives its write up, and the Update of user 2, started again, ends with 0.
use mathlib.Core.Path.{◌≡◌, ap, ap₂, sym, ◌∙◌}
use mathlib.Core.Logic.{inl, inr}
use mathlib.Core.Bool.{true, false}
use mathlib.Core.List.{List, [], ◌∷◌}
use Prim.Native.Nat.{ℕ, suc, ◌-◌, ◌≤◌, max}
use native.Mathlib.Omega.{arith}
use lib.Dec.{eqb}
use lib.ListN.{length, replicate}
use Rattle.tree.specs.Level.{least_from, lg, is_full, highest_full}
use Rattle.tree.specs.Label.{nodes_to, label, server_of, owner}
use Rattle.tree.proofs.Cases.{cases_eq}
use Rattle.user.specs.declared.call.Progress.{Progress}
use Rattle.user.specs.Outcome.{State}
use Rattle.user_update.specs.Update.{update_answers}
use Rattle.user_write.specs.Write.{commit_number}
use Rattle.user_give_up.specs.GiveUp.{sent_to, count_told, give_up_answers}
use Rattle.user_calls.specs.Calls.{Input, start_update}
use Rattle.whole_run.specs.World.{User}
use Rattle.honest_run.specs.Network.{Network, arrives, network_after, handed, Act, calls, Written, Run, do_act, run_of, in_records}
use Rattle.honest_run.specs.Claim.{Alone, ValidInput, ValidCall, answers_of, count_of, Valid, Refused, AllValid, NotRefused, Reaches, Serves, CallsServe, HonestRun}
use Rattle.honest_run.specs.Sample.{small}
use Rattle.honest_run.proofs.Invariant.{ServerOk}
use Rattle.honest_run.proofs.Frames.{others_stay, run_from}
use Rattle.honest_run.proofs.Answers.{Fit}
use Rattle.honest_run.proofs.Starts.{fit_user}
use Rattle.honest_run.proofs.Calls.{begun_by}
use Rattle.honest_run.proofs.OpenCalls.{servers}
use Rattle.honest_run.proofs.Refused.{log_same, refused_unmoved}
use Rattle.honest_run.proofs.Run.{given_up_writes}
use Rattle.honest_run.proofs.Theorem.{honest_run}
use Rattle.honest_run.proofs.Others.{others_refused}
use Rattle.honest_run.proofs.Sample.{entry, memory, first, zeros_first, start, range, valid}
use Rattle.honest_run.proofs.GiveUpSample.{at, way, call_at, three, two, open_then, one-handed, unput, cut, all_valid, gives_up, same_log}

-- the run of a list of calls
abbrev ran : List Act → Run Network
ran xs = run_from small zeros_first xs

-- no entry is committed, and one request has arrived
abbrev w : ℕ
w = (way 2 two).w

abbrev g : ℕ
g = max (way 2 two).g (suc (call_at 2 two).call.answers)

none : w ≡ 0
unfolding run_of
none = (way 2 two).holds.count

version-none : ((at 2).users 1).state.kept.version ≡ 0
version-none = (((way 2 two).good.users_ok 1).open_ok ((call_at 2 two).open_call open_then).opened).version ∙ none

once : g ≡ 1
once =
    let on = (call_at 2 two).open_call open_then in
    let arrived = (((way 2 two).good.users_ok 1).open_ok on.opened).unput unput in
    omega (arith, on.count, three 2 two, arrived, ap (λ (p : Progress). p.levels) one-handed)

reserves : (lg (suc w) ≡ 0) × (commit_number (suc w) ≡ 2)
unfolding lg least_from commit_number is_full highest_full
reserves = (ap (λ v. lg (suc v)) none, ap (λ v. commit_number (suc v)) none)

-- the Update of user 2
abbrev again : Input
again = start_update memory

fit : Fit small (way 2 two).log w 2 ((ran cut).network.users 2).state.kept
unfolding run_of do_act arrives
fit =
    fit_user small range (way 2 two).log w (way 2 two).g 2 (begun_by start 1 first) (at 2) (omega arith) (omega arith) (way 2 two).good

servers-then : (s : ℕ) → 1 ≤ s → s ≤ 2 → ServerOk small (way 2 two).log w g s ((ran cut).network.servers s)
unfolding run_of do_act
servers-then =
    servers small range start 1 memory entry (replicate 32 0) 2 (at 2) (way 2 two) (call_at 2 two) open_then (omega arith) (omega arith)

-- it is refused
refused-then : Refused small (ran cut) (calls 2 again 3 false) × ((handed (in_records small) (ran cut).network 2 again 3).code ≡ 11)
    × ((handed (in_records small) (ran cut).network 2 again 3).refusal ≡ 8)
unfolding Alone ValidInput run_of do_act arrives
refused-then =
    others_refused small range (way 2 two).log w g (omega (arith, none)) (omega (arith, reserves.0, once)) (omega (arith, reserves.1, once)) (ran cut)
    servers-then 2 (omega arith) (omega arith) fit ((way 2 two).alone 2 (λ e. omega arith)) memory valid.input.memory

abbrev tried : List Act
tried = calls 2 again 3 false ∷ cut

all_tried : AllValid small (run_from small zeros_first) tried
unfolding AllValid
all_tried = (inr refused-then.0, all_valid)

-- every user keeps what it kept at the cut
kept : (j : ℕ) → ((ran tried).network.users j).state ≡ ((at 2).users j).state
unfolding run_of do_act arrives
kept j = (refused_unmoved small range (ran cut) 2 again 3 false refused-then.0).states j

-- to give up is still valid, and one server is to be told
valid_give_up : ValidCall small (ran tried) 1 gives_up
unfolding ValidInput Alone
valid_give_up =
    record {
      one = omega arith;
      listed = omega arith;
      alone = λ b n. ap (λ (σ : State). σ.kept.opened) (kept b) ∙ (way 2 two).alone b n;
      input = (
        valid.input.memory,
        ap (λ (σ : State). σ.kept.opened) (kept 1) ∙ ((call_at 2 two).open_call open_then).opened,
        ap (λ (σ : State). σ.kept.progress.put) (kept 1) ∙ unput,
      );
    }

one_told : count_of small (ran tried) 1 gives_up ≡ 1
unfolding answers_of give_up_answers count_told sent_to nodes_to label server_of owner lg least_from
one_told =
    ap (λ (σ : State). give_up_answers 2 σ.kept) (kept 1)
    ∙ ap₂ (λ (v : ℕ) (p : Progress). count_told 2 (suc v) p.levels (2 - p.done)) version-none one-handed

abbrev given : List Act
given = calls 1 gives_up 1 false ∷ tried

all_given : AllValid small (run_from small zeros_first) given
unfolding AllValid Valid
all_given = (inl (valid_give_up, omega (arith, one_told)), all_tried)

-- nothing is open after it
shut_then : (b : ℕ) → ((ran given).network.users b).state.kept.opened ≡ false
unfolding HonestRun CallsServe Serves Reaches run_of do_act Alone
shut_then b =
    let closed = (honest_run small range zeros_first tried all_tried 1 gives_up valid_give_up).1.1 in
    cases_eq b 1
    (λ e.
    ap (λ j. ((network_after (in_records small) (ran tried).network 1 gives_up 1).users j).state.kept.opened) e
    ∙ ap (λ k. ((network_after (in_records small) (ran tried).network 1 gives_up k).users 1).state.kept.opened) (sym one_told) ∙ closed)
    (λ n.
    ap (λ (u : User). u.state.kept.opened) (others_stay small (ran tried).network 1 gives_up 1 b n)
    ∙ ap (λ (σ : State). σ.kept.opened) (kept b) ∙ (way 2 two).alone b n)

valid_again : ValidCall small (ran given) 2 again
unfolding ValidInput Alone
valid_again =
    record { one = omega arith; listed = omega arith; alone = λ b _. shut_then b; input = (valid.input.memory, shut_then 2) }

-- the log is empty, so the Update takes two answers
two-asked : count_of small (ran given) 2 again ≡ 2
unfolding run_of do_act answers_of update_answers
two-asked =
    let refused : (handed (in_records small) (ran cut).network 2 again 3).code ≡ 0 → ⊥ = λ z. omega (arith, z, refused-then.1) in
    let empty : (ran given).log ≡ [] =
    given_up_writes (ran tried).log 1 memory (handed (in_records small) (ran tried).network 1 gives_up 1)
    ∙ log_same (ran cut) 2 again (handed (in_records small) (ran cut).network 2 again 3) refused ∙ sym same_log in
    ap (λ (log : List Written). update_answers 2 ((ran given).network.users 2).state.kept.version (length log)) empty

-- The Update of user 2 is refused by 11 with 8 while the write is open; the calls until then are in a list as the claim has it; and the same
-- Update ends with 0 once the write is given up.
pub others_go_on : ((handed (in_records small) (ran cut).network 2 again 3).code ≡ 11) × ((handed (in_records small) (ran cut).network 2 again 3).refusal ≡ 8)
    × AllValid small (run_from small zeros_first) given
    × ((handed (in_records small) (ran given).network 2 again 2).code ≡ 0) × ((handed (in_records small) (ran given).network 2 again 2).ended ≡ true)
unfolding HonestRun CallsServe NotRefused
others_go_on =
    let n = (honest_run small range zeros_first given all_given 2 again valid_again).0 2 (omega (arith, two-asked)) in
    (refused-then.1, refused-then.2, all_given, n.0, n.1 ∙ ap (eqb 2) two-asked)
