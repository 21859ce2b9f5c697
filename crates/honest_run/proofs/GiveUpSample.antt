-- The premises of a give-up can be met: the first Write of user 1, cut while its Reserve is out, which arrives, is open, and to give it up is
-- valid. So the give-up is not refused, leaves nothing open, and every server's head is what it was at first.
use mathlib.Core.Path.{◌≡◌, refl, ap, sym, ◌∙◌, subst}
use mathlib.Core.Logic.{inl}
use mathlib.Core.Bool.{Bool, true, false, cond, ◌&&◌}
use mathlib.Core.List.{List, [], ◌∷◌}
use Prim.Native.Nat.{ℕ, suc, ◌-◌, ◌≤◌, ◌<◌}
use native.Mathlib.Omega.{arith}
use lib.Dec.{eqb}
use lib.ListN.{replicate}
use Rattle.sha256.proofs.Cases.{by_bool}
use Rattle.tree.specs.Level.{least_from, lg, is_full, highest_full}
use Rattle.tree.proofs.Cases.{untrue}
use Rattle.user.specs.declared.call.Progress.{Progress}
use Rattle.user.specs.Outcome.{Outcome}
use Rattle.user_write.specs.declared.call.Write.{Write}
use Rattle.user_write.specs.Write.{write_answers, write_taken}
use Rattle.user_write.proofs.Handing.{handing-first}
use Rattle.user_write.proofs.WriteAnswers.{Opens, write-opens}
use Rattle.user_calls.specs.Calls.{Call, idle, updating, writing, reading, giving_up, Input, start_give_up, as_call, taken, stepped}
use Rattle.whole_run.specs.World.{User, returned, after, user_step}
use Rattle.whole_run.specs.Runs.{new_user}
use Rattle.honest_run.specs.Network.{settings_in, Network, reply, answer_bytes, arrives, comes_back, network_after, handed, Act, calls, do_act, new_network, run_of, in_records}
use Rattle.honest_run.specs.Claim.{Alone, ValidInput, ValidCall, count_of, Valid, AllValid, NotRefused, Reaches, Serves, SameHeads, BringsBack, CallsServe, HonestRun}
use Rattle.honest_run.specs.Sample.{small}
use Rattle.honest_run.proofs.Frames.{set_same, run_from}
use Rattle.honest_run.proofs.Exchanges.{Exchanges, exchange_is}
use Rattle.honest_run.proofs.Calls.{WriteCall, OnWay, write-call}
use Rattle.honest_run.proofs.Run.{wrote_nothing}
use Rattle.honest_run.proofs.Theorem.{on_its_way, honest_run}
use Rattle.honest_run.proofs.Sample.{entry, memory, first, zeros_first, start, range, valid, five}

-- the Write after so many answers
abbrev pub at : ℕ → Network
at k = network_after (in_records small) start.network 1 first k

passes : (k : ℕ) → k ≤ 5 → ((handed (in_records small) start.network 1 first k).code ≡ 0) × ((handed (in_records small) start.network 1 first k).ended ≡ eqb k 5)
unfolding HonestRun CallsServe AllValid NotRefused run_of
passes k h =
    let n = (honest_run small range zeros_first [] tt 1 first valid).0 k (omega (arith, five)) in
    (n.0, n.1 ∙ ap (eqb k) five)

pub way : (k : ℕ) → k < 5 → OnWay small start 1 first (5 - k) (at k)
way k h =
    subst (λ n. OnWay small start 1 first (n - k) (at k)) five (on_its_way small range zeros_first 1 first valid k (omega (arith, five)))

pub call_at : (k : ℕ) (h : k < 5) → WriteCall small (way k h).log (way k h).w (way k h).g 1 (5 - k) entry ((at k).users 1) (at k).servers
call_at k h = write-call small start 1 memory entry (replicate 32 0) (5 - k) (at k) (way k h)

pub three : (k : ℕ) (h : k < 5) → write_answers (suc (way k h).w) ≡ 3
unfolding run_of write_answers lg least_from is_full highest_full
three k h = ap (λ v. write_answers (suc v)) (way k h).holds.count

one : 1 < 5
one = omega arith

pub two : 2 < 5
two = omega arith

-- by its count of answers it is not open after the first Status, and open after the second
shut_before : (call_at 1 one).call.opened ≡ false
shut_before = untrue (call_at 1 one).call.opened (λ t. omega (arith, ((call_at 1 one).open_call t).count, three 1 one))

pub open_then : (call_at 2 two).call.opened ≡ true
open_then =
    let opened : Bool = (call_at 2 two).call.opened in
    by_bool (λ b. opened ≡ b → opened ≡ true) opened (λ _ t. t)
    (λ _ f. let c = (call_at 2 two).before f in absurd (omega (arith, c.count, c.answers, three 2 two))) refl

-- the second answer is taken by the Update of the Write
abbrev now : User
now = (at 1).users 1

abbrev answered : List ℕ
answered = answer_bytes (reply small (at 1) now.sent)

abbrev took : Outcome Write
took = write_taken (settings_in small 1) now.state now.lent (call_at 1 one).call answered

took-code : took.step.code ≡ 0
unfolding handed user_step stepped comes_back taken
took-code =
    subst (λ (c : Call). (taken (settings_in small 1) now.state now.lent c answered).step.code ≡ 0) (call_at 1 one).is (passes 2 (omega arith)).0

opens : Opens (settings_in small 1) now.state took
opens = write-opens (settings_in small 1) now.state now.lent (call_at 1 one).call answered shut_before took-code

exchanges : Exchanges small (at 1) 1 (as_call writing took)
unfolding taken
exchanges =
    exchange_is small (at 1) 1 answered (writing (call_at 1 one).call) (as_call writing took) (call_at 1 one).is refl refl took-code

user-then : (at 2).users 1 ≡ after now (as_call writing took)
unfolding network_after
user-then = ap (λ (x : Network). x.users 1) exchanges.next ∙ set_same (at 1).users 1 (after now (as_call writing took))

-- so the write has opened with it,
abbrev is_open : Call → Bool
is_open idle = false
is_open (updating c) = false
is_open (writing w) = w.opened
is_open (reading r) = false
is_open (giving_up g) = false

took_open : took.call.opened ≡ true
unfolding after returned
took_open =
    let same : is_open ((at 2).users 1).call ≡ took.call.opened =
    ap (λ (u : User). is_open u.call) user-then
    ∙ ap (λ b. is_open (cond (b && eqb took.step.code 0) idle (writing took.call))) opens.goes_on_lem in
    sym same ∙ ap is_open (call_at 2 two).is ∙ open_then

-- and only its first Reserve is handed out
pub one-handed : ((at 2).users 1).state.kept.progress ≡ record { levels = 1; put = false; begun = false; done = 0 }
unfolding after
one-handed =
    ap (λ (u : User). u.state.kept.progress) user-then ∙ opens.noted took_open ∙ handing-first (suc took.state.kept.version)

pub unput : ((at 2).users 1).state.kept.progress.put ≡ false
unput = ap (λ (g : Progress). g.put) one-handed

-- the call is cut there
abbrev pub cut : List Act
cut = calls 1 first 2 true ∷ []

pub all_valid : AllValid small (run_from small zeros_first) cut
unfolding AllValid Valid
all_valid = (inl (valid, omega (arith, five)), tt)

abbrev pub gives_up : Input
gives_up = start_give_up memory

valid_give_up : ValidCall small (run_from small zeros_first cut) 1 gives_up
unfolding ValidInput Alone run_of do_act arrives
valid_give_up =
    record {
      one = omega arith;
      listed = omega arith;
      alone = (way 2 two).alone;
      input = (valid.input.memory, ((call_at 2 two).open_call open_then).opened, unput);
    }

-- nothing is written yet
pub same_log : (run_from small zeros_first []).log ≡ (run_from small zeros_first cut).log
unfolding run_of do_act
same_log = sym (wrote_nothing 1 first (handed (in_records small) start.network 1 first 2) (passes 2 (omega arith)).1)

none_open : (a : ℕ) → ((run_from small zeros_first []).network.users a).state.kept.opened ≡ false
unfolding run_of new_network new_user
none_open a = refl

-- the network once the give-up has had its answers
abbrev given_up : Network
given_up =
    let r = run_from small zeros_first cut in
    network_after (in_records small) r.network 1 gives_up (count_of small r 1 gives_up)

pub first_give_up : ((given_up.users 1).state.kept.opened ≡ false) × SameHeads small given_up start.network
unfolding HonestRun CallsServe Serves Reaches BringsBack
first_give_up =
    let h = honest_run small range zeros_first cut all_valid 1 gives_up valid_give_up in
    (h.1.1, h.2 [] cut refl same_log none_open)
