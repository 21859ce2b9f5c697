-- An answer to an Update that is a call of its own: the Update goes on, or has arrived.
use mathlib.Core.Path.{◌≡◌, refl, sym, ◌∙◌, subst, ap}
use mathlib.Core.Bool.{false}
use mathlib.Core.List.{append-nil}
use Prim.Native.Nat.{ℕ, suc, ◌+◌, ◌≤◌, ◌<◌}
use native.Mathlib.Omega.{arith}
use Rattle.tree.proofs.Cases.{not_both}
use Rattle.user.specs.Asking.{asking, done}
use Rattle.user.specs.Outcome.{Lent, with_hashes, Outcome}
use Rattle.user_update.specs.declared.call.Update.{Update}
use Rattle.user_update.specs.Update.{arrived, update_answers}
use Rattle.user_update.proofs.UpdateRules.{ended_with, going_on}
use Rattle.user_calls.specs.Calls.{Call, updating, start_update, as_call, taken}
use Rattle.whole_run.specs.World.{User, sent_by, returned, new_reads, after}
use Rattle.honest_run.specs.Network.{HonestSetup, InRange, settings_in, Network, arrives, Run, wrote, entries_of}
use Rattle.honest_run.specs.Claim.{Reaches, Serves}
use Rattle.honest_run.proofs.Invariant.{digest_of}
use Rattle.honest_run.proofs.Frames.{memory_collects, memory-asks}
use Rattle.honest_run.proofs.Updates.{Arrived}
use Rattle.honest_run.proofs.Moves.{Leaves, servers_same}
use Rattle.honest_run.proofs.Calls.{UpdateCall, CallOk, Holds, begun_by, OnWay, Stepped, Late}
use Rattle.honest_run.proofs.Steps.{GoesOn, Ends, is-over, pull_late, log-digest, step-taken, pull_goes-on}
use Rattle.honest_run.proofs.UpdateAnswers.{Answered, answered}

module _ (c : HonestSetup) (range : InRange c) (r : Run Network) (a : ℕ) (m : Lent) (left : ℕ) (x : Network) (one : 1 ≤ a) (last : a ≤ c.count)
    (o : OnWay c r a (start_update m) (suc left) x) where
  abbrev who : User
  who = x.users a

  call : UpdateCall c o.log o.w o.g a (suc left) who
  unfolding CallOk
  call = o.call

  abbrev now : Update
  now = call.call

  answer-now : Answered c o.log o.w o.g a x who.state who.lent now
  answer-now = answered c range r a (start_update m) (suc left) x one last o now call.memory call.updates

  abbrev next : Update
  next = answer-now.next

  abbrev collected : Lent
  collected = with_hashes who.lent answer-now.hashes

  count : next.answers + left ≡ update_answers c.servers who.state.kept.version o.w
  count = omega (arith, call.count, answer-now.answers)

  -- the next request goes out
  module _ (more : 0 < left) where
    few : next.answers < update_answers c.servers who.state.kept.version o.w
    few = omega (arith, count)

    abbrev going : Outcome Call
    going = as_call updating (going_on (settings_in c a) who.state collected next)

    then-call : UpdateCall c o.log o.w o.g a left (after who going)
    unfolding after asking returned
    then-call =
        record {
          call = next;
          is = refl;
          memory = memory-asks collected _ (memory_collects who.lent answer-now.hashes answer-now.sized call.memory);
          updates = answer-now.updates few;
          count = count;
        }

    update-on : GoesOn c r a (start_update m) left x (updating now) answer-now.given
    unfolding taken after new_reads asking CallOk
    update-on =
        record {
          outcome = going;
          is = ap (as_call updating) (answer-now.asks_next_lem few);
          code = refl;
          ended = refl;
          on_way = pull_goes-on c r a (start_update m) left x o answer-now.keeps going refl refl then-call;
        }

  -- the Update has arrived
  module _ (none : left ≡ 0) where
    all : next.answers ≡ update_answers c.servers who.state.kept.version o.w
    all = omega (arith, count)

    abbrev ended : Outcome Call
    ended = as_call updating (ended_with who.state collected next)

    there : Arrived o.w o.log who.state.kept next answer-now.hashes
    there = answer-now.arrives_there all

    shut_then : (arrived who.state.kept next).opened ≡ false
    shut_then = there.opened ∙ call.updates.shut

    leaves : Leaves c o.log o.w o.g a (begun_by r a (start_update m) a) ended.state (arrives c x a).servers
    leaves =
        let k = arrived who.state.kept next in
        let ok = o.good.users_ok a in
        record {
          servers = servers_same c o.log o.w o.g x.servers (arrives c x a).servers o.good.servers_ok (λ s _. answer-now.keeps s);
          shown = λ t. not_both k.opened t shut_then;
          own =
              record {
                low = omega (arith, there.version);
                number = subst (λ n. n ≤ 1024) (sym there.number) ok.number;
                digest_ok = λ z. subst (λ v. 0 < v → k.digest ≡ digest_of o.log v) (sym there.version) there.digest z;
                path_size = ok.path_size;
                signature_size = ok.signature_size;
                open_ok = λ t. not_both k.opened t shut_then;
              };
          room = λ t. not_both k.opened t shut_then;
          shut = λ _. call.updates.none_open;
          fits = o.good.fits;
          items = o.good.items;
          within = o.good.within;
        }

    reaches : Reaches r.log (after who ended).state.kept
    unfolding Reaches after
    reaches = (
      there.version ∙ o.holds.count,
      shut_then,
      λ z.
          let y : 0 < o.w = omega (arith, o.holds.count) in
          there.digest y ∙ log-digest o.log o.w r.log o.holds y,
    )

    update-ends : Ends c r a (start_update m) x (updating now) answer-now.given
    unfolding taken wrote entries_of returned Serves after sent_by done
    update-ends =
        record {
          outcome = ended;
          is = ap (as_call updating) (answer-now.ends_now all);
          code = refl;
          ended = refl;
          over =
              is-over c r a (start_update m) left x o o.w o.g ended (omega arith) leaves
              (subst (Holds o.log o.w) (sym (append-nil r.log)) o.holds) refl reaches;
        }

  -- a Status, Record or Node whose answer is lost has changed nothing
  pub update_late : Late c o.log o.w (begun_by r a (start_update m)) (arrives c x a)
  update_late = pull_late c r a (start_update m) left x o answer-now.keeps

  -- the answer is taken: the Update goes on, or has arrived
  pub update-step : Stepped c r a (start_update m) left x
  update-step = step-taken c r a (start_update m) left x (updating now) answer-now.given call.is answer-now.comes update-on update-ends
