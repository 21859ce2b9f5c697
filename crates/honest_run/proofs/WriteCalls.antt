-- An answer to the Update of a Write of an honest run: the Update goes on, or the write opens and its first Reserve goes out.
use mathlib.Core.Path.{◌≡◌, refl, sym, ◌∙◌, subst, ap}
use mathlib.Core.Bool.{false}
use mathlib.Core.List.{List}
use Prim.Native.Nat.{ℕ, suc, ◌+◌, ◌≤◌, ◌<◌}
use native.Mathlib.Omega.{arith}
use lib.ListN.{length}
use Rattle.tree.proofs.Cases.{cases_le, not_both}
use Rattle.user.specs.declared.call.Progress.{Progress}
use Rattle.user.specs.Asking.{asking, done}
use Rattle.user.specs.Outcome.{State, Lent, with_hashes, Outcome}
use Rattle.user.proofs.Ranges.{ProgressInRange}
use Rattle.user_update.specs.declared.call.Update.{Update}
use Rattle.user_update.specs.Update.{arrived, update_answers}
use Rattle.user_update.proofs.UpdateRules.{ended_with, going_on}
use Rattle.user_write.specs.declared.call.Write.{Write}
use Rattle.user_write.specs.Write.{with_update, opened_at, opening, write_waits, write_taken, write_answers, write_asks}
use Rattle.user_write.proofs.Handing.{handing-first}
use Rattle.user_write.proofs.Writes.{commit_positive}
use Rattle.user_calls.specs.Calls.{Call, writing, Input, start_write, as_call, taken}
use Rattle.whole_run.specs.World.{User, returned, new_reads, after}
use Rattle.whole_run.specs.Runs.{Server, set}
use Rattle.honest_run.specs.Network.{HonestSetup, InRange, settings_in, Network, arrives, Run}
use Rattle.honest_run.specs.Claim.{stored_to, stored_by}
use Rattle.honest_run.proofs.Invariant.{Item, ServerOk, RoomLeft}
use Rattle.honest_run.proofs.Frames.{set_other}
use Rattle.honest_run.proofs.Servers.{server-opens}
use Rattle.honest_run.proofs.Updates.{Arrived}
use Rattle.honest_run.proofs.Opening.{write_waits_lem, write-arrives, write-opens, opened-path_size, opened_ok, opens_with}
use Rattle.honest_run.proofs.Writes.{asked_progress}
use Rattle.honest_run.proofs.Moves.{Leaves, every_server}
use Rattle.honest_run.proofs.Calls.{ToOpen, WriteCall, CallOk, begun_by, OnWay, Stepped, Late, memory_moves, memory-hands-out}
use Rattle.honest_run.proofs.Steps.{GoesOn, pull_late, step-taken, pull_goes-on}
use Rattle.honest_run.proofs.OpenRequests.{AsksOpen, open_leaves, open_goes-on}
use Rattle.honest_run.proofs.UpdateAnswers.{Answered, answered}

-- the Update of a Write
module _ (c : HonestSetup) (range : InRange c) (r : Run Network) (a : ℕ) (m : Lent) (entry randomizer : List ℕ) (left : ℕ) (x : Network) (one : 1 ≤ a)
    (last : a ≤ c.count) (o : OnWay c r a (start_write m entry randomizer) (suc left) x)
    (call : WriteCall c o.log o.w o.g a (suc left) entry (x.users a) x.servers) (closed : call.call.opened ≡ false) where
  abbrev i : Input
  i = start_write m entry randomizer

  abbrev who : User
  who = x.users a

  abbrev now : Write
  now = call.call

  to_open : ToOpen c o.log o.w o.g a (suc left) entry who x.servers now
  to_open = call.before closed

  answer-now : Answered c o.log o.w o.g a x who.state who.lent now.update
  answer-now = answered c range r a i (suc left) x one last o now.update call.memory.valid to_open.updates

  abbrev next : Update
  next = answer-now.next

  abbrev collected : Lent
  collected = with_hashes who.lent answer-now.hashes

  -- the Update asks on
  module _ (more : next.answers < update_answers c.servers who.state.kept.version o.w) where
    abbrev asking_on : Outcome Update
    asking_on = going_on (settings_in c a) who.state collected next

    abbrev going : Outcome Call
    going = as_call writing (write_waits who.state now asking_on)

    waits_on : write_taken (settings_in c a) who.state who.lent now answer-now.given ≡ write_waits who.state now asking_on
    unfolding asking
    waits_on =
        write_waits_lem (settings_in c a) who.state who.lent now answer-now.given asking_on closed (answer-now.asks_next_lem more) refl refl

    then_open : ToOpen c o.log o.w o.g a left entry (after who going) (arrives c x a).servers (with_update now next)
    unfolding after write_waits asking
    then_open =
        record {
          updates = answer-now.updates more;
          answers = more;
          count = omega (arith, to_open.count, answer-now.answers);
          number = to_open.number;
          position = to_open.position;
          target = to_open.target;
          room =
              λ s low high.
              subst (λ (y : Server). y.used + stored_by c.servers (suc o.w) (length entry) s ≤ length y.store) (sym (answer-now.keeps s))
              (to_open.room s low high);
        }

    then-call : WriteCall c o.log o.w o.g a left entry (after who going) (arrives c x a).servers
    unfolding after write_waits asking returned
    then-call =
        record {
          call = with_update now next;
          is = refl;
          memory =
              memory-hands-out c a entry collected (with_update now next) _
              (memory_moves c a entry who.lent now (with_update now next) answer-now.hashes call.memory answer-now.sized refl refl);
          before = λ _. then_open;
          open_call = λ t. not_both now.opened t closed;
        }

    waiting-on : GoesOn c r a i left x (writing now) answer-now.given
    unfolding taken write_waits asking CallOk after new_reads
    waiting-on =
        record {
          outcome = going;
          is = ap (as_call writing) waits_on;
          code = refl;
          ended = refl;
          on_way = pull_goes-on c r a i left x o answer-now.keeps going refl refl then-call;
        }

  -- the Update has arrived, and the write opens
  module _ (all : next.answers ≡ update_answers c.servers who.state.kept.version o.w) where
    low : who.state.kept.version ≤ o.w
    low = (o.good.users_ok a).low

    there : Arrived o.w o.log who.state.kept next answer-now.hashes
    there = answer-now.arrives_there all

    -- the log with the new entry, and what the user keeps
    abbrev M : ℕ → Item
    M = set o.log o.w (record { author = a; entry = entry; signature = who.state.signature })

    abbrev kept : State
    kept = opens_with (settings_in c a) who.state next o.w answer-now.hashes entry

    abbrev opened : Write
    opened = opened_at (with_update now next) 0

    old : (i : ℕ) → i < o.w → o.log i ≡ M i
    old i h = sym (set_other o.log o.w _ i (λ e. omega arith))

    opens-now : write_taken (settings_in c a) who.state who.lent now answer-now.given ≡ write_asks (settings_in c a) kept collected opened
    unfolding done
    opens-now =
        write-arrives (settings_in c a) who.state who.lent now answer-now.given (ended_with who.state collected next) closed
        (answer-now.ends_now all) refl refl
        ∙ write-opens (settings_in c a) who.state who.lent now answer-now.given next answer-now.hashes entry o.w there.version
        to_open.position to_open.target call.memory.held

    -- what is kept of the first Reserve
    first-handed : (opening (arrived who.state.kept next)).progress ≡ record { levels = 1; put = false; begun = false; done = 0 }
    unfolding opening
    first-handed = handing-first (suc (arrived who.state.kept next).version)

    progress : ProgressInRange c.servers (suc o.w) false (opening (arrived who.state.kept next)).progress
    unfolding opening
    progress =
        subst (λ v. ProgressInRange c.servers (suc v) false (opening (arrived who.state.kept next)).progress) there.version
        (asked_progress (settings_in c a) who.state kept who.lent collected now opened answer-now.given opens-now refl)

    asks : AsksOpen c M o.w 0 a left entry kept collected opened
    unfolding opening write_answers
    asks =
        record {
          memory = memory_moves c a entry who.lent now opened answer-now.hashes call.memory answer-now.sized refl refl;
          ok =
              opened_ok c a o.log who.state next o.w answer-now.hashes entry one last call.memory.entry-fits to_open.number there low
              to_open.position (o.good.users_ok a).path_size progress;
          going = refl;
          opened = refl;
          arrived = omega arith;
          few = omega arith;
          unbegun = ap (λ (g : Progress). g.begun) first-handed;
          handed = λ _. omega (arith, ap (λ (g : Progress). g.levels) first-handed);
          ready = λ e. absurd (omega (arith, commit_positive (suc o.w)));
          count = omega (arith, to_open.count, answer-now.answers, all);
        }

    leaves : Leaves c M o.w 0 a (begun_by r a i a) kept (arrives c x a).servers
    unfolding opening stored_to
    leaves =
        let ok = o.good.users_ok a in
        open_leaves c range r a m entry randomizer left x o M 0 kept old asks.ok refl asks.unbegun
        (subst (λ n. n ≤ 1024) (sym there.number) ok.number) there.digest
        (opened-path_size (settings_in c a) o.log who.state.kept.version o.w answer-now.hashes entry who.state.signature who.state.path low
        to_open.position ok.path_size there.answers) ok.signature_size
        (λ s sl sh.
        subst (ServerOk c M o.w 0 s) (sym (answer-now.keeps s))
        (server-opens c o.log M o.w s (x.servers s) old
        (subst (λ h. ServerOk c o.log o.w h s (x.servers s)) to_open.updates.none_open
        (every_server c o.log o.w o.g a (begun_by r a i) x o.good o.alone
        (λ t. not_both who.state.kept.opened t to_open.updates.shut) s sl sh))))
        (λ s sl sh.
        subst (RoomLeft c M o.w 0 s) (sym (answer-now.keeps s))
        (subst (λ (e : List ℕ). (x.servers s).used + stored_by c.servers (suc o.w) (length e) s ≤ length (x.servers s).store + 0)
        (sym asks.ok.entry) (omega (arith, to_open.room s sl sh))))
        (omega arith)

    opening_on : GoesOn c r a i left x (writing now) answer-now.given
    unfolding taken
    opening_on =
        open_goes-on c range r a m entry randomizer left x o M 0 kept old collected opened (writing now) answer-now.given asks leaves
        (ap (as_call writing) opens-now)

  some_left : 0 < left
  unfolding write_answers
  some_left = omega (arith, to_open.count, to_open.answers)

  -- a pull of the Update whose answer is lost has changed nothing
  pub updating_late : Late c o.log o.w (begun_by r a (start_write m entry randomizer)) (arrives c x a)
  updating_late = pull_late c r a i left x o answer-now.keeps

  -- the answer is taken: the Update asks on, or the write opens
  pub updating-step : Stepped c r a (start_write m entry randomizer) left x
  updating-step =
      step-taken c r a i left x (writing now) answer-now.given call.is answer-now.comes
      (λ _.
      cases_le (update_answers c.servers who.state.kept.version o.w) next.answers
      (λ h. opening_on (omega (arith, to_open.answers, answer-now.answers, h))) waiting-on)
      (λ z. absurd (omega (arith, some_left)))
