-- A valid Read of an honest run starts.
use mathlib.Core.Path.{◌≡◌, refl, ap, sym, ◌∙◌}
use mathlib.Core.List.{[]}
use lib.ListN.{length}
use Prim.Native.Nat.{ℕ, ◌≤◌}
use native.Mathlib.Omega.{arith}
use native.Mathlib.Nat.{zero-add}
use Rattle.user.specs.Asking.{asking}
use Rattle.user.specs.Outcome.{Lent, Outcome}
use Rattle.user_read.specs.declared.call.Read.{Read}
use Rattle.user_read.specs.Read.{read_count, read_want, read_at, read_asks, read_started}
use Rattle.user_calls.specs.Calls.{reading, start_read, as_call, stepped}
use Rattle.whole_run.specs.World.{User, new_reads, returned, after}
use Rattle.honest_run.specs.Network.{HonestSetup, InRange, settings_in, Run, entries_of, Network}
use Rattle.honest_run.specs.Claim.{ValidMemory, ValidInput, ValidCall, answers_of, count_of}
use Rattle.honest_run.proofs.Frames.{sent_for_lem, memory-asks}
use Rattle.honest_run.proofs.Nodes.{read_count_lem}
use Rattle.honest_run.proofs.Answers.{Fit}
use Rattle.honest_run.proofs.ReadSteps.{fresh-read, read-starts}
use Rattle.honest_run.proofs.Calls.{ReadCall, CallOk, Between, Started}
use Rattle.honest_run.proofs.Starts.{fit_user, start-goes}

module _ (c : HonestSetup) (range : InRange c) (r : Run Network) (a : ℕ) (m : Lent) (i : ℕ) (between : Between c r) (valid : ValidCall c r a (start_read m i)) where
  abbrev user : User
  user = r.network.users a

  abbrev n : ℕ
  n = count_of c r a (start_read m i)

  given : ValidMemory m × (1024 ≤ length m.entry) × (1 ≤ i) × (i ≤ user.state.kept.version)
  unfolding ValidInput
  given = valid.input

  fit : Fit c between.log between.w a user.state.kept
  fit = fit_user c range between.log between.w between.g a r.begun r.network valid.one valid.listed between.good

  abbrev asks_first : Outcome Read
  asks_first = read_asks (settings_in c a) user.state m (read_at i 0)

  -- 22, 21 and 24 pass
  starts : read_started (settings_in c a) user.state m i ≡ asks_first
  starts = read-starts c between.log between.w a i user.state m fit given.2 given.3 given.0.request given.1

  counted : n ≡ read_count i user.state.kept.version
  unfolding answers_of
  counted = sym (read_count_lem i user.state.kept.version given.2 given.3)

  call : ReadCall c between.log between.w a i n (after user (as_call reading asks_first))
  unfolding after read_asks asking read_count returned
  call =
      record {
        call = read_at i 0;
        is = refl;
        memory = memory-asks m _ given.0;
        room = given.1;
        one = given.2;
        within = given.3;
        on_way = fresh-read user.state.kept.version i between.log m.hashes m.held;
        waits = omega arith;
        sent = sent_for_lem c range a (read_want c.servers user.state.kept.version (read_at i 0)) [] m.request (omega (arith, given.0.request));
        count = zero-add _ ∙ counted;
      }

  -- a valid Read starts
  pub read-start : Started c r a (start_read m i) n
  unfolding stepped CallOk entries_of read_asks asking after new_reads returned read_count
  read-start =
      start-goes c r a (start_read m i) n (as_call reading asks_first) between valid.alone (omega (arith, counted)) (ap (as_call reading) starts)
      refl refl refl refl (λ _. refl) call
