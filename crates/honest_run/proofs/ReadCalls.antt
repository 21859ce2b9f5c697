-- An answer to a Read of an honest run: it is right, it is taken, and the Read goes on or gives what was written.
use mathlib.Core.Path.{◌≡◌, refl, ap, ap₂, sym, ◌∙◌, subst}
use mathlib.Core.List.{List, [], ◌∷◌, append-nil}
use Prim.Native.Nat.{ℕ, suc, ◌-◌, ◌≤◌, ◌<◌}
use native.Mathlib.Omega.{arith}
use lib.ListN.{take}
use Rattle.user.specs.declared.ask.Want.{Want}
use Rattle.user.specs.Asking.{asking, done}
use Rattle.user.specs.Outcome.{Lent, Outcome}
use Rattle.user_read.specs.declared.call.Read.{Read}
use Rattle.user_read.specs.Read.{read_count, read_want, read_next, read_asks, read_ends, read_taken}
use Rattle.user_calls.specs.Calls.{reading, start_read, as_call, taken}
use Rattle.whole_run.specs.World.{User, Reading, sent_by, new_reads, returned, after}
use Rattle.honest_run.specs.Network.{HonestSetup, InRange, settings_in, Network, arrives, Run, wrote, entries_of}
use Rattle.honest_run.specs.Claim.{written_at, Serves}
use Rattle.honest_run.proofs.Invariant.{ReadOk, PullRight}
use Rattle.honest_run.proofs.Frames.{sent_for_lem, memory-asks}
use Rattle.honest_run.proofs.Answers.{Fit, answer_to}
use Rattle.honest_run.proofs.ReadSteps.{read-asks, read_right, collected_by, memory-collected}
use Rattle.honest_run.proofs.Exchanges.{pull_comes, pull_keeps}
use Rattle.honest_run.proofs.Calls.{ReadCall, CallOk, Holds, begun_by, OnWay, Stepped, Late}
use Rattle.honest_run.proofs.Steps.{GoesOn, Ends, is-over, pull_leaves, pull_late, step-taken, pull_goes-on}
use Rattle.honest_run.proofs.Starts.{fit_user}
use Rattle.honest_run.proofs.UpdateAnswers.{pull_in}

module _ (c : HonestSetup) (range : InRange c) (r : Run Network) (a : ℕ) (m : Lent) (i left : ℕ) (x : Network) (one : 1 ≤ a) (last : a ≤ c.count)
    (o : OnWay c r a (start_read m i) (suc left) x) where
  abbrev who : User
  who = x.users a

  abbrev v : ℕ
  v = who.state.kept.version

  abbrev b : ℕ → List ℕ
  b = begun_by r a (start_read m i)

  call : ReadCall c o.log o.w a i (suc left) who
  unfolding CallOk
  call = o.call

  abbrev now : Read
  now = call.call

  abbrev want : Want
  want = read_want c.servers v now

  fit : Fit c o.log o.w a who.state.kept
  fit = fit_user c range o.log o.w o.g a b x one last o.good

  -- how many requests of an open write its server is left with
  abbrev shown : ℕ
  shown = o.good.servers_ok.shown want.server

  pull : PullRight c o.log o.w shown a (x.servers want.server) want
  pull =
      pull_in c range o.log o.w o.g a b x one last o.good want
      (read-asks c v o.w i o.log now who.lent.hashes who.lent.held call.on_way call.one call.within fit.low call.waits)

  abbrev given : List ℕ
  given = answer_to want pull.body

  abbrev later : Read
  later = read_next now pull.body

  abbrev collected : Lent
  collected = collected_by now who.lent pull.body

  abbrev took : Outcome Read
  took = read_taken (settings_in c a) who.state who.lent now given

  kept-servers : (s : ℕ) → (arrives c x a).servers s ≡ x.servers s
  kept-servers = pull_keeps c o.log o.w shown a x want pull call.sent

  abbrev asks_on_lem : Outcome Read
  asks_on_lem = read_asks (settings_in c a) who.state collected later

  abbrev gives_it : Outcome Read
  gives_it = read_ends who.state collected later

  -- the two ways on
  record Right : Type 0 where
    pub on : suc now.answers < read_count i v → (took ≡ asks_on_lem) × ReadOk v i o.log later collected.hashes collected.held
    pub ends : suc now.answers ≡ read_count i v
        → (took ≡ gives_it) × (gives_it.found.author ≡ (o.log (i - 1)).author)
        × (take gives_it.found.length gives_it.lent.entry ≡ (o.log (i - 1)).entry)

  right : Right
  right =
      let p =
      read_right c o.log o.w shown a i who.state who.lent now pull.body fit call.one call.within call.on_way
      call.memory call.room call.waits pull.right
      in
      record { on = p.0; ends = p.1 }

  -- the next request goes out
  module _ (more : 0 < left) where
    few : suc now.answers < read_count i v
    few = let e = call.count in omega arith

    then-call : ReadCall c o.log o.w a i left (after who (as_call reading asks_on_lem))
    unfolding after read_asks asking read_next returned
    then-call =
        record {
          call = later;
          is = refl;
          memory = memory-asks collected _ (memory-collected now who.lent pull.body call.memory);
          room = call.room;
          one = call.one;
          within = call.within;
          on_way = (right.on few).1;
          waits = few;
          sent = sent_for_lem c range a (read_want c.servers v later) [] who.lent.request (omega (arith, call.memory.request));
          count = let e = call.count in omega arith;
        }

    read-on : GoesOn c r a (start_read m i) left x (reading now) given
    unfolding taken CallOk after read_asks asking new_reads returned
    read-on =
        record {
          outcome = as_call reading asks_on_lem;
          is = ap (as_call reading) (right.on few).0;
          code = refl;
          ended = refl;
          on_way = pull_goes-on c r a (start_read m i) left x o kept-servers (as_call reading asks_on_lem) refl refl then-call;
        }

  -- the Read has ended
  module _ (over-now : left ≡ 0) where
    all : suc now.answers ≡ read_count i v
    all = let e = call.count in omega arith

    -- what was written at i
    abbrev reads : ℕ → List ℕ → List Reading → List Reading
    reads author entry before = record { position = i; author = author; entry = entry } ∷ before

    -- it gives what was written
    gives : (after who (as_call reading gives_it)).reads
        ≡ reads (written_at r.log (i - 1)).author (written_at r.log (i - 1)).entry (r.network.users a).reads
    unfolding after new_reads returned read_ends done read_next
    gives =
        let p = right.ends all in
        let h : i - 1 < o.w = let z = fit.low in let y = call.within in let q = call.one in omega arith in
        ap (λ (d : ℕ). record { position = d; author = gives_it.found.author; entry = take gives_it.found.length gives_it.lent.entry } ∷ who.reads)
        call.on_way.position
        ∙ ap₂ (λ (d : ℕ) (e : List ℕ). reads d e who.reads) (p.1 ∙ o.holds.author (i - 1) h) (p.2 ∙ o.holds.entry (i - 1) h)
        ∙ ap (reads (written_at r.log (i - 1)).author (written_at r.log (i - 1)).entry) o.reads

    read-ends : Ends c r a (start_read m i) x (reading now) given
    unfolding taken wrote entries_of returned Serves sent_by done after read_ends
    read-ends =
        record {
          outcome = as_call reading gives_it;
          is = ap (as_call reading) (right.ends all).0;
          code = refl;
          ended = refl;
          over =
              is-over c r a (start_read m i) left x o o.w o.g (as_call reading gives_it) (omega arith)
              (pull_leaves c r a (start_read m i) left x o kept-servers who.state refl)
              (subst (Holds o.log o.w) (sym (append-nil r.log)) o.holds) refl gives;
        }

  -- a pull whose answer is lost has changed nothing
  pub read_late : Late c o.log o.w (begun_by r a (start_read m i)) (arrives c x a)
  read_late = pull_late c r a (start_read m i) left x o kept-servers

  -- the answer is taken: the Read goes on, or gives what was written
  pub read_step : Stepped c r a (start_read m i) left x
  read_step =
      step-taken c r a (start_read m i) left x (reading now) given call.is (pull_comes c o.log o.w shown a x want pull call.sent) read-on read-ends
