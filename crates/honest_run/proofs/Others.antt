-- While every Reserve of an open write has arrived and its Commit has not, another user's Update is refused by its answer N + 1, by 11 with 8:
-- the heads tell the open write's position, and no Record is stored for it.
use mathlib.Core.Path.{◌≡◌, refl, ap, sym, ◌∙◌, subst}
use mathlib.Core.Bool.{true, false}
use mathlib.Core.List.{List, []}
use Prim.Native.Nat.{ℕ, zero, suc, ◌+◌, ◌≤◌, ◌<◌}
use native.Mathlib.Omega.{arith}
use borrow.Author.Tests.{lt-leb}
use Rattle.tree.specs.Level.{lg}
use Rattle.tree.specs.Label.{owner}
use Rattle.tree.specs.Message.{answer_code}
use Rattle.tree.specs.Message as Message
use Rattle.tree.proofs.Cases.{cases_eq, not_both}
use Rattle.tree.proofs.Labels.{owner_range}
use Rattle.tree.proofs.Levels.{lg_below}
use Rattle.user.specs.declared.ask.Want.{Want}
use Rattle.user.specs.Asking.{asking, refused, of_node, of_status, is_server_code, is_answer}
use Rattle.user.specs.Outcome.{State, Lent, with_hashes, Outcome, refusal}
use Rattle.user_update.specs.declared.call.Update.{Update}
use Rattle.user_update.specs.Update.{fresh_update, update_ended, update_want, update_next, update_hashes, update_answers, update_started, update_taken}
use Rattle.user_update.proofs.UpdateRules.{next-answers, answers-least, answers-some, by_goes, going_on}
use Rattle.user_update.proofs.Updates.{want_status, want_record}
use Rattle.user_write.specs.Write.{commit_number}
use Rattle.user_calls.specs.Calls.{Call, updating, start_update, as_call, taken, stepped}
use Rattle.whole_run.specs.World.{User, returned, after, user_step}
use Rattle.whole_run.proofs.Refusals.{accepted-step}
use Rattle.honest_run.specs.Network.{HonestSetup, InRange, settings_in, Network, reply, answer_bytes, steps, comes_back, network_after, handed, calls, Run, in_records}
use Rattle.honest_run.specs.Claim.{ValidMemory, OnlyPulls, Refused}
use Rattle.honest_run.proofs.Invariant.{Item, ServerOk, ToldOk, RightBody, CanAsk, UpdateOk, PullRight}
use Rattle.honest_run.proofs.Frames.{set_same, sent_for, sent_for_lem, memory-asks, memory_collects, reply-is}
use Rattle.honest_run.proofs.Counts.{reached_high, reached-zero}
use Rattle.honest_run.proofs.Pulls.{pull_right, open_record}
use Rattle.honest_run.proofs.Answers.{Fit, answer_to, coded-answer, status-asks, right-shape, right-code, right-body}
use Rattle.honest_run.proofs.Updates.{fresh-update}
use Rattle.honest_run.proofs.UpdateSteps.{update-starts, update-hashes_size, taken-passed, server_refuses, status_next, status_passes}
use Rattle.honest_run.proofs.Exchanges.{exchanged, handed_by, taken_by, Exchanges, exchange_is, pull_comes, pull_keeps}
use Rattle.honest_run.proofs.Starts.{first_status}
use Rattle.honest_run.proofs.UpdateAnswers.{can_server}

module _ (c : HonestSetup) (range : InRange c) (L : ℕ → Item) (w g : ℕ) (within : w < 1048576) (all : lg (suc w) < g)
    (uncommitted : g ≤ commit_number (suc w)) (r : Run Network)
    (servers : (s : ℕ) → 1 ≤ s → s ≤ c.servers → ServerOk c L w g s (r.network.servers s)) (a : ℕ) (one : 1 ≤ a) (listed : a ≤ c.count)
    (fit : Fit c L w a (r.network.users a).state.kept) (shut : (r.network.users a).state.kept.opened ≡ false) where
  abbrev n : ℕ
  n = c.servers

  abbrev x : Network
  x = r.network

  abbrev σ : State
  σ = (x.users a).state

  abbrev v : ℕ
  v = σ.kept.version

  -- user u, after k answers to its Update: by the heads told, the open write's position is the log's last
  record Asks (k : ℕ) (u : User) : Type 0 where
    call : Update
    is : u.call ≡ updating call
    answers : call.answers ≡ k
    on_way : UpdateOk n v (suc w) L call u.lent.hashes
    same : u.state ≡ σ
    memory : ValidMemory u.lent
    sent : u.sent ≡ sent_for c a (update_want n v call) []

  -- so it is once it has handed out the next request
  asks : (u : User) (m : Lent) (call : Update) → ValidMemory m → UpdateOk n v (suc w) L call m.hashes
      → Asks call.answers (after u (as_call updating (going_on (settings_in c a) σ m call)))
  unfolding after asking returned
  asks u m call memory ok =
      record {
        call = call;
        is = refl;
        answers = refl;
        on_way = ok;
        same = refl;
        memory = memory-asks m _ memory;
        sent = sent_for_lem c range a (update_want n v call) [] m.request (omega (arith, memory.request));
      }

  -- it waits for a Status, and then for the Record
  waits : (u : Update) (hashes : List ℕ) → UpdateOk n v (suc w) L u hashes → u.answers ≤ n → update_ended n v u ≡ false
  unfolding update_ended
  waits u hashes ok few =
      cases_eq u.answers n
      (λ e.
      let p = ok.position_later (omega arith) in
      lt-leb (update_answers n v u.position) u.answers (rw p (omega (arith, answers-some n v (suc w) (omega arith)))))
      (λ e. lt-leb (update_answers n v u.position) u.answers (omega (arith, e, answers-least n v u.position)))

  -- the Update of user a in a network whose servers are as they were
  module _ (k : ℕ) (y : Network) (o : Asks k (y.users a)) (unmoved : (s : ℕ) → y.servers s ≡ x.servers s) where
    abbrev u : Update
    u = o.call

    abbrev m : Lent
    m = (y.users a).lent

    server-now : (s : ℕ) → 1 ≤ s → s ≤ n → ServerOk c L w g s (y.servers s)
    server-now s low high = subst (ServerOk c L w g s) (sym (unmoved s)) (servers s low high)

    -- a Status is taken
    module _ (h : k < n) where
      abbrev want : Want
      want = update_want n v u

      early : u.answers < n
      early = omega (arith, o.answers)

      is_status : of_status (u.answers + 1) ≡ update_want n v u
      is_status = want_status n v u _ early refl

      can : CanAsk c w want
      can = subst (CanAsk c w) is_status (status-asks c w (u.answers + 1) (omega arith) (omega (arith, early)))

      pull : PullRight c L w g a (y.servers want.server) want
      pull =
          let s = can_server c range w want can in
          pull_right c range L w g (omega arith) fit.items (y.servers want.server) a one listed want can (server-now want.server s.0 s.1)

      abbrev body : List ℕ
      body = pull.body

      -- the head that is told is one of a log in which the open write is committed
      told : ToldOk c (suc w) 0 (u.answers + 1) body
      unfolding RightBody of_status
      told =
          let t = (subst (λ z. RightBody c L w g z body) (sym is_status) pull.right).0 refl in
          record {
            position = t.position;
            level = t.level;
            told = t.told;
            head = rw (reached-zero (suc w)) (rw (reached_high w g all) at t.head);
            none = t.none;
            some = t.some;
          }

      abbrev next : Update
      next = update_next n u body

      abbrev collected : Lent
      collected = with_hashes m (update_hashes n u body m.hashes)

      low : v ≤ suc w
      low = omega (arith, fit.low)

      next_ok : UpdateOk n v (suc w) L next collected.hashes
      next_ok = status_next c L (suc w) a σ.kept u m.hashes body range.two low within o.on_way early told

      abbrev going : Outcome Call
      going = as_call updating (going_on (settings_in c a) σ collected next)

      takes : taken_by c y a (updating u) (answer_to want body) ≡ going
      unfolding taken
      takes =
          let s = settings_in c a in
          let q = next-answers n u body in
          ap (λ (τ : State). as_call updating (update_taken s τ m u (answer_to want body))) o.same
          ∙ ap (as_call updating)
          (taken-passed s σ m u (answer_to want body) body fit.settings-fit fit.kept-fit shut o.memory.request
          (waits u m.hashes o.on_way (omega (arith, early)))
          (right-shape c L w g range.two range.sixteen (omega arith) fit.items want can body pull.right)
          (right-code c L w g range.two range.sixteen (omega arith) fit.items want can body pull.right)
          (right-body c L w g range.two range.sixteen (omega arith) fit.items want can body pull.right)
          (sym (status_passes c L (suc w) a σ.kept u m.hashes body range.two low within o.on_way early told))
          ∙ by_goes s σ collected next (λ l. l ≡ going_on s σ collected next)
          (λ e. not_both _ e (waits next collected.hashes next_ok (omega (arith, early, q)))) (λ _. refl))

      swap : Exchanges c y a going
      unfolding asking
      swap = exchange_is c y a (answer_to want body) (updating u) going o.is (pull_comes c L w g a y want pull o.sent) takes refl

      status_step : Asks (suc k) ((exchanged c y a).users a) × ((s : ℕ) → (exchanged c y a).servers s ≡ x.servers s)
      status_step =
          let then = asks (y.users a) collected next
          (memory_collects m _ (update-hashes_size n u body m.hashes ∙ o.memory.hashes) o.memory) next_ok in
          let counted : next.answers ≡ suc k = next-answers n u body ∙ ap (λ i. suc i) o.answers in (
            subst (λ (z : User). Asks (suc k) z)
                (sym (ap (λ (z : Network). z.users a) swap.next ∙ set_same y.users a (after (y.users a) going)))
                (subst (λ i. Asks i (after (y.users a) going)) counted then),
            λ s. ap (λ (z : Network). z.servers s) swap.next ∙ pull_keeps c L w g a y want pull o.sent s ∙ unmoved s,
          )

    -- the Record is not stored
    module _ (h : k ≡ n) where
      abbrev place : ℕ
      place = suc w

      abbrev top : ℕ
      top = lg (suc w)

      abbrev record_want : Want
      record_want = of_node 4 n place top

      is_record : update_want n v u ≡ record_want
      is_record =
          let e = o.answers in
          sym (want_record n v u _ (omega arith) (omega arith) refl) ∙ ap (λ q. of_node 4 n q (lg q)) (o.on_way.position_later (omega arith))

      abbrev given : List ℕ
      given = Message.answer 4 (owner n place top) place top 8 []

      comes : answer_bytes (reply c y (y.users a).sent) ≡ given
      unfolding of_node
      comes =
          let s = owner_range n place top (omega (arith, range.two)) in
          ap answer_bytes (reply-is c y a record_want [] (y.users a).sent (o.sent ∙ ap (λ (z : Want). sent_for c a z []) is_record))
          ∙ open_record c range L w g (omega arith) fit.items (y.servers (owner n place top)) a one listed (owner n place top) within uncommitted refl
          (server-now (owner n place top) s.0 s.1)

      shaped : (is_answer (settings_in c a).users record_want given ≡ true) × (answer_code given ≡ 8)
      unfolding of_node is_server_code
      shaped =
          let s = owner_range n place top (omega (arith, range.two)) in
          coded-answer _ record_want 8 (omega arith) (omega (arith, s, range.sixteen)) (omega arith) (omega (arith, lg_below place 20 (omega arith))) (omega arith) refl
          (λ z. absurd (omega arith))

      takes_record : taken_by c y a (updating u) given ≡ as_call updating (refusal 11 given σ m u)
      unfolding taken
      takes_record =
          let e = o.answers in
          ap (λ (τ : State). as_call updating (update_taken (settings_in c a) τ m u given)) o.same
          ∙ ap (as_call updating)
          (server_refuses (settings_in c a) σ m u given 8 fit.settings-fit fit.kept-fit shut o.memory.request
          (waits u m.hashes o.on_way (omega arith)) (subst (λ (z : Want). is_answer (settings_in c a).users z given ≡ true) (sym is_record) shaped.0) shaped.1 (λ z. omega arith))

      record_step : ((handed_by c y a).code ≡ 11) × ((handed_by c y a).refusal ≡ 8)
      unfolding user_step stepped comes_back refused
      record_step =
          let same : taken_by c y a (y.users a).call (answer_bytes (reply c y (y.users a).sent)) ≡ as_call updating (refusal 11 given σ m u) =
          ap (taken_by c y a (y.users a).call) comes ∙ ap (λ (z : Call). taken_by c y a z given) o.is ∙ takes_record in
          (ap (λ (z : Outcome Call). z.step.code) same, ap (λ (z : Outcome Call). z.step.refusal) same ∙ shaped.1)

  -- the whole Update
  module _ (m : Lent) (memory : ValidMemory m) where
    abbrev at : ℕ → Network
    at k = network_after (in_records c) x a (start_update m) k

    starts : update_started (settings_in c a) σ m ≡ going_on (settings_in c a) σ m fresh_update
    starts = update-starts c L w a σ m fit shut memory.request ∙ first_status c range a σ m

    accepted : (handed (in_records c) x a (start_update m) 0).code ≡ 0
    unfolding handed user_step stepped asking
    accepted = ap (λ (o : Outcome Update). o.step.code) starts

    first : Asks 0 ((at 0).users a)
    unfolding network_after steps handed user_step stepped fresh_update
    first =
        let s = settings_in c a in
        let own = (user_step s (x.users a) (start_update m)).user in
        subst (λ (z : User). Asks 0 z)
        (sym (set_same x.users a own ∙ accepted-step s (x.users a) (start_update m) accepted
        ∙ ap (λ (o : Outcome Update). after (x.users a) (as_call updating o)) starts))
        (asks (x.users a) m fresh_update memory (fresh-update n v (suc w) L m.hashes (omega (arith, range.two))))

    goes : (k : ℕ) → k ≤ n → Asks k ((at k).users a) × ((s : ℕ) → (at k).servers s ≡ x.servers s)
    unfolding network_after handed steps
    goes zero h = (first, λ s. refl)
    goes (suc k) h = let p = goes k (omega arith) in status_step k (at k) p.0 p.1 h

    -- It is refused by its answer N + 1, and the list may hold it.
    pub others_refused : Refused c r (calls a (start_update m) (suc c.servers) false)
        × ((handed (in_records c) r.network a (start_update m) (suc c.servers)).code ≡ 11)
        × ((handed (in_records c) r.network a (start_update m) (suc c.servers)).refusal ≡ 8)
    unfolding Refused OnlyPulls handed
    others_refused =
        let p = goes n (omega arith) in
        let z = record_step n (at n) p.0 p.1 refl in (
          (refl, λ e. omega (arith, z.0), λ j h. (accepted, subst OnlyPulls (sym (goes j (omega arith)).0.is) tt)),
          z.0,
          z.1,
        )
