-- A Write with nothing open whose arguments are valid but for its target or the log's limit: it takes the answers that an Update takes, and
-- the last of them is refused by 20 or 19 (target).
use mathlib.Core.Path.{◌≡◌, refl, ap, sym, ◌∙◌, subst, ap₂}
use mathlib.Core.Logic.{◌⊎◌, inl, inr, ⊎_elim}
use mathlib.Core.Bool.{Bool, true, false, cond, ◌&&◌}
use mathlib.Core.List.{List}
use Prim.Native.Nat.{ℕ, zero, suc, ◌-◌, ◌≤◌, ◌<◌}
use native.Mathlib.Omega.{arith}
use lib.Dec.{eqb}
use lib.ListN.{length}
use borrow.Author.Tests.{eq-eqb, ne_eqb, eqb-true, eqb-false, lt-ltb, le-ltb}
use Rattle.tree.specs.Setup.{first_code, Settings}
use Rattle.tree.proofs.Cases.{and-true, cases_le, not_both}
use Rattle.tree.proofs.CheckLists.{check-passes}
use Rattle.user_list.specs.Users.{longest_tree}
use Rattle.server.specs.Serve.{ServeOutcome, served}
use Rattle.user.specs.Asking.{user_settings_fit, kept_fits, user_fits, user_setup_checks, refused, done, asking}
use Rattle.user.specs.Outcome.{State, Key, Lent, Outcome}
use Rattle.user.proofs.Passed.{by_cond}
use Rattle.firing.specs.Entry.{entry_fits}
use Rattle.firing.specs.Schedule.{rules_kept}
use Rattle.user_update.specs.declared.call.Update.{Update}
use Rattle.user_update.specs.Update.{fresh_update, update_goes, update_setup, update_started, update_taken}
use Rattle.user_update.proofs.UpdateRules.{by_taken, by_goes, answers-least}
use Rattle.user_write.specs.declared.call.Write.{Write}
use Rattle.user_write.specs.Write.{with_update, target_fits, held_entry, fresh_write, write_asks, write_waits, write_started, write_taken, opening_checks, write_opens}
use Rattle.user_calls.specs.Calls.{Call, idle, updating, writing, Input, start_update, start_write, as_call, taken, stepped}
use Rattle.user_calls.proofs.Unchanged.{update-keeps}
use Rattle.whole_run.specs.World.{Sent, User, returned, user_step, after}
use Rattle.whole_run.specs.Runs.{NewWorld, Server, server_after, set}
use Rattle.whole_run.proofs.Requests.{entry-sizes}
use Rattle.whole_run.proofs.Refusals.{accepted-step}
use Rattle.honest_run.specs.Network.{HonestSetup, InRange, generated_key, settings_in, Network, reply, answer_bytes, arrives, steps, comes_back, network_after, handed, Act, calls, Run, in_records}
use Rattle.honest_run.specs.Claim.{ValidMemory, ValidInput, ValidCall, answers_of, count_of, OnlyPulls, Refused, AllValid, NotRefused, Reaches, Serves, CallsServe, HonestRun}
use Rattle.honest_run.proofs.Frames.{set_same, memory_holds, run_from}
use Rattle.honest_run.proofs.Keys.{tree_size_lem}
use Rattle.honest_run.proofs.Opening.{write-starts, entry-held, write_waits_lem, write-arrives, holding}
use Rattle.honest_run.proofs.Exchanges.{exchanged, handed_by}
use Rattle.honest_run.proofs.Theorem.{honest_run}

-- an Update that goes on leaves what is kept
state-stays : (s : Settings) (σ : State) (m : Lent) (x : Update) (a : List ℕ) → (update_taken s σ m x a).step.ended ≡ false
    → (update_taken s σ m x a).state ≡ σ
unfolding refused done asking
state-stays s σ m x a =
    by_taken s σ m x a (λ o. o.step.ended ≡ false → o.state ≡ σ) (λ _ _. refl)
    (λ t. by_goes s σ _ _ (λ o. o.step.ended ≡ false → o.state ≡ σ) (λ _ e. not_both true refl e) (λ _ _. refl))

-- and the entry's buffer
goes-held : (s : Settings) (σ : State) (m : Lent) (x : Update) → (update_goes s σ m x).lent.held ≡ m.held
goes-held s σ m x = by_goes s σ m x (λ o. o.lent.held ≡ m.held) (λ _. refl) (λ _. refl)

-- the code of a Write whose Update has ended with 0
opens-code : (s : Settings) (σ : State) (m : Lent) (w : Write) (o : Outcome Update) (a : List ℕ)
    → (write_opens s σ m w o a).step.code ≡ first_code (opening_checks o.state.kept.version (held_entry w m.held))
unfolding write_opens refused write_asks asking
opens-code s σ m w o a =
    let code = first_code (opening_checks o.state.kept.version (held_entry w m.held)) in
    by_cond (λ (l : Outcome Write). l.step.code ≡ code) (eqb code 0) _ _ (λ e. sym (eqb-true code 0 e)) (λ _. refl)

-- an Update that starts goes on
update-goes : (s : Settings) (σ : State) (m : Lent) → (update_started s σ m).step.code ≡ 0
    → (update_started s σ m ≡ update_goes s σ m fresh_update) × (user_settings_fit s ≡ true) × (kept_fits s σ.kept ≡ true)
unfolding update_started update_setup user_setup_checks user_fits refused
update-goes s σ m =
    let code = first_code (update_setup s σ.kept m.request) in
    by_cond
    (λ (o : Outcome Update). o.step.code ≡ 0 → (o ≡ update_goes s σ m fresh_update) × (user_settings_fit s ≡ true) × (kept_fits s σ.kept ≡ true))
    (eqb code 0) _ _
    (λ e _.
    let f = and-true (user_settings_fit s) (kept_fits s σ.kept) (check-passes 22 _ _ (λ z. omega arith) (eqb-true code 0 e)).0 in
    (refl, f.0, f.1))
    (λ e z. absurd (eqb-false code 0 e z))

-- user u with an Update, and user w with a Write of this entry that has come as far with its own
record Same (entry : List ℕ) (u w : User) : Type 0 where
  call : Write
  updates : u.call ≡ updating call.update
  writes : w.call ≡ writing call
  shut : call.opened ≡ false
  held : held_entry call u.lent.held ≡ entry
  same : w.state ≡ u.state
  lent_same : w.lent ≡ u.lent
  sent_same : w.sent ≡ u.sent

module _ (s : Settings) (entry : List ℕ) where
  goes_same : (u w : User) (y : Write) (σ : State) (o : Outcome Update) → o.step.code ≡ 0 → o.step.ended ≡ false
      → σ ≡ o.state → y.opened ≡ false → held_entry y o.lent.held ≡ entry
      → Same entry (after u (as_call updating o)) (after w (as_call writing (write_waits σ y o)))
  unfolding after write_waits returned held_entry
  goes_same u w y σ o z e same shut held =
      record {
        call = with_update y o.call;
        updates = ap (λ (b : Bool). cond (b && eqb o.step.code 0) idle (updating o.call)) e;
        writes = ap (λ (b : Bool). cond (b && eqb o.step.code 0) idle (writing (with_update y o.call))) e;
        shut = shut;
        held = held;
        same = same;
        lent_same = refl;
        sent_same = refl;
      }

  -- what call k of user u makes of the answer a
  abbrev takes_in : User → List ℕ → Call → Outcome Call
  takes_in u a k = taken s u.state u.lent k a

  module _ (u w : User) (a : List ℕ) (o : Same entry u w) where
    abbrev left : Outcome Update
    left = update_taken s u.state u.lent o.call.update a

    abbrev took : Outcome Write
    took = write_taken s w.state w.lent o.call a

    left_same : update_taken s w.state w.lent o.call.update a ≡ left
    left_same = ap₂ (λ (σ : State) (m : Lent). update_taken s σ m o.call.update a) o.same o.lent_same

    -- both take the same answer and go on
    abbrev GoOn : Outcome Call → Outcome Call → Type 0
    GoOn x y = x.step.code ≡ 0 → x.step.ended ≡ false → Same entry (after u x) (after w y) × (y.step.code ≡ 0)

    takes-on : GoOn (as_call updating left) (as_call writing took)
    unfolding write_waits
    takes-on z e =
        subst (λ (l : Outcome Write). Same entry (after u (as_call updating left)) (after w (as_call writing l)) × (l.step.code ≡ 0))
        (sym (write_waits_lem s w.state w.lent o.call a left o.shut left_same z e)) (
          goes_same u w o.call w.state left z e (o.same ∙ sym (state-stays s u.state u.lent o.call.update a e)) o.shut
              (ap (held_entry o.call) (update-keeps s u.state u.lent o.call.update a).held ∙ o.held),
          z,
        )

    takes : GoOn (takes_in u a u.call) (takes_in w a w.call)
    unfolding taken
    takes =
        subst (λ k. GoOn (takes_in u a k) (takes_in w a w.call)) (sym o.updates)
        (subst (λ k. GoOn (as_call updating left) (takes_in w a k)) (sym o.writes) takes-on)

    -- or it is the Update's last, and the Write would open
    last_on : left.step.code ≡ 0 → left.step.ended ≡ true → took.step.code ≡ first_code (opening_checks left.state.kept.version entry)
    last_on z e =
        ap (λ (l : Outcome Write). l.step.code) (write-arrives s w.state w.lent o.call a left o.shut left_same z e)
        ∙ opens-code s w.state w.lent o.call left a
        ∙ ap (λ (t : List ℕ). first_code (opening_checks left.state.kept.version t))
        (ap (λ (m : Lent). held_entry o.call m.held) o.lent_same ∙ o.held)

    last : (takes_in u a u.call).step.code ≡ 0 → (takes_in u a u.call).step.ended ≡ true
        → (takes_in w a w.call).step.code ≡ first_code (opening_checks (takes_in u a u.call).state.kept.version entry)
    unfolding taken
    last =
        subst
        (λ k. (takes_in u a k).step.code ≡ 0 → (takes_in u a k).step.ended ≡ true
        → (takes_in w a w.call).step.code ≡ first_code (opening_checks (takes_in u a k).state.kept.version entry))
        (sym o.updates)
        (subst
        (λ k. left.step.code ≡ 0 → left.step.ended ≡ true
        → (takes_in w a k).step.code ≡ first_code (opening_checks left.state.kept.version entry))
        (sym o.writes) last_on)

-- the two networks
module _ (c : HonestSetup) (a : ℕ) (entry : List ℕ) where
  record Alike (u w : Network) : Type 0 where
    users : Same entry (u.users a) (w.users a)
    servers : (s : ℕ) → w.servers s ≡ u.servers s

  module _ (u w : Network) (o : Alike u w) where
    abbrev q : Sent
    q = (u.users a).sent

    reply_same : reply c w (w.users a).sent ≡ reply c u q
    unfolding reply
    reply_same =
        ap (λ (z : Sent). reply c w z) o.users.sent_same
        ∙ ap (λ (y : Server). served (settings_in c q.server) y.head y.store y.used q.bytes (c.answers q.server))
        (o.servers q.server)

    arrives_same : (s : ℕ) → (arrives c w a).servers s ≡ (arrives c u a).servers s
    unfolding arrives
    arrives_same s =
        ap (λ (z : Sent). set w.servers z.server (server_after (reply c w (w.users a).sent)) s) o.users.sent_same
        ∙ ap (λ (l : ServeOutcome). set w.servers q.server (server_after l) s) reply_same
        ∙ ap (λ (y : Server). cond (eqb s q.server) (server_after (reply c u q)) y) (o.servers s)

    exchanged_alike : (handed_by c u a).code ≡ 0 → (handed_by c u a).ended ≡ false → Alike (exchanged c u a) (exchanged c w a)
    unfolding steps arrives comes_back user_step stepped
    exchanged_alike z e =
        let s = settings_in c a in
        let base = takes s entry (u.users a) (w.users a) (answer_bytes (reply c u q)) o.users z e in
        let mine = (user_step s (u.users a) (comes_back c u a)).user in
        let own = (user_step s (w.users a) (comes_back c w a)).user in
        let next : User = after (u.users a) (takes_in s entry (u.users a) (answer_bytes (reply c u q)) (u.users a).call) in
        let left : ServeOutcome → Outcome Call = λ l. takes_in s entry (w.users a) (answer_bytes l) (w.users a).call in
        let taken = ap (λ (l : ServeOutcome). (left l).step.code) reply_same ∙ base.1 in
        let last = accepted-step s (w.users a) (comes_back c w a) taken ∙ ap (λ (l : ServeOutcome). after (w.users a) (left l)) reply_same in
        record {
          users =
              subst (λ (y : User). Same entry y (set w.users a own a))
              (sym (set_same u.users a mine ∙ accepted-step s (u.users a) (comes_back c u a) z))
              (subst (λ (y : User). Same entry next y) (sym (set_same w.users a own ∙ last)) base.0);
          servers = arrives_same;
        }

    last_code : (handed_by c u a).code ≡ 0 → (handed_by c u a).ended ≡ true
        → (handed_by c w a).code ≡ first_code (opening_checks ((exchanged c u a).users a).state.kept.version entry)
    unfolding steps arrives comes_back user_step stepped after
    last_code z e =
        let s = settings_in c a in
        let mine = (user_step s (u.users a) (comes_back c u a)).user in
        ap (λ (l : ServeOutcome). (takes_in s entry (w.users a) (answer_bytes l) (w.users a).call).step.code) reply_same
        ∙ last s entry (u.users a) (w.users a) (answer_bytes (reply c u q)) o.users z e
        ∙ ap (λ (y : User). first_code (opening_checks y.state.kept.version entry))
        (sym (set_same u.users a mine ∙ accepted-step s (u.users a) (comes_back c u a) z))

-- a Write of user a, whose Update would be valid: beside it an Update with the same memory, once the entry is in it
module _ (c : HonestSetup) (range : InRange c) (r : Run Network) (a : ℕ) (m : Lent) (entry randomizer : List ℕ) (memory : ValidMemory m)
    (shut : (r.network.users a).state.kept.opened ≡ false) (key : m.key ≡ generated_key c a) (shaped : entry_fits entry ≡ true)
    (ruled : rules_kept entry ≡ true) (number : (r.network.users a).state.kept.number < 1024)
    (not-refused : NotRefused (count_of c r a (start_update (holding m entry))) (handed (in_records c) r.network a (start_update (holding m entry))))
    (serves : Serves r a ((network_after (in_records c) r.network a (start_update (holding m entry)) (count_of c r a (start_update m))).users a) (start_update m)) where
  abbrev x : Network
  x = r.network

  abbrev user : User
  user = x.users a

  abbrev n : ℕ
  n = count_of c r a (start_update m)

  abbrev i : Input
  i = start_write m entry randomizer

  abbrev j : Input
  j = start_update (holding m entry)

  some : 2 ≤ n
  unfolding answers_of
  some = omega (arith, range.two, answers-least c.servers user.state.kept.version (length r.log))

  -- the Update's steps have code 0, and only the last one ends it
  goes_well : (k : ℕ) → k ≤ n → ((handed (in_records c) x a j k).code ≡ 0) × ((handed (in_records c) x a j k).ended ≡ eqb k n)
  unfolding NotRefused answers_of
  goes_well = not-refused

  abbrev update : Outcome Update
  update = update_started (settings_in c a) user.state (holding m entry)

  abbrev start : Outcome Write
  start = write_started (settings_in c a) user.state m entry randomizer

  accepted : update.step.code ≡ 0
  unfolding handed user_step stepped
  accepted = (goes_well 0 (omega arith)).0

  waits : update.step.ended ≡ false
  unfolding handed user_step stepped
  waits = (goes_well 0 (omega arith)).1 ∙ ne_eqb 0 n (λ z. omega (arith, some))

  abbrev fresh : Write
  fresh = fresh_write user.state.kept entry randomizer

  -- what its start has passed, and that it goes on
  goes : (update ≡ update_goes (settings_in c a) user.state (holding m entry) fresh_update) × (user_settings_fit (settings_in c a) ≡ true)
      × (kept_fits (settings_in c a) user.state.kept ≡ true)
  goes = update-goes (settings_in c a) user.state (holding m entry) accepted

  starts : start ≡ write_waits user.state fresh update
  starts =
      write-starts (settings_in c a) user.state m entry randomizer goes.1 goes.2 memory.request
      (subst (λ (k : Key). longest_tree ≤ length k.tree) (sym key) (tree_size_lem c a)) shaped ruled shut number
      ∙ ap (write_waits user.state fresh) (sym goes.0)

  -- its start is not refused
  write-accepted : (handed (in_records c) x a (start_write m entry randomizer) 0).code ≡ 0
  unfolding handed user_step stepped write_waits
  write-accepted = ap (λ (o : Outcome Write). o.step.code) starts ∙ accepted

  started-state : user.state ≡ update.state
  unfolding done asking
  started-state =
      subst (λ (o : Outcome Update). o.step.ended ≡ false → user.state ≡ o.state) (sym goes.0)
      (by_goes (settings_in c a) user.state (holding m entry) fresh_update (λ o. o.step.ended ≡ false → user.state ≡ o.state)
      (λ _ e. not_both true refl e) (λ _ _. refl)) waits

  held-now : held_entry fresh update.lent.held ≡ entry
  held-now =
      ap (held_entry fresh) (ap (λ (o : Outcome Update). o.lent.held) goes.0 ∙ goes-held (settings_in c a) user.state (holding m entry) fresh_update)
      ∙ entry-held user.state.kept entry randomizer m.held memory.held (entry-sizes entry shaped).1

  first : Alike c a entry (steps c x a j) (steps c x a i)
  unfolding steps user_step stepped handed fresh_write
  first =
      let mine = (user_step (settings_in c a) user j).user in
      let own = (user_step (settings_in c a) user i).user in
      let next : User = after user (as_call updating update) in
      let e : mine ≡ next = accepted-step (settings_in c a) user j accepted in
      let d : own ≡ after user (as_call writing start) = accepted-step (settings_in c a) user i write-accepted in
      record {
        users =
            subst (λ (y : User). Same entry y ((steps c x a i).users a)) (sym (set_same x.users a mine ∙ e))
            (subst (λ (y : User). Same entry next y) (sym (set_same x.users a own ∙ d))
            (subst (λ (o : Outcome Write). Same entry next (after user (as_call writing o))) (sym starts)
            (goes_same (settings_in c a) entry user user fresh user.state update accepted waits started-state shut held-now)));
        servers = λ s. refl;
      }

  -- until then the two go on alike
  alike : (k : ℕ) → k < n → Alike c a entry (network_after (in_records c) x a j k) (network_after (in_records c) x a i k)
  unfolding network_after handed
  alike zero h = first
  alike (suc k) h =
      let z = goes_well (suc k) (omega arith) in
      exchanged_alike c a entry (network_after (in_records c) x a j k) (network_after (in_records c) x a i k) (alike k (omega arith)) z.0
      (z.1 ∙ ne_eqb (suc k) n (λ e. omega arith))

  -- and the Write has handed out pulls alone
  only_pulls : (k : ℕ) → k < n → OnlyPulls ((network_after (in_records c) x a (start_write m entry randomizer) k).users a).call
  unfolding OnlyPulls
  only_pulls k h = let o = (alike k h).users in subst OnlyPulls (sym o.writes) o.shut

  -- the code of the answer that would be the Update's last
  last-answer : (k : ℕ) → n ≡ suc k
      → (handed (in_records c) x a i (suc k)).code ≡ first_code (opening_checks ((network_after (in_records c) x a j (suc k)).users a).state.kept.version entry)
  unfolding network_after handed
  last-answer k e =
      let z = goes_well (suc k) (omega arith) in
      last_code c a entry (network_after (in_records c) x a j k) (network_after (in_records c) x a i k) (alike k (omega arith)) z.0 (z.1 ∙ eq-eqb (suc k) n (sym e))

  opening_code : (handed (in_records c) x a (start_write m entry randomizer) n).code ≡ first_code (opening_checks (length r.log) entry)
  unfolding Serves Reaches
  opening_code =
      let e : n ≡ suc (n - 1) = omega (arith, some) in
      subst (λ k. (handed (in_records c) x a i k).code ≡ first_code (opening_checks ((network_after (in_records c) x a j k).users a).state.kept.version entry)) (sym e)
      (last-answer (n - 1) e)
      ∙ ap (λ v. first_code (opening_checks v entry)) serves.0

-- After every list of calls: a Write that is valid but for its target or the log's limit is refused at the end of its Update.
pub refused-write : (c : HonestSetup) → InRange c → (b : NewWorld) (xs : List Act) → AllValid c (run_from c b) xs
    → (a : ℕ) (m : Lent) (entry randomizer : List ℕ) → ValidCall c (run_from c b xs) a (start_update m) → m.key ≡ generated_key c a → entry_fits entry ≡ true
    → rules_kept entry ≡ true
    → ((run_from c b xs).network.users a).state.kept.number < 1024
    → (length (run_from c b xs).log < 1048576 → target_fits (length (run_from c b xs).log) entry ≡ false)
    → let write = start_write m entry randomizer in
    let k = count_of c (run_from c b xs) a (start_update m) in
    let code = (handed (in_records c) (run_from c b xs).network a write k).code in
    Refused c (run_from c b xs) (calls a write k false) × ((code ≡ 20) ⊎ (code ≡ 19))
unfolding HonestRun CallsServe Refused ValidInput opening_checks first_code answers_of Serves
refused-write c range b xs all a m entry randomizer valid key shaped ruled number bad =
    let r = run_from c b xs in
    let memory = valid.input.0 in
    let shut = valid.input.1 in
    let too : ValidCall c (run_from c b xs) a (start_update (holding m entry)) =
    record { one = valid.one; listed = valid.listed; alone = valid.alone; input = (memory_holds m entry memory, shut) } in
    let h = honest_run c range b xs all a (start_update (holding m entry)) too in
    let is = opening_code c range r a m entry randomizer memory shut key shaped ruled number h.0 h.1 in
    let code = (handed (in_records c) r.network a (start_write m entry randomizer) (count_of c r a (start_update m))).code in
    let by : (code ≡ 20) ⊎ (code ≡ 19) =
    cases_le 1048576 (length r.log) (λ l. inl (is ∙ rw (le-ltb (length r.log) 1048576 l)))
    (λ l. inr (is ∙ rw (lt-ltb (length r.log) 1048576 l, bad l))) in
    let start = write-accepted c range r a m entry randomizer memory shut key shaped ruled number h.0 h.1 in
    let pulls = only_pulls c range r a m entry randomizer memory shut key shaped ruled number h.0 h.1 in
    ((refl, λ z. ⊎_elim (λ e. omega arith) (λ e. omega arith) by, λ j few. (start, pulls j few)), by)
