-- Calls of the list that were refused before they had handed out anything but pulls: they leave what the next call needs.
use mathlib.Core.Path.{◌≡◌, refl, ap, sym, ◌∙◌, subst}
use mathlib.Core.Bool.{Bool, true, false, cond, ◌&&◌}
use mathlib.Core.List.{List, [], ◌++◌, map, append-nil}
use Prim.Native.Nat.{ℕ, zero, suc, ◌≤◌, ◌<◌}
use native.Mathlib.Omega.{arith}
use lib.Dec.{eqb, leb}
use lib.ListN.{length}
use borrow.Author.Tests.{eq-eqb, ne_eqb, eqb-true, eqb-false, leb-true}
use Rattle.sha256.proofs.Cases.{by_bool}
use Rattle.tree.specs.Bytes.{written}
use Rattle.tree.specs.Message.{request_kind, answer_body}
use Rattle.tree.specs.Setup.{first_code, Settings}
use Rattle.tree.proofs.Cases.{and-true, cases_eq, not_both}
use Rattle.user_list.specs.Users.{least_request}
use Rattle.server.proofs.Theorems.{pull_changes_nothing}
use Rattle.user.specs.declared.ask.Want.{Want}
use Rattle.user.specs.declared.call.StepResult.{StepResult}
use Rattle.user.specs.Asking.{request_room, asks, refused, done, asking}
use Rattle.user.specs.Outcome.{State, Lent, Outcome}
use Rattle.user.proofs.Passed.{setup-passed, by_cond}
use Rattle.user_update.specs.declared.call.Update.{Update}
use Rattle.user_update.specs.Update.{fresh_update, update_setup, update_goes, update_started}
use Rattle.user_update.proofs.UpdateRules.{by_goes, by_taken}
use Rattle.user_write.specs.declared.call.Write.{Write}
use Rattle.user_write.specs.Write.{fresh_write, write_room, write_start_checks, write_started, write_asks, write_waits, write_taken}
use Rattle.user_write.proofs.WriteRules.{by_going, by_opening}
use Rattle.user_write.proofs.WriteAnswers.{by_updating}
use Rattle.user_read.specs.Read.{read_at, read_want, read_checks, read_asks, read_started, read_collected, read_ends, read_next}
use Rattle.user_read.proofs.ReadRules as ReadRules
use Rattle.user_calls.specs.Calls.{Call, idle, updating, writing, reading, giving_up, Input, start_update, start_write, start_read, start_give_up, answer, as_call, taken, stepped}
use Rattle.whole_run.specs.World.{User, sent_by, returned, user_step, after}
use Rattle.whole_run.specs.Runs.{server_after}
use Rattle.whole_run.proofs.Requests.{sent-kind, update-kind, read-kind}
use Rattle.whole_run.proofs.Refusals.{refused-step, accepted-step}
use Rattle.honest_run.specs.Network.{HonestSetup, InRange, settings_in, Network, reply, arrives, steps, comes_back, network_after}
use Rattle.honest_run.specs.Network.{handed, Act, calls, Written, Run, wrote, do_act, entries_of, in_records}
use Rattle.honest_run.specs.Claim.{OnlyPulls, Refused}
use Rattle.honest_run.proofs.Frames.{by_set, set_same}
use Rattle.honest_run.proofs.Served.{server-is}
use Rattle.honest_run.proofs.Opening.{holding}
use Rattle.honest_run.proofs.Moves.{good_same}
use Rattle.honest_run.proofs.Calls.{Holds, begun_by, Between}

-- nothing is written by a step that is refused
wrote-refused : (a : ℕ) (i : Input) (z : StepResult) → (z.code ≡ 0 → ⊥) → wrote a i z ≡ []
unfolding wrote returned
wrote-refused a i z n =
    by_bool (λ t. cond {A = List Written} (t && eqb z.code 0) (map (λ e. record { author = a; entry = e }) (entries_of i)) [] ≡ []) z.ended
    (λ _. rw (ne_eqb z.code 0 n)) (λ _. refl)

pub log_same : (r : Run Network) (a : ℕ) (i : Input) (z : StepResult) → (z.code ≡ 0 → ⊥) → r.log ++ wrote a i z ≡ r.log
log_same r a i z n = ap (λ (y : List Written). r.log ++ y) (wrote-refused a i z n) ∙ append-nil r.log

-- What a step with code 0 leaves of a user that kept σ, where its call only pulls then: what was kept, and a pull as the request that is out.
module _ (s : Settings) (named : length s.log ≡ 16) (σ : State) where
  abbrev Pulls : Outcome Call → Type 0
  Pulls o =
      o.step.code ≡ 0 → OnlyPulls (cond (returned o.step) idle o.call)
      → (o.state ≡ σ) × (request_kind (sent_by o.step o.lent.request).bytes ≤ 4)

  -- a give-up, and a user with no call, never pull
  never : (o : Outcome Call) → (OnlyPulls o.call → ⊥) → Pulls o
  unfolding OnlyPulls
  never o n _ p = absurd (by_bool (λ t. OnlyPulls (cond t idle o.call) → ⊥) (returned o.step) (λ _ q. q) (λ _. n) p)

  pull_out : (want : Want) (buffer : List ℕ) → want.kind < 5 → request_room buffer ≡ true
      → request_kind (sent_by (asking want []) (written buffer 0 (asks s want []))).bytes ≤ 4
  unfolding sent_by asking request_room
  pull_out want buffer small room =
      let long = leb-true least_request (length buffer) room in
      omega (arith, sent-kind s want [] buffer named (omega arith) (omega arith))

  -- an Update, and that of a Write
  update-goes : (m : Lent) (u : Update) → request_room m.request ≡ true → Pulls (as_call updating (update_goes s σ m u))
  unfolding OnlyPulls returned done
  update-goes m u room =
      by_goes s σ m u (λ o. Pulls (as_call updating o)) (λ _ _ p. absurd p)
      (λ _ _ _. (refl, pull_out _ _ (update-kind s.servers σ.kept.version u) room))

  write_goes : (m : Lent) (w : Write) (u : Update) → request_room m.request ≡ true → Pulls (as_call writing (write_waits σ w (update_goes s σ m u)))
  unfolding OnlyPulls returned done write_waits
  write_goes m w u room =
      by_goes s σ m u (λ o. Pulls (as_call writing (write_waits σ w o))) (λ _ _ p. absurd p)
      (λ _ _ _. (refl, pull_out _ _ (update-kind s.servers σ.kept.version u) room))

  -- a start
  update-starts : (m : Lent) → Pulls (as_call updating (update_started s σ m))
  unfolding update_started update_setup refused
  update-starts m =
      let code = first_code (update_setup s σ.kept m.request) in
      by_cond (λ o. Pulls (as_call updating o)) (eqb code 0) _ _
      (λ e. update-goes m fresh_update (setup-passed s σ.kept (request_room m.request) _ (eqb-true code 0 e)).1)
      (λ e z. absurd (eqb-false code 0 e z))

  write-starts : (m : Lent) (entry randomizer : List ℕ) → Pulls (as_call writing (write_started s σ m entry randomizer))
  unfolding write_started write_start_checks write_room fresh_write refused OnlyPulls returned write_asks asking
  write-starts m entry randomizer =
      let code = first_code (write_start_checks s σ m entry) in
      by_cond (λ o. Pulls (as_call writing o)) (eqb code 0) _ _
      (λ e.
      let room = (and-true (request_room m.request) _ (setup-passed s σ.kept (write_room s m.key m.request) _ (eqb-true code 0 e)).1).0 in
      by_cond (λ o. Pulls (as_call writing o)) σ.kept.opened _ _ (λ t _ p. not_both σ.kept.opened t p)
      (λ _. write_goes (holding m entry) (fresh_write σ.kept entry randomizer) fresh_update room))
      (λ e z. absurd (eqb-false code 0 e z))

  read-starts : (m : Lent) (i : ℕ) → Pulls (as_call reading (read_started s σ m i))
  unfolding read_started read_checks read_asks refused
  read-starts m i =
      let code = first_code (read_checks s σ.kept i m) in
      by_cond (λ o. Pulls (as_call reading o)) (eqb code 0) _ _
      (λ e.
      let room = (setup-passed s σ.kept (request_room m.request && leb 1024 (length m.entry)) _ (eqb-true code 0 e)).1 in
      λ _ _. (refl, pull_out _ _ (read-kind s.servers σ.kept.version (read_at i 0)) (and-true (request_room m.request) _ room).0))
      (λ e z. absurd (eqb-false code 0 e z))

  -- an answer
  write-takes : (m : Lent) (w : Write) (a : List ℕ) → Pulls (as_call writing (write_taken s σ m w a))
  unfolding write_taken refused done OnlyPulls returned write_asks write_waits asking
  write-takes m w a =
      let P : Outcome Write → Type 0 = λ o. Pulls (as_call writing o) in
      by_cond P w.opened _ _ (λ _. by_going s σ m w a P (λ n z. absurd (n z)) (λ _ _ _ p. absurd p) (λ _ _ _ p. not_both true refl p))
      (λ _.
      by_updating s σ m w a P (λ _ n z. absurd (n z)) (λ _ _. by_opening s σ m w _ a P (λ n z. absurd (n z)) (λ _ _ p. not_both true refl p))
      (λ t _ _ _. (refl, pull_out _ _ (update-kind s.servers σ.kept.version _) t.room)))

  takes : (m : Lent) (call : Call) (a : List ℕ) → Pulls (taken s σ m call a)
  unfolding taken refused done OnlyPulls returned read_asks read_ends read_collected
  takes m idle a = never (taken s σ m idle a) (λ p. p)
  takes m (updating u) a =
      by_taken s σ m u a (λ o. Pulls (as_call updating o)) (λ n z. absurd (n z)) (λ t. update-goes _ _ t.room)
  takes m (writing w) a = write-takes m w a
  takes m (reading r) a =
      ReadRules.by_taken s σ m r a (λ o. Pulls (as_call reading o)) (λ n z. absurd (n z)) (λ _ _ _ _ p. absurd p)
      (λ t _ _ _. (refl, pull_out (read_want s.servers σ.kept.version _) _ (read-kind s.servers σ.kept.version (read_next r (answer_body a))) t.request-room))
  takes m (giving_up g) a = never (taken s σ m (giving_up g) a) (λ p. p)

  any_step : (m : Lent) (call : Call) (i : Input) → Pulls (stepped s σ m call i)
  unfolding stepped OnlyPulls
  any_step m call (start_update l) = update-starts l
  any_step m call (start_write l entry randomizer) = write-starts l entry randomizer
  any_step m call (start_read l i) = read-starts l i
  any_step m call (start_give_up l) = never (stepped s σ m call (start_give_up l)) (λ p. p)
  any_step m call (answer a) = takes m call a

  -- a Write that only pulls started with nothing open
  starts_shut : (m : Lent) (entry randomizer : List ℕ) → (write_started s σ m entry randomizer).step.code ≡ 0
      → OnlyPulls (cond (returned (write_started s σ m entry randomizer).step) idle (writing (write_started s σ m entry randomizer).call))
      → σ.kept.opened ≡ false
  unfolding write_started fresh_write refused OnlyPulls returned write_asks asking
  starts_shut m entry randomizer =
      let code = first_code (write_start_checks s σ m entry) in
      let P : Outcome Write → Type 0 =
      λ o. o.step.code ≡ 0 → OnlyPulls (cond (returned o.step) idle (writing o.call)) → σ.kept.opened ≡ false in
      by_cond P (eqb code 0) _ _ (λ _. by_cond P σ.kept.opened _ _ (λ _ _ p. p) (λ f _ _. f)) (λ e z. absurd (eqb-false code 0 e z))

-- the same of a user's step
step_pulls : (s : Settings) → length s.log ≡ 16 → (u : User) (i : Input) → (user_step s u i).step.code ≡ 0 → OnlyPulls (user_step s u i).user.call
    → ((user_step s u i).user.state ≡ u.state) × (request_kind (user_step s u i).user.sent.bytes ≤ 4)
unfolding user_step after
step_pulls s named u i z =
    subst (λ (v : User). OnlyPulls v.call → (v.state ≡ u.state) × (request_kind v.sent.bytes ≤ 4)) (sym (accepted-step s u i z))
    (any_step s named u.state u.lent u.call i z)

-- what users keep, and servers, are in v as in x
pub record Unmoved (x v : Network) : Type 0 where
  pub states : (j : ℕ) → (v.users j).state ≡ (x.users j).state
  pub servers : (s : ℕ) → v.servers s ≡ x.servers s

module _ (c : HonestSetup) (range : InRange c) (x : Network) (a : ℕ) where
  -- user a has a pull out
  abbrev Quiet : Network → Type 0
  Quiet v = request_kind (v.users a).sent.bytes ≤ 4

  -- which leaves its server, whatever that answers
  pull_leaves : (v : Network) → Quiet v → (s : ℕ) → (arrives c v a).servers s ≡ v.servers s
  unfolding arrives reply server_after
  pull_leaves v quiet s =
      let q = (v.users a).sent in
      let y = v.servers q.server in
      let p = pull_changes_nothing (settings_in c q.server) y.head y.store y.used q.bytes (c.answers q.server) quiet in
      by_set (λ k z. z ≡ v.servers k) v.servers q.server (server_after (reply c v q)) s
      (server-is y _ _ _ p.0 p.1.0 p.1.1) (λ _. refl)

  arrived : (v : Network) → Quiet v → Unmoved x v → Unmoved x (arrives c v a)
  unfolding arrives
  arrived v quiet o = record { states = o.states; servers = λ s. pull_leaves v quiet s ∙ o.servers s }

  -- user a after a step
  abbrev own : Network → Input → User
  own v i = (user_step (settings_in c a) (v.users a) i).user

  -- a step that leaves what user a kept
  stepped-on : (v : Network) (i : Input) → (own v i).state ≡ (v.users a).state → Unmoved x v → Unmoved x (steps c v a i)
  unfolding steps
  stepped-on v i same o =
      record {
        states = λ j. by_set (λ k (u : User). u.state ≡ (x.users k).state) v.users a (own v i) j (same ∙ o.states a) (λ _. o.states j);
        servers = o.servers;
      }

  -- the step's code
  abbrev code_of : Network → Input → ℕ
  code_of v i = (user_step (settings_in c a) (v.users a) i).step.code

  -- a refused step is one
  refuses : (v : Network) (i : Input) → (code_of v i ≡ 0 → ⊥) → Unmoved x v → Unmoved x (steps c v a i)
  refuses v i n = stepped-on v i (ap (λ (u : User). u.state) (refused-step (settings_in c a) (v.users a) i n))

  -- a step with code 0 that leaves a call which only pulls leaves a pull out,
  pulls : (v : Network) (i : Input) → code_of v i ≡ 0 → OnlyPulls ((steps c v a i).users a).call → Unmoved x v → Unmoved x (steps c v a i) × Quiet (steps c v a i)
  unfolding steps
  pulls v i z only o =
      let same = set_same v.users a (own v i) in
      let p = step_pulls (settings_in c a) range.named (v.users a) i z (subst (λ (u : User). OnlyPulls u.call) same only) in
      (stepped-on v i p.0 o, subst (λ (u : User). request_kind u.sent.bytes ≤ 4) (sym same) p.1)

  -- and a refused one the pull that was out
  pulls_on : (v : Network) (i : Input) → OnlyPulls ((steps c v a i).users a).call → Unmoved x v × Quiet v → Unmoved x (steps c v a i) × Quiet (steps c v a i)
  unfolding steps
  pulls_on v i only o =
      cases_eq (code_of v i) 0 (λ z. pulls v i z only o.0)
      (λ n.
      let same = set_same v.users a (own v i) ∙ refused-step (settings_in c a) (v.users a) i n in
      (refuses v i n o.0, subst (λ (u : User). request_kind u.sent.bytes ≤ 4) (sym same) o.1))

  -- a whole call
  module _ (i : Input) where
    abbrev at : ℕ → Network
    at k = network_after (in_records c) x a i k

    abbrev PullsAt : ℕ → Type 0
    PullsAt k = ((handed (in_records c) x a i 0).code ≡ 0) × OnlyPulls ((at k).users a).call

    none : Unmoved x x
    none = record { states = λ j. refl; servers = λ s. refl }

    pulling : (k : ℕ) → ((j : ℕ) → j < suc k → PullsAt j) → Unmoved x (arrives c (at k) a) × Quiet (arrives c (at k) a)
    unfolding network_after handed arrives
    pulling zero all =
        let p = pulls x i (all 0 (omega arith)).0 (all 0 (omega arith)).1 none in
        (arrived (at 0) p.1 p.0, p.1)
    pulling (suc k) all =
        let p = pulls_on (arrives c (at k) a) (comes_back c (at k) a) (all (suc k) (omega arith)).1 (pulling k (λ j h. all j (omega arith))) in
        (arrived (at (suc k)) p.1 p.0, p.1)

    -- its answer k is refused
    refused_by : (k : ℕ) → ((handed (in_records c) x a i k).code ≡ 0 → ⊥) → ((j : ℕ) → j < k → PullsAt j) → Unmoved x (at k)
    unfolding network_after handed arrives
    refused_by zero n all = refuses x i n none
    refused_by (suc k) n all = refuses (arrives c (at k) a) (comes_back c (at k) a) n (pulling k all).0

-- What users keep, and servers, are after a refused call what they were before it.
pub refused_unmoved : (c : HonestSetup) (range : InRange c) (r : Run Network) (a : ℕ) (i : Input) (k : ℕ) (late : Bool) → Refused c r (calls a i k late)
    → Unmoved r.network (do_act (in_records c) r (calls a i k late)).network
unfolding Refused do_act
refused_unmoved c range r a i k late v =
    subst (λ t. Unmoved r.network (do_act (in_records c) r (calls a i k t)).network) (sym v.0) (refused_by c range r.network a i k v.1 v.2)

-- a call that only pulls after its start begins no entry where a write is open
begins-none : (c : HonestSetup) → InRange c → (r : Run Network) (a : ℕ) (i : Input) → (handed (in_records c) r.network a i 0).code ≡ 0
    → OnlyPulls ((network_after (in_records c) r.network a i 0).users a).call → (j : ℕ) → (r.network.users j).state.kept.opened ≡ true
    → begun_by r a i j ≡ r.begun j
unfolding network_after handed steps entries_of user_step stepped after
begins-none c range r a (start_update m) z only j t = by_set (λ k e. e ≡ r.begun k) r.begun a (r.begun a) j refl (λ _. refl)
begins-none c range r a (start_write m entry randomizer) z only j t =
    let u = r.network.users a in
    let s = settings_in c a in
    let i = start_write m entry randomizer in
    let shut : u.state.kept.opened ≡ false =
    starts_shut s range.named u.state m entry randomizer z
    (subst (λ (v : User). OnlyPulls v.call) (set_same r.network.users a (user_step s u i).user ∙ accepted-step s u i z) only) in
    by_set (λ k e. (r.network.users k).state.kept.opened ≡ true → e ≡ r.begun k) r.begun a entry j (λ o. not_both _ o shut) (λ _ _. refl) t
begins-none c range r a (start_read m i) z only j t = by_set (λ k e. e ≡ r.begun k) r.begun a (r.begun a) j refl (λ _. refl)
begins-none c range r a (start_give_up m) z only j t = by_set (λ k e. e ≡ r.begun k) r.begun a (r.begun a) j refl (λ _. refl)
begins-none c range r a (answer y) z only j t = by_set (λ k e. e ≡ r.begun k) r.begun a (r.begun a) j refl (λ _. refl)

-- the entries begun after a refused call
abbrev begun_after : HonestSetup → Run Network → ℕ → Input → ℕ → List ℕ
begun_after c r a i = cond (eqb (handed (in_records c) r.network a i 0).code 0) (begun_by r a i) r.begun

begun_same : (c : HonestSetup) → InRange c → (r : Run Network) (a : ℕ) (i : Input) (k : ℕ) (late : Bool) → Refused c r (calls a i k late)
    → (j : ℕ) → (r.network.users j).state.kept.opened ≡ true → begun_after c r a i j ≡ r.begun j
unfolding Refused
begun_same c range r a i zero late v j t = ap (λ b. cond b (begun_by r a i) r.begun j) (ne_eqb (handed (in_records c) r.network a i 0).code 0 v.1)
begun_same c range r a i (suc k) late v j t =
    let first = v.2 0 (omega arith) in
    ap (λ b. cond b (begun_by r a i) r.begun j) (eq-eqb (handed (in_records c) r.network a i 0).code 0 first.0)
    ∙ begins-none c range r a i first.0 first.1 j t

-- every call that was refused leaves what the next one needs
pub refused-leaves : (c : HonestSetup) → InRange c → (r : Run Network) (x : Act) → Between c r → Refused c r x → Between c (do_act (in_records c) r x)
unfolding Refused do_act
refused-leaves c range r (calls a i k late) between v =
    let o = refused_unmoved c range r a i k late v in
    record {
      log = between.log;
      w = between.w;
      g = between.g;
      good =
          good_same c between.log between.w between.g r.begun (begun_after c r a i) r.network _ between.good o.states
          (λ s _. o.servers s) (begun_same c range r a i k late v);
      holds = subst (Holds between.log between.w) (sym (log_same r a i (handed (in_records c) r.network a i k) v.1)) between.holds;
    }
