-- A user's step keeps what stands behind its signatures at H, and what H accepted of its open write.
use mathlib.Core.Path.{◌≡◌, refl, sym, ◌∙◌, subst}
use mathlib.Core.Bool.{Bool, true, false, cond, ◌||◌}
use mathlib.Core.List.Memᴰ
use mathlib.Core.List.{List, ◌++◌, Memᴰ}
use mathlib.Core.Logic.{◌⊎◌, inl, inr}
use Prim.Native.Nat.{ℕ, suc, ◌≤◌, ◌<◌}
use native.Mathlib.Omega.{arith}
use lib.Dec.{eqb}
use borrow.Author.Tests.{ne_eqb, eqb-false, leb-true}
use Rattle.tree.specs.Bytes.{written}
use Rattle.tree.specs.Level.{lg}
use Rattle.tree.specs.Message.{request, request_kind, request_position, answer_body, signed_text}
use Rattle.tree.specs.Setup.{Settings, first_code}
use Rattle.tree.proofs.Cases.{cases_eq, not_both}
use Rattle.user.specs.Asking.{refused, done, asking}
use Rattle.user.specs.declared.call.Progress.{Progress}
use Rattle.user.specs.Outcome.{State, with_kept, with_progress, Lent, with_held, Outcome}
use Rattle.user.proofs.Passed.{by_cond}
use Rattle.user_update.specs.declared.call.Update.{Update}
use Rattle.user_update.specs.Update.{fresh_update, arrived, update_answers, update_ended, update_setup, update_started, update_taken}
use Rattle.user_update.proofs.UpdateRules.{Taken, by_taken, by_goes, next-above, answers-least, ended_with}
use Rattle.user_update.proofs.UpdateAnswers.{arrives_at}
use Rattle.user_write.specs.declared.call.Write.{Write}
use Rattle.user_write.specs.Write.{path_digest, write_asks, write_waits, write_start_checks, fresh_write, write_started, write_updates, opening, signs_next, signing, committed, goes_on, write_goes, write_taken}
use Rattle.user_write.proofs.WriteAnswers.{by_updating}
use Rattle.user_write.proofs.WriteRules.{Going, by_going, by_opening, signs_last, commit_late}
use Rattle.user_read.specs.declared.call.Read.{Read}
use Rattle.user_read.specs.Read.{read_started, read_taken}
use Rattle.user_read.proofs.ReadAnswers.{read-state, read-start-state}
use Rattle.user_give_up.specs.declared.call.GiveUp.{GiveUp}
use Rattle.user_give_up.specs.GiveUp.{beginning, told, closed, give_up_goes, give_up_started, give_up_taken}
use Rattle.user_give_up.proofs.GiveUpRules as Give
use Rattle.user_calls.specs.Calls.{Call, idle, updating, writing, reading, giving_up, Input, start_update, start_write, start_read, start_give_up, answer, as_call, taken, stepped}
use Rattle.whole_run.specs.World.{settings_for, Event, hashed, signed, accepted, handed_out, answered, Sent, User, returned, after, events_of, user_step}
use Rattle.fork_bound.specs.Fair.{FairInput, SinceGiveUps, Gave, as_messages}
use Rattle.whole_run.proofs.Refusals.{accepted-step}
use Rattle.fork_bound.proofs.Noted.{Whole}
use Rattle.fork_bound.proofs.States.{open_position, open_digest, UpdateOk, WriteOk, CallOk, GivingUp, UserOk}
use Rattle.fork_bound.proofs.UpdateSteps.{next_update, collected}
use Rattle.fork_bound.proofs.Taken.{NoneGivesUp, took-later, TookBelow, CallTook, Passed, Firm, Guarded}
use Rattle.fork_bound.proofs.Events.{stray, Signing, SigningIn, accepted-events, step_event}
use Rattle.fork_bound.proofs.UserSteps.{step-behind}
use Rattle.fork_bound.proofs.GiveUpSteps.{unsigned}
use Rattle.fork_bound.proofs.Heads.{reserve-read}

-- A user's version never falls, and a signed write stays open until it is committed.
pub record Forward (σ σ' : State) : Type 0 where
  pub up : σ.kept.version ≤ σ'.kept.version
  pub stays : σ.kept.opened ≡ true → σ.kept.signed ≡ true
      → (σ.kept.version < σ'.kept.version)
      ⊎ ((σ'.kept.version ≡ σ.kept.version) × (σ'.kept.opened ≡ true) × (σ'.kept.signed ≡ true))

forward_same : (σ : State) → Forward σ σ
forward_same σ = record { up = omega arith; stays = λ o t. inr (refl, o, t) }

or-true : (b : Bool) → b || true ≡ true
or-true true = refl
or-true false = refl

-- from a state with nothing open
forward_shut : (σ σ' : State) → σ.kept.opened ≡ false → σ.kept.version ≤ σ'.kept.version → Forward σ σ'
forward_shut σ σ' shut h = record { up = h; stays = λ o _. not_both σ.kept.opened o shut }

-- from one that is not signed
forward_unsigned : (σ σ' : State) → σ.kept.signed ≡ false → σ.kept.version ≤ σ'.kept.version → Forward σ σ'
forward_unsigned σ σ' plain h = record { up = h; stays = λ _ t. not_both σ.kept.signed t plain }

module _ (W : Whole) (own : ℕ) (u : User) (ok : UserOk W own u) (log : List Event) where
  abbrev s : Settings
  s = settings_for W.group own

  abbrev σ : State
  σ = u.state

  abbrev p : ℕ
  p = open_position u.state

  abbrev δ : List ℕ
  δ = open_digest u.state

  abbrev n : ℕ
  n = W.group.servers

  -- what is asked of an input that is taken, and of an answer
  abbrev FairIn : Input → Type 0
  FairIn = FairInput W.follows (as_messages W.follows W.account) own log u

  abbrev FairAnswer : List ℕ → Type 0
  FairAnswer a = u.sent.server ≡ W.follows → Gave W.follows W.account own log u.sent.bytes a

  -- what a step with code 0 keeps, by what was noted before it
  abbrev Keeps : {C : Type 0} → (C → Call) → Outcome C → Type 0
  Keeps kind o = o.step.code ≡ 0 → Forward σ o.state × CallTook W log own o.state (after u (as_call kind o)).call

  -- an Update that has ended: p* is not below the version
  arrived_up : (c : Update) (a : List ℕ) → UpdateOk W σ.kept.version c → Taken s σ u.lent c a
      → update_ended n σ.kept.version (next_update W c a) ≡ true → σ.kept.version ≤ (arrived σ.kept (next_update W c a)).version
  unfolding update_ended
  arrived_up c a i t e =
      let v = σ.kept.version in
      let next = next_update W c a in
      let had = leb-true (update_answers n v next.position) next.answers e in
      let up = next-above s σ.kept c _ (answer_body a) t.checks i.above (omega (arith, answers-least n v next.position)) in
      omega (arith, arrives_at s σ u.lent c a t e)

  update-keeps : (c : Update) (a : List ℕ) → UpdateOk W σ.kept.version c → Keeps updating (update_taken s σ u.lent c a)
  unfolding after returned done asking refused
  update-keeps c a i =
      by_taken s σ u.lent c a (Keeps updating) (λ n z. absurd (n z))
      (λ t. by_goes s σ (collected W c a u.lent) (next_update W c a) (Keeps updating)
      (λ e _. (forward_shut σ _ t.shut (arrived_up c a i t e), tt)) (λ _ _. (forward_same σ, tt)))

  update-start-keeps : (m : Lent) → Keeps updating (update_started s σ m)
  unfolding update_started fresh_update arrived after returned done asking refused
  update-start-keeps m =
      let code = first_code (update_setup s σ.kept m.request) in
      by_cond (Keeps updating) (eqb code 0) _ _
      (λ e. by_goes s σ m fresh_update (Keeps updating) (λ _ _. (forward_same σ, tt)) (λ _ _. (forward_same σ, tt)))
      (λ e z. absurd (eqb-false code 0 e z))

  read_keeps : (r : Read) (a : List ℕ) → Keeps reading (read_taken s σ u.lent r a)
  unfolding after
  read_keeps r a z =
      let o = read_taken s σ u.lent r a in (
        subst (Forward σ) (sym (read-state s σ u.lent r a)) (forward_same σ),
        by_cond (CallTook W log own o.state) (returned o.step) idle (reading o.call) (λ _. tt) (λ _. tt),
      )

  read-start-keeps : (m : Lent) (i : ℕ) → Keeps reading (read_started s σ m i)
  unfolding after
  read-start-keeps m i z =
      let o = read_started s σ m i in (
        subst (Forward σ) (sym (read-start-state s σ m i)) (forward_same σ),
        by_cond (CallTook W log own o.state) (returned o.step) idle (reading o.call) (λ _. tt) (λ _. tt),
      )

  -- a give-up leaves the version, and closes no write that is signed
  give_up_goes_keep : (g : Progress) (m : Lent) → σ.kept.signed ≡ false → Keeps giving_up (give_up_goes s (with_kept σ (with_progress σ.kept g)) m)
  unfolding closed after returned done asking
  give_up_goes_keep g m plain =
      Give.by_goes s (with_kept σ (with_progress σ.kept g)) m (Keeps giving_up)
      (λ _ _. (forward_unsigned σ _ plain (omega arith), tt)) (λ _ _. (forward_unsigned σ _ plain (omega arith), tt))

  give_up_keeps : (c : GiveUp) (a : List ℕ) → Keeps giving_up (give_up_taken s σ u.lent c a)
  unfolding told refused
  give_up_keeps c a =
      Give.by_taken s σ u.lent c a (Keeps giving_up) (λ n z. absurd (n z))
      (λ t. give_up_goes_keep _ u.lent (unsigned s σ.kept u.lent.request t.setup))

  give_up_start-keeps : (m : Lent) → Keeps giving_up (give_up_started s σ m)
  unfolding beginning refused
  give_up_start-keeps m =
      Give.by_started s σ m (Keeps giving_up) (λ n z. absurd (n z)) (λ r. give_up_goes_keep _ m (unsigned s σ.kept m.request r))

  -- a Write that starts has had no answer to an open write's requests
  write-start-keeps : (m : Lent) (entry randomizer : List ℕ) → Keeps writing (write_started s σ m entry randomizer)
  unfolding write_started fresh_write write_waits write_asks after returned asking done refused
  write-start-keeps m entry randomizer =
      let code = first_code (write_start_checks s σ m entry) in
      by_cond (Keeps writing) (eqb code 0) _ _
      (λ e. by_cond (Keeps writing) σ.kept.opened _ _ (λ o _. (forward_same σ, λ _ l h. absurd (omega arith)))
      (λ c.
      by_goes s σ (with_held m (written m.held 0 entry)) fresh_update (λ o. Keeps writing (write_waits σ (fresh_write σ.kept entry randomizer) o))
      (λ _ _. (forward_same σ, tt)) (λ _ _. (forward_same σ, λ o. not_both σ.kept.opened o c))))
      (λ e z. absurd (eqb-false code 0 e z))

  -- an answer that the Update of a Write takes in
  write_updates_keep : (w : Write) (a : List ℕ) → w.opened ≡ false → UpdateOk W σ.kept.version w.update
      → Keeps writing (write_updates s σ u.lent w a)
  unfolding write_waits write_asks opening after returned asking refused
  write_updates_keep w a shut i =
      let m = collected W w.update a u.lent in
      let next = next_update W w.update a in
      by_updating s σ u.lent w a (Keeps writing) (λ code n z. absurd (n z))
      (λ t e. by_opening s σ u.lent w (ended_with σ m next) a (Keeps writing) (λ n z. absurd (n z))
      (λ _ _. (forward_shut σ _ t.shut (arrived_up w.update a i t e), λ _ l h. absurd (omega arith))))
      (λ t e _. (forward_same σ, λ o. not_both w.opened o shut))

  -- an answer that an open write takes in
  module _ (w : Write) (a : List ℕ) (i : WriteOk W own u.state u.sent w) (is_open : w.opened ≡ true)
      (fair : u.sent.server ≡ W.follows → Gave W.follows W.account own log u.sent.bytes a)
      (took : TookBelow W log own (open_position u.state) (open_digest u.state) w.answers) where
    -- the Reserve that was answered now is taken too
    took-now : Going s σ u.lent w a → TookBelow W log own p δ (suc w.answers)
    unfolding Gave SinceGiveUps
    took-now g l h within o =
        cases_eq l w.answers
        (λ e.
        let x = (i.goes is_open).asks (omega arith) in
        let server : u.sent.server ≡ W.follows = x.0 ∙ rw e at o in
        let bytes : u.sent.bytes ≡ request 5 s.log own p l δ = x.1 ∙ rw e in
        let f = subst (λ q. Gave W.follows W.account own log q a) bytes (fair server) in
        record {
          answer = a;
          number = f.0;
          given = f.1;
          code = g.code;
          since = λ m r y e. f.2 (reserve-read s.log W.named own p l δ).0 m r y e.0;
        })
        (λ n. took l (omega arith) within o)

    -- what is signed now has all of them behind it
    firm_now : Going s σ u.lent w a → (σ' : State) → σ'.kept.version ≡ σ.kept.version → σ'.kept.opened ≡ true → σ'.kept.signed ≡ true
        → signs_next σ.kept w ≡ true → Firm W log own σ' (signed_text s.log p δ)
    firm_now g σ' version opened is_Signed e =
        let last = signs_last σ.kept w e in
        record {
          p = p;
          δ = δ;
          is = refl;
          small = g.range.opened g.opened;
          took = λ l h b o. took-now g l (omega (arith, commit_late p)) b o;
          passed = inr (omega arith, opened, is_Signed);
        }

    write-goes_keep : Keeps writing (write_goes s σ u.lent w a)
    unfolding committed write_asks goes_on signing after returned asking done refused
    write-goes_keep =
        by_going s σ u.lent w a (Keeps writing) (λ n z. absurd (n z))
        (λ g e _. (record { up = omega arith; stays = λ _ _. inl (omega arith) }, tt))
        (λ g e _. (
          record { up = omega arith; stays = λ o t. inr (refl, refl, rw t) },
          λ _. took-now g,
        ))

    signs_firmly : (write_goes s σ u.lent w a).step.code ≡ 0 → signs_next σ.kept w ≡ true
        → let o = write_goes s σ u.lent w a in Firm W log own o.state (signed_text s.log p (path_digest p o.state.path))
    unfolding write_asks goes_on signing refused
    signs_firmly =
        by_going s σ u.lent w a (λ (o : Outcome Write). o.step.code ≡ 0 → signs_next σ.kept w ≡ true
        → Firm W log own o.state (signed_text s.log p (path_digest p o.state.path)))
        (λ n z. absurd (n z)) (λ g e _ n. let x = signs_last σ.kept w n in absurd (omega arith))
        (λ g e _ n. firm_now g _ refl refl (rw n (or-true σ.kept.signed)) n)

  -- every accepted step
  abbrev left : Input → Outcome Call
  left i = stepped s σ u.lent u.call i

  answer_keeps : (a : List ℕ) (c : Call) → CallOk W own σ u.sent c → CallTook W log own σ c
      → FairAnswer a
      → let o = taken s σ u.lent c a in
      o.step.code ≡ 0 → Forward σ o.state × CallTook W log own o.state (after u o).call
  unfolding taken write_taken refused
  answer_keeps a idle i t fair = λ z. absurd (stray s σ u.lent z)
  answer_keeps a (updating c) i t fair = update-keeps c a i
  answer_keeps a (writing w) i t fair =
      by_cond (Keeps writing) w.opened _ _ (λ e. write-goes_keep w a i e fair (t e)) (λ e. write_updates_keep w a e (i.waits e))
  answer_keeps a (reading r) i t fair = read_keeps r a
  answer_keeps a (giving_up c) i t fair = give_up_keeps c a

  accepted-keeps : (i : Input) → FairIn i → CallTook W log own σ u.call → (left i).step.code ≡ 0
      → Forward σ (left i).state × CallTook W log own (left i).state (after u (left i)).call
  unfolding stepped FairInput as_messages
  accepted-keeps (start_update m) fair t = update-start-keeps m
  accepted-keeps (start_write m entry randomizer) fair t = write-start-keeps m entry randomizer
  accepted-keeps (start_read m i) fair t = read-start-keeps m i
  accepted-keeps (start_give_up m) fair t = give_up_start-keeps m
  accepted-keeps (answer a) fair t = answer_keeps a u.call ok.call t fair

  -- and what it signs
  abbrev Fresh : State → Event → Type 0
  Fresh σ' (hashed t) = Unit {0}
  Fresh σ' (signed a t) = (a ≡ own) × Firm W log own σ' t
  Fresh σ' (accepted a t) = Unit {0}
  Fresh σ' (handed_out a s q) = Unit {0}
  Fresh σ' (answered s q x) = Unit {0}

  answer_signs : (a : List ℕ) (c : Call) → CallOk W own σ u.sent c → CallTook W log own σ c
      → FairAnswer a
      → Signing (Fresh (taken s σ u.lent c a).state) (λ _. tt) (λ _ _. tt) s u a c
  unfolding taken write_taken
  answer_signs a idle i t fair = tt
  answer_signs a (updating c) i t fair = tt
  answer_signs a (writing w) i t fair = λ e z n.
      let text = signed_text s.log p (path_digest p (write_goes s σ u.lent w a).state.path) in
      let over : Bool → Type 0 = λ b. Firm W log own (cond b (write_goes s σ u.lent w a) (write_updates s σ u.lent w a)).state text in
      (refl, subst over (sym e) (signs_firmly w a i e fair (t e) z n))
  answer_signs a (reading r) i t fair = tt
  answer_signs a (giving_up c) i t fair = tt

  accepted_signs : (i : Input) → FairIn i → CallTook W log own σ u.call
      → SigningIn (Fresh (left i).state) (λ _. tt) (λ _ _. tt) s u i
  unfolding stepped FairInput as_messages
  accepted_signs (start_update m) fair t = tt
  accepted_signs (start_write m entry randomizer) fair t = tt
  accepted_signs (start_read m i) fair t = tt
  accepted_signs (start_give_up m) fair t = tt
  accepted_signs (answer a) fair t = answer_signs a u.call ok.call t fair

  -- a position that was passed stays so
  passed_on : (q : ℕ) (σ' : State) → Forward σ σ' → Passed W q σ → Passed W q σ'
  passed_on q σ' f x =
      let up = f.up in
      elim x [
        | inl h ↦ inl (omega arith)
        | inr y ↦ elim (f.stays y.1 y.2) [
          | inl h ↦ inl (omega (arith, y.0))
          | inr z ↦ inr (omega (arith, y.0, z.0), z.1, z.2)
        ]
      ]

  module _ (i : Input) (fair : FairInput W.follows (as_messages W.follows W.account) own log u i) (k : Guarded W log own u)
      (z : (stepped (settings_for W.group own) u.state u.lent u.call i).step.code ≡ 0)
      (new : UserOk W own (after u (stepped (settings_for W.group own) u.state u.lent u.call i))) where
    abbrev σ' : State
    σ' = (left i).state

    abbrev es : List Event
    es = (user_step s u i).events

    abbrev kept : Forward σ σ' × CallTook W log own σ' (after u (left i)).call
    kept = accepted-keeps i fair k.call z

    -- what it hands out gives up nothing, unless its call is a give-up, and then no position that was passed
    hands_out : (r : List ℕ) → Memᴰ (handed_out own W.follows r) es → r ≡ (after u (left i)).sent.bytes
    unfolding after
    hands_out r m = elim (step_event s u i (handed_out own W.follows r) m).1 [
      | inl e ↦ cc
      | inr y ↦ absurd (step-behind W own u ok i z _ y)
    ]

    unpassed : (c : Call) (x : Sent) (τ : State) → GivingUp W own c → CallOk W own τ x c → (q : ℕ) → request_position x.bytes ≡ q → Passed W q τ → ⊥
    unpassed idle x τ g ok q e y = g
    unpassed (updating c) x τ g ok q e y = g
    unpassed (writing w) x τ g ok q e y = g
    unpassed (reading r) x τ g ok q e y = g
    unpassed (giving_up c) x τ g ok q e y = elim y [ inl h ↦ omega (arith, ok.0) | inr z ↦ not_both τ.kept.signed z.2 ok.1 ]

    none_passed : (q : ℕ) (ε : List ℕ) → Passed W q σ' → NoneGivesUp W es own q ε
    unfolding after
    none_passed q ε x r m e =
        let sent = hands_out r m in
        let v = after u (left i) in
        unpassed v.call v.sent σ' (new.out (rw sent at e.0)) new.call q (rw sent at e.1) x

    later : (q : ℕ) (ε : List ℕ) (j : ℕ) → NoneGivesUp W es own q ε → TookBelow W log own q ε j → TookBelow W (es ++ log) own q ε j
    later q ε j none t l h b o = took-later W es log own q l ε none (t l h b o)

    firm_later : (t : List ℕ) → Firm W log own σ' t → Firm W (es ++ log) own σ' t
    firm_later t f =
        record {
          p = f.p;
          δ = f.δ;
          is = f.is;
          small = f.small;
          took = later f.p f.δ (suc (lg f.p)) (none_passed f.p f.δ f.passed) f.took;
          passed = f.passed;
        }

    firm_on : (t : List ℕ) → Firm W log own σ t → Firm W log own σ' t
    firm_on t f =
        record { p = f.p; δ = f.δ; is = f.is; small = f.small; took = f.took; passed = passed_on f.p σ' kept.0 f.passed }

    signed-now : (t : List ℕ) → Memᴰ (signed own t) es → Firm W log own σ' t
    signed-now t m = elim (step_event s u i (signed own t) m).1 [
      | inl e ↦ absurd (let x : ◌≡◌ {A = ℕ} 0 1 = cc in omega arith)
      | inr y ↦ (accepted-events (Fresh σ') (λ _. tt) (λ _ _. tt) s u i (accepted_signs i fair k.call) z (signed own t) y).1
    ]

    call-later : (c : Call) → (request_kind (after u (left i)).sent.bytes ≡ 9 → GivingUp W own c) → CallTook W log own σ' c
        → CallTook W (es ++ log) own σ' c
    call-later idle out t = tt
    call-later (updating c) out t = tt
    call-later (writing w) out t = λ e. later _ _ w.answers (λ r m x. out (rw (hands_out r m) at x.0)) (t e)
    call-later (reading r) out t = tt
    call-later (giving_up g) out t = tt

    pub guard_accepted : Guarded W (es ++ log) own (after u (left i))
    unfolding after
    guard_accepted =
        record {
          signs = λ t m. firm_later t (elim (Memᴰ.append_cases es m) [ inl x ↦ signed-now t x | inr y ↦ firm_on t (k.signs t y) ]);
          call = call-later (after u (left i)).call new.out kept.1;
        }

  -- A step of the user, refused or not.
  pub guard_step : (i : Input) → ((user_step s u i).step.code ≡ 0 → FairIn i) → Guarded W log own u → UserOk W own (user_step s u i).user
      → Guarded W ((user_step s u i).events ++ log) own (user_step s u i).user
  unfolding user_step events_of
  guard_step i fair k new =
      cases_eq (left i).step.code 0
      (λ z.
      subst (Guarded W ((user_step s u i).events ++ log) own) (sym (accepted-step s u i z))
      (guard_accepted i (fair z) k z (subst (UserOk W own) (accepted-step s u i z) new)))
      (λ n. rw (ne_eqb (left i).step.code 0 n) k)
