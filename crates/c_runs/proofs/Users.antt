-- A call of a user's exported function is, on what the bytes stand for, a step of that user.
use mathlib.Core.Path.{◌≡◌, refl, sym, ◌∙◌, ap, subst}
use mathlib.Core.Logic.{◌⊎◌, inl, inr, ⊎_elim}
use mathlib.Core.Bool.{Bool, true, false, cond, ◌&&◌}
use mathlib.Core.List.{List}
use Prim.Native.Nat.{ℕ}
use lib.Dec.{eqb}
use lib.ListN.{length}
use borrow.Author.Tests.{eq-eqb, ne_eqb}
use Rattle.tree.specs.Setup.{Settings}
use Rattle.tree.proofs.Cases.{by_bool, cases_eq}
use Rattle.user.specs.Asking.{refused}
use Rattle.user.specs.Outcome.{State, Lent, Outcome}
use Rattle.user_calls.specs.Calls.{Call, idle, Input, start_update, start_write, start_read, start_give_up, answer, taken, stepped}
use Rattle.c_layout.specs.User.{kept_of, call_of, kept_after, kept_by, asked_of, UserLent, state_in, lent_in, UserOutcome, user_left, answered_by, user_answered}
use Rattle.whole_run.specs.World.{sent_by, returned, after, user_step}
use Rattle.whole_run.specs.Runs.{Sized}
use Rattle.whole_run.proofs.Refusals.{accepted-step, refused-step}
use Rattle.fork_bound.proofs.Events.{stray}
use Rattle.c_runs.specs.Bytes.{UserBytes, user_of, step_of, outcome_of, called, key_for, user_called}
use Rattle.c_runs.proofs.Ranges.{give_up_begins, KeptFits, CallFits, CallAbove, StepOk, answer_ok, update-begins, read-begins, write-begins}
use Rattle.c_runs.proofs.Decoding.{kept_read, kept_now, give_up_called, outcome-read, kept-answered, call_size, given, outcome, update-called, read-called, write-called}

-- what holds of a user's bytes between calls
pub record Laid (s : Settings) (u : UserBytes) : Type 0 where
  pub kept : KeptFits (state_in u.bytes).kept
  pub size : length u.bytes.call ≡ 82
  pub goes : eqb u.sent.server 0 ≡ false → CallFits (call_of u.bytes.call) × CallAbove s (state_in u.bytes) (call_of u.bytes.call)
  pub over : eqb u.sent.server 0 ≡ true → (a : List ℕ)
      → (taken s (state_in u.bytes) (lent_in u.bytes u.key) (call_of u.bytes.call) a).step.code ≡ 0 → ⊥

module _ (s : Settings) (u : UserBytes) (laid : Laid s u) where
  abbrev b : UserLent
  b = u.bytes

  abbrev σ : State
  σ = state_in u.bytes

  -- what the step makes of the user that the bytes stand for
  abbrev meant : Input → Outcome Call
  meant i = stepped s (user_of u).state (user_of u).lent (user_of u).call i

  -- it is what the function makes of the bytes, or both refuse an answer where no request is out
  abbrev Alike : Input → Type 0
  Alike i = (meant i ≡ outcome s u i) ⊎ (((meant i).step.code ≡ 0 → ⊥) × ((outcome s u i).step.code ≡ 0 → ⊥))

  alike : (i : Input) → Alike i
  unfolding user_of stepped taken refused
  alike (start_update m) = inl refl
  alike (start_write m entry randomizer) = inl refl
  alike (start_read m i) = inl refl
  alike (start_give_up m) = inl refl
  alike (answer a) =
      by_bool (λ t. eqb u.sent.server 0 ≡ t
      → (taken s σ (lent_in b u.key) (cond t idle (call_of b.call)) a ≡ outcome s u (answer a))
      ⊎ (((taken s σ (lent_in b u.key) (cond t idle (call_of b.call)) a).step.code ≡ 0 → ⊥) × ((outcome s u (answer a)).step.code ≡ 0 → ⊥)))
      (eqb u.sent.server 0) (λ _ e. inr (stray s σ (lent_in b u.key), laid.over e a)) (λ _ _. inl refl) refl

  -- what the function gives and leaves stands for what the step leaves
  abbrev lent_with : Input → Lent
  lent_with (start_update m) = m
  lent_with (start_write m entry randomizer) = m
  lent_with (start_read m i) = m
  lent_with (start_give_up m) = m
  lent_with (answer a) = lent_in b u.key

  pub record Read (i : Input) : Type 0 where
    pub step : StepOk s (lent_with i) (outcome s u i)
    pub same : outcome_of (called s u i) (key_for u i) ≡ outcome s u i

  start-read : (m : Lent) (o : Outcome Call) → o.step.code ≡ 0 → StepOk s m o → o.state ≡ σ
      → outcome_of (user_left (given b m) b.kept o) m.key ≡ o
  start-read m o z l e = outcome-read (given b m) b.kept o m z l.fits laid.size (sym (ap (λ (x : State). x.kept) e))

  kept-now : (m : Lent) → (outcome s u (start_give_up m)).step.code ≡ 0 → KeptFits (outcome s u (start_give_up m)).state.kept
      → kept_of (kept_now s u m) ≡ (outcome s u (start_give_up m)).state.kept
  unfolding kept_after
  kept-now m z f = rw (eq-eqb (outcome s u (start_give_up m)).step.code 0 z) (kept_read (outcome s u (start_give_up m)).state.kept f)

  answer-read : (a : List ℕ) → CallFits (call_of b.call) → StepOk s (lent_in b u.key) (outcome s u (answer a)) → (outcome s u (answer a)).step.code ≡ 0
      → outcome_of (called s u (answer a)) u.key ≡ outcome s u (answer a)
  unfolding called user_answered answered_by stepped
  answer-read a f l z =
      let o = outcome s u (answer a) in
      let kept = kept-answered s σ (lent_in b u.key) (call_of b.call) a b.kept refl l.fits.kept f in
      outcome-read b (kept_by o.call o.step.code o.state.kept b.kept) o (lent_in b u.key) z l.fits laid.size
      (ap (λ (x : ℕ). kept_of (kept_by o.call x o.state.kept b.kept)) z ∙ kept)

  reads : (i : Input) → Sized i → (outcome s u i).step.code ≡ 0 → Read i
  unfolding stepped key_for
  reads (start_update m) sized z =
      let x = update-begins s σ m laid.kept z in
      record {
        step = x.0;
        same = ap (λ (o : UserOutcome). outcome_of o m.key) (update-called s u m) ∙ start-read m (outcome s u (start_update m)) z x.0 x.1;
      }
  reads (start_write m entry randomizer) sized z =
      let x = write-begins s σ m laid.kept entry randomizer sized z in
      record {
        step = x.0;
        same = ap (λ (o : UserOutcome). outcome_of o m.key) (write-called s u m entry randomizer)
            ∙ start-read m (outcome s u (start_write m entry randomizer)) z x.0 x.1;
      }
  reads (start_read m i) sized z =
      let x = read-begins s σ m laid.kept i z in
      record {
        step = x.0;
        same = ap (λ (o : UserOutcome). outcome_of o m.key) (read-called s u m i) ∙ start-read m (outcome s u (start_read m i)) z x.0 x.1;
      }
  reads (start_give_up m) sized z =
      let o = outcome s u (start_give_up m) in
      let x = give_up_begins s σ m laid.kept z in
      record {
        step = x;
        same = ap (λ (l : UserOutcome). outcome_of l m.key) (give_up_called s u m)
            ∙ outcome-read (given b m) (kept_now s u m) o m z x.fits laid.size (kept-now m z x.fits.kept);
      }
  reads (answer a) sized z =
      by_bool (λ t. eqb u.sent.server 0 ≡ t → Read (answer a)) (eqb u.sent.server 0) (λ _ e. absurd (laid.over e a z))
      (λ _ e.
      let g = laid.goes e in
      let l = answer_ok s σ (lent_in b u.key) (call_of b.call) a laid.kept g.0 g.1 z in
      record { step = l; same = answer-read a g.0 l z }) refl

  -- the code is the step's, and the call's bytes stay as many
  code_same : (i : Input) → (called s u i).result.code ≡ (outcome s u i).step.code
  unfolding called user_answered answered_by user_left asked_of
  code_same (start_update m) = ap (λ (o : UserOutcome). o.result.code) (update-called s u m)
  code_same (start_write m entry randomizer) = ap (λ (o : UserOutcome). o.result.code) (write-called s u m entry randomizer)
  code_same (start_read m i) = ap (λ (o : UserOutcome). o.result.code) (read-called s u m i)
  code_same (start_give_up m) = ap (λ (o : UserOutcome). o.result.code) (give_up_called s u m)
  code_same (answer a) = refl

  size_same : (i : Input) → length (called s u i).lent.call ≡ 82
  unfolding called user_answered answered_by
  size_same (start_update m) = ap (λ (o : UserOutcome). length o.lent.call) (update-called s u m) ∙ call_size (given b m) b.kept _ ∙ laid.size
  size_same (start_write m entry randomizer) =
      ap (λ (o : UserOutcome). length o.lent.call) (write-called s u m entry randomizer) ∙ call_size (given b m) b.kept _ ∙ laid.size
  size_same (start_read m i) = ap (λ (o : UserOutcome). length o.lent.call) (read-called s u m i) ∙ call_size (given b m) b.kept _ ∙ laid.size
  size_same (start_give_up m) =
      ap (λ (o : UserOutcome). length o.lent.call) (give_up_called s u m) ∙ call_size (given b m) (kept_now s u m) _ ∙ laid.size
  size_same (answer a) = call_size b _ _ ∙ laid.size

  -- a call that is not refused
  module _ (i : Input) (z : (outcome s u i).step.code ≡ 0) (r : Read i) where
    abbrev x : Outcome Call
    x = outcome_of (called s u i) (key_for u i)

    abbrev next : UserBytes
    next =
        record {
          bytes = (called s u i).lent;
          key = key_for u i;
          sent = (after (user_of u) x).sent;
          view = (after (user_of u) x).view;
          reads = (after (user_of u) x).reads;
        }

    next-is : user_called s u i ≡ next
    unfolding user_called
    next-is = rw (eq-eqb (called s u i).result.code 0 (code_same i ∙ z))

    request-out : eqb x.step.server 0 ≡ x.step.ended
    request-out = subst (λ (o : Outcome Call). eqb o.step.server 0 ≡ o.step.ended) (sym r.same) r.step.fits.out

    out-returned : eqb x.step.server 0 ≡ returned x.step
    unfolding returned
    out-returned =
        let c : x.step.code ≡ 0 = ap (λ (o : Outcome Call). o.step.code) r.same ∙ z in
        request-out ∙ rw (eq-eqb x.step.code 0 c) (ended-and x.step.ended)
      where
        ended-and : (t : Bool) → t ≡ t && true
        ended-and true = refl
        ended-and false = refl

    next-stands : user_of next ≡ after (user_of u) x
    unfolding user_of outcome_of after sent_by
    next-stands = rw out-returned

    stands : user_of (user_called s u i) ≡ after (user_of u) (outcome s u i)
    stands = ap user_of next-is ∙ next-stands ∙ ap (after (user_of u)) r.same

    next-laid : Laid s next
    unfolding outcome_of after sent_by
    next-laid =
        let l = r.step in
        let goes : x.step.ended ≡ false → CallFits x.call × CallAbove s x.state x.call =
        subst (λ (o : Outcome Call). o.step.ended ≡ false → CallFits o.call × CallAbove s o.state o.call) (sym r.same)
        (λ e. (l.fits.call, l.above e)) in
        let over : x.step.ended ≡ true → (m : Lent) (a : List ℕ) → (taken s x.state m x.call a).step.code ≡ 0 → ⊥ =
        subst (λ (o : Outcome Call). o.step.ended ≡ true → (m : Lent) (a : List ℕ) → (taken s o.state m o.call a).step.code ≡ 0 → ⊥) (sym r.same)
        l.over in
        record {
          kept = subst (λ (o : Outcome Call). KeptFits o.state.kept) (sym r.same) l.fits.kept;
          size = size_same i;
          goes = λ e. goes (sym request-out ∙ e);
          over = λ e a. over (sym request-out ∙ e) (lent_in (called s u i).lent (key_for u i)) a;
        }

    laid_on : Laid s (user_called s u i)
    laid_on = subst (λ (v : UserBytes). Laid s v) (sym next-is) next-laid

  refused_same : (i : Input) → ((outcome s u i).step.code ≡ 0 → ⊥) → user_called s u i ≡ u
  unfolding user_called
  refused_same i n = rw (ne_eqb (called s u i).result.code 0 (λ e. n (sym (code_same i) ∙ e)))

  -- The user that the bytes stand for after the call is the user after the step.
  pub user_same : (i : Input) → Sized i → user_of (user_called s u i) ≡ (user_step s (user_of u) i).user
  unfolding user_step
  user_same i sized =
      cases_eq (outcome s u i).step.code 0
      (λ z.
      ⊎_elim
      (λ e. stands i z (reads i sized z) ∙ ap (after (user_of u)) (sym e) ∙ sym (accepted-step s (user_of u) i (ap (λ (o : Outcome Call). o.step.code) e ∙ z)))
      (λ n. absurd (n.1 z)) (alike i))
      (λ n.
      ap user_of (refused_same i n)
      ∙ sym (refused-step s (user_of u) i (⊎_elim (λ e z. n (sym (ap (λ (o : Outcome Call). o.step.code) e) ∙ z)) (λ m. m.0) (alike i))))

  pub user-laid : (i : Input) → Sized i → Laid s (user_called s u i)
  user-laid i sized =
      cases_eq (outcome s u i).step.code 0 (λ z. laid_on i z (reads i sized z))
      (λ n. subst (λ (v : UserBytes). Laid s v) (sym (refused_same i n)) laid)

  -- A step that is not refused hands back what the function gives.
  pub step_same : (i : Input) → Sized i → (user_step s (user_of u) i).step.code ≡ 0 → step_of (called s u i).result ≡ (user_step s (user_of u) i).step
  unfolding user_step outcome_of
  step_same i sized z =
      ⊎_elim
      (λ e.
      let z' = ap (λ (o : Outcome Call). o.step.code) (sym e) ∙ z in
      ap (λ (o : Outcome Call). o.step) ((reads i sized z').same ∙ sym e))
      (λ n. absurd (n.0 z)) (alike i)

  -- One that is refused is refused by the function.
  pub refusal_same : (i : Input) → ((user_step s (user_of u) i).step.code ≡ 0 → ⊥) → (called s u i).result.code ≡ 0 → ⊥
  unfolding user_step
  refusal_same i n z =
      ⊎_elim (λ e. n (ap (λ (o : Outcome Call). o.step.code) e ∙ sym (code_same i) ∙ z)) (λ m. m.1 (sym (code_same i) ∙ z)) (alike i)
