-- The starts and settled over lent bytes, by the user's calls.
use mathlib.Core.Path.{◌≡◌, refl, ◌∙◌, sym, ap}
use mathlib.Core.List.{List, []}
use Prim.Native.Nat.{ℕ}
use Rattle.tree.specs.declared.setup.Config.{Config}
use Rattle.tree.specs.Setup.{settings}
use Rattle.tree.specs.Inner.{settings_of}
use Rattle.user.specs.declared.call.Kept.{Kept}
use Rattle.user.specs.declared.call.Settled.{Settled}
use Rattle.user_update.specs.declared.call.UpdateStep.{UpdateStep}
use Rattle.user_write.specs.declared.call.WriteStep.{WriteStep}
use Rattle.user_read.specs.declared.call.ReadStep.{ReadStep}
use Rattle.user_give_up.specs.declared.call.GiveUpStep.{GiveUpStep}
use Rattle.user.specs.Outcome.{State, state_of, with_kept, Key, key_of, Lent, lent_of, with_request, with_entry, Outcome, nothing}
use Rattle.user.specs.Settled.{settled_given}
use Rattle.user_update.specs.declared.call.Update.{Update}
use Rattle.user_update.specs.Update.{update_started}
use Rattle.user_update.specs.Inner.{UpdateYields}
use Rattle.user_write.specs.declared.call.Write.{Write}
use Rattle.user_write.specs.Write.{write_started}
use Rattle.user_write.specs.Inner.{WriteStarts}
use Rattle.user_read.specs.declared.call.Read.{Read}
use Rattle.user_read.specs.Read.{read_started}
use Rattle.user_read.specs.Inner.{ReadYields}
use Rattle.user_give_up.specs.declared.call.GiveUp.{GiveUp}
use Rattle.user_give_up.specs.GiveUp.{give_up_started}
use Rattle.user_give_up.specs.Inner.{GiveUpYields}
use Rattle.user_give_up.proofs.GiveUpAnswers.{give_up_start-keeps}
use Rattle.user_calls.specs.Calls.{Call, updating, writing, reading, giving_up, Input, start_update, start_write, start_read, start_give_up, as_call, stepped}
use Rattle.user_calls.proofs.Unchanged.{update-start_finds, write-start_finds}
use Rattle.c_layout.specs.Mark.{mark_of}
use Rattle.c_layout.specs.User.{kept_of, call_bytes, call_of, call_after, kept_after, asked_of, UserLent, user_lent}
use Rattle.c_layout.specs.User.{state_in, lent_in, user_left, user_begun, update_begun, read_begun, write_begun}
use Rattle.c_layout.specs.User.{give_up_begun, Begins, WriteBegins, GiveUpBegins, settled_answer}
use Rattle.c_layout.specs.Inner.{config_of}
use Rattle.c_layout.specs.declared.user_start.Asked.{Asked}
use Rattle.c_layout.specs.declared.user_start.SettledAnswer.{SettledAnswer}
use Rattle.c_layout.proofs.Narrowed.{settled_passed-on, step-passed-on}

module _ (servers own : ℕ) (log users : List ℕ) (config : Config) (eg : config ≡ config_of servers own log) where
  -- any start
  module _ (m : UserLent) (key : Key) (start : Lent → Input) where
    abbrev outcome : Outcome Call
    outcome = stepped (settings_of config users) (state_in m) (lent_in m key) (call_of m.call) (start (lent_in m key))

    begins : (call' held' request' : List ℕ) (r : Asked) → r ≡ asked_of outcome.step outcome.found
        → call' ≡ call_after outcome.step.code (call_bytes outcome.call) m.call → held' ≡ outcome.lent.held → request' ≡ outcome.lent.request
        → WriteBegins (user_begun (settings servers own log users) m key start) r call' held' request'
    unfolding user_begun user_left
    begins call' held' request' r er ec eh eq =
        rw (← step-passed-on servers own log users config eg (state_in m) (lent_in m key) (call_of m.call) (start (lent_in m key)))
        ((er, (ec, eq)), eh)

  -- a start that changes what is kept
  module _ (kept path call request : List ℕ) where
    abbrev lent_bytes : UserLent
    lent_bytes = user_lent kept path [] call [] [] request []

    abbrev lent_memory : Lent
    lent_memory = lent_in lent_bytes (key_of [] [] [])

    gives_up : (kept' call' request' : List ℕ) (r : Asked) (o : Outcome Call)
        → o ≡ stepped (settings_of config users) (state_in lent_bytes) lent_memory (call_of call) (start_give_up lent_memory)
        → r ≡ asked_of o.step o.found → call' ≡ call_after o.step.code (call_bytes o.call) call → request' ≡ o.lent.request
        → kept' ≡ kept_after o.step.code o.state.kept kept
        → GiveUpBegins (give_up_begun (settings servers own log users) kept path call request) r kept' call' request'
    unfolding give_up_begun user_left
    gives_up kept' call' request' r o eo er ec eq ek =
        let f = eo ∙ step-passed-on servers own log users config eg (state_in lent_bytes) lent_memory (call_of call) (start_give_up lent_memory) in
        rw (← f) ((er, (ec, eq)), ek)

  module _ (kept : List ℕ) (k : Kept) (ek : k ≡ kept_of kept) where
    pub settled_answered : (p mark : ℕ) (given : Settled) → given ≡ settled_given (settings_of config users) k p → mark ≡ mark_of given.settled
        → ◌≡◌ {A = SettledAnswer} (record { code = given.code; settled = mark }) (settled_answer (settings servers own log users) kept p)
    unfolding settled_answer
    settled_answered p mark given e eq =
        let f : given ≡ settled_given (settings servers own log users) (kept_of kept) p =
        (rw ek at e) ∙ settled_passed-on servers own log users config eg (kept_of kept) p in
        rw eq (ap (λ (g : Settled). record { code = g.code; settled = mark_of g.settled }) f)

    module _ (request call request' call' : List ℕ) (r : Asked) where
      pub update-begun : (left : UpdateStep)
          → ((σ : State) (m : Lent) → UpdateYields (update_started (settings_of config users) (with_kept σ k) (with_request m request)) left m.hashes request')
          → call' ≡ call_after left.step.code (call_bytes (updating left.call)) call → r ≡ asked_of left.step nothing
          → Begins (update_begun (settings servers own log users) kept call request) r call' request'
      unfolding stepped
      update-begun left e ec er =
          let m : UserLent = user_lent kept [] [] call [] [] request [] in
          let key : Key = key_of [] [] [] in
          let o : Outcome Update = update_started (settings_of config users) (state_in m) (lent_in m key) in
          let f : UpdateYields o left [] request' = rw ek at (e (state_in m) (lent_in m key)) in
          (begins m key start_update call' o.lent.held request' r
          (er ∙ ap (λ (x : UpdateStep). asked_of x.step nothing) f.0 ∙ ap (asked_of o.step) (sym (update-start_finds _ _ _)))
          (ec ∙ ap (λ (x : UpdateStep). call_after x.step.code (call_bytes (updating x.call)) call) f.0) refl f.1.1).0

      pub read-begun : (i : ℕ) (entry : List ℕ) (left : ReadStep)
          → ((σ : State) (m : Lent)
          → ReadYields (read_started (settings_of config users) (with_kept σ k) (with_entry (with_request m request) entry) i) left m.hashes m.held request' entry)
          → call' ≡ call_after left.step.code (call_bytes (reading left.call)) call → r ≡ asked_of left.step left.found
          → Begins (read_begun (settings servers own log users) i kept call request entry) r call' request'
      unfolding stepped
      read-begun i entry left e ec er =
          let m : UserLent = user_lent kept [] [] call [] [] request entry in
          let key : Key = key_of [] [] [] in
          let o : Outcome Read = read_started (settings_of config users) (state_in m) (lent_in m key) i in
          let f : ReadYields o left [] [] request' entry = rw ek at (e (state_in m) (lent_in m key)) in
          (begins m key (λ l. start_read l i) call' o.lent.held request' r
          (er ∙ ap (λ (x : ReadStep). asked_of x.step x.found) f.0)
          (ec ∙ ap (λ (x : ReadStep). call_after x.step.code (call_bytes (reading x.call)) call) f.0) refl f.1.1.1.0).0

      pub write-begun : (tree entry randomizer path held held' : List ℕ) (left : WriteStep)
          → ((signature hashes id seed b : List ℕ)
          → WriteStarts (write_started (settings_of config users) (state_of k path signature) (lent_of hashes held request b (key_of id seed tree)) entry randomizer)
          left path signature hashes held' request')
          → call' ≡ call_after left.step.code (call_bytes (writing left.call)) call → r ≡ asked_of left.step nothing
          → WriteBegins (write_begun (settings servers own log users) tree entry randomizer kept path call held request) r call' held' request'
      unfolding stepped
      write-begun tree entry randomizer path held held' left e ec er =
          let m : UserLent = user_lent kept path [] call [] held request [] in
          let key : Key = key_of [] [] tree in
          let o : Outcome Write = write_started (settings_of config users) (state_in m) (lent_in m key) entry randomizer in
          let f : WriteStarts o left path [] [] held' request' = rw ek at (e [] [] [] [] []) in
          begins m key (λ l. start_write l entry randomizer) call' held' request' r
          (er ∙ ap (λ (x : WriteStep). asked_of x.step nothing) f.0.0 ∙ ap (asked_of o.step) (sym (write-start_finds _ _ _ _ _)))
          (ec ∙ ap (λ (x : WriteStep). call_after x.step.code (call_bytes (writing x.call)) call) f.0.0) f.1 f.0.1.1.1.1

      pub give_up_begun_lem : (path kept' : List ℕ) (left : GiveUpStep)
          → ((signature : List ℕ) (m : Lent) → GiveUpYields (give_up_started (settings_of config users) (state_of k path signature) (with_request m request)) left request')
          → kept' ≡ kept_after left.step.code left.kept kept → call' ≡ call_after left.step.code (call_bytes (giving_up left.call)) call
          → r ≡ asked_of left.step nothing
          → GiveUpBegins (give_up_begun (settings servers own log users) kept path call request) r kept' call' request'
      unfolding stepped
      give_up_begun_lem path kept' left e ep ec er =
          let l : Lent = lent_memory kept path call request in
          let o : Outcome GiveUp = give_up_started (settings_of config users) (state_in (lent_bytes kept path call request)) l in
          let f : GiveUpYields o left request' = rw ek at (e [] l) in
          gives_up kept path call request kept' call' request' r (as_call giving_up o) refl
          (er ∙ ap (λ (x : GiveUpStep). asked_of x.step nothing) f.0
          ∙ ap (asked_of o.step) (sym (give_up_start-keeps (settings_of config users) (state_in (lent_bytes kept path call request)) l).found))
          (ec ∙ ap (λ (x : GiveUpStep). call_after x.step.code (call_bytes (giving_up x.call)) call) f.0) f.1
          (ep ∙ ap (λ (x : GiveUpStep). kept_after x.step.code x.kept kept) f.0)
