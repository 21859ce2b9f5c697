-- An answer taken in over lent bytes, by the user's calls.
use mathlib.Core.Path.{◌≡◌, refl, ◌∙◌, sym, ap}
use mathlib.Core.Bool.{Bool, false}
use mathlib.Core.List.{List, [], ◌∷◌, ◌++◌}
use Prim.Native.Nat.{ℕ}
use lib.Dec.{leb}
use lib.ListN.{length}
use Rattle.tree.specs.declared.setup.Config.{Config}
use Rattle.tree.specs.Setup.{Settings, settings, on, first_code}
use Rattle.tree.specs.Inner.{settings_of}
use Rattle.user_list.specs.Users.{least_request}
use Rattle.user.specs.declared.call.Kept.{Kept}
use Rattle.user.specs.declared.call.StepResult.{StepResult}
use Rattle.user_update.specs.declared.call.Update.{Update}
use Rattle.user_update.specs.declared.call.UpdateStep.{UpdateStep}
use Rattle.user_write.specs.declared.call.Write.{Write}
use Rattle.user_write.specs.declared.call.WriteStep.{WriteStep}
use Rattle.user_read.specs.declared.call.Read.{Read}
use Rattle.user_read.specs.declared.call.ReadStep.{ReadStep}
use Rattle.user_give_up.specs.declared.call.GiveUp.{GiveUp}
use Rattle.user_give_up.specs.declared.call.GiveUpStep.{GiveUpStep}
use Rattle.user.specs.Asking.{user_setup_checks, request_room, refused}
use Rattle.user.specs.Outcome.{State, state_of, with_kept, Key, Lent, lent_of, with_hashes, with_request, Outcome, nothing}
use Rattle.user_update.specs.Update.{update_taken}
use Rattle.user_update.specs.Inner.{UpdateYields}
use Rattle.user_write.specs.Write.{write_taken}
use Rattle.user_write.specs.Inner.{WriteYields}
use Rattle.user_read.specs.Read.{read_taken}
use Rattle.user_read.specs.Inner.{ReadYields}
use Rattle.user_give_up.specs.GiveUp.{give_up_taken}
use Rattle.user_give_up.specs.Inner.{GiveUpYields}
use Rattle.user_calls.specs.Calls.{Call, idle, updating, writing, reading, giving_up, answer, taken, stepped}
use Rattle.user_read.proofs.ReadAnswers.{read-state}
use Rattle.user_give_up.proofs.GiveUpAnswers.{give_up_keeps}
use Rattle.user_calls.proofs.Unchanged.{update-keeps, write_keeps}
use Rattle.c_layout.specs.User.{kept_of, call_bytes, call_of, call_after, kept_after, kept_by}
use Rattle.c_layout.specs.User.{asked_of, UserLent, user_lent, state_in, lent_in, user_left, answered_by, user_answered, UserYields}
use Rattle.c_layout.specs.Inner.{config_of}
use Rattle.c_layout.specs.declared.user_start.Asked.{Asked}
use Rattle.c_layout.proofs.Narrowed.{step-passed-on}
use Rattle.c_layout.proofs.States.{call_none}

-- lent bytes are the same where those of each buffer are
pub same_lent : {k k' p p' s s' c c' h h' l l' q q' e e' : List ℕ} → k ≡ k' → p ≡ p' → s ≡ s' → c ≡ c' → h ≡ h' → l ≡ l' → q ≡ q' → e ≡ e'
    → user_lent k p s c h l q e ≡ user_lent k' p' s' c' h' l' q' e'
same_lent x₁ x₂ x₃ x₄ x₅ x₆ x₇ x₈ = rw (x₁, x₂, x₃, x₄, x₅, x₆, x₇, x₈)

-- each call, with what is kept and the call as their bytes stand for them
module _ (s : Settings) (a kept path signature call hashes held request entry : List ℕ) (key : Key) (k : Kept) (r : Asked) (ek : k ≡ kept_of kept) where
  abbrev before : UserLent
  before = user_lent kept path signature call hashes held request entry

  module _ (call' hashes' request' : List ℕ) where
    pub update-answered : (kept' : List ℕ) (u : Update) (left : UpdateStep)
        → ((σ : State) (m : Lent) → UpdateYields (update_taken s (with_kept σ k) (with_request (with_hashes m hashes) request) u a) left hashes' request')
        → kept' ≡ kept_after left.step.code left.kept kept → call' ≡ call_after left.step.code (call_bytes (updating left.call)) call
        → r ≡ asked_of left.step nothing
        → UserYields (answered_by s before key (updating u) a) r (user_lent kept' path signature call' hashes' held request' entry)
    unfolding answered_by user_left stepped taken kept_by
    update-answered kept' u left e ep ec er =
        let o : Outcome Update = update_taken s (state_in before) (lent_in before key) u a in
        let same = update-keeps s (state_in before) (lent_in before key) u a in
        let f : UpdateYields o left hashes' request' = rw ek at (e (state_in before) (lent_in before key)) in (
          er ∙ ap (λ (x : UpdateStep). asked_of x.step nothing) f.0 ∙ ap (asked_of o.step) (sym same.found),
          same_lent (ep ∙ ap (λ (x : UpdateStep). kept_after x.step.code x.kept kept) f.0) (sym same.path) (sym same.signature)
              (ec ∙ ap (λ (x : UpdateStep). call_after x.step.code (call_bytes (updating x.call)) call) f.0)
              f.1.0 (sym same.held) f.1.1 (sym same.entry),
        )

    pub write-answered : (kept' path' signature' : List ℕ) (w : Write) (left : WriteStep)
        → ((b : List ℕ) → WriteYields (write_taken s (state_of k path signature) (lent_of hashes held request b key) w a) left path' signature' hashes' request')
        → kept' ≡ kept_after left.step.code left.kept kept → call' ≡ call_after left.step.code (call_bytes (writing left.call)) call
        → r ≡ asked_of left.step nothing
        → UserYields (answered_by s before key (writing w) a) r (user_lent kept' path' signature' call' hashes' held request' entry)
    unfolding answered_by user_left stepped taken kept_by
    write-answered kept' path' signature' w left e ep ec er =
        let o : Outcome Write = write_taken s (state_in before) (lent_in before key) w a in
        let same = write_keeps s (state_in before) (lent_in before key) w a in
        let f : WriteYields o left path' signature' hashes' request' = rw ek at (e entry) in (
          er ∙ ap (λ (x : WriteStep). asked_of x.step nothing) f.0 ∙ ap (asked_of o.step) (sym same.found),
          same_lent (ep ∙ ap (λ (x : WriteStep). kept_after x.step.code x.kept kept) f.0) f.1.0 f.1.1.0
              (ec ∙ ap (λ (x : WriteStep). call_after x.step.code (call_bytes (writing x.call)) call) f.0)
              f.1.1.1.0 (sym same.held) f.1.1.1.1 (sym same.entry),
        )

    pub read-answered : (held' entry' : List ℕ) (c : Read) (left : ReadStep)
        → ((σ : State) (key : Key)
        → ReadYields (read_taken s (with_kept σ k) (lent_of hashes held request entry key) c a) left hashes' held' request' entry')
        → call' ≡ call_after left.step.code (call_bytes (reading left.call)) call → r ≡ asked_of left.step left.found
        → UserYields (answered_by s before key (reading c) a) r (user_lent kept path signature call' hashes' held' request' entry')
    unfolding answered_by user_left stepped taken kept_by
    read-answered held' entry' c left e ec er =
        let o : Outcome Read = read_taken s (state_in before) (lent_in before key) c a in
        let same : o.state ≡ state_in before = read-state s (state_in before) (lent_in before key) c a in
        let f : ReadYields o left hashes' held' request' entry' = rw ek at (e (state_in before) key) in (
          er ∙ ap (λ (x : ReadStep). asked_of x.step x.found) f.0,
          same_lent refl (ap (λ (σ : State). σ.path) (sym same)) (ap (λ (σ : State). σ.signature) (sym same))
              (ec ∙ ap (λ (x : ReadStep). call_after x.step.code (call_bytes (reading x.call)) call) f.0)
              f.1.0 f.1.1.0 f.1.1.1.0 f.1.1.1.1,
        )

  pub give_up_answered_lem : (call' request' kept' : List ℕ) (g : GiveUp) (left : GiveUpStep)
      → ((signature : List ℕ) (m : Lent) → GiveUpYields (give_up_taken s (state_of k path signature) (with_request m request) g a) left request')
      → kept' ≡ kept_after left.step.code left.kept kept → call' ≡ call_after left.step.code (call_bytes (giving_up left.call)) call
      → r ≡ asked_of left.step nothing
      → UserYields (answered_by s before key (giving_up g) a) r (user_lent kept' path signature call' hashes held request' entry)
  unfolding answered_by user_left stepped taken kept_by
  give_up_answered_lem call' request' kept' g left e ep ec er =
      let o : Outcome GiveUp = give_up_taken s (state_in before) (lent_in before key) g a in
      let same = give_up_keeps s (state_in before) (lent_in before key) g a in
      let f : GiveUpYields o left request' = rw ek at (e signature (lent_in before key)) in (
        er ∙ ap (λ (x : GiveUpStep). asked_of x.step nothing) f.0 ∙ ap (asked_of o.step) (sym same.found),
        same_lent (ep ∙ ap (λ (x : GiveUpStep). kept_after x.step.code x.kept kept) f.0) (sym same.path) (sym same.signature)
            (ec ∙ ap (λ (x : GiveUpStep). call_after x.step.code (call_bytes (giving_up x.call)) call) f.0)
            (sym same.hashes) (sym same.held) f.1 (sym same.entry),
      )

  pub stray_answered : (room : Bool) (code : ℕ) (step : StepResult) → room ≡ leb least_request (length request)
      → code ≡ first_code (user_setup_checks s k room ++ (on 10 false ∷ [])) → step ≡ refused code a → r ≡ asked_of step nothing
      → UserYields (answered_by s before key idle a) r before
  unfolding answered_by user_left stepped taken kept_by refused request_room
  stray_answered room code step eo ec et er =
      let e : code ≡ first_code (user_setup_checks s (kept_of kept) (leb least_request (length request)) ++ (on 10 false ∷ [])) = rw (ek, eo) at ec in
      (er ∙ ap (λ (y : StepResult). asked_of y nothing) (et ∙ ap (λ (y : ℕ). refused y a) e), same_lent refl refl refl (call_none _ call) refl refl refl refl)

-- what the call leaves that the bytes stand for, with the numbers that are passed on, it leaves with those that are given
pub taken_by_lem : (servers own : ℕ) (log users : List ℕ) (config : Config) (m : UserLent) (key : Key) (a : List ℕ) (c : Call) (r : Asked) (after : UserLent)
    → config ≡ config_of servers own log → call_of m.call ≡ c → UserYields (answered_by (settings_of config users) m key c a) r after
    → UserYields (user_answered (settings servers own log users) m key a) r after
unfolding user_answered answered_by
taken_by_lem servers own log users config m key a c r after eg ec e =
    rw (ec, ← step-passed-on servers own log users config eg (state_in m) (lent_in m key) c (answer a)) e
