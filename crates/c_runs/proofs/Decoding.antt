-- What a call of an exported function leaves in the bytes is, read back, what the step leaves.
use mathlib.Core.Path.{◌≡◌, refl, sym, ◌∙◌, ap}
use mathlib.Core.Bool.{cond}
use mathlib.Core.List.{List, ◌++◌}
use Prim.Native.Nat.{ℕ, ◌+◌, ◌≤◌}
use native.Mathlib.Omega.{arith}
use lib.Dec.{eqb}
use lib.ListN.{length, length-append}
use borrow.Author.Tests.{eq-eqb}
use Rattle.sha256.specs.Bytes.{written}
use Rattle.sha256.proofs.Laws.{be-length, written-fits, written-length}
use Rattle.tree.specs.Setup.{Settings}
use Rattle.tree.proofs.Cases.{by_bool}
use Rattle.user.specs.declared.call.Kept.{Kept}
use Rattle.user.specs.declared.call.StepResult.{StepResult}
use Rattle.user.specs.declared.call.Found.{Found}
use Rattle.user.specs.Outcome.{State, Lent, Outcome}
use Rattle.user_update.specs.declared.call.Update.{Update}
use Rattle.user_write.specs.declared.call.Write.{Write}
use Rattle.user_read.specs.declared.call.Read.{Read}
use Rattle.user_give_up.specs.declared.call.GiveUp.{GiveUp}
use Rattle.user_calls.specs.Calls.{Call, idle, updating, writing, reading, giving_up, Input, start_update, start_write, start_read, start_give_up, answer, as_call, taken, stepped}
use Rattle.user_read.proofs.ReadAnswers.{read-state}
use Rattle.c_layout.specs.User.{kept_bytes, kept_of, update_bytes, call_bytes, call_of, call_after, kept_after}
use Rattle.c_layout.specs.User.{kept_by, asked_of, UserLent, user_lent, state_in, lent_in, user_left, user_begun, give_up_begun}
use Rattle.c_layout.proofs.Inverses.{mark-read, kept_decode_encode, update_decode_encode, write_decode_encode, read_decode_encode, give_up_decode_encode}
use Rattle.whole_run.proofs.Starts.{update_start, read-start, give_up_start, write_start}
use Rattle.c_runs.specs.Bytes.{UserBytes, step_of, outcome_of, begun, called}
use Rattle.c_runs.proofs.Ranges.{KeptFits, UpdateFits, CallFits, Fits}

-- a call's bytes take at most 82
update-length : (u : Update) → UpdateFits u → length (update_bytes u) ≡ 45
unfolding update_bytes
update-length u f =
    let d = f.digest in
    simp length-append (omega (arith, be-length 4 u.greatest, be-length 4 u.least, be-length 4 u.position))

call_length : (c : Call) → CallFits c → length (call_bytes c) ≤ 82
unfolding call_bytes
call_length idle f = absurd f
call_length (updating u) f = omega (arith, update-length u f)
call_length (writing w) f =
    let d = f.random in
    let u = update-length w.update f.update in
    simp length-append (omega (arith, be-length 2 w.length))
call_length (giving_up g) f = omega arith
call_length (reading r) f = simp length-append (omega (arith, be-length 4 r.position, be-length 2 r.length))

-- A call that is laid is the call that is read.
read_back : (c : Call) → CallFits c → (b rest : List ℕ) → b ≡ call_bytes c ++ rest → call_of b ≡ c
read_back idle f b rest e = absurd f
read_back (updating u) f b rest e =
    let g = f.greatest in
    let l = f.least in
    let p = f.position in
    update_decode_encode b u rest f.digest e (omega arith) (omega arith) (omega arith)
read_back (writing w) f b rest e =
    let u = f.update in
    let g = u.greatest in
    let l = u.least in
    let p = u.position in
    let n = f.short in
    write_decode_encode b w rest u.digest f.random e (omega arith) (omega arith) (omega arith) (omega arith)
read_back (giving_up g) f b rest e = give_up_decode_encode b g rest e
read_back (reading r) f b rest e =
    let p = f.position in
    let n = f.short in
    read_decode_encode b r rest e (omega arith) (omega arith)

pub call-laid : (c : Call) (b : List ℕ) → CallFits c → length b ≡ 82 → call_of (written b 0 (call_bytes c)) ≡ c
call-laid c b f l =
    let n = call_length c f in
    read_back c f (written b 0 (call_bytes c)) _ (written-fits b 0 (call_bytes c) (omega arith))

-- the result of a step stands for it
step-read : (x : StepResult) (f : Found) → step_of (asked_of x f) ≡ x
unfolding step_of asked_of
step-read x f = rw (mark-read x.ended)

found-read : (x : StepResult) (f : Found) → ◌≡◌ {A = Found} (record { author = (asked_of x f).author; length = (asked_of x f).entry }) f
unfolding asked_of
found-read x f = refl

-- What a step leaves in the bytes, read back.
pub outcome-read : (b : UserLent) (kept : List ℕ) (o : Outcome Call) (m : Lent) → o.step.code ≡ 0 → Fits m o → length b.call ≡ 82
    → kept_of kept ≡ o.state.kept → outcome_of (user_left b kept o) m.key ≡ o
unfolding outcome_of user_left call_after
outcome-read b kept o m z f l e =
    rw (step-read o.step o.found, found-read o.step o.found, e, eq-eqb o.step.code 0 z, call-laid o.call b.call f.call l, ← f.key)

-- What is kept, laid and read back.
pub kept_read : (k : Kept) → KeptFits k → kept_of (kept_bytes k) ≡ k
kept_read k f = kept_decode_encode k f.digest f.version f.number

-- What is kept after an answer, read back. A Read keeps nothing new.
pub kept-answered : (s : Settings) (σ : State) (m : Lent) (c : Call) (a kept : List ℕ) → kept_of kept ≡ σ.kept → KeptFits (taken s σ m c a).state.kept
    → CallFits c → kept_of (kept_by (taken s σ m c a).call 0 (taken s σ m c a).state.kept kept) ≡ (taken s σ m c a).state.kept
unfolding taken kept_by kept_after
kept-answered s σ m idle a kept e k f = absurd f
kept-answered s σ m (updating u) a kept e k f = kept_read _ k
kept-answered s σ m (writing w) a kept e k f = kept_read _ k
kept-answered s σ m (giving_up g) a kept e k f = kept_read _ k
kept-answered s σ m (reading r) a kept e k f = e ∙ sym (ap (λ (x : State). x.kept) (read-state s σ m r a))

-- the bytes of a call stay as many
pub call_size : (b : UserLent) (kept : List ℕ) (o : Outcome Call) → length (user_left b kept o).lent.call ≡ length b.call
unfolding user_left call_after
call_size b kept o =
    by_bool (λ t. length (cond t (written b.call 0 (call_bytes o.call)) b.call) ≡ length b.call) (eqb o.step.code 0)
    (λ _. written-length b.call 0 (call_bytes o.call)) (λ _. refl)

-- The functions are given what the steps are: the bytes, with a start the memory for the new call.
abbrev pub given : UserLent → Lent → UserLent
given b m = user_lent b.kept b.path b.signature b.call m.hashes m.held m.request m.entry

module _ (s : Settings) (u : UserBytes) where
  abbrev b : UserLent
  b = u.bytes

  abbrev pub outcome : Input → Outcome Call
  outcome i = stepped s (state_in b) (lent_in b u.key) (call_of b.call) i

  pub update-called : (m : Lent) → called s u (start_update m) ≡ user_left (given b m) b.kept (outcome (start_update m))
  unfolding called begun user_begun user_left stepped
  update-called m = ap (λ (o : Outcome Update). user_left (given b m) b.kept (as_call updating o)) (sym (update_start s (state_in b) m))

  pub read-called : (m : Lent) (i : ℕ) → called s u (start_read m i) ≡ user_left (given b m) b.kept (outcome (start_read m i))
  unfolding called begun user_begun user_left stepped
  read-called m i = ap (λ (o : Outcome Read). user_left (given b m) b.kept (as_call reading o)) (sym (read-start s (state_in b) m i))

  -- a give-up's start changes what is kept
  abbrev pub kept_now : Lent → List ℕ
  kept_now m = let o = outcome (start_give_up m) in kept_after o.step.code o.state.kept b.kept

  pub give_up_called : (m : Lent) → called s u (start_give_up m) ≡ user_left (given b m) (kept_now m) (outcome (start_give_up m))
  unfolding called begun give_up_begun user_left stepped
  give_up_called m =
      ap (λ (o : Outcome GiveUp). user_left (given b m) (kept_after o.step.code o.state.kept b.kept) (as_call giving_up o))
      (sym (give_up_start s (state_in b) m))

  pub write-called : (m : Lent) (entry randomizer : List ℕ)
      → called s u (start_write m entry randomizer) ≡ user_left (given b m) b.kept (outcome (start_write m entry randomizer))
  unfolding called begun user_begun user_left stepped
  write-called m entry randomizer =
      ap (λ (o : Outcome Write). user_left (given b m) b.kept (as_call writing o)) (sym (write_start s (state_in b) m entry randomizer))
