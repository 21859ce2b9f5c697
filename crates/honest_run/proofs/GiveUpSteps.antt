-- A give-up of an honest run that nothing refuses: its start, each answer, and the request that it hands out.
use mathlib.Core.Path.{◌≡◌, refl, ap, ap₂, ◌∙◌}
use mathlib.Core.Logic.{◌⊎◌, inl, inr}
use mathlib.Core.Bool.{Bool, true, false, not, ◌&&◌, ◌||◌, or-true}
use mathlib.Core.List.{List, [], ◌++◌, append-nil}
use Prim.Native.Nat.{ℕ, suc, ◌+◌, ◌≤◌, ◌<◌}
use native.Mathlib.Omega.{arith}
use lib.Dec.{eqb, leb}
use lib.ListN.{length}
use borrow.Author.Tests.{eq-eqb, le-leb}
use Rattle.tree.specs.Message.{answer, answer_code}
use Rattle.tree.specs.Setup.{Check, first_code, Settings}
use Rattle.tree.proofs.Cases.{positive}
use Rattle.user_list.specs.Users.{least_request}
use Rattle.user.specs.declared.call.Kept.{Kept}
use Rattle.user.specs.Asking.{user_settings_fit, kept_fits, user_fits, request_room, answer_body_fits, is_server_code, is_answer, asking}
use Rattle.user.specs.Outcome.{State, with_kept, Lent, Outcome, handing_out}
use Rattle.user_write.specs.Write.{path_digest}
use Rattle.user_give_up.specs.declared.call.GiveUp.{GiveUp}
use Rattle.user_give_up.specs.GiveUp.{next_told, give_up_answers, give_up_want, waiting, give_up_setup, give_up_answered, beginning, told, give_up_goes, give_up_started, give_up_taken}
use Rattle.user_give_up.proofs.GiveUpRules.{by_goes}
use Rattle.user_calls.specs.Calls.{giving_up, as_call}
use Rattle.whole_run.specs.World.{User, returned, after}
use Rattle.honest_run.specs.Network.{HonestSetup, InRange, settings_in}
use Rattle.honest_run.specs.Claim.{ValidMemory}
use Rattle.honest_run.proofs.Invariant.{Item, digest_of, OpenOk}
use Rattle.honest_run.proofs.Log.{digest_size}
use Rattle.honest_run.proofs.Frames.{sent_for_lem, memory-asks}
use Rattle.honest_run.proofs.Answers.{coded-answer}
use Rattle.honest_run.proofs.Bodies.{path-digest}
use Rattle.honest_run.proofs.Calls.{GiveUpCall}

-- the answer of the server that is told next, with this code
abbrev pub told_answer : ℕ → Kept → ℕ → List ℕ
told_answer n k code = answer 9 (next_told n k) (suc k.version) (give_up_want n k).level code []

-- it is one to its request
pub told-answers : (users : List ℕ) (n : ℕ) (k : Kept) (code : ℕ) → next_told n k < 256 → suc k.version < 4294967296 → (give_up_want n k).level < 256
    → (code ≡ 0) ⊎ (code ≡ 27) → (is_answer users (give_up_want n k) (told_answer n k code) ≡ true) × (answer_code (told_answer n k code) ≡ code)
unfolding give_up_want answer_body_fits is_server_code
told-answers users n k code server position level (inl e) =
    coded-answer users (give_up_want n k) code (omega arith) server position level (omega arith) (rw e) (λ _. refl)
told-answers users n k code server position level (inr e) =
    coded-answer users (give_up_want n k) code (omega arith) server position level (omega arith) (rw e) (λ _. refl)

-- a server is done by 0 and by 27
done_by : (code : ℕ) → (code ≡ 0) ⊎ (code ≡ 27) → (eqb code 0 || eqb code 27) ≡ true
done_by code (inl e) = rw (eq-eqb code 0 e)
done_by code (inr e) = rw (eq-eqb code 27 e) (or-true (eqb code 0))

module _ (s : Settings) (σ : State) (m : Lent) (settled : user_settings_fit s ≡ true) (in_range_lem : kept_fits s σ.kept ≡ true)
    (opened : σ.kept.opened ≡ true) (unput : σ.kept.progress.put ≡ false) (room : least_request ≤ length m.request) where
  -- 22, 28 and 21 pass, and what is checked after them decides
  setup-passes : (cs : List Check) → first_code (give_up_setup s σ.kept m.request ++ cs) ≡ first_code cs
  unfolding give_up_setup user_fits request_room first_code
  setup-passes cs =
      let held : (σ.kept.opened && not σ.kept.progress.put) ≡ true = ap₂ (λ (b d : Bool). b && not d) opened unput in
      rw (settled, in_range_lem, held, le-leb least_request (length m.request) room)

  -- it begins
  pub give_up_starts : give_up_started s σ m ≡ give_up_goes s (with_kept σ (beginning σ.kept)) m
  unfolding give_up_started first_code
  give_up_starts =
      let e : first_code (give_up_setup s σ.kept m.request) ≡ 0 = rw append-nil at (setup-passes []) in
      rw e

  -- an answer with 0 or 27 is taken: that server is done
  pub give_up_takes : (y : List ℕ) (code : ℕ) → σ.kept.progress.begun ≡ true → (next_told s.servers σ.kept ≡ 0 → ⊥)
      → is_answer s.users (give_up_want s.servers σ.kept) y ≡ true → answer_code y ≡ code → (code ≡ 0) ⊎ (code ≡ 27)
      → give_up_taken s σ m waiting y ≡ give_up_goes s (with_kept σ (told s.servers σ.kept)) m
  unfolding give_up_taken waiting first_code
  give_up_takes y code begun next shape is done =
      let n : ℕ = s.servers in
      let out : (σ.kept.progress.begun && leb 1 (next_told n σ.kept)) ≡ true =
      ap₂ (λ (b d : Bool). b && d) begun (le-leb 1 (next_told n σ.kept) (positive _ next)) in
      let ten : ((σ.kept.progress.begun && leb 1 (next_told n σ.kept)) && is_answer s.users (give_up_want n σ.kept) y) ≡ true =
      ap₂ (λ (b d : Bool). b && d) out shape in
      let e : first_code (give_up_setup s σ.kept m.request ++ give_up_answered s.servers s.users σ.kept waiting y) ≡ 0 =
      setup-passes _ ∙ rw (ten, is, done_by code done) in
      rw e

-- a give-up that has begun and has somebody to tell hands out the next server's request
module _ (c : HonestSetup) (range : InRange c) (L : ℕ → Item) (w g a : ℕ) (entry : List ℕ) (τ : State) (m : Lent) (ok : OpenOk c L w g a entry τ)
    (next : next_told c.servers τ.kept ≡ 0 → ⊥) where
  abbrev pub asks_on : Outcome GiveUp
  asks_on = handing_out (settings_in c a) (give_up_want c.servers τ.kept) (digest_of L (suc w)) τ m waiting

  pub give_up_asks : give_up_goes (settings_in c a) τ m ≡ asks_on
  give_up_asks =
      by_goes (settings_in c a) τ m (λ o. o ≡ asks_on) (λ e. absurd (next e))
      (λ _.
      ap (λ (body : List ℕ). handing_out (settings_in c a) (give_up_want c.servers τ.kept) body τ m waiting)
      (ap (λ v. path_digest (suc v) τ.path) ok.version ∙ path-digest L w τ.path ok.path_ok))

  -- and waits for its answer
  pub give_up_waits : (u : User) (left : ℕ) → ValidMemory m → τ.kept.opened ≡ true → τ.kept.progress.put ≡ false
      → τ.kept.progress.begun ≡ true → give_up_answers c.servers τ.kept ≡ left → GiveUpCall c L w a left (after u (as_call giving_up asks_on))
  unfolding after asking returned
  give_up_waits u left memory opened unput begun count =
      record {
        is = refl;
        memory = memory-asks m _ memory;
        opened = opened;
        unput = unput;
        begun = begun;
        next = next;
        sent =
            sent_for_lem c range a (give_up_want c.servers τ.kept) (digest_of L (suc w)) m.request (omega (arith, memory.request, digest_size L (suc w)));
        count = count;
      }
