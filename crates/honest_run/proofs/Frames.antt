-- One step of one user, one request at one server: what stays, and what is handed on.
use mathlib.Core.Path.{◌≡◌, refl, ap, sym, ◌∙◌, subst}
use mathlib.Core.Bool.{false, true}
use mathlib.Core.List.{List}
use Prim.Native.Nat.{ℕ, zero, suc, ◌+◌, ◌≤◌, ◌<◌}
use native.Mathlib.Omega.{arith}
use lib.ListN.{length}
use borrow.Author.Tests.{eq-eqb, ne_eqb}
use Rattle.tree.specs.Bytes.{written}
use Rattle.tree.proofs.Cases.{cases_eq, not_both}
use Rattle.tree.proofs.ByteLaws.{written-length}
use Rattle.user.specs.declared.ask.Want.{Want}
use Rattle.user.specs.Asking.{asks, asking}
use Rattle.user.specs.declared.call.Kept.{Kept}
use Rattle.user.specs.declared.call.Progress.{Progress}
use Rattle.user.specs.Outcome.{State, Lent, with_progress, with_kept, with_hashes, with_held, with_request}
use Rattle.user.proofs.Ranges.{ProgressInRange}
use Rattle.user.proofs.Passed.{sent_is}
use Rattle.user_calls.specs.Calls.{Input}
use Rattle.whole_run.specs.World.{Sent, sent_by, user_step}
use Rattle.whole_run.specs.Runs.{NewWorld, set}
use Rattle.honest_run.specs.Network.{HonestSetup, InRange, settings_in, Network, reply, arrives, steps, comes_back, network_after, in_records, Act, Run, new_network, run_of}
use Rattle.honest_run.specs.Claim.{ValidMemory}
use Rattle.honest_run.proofs.Invariant.{Item, texts, digest_of, OpenOk, KeptOk, serving}
use Rattle.honest_run.proofs.Log.{same_digest}

-- the run of a list of calls, of users and servers in records
abbrev pub run_from : HonestSetup → NewWorld → List Act → Run Network
run_from c b = run_of (in_records c) (new_network b)

-- what holds of the changed one and of the others holds of all
pub by_set : {A : Type 0} (P : ℕ → A → Type 0) (f : ℕ → A) (i : ℕ) (x : A) (j : ℕ) → P i x → ((j ≡ i → ⊥) → P j (f j)) → P j (set f i x j)
by_set P f i x j one other =
    cases_eq j i
    (λ e. rw (eq-eqb j i e) (subst (λ k. P k x) (sym e) one))
    (λ n. rw (ne_eqb j i n) (other n))

-- the state of the number that was set
pub set_same : {A : Type 0} (f : ℕ → A) (i : ℕ) (x : A) → set f i x i ≡ x
set_same f i x = rw (eq-eqb i i refl)

-- the states of other numbers stay
pub set_other : {A : Type 0} (f : ℕ → A) (i : ℕ) (x : A) (j : ℕ) → (j ≡ i → ⊥) → set f i x j ≡ f j
set_other f i x j n = rw (ne_eqb j i n)

-- a call of user a leaves every other user
pub others_stay : (c : HonestSetup) (x : Network) (a : ℕ) (i : Input) (k j : ℕ) → (j ≡ a → ⊥) → (network_after (in_records c) x a i k).users j ≡ x.users j
unfolding network_after steps arrives
others_stay c x a i zero j n = set_other x.users a (user_step (settings_in c a) (x.users a) i).user j n
others_stay c x a i (suc k) j n =
    let v = network_after (in_records c) x a i k in
    set_other v.users a (user_step (settings_in c a) (v.users a) (comes_back c v a)).user j n ∙ others_stay c x a i k j n

-- what a user that asks has out
abbrev pub sent_for : HonestSetup → ℕ → Want → List ℕ → Sent
sent_for c a want body = record { server = want.server; bytes = asks (settings_in c a) want body }

-- what it hands out in this request buffer
abbrev pub handed_out : HonestSetup → ℕ → Want → List ℕ → List ℕ → Sent
handed_out c a want body buffer = sent_by (asking want body) (written buffer 0 (asks (settings_in c a) want body))

-- the bytes that a user hands out are those of its request
pub sent_for_lem : (c : HonestSetup) → InRange c → (a : ℕ) (want : Want) (body buffer : List ℕ) → 26 + length body ≤ length buffer
    → handed_out c a want body buffer ≡ sent_for c a want body
unfolding sent_by asking
sent_for_lem c range a want body buffer room =
    ap (λ (b : List ℕ). record { server = want.server; bytes = b }) (sent_is (settings_in c a) want body buffer range.named room)

-- a call's memory once it has this entry, these hashes, or a request in its buffer
pub memory_holds : (m : Lent) (entry : List ℕ) → ValidMemory m → ValidMemory (with_held m (written m.held 0 entry))
memory_holds m entry ok =
    record { hashes = ok.hashes; held = written-length m.held 0 entry ∙ ok.held; request = ok.request }

pub memory_collects : (m : Lent) (hashes : List ℕ) → length hashes ≡ 1248 → ValidMemory m → ValidMemory (with_hashes m hashes)
memory_collects m hashes size ok = record { hashes = size; held = ok.held; request = ok.request }

pub memory-asks : (m : Lent) (request : List ℕ) → ValidMemory m → ValidMemory (with_request m (written m.request 0 request))
memory-asks m request ok =
    record { hashes = ok.hashes; held = ok.held; request = omega (arith, ok.request, written-length m.request 0 request) }

-- the reply to it is its server's
pub reply-is : (c : HonestSetup) (x : Network) (a : ℕ) (want : Want) (body : List ℕ) (q : Sent) → q ≡ sent_for c a want body
    → reply c x q ≡ serving c a want.server (x.servers want.server) want body
unfolding reply
reply-is c x a want body q e = ap (reply c x) e

-- what is kept with no write open stays as it should while the log grows
pub kept_moves : (c : HonestSetup) (L M : ℕ → Item) (w v g h a : ℕ) (e f : List ℕ) (σ : State) → w ≤ v → ((i : ℕ) → i < w → texts L i ≡ texts M i)
    → σ.kept.opened ≡ false → KeptOk c L w g a e σ → KeptOk c M v h a f σ
kept_moves c L M w v g h a e f σ up same shut ok =
    record {
      low = let x = ok.low in omega arith;
      number = ok.number;
      digest_ok = λ z. ok.digest_ok z ∙ same_digest L M σ.kept.version z (λ i b. same i (let x = ok.low in omega arith));
      path_size = ok.path_size;
      signature_size = ok.signature_size;
      open_ok = λ o. absurd (not_both σ.kept.opened o shut);
    }

-- it stays so whatever entry is begun, unless a write is open
pub kept-begun : (c : HonestSetup) (L : ℕ → Item) (w g a : ℕ) (e f : List ℕ) (σ : State) → (σ.kept.opened ≡ true → f ≡ e) → KeptOk c L w g a e σ
    → KeptOk c L w g a f σ
kept-begun c L w g a e f σ same ok =
    record {
      low = ok.low;
      number = ok.number;
      digest_ok = ok.digest_ok;
      path_size = ok.path_size;
      signature_size = ok.signature_size;
      open_ok = λ o. rw (same o) (ok.open_ok o);
    }

-- a user that keeps the same version, digest and number, and the same path and signature
pub kept_still : (c : HonestSetup) (L : ℕ → Item) (w g h a : ℕ) (entry : List ℕ) (σ : State) (k : Kept) → KeptOk c L w g a entry σ
    → k.version ≡ σ.kept.version → k.digest ≡ σ.kept.digest → k.number ≡ σ.kept.number
    → (k.opened ≡ true → OpenOk c L w h a entry (with_kept σ k)) → KeptOk c L w h a entry (with_kept σ k)
kept_still c L w g h a entry σ k ok version digest number open_ok =
    record {
      low = omega (arith, version, ok.low);
      number = omega (arith, number, ok.number);
      digest_ok = subst (λ v. 0 < v → k.digest ≡ digest_of L v) (sym version) (λ z. digest ∙ ok.digest_ok z);
      path_size = ok.path_size;
      signature_size = ok.signature_size;
      open_ok = open_ok;
    }

-- an open write with other progress
pub open_progress : (c : HonestSetup) (L : ℕ → Item) (w g a : ℕ) (entry : List ℕ) (σ : State) (p : Progress) → OpenOk c L w g a entry σ
    → ProgressInRange c.servers (suc w) σ.kept.signed p → (p.put ≡ false → g ≤ p.levels)
    → OpenOk c L w g a entry (with_kept σ (with_progress σ.kept p))
open_progress c L w g a entry σ p ok progress unput =
    record {
      version = ok.version;
      within = ok.within;
      item = ok.item;
      author = ok.author;
      entry = ok.entry;
      path_ok = ok.path_ok;
      signed = ok.signed;
      unsigned = ok.unsigned;
      progress = progress;
      unput = unput;
    }
