-- What holds of a user between steps, and how it goes on as the view grows.
use mathlib.Core.Path.{◌≡◌, ap, sym, ◌∙◌}
use mathlib.Core.Bool.{true, false}
use mathlib.Core.List.{List, Memᴰ}
use Prim.Native.Nat.{ℕ, suc, ◌-◌, ◌≤◌, ◌<◌}
use native.Mathlib.Omega.{arith}
use lib.ListN.{length}
use Rattle.tree.specs.Level.{lg}
use Rattle.tree.specs.Label.{owner}
use Rattle.tree.specs.Expr.{value}
use Rattle.tree.specs.Tree.{digest}
use Rattle.tree.specs.Cover.{cover_digest}
use Rattle.tree.specs.Message.{request, request_kind, request_position}
use Rattle.tree.proofs.Agree.{AllIn}
use Rattle.tree.proofs.Covers.{cover-gives-digest}
use Rattle.user_list.specs.Users.{longest_signature}
use Rattle.user.specs.Outcome.{State}
use Rattle.user_update.specs.declared.call.Update.{Update}
use Rattle.user_update.proofs.UpdateRules.{Above}
use Rattle.user_write.specs.declared.call.Write.{Write}
use Rattle.user_write.specs.Write.{commit_number, path_digest}
use Rattle.user_read.specs.Read.{text_author, text_entry}
use Rattle.user_calls.specs.Calls.{Call, idle, updating, writing, reading, giving_up}
use Rattle.whole_run.specs.World.{Event, hashed, signed, accepted, handed_out, answered, Sent, Reading, User}
use Rattle.fork_bound.proofs.Noted.{Whole, Hashed}
use Rattle.fork_bound.proofs.Histories.{SignedAt, SignedBy, Established, Link, Signed, Known, established_shorter, established_longer, established_agree, extend, extend_old}

module _ (W : Whole) where
  -- reads of a view of v entries with digest τ: each is in every established history that has this digest
  pub record ReadOk (v : ℕ) (τ : List ℕ) (r : Reading) : Type 0 where
    pub some : 0 < r.position
    pub within : r.position ≤ v
    pub true-read : (f : ℕ → List ℕ) → Established W f v → digest f v ≡ τ
        → (text_author (f (r.position - 1)) ≡ r.author) × (text_entry (f (r.position - 1)) ≡ r.entry)

  abbrev pub ReadsOk : ℕ → List ℕ → List Reading → Type 0
  ReadsOk v τ rs = (r : Reading) → Memᴰ r rs → ReadOk v τ r

  -- an Update from version v: p* is within the log and not below v, and after the Record its digest is signed
  pub record UpdateOk (v : ℕ) (c : Update) : Type 0 where
    pub small : c.position ≤ 1048576
    pub above : Above W.group.servers v c
    pub told : W.group.servers < c.answers → SignedAt W c.position c.digest

  -- reads stay true when the view grows by a cover that gives both digests
  pub reads_grow : Known W → (v p : ℕ) (τ δ hs : List ℕ) (rs : List Reading) → v ≤ p → 0 < p → AllIn (Hashed W) (cover_digest v p hs)
      → (0 < v → value (cover_digest v v hs) ≡ τ) → value (cover_digest v p hs) ≡ δ → ReadsOk v τ rs → ReadsOk p δ rs
  reads_grow K v p τ δ hs rs vp z a own new ok r m =
      let x = ok r m in
      let b = x.some in
      let c = x.within in
      record {
        some = b;
        within = omega arith;
        true-read = λ f h d.
            x.true-read f (established_shorter W f p v vp h)
            (sym (cover-gives-digest (Hashed W) K.free v p hs f (omega arith) vp a (h.hashed p z (omega arith)) (new ∙ sym d)) ∙ own (omega arith));
      }

  -- and when an entry of the user's own is committed
  pub reads_commit : Known W → (own v : ℕ) (τ δ : List ℕ) (rs : List Reading) → v ≤ 1048576 → Link W v τ δ → SignedBy W own (suc v) δ
      → (0 < v → SignedAt W v τ) → ReadsOk v τ rs → ReadsOk (suc v) δ rs
  reads_commit K own v τ δ rs small link signs kept ok r m =
      let x = ok r m in
      let b = x.some in
      let c = x.within in
      let f = K.history v τ (omega arith) small (kept (omega arith)) in
      let y = established_longer W K.free v τ δ link own f.0 f.1 (λ z. f.2) signs in
      let old = x.true-read f.0 f.1 f.2 in
      record {
        some = b;
        within = omega arith;
        true-read = λ g h d.
            let e : g (r.position - 1) ≡ f.0 (r.position - 1) =
            established_agree W K.free g (extend f.0 v link.text) (suc v) (suc v) h y.0 (suc v) (omega arith) (omega arith)
            (omega arith) (d ∙ sym y.1) (r.position - 1) (omega arith)
            ∙ sym (extend_old f.0 v link.text (r.position - 1) (omega arith)) in
            (ap text_author e ∙ old.0, ap text_entry e ∙ old.1);
      }

-- the position that an open write is for, and the digest of its path
abbrev pub open_position : State → ℕ
open_position σ = suc σ.kept.version

abbrev pub open_digest : State → List ℕ
open_digest σ = path_digest (open_position σ) σ.path

-- user number own
module _ (W : Whole) (own : ℕ) where
  -- an open write
  pub record OpenOk (σ : State) : Type 0 where
    pub link : Link W σ.kept.version σ.kept.digest (open_digest σ)
    pub done : σ.kept.signed ≡ true → SignedBy W own (open_position σ) (open_digest σ)

  pub record StateOk (σ : State) (rs : List Reading) : Type 0 where
    pub small : σ.kept.version ≤ 1048576
    pub room : length σ.path ≡ 672
    pub sized : length σ.signature ≡ longest_signature
    pub kept : 0 < σ.kept.version → SignedAt W σ.kept.version σ.kept.digest
    pub open_write : σ.kept.opened ≡ true → OpenOk σ
    pub reads : Known W → ReadsOk W σ.kept.version σ.kept.digest rs

  -- the call of an open write, j of whose requests are answered: the Commit goes out signed, and the request that is out is for the open
  -- position; a Reserve that is out has these bytes
  pub record GoesOk (σ : State) (x : Sent) (j : ℕ) : Type 0 where
    pub signs : commit_number (open_position σ) ≤ j → σ.kept.signed ≡ true
    pub position : request_position x.bytes ≡ open_position σ
    pub asks : j ≤ lg (open_position σ)
        → (x.server ≡ owner W.group.servers (open_position σ) j)
        × (x.bytes ≡ request 5 W.group.log own (open_position σ) j (open_digest σ))

  pub record WriteOk (σ : State) (x : Sent) (w : Write) : Type 0 where
    pub short : w.length ≤ 1024
    pub random : length w.randomizer ≡ 32
    pub waits : w.opened ≡ false → UpdateOk W σ.kept.version w.update
    pub goes : w.opened ≡ true → GoesOk σ x w.answers

  abbrev pub CallOk : State → Sent → Call → Type 0
  CallOk σ x idle = Unit {0}
  CallOk σ x (updating c) = UpdateOk W σ.kept.version c
  CallOk σ x (writing w) = WriteOk σ x w
  CallOk σ x (reading r) = r.length ≤ 1026
  CallOk σ x (giving_up g) = (request_position x.bytes ≡ open_position σ) × (σ.kept.signed ≡ false)

  -- only a give-up hands out requests of kind 9
  abbrev pub GivingUp : Call → Type 0
  GivingUp idle = ⊥
  GivingUp (updating c) = ⊥
  GivingUp (writing w) = ⊥
  GivingUp (reading r) = ⊥
  GivingUp (giving_up g) = Unit {0}

  pub record UserOk (u : User) : Type 0 where
    pub seen : u.view ≡ u.state.kept.version
    pub state : StateOk u.state u.reads
    pub call : CallOk u.state u.sent u.call
    pub out : request_kind u.sent.bytes ≡ 9 → GivingUp u.call

-- What stands behind an event that is noted of a user's step beside the request handed out: behind a signature of its own a history. A
-- server's answers are not a user's events.
abbrev pub Behind : Whole → ℕ → Event → Type 0
Behind W own (hashed t) = Unit {0}
Behind W own (signed a t) = (a ≡ own) × Signed W a t
Behind W own (accepted a t) = Unit {0}
Behind W own (handed_out a s q) = ⊥
Behind W own (answered s q x) = ⊥
