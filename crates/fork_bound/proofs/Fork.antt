-- The claim: views of two users that read d differently end within Q(d, N) operations of d.
use mathlib.Core.Path.{◌≡◌, ap, sym, ◌∙◌}
use mathlib.Core.List.{List}
use Prim.Native.Nat.{ℕ, suc, ◌+◌, ◌-◌, ◌≤◌, ◌<◌, min}
use native.Mathlib.Omega.{arith}
use lib.ListN.{length}
use Rattle.tree.specs.Expr.{NoCollision}
use Rattle.tree.specs.Label.{owner, wait}
use Rattle.tree.specs.Level.{lg}
use Rattle.tree.specs.Message.{signed_text}
use Rattle.tree.proofs.Cases.{cases_le}
use Rattle.tree.proofs.Messages.{text-position, text-digest}
use Rattle.tree.proofs.Labels.{every_server_owns_a_node}
use Rattle.user_read.specs.Read.{text_author, text_entry}
use Rattle.whole_run.specs.World.{Setup}
use Rattle.whole_run.specs.Runs.{NewWorld, World, Step, run}
use Rattle.fork_bound.specs.Fair.{Fair, Account, as_messages}
use Rattle.fork_bound.specs.Claim.{NoneCollide, NoneForged, HasRead, Differ, Bounded, BoundHolds, ForkBound, ViewIsVersion}
use Rattle.fork_bound.proofs.Noted.{Whole, Hashed}
use Rattle.fork_bound.proofs.Histories.{SignedBy, Knows, Known, established_agree, all_known}
use Rattle.fork_bound.proofs.States.{ReadOk}
use Rattle.fork_bound.proofs.Taken.{Took, TookBelow}
use Rattle.fork_bound.proofs.Steps.{Holds, all_hold}
use Rattle.fork_bound.proofs.Heads.{one-digest-at-H}

module _ (g : Setup) (named : length g.log ≡ 16) (H : ℕ) (account : Account) (start : NewWorld) (xs : List Step)
    (fair : Fair g H (as_messages H account) (run g start) xs) where
  abbrev w : World
  w = run g start xs

  abbrev whole : Whole
  whole = record { group = g; named = named; follows = H; account = account; world = run g start xs }

  holds : Holds whole (run g start xs)
  holds = all_hold whole start xs fair (λ e m. m)

  module _ (free : NoCollision (Hashed whole)) (owned : NoneForged (run g start xs)) where
    known : Known whole
    known = all_known whole free owned holds.signatures

    -- the history behind a user's view
    abbrev History : ℕ → Type 0
    History a = Knows whole (w.users a).state.kept.version (w.users a).state.kept.digest

    history : (a : ℕ) → 0 < (w.users a).state.kept.version → History a
    history a z = let s = (holds.users a).state in known.history _ _ z s.small (s.kept z)

    -- what was signed was reserved at H, and nobody gave it up
    reserved-at-H : (a k : ℕ) (δ : List ℕ) → SignedBy whole a k δ → (l : ℕ) → l ≤ lg k → owner g.servers k l ≡ H → Took whole w.log a k l δ
    reserved-at-H a k δ x l within o =
        let f = (holds.guards a).signs (signed_text g.log k δ) x.signs in
        let small = x.within in
        let also = f.small in
        let p = text-position g.log g.log k f.p δ f.δ named named (omega arith) (omega arith) f.is in
        let d = text-digest g.log g.log k f.p δ f.δ named named (omega arith) (omega arith) f.is in
        same_text f.p f.δ p d f.took l (omega arith) within o
      where
        same_text : (p : ℕ) (ε : List ℕ) → k ≡ p → δ ≡ ε → TookBelow whole w.log a p ε (suc (lg p)) → TookBelow whole w.log a k δ (suc (lg k))
        same_text p ε e d t = rw (e, d) t

    -- Where two views reach a position of whose path H owns a node, they agree up to it.
    pub views_agree : (a b k l : ℕ) → 0 < k → k ≤ (w.users a).state.kept.version → k ≤ (w.users b).state.kept.version → l ≤ lg k
        → owner g.servers k l ≡ H → (f : History a) (h : History b) (i : ℕ) → i < k → f.0 i ≡ h.0 i
    views_agree a b k l z ka kb lk o f h =
        let p = f.1.signers k z ka in
        let q = h.1.signers k z kb in
        let x = reserved-at-H p.0 k _ p.1 l lk o in
        let y = reserved-at-H q.0 k _ q.1 l lk o in
        let e = one-digest-at-H whole _ w.log holds.head p.0 q.0 k l l _ _ p.1.listed q.1.listed p.1.within x y in
        established_agree whole free f.0 h.0 _ _ f.1 h.1 k z ka kb e

    -- both have read d
    module _ (H-some : 1 ≤ H) (H-one : H ≤ g.servers) (a b d x y : ℕ) (e f : List ℕ)
        (ra : HasRead (run g start xs) a d x e) (rb : HasRead (run g start xs) b d y f) (differ : Differ x e y f) where
      abbrev va : ℕ
      va = (w.users a).state.kept.version

      abbrev vb : ℕ
      vb = (w.users b).state.kept.version

      read_ok : (a x : ℕ) (e : List ℕ) → HasRead (run g start xs) a d x e
          → ReadOk whole (w.users a).state.kept.version (w.users a).state.kept.digest (record { position = d; author = x; entry = e })
      unfolding HasRead
      read_ok a x e r = (holds.users a).state.reads known (record { position = d; author = x; entry = e }) r

      -- so far the views cannot both reach
      not_beyond : d + wait d g.servers ≤ min va vb → ⊥
      unfolding Differ
      not_beyond h =
          let read_a = read_ok a x e ra in
          let read-b = read_ok b y f rb in
          let s = read_a.some in
          let ia = read_a.within in
          let ib = read-b.within in
          let o = every_server_owns_a_node g.servers d H s H-some H-one in
          let lo = o.low in
          let hi = o.high in
          let p = history a (omega arith) in
          let q = history b (omega arith) in
          let same = views_agree a b o.position o.level (omega arith) (omega arith) (omega arith) o.within o.owns p q (d - 1) (omega arith) in
          let ta = read_a.true-read p.0 p.1 p.2 in
          let tb = read-b.true-read q.0 q.1 q.2 in
          differ (sym ta.0 ∙ ap text_author same ∙ tb.0, sym ta.1 ∙ ap text_entry same ∙ tb.1)

      bounded : Bounded g (run g start xs) a b d
      unfolding Bounded
      bounded =
          let ia = (read_ok a x e ra).within in
          let ib = (read_ok b y f rb).within in
          rw ((holds.users a).seen, (holds.users b).seen)
          (cases_le (d + wait d g.servers) (min va vb) (λ h. absurd (not_beyond h)) (λ h. (omega arith, λ z. omega arith)))

pub view-is-version : ViewIsVersion
unfolding ViewIsVersion
view-is-version g named H account start xs fair a = ((holds g named H account start xs fair).users a).seen

pub fork_bound : ForkBound
unfolding ForkBound BoundHolds NoneCollide
fork_bound g named H H-some H-one account start xs fair free owned = bounded g named H account start xs fair free owned H-some H-one
