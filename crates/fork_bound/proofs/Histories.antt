-- Histories that users signed: their trees were hashed, and the digest of each of their positions was signed.
use mathlib.Core.Path.{◌≡◌, refl, ap, sym, ◌∙◌, subst}
use mathlib.Core.Bool.{cond}
use mathlib.Core.List.{List, [], Memᴰ}
use Prim.Native.Nat.{ℕ, zero, suc, ◌≤◌, ◌<◌}
use native.Mathlib.Omega.{arith}
use lib.Dec.{eqb}
use borrow.Author.Tests.{eq-eqb, ne_eqb}
use Rattle.tree.specs.Level.{lg}
use Rattle.tree.specs.Expr.{leaf, value, NoCollision}
use Rattle.tree.specs.Tree.{tree, leaves, digest}
use Rattle.tree.specs.Cover.{cover_digest, cover_path}
use Rattle.tree.specs.Message.{signed_text}
use Rattle.tree.proofs.Cases.{cases_le}
use Rattle.tree.proofs.Levels.{lg_ge}
use Rattle.tree.proofs.Agree.{AllIn}
use Rattle.tree.proofs.Trees.{tree_cong}
use Rattle.tree.proofs.Openings.{equal_digests_equal_leaves}
use Rattle.tree.proofs.Grows.{path-gives-next-digest}
use Rattle.tree.proofs.Messages.{text-position, text-digest}
use Rattle.whole_run.specs.World.{signed}
use Rattle.fork_bound.specs.Claim.{NoneForged}
use Rattle.fork_bound.proofs.Noted.{Whole, Hashed}

-- a history with one more text at place w
abbrev pub extend : (ℕ → List ℕ) → ℕ → List ℕ → ℕ → List ℕ
extend f w s i = cond (eqb i w) s (f i)

pub extend_old : (f : ℕ → List ℕ) (w : ℕ) (s : List ℕ) (i : ℕ) → i < w → f i ≡ extend f w s i
extend_old f w s i h = rw (ne_eqb i w (λ e. omega arith))

extend-new : (f : ℕ → List ℕ) (w : ℕ) (s : List ℕ) → s ≡ extend f w s w
extend-new f w s = rw (eq-eqb w w refl)

extend-tree : (f : ℕ → List ℕ) (w : ℕ) (s : List ℕ) (j : ℕ) → 0 < j → j ≤ w
    → tree (leaves f) (lg j) 0 j ≡ tree (leaves (extend f w s)) (lg j) 0 j
extend-tree f w s j z h =
    tree_cong (leaves f) (leaves (extend f w s)) (lg j) 0 j z (lg_ge j) (λ i a b. ap leaf (extend_old f w s i (omega arith)))

module _ (W : Whole) where
  abbrev log : List ℕ
  log = W.group.log

  -- user a signed this digest of v entries
  abbrev pub Signs : ℕ → ℕ → List ℕ → Type 0
  Signs a v δ = Memᴰ (signed a (signed_text log v δ)) W.world.log

  -- somebody signed it, where none is forged
  abbrev pub SignedAt : ℕ → List ℕ → Type 0
  SignedAt v δ = NoneForged W.world → (a : ℕ) × Signs a v δ

  -- user a of the list signed this digest of p entries, p being within the log
  pub record SignedBy (a p : ℕ) (δ : List ℕ) : Type 0 where
    pub listed : a ≤ 64
    pub within : p ≤ 1048576
    pub signs : Signs a p δ

  -- The first m texts of f are an established history: each of their trees was hashed, each of their digests signed.
  pub record Established (f : ℕ → List ℕ) (m : ℕ) : Type 0 where
    pub hashed : (j : ℕ) → 0 < j → j ≤ m → AllIn (Hashed W) (tree (leaves f) (lg j) 0 j)
    pub signers : (j : ℕ) → 0 < j → j ≤ m → (a : ℕ) × SignedBy a j (digest f j)

  pub established_shorter : (f : ℕ → List ℕ) (m k : ℕ) → k ≤ m → Established f m → Established f k
  established_shorter f m k h e = record { hashed = λ j z b. e.hashed j z (omega arith); signers = λ j z b. e.signers j z (omega arith) }

  -- two such histories that share a digest share their texts up to it
  pub established_agree : NoCollision (Hashed W) → (f g : ℕ → List ℕ) (m k : ℕ) → Established f m → Established g k
      → (j : ℕ) → 0 < j → j ≤ m → j ≤ k → digest f j ≡ digest g j → (i : ℕ) → i < j → f i ≡ g i
  established_agree free f g m k a b j z c d e = equal_digests_equal_leaves (Hashed W) free f g j (a.hashed j z c) (b.hashed j z d) e

  -- what the writer of position w + 1 hashed, over a cover that gave it the digest τ of w entries
  pub record Link (w : ℕ) (τ δ : List ℕ) : Type 0 where
    pub v : ℕ
    pub hashes : List ℕ
    pub text : List ℕ
    pub v_in_w : v ≤ w
    pub old : 0 < w → value (cover_digest v w hashes) ≡ τ
    pub new : value (cover_path v w hashes (leaf text) (lg (suc w))) ≡ δ
    pub old_in : 0 < w → AllIn (Hashed W) (cover_digest v w hashes)
    pub new_in : AllIn (Hashed W) (cover_path v w hashes (leaf text) (lg (suc w)))

  -- what a text that user a signed has behind it
  pub record Signed (a : ℕ) (text : List ℕ) : Type 0 where
    pub w : ℕ
    pub τ : List ℕ
    pub δ : List ℕ
    pub is : text ≡ signed_text log (suc w) δ
    pub before : 0 < w → SignedAt w τ
    pub link : Link w τ δ
    pub listed : a ≤ 64
    pub within : suc w ≤ 1048576

  -- a history of v entries with this digest
  abbrev pub Knows : ℕ → List ℕ → Type 0
  Knows v τ = (f : ℕ → List ℕ) × Established f v × (digest f v ≡ τ)

  -- No two strings collide, and behind each digest that was signed stands an established history.
  pub record Known : Type 0 where
    pub free : NoCollision (Hashed W)
    pub history : (v : ℕ) (τ : List ℕ) → 0 < v → v ≤ 1048576 → SignedAt v τ → Knows v τ

  -- one entry more
  pub established_longer : NoCollision (Hashed W) → (w : ℕ) (τ δ : List ℕ) (x : Link w τ δ) (a : ℕ) (f : ℕ → List ℕ) → Established f w
      → (0 < w → digest f w ≡ τ) → SignedBy a (suc w) δ → Established (extend f w x.text) (suc w) × (digest (extend f w x.text) (suc w) ≡ δ)
  unfolding digest
  established_longer free w τ δ x a f q t r =
      let g = extend f w x.text in
      let grown =
      path-gives-next-digest (Hashed W) free x.v w x.hashes x.text f g x.v_in_w (extend_old f w x.text) (extend-new f w x.text)
      (λ z. (x.old_in z, q.hashed w z (omega arith), x.old z ∙ sym (t z))) x.new_in in
      let d : digest g (suc w) ≡ δ = sym grown.0 ∙ x.new in (
        record {
          hashed = λ j z b.
              cases_le j w (λ c. subst (AllIn (Hashed W)) (extend-tree f w x.text j z c) (q.hashed j z c))
              (λ c. let k : j ≡ suc w = omega arith in rw k grown.1);
          signers = λ j z b.
              cases_le j w
              (λ c. let y = q.signers j z c in (y.0, subst (λ e. SignedBy y.0 j (value e)) (extend-tree f w x.text j z c) y.1))
              (λ c. let k : j ≡ suc w = omega arith in (a, rw (k, d) r));
        },
        d,
      )

  none_established : (f : ℕ → List ℕ) → Established f 0
  none_established f = record { hashed = λ j z b. absurd (omega arith); signers = λ j z b. absurd (omega arith) }

  -- every signed text is the digest of such a history: by its position, whenever it was signed
  module _ (free : NoCollision (Hashed W)) (owned : NoneForged W.world)
      (all : (a : ℕ) (text : List ℕ) → Memᴰ (signed a text) W.world.log → Signed a text) where
    histories : (v : ℕ) (τ : List ℕ) → 0 < v → v ≤ 1048576 → SignedAt v τ → Knows v τ
    histories zero τ z b s = absurd (omega arith)
    histories (suc w) τ z b s = go (s owned).0 (s owned).1 (all (s owned).0 (signed_text log (suc w) τ) (s owned).1) (histories w)
      where
        go : (a : ℕ) → Signs a (suc w) τ → Signed a (signed_text log (suc w) τ) → ((ε : List ℕ) → 0 < w → w ≤ 1048576 → SignedAt w ε → Knows w ε) → Knows (suc w) τ
        go a signs x ih =
            let m = x.within in
            let p : suc w ≡ suc x.w =
            text-position log log (suc w) (suc x.w) τ x.δ W.named W.named (omega arith) (omega arith) x.is in
            let k : x.w ≡ w = omega arith in
            let d : τ ≡ x.δ = text-digest log log (suc w) (suc x.w) τ x.δ W.named W.named (omega arith) (omega arith) x.is in
            let l : Link w x.τ τ = rw (d, ← k) x.link in
            let r : SignedBy a (suc w) τ = record { listed = x.listed; within = omega arith; signs = signs } in
            let q : 0 < w → SignedAt w x.τ = rw (← k) x.before in
            cases_le w 0
            (λ i.
            let e : w ≡ 0 = omega arith in
            let y = established_longer free w x.τ τ l a (λ i. []) (rw e (none_established (λ i. []))) (λ z. absurd (omega arith)) r in
            (extend (λ i. []) w l.text, y.0, y.1))
            (λ i.
            let u = ih x.τ i (omega arith) (q i) in
            let y = established_longer free w x.τ τ l a u.0 u.1 (λ z. u.2) r in
            (extend u.0 w l.text, y.0, y.1))

    pub all_known : Known
    all_known = record { free = free; history = histories }
