-- The log's hashes: each has 32 bytes, a path begins with the leaf and ends with the digest, and what is written later changes no hash.
use mathlib.Core.Path.{◌≡◌, ap, sym, ◌∙◌, subst}
use mathlib.Core.Bool.{true}
use mathlib.Core.List.{List}
use Prim.Native.Nat.{ℕ, suc, ◌-◌, ◌*◌, ◌/◌, ◌^◌, ◌≤◌, ◌<◌, zero}
use native.Mathlib.Nat.{div-add-mod', mod-lt}
use native.Mathlib.Omega.{arith}
use lib.ListN.{length}
use lib.Pow.{pow_pos}
use Rattle.sha256.proofs.Hashes.{sha256-length}
use Rattle.tree.specs.Level.{lg}
use Rattle.user_list.specs.Users.{signature_length}
use Rattle.tree.specs.Expr.{entry_text, leaf, value}
use Rattle.tree.specs.Tree.{leaves, digest, node, block_of, above, tree}
use Rattle.tree.proofs.Levels.{lg_ge}
use Rattle.tree.proofs.Trees.{tree_cong}
use Rattle.tree.proofs.Grows.{block_of_root}
use Rattle.tree.proofs.Cases.{by_leb}
use Rattle.honest_run.specs.Network.{HonestSetup, public_to}
use Rattle.honest_run.proofs.Invariant.{Item, texts, hash_of, digest_of, SignedOk, ItemOk, valid_at}

-- a hash of the log has 32 bytes
tree_size_lem : (f : ℕ → List ℕ) (k o m : ℕ) → length (value (tree (leaves f) k o m)) ≡ 32
unfolding tree value
tree_size_lem f zero o m = sha256-length _
tree_size_lem f (suc k) o m =
    by_leb (λ b. length (value (above (λ o m. tree (leaves f) k o m) k o m b)) ≡ 32) m (2 ^ k)
    (λ _. sha256-length _) (λ _. sha256-length _)

-- so has the hash of a node
pub hash_size : (L : ℕ → Item) (p l : ℕ) → length (hash_of L p l) ≡ 32
unfolding node
hash_size L p l = tree_size_lem (texts L) l _ _

-- and so has a digest
pub digest_size : (L : ℕ → Item) (p : ℕ) → length (digest_of L p) ≡ 32
unfolding digest
digest_size L p = tree_size_lem (texts L) (lg p) 0 p

-- the node of level 0 is the leaf of the entry
pub hash_of_leaf : (L : ℕ → Item) (p : ℕ) → hash_of L p 0 ≡ value (leaf (texts L (p - 1)))
unfolding node tree block_of
hash_of_leaf L p = let e : (p - 1) / 1 * 1 ≡ p - 1 = omega arith in ap (λ (i : ℕ). value (leaf (texts L i))) e

-- the node at the end of a path is the digest
pub top-is-digest : (L : ℕ → Item) (p : ℕ) → 0 < p → hash_of L p (lg p) ≡ digest_of L p
unfolding node block_of digest
top-is-digest L p z =
    let s : suc (p - 1) ≡ p = omega arith in
    let e : (p - 1) / 2 ^ lg p * 2 ^ lg p ≡ 0 = rw s at (block_of_root (p - 1) (lg p) (rw s (lg_ge p))) in
    let m : p - 0 ≡ p = omega arith in
    rw (e, m)

-- logs with the same first p texts have the same nodes of p, and the same digest
pub same_hash : (L M : ℕ → Item) (p l : ℕ) → 0 < p → ((i : ℕ) → i < p → texts L i ≡ texts M i) → hash_of L p l ≡ hash_of M p l
unfolding node block_of
same_hash L M p l z same =
    let d = div-add-mod' (p - 1) (2 ^ l) in
    let r = mod-lt (p - 1) (pow_pos l) in
    let o = (p - 1) / 2 ^ l * 2 ^ l in
    ap value (tree_cong (leaves (texts L)) (leaves (texts M)) l o (p - o) (omega arith) (omega arith) (λ i a b. ap leaf (same i (omega arith))))

-- and the same digest
pub same_digest : (L M : ℕ → Item) (p : ℕ) → 0 < p → ((i : ℕ) → i < p → texts L i ≡ texts M i) → digest_of L p ≡ digest_of M p
same_digest L M p z same = sym (top-is-digest L p z) ∙ same_hash L M p (lg p) z same ∙ top-is-digest M p z

-- logs with the same first w items have the same first w texts
pub same_texts : (L M : ℕ → Item) (w : ℕ) → ((i : ℕ) → i < w → L i ≡ M i) → (i : ℕ) → i < w → texts L i ≡ texts M i
same_texts L M w same i h = ap (λ (y : Item). entry_text y.author y.entry) (same i h)

-- what was written before place w is the same in a log that differs from there on only
pub items_stay : (c : HonestSetup) (L M : ℕ → Item) (w : ℕ) → ((i : ℕ) → i < w → L i ≡ M i) → ((i : ℕ) → i < w → ItemOk c L i × SignedOk c L i)
    → (i : ℕ) → i < w → ItemOk c M i × SignedOk c M i
items_stay c L M w same items i h =
    let x = items i h in
    let d = same_digest L M (suc i) (omega arith) (λ j b. same_texts L M w same j (omega arith)) in
    let e = same i h in (
      record {
        one = subst (λ (y : Item). 1 ≤ y.author) e x.0.one;
        listed = subst (λ (y : Item). y.author ≤ c.count) e x.0.listed;
        some = subst (λ (y : Item). 1 ≤ length y.entry) e x.0.some;
        short = subst (λ (y : Item). length y.entry ≤ 1024) e x.0.short;
      },
      record {
        size = subst (λ (y : Item). length y.signature ≡ signature_length (public_to c c.count) y.author) e x.1.size;
        valid =
            subst (λ (δ : List ℕ). valid_at c i (M i) δ ≡ true) d (subst (λ (y : Item). valid_at c i y (digest_of L (suc i)) ≡ true) e x.1.valid);
      },
    )
