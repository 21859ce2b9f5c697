-- The requests of an honest write: their nodes, bodies and sizes, and the answers to them that are taken.
use mathlib.Core.Path.{◌≡◌, ap₂, sym, ◌∙◌}
use mathlib.Core.Bool.{cond}
use mathlib.Core.List.{List, ◌++◌}
use Prim.Native.Nat.{ℕ, suc, ◌+◌, ◌-◌, ◌≤◌, ◌<◌}
use native.Mathlib.Omega.{arith}
use lib.Dec.{eqb, leb, ltb}
use lib.ListN.{length, length-append}
use borrow.Author.Tests.{le-leb, ltb-true, ltb-false}
use Rattle.tree.specs.Level.{lg, highest_full}
use Rattle.tree.specs.Cover.{piece}
use Rattle.tree.proofs.Cases.{by_bool, by_leb}
use Rattle.tree.proofs.Levels.{full_iff}
use Rattle.user_list.specs.Users.{least_request, longest_signature}
use Rattle.user_write.specs.Write.{path_digest, commit_number, write_kind, write_level, write_body}
use Rattle.honest_run.proofs.Invariant.{Item, hash_of, digest_of, body_at}
use Rattle.honest_run.proofs.Log.{top-is-digest, hash_size, digest_size}
use Rattle.honest_run.proofs.Records.{full_within}

-- the requests of a write are for nodes of its path
pub level_low : (p j : ℕ) → 0 < p → write_level p j ≤ lg p
unfolding write_level commit_number
level_low p j z =
    let h = full_within p (highest_full p) z (full_iff p (highest_full p) z ∙ le-leb (highest_full p) (highest_full p) (omega arith)) in
    by_leb (λ b. cond b j (cond (ltb j (lg p + 1 + highest_full p + 1)) (j - (lg p + 1)) (lg p)) ≤ lg p) j (lg p) (λ l. l)
    (λ l.
    by_bool (λ b. cond b (j - (lg p + 1)) (lg p) ≤ lg p) (ltb j (lg p + 1 + highest_full p + 1))
    (λ t. let x = ltb-true j (lg p + 1 + highest_full p + 1) t in omega arith) (λ t. omega arith))

-- each request of a write has a kind from 5 to 8
pub kind_low : (p j : ℕ) → (5 ≤ write_kind p j) × (write_kind p j ≤ 8)
unfolding write_kind
kind_low p j =
    let In : ℕ → Type 0 = λ n. (5 ≤ n) × (n ≤ 8) in
    by_bool (λ b. In (cond b 5 (cond (eqb j (lg p + 1)) 6 (cond (ltb j (commit_number p)) 7 8)))) (leb j (lg p)) (λ _. (omega arith, omega arith))
    (λ _.
    by_bool (λ b. In (cond b 6 (cond (ltb j (commit_number p)) 7 8))) (eqb j (lg p + 1)) (λ _. (omega arith, omega arith))
    (λ _. by_bool (λ b. In (cond b 7 8)) (ltb j (commit_number p)) (λ _. (omega arith, omega arith)) (λ _. (omega arith, omega arith))))

-- the body of each request, from the path, the entry and the signature of the open write
module _ (L : ℕ → Item) (w : ℕ) (path : List ℕ) (path_ok : (l : ℕ) → l ≤ lg (suc w) → piece path l ≡ hash_of L (suc w) l) where
  -- the last node of its path is the digest
  pub path-digest : path_digest (suc w) path ≡ digest_of L (suc w)
  unfolding path_digest
  path-digest = path_ok (lg (suc w)) (omega arith) ∙ top-is-digest L (suc w) (omega arith)

  -- the body of request j
  pub body_is : (j : ℕ) (entry signature : List ℕ) → (L w).entry ≡ entry → (j ≡ commit_number (suc w) → (L w).signature ≡ signature)
      → j ≤ commit_number (suc w) → write_body (suc w) j path entry signature ≡ body_at L w j
  unfolding write_body
  body_is j entry signature same signs few =
      let p : ℕ = suc w in
      let d : List ℕ = digest_of L (suc w) in
      let h : List ℕ = hash_of L (suc w) (write_level (suc w) j) in
      let last : ℕ = commit_number (suc w) in
      let ours : List ℕ = piece path (write_level (suc w) j) in
      let top : List ℕ = path_digest (suc w) path in
      by_bool
      (λ b.
      cond b top (cond (eqb j (lg p + 1)) entry (cond (ltb j last) ours (top ++ signature)))
      ≡ cond b d (cond (eqb j (lg p + 1)) (L w).entry (cond (ltb j last) h (d ++ (L w).signature))))
      (leb j (lg p))
      (λ _. path-digest)
      (λ _.
      by_bool (λ b. cond b entry (cond (ltb j last) ours (top ++ signature)) ≡ cond b (L w).entry (cond (ltb j last) h (d ++ (L w).signature))) (eqb j (lg p + 1))
      (λ _. sym same)
      (λ _.
      by_bool (λ b. cond b ours (top ++ signature) ≡ cond b h (d ++ (L w).signature)) (ltb j last)
      (λ _. path_ok (write_level (suc w) j) (level_low (suc w) j (omega arith)))
      (λ t. ap₂ (λ (x y : List ℕ). x ++ y) path-digest (sym (signs (let y = ltb-false j (commit_number (suc w)) t in omega arith))))))

-- and a request's size
pub body-small : (L : ℕ → Item) (w j : ℕ) → length (L w).entry ≤ 1024 → (j ≡ commit_number (suc w) → length (L w).signature ≡ longest_signature)
    → j ≤ commit_number (suc w) → 26 + length (body_at L w j) ≤ least_request
body-small L w j short signed few =
    let p : ℕ = suc w in
    let d = digest_size L (suc w) in
    let Small : List ℕ → Type 0 = λ x. 26 + length x ≤ least_request in
    let h : List ℕ = hash_of L (suc w) (write_level (suc w) j) in
    let commit : List ℕ = digest_of L (suc w) ++ (L w).signature in
    by_bool (λ b. Small (cond b (digest_of L (suc w)) (cond (eqb j (lg p + 1)) (L w).entry (cond (ltb j (commit_number (suc w))) h commit)))) (leb j (lg p))
    (λ _. omega arith)
    (λ _.
    by_bool (λ b. Small (cond b (L w).entry (cond (ltb j (commit_number (suc w))) h commit))) (eqb j (lg p + 1)) (λ _. omega arith)
    (λ _.
    by_bool (λ b. Small (cond b h commit)) (ltb j (commit_number (suc w))) (λ _. omega (arith, hash_size L (suc w) (write_level (suc w) j)))
    (λ t.
    let y = ltb-false j (commit_number (suc w)) t in
    let n = signed (omega arith) in
    omega (arith, length-append (digest_of L (suc w)) (L w).signature))))
