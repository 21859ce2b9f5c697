-- The nodes of a tree, and the path from a leaf to the root.
use mathlib.Core.Path.{◌≡◌, ◌∙◌, sym, ap, ap₂}
use mathlib.Core.List.{List, [], ◌++◌, append-nil}
use mathlib.Core.Logic.{⊎_elim, ◌⊎◌}
use Prim.Native.Nat.{ℕ, zero, suc, ◌+◌, ◌-◌, ◌*◌, ◌/◌, ◌%◌, ◌^◌, ◌≤◌, ◌<◌}
use native.Mathlib.Nat.{pow-suc, mul_assoc, add-mul, one-mul, le-div_iff_mul-le, eq-or-lt_of_le, div-one}
use native.Mathlib.Numerals.{add-one}
use native.Mathlib.Omega.{arith}
use borrow.Author.Tests.{le-leb, lt-leb, eq-eqb, ne_eqb}
use lib.Bits.{bit_xor, differ, xor_step, xor_zero_r}
use lib.Pow.{pow_pos, pow_mono, shr-shr, shr_le, high}
use lib.ListN.{length, take, drop, length-drop}
use lib.Seq.{length-take-le}
use Rattle.lms.specs.Types.{cat}
use Rattle.lms.specs.declared.Ots.{Ots}
use Rattle.lms.specs.Ots.{K}
use Rattle.lms.specs.Tree.{leaf, inner, node_over, node_within, T, tree_bytes, tree_size}
use Rattle.lms.specs.Signature.{node_at, path_node, path}
use Rattle.lms.specs.Check.{above, climb}
use Rattle.sha256.proofs.Cases.{cases_lt}
use Rattle.sha256.proofs.Hashes.{sha256-length}
use Rattle.lms.proofs.Parts.{cat-length, cat_part}

leaf-length : (I key : List ℕ) (r : ℕ) → length (leaf I r key) ≡ 32
unfolding leaf
leaf-length I key r = sha256-length _

inner-length : (I a b : List ℕ) (r : ℕ) → length (inner I r a b) ≡ 32
unfolding inner
inner-length I a b r = sha256-length _

-- the bytes of node r are there
pub node-whole : (tree : List ℕ) (h r : ℕ) → tree_size h ≤ length tree → 0 < r → r < 2 ^ suc h → length (node_at tree r) ≡ 32
unfolding node_at tree_size
node-whole tree h r l lo hi = length-take-le 32 (drop (32 * (r - 1)) tree) (simp length-drop (omega arith))

-- a tree has its root
pub tree-some : (h n : ℕ) → tree_size h ≤ n → 32 ≤ n
unfolding tree_size
tree-some h n l = omega (arith, pow-suc 2 h, pow_pos h)

module _ (o : Ots) (h : ℕ) (I SEED : List ℕ) where
  abbrev within : ℕ → ℕ → List ℕ
  within n r = node_within n o h I SEED r

  -- levels beyond those that reach the leaves change nothing
  one_more_level : (n r : ℕ) → 2 ^ h ≤ r * 2 ^ n → within (suc n) r ≡ within (suc (suc n)) r
  unfolding node_within node_over
  one_more_level zero r g = let le : 2 ^ h ≤ r = omega arith in rw (le-leb (2 ^ h) r le)
  one_more_level (suc n) r g =
      let d : r * 2 ^ suc n ≡ r * 2 ^ n * 2 = ap (λ (x : ℕ). r * x) (pow-suc 2 n) ∙ sym (mul_assoc r (2 ^ n) 2) in
      let a : 2 * r * 2 ^ n ≡ 2 * (r * 2 ^ n) = mul_assoc 2 r (2 ^ n) in
      let b : (2 * r + 1) * 2 ^ n ≡ 2 * r * 2 ^ n + 1 * 2 ^ n = add-mul (2 * r) 1 (2 ^ n) in
      let left : 2 ^ h ≤ 2 * r * 2 ^ n = omega arith in
      let right : 2 ^ h ≤ (2 * r + 1) * 2 ^ n = omega arith in
      cases_lt r (2 ^ h)
      (λ lt. rw (lt-leb (2 ^ h) r lt) (ap₂ (inner I r) (one_more_level n (2 * r) left) (one_more_level n (2 * r + 1) right)))
      (λ le. rw (le-leb (2 ^ h) r le))

  -- one case of section 5.3 for a node within reach of the leaves
  reaching : (n r : ℕ) → 2 ^ h ≤ r * 2 ^ n → r < 2 ^ h → within (suc n) r ≡ inner I r (within (suc n) (2 * r)) (within (suc n) (2 * r + 1))
  unfolding node_within node_over
  reaching zero r g lt = absurd (omega arith)
  reaching (suc n) r g lt =
      let d : r * 2 ^ suc n ≡ r * 2 ^ n * 2 = ap (λ (x : ℕ). r * x) (pow-suc 2 n) ∙ sym (mul_assoc r (2 ^ n) 2) in
      let a : 2 * r * 2 ^ n ≡ 2 * (r * 2 ^ n) = mul_assoc 2 r (2 ^ n) in
      let b : (2 * r + 1) * 2 ^ n ≡ 2 * r * 2 ^ n + 1 * 2 ^ n = add-mul (2 * r) 1 (2 ^ n) in
      rw (lt-leb (2 ^ h) r lt) (ap₂ (inner I r) (one_more_level n (2 * r) (omega arith)) (one_more_level n (2 * r + 1) (omega arith)))

  -- section 5.3: the case r >= 2^h, and the other
  pub at_leaf : (r : ℕ) → 2 ^ h ≤ r → T o h I SEED r ≡ leaf I r (K o I SEED (r - 2 ^ h))
  unfolding T node_within node_over
  at_leaf r g = rw (le-leb (2 ^ h) r g)

  pub at_inner : (r : ℕ) → 0 < r → r < 2 ^ h → T o h I SEED r ≡ inner I r (T o h I SEED (2 * r)) (T o h I SEED (2 * r + 1))
  unfolding T
  at_inner r g lt =
      let e : r - 1 + 1 ≡ r = omega arith in
      let m : r * 2 ^ h ≡ (r - 1) * 2 ^ h + 1 * 2 ^ h = ap (λ (x : ℕ). x * 2 ^ h) (sym e) ∙ add-mul (r - 1) 1 (2 ^ h) in
      reaching h r (omega arith) lt

  pub node-length : (r : ℕ) → length (T o h I SEED r) ≡ 32
  unfolding T node_within node_over
  node-length r =
      cases_lt r (2 ^ h) (λ lt. rw (lt-leb (2 ^ h) r lt) (inner-length I _ _ r)) (λ le. rw (le-leb (2 ^ h) r le) (leaf-length I _ r))

  pub tree-length : length (tree_bytes o h I SEED) ≡ tree_size h
  unfolding tree_bytes tree_size
  tree-length = cat-length (λ i. T o h I SEED (suc i)) (2 ^ suc h - 1) (λ i _. node-length (suc i)) (2 ^ suc h - 1) (omega arith)

  -- node r out of the tree's bytes, whatever follows them
  pub node_in_tree : (r : ℕ) (rest : List ℕ) → 0 < r → r < 2 ^ suc h → node_at (tree_bytes o h I SEED ++ rest) r ≡ T o h I SEED r
  unfolding node_at tree_bytes
  node_in_tree r rest lo hi =
      let e : suc (r - 1) ≡ r = omega arith in
      cat_part (λ i. T o h I SEED (suc i)) (2 ^ suc h - 1) (λ i _. node-length (suc i)) (2 ^ suc h - 1) (r - 1) rest (omega arith) (omega arith)
      ∙ ap (T o h I SEED) e

parity : (s : ℕ) → (s % 2 ≡ 1) ⊎ (s % 2 < 1)
parity s = eq-or-lt_of_le (omega arith)

-- s xor 1
pub xor_odd : (s : ℕ) → s % 2 ≡ 1 → bit_xor s 1 ≡ s - 1
xor_odd s e =
    let x : bit_xor s 1 ≡ s / 2 * 2 + differ (s % 2) 1 = xor_step s 1 ∙ ap (λ (y : ℕ). y * 2 + differ (s % 2) 1) (xor_zero_r (s / 2)) in
    let d : differ (s % 2) 1 ≡ 0 = ap (λ (y : ℕ). differ y 1) e in
    omega arith

pub xor_even : (s : ℕ) → s % 2 < 1 → bit_xor s 1 ≡ s + 1
xor_even s e =
    let x : bit_xor s 1 ≡ s / 2 * 2 + differ (s % 2) 1 = xor_step s 1 ∙ ap (λ (y : ℕ). y * 2 + differ (s % 2) 1) (xor_zero_r (s / 2)) in
    let z : s % 2 ≡ 0 = omega arith in
    let d : differ (s % 2) 1 ≡ 1 = ap (λ (y : ℕ). differ y 1) z in
    omega arith

-- the node numbers on the way from leaf q, and beside it
module _ (h q : ℕ) (few : q < 2 ^ h) where
  way_low : (i : ℕ) → i < h → 2 ≤ (2 ^ h + q) / 2 ^ i
  way_low i g =
      let m : 2 ^ suc i ≤ 2 ^ h = pow_mono (omega arith) in
      (le-div_iff_mul-le (pow_pos i)).1 (omega (arith, pow-suc 2 i))

  way_high : (i : ℕ) → (2 ^ h + q) / 2 ^ i < 2 ^ suc h
  way_high i = omega (arith, shr_le (2 ^ h + q) i, pow-suc 2 h)

  pub path-node_in : (i : ℕ) → i < h → (0 < path_node h q i) × (path_node h q i < 2 ^ suc h)
  unfolding path_node
  path-node_in i g =
      let s : ℕ = (2 ^ h + q) / 2 ^ i in
      let lo : 2 ≤ (2 ^ h + q) / 2 ^ i = way_low i g in
      let hi : (2 ^ h + q) / 2 ^ i < 2 ^ suc h = way_high i in
      let two : 2 ^ suc h ≡ 2 ^ h * 2 = pow-suc 2 h in
      ⊎_elim
      (λ (e : (2 ^ h + q) / 2 ^ i % 2 ≡ 1). let x = xor_odd ((2 ^ h + q) / 2 ^ i) e in (omega arith, omega arith))
      (λ (e : (2 ^ h + q) / 2 ^ i % 2 < 1). let x = xor_even ((2 ^ h + q) / 2 ^ i) e in (omega arith, omega arith))
      (parity ((2 ^ h + q) / 2 ^ i))

  -- a path has 32 bytes for each level
  pub path-length : (tree : List ℕ) → tree_size h ≤ length tree → length (path h tree q) ≡ 32 * h
  unfolding path
  path-length tree l = cat-length (λ i. node_at tree (path_node h q i)) h whole h (omega arith)
    where
      whole : (i : ℕ) → i < h → length (node_at tree (path_node h q i)) ≡ 32
      whole i g = node-whole tree h (path_node h q i) l (path-node_in i g).0 (path-node_in i g).1

module _ (o : Ots) (h : ℕ) (I SEED : List ℕ) where
  abbrev t : ℕ → List ℕ
  t r = T o h I SEED r

  -- Algorithm 6a's turn from a node and the one beside it is the node above
  joined : (s : ℕ) → 2 ≤ s → s < 2 ^ suc h → above I s (t s) (t (bit_xor s 1)) ≡ t (s / 2)
  unfolding above
  joined s lo hi =
      let up : t (s / 2) ≡ inner I (s / 2) (t (2 * (s / 2))) (t (2 * (s / 2) + 1)) = at_inner o h I SEED (s / 2) (omega arith) (omega (arith, pow-suc 2 h)) in
      ⊎_elim
      (λ (e : s % 2 ≡ 1).
      let a : 2 * (s / 2) ≡ s - 1 = omega arith in
      let b : 2 * (s / 2) + 1 ≡ s = omega arith in
      rw (eq-eqb (s % 2) 1 e, xor_odd s e, up, b, a))
      (λ (e : s % 2 < 1).
      let a : 2 * (s / 2) ≡ s = omega arith in
      rw (ne_eqb (s % 2) 1 (λ z. omega arith), xor_even s e, up, a))
      (parity s)

  module _ (q : ℕ) (few : q < 2 ^ h) (rest : List ℕ) where
    abbrev tree : List ℕ
    tree = tree_bytes o h I SEED ++ rest

    from-tree : (i : ℕ) → i < h → node_at tree (path_node h q i) ≡ t (path_node h q i)
    from-tree i g = node_in_tree o h I SEED (path_node h q i) rest (path-node_in h q few i g).0 (path-node_in h q few i g).1

    -- path[i]
    path_part : (i : ℕ) → i < h → take 32 (drop (32 * i) (path h tree q)) ≡ t (path_node h q i)
    unfolding path
    path_part i g =
        ap (λ (x : List ℕ). take 32 (drop (32 * i) x)) (sym (append-nil (cat (λ j. node_at tree (path_node h q j)) h)))
        ∙ cat_part (λ j. node_at tree (path_node h q j)) h (λ j f. ap length (from-tree j f) ∙ node-length o h I SEED (path_node h q j)) h i [] (omega arith) g
        ∙ from-tree i g

    path_part_beside : (i : ℕ) → i < h → take 32 (drop (32 * i) (path h tree q)) ≡ t (bit_xor ((2 ^ h + q) / 2 ^ i) 1)
    unfolding path_node
    path_part_beside i g = path_part i g

    climbs : (i : ℕ) → i ≤ h → climb I (path h tree q) (2 ^ h + q) (t (2 ^ h + q)) i ≡ t ((2 ^ h + q) / 2 ^ i)
    unfolding climb
    climbs zero g = rw div-one
    climbs (suc i) g =
        let k : (2 ^ h + q) / 2 ^ i / 2 ≡ (2 ^ h + q) / 2 ^ suc i = shr-shr (2 ^ h + q) i 1 ∙ (rw add-one) in
        let p : take 32 (drop (32 * i) (path h tree q)) ≡ t (bit_xor ((2 ^ h + q) / 2 ^ i) 1) = path_part_beside i (omega arith) in
        rw (climbs i (omega arith), p, joined ((2 ^ h + q) / 2 ^ i) (way_low h q few i (omega arith)) (way_high h q few i), k)

    -- the path out of the tree leads from the leaf to the root
    pub path_leads_to_root : climb I (path h tree q) (2 ^ h + q) (t (2 ^ h + q)) h ≡ t 1
    path_leads_to_root =
        let e : (2 ^ h + q) / 2 ^ h ≡ 1 = ap (λ (x : ℕ). (x + q) / 2 ^ h) (sym (one-mul (2 ^ h))) ∙ high 1 h few in
        climbs h (omega arith) ∙ ap t e
