-- A tree that grows in a buffer, from its last node to its first.
use mathlib.Core.Path.{◌≡◌, refl, ◌∙◌, sym, ap, ap₂}
use mathlib.Core.List.{List}
use mathlib.Core.Logic.{⊎_elim}
use Prim.Native.Nat.{ℕ, zero, suc, ◌+◌, ◌-◌, ◌*◌, ◌%◌, ◌^◌, ◌≤◌, ◌<◌}
use native.Mathlib.Nat.{pow-suc, eq-or-lt_of_le}
use native.Mathlib.Omega.{arith}
use borrow.Author.Tests.{le-leb, lt-leb}
use lib.Pow.{pow_mono}
use lib.ListN.{length, take, drop, take-append-drop}
use lib.Seq.{take-add}
use Rattle.sha256.specs.Bytes.{written}
use Rattle.sha256.proofs.Cases.{cases_lt}
use Rattle.sha256.proofs.Laws.{written-fits}
use Rattle.lms.specs.declared.Ots.{Ots}
use Rattle.lms.specs.Types.{cat}
use Rattle.lms.specs.Tree.{inner, node_over, T, tree_bytes, tree_size}
use Rattle.lms.specs.Signature.{node_at}
use Rattle.lms.proofs.Parts.{cat_equal}
use Rattle.lms.proofs.Writing.{written_there, written_behind}
use Rattle.lms.proofs.Nodes.{at_leaf, at_inner, tree-length}

-- powers of two that a height asks for
pub height_most : (h : ℕ) → h ≤ 25 → 2 ^ h ≤ 33554432
height_most h g = pow_mono {j = 25} g

pub height_held : (h : ℕ) → h ≤ 25 → 1 * 2 ^ h % 18446744073709551616 ≡ 2 ^ h
height_held h g = omega (arith, height_most h g)

pub height_held_32 : (h : ℕ) → h ≤ 25 → 1 * 2 ^ h % 4294967296 ≡ 2 ^ h
height_held_32 h g = omega (arith, height_most h g)

pub nodes-held : (h : ℕ) → h ≤ 25 → 2 * 2 ^ h % 18446744073709551616 ≡ 2 ^ suc h
nodes-held h g = omega (arith, height_most h g, pow-suc 2 h)

-- the parts of 32 bytes of a string, joined again
parts_joined : (t : List ℕ) (n : ℕ) → cat (λ i. take 32 (drop (32 * i) t)) n ≡ take (32 * n) t
unfolding cat
parts_joined t zero = refl
parts_joined t (suc n) =
    let e : 32 * suc n ≡ 32 * n + 32 = omega arith in
    rw (parts_joined t n, e, take-add)

module _ (o : Ots) (h : ℕ) (I SEED : List ℕ) where
  -- every node past r is in place
  abbrev pub Placed : ℕ → List ℕ → Type 0
  Placed r t = (k : ℕ) → r < k → k < 2 ^ suc h → node_at t k ≡ T o h I SEED k

  pub none_placed : (r : ℕ) (t : List ℕ) → r ≡ 2 ^ suc h - 1 → Placed r t
  none_placed r t e k lo hi = absurd (omega arith)

  -- node r out of the two nodes below it
  node_right : (r : ℕ) (t : List ℕ) → 0 < r → r < 2 ^ suc h → Placed r t
      → node_over o h I SEED r (node_at t (2 * r)) (node_at t (2 * r + 1)) ≡ T o h I SEED r
  unfolding node_over
  node_right r t lo hi placed =
      cases_lt r (2 ^ h)
      (λ lt.
      rw (lt-leb (2 ^ h) r lt)
      (ap₂ (inner I r) (placed (2 * r) (omega arith) (omega (arith, pow-suc 2 h))) (placed (2 * r + 1) (omega arith) (omega (arith, pow-suc 2 h)))
      ∙ sym (at_inner o h I SEED r lo lt)))
      (λ le. rw (le-leb (2 ^ h) r le) (sym (at_leaf o h I SEED r le)))

  -- one node more
  pub one_placed : (r : ℕ) (t x : List ℕ) → tree_size h ≤ length t → 0 < r → r < 2 ^ suc h → length x ≡ 32
      → x ≡ node_over o h I SEED r (node_at t (2 * r)) (node_at t (2 * r + 1)) → Placed r t → Placed (r - 1) (written t (32 * (r - 1)) x)
  unfolding node_at tree_size
  one_placed r t x l lo hi lx e placed k past top =
      let le : r ≤ k = omega arith in
      let fits : 32 * (r - 1) + length x ≤ length t = omega arith in
      ⊎_elim
      (λ (q : r ≡ k).
      let there : take 32 (drop (32 * (r - 1)) (written t (32 * (r - 1)) x)) ≡ x = rw lx at (written_there t x (32 * (r - 1)) fits) in
      rw (← q) (there ∙ e ∙ node_right r t lo hi placed))
      (λ (q : r < k). ap (take 32) (written_behind t x (32 * (r - 1)) fits (32 * (k - 1)) (omega arith)) ∙ placed k q top)
      (eq-or-lt_of_le le)

  -- what follows the tree stays
  pub rest-stays : (r : ℕ) (t x : List ℕ) → tree_size h ≤ length t → 0 < r → r < 2 ^ suc h → length x ≡ 32
      → drop (tree_size h) (written t (32 * (r - 1)) x) ≡ drop (tree_size h) t
  unfolding tree_size
  rest-stays r t x l lo hi lx = written_behind t x (32 * (r - 1)) (omega arith) (32 * (2 ^ suc h - 1)) (omega arith)

  tree_there : (t : List ℕ) → Placed 0 t → tree_bytes o h I SEED ≡ take (tree_size h) t
  unfolding tree_bytes tree_size node_at
  tree_there t placed =
      cat_equal (λ i. T o h I SEED (suc i)) (λ i. take 32 (drop (32 * i) t)) (2 ^ suc h - 1)
      (λ i g. let e : suc i - 1 ≡ i = omega arith in sym (rw e at (placed (suc i) (omega arith) (omega arith))))
      ∙ parts_joined t (2 ^ suc h - 1)

  -- the whole tree
  pub all_placed : (t₀ t : List ℕ) → tree_size h ≤ length t₀ → drop (tree_size h) t ≡ drop (tree_size h) t₀ → Placed 0 t
      → t ≡ written t₀ 0 (tree_bytes o h I SEED)
  all_placed t₀ t l rest placed =
      let n : 0 + length (tree_bytes o h I SEED) ≡ tree_size h = omega (arith, tree-length o h I SEED) in
      sym (written-fits t₀ 0 (tree_bytes o h I SEED) (omega arith) ∙ rw (n, tree_there t placed, ← rest) (take-append-drop (tree_size h) t))
