-- The nodes of a cover, written five bytes at a time.
use mathlib.Core.Path.{◌≡◌, refl, ◌∙◌, sym, ap}
use mathlib.Core.Bool.{true}
use mathlib.Core.List.{List, [], ◌∷◌, ◌++◌, append_assoc, append-nil}
use Prim.Native.Nat.{ℕ, ◌+◌, ◌*◌, ◌/◌, ◌≤◌, ◌<◌, max}
use native.Mathlib.Numerals.{add-one}
use native.Mathlib.Omega.{arith}
use lib.Dec.{leb}
use lib.ListN.{length, take, get_or, length-append}
use lib.Seq.{take-suc, take_all, length-take-le}
use borrow.Author.Tests.{leb-true}
use Rattle.sha256.specs.Bytes.{be, written}
use Rattle.sha256.proofs.Laws.{be-length, written-fits, written-not, written_twice}
use Rattle.tree.specs.Cover.{at, cover, peaks, tiles}
use Rattle.tree.specs.declared.cover.Node.{Node}
use Rattle.tree.proofs.Cases.{and-true}
use Rattle.tree.proofs.Tiles.{tiles_few}
use Rattle.kozbrax.specs.Tree.{nodes_bytes, cover_asked}

nodes-append : (xs ys : List Node) → nodes_bytes (xs ++ ys) ≡ nodes_bytes xs ++ nodes_bytes ys
unfolding nodes_bytes
nodes-append [] ys = refl
nodes-append (x ∷ xs) ys =
    rw (nodes-append xs ys) (sym (append_assoc (be 4 x.position ++ be 1 x.level) (nodes_bytes xs) (nodes_bytes ys)))

nodes-length : (xs : List Node) → length (nodes_bytes xs) ≡ 5 * length xs
unfolding nodes_bytes
nodes-length [] = refl
nodes-length (x ∷ xs) =
    length-append (be 4 x.position ++ be 1 x.level) (nodes_bytes xs)
    ∙ rw (length-append (be 4 x.position) (be 1 x.level), be-length 4 x.position, be-length 1 x.level, nodes-length xs) (omega arith)

-- nothing is written where the nodes do not fit
pub nodes-not : (d : List ℕ) (xs : List Node) (n : ℕ) → n ≡ length xs → length d / 5 < n → d ≡ written d 0 (nodes_bytes xs)
nodes-not d xs n e h = sym (written-not d 0 (nodes_bytes xs) (omega (arith, nodes-length xs)))

pub nodes-none : (d : List ℕ) (xs : List Node) → d ≡ written d 0 (nodes_bytes (take 0 xs))
unfolding nodes_bytes
nodes-none d xs = sym (written-fits d 0 [] (omega arith))

-- one more node
pub nodes_more : (d e : List ℕ) (xs : List Node) (k n : ℕ) (node : Node) (p l : List ℕ) → n ≡ length xs → k < n → n ≤ length d / 5
    → e ≡ written d 0 (nodes_bytes (take k xs)) → node ≡ get_or xs k (at 0 0) → p ≡ be 4 node.position → l ≡ be 1 node.level
    → written e (5 * k) (p ++ l) ≡ written d 0 (nodes_bytes (take (k + 1) xs))
unfolding nodes_bytes
nodes_more d e xs k n node p l en h room ee enode ep el =
    let lk : length (take k xs) ≡ k = length-take-le k xs (omega arith) in
    let lb : length (nodes_bytes (take k xs)) ≡ 5 * k = nodes-length (take k xs) ∙ omega arith in
    let lp : length p ≡ 4 = ap length ep ∙ be-length 4 node.position in
    let ll : length l ≡ 1 = ap length el ∙ be-length 1 node.level in
    let lpl : length (p ++ l) ≡ 5 = length-append p l ∙ omega arith in
    let t : take (k + 1) xs ≡ take k xs ++ (node ∷ []) = rw (add-one, take-suc xs k (at 0 0) (omega arith), enode) in
    let b : nodes_bytes (take (k + 1) xs) ≡ nodes_bytes (take k xs) ++ (p ++ l) =
    ap nodes_bytes t ∙ nodes-append (take k xs) (node ∷ []) ∙ rw (ep, el) (ap (λ (y : List ℕ). nodes_bytes (take k xs) ++ y) (append-nil (be 4 node.position ++ be 1 node.level))) in
    rw (ee, b) (ap (λ (i : ℕ). written (written d 0 (nodes_bytes (take k xs))) i (p ++ l)) (omega arith)
    ∙ written_twice d 0 (nodes_bytes (take k xs)) (p ++ l) (omega arith))

pub nodes_all : (d e : List ℕ) (xs : List Node) (k n : ℕ) → n ≡ length xs → k ≡ n → e ≡ written d 0 (nodes_bytes (take k xs))
    → e ≡ written d 0 (nodes_bytes xs)
nodes_all d e xs k n en ek ee = ee ∙ ap (λ (ns : List Node). written d 0 (nodes_bytes ns)) (take_all k xs (omega arith))

-- a cover has no more nodes than positions
pub cover_most : (v w : ℕ) → length (cover v w) ≤ v + w
unfolding cover peaks
cover_most v w = rw (length-append (tiles 0 v) (tiles v w)) (omega (arith, tiles_few 0 v, tiles_few v w))

cover_few : (v w : ℕ) → v ≤ w → length (cover v w) ≤ w
unfolding cover peaks
cover_few v w h = rw (length-append (tiles 0 v) (tiles v w)) (omega (arith, tiles_few 0 v, tiles_few v w))

module _ (v w : ℕ) (d : List ℕ) where
  asked-told : cover_asked v w d ≡ true → (v ≤ w) × (w ≤ 1048576)
  unfolding cover_asked
  asked-told e =
      let t = and-true (leb (max v 1) w) _ e in
      let u = and-true (leb w 1048576) _ t.1 in
      let x = leb-true (max v 1) w t.0 in
      (omega arith, leb-true w 1048576 u.0)

  -- the count of a cover that may be asked for fits 32 bits
  pub cover_small : cover_asked v w d ≡ true → length (cover v w) ≤ 1048576
  cover_small t = let r = asked-told t in omega (arith, cover_few v w r.0)
