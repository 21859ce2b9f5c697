-- The exports of the tree: numbers of the log in range, the nodes of a cover as bytes, the digest of leaves.
use Rattle.std.specs.Prelude.{Bool, cond, ◌&&◌, List, [], ◌∷◌, ◌++◌, ℕ, ◌*◌, ◌/◌, ◌%◌, max, eqb, leb, ltb, length}
use Rattle.sha256.specs.Bytes.{be, written}
use Rattle.tree.specs.Level.{lg}
use Rattle.tree.specs.Label.{label, owner, wait}
use Rattle.tree.specs.Expr.{known, value}
use Rattle.tree.specs.Tree.{tree}
use Rattle.tree.specs.Cover.{cover, piece}
use Rattle.tree.specs.declared.cover.Node.{Node}

-- What answers a number out of range.
abbrev pub none : ℕ
none = 4294967295

-- Positions are 1 to 1,048,576, N is 2 to 16.
unfoldable pub is_position : ℕ → Bool
is_position p = leb 1 p && leb p 1048576

unfoldable pub is_count : ℕ → Bool
is_count n = leb 2 n && leb n 16

unfoldable pub first_label_given : ℕ → ℕ
first_label_given p = cond (is_position p) (label p 0) none

unfoldable pub owner_given : ℕ → ℕ → ℕ → ℕ
owner_given n p l = cond (is_count n && (is_position p && leb l (lg p))) (owner n p l) none

unfoldable pub wait_given : ℕ → ℕ → ℕ
wait_given n p = cond (is_count n && is_position p) (wait p n) none

-- Nodes as bytes: p (4) and l (1) for each.
unfoldable pub nodes_bytes : List Node → List ℕ
nodes_bytes [] = []
nodes_bytes (n ∷ ns) = (be 4 n.position ++ be 1 n.level) ++ nodes_bytes ns

-- A cover from v to w, v from 0, w from max(v, 1), with room for its nodes.
unfoldable pub cover_asked : ℕ → ℕ → List ℕ → Bool
cover_asked v w nodes = leb (max v 1) w && (leb w 1048576 && leb (5 * length (cover v w)) (length nodes))

unfoldable pub cover_given : ℕ → ℕ → List ℕ → ℕ
cover_given v w nodes = cond (cover_asked v w nodes) (length (cover v w)) none

unfoldable pub cover_left : ℕ → ℕ → List ℕ → List ℕ
cover_left v w nodes = cond (cover_asked v w nodes) (written nodes 0 (nodes_bytes (cover v w))) nodes

-- 21 where out is short, 24 where the leaves are not 1 to 1,048,576 hashes of 32 bytes.
unfoldable pub leaves_fit : List ℕ → Bool
leaves_fit leaves = eqb (length leaves % 32) 0 && is_position (length leaves / 32)

unfoldable pub digest_code : List ℕ → List ℕ → ℕ
digest_code leaves out = cond (ltb (length out) 32) 21 (cond (leaves_fit leaves) 0 24)

unfoldable pub digest_left : List ℕ → List ℕ → List ℕ
digest_left leaves out = let count = length leaves / 32 in
    cond (eqb (digest_code leaves out) 0) (written out 0 (value (tree (λ i. known (piece leaves i)) (lg count) 0 count))) out
