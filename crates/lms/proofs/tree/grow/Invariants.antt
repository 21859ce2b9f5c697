use mathlib.Core.Path.{◌≡◌}
use Prim.Native.Nat.{◌-◌}
use lib.ListN.{drop}
use Rattle.sha256.specs.Hash.{bytes}
use Rattle.lms.specs.Tree.{tree_size}
use Rattle.lms.proofs.Growth.{Placed}
use Rattle.lms.proofs.tree.grow.Given as goal

-- `l.r` is one above the next node
abbrev pub invariant-loop-r : goal.invariant-loop-r
invariant-loop-r l =
    (drop (tree_size l.rows.lms.h) l.tree ≡ drop (tree_size l.rows.lms.h) l.initial.tree)
    × Placed l.rows.ots l.rows.lms.h l.id (bytes l.seed) (l.r - 1) l.tree
