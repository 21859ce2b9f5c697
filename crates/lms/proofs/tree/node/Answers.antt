use Prim.Native.Nat.{◌^◌, ◌≤◌, ◌<◌}
use native.Mathlib.Omega.{arith}
use borrow.Author.Tests.{le-leb, lt-leb}
use Rattle.lms.specs.Tree.{node_over}
use Rattle.lms.proofs.Growth.{height_held}
use Rattle.lms.proofs.tree.node.Goals as goal

pub returns-then-r-first : goal.returns-then-r-first
unfolding node_over
returns-then-r-first c =
    let h = c.args.rows.now.lms.h in
    let one = height_held h c.args.rows.now.is_low in
    let lt : c.args.r < 2 ^ h = omega (arith, c.if-r-first.true) in
    rw (lt-leb (2 ^ h) c.args.r lt, c.inner.ensures, c.node_at-then-r-first.ensures, c.node_at.ensures)

pub returns : goal.returns
unfolding node_over
returns c =
    let h = c.args.rows.now.lms.h in
    let one = height_held h c.args.rows.now.is_low in
    let le : 2 ^ h ≤ c.args.r = omega (arith, c.if-r-first.false) in
    rw (le-leb (2 ^ h) c.args.r le, c.leaf.ensures, c.public_hash.ensures, one)
