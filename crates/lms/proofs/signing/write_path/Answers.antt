use mathlib.Core.Path.{◌≡◌, sym}
use Prim.Native.Nat.{ℕ, ◌<◌, suc, ◌+◌, ◌*◌, ◌/◌, ◌%◌, ◌^◌}
use native.Mathlib.Nat.{pow-suc}
use native.Mathlib.Omega.{arith}
use lib.Bits.{bit_xor}
use Rattle.lms.specs.Signature.{node_at, path_node, path}
use Rattle.lms.specs.Types.{cat}
use Rattle.lms.proofs.Growth.{height_most, height_held}
use Rattle.lms.proofs.Climbing.{beside_in}
use Rattle.lms.proofs.Nodes.{node-whole}
use Rattle.lms.proofs.Writing.{written_none, laid_more}
use Rattle.lms.proofs.signing.write_path.Goals as goal

pub loop-i-init : goal.loop-i-init
unfolding cat
loop-i-init c = sym (written_none c.args.place.now c.args.at (omega (arith, c.requires.1.1)))

pub node_at-requires : goal.node_at-requires
node_at-requires c =
    let rows = c.args.rows.now in
    let h = rows.lms.h in
    let big = height_most h rows.is_low in
    let one = height_held h rows.is_low in
    let two = pow-suc 2 h in
    let in_tree = beside_in h c.args.q c.loop-i.i (1 * 2 ^ h % 18446744073709551616 + c.args.q) (omega arith) c.requires.0 (omega arith) in
    (in_tree.0, omega (arith, in_tree.1))

pub loop-i-preserved : goal.loop-i-preserved
loop-i-preserved c =
    let a = c.args in
    let rows = a.rows.now in
    let big = height_most rows.lms.h rows.is_low in
    let one = height_held rows.lms.h rows.is_low in
    let in_tree : (j : ℕ) → j < rows.lms.h → (0 < bit_xor ((1 * 2 ^ rows.lms.h % 18446744073709551616 + a.q) / 2 ^ j) 1)
    × (bit_xor ((1 * 2 ^ rows.lms.h % 18446744073709551616 + a.q) / 2 ^ j) 1 < 2 ^ suc rows.lms.h) = λ j g. beside_in rows.lms.h a.q j
    (1 * 2 ^ rows.lms.h % 18446744073709551616 + a.q) (omega arith) c.requires.0 g in
    laid_more a.place.now (λ j. node_at a.tree.now
    (bit_xor ((1 * 2 ^ rows.lms.h % 18446744073709551616 + a.q) / 2 ^ j) 1)) a.at c.loop-i.i rows.lms.h _ c.loop-i.place _
    (λ j g. node-whole a.tree.now rows.lms.h _ c.requires.1.0 (in_tree j g).0 (in_tree j g).1) (omega arith) c.requires.1.1
    c.loop-i.invariant c.node_at.ensures c.put.ensures

pub returns : goal.returns
unfolding path path_node
returns c =
    let rows = c.args.rows.now in
    let one = height_held rows.lms.h rows.is_low in
    let e : c.loop-i.i ≡ rows.lms.h = omega arith in rw (e, one) at c.loop-i.invariant
