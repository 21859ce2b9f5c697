use mathlib.Core.Path.{◌≡◌, refl, ◌∙◌, ap}
use Prim.Native.Nat.{suc, ◌-◌, ◌^◌, ◌≤◌, ◌<◌}
use native.Mathlib.Nat.{pow-suc}
use native.Mathlib.Omega.{arith}
use lib.ListN.{length, drop}
use borrow.Author.Rules.{rules}
use Rattle.sha256.specs.Hash.{bytes}
use Rattle.lms.specs.Tree.{tree_size}
use Rattle.lms.proofs.Growth.{height_most, nodes-held, none_placed, one_placed, rest-stays, all_placed}
use Rattle.lms.proofs.tree.grow.Goals as goal

pub loop-r-init : goal.loop-r-init
loop-r-init c =
    let rows = c.args.rows.now in
    let all = nodes-held rows.lms.h rows.is_low in
    (refl, none_placed rows.ots rows.lms.h c.args.id (bytes c.args.seed) _ c.args.tree.now (omega arith))

pub node-x-requires : goal.node-x-requires
node-x-requires c =
    let rows = c.args.rows.now in
    let all = nodes-held rows.lms.h rows.is_low in
    let most = height_most rows.lms.h rows.is_low in
    let two = pow-suc 2 rows.lms.h in
    (omega arith, (omega arith, omega arith))

pub loop-r-preserved : goal.loop-r-preserved
loop-r-preserved c =
    let rows = c.args.rows.now in
    let h = rows.lms.h in
    let t = c.loop-r.tree in
    let r = c.loop-r.r - 1 in
    let x = c.node-x.result in
    let all = nodes-held h rows.is_low in
    let room : tree_size h ≤ length t = omega (arith, c.requires) in
    let some : 0 < r = omega arith in
    let few : r < 2 ^ suc h = omega arith in
    let lx : length x ≡ 32 = search rules in (
      ap (drop (tree_size h)) c.put.ensures
          ∙ rest-stays rows.ots h c.args.id (bytes c.args.seed) r t x room some few lx ∙ c.loop-r.invariant.0,
      rw c.put.ensures (one_placed rows.ots h c.args.id (bytes c.args.seed) r t x room some few lx c.node-x.ensures c.loop-r.invariant.1),
    )

pub returns : goal.returns
returns c =
    let rows = c.args.rows.now in
    let e : c.loop-r.r - 1 ≡ 0 = omega arith in
    all_placed rows.ots rows.lms.h c.args.id (bytes c.args.seed) c.args.tree.now c.loop-r.tree c.requires
    c.loop-r.invariant.0 (rw e at c.loop-r.invariant.1)
