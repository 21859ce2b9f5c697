use mathlib.Core.Path.{refl, ◌≡◌, ◌∙◌, ap}
use Prim.Native.Nat.{◌≤◌}
use lib.ListN.{length}
use lib.Seq.{length-take-le}
use borrow.Author.Tests.{le-leb, lt-leb}
use borrow.Author.Rules.{rules}
use Rattle.lms.specs.Sets.{ots_of, lms_of}
use Rattle.lms.specs.Tree.{tree_size}
use Rattle.lms.specs.Signature.{node_at}
use Rattle.lms.specs.Calls.{public_key_code, public_key_written}
use Rattle.lms.proofs.Nodes.{tree-some}
use Rattle.lms.proofs.Writing.{public_key-laid}
use Rattle.lms.proofs.ByType.{tree_short}
use Rattle.lms.proofs.public_key.Goals as goal

pub returns-then-nodes-tree_size : goal.returns-then-nodes-tree_size
unfolding public_key_code public_key_written
returns-then-nodes-tree_size c =
    rw (tree_short _ _ _ c.args.nodes.now c.of-rows.ensures.1 c.tree_size.ensures c.if-nodes-tree_size.true) (refl, refl)

pub returns-then-key-lt56 : goal.returns-then-key-lt56
unfolding public_key_code public_key_written
returns-then-key-lt56 c =
    rw (
      le-leb _ (length c.args.nodes.now) (rw (c.tree_size.ensures, c.of-rows.ensures.1) at c.if-nodes-tree_size.false),
      lt-leb 56 (length c.args.key.now) c.if-key-lt56.true,
    ) (refl, refl)

pub returns : goal.returns
unfolding public_key_code public_key_written node_at
returns c =
    let args = c.args in
    let o = ots_of args.otstype in
    let l = lms_of args.lmstype in
    let room : tree_size l.h ≤ length args.nodes.now = (rw (c.tree_size.ensures, c.of-rows.ensures.1) at c.if-nodes-tree_size.false) in
    let top = ap length c.front.ensures ∙ length-take-le 32 args.nodes.now (tree-some l.h _ room) in
    let li : length args.id ≡ 16 = search rules in
    let laid = public_key-laid o l args.key.now args.id _ _ _ _ _ _ _ li top c.if-key-lt56.false
    (c.be4.ensures ∙ rw c.of-rows.ensures.1) c.put.ensures (c.be4-2.ensures ∙ rw c.of-rows.ensures.0) c.put-2.ensures c.put-3.ensures
    c.put-4.ensures in
    rw (le-leb _ (length args.nodes.now) room, le-leb 56 (length args.key.now) c.if-key-lt56.false, laid, c.front.ensures) (refl, refl)
