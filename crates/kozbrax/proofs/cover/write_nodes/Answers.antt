use borrow.Author.Rules.{rules}
use Rattle.tree.proofs.Messages.{be-one}
use Rattle.tree.specs.Cover.{cover}
use mathlib.Core.Path.{sym, ◌∙◌}
use Rattle.kozbrax.proofs.Nodes.{nodes-not, nodes-none, nodes_more, nodes_all}
use native.Mathlib.Omega.{arith}
use Rattle.kozbrax.proofs.cover.write_nodes.Goals as goal

pub returns-then-nodes-n : goal.returns-then-nodes-n
returns-then-nodes-n c = nodes-not _ _ _ c.cover_count-n.ensures c.if-nodes-n.true

pub loop-k-init : goal.loop-k-init
loop-k-init c = nodes-none _ (cover c.args.v c.args.w)

pub loop-k-preserved : goal.loop-k-preserved
loop-k-preserved c =
    c.put2.ensures
    ∙ nodes_more _ c.loop-k.nodes _ c.loop-k.k _ _ _ _ c.cover_count-n.ensures (omega arith) c.if-nodes-n.false c.loop-k.invariant
    c.cover_node-node.ensures c.be4.ensures (sym (be-one _ (search rules)))

pub returns : goal.returns
returns c =
    nodes_all _ c.loop-k.nodes _ c.loop-k.k _ c.cover_count-n.ensures (omega (arith, c.cover_count-n.ensures, c.loop-k-test.false))
    c.loop-k.invariant
