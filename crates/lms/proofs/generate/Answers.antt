use mathlib.Core.Path.{refl}
use Prim.Native.Nat.{ℕ}
use native.Mathlib.Omega.{arith}
use mir.Syntax.{w8}
use mir.Val.{Fits}
use lib.ListN.{length, get_or}
use borrow.Author.Tests.{le-leb}
use borrow.Author.Rules.{rules}
use Rattle.lms.specs.Calls.{generate_code, generated}
use Rattle.lms.proofs.Words.{seed_back}
use Rattle.lms.proofs.ByType.{tree_short}
use Rattle.lms.proofs.generate.Goals as goal

pub returns-then-nodes-tree_size : goal.returns-then-nodes-tree_size
unfolding generate_code generated
returns-then-nodes-tree_size c =
    rw (tree_short _ _ _ c.args.nodes.now c.of-rows.ensures.1 c.tree_size.ensures c.if-nodes-tree_size.true) (refl, refl)

pub grow-requires : goal.grow-requires
grow-requires c = rw (← c.tree_size.ensures) c.if-nodes-tree_size.false

pub returns : goal.returns
unfolding generate_code generated
returns c =
    let f : (j : ℕ) → Fits w8 (get_or c.args.seed j 0) = λ j. search rules in
    let back = seed_back c.args.seed (λ j. omega (arith, f j)) (search rules) in
    rw (
      c.grow.ensures,
      c.of-rows.ensures.0,
      c.words.ensures,
      back,
      c.of-rows.ensures.1,
      le-leb _ (length c.args.nodes.now) (rw (c.tree_size.ensures, c.of-rows.ensures.1) at c.if-nodes-tree_size.false),
    ) (refl, refl)
