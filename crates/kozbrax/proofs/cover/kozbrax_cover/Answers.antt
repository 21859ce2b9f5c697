use native.Mathlib.Omega.{arith}
use borrow.Author.Rules.{rules}
use Rattle.kozbrax.specs.Tree.{cover_given, cover_left}
use Rattle.kozbrax.proofs.Nodes.{cover_small}
use Rattle.kozbrax.proofs.Ranges.{passed}
use Rattle.kozbrax.proofs.cover.kozbrax_cover.Goals as goal

pub returns-then-not-asked : goal.returns-then-not-asked
unfolding cover_given cover_left
returns-then-not-asked c = search rules

pub overflow_cast-result : goal.overflow_cast-result
overflow_cast-result c =
    omega (arith, c.cover_count.ensures, cover_small _ _ _ (passed c.asked.ensures c.if-not-asked.false))

pub returns : goal.returns
unfolding cover_given cover_left
returns c = search rules
