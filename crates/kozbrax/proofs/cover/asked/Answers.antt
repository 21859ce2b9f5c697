use Rattle.std.proofs.Common.{arith}
use Rattle.std.proofs.Math.Bool.{and_assoc}
use Rattle.kozbrax.specs.Tree.{cover_asked}
use Rattle.kozbrax.proofs.Nodes.{cover_most}
use Rattle.kozbrax.proofs.cover.asked.Goals as goal

pub overflow_mul-result : goal.overflow_mul-result
overflow_mul-result c = omega (arith, c.cover_count.ensures, cover_most c.args.v c.args.w)

pub returns-then-in_range : goal.returns-then-in_range
unfolding cover_asked
returns-then-in_range c = rw (← c.cover_count.ensures, ← c.max.ensures, ← and_assoc, c.if-in_range.true)

pub returns-else-in_range : goal.returns-else-in_range
unfolding cover_asked
returns-else-in_range c = rw (← c.max.ensures, ← and_assoc, c.if-in_range.false)
