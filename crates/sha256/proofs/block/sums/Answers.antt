use Rattle.sha256.specs.Block.{sum_at, sums}
use Rattle.std.proofs.Common.{arith}
use Rattle.std.proofs.lemmas.List.FromFn.{fill_by_all}
use Rattle.sha256.proofs.block.sums.Goals as goal

pub returns : goal.returns
unfolding sums
returns c =
    fill_by_all (sum_at c.args.x c.args.y) _ 8 0 c.loop-i.invariant.long
    (λ k h. c.loop-i.invariant.done k (omega arith))
