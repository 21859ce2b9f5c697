use Rattle.std.proofs.Common.{rules}
use Rattle.kozbrax.specs.Tree.{is_count}
use Rattle.kozbrax.proofs.label.is_count.Goals as goal

pub returns : goal.returns
unfolding is_count
returns c = search rules
