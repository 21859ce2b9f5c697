use Rattle.std.proofs.Common.{rules}
use Rattle.kozbrax.specs.Tree.{is_position}
use Rattle.kozbrax.proofs.label.is_position.Goals as goal

pub returns : goal.returns
unfolding is_position
returns c = search rules
