use Rattle.std.proofs.Common.{rules}
use Rattle.kozbrax.specs.Tree.{is_position, leaves_fit}
use Rattle.kozbrax.proofs.hash.leaves_fit.Goals as goal

pub returns : goal.returns
unfolding leaves_fit is_position
returns c = search rules
