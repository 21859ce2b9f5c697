use Rattle.std.proofs.Common.{refl}
use Rattle.state_files.specs.Argument.{is_from}
use Rattle.state_files.proofs.arguments.is_from.Goals as goal

pub returns : goal.returns
unfolding is_from
returns c = refl
