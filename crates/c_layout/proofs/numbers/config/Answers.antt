use Rattle.std.proofs.Common.{rules}
use Rattle.c_layout.specs.Inner.{config_of}
use Rattle.c_layout.proofs.numbers.config.Goals as goal

pub returns : goal.returns
unfolding config_of
returns c = search rules
