use mathlib.Core.Path.{refl}
use Rattle.programs.specs.Listed.{negated}
use Rattle.programs.proofs.numbers.negated.Goals as goal

pub returns : goal.returns
unfolding negated
returns c = refl
