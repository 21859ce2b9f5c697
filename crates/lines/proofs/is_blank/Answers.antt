use mathlib.Core.Path.{refl}
use Rattle.lines.specs.Text.{is_blank}
use Rattle.lines.proofs.is_blank.Goals as goal

pub returns : goal.returns
unfolding is_blank
returns c = refl
