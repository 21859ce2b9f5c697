use mathlib.Core.Path.{refl}
use Rattle.lines.specs.Text.{is_digit}
use Rattle.lines.proofs.is_digit.Goals as goal

pub returns : goal.returns
unfolding is_digit
returns c = refl
