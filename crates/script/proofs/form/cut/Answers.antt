use mathlib.Core.Path.{refl}
use Rattle.script.specs.Form.{cut_row}
use Rattle.script.proofs.form.cut.Goals as goal

pub returns : goal.returns
unfolding cut_row
returns c = refl
