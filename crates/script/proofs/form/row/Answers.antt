use mathlib.Core.Path.{refl}
use Rattle.script.specs.Form.{row}
use Rattle.script.proofs.form.row.Goals as goal

pub returns : goal.returns
unfolding row
returns c = refl
