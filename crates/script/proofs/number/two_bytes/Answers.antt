use mathlib.Core.Path.{refl}
use Rattle.script.specs.Number.{two_bytes}
use Rattle.script.proofs.number.two_bytes.Goals as goal

pub returns : goal.returns
unfolding two_bytes
returns c = refl
