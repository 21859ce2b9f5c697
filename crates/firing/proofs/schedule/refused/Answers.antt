use mathlib.Core.Path.{refl}
use Rattle.firing.specs.Schedule.{unreported}
use Rattle.firing.proofs.schedule.refused.Goals as goal

pub returns : goal.returns
unfolding unreported
returns c = refl
