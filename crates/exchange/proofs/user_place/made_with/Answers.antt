use Rattle.exchange.specs.UserPlace.{made_with}
use mathlib.Core.Path.{refl}
use Rattle.exchange.proofs.user_place.made_with.Goals as goal

pub returns : goal.returns
unfolding made_with
returns c = refl
