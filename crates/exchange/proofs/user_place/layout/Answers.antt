use Rattle.exchange.specs.UserPlace.{place_layout}
use Rattle.exchange.proofs.user_place.layout.Goals as goal

pub returns : goal.returns
unfolding place_layout
returns c = rw (c.at-at.ensures.0, c.tree_at.ensures.0)
