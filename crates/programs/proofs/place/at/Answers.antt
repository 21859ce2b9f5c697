use Rattle.programs.specs.Key.{place_at}
use borrow.Author.Rules.{rules}
use Rattle.programs.proofs.place.at.Goals as goal

pub returns : goal.returns
unfolding place_at
returns c = (rw c.before-2.ensures.0, search rules)
