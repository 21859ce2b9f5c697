use Rattle.programs.specs.Listed.{after}
use Rattle.programs.proofs.numbers.after.Goals as goal

pub returns : goal.returns
unfolding after
returns c = rw (c.from-2.ensures, c.from.ensures, c.find.ensures.0)
