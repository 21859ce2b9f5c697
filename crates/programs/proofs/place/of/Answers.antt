use Rattle.programs.proofs.place.of.Goals as goal

pub returns : goal.returns
returns c = rw (c.from.ensures, c.at.ensures.0)
