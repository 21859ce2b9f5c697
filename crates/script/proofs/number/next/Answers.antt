use Rattle.script.specs.Number.{next_number}
use Rattle.script.proofs.number.next.Goals as goal

pub returns : goal.returns
unfolding next_number
returns c = rw (c.at_place.ensures, c.skip_blanks.ensures)
