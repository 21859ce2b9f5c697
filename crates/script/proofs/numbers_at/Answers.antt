use Rattle.script.specs.Line.{numbers_at}
use Rattle.script.proofs.numbers_at.Goals as goal

pub returns : goal.returns
unfolding numbers_at
returns c = rw (c.next-fourth.ensures, c.next-third.ensures, c.next-second.ensures, c.next-first.ensures)
