use Rattle.programs.specs.Case.{changed}
use Rattle.programs.proofs.line.changed.Goals as goal

pub returns : goal.returns
unfolding changed
returns c = rw (c.set.ensures, c.set-b.ensures, c.set-a.ensures)
