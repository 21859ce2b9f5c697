use Rattle.programs.proofs.numbers.number.Goals as goal

pub returns : goal.returns
returns c = rw c.number_at.ensures
