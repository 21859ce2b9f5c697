use Rattle.std.proofs.Common.{eq-eqb, ne_eqb}
use Rattle.state_files.specs.Argument.{number_of}
use Rattle.state_files.proofs.arguments.number_of.Goals as goal

pub returns-then-d-word : goal.returns-then-d-word
unfolding number_of
returns-then-d-word c = rw (← c.read_digits-d.ensures, eq-eqb _ _ c.if-d-word.true)

pub returns : goal.returns
unfolding number_of
returns c = rw (← c.read_digits-d.ensures, ne_eqb _ _ c.if-d-word.false)
