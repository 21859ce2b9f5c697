use borrow.Author.Tests.{le-leb, lt-leb}
use Rattle.script.specs.Number.{is_wrong}
use Rattle.script.proofs.number.is_wrong.Goals as goal

pub returns-then-numbers-k : goal.returns-then-numbers-k
unfolding is_wrong
returns-then-numbers-k c = rw (lt-leb _ _ c.if-numbers-k.true)

pub returns : goal.returns
unfolding is_wrong
returns c = rw (le-leb _ _ c.if-numbers-k.false, c.is_within.ensures)
