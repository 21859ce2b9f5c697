use borrow.Author.Tests.{lt-ltb, le-ltb}
use Rattle.programs.specs.Case.{changed_once}
use Rattle.programs.proofs.line.set.Goals as goal

pub returns-then-what-ge12 : goal.returns-then-what-ge12
unfolding changed_once
returns-then-what-ge12 c = rw (le-ltb _ 12 c.if-what-ge12.true)

pub returns : goal.returns
unfolding changed_once
returns c = rw (lt-ltb _ 12 c.if-what-ge12.false)
