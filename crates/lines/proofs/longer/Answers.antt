use borrow.Author.Tests.{lt-ltb, le-ltb}
use Rattle.lines.proofs.longer.Goals as goal

pub returns-then-value-gt999999 : goal.returns-then-value-gt999999
returns-then-value-gt999999 c = rw (lt-ltb 999999 _ c.if-value-gt999999.true)

pub returns : goal.returns
returns c = rw (le-ltb 999999 _ c.if-value-gt999999.false)
