use borrow.Author.Tests.{le-leb, lt-leb, lt-ltb, le-ltb}
use Rattle.programs.specs.Case.{patched}
use Rattle.programs.proofs.line.patch.Goals as goal

pub returns-then-what-first : goal.returns-then-what-first
unfolding patched
returns-then-what-first c = rw (lt-leb _ _ c.if-what-first.true)

pub returns-then-what-first-ge2900 : goal.returns-then-what-first-ge2900
unfolding patched
returns-then-what-first-ge2900 c = rw (le-leb _ _ c.if-what-first.false, le-ltb _ 2900 c.if-what-first-ge2900.true)

pub returns : goal.returns
unfolding patched
returns c =
    let if1-left = c.if-what-first.false in
    let if2-left = c.if-what-first-ge2900.false in
    let the-put = c.put.ensures in
    rw (the-put, le-leb _ _ if1-left, lt-ltb _ 2900 if2-left)
