use borrow.Author.Tests.{le-leb, lt-leb}
use Rattle.script.specs.Line.{end_of}
use Rattle.script.proofs.end.Goals as goal

pub returns-then-form-ge4 : goal.returns-then-form-ge4
unfolding end_of
returns-then-form-ge4 c = rw (le-leb 4 _ c.if-form-ge4.true)

pub returns-then-form-ge3 : goal.returns-then-form-ge3
unfolding end_of
returns-then-form-ge3 c = rw (lt-leb 4 _ c.if-form-ge4.false, le-leb 3 _ c.if-form-ge3.true)

pub returns-then-form-ge2 : goal.returns-then-form-ge2
unfolding end_of
returns-then-form-ge2 c =
    let if1-left = c.if-form-ge4.false in
    let if2-left = c.if-form-ge3.false in
    rw (lt-leb 4 _ if1-left, lt-leb 3 _ if2-left, le-leb 2 _ c.if-form-ge2.true)

pub returns : goal.returns
unfolding end_of
returns c =
    let if1-left = c.if-form-ge4.false in
    let if2-left = c.if-form-ge3.false in
    rw (lt-leb 4 _ if1-left, lt-leb 3 _ if2-left, lt-leb 2 _ c.if-form-ge2.false)
