use mathlib.Core.Path.{◌∙◌, sym}
use borrow.Author.Tests.{le-leb, lt-leb}
use Rattle.script.specs.Listed.{minute_item}
use Rattle.script.proofs.list.minute_at.Goals as goal

pub returns-then-text-at : goal.returns-then-text-at
unfolding minute_item
returns-then-text-at c = rw (← c.next-d.ensures, le-leb _ _ c.if-text-at.true, c.skip_blanks-next.ensures)

pub returns-then-is_within : goal.returns-then-is_within
unfolding minute_item
returns-then-is_within c =
    let the-next = c.next-d.ensures in
    let skip-blanks = c.skip_blanks-next.ensures in
    let if1-left = c.if-text-at.false in
    let two_bytes = c.two_bytes.ensures in
    rw (← the-next, lt-leb _ _ if1-left, ← two_bytes, sym c.is_within.ensures ∙ c.if-is_within.true, skip-blanks)

pub returns : goal.returns
unfolding minute_item
returns c =
    let the-next = c.next-d.ensures in
    let skip-blanks = c.skip_blanks-next.ensures in
    let if1-left = c.if-text-at.false in
    let two_bytes = c.two_bytes.ensures in
    rw (← the-next, lt-leb _ _ if1-left, ← two_bytes, sym c.is_within.ensures ∙ c.if-is_within.false, skip-blanks)
