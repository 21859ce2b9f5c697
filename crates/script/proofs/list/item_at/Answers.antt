use Rattle.script.proofs.list.item_at.Goals as goal

pub returns-then-minutes : goal.returns-then-minutes
returns-then-minutes c = rw c.if-minutes.true c.minute_at.ensures

pub returns : goal.returns
returns c = rw c.if-minutes.false c.segment_at.ensures
