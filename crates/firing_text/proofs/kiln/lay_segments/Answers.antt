-- A turn for each of at most 16 segments: those that were laid and those that are still listed are all.
use borrow.Author.Rules.{rules}
use Rattle.firing_text.proofs.Segments.{at_first, at_last, text-ends, sixteen, after_one}
use Rattle.firing_text.proofs.kiln.lay_segments.Goals as goal

pub loop-count-init : goal.loop-count-init
loop-count-init c = (search rules, (search rules, at_first _ _))

pub returns-then-text-at : goal.returns-then-text-at
returns-then-text-at c = at_last _ _ _ _ _ c.loop-count.invariant.1.1 (text-ends _ _ _ c.loop-count-test.true c.if-text-at.true)

pub loop-count-preserved : goal.loop-count-preserved
loop-count-preserved c =
    let stands = c.loop-count.invariant.1.1 in
    let more = c.loop-count-test.true in
    let goes_on = c.if-text-at.false in
    let segment = c.segment-s.ensures in
    let put-segment = c.put_segment.ensures in
    (search rules, (search rules, after_one _ _ _ _ _ _ _ stands more goes_on segment put-segment))

pub returns : goal.returns
returns c = at_last _ _ _ _ _ c.loop-count.invariant.1.1 (sixteen _ _ _ c.loop-count-test.false)
