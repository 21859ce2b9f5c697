use Rattle.script.specs.Segment.{segment_at}
use Rattle.script.proofs.segments.segment.Goals as goal

pub returns : goal.returns
unfolding segment_at
returns c =
    let skip-blanks = c.skip_blanks.ensures in
    let rate-at = c.rate_at-rate.ensures in
    let the-next = c.next-target.ensures in
    let next2 = c.next-hold.ensures in
    let fault-of = c.fault_of-fault.ensures in
    rw (c.skip_blanks-2.ensures, fault-of, next2, the-next, rate-at, skip-blanks)
