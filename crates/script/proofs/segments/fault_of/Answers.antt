use Rattle.script.specs.Segment.{segment_fault}
use Rattle.script.proofs.segments.fault_of.Goals as goal

pub returns : goal.returns
unfolding segment_fault
returns c =
    let two_bytes = c.two_bytes-range.ensures in
    let is_Within = c.is_within.ensures in
    let the-unless = c.unless-of_hold.ensures in
    let is-within2 = c.is_within-2.ensures in
    rw (c.unless.ensures, c.unless-of_target.ensures, is-within2, the-unless, is_Within, two_bytes)
