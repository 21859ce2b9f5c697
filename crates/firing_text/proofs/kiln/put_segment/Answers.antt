use Rattle.firing_text.specs.Laid.{with_segment}
use Rattle.firing_text.proofs.kiln.put_segment.Goals as goal

pub returns : goal.returns
unfolding with_segment
returns c =
    let the-be2 = c.be2.ensures in
    let be22 = c.be2-2.ensures in
    let the-put2 = c.put2.ensures in
    let be23 = c.be2-3.ensures in
    let the-put = c.put.ensures in
    rw (the-put, be23, the-put2, be22, the-be2)
