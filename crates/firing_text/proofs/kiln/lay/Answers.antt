use Rattle.firing_text.specs.Laid.{with_schedule}
use mathlib.Core.Path.{refl}
use Rattle.firing_text.proofs.kiln.lay.Goals as goal

pub returns : goal.returns
unfolding with_schedule
returns c =
    let lay-segments = c.lay_segments-count in
    let the-put = c.put.ensures in
    rw (the-put, lay-segments.ensures.1, lay-segments.ensures.0) (refl, refl)
