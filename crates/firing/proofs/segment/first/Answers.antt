use mir.Facts.{to_z-of_z}
use mir.Syntax.{w16}
use Rattle.firing.specs.Schedule.{segment_of}
use Rattle.firing.proofs.Signed.{signed-bits}
use Rattle.firing.proofs.segment.first.Goals as goal

pub returns : goal.returns
unfolding segment_of
returns c =
    let signed = c.cast_signed in
    let kept = to_z-of_z {w = w16} {z = signed.result} (record { sfits = signed.type_inv }) in
    rw (kept, c.u16_at-3.ensures, c.u16_at-2.ensures, signed.ensures, signed-bits c.u16_at.result c.u16_at.type_inv, c.u16_at.ensures)
