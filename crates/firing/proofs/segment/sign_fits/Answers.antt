use mathlib.Core.Path.{◌∙◌}
use mir.Facts.{to_z-of_z}
use mir.Syntax.{w16, w32}
use Rattle.firing.specs.Schedule.{sign_fits}
use Rattle.firing.proofs.Signed.{widened}
use Rattle.firing.proofs.segment.sign_fits.Goals as goal

pub returns : goal.returns
unfolding sign_fits
returns c =
    let told = c.struct_told-1.given.0.1 in
    let rate = widened w16 w32 c.args.s.rate tt (record { sfits = told }) in
    let change = to_z-of_z {w = w32} {z = c.change_from.result} (record { sfits = c.change_from.type_inv }) in
    c.same_sign.ensures ∙ rw (rate, change, c.change_from.ensures)
