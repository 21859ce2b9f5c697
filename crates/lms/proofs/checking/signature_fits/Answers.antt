use mathlib.Core.Path.{◌∙◌, sym}
use lib.ListN.{length}
use borrow.Author.Tests.{eq-eqb, ne_eqb}
use Rattle.lms.specs.Signature.{signature_size}
use Rattle.lms.specs.Check.{signature_fits, type_place}
use Rattle.lms.proofs.Growth.{height_held}
use Rattle.lms.proofs.checking.signature_fits.Goals as goal

pub returns-then-s-signature_size : goal.returns-then-s-signature_size
unfolding signature_fits
returns-then-s-signature_size c =
    let a = c.args.rows.now in
    rw (ne_eqb (length c.args.s.now) (signature_size a.ots a.lms)
    (λ e. c.if-s-signature_size.true (e ∙ sym c.signature_size.ensures)))

pub returns : goal.returns
unfolding signature_fits type_place
returns c =
    let a = c.args.rows.now in
    rw (
      eq-eqb (length c.args.s.now) (signature_size a.ots a.lms) (c.if-s-signature_size.false ∙ c.signature_size.ensures),
      ← c.u32_at.ensures,
      ← c.u32_at-2.ensures,
      ← c.u32_at-3.ensures,
      height_held a.lms.h a.is_low,
    )
