use lib.ListN.{length}
use borrow.Author.Tests.{eq-eqb, ne_eqb}
use Rattle.lms.specs.Check.{key_fits}
use Rattle.lms.proofs.checking.key_fits.Goals as goal

pub returns-then-key-ne56 : goal.returns-then-key-ne56
unfolding key_fits
returns-then-key-ne56 c = rw (ne_eqb (length c.args.key.now) 56 c.if-key-ne56.true)

pub returns : goal.returns
unfolding key_fits
returns c =
    rw (eq-eqb (length c.args.key.now) 56 c.if-key-ne56.false, ← c.u32_at.ensures, ← c.u32_at-2.ensures)
