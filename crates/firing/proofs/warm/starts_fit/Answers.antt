use Rattle.firing.proofs.Starts.{ends_crossed, end_high, both_decide}
use Rattle.firing.proofs.warm.starts_fit.Goals as goal
use Rattle.firing.proofs.warm.starts_fit.Goals.{then-to-from-via-then-to-from, then-to-from-via-else-to-from+then-to-gt1350}

pub returns-then-to-from : goal.returns-then-to-from
returns-then-to-from c =
    elim c.then-to-from.branch [
      | then-to-from-via-then-to-from w ↦ ends_crossed _ _ _ w.if-to-from.true
      | then-to-from-via-else-to-from+then-to-gt1350 w ↦ end_high _ _ _ w.if-to-from.false w.if-to-gt1350.true
    ]

pub returns : goal.returns
returns c = rw (c.sign_fits.ensures, c.sign_fits-2.ensures) (both_decide _ _ _ c.if-to-from.false c.if-to-gt1350.false)
