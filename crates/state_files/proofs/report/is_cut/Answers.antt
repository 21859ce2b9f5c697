use Rattle.state_files.specs.Slot.{is_cut}
use Rattle.state_files.proofs.report.is_cut.Goals as goal

pub returns-then-counts : goal.returns-then-counts
unfolding is_cut
returns-then-counts c = rw c.if-counts.true

pub returns : goal.returns
unfolding is_cut
returns c = rw (c.number_at.ensures, c.if-counts.false)
