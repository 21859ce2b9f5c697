use borrow.Author.Tests.{ne_eqb}
use Rattle.firing.proofs.Schedules.{no_schedule, report_decides}
use Rattle.firing.proofs.schedule.rules_kept.Goals as goal

pub returns-then-byte_at-ne3 : goal.returns-then-byte_at-ne3
returns-then-byte_at-ne3 c =
    rw (ne_eqb _ 3 c.if-byte_at-ne3.true) (no_schedule _ _ c.byte_at.ensures c.if-byte_at-ne3.true)

pub returns-else-byte_at-ne3 : goal.returns-else-byte_at-ne3
returns-else-byte_at-ne3 c =
    let byte_at = c.byte_at.ensures in
    let if1-left = c.if-byte_at-ne3.false in
    rw c.report.ensures (report_decides _ _ byte_at if1-left)
