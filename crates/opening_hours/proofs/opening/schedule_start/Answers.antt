use mathlib.Core.Path.{sym, ap, ◌∙◌}
use Rattle.firing.specs.declared.schedule.Firing.{Firing}
use Rattle.opening_hours.specs.Opening.{no_start, opening}
use Rattle.opening_hours.proofs.Openings.{report_refused, total-begins}
use Rattle.opening_hours.proofs.opening.schedule_start.Goals as goal

pub returns-then-firing-ne0 : goal.returns-then-firing-ne0
returns-then-firing-ne0 c =
    let code = ap (λ (f : Firing). f.code) c.report-firing.ensures in
    c.refused.ensures ∙ ap no_start code ∙ sym (report_refused _ _ _ (λ e. c.if-firing-ne0.true (code ∙ e)))

pub returns : goal.returns
returns c =
    let report = c.report-firing.ensures in
    let code = ap (λ (f : Firing). f.code) report in
    let minutes = ap (λ (f : Firing). f.minutes) report in
    c.earliest.ensures ∙ ap (opening _ _) minutes ∙ sym (total-begins _ _ _ (sym code ∙ c.if-firing-ne0.false))
