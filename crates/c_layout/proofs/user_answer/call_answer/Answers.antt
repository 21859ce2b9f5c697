use Rattle.std.proofs.Common.{sym, ap, ◌∙◌}
use Rattle.c_layout.specs.Inner.{call_meant}
use Rattle.c_layout.proofs.UserAnswers.{taken_by_lem}
use Rattle.c_layout.proofs.user_answer.call_answer.Goals as goal

pub returns-in-Updating-clause-yields : goal.returns-in-Updating-clause-yields
returns-in-Updating-clause-yields c =
    let call = sym c.of.ensures ∙ ap call_meant c.in-Updating.is in
    taken_by_lem _ _ _ _ _ _ _ _ _ _ _ c.config-config.ensures call (c.update_answer.ensures.yields _)

pub returns-in-Writing-clause-yields : goal.returns-in-Writing-clause-yields
returns-in-Writing-clause-yields c =
    let call = sym c.of.ensures ∙ ap call_meant c.in-Writing.is in
    taken_by_lem _ _ _ _ _ _ _ _ _ _ _ c.config-config.ensures call c.write_answer.ensures.yields

pub returns-in-Reading-clause-yields : goal.returns-in-Reading-clause-yields
returns-in-Reading-clause-yields c =
    let call = sym c.of.ensures ∙ ap call_meant c.in-Reading.is in
    taken_by_lem _ _ _ _ _ _ _ _ _ _ _ c.config-config.ensures call (c.read_answer.ensures.yields _)

pub returns-in-GivingUp-clause-yields : goal.returns-in-GivingUp-clause-yields
returns-in-GivingUp-clause-yields c =
    let call = sym c.of.ensures ∙ ap call_meant c.in-GivingUp.is in
    taken_by_lem _ _ _ _ _ _ _ _ _ _ _ c.config-config.ensures call (c.give_up_answer.ensures.yields _)

pub returns-in-Idle-clause-yields : goal.returns-in-Idle-clause-yields
returns-in-Idle-clause-yields c =
    let call = sym c.of.ensures ∙ ap call_meant c.in-Idle.is in
    taken_by_lem _ _ _ _ _ _ _ _ _ _ _ c.config-config.ensures call (c.stray_answer.ensures _)
