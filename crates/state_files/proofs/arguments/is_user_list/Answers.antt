use Rattle.std.proofs.Common.{sym, ◌∙◌}
use Rattle.state_files.specs.Argument.{is_user_list}
use Rattle.state_files.proofs.arguments.is_user_list.Goals as goal

pub returns-then-not-is_from : goal.returns-then-not-is_from
unfolding is_user_list
returns-then-not-is_from c = rw (sym c.is_from.ensures ∙ c.if-not-is_from.true)

pub returns : goal.returns
unfolding is_user_list
returns c = rw (sym c.is_from.ensures ∙ c.if-not-is_from.false)
