use Rattle.std.proofs.Common.{sym, ◌∙◌, le-leb}
use borrow.Author.Tests.{lt-leb}
use Rattle.state_files.specs.Argument.{settings_fit}
use Rattle.state_files.proofs.arguments.fit.Goals as goal

pub returns-then-not-is_from : goal.returns-then-not-is_from
unfolding settings_fit
returns-then-not-is_from c = rw (sym c.is_from.ensures ∙ c.if-not-is_from.true)

pub returns-then-not-is_from-2 : goal.returns-then-not-is_from-2
unfolding settings_fit
returns-then-not-is_from-2 c =
    let is-from = c.is_from.ensures in
    let if1-left = c.if-not-is_from.false in
    rw (sym is-from ∙ if1-left, sym c.is_from-2.ensures ∙ c.if-not-is_from-2.true)

pub returns-then-s-lt1 : goal.returns-then-s-lt1
unfolding settings_fit
returns-then-s-lt1 c =
    let is-from = c.is_from.ensures in
    let if1-left = c.if-not-is_from.false in
    let is-from2 = c.is_from-2.ensures in
    let if2-left = c.if-not-is_from-2.false in
    rw (sym is-from ∙ if1-left, sym is-from2 ∙ if2-left, lt-leb 1 _ c.if-s-lt1.true)

pub returns : goal.returns
unfolding settings_fit
returns c =
    let is-from = c.is_from.ensures in
    let if1-left = c.if-not-is_from.false in
    let is-from2 = c.is_from-2.ensures in
    let if2-left = c.if-not-is_from-2.false in
    rw (
      sym is-from ∙ if1-left,
      sym is-from2 ∙ if2-left,
      le-leb 1 _ c.if-s-lt1.false,
      c.is_user_list.ensures,
    )
