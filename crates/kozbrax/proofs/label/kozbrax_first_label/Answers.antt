use native.Mathlib.Omega.{arith}
use borrow.Author.Rules.{rules}
use Rattle.kozbrax.specs.Tree.{first_label_given}
use Rattle.kozbrax.proofs.Ranges.{position-told, label_small, passed}
use Rattle.kozbrax.proofs.label.kozbrax_first_label.Goals as goal

pub returns-then-not-is_position : goal.returns-then-not-is_position
unfolding first_label_given
returns-then-not-is_position c = search rules

pub overflow_cast-result : goal.overflow_cast-result
overflow_cast-result c =
    let t = position-told _ (passed c.is_position.ensures c.if-not-is_position.false) in
    omega (arith, label_small _ t.0 t.1, c.first_label.ensures)

pub returns : goal.returns
unfolding first_label_given
returns c = search rules
