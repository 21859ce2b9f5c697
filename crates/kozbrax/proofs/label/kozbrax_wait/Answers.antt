use native.Mathlib.Omega.{arith}
use borrow.Author.Rules.{rules}
use Rattle.kozbrax.specs.Tree.{wait_given}
use Rattle.kozbrax.proofs.Ranges.{count-told, passed}
use Rattle.kozbrax.proofs.label.kozbrax_wait.Goals as goal
use Rattle.kozbrax.proofs.label.kozbrax_wait.Goals.{then-not-is_count-via-then-not-is_count}
use Rattle.kozbrax.proofs.label.kozbrax_wait.Goals.{then-not-is_count-via-else-not-is_count+then-not-is_position}

pub returns-then-not-is_count : goal.returns-then-not-is_count
unfolding wait_given
returns-then-not-is_count c =
    elim c.then-not-is_count.branch [
      | then-not-is_count-via-then-not-is_count w ↦ search rules
      | then-not-is_count-via-else-not-is_count+then-not-is_position w ↦ search rules
    ]

pub overflow_cast-servers : goal.overflow_cast-servers
overflow_cast-servers c = omega (arith, count-told _ (passed c.is_count.ensures c.if-not-is_count.false))

pub returns : goal.returns
unfolding wait_given
returns c = search rules
