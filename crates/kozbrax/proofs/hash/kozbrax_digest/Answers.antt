use native.Mathlib.Omega.{arith}
use borrow.Author.Rules.{rules}
use Rattle.kozbrax.specs.Hash.{hash_code}
use Rattle.kozbrax.specs.Tree.{digest_code, digest_left}
use Rattle.kozbrax.proofs.Ranges.{leaves-told, passed}
use Rattle.kozbrax.proofs.hash.kozbrax_digest.Goals as goal

pub returns-then-out-lt32 : goal.returns-then-out-lt32
unfolding digest_code digest_left
returns-then-out-lt32 c = search rules

pub returns-then-not-leaves_fit : goal.returns-then-not-leaves_fit
unfolding digest_code digest_left
returns-then-not-leaves_fit c = search rules

pub overflow_cast-count : goal.overflow_cast-count
overflow_cast-count c = omega (arith, leaves-told _ (passed c.leaves_fit.ensures c.if-not-leaves_fit.false))

pub returns : goal.returns
unfolding digest_code digest_left hash_code
returns c = search rules
