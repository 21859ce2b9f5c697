use Rattle.std.proofs.Common.{rules}
use Rattle.kozbrax.specs.Hash.{hash_code}
use Rattle.kozbrax.proofs.hash.give.Goals as goal

pub returns-then-out-lt32 : goal.returns-then-out-lt32
unfolding hash_code
returns-then-out-lt32 c = search rules

pub returns-else-out-lt32 : goal.returns-else-out-lt32
unfolding hash_code
returns-else-out-lt32 c = search rules
