use Rattle.owner_map.proofs.Digits.{cut_more, cut_last}
use Rattle.owner_map.proofs.rows.digits.Goals as goal

pub loop-rest-preserved : goal.loop-rest-preserved
loop-rest-preserved c = (cut_more _ _ _ _ c.loop-rest.invariant c.loop-rest-test.true).1

pub returns-clause-digits : goal.returns-clause-digits
returns-clause-digits c = cut_last _ _ _ _ c.loop-rest.invariant c.loop-rest-test.false
