use borrow.Author.Tests.{eq-eqb, ne_eqb}
use Rattle.exchange.specs.UserPlace.{last_start}
use Rattle.exchange.proofs.user_place.last_start.Goals as goal

pub returns-then-kind-eq0 : goal.returns-then-kind-eq0
unfolding last_start
returns-then-kind-eq0 c = rw (c.byte_at.ensures, eq-eqb c.args.kind 0 c.if-kind-eq0.true)

pub returns : goal.returns
unfolding last_start
returns c = rw (ne_eqb c.args.kind 0 c.if-kind-eq0.false)
