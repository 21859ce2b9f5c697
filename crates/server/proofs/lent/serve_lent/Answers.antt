use Rattle.std.proofs.Common.{ap}
use Rattle.server.specs.declared.Out.{Out}
use Rattle.server.specs.Inner.{reply_of}
use Rattle.server.proofs.lent.serve_lent.Goals as goal

pub returns : goal.returns
unfolding reply_of
returns c =
    let served = c.serve-out.ensures in
    (ap (λ (o : Out). reply_of o) served.0, (ap (λ (o : Out). o.head) served.0, served.1))
