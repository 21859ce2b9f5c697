use Rattle.exchange.specs.ServerPlace.{head_laid}
use Rattle.exchange.proofs.Served.{be_four_mod}
use Rattle.exchange.proofs.server_place.keep.Goals as goal

pub returns : goal.returns
unfolding head_laid
returns c =
    let args = c.args in
    let the-put = c.put.ensures in
    let the-be4 = c.be4.ensures in
    let put2 = c.put-2.ensures in
    rw (put2, the-be4, the-put, be_four_mod args.used)
