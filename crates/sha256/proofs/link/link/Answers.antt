use Rattle.sha256.proofs.OneBlock.{linked}
use Rattle.std.proofs.Common.{◌≡◌, length, rules}
use Rattle.sha256.proofs.link.link.Goals as goal

pub returns : goal.returns
returns c =
    let p = c.args.p in
    let x = c.args.x in
    let lp : length p ≡ 6 = search rules in
    let lx : length x ≡ 8 = search rules in
    linked p x c.args.j lp lx c.whole.ensures c.whole-2.ensures c.whole-3.ensures c.whole-4.ensures c.whole-5.ensures
    c.numbered.ensures c.join.ensures c.join-2.ensures c.join-3.ensures c.join-4.ensures c.join-5.ensures c.join-6.ensures
    c.join-7.ensures c.join-8.ensures _ _ c.initial.ensures c.compress.ensures
