use Rattle.sha256.proofs.Parts.{state-is, total-is, rest-kept}
use Rattle.std.proofs.Common.{◌%◌, length, ap, ◌∙◌, arith, length-take}
use Rattle.sha256.proofs.stream.Sha.finish.Goals as goal

pub close-requires : goal.close-requires
close-requires c =
    let args = c.args in
    omega (arith, ap length c.front.ensures, length-take (args.self.total % 64) args.self.block)

pub returns : goal.returns
returns c =
    let args = c.args in
    λ m e. c.close.ensures m (state-is args.self m e) (c.front.ensures ∙ rest-kept args.self m e)
    (total-is args.self m e)
