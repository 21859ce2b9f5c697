use Rattle.sha256.proofs.Parts.{absorbed}
use Rattle.std.proofs.Common.{refl}
use Rattle.sha256.proofs.stream.absorb.Goals as goal

pub returns : goal.returns
returns c =
    let args = c.args in
    let whole-blocks = c.whole_blocks-next.ensures in
    λ m h e t. absorbed m args.s.now _ _ _ _ h (whole-blocks m h e) refl c.put.ensures t
