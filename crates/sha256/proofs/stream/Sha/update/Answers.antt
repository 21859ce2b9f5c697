use Rattle.sha256.proofs.Parts.{took_part, took_more}
use Rattle.sha256.specs.Block.{compress}
use Rattle.std.proofs.Common.{sym, refl, ap, ◌∙◌, arith, length-take-le}
use Rattle.sha256.proofs.stream.Sha.update.Goals as goal

pub returns-then-more-at : goal.returns-then-more-at
returns-then-more-at c =
    let args = c.args in
    λ m e. took_part args.self m e args.more.now _ _ (omega arith) c.put.ensures refl

pub slice_bounds-put-end-3 : goal.slice_bounds-put-end-3
slice_bounds-put-end-3 c = sym (length-take-le _ _ (omega arith))

pub returns : goal.returns
returns c =
    let args = c.args in
    let put2 = c.put-2.ensures in
    let the-compress = c.compress-next.ensures in
    λ m e. took_more args.self m e args.more.now _ _ _ _ _ (omega arith) put2
    (the-compress ∙ ap (compress args.self.state) c.words_of.ensures) refl refl c.absorb.ensures
