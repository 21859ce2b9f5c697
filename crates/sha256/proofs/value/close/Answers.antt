use Rattle.std.proofs.Common.{◌≡◌, ℕ, ◌-◌, ◌%◌, List, ◌∷◌, ◌++◌, length, set, replicate, ap, ◌∙◌, arith}
use Rattle.sha256.proofs.Parts.{marked-is, bits_are, finished_here, finished_next}
use Rattle.sha256.proofs.Blocks.{rest-length}
use Rattle.sha256.specs.Bytes.{written}
use Rattle.sha256.specs.Block.{compress}
use Rattle.sha256.specs.Inner.{rest as rest_of}
use Rattle.sha256.proofs.value.close.Goals as goal
use Rattle.sha256.proofs.value.close.Goals.{then-full, else-full}

pub returns : goal.returns
returns c =
    let state = c.args.state in
    let rest = c.args.rest.now in
    let bits = c.be8.result in
    λ m es er et. let lr : length rest ≡ length m % 64 = ap length er ∙ rest-length m in
    let marked : List ℕ = set c.put.new.d (length rest) 128 in
    let em : marked ≡ rest_of m ++ (128 ∷ replicate (63 - length m % 64) 0) = rw c.put.ensures (marked-is m rest er) in
    let digits = c.be8.ensures ∙ bits_are _ m et in
    elim c.if-full.branch [
      | then-full w ↦ finished_next m state marked es em bits digits _ _ c.digest.ensures _ _ (omega (arith, w.if-full.true))
          (w.compress-next.ensures ∙ ap (compress state) w.words_of.ensures)
          (c.put-2.ensures ∙ ap (λ (block : List ℕ). written block 56 bits) w.block-is)
          (c.compress.ensures ∙ rw (w.h-is, c.words_of-2.ensures))
      | else-full w ↦ finished_here m state marked es em bits digits _ _ c.digest.ensures _ (omega (arith, w.if-full.false))
          (c.put-2.ensures ∙ ap (λ (block : List ℕ). written block 56 bits) w.block-is)
          (c.compress.ensures ∙ rw (w.h-is, c.words_of-2.ensures))
    ]
