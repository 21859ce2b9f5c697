use Rattle.sha256.proofs.Blocks.{hash_value-append, next-whole-block, words-in_chunk}
use Rattle.sha256.specs.Block.{compress}
use Rattle.std.proofs.Common.{◌≡◌, ◌+◌, ◌*◌, ◌/◌, length, sym, ap, ◌∙◌, add-zero, arith}
use Rattle.sha256.proofs.value.whole_blocks.Goals as goal

pub loop-block-init : goal.loop-block-init
loop-block-init c = λ m h e. e ∙ rw add-zero (sym (hash_value-append (length m / 64) m _ (omega arith)))

pub loop-block-preserved : goal.loop-block-preserved
loop-block-preserved c =
    λ m h e. let a = c.loop-block in
    let s = c.args.s.now in
    let i = a.block-index in
    let next : 64 * i + 64 ≡ 64 * (i + 1) = omega arith in
    rw (← next)
    (next-whole-block m s a.state _ (64 * i) h (omega arith) (a.invariant m h e)
    (c.compress-next.ensures ∙ ap (compress a.state) (c.words_of.ensures
    ∙ rw c.as_chunks.ensures.front (words-in_chunk (length s / 64) i s (omega arith) (omega arith)))))
