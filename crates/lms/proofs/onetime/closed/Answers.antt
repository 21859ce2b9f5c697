use native.Mathlib.Omega.{arith}
use Rattle.lms.proofs.Words.{bytes-words}
use Rattle.lms.proofs.onetime.closed.Goals as goal

pub returns : goal.returns
returns c =
    let prefix-words = c.prefix_words.ensures in
    let words = c.words.ensures in
    let the-pre = c.requires in
    let the-args = c.args in
    let the-shared-slice-known = c.shared_slice_known-1 in
    let back = bytes-words 8 the-args.y.now (λ j. omega (arith, the-shared-slice-known.given j)) the-pre.1 in
    rw (c.digest.ensures, c.chain.ensures, prefix-words, words, back)
