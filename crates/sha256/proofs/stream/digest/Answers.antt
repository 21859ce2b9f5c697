use Rattle.sha256.proofs.Laws.{written-length}
use Rattle.sha256.proofs.Words.{bytes_more}
use Rattle.sha256.specs.Hash.{bytes}
use Rattle.std.proofs.Common.{◌≡◌, length, sym, refl, ap, ◌∙◌, arith, take_all, rules}
use Rattle.sha256.proofs.stream.digest.Goals as goal

pub loop-i-init : goal.loop-i-init
unfolding bytes
loop-i-init c = record { whole = refl; written = refl }

pub loop-i-preserved : goal.loop-i-preserved
loop-i-preserved c =
    let a = c.loop-i in
    let l : length a.out ≡ 32 = a.invariant.whole in
    let n : length c.args.h ≡ 8 = search rules in record {
      whole = ap length c.put.ensures ∙ written-length a.out _ _ ∙ l;
      written = rw c.put.ensures (bytes_more c.args.h a.out _ a.i (omega arith) (omega arith) a.invariant.written c.be4.ensures);
    }

pub returns : goal.returns
returns c =
    let a = c.loop-i in
    let h = c.args.h in
    let n : length h ≡ 8 = search rules in
    let l : length a.out ≡ 32 = a.invariant.whole in
    let e : a.i ≡ 8 = omega arith in
    sym (take_all 32 a.out (omega arith)) ∙ (rw e at a.invariant.written) ∙ ap bytes (take_all 8 h (omega arith))
