use Rattle.std.proofs.Common.{◌≡◌, sym, refl, ◌∙◌, arith, length-set, take_all}
use Rattle.sha256.proofs.Words.{words_more}
use Rattle.sha256.specs.Hash.{words}
use Rattle.sha256.proofs.block.words_of.Goals as goal

pub loop-t-init : goal.loop-t-init
unfolding words
loop-t-init c = record { long = refl; done = refl }

pub loop-t-preserved : goal.loop-t-preserved
loop-t-preserved c =
    let a = c.loop-t in record {
      long = simp length-set a.invariant.long;
      done = words_more c.args.block.now a.w a.t _ (omega arith) a.invariant.done c.u32_at.ensures;
    }

pub returns : goal.returns
returns c =
    let a = c.loop-t in
    let e : a.t ≡ 16 = omega arith in sym (take_all 16 a.w (omega arith)) ∙ rw e at a.invariant.done
