use Rattle.std.proofs.Common.{◌≡◌, length, refl, arith, length-set}
use Rattle.sha256.proofs.Numbers.{copy_more}
use lib.Seq.{paste-zero}
use Rattle.sha256.proofs.bytes.copy.Goals as goal

pub loop-j-init : goal.loop-j-init
loop-j-init c = record { long = refl; done = paste-zero c.args.d.now c.args.at c.args.src.now }

pub loop-j-preserved : goal.loop-j-preserved
loop-j-preserved c =
    let pre = c.requires in
    let args = c.args in
    let a = c.loop-j in record {
      long = simp length-set a.invariant.long;
      done = copy_more args.d.now a.d args.at args.src.now a.j (omega (arith, pre)) (omega arith) a.invariant.done;
    }

pub returns : goal.returns
returns c = let a = c.loop-j in let n : a.j ≡ length c.args.src.now = omega arith in rw n at a.invariant.done
