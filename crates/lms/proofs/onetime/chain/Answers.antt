use mathlib.Core.Path.{◌≡◌, refl}
use native.Mathlib.Omega.{arith}
use Rattle.lms.specs.Ots.{chain}
use Rattle.lms.proofs.Chains.{chain_more}
use Rattle.lms.proofs.onetime.chain.Goals as goal

pub loop-j-init : goal.loop-j-init
unfolding chain
loop-j-init c = refl

pub loop-j-preserved : goal.loop-j-preserved
loop-j-preserved c = rw (chain_more, ← c.loop-j.invariant) c.link-next.ensures

pub returns : goal.returns
returns c = let e : c.loop-j.j ≡ c.args.k = omega arith in rw e at c.loop-j.invariant
