use Rattle.lms.proofs.Rows.{width_most}
use mathlib.Core.Path.{◌≡◌, ◌∙◌, sym}
use native.Mathlib.Omega.{arith}
use Rattle.sha256.specs.Hash.{bytes}
use Rattle.lms.specs.Ots.{coef, digit, chain, secret, opened}
use Rattle.lms.specs.Types.{prefix, cat}
use Rattle.lms.proofs.Digits.{power_most}
use Rattle.lms.proofs.Chains.{chain_length, secret-length}
use Rattle.lms.proofs.Writing.{written_none, laid_more}
use Rattle.lms.proofs.signing.write_chains.Goals as goal

pub loop-i-init : goal.loop-i-init
unfolding cat
loop-i-init c = sym (written_none c.args.place.now c.args.at (omega (arith, c.requires)))

pub opened-y-requires : goal.opened-y-requires
opened-y-requires c =
    let rows = c.args.rows.now in omega (arith, power_most rows.ots.w (width_most rows.ots rows.is_row))

pub loop-i-preserved : goal.loop-i-preserved
loop-i-preserved c =
    let a = c.args in
    let o = a.rows.now.ots in
    let d = c.summed-d.result in
    let i = c.loop-i.i in
    laid_more a.place.now (λ j. chain (prefix a.key.id a.key.number j) 0 (coef d j o.w)
    (secret a.key.id (bytes a.seed) a.key.number j)) a.at i o.p _ c.loop-i.place _
    (λ j g. chain_length _ _ 0 (coef d j o.w) (secret-length a.key.id (bytes a.seed) a.key.number j)) (omega arith) c.requires
    c.loop-i.invariant (c.opened-y.ensures ∙ rw c.coef.ensures.value) c.put.ensures

pub returns : goal.returns
unfolding opened digit
returns c =
    let e : c.loop-i.i ≡ c.args.rows.now.ots.p = omega arith in rw (e, c.summed-d.ensures) at c.loop-i.invariant
