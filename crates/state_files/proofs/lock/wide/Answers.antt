use Rattle.std.proofs.Common.{ℤ, sym, ap, ◌∙◌, subst, to_z-of_z, w64, SFits, to_z, of_z}
use mir.Facts.{sfits_widen}
use Rattle.state_files.proofs.lock.wide.Goals as goal

pub overflow_cast-result : goal.overflow_cast-result
overflow_cast-result c = let f = c.ranges.n in subst (SFits w64) (sym (to_z-of_z f)) (sfits_widen tt f)

pub returns : goal.returns
returns c =
    let f = c.ranges.n in
    ap (λ (y : ℤ). to_z w64 (of_z w64 y)) (to_z-of_z f) ∙ to_z-of_z {w = w64} (sfits_widen tt f)
