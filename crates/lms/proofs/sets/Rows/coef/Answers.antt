use mathlib.Core.Path.{◌∙◌}
use native.Mathlib.Omega.{arith}
use Rattle.lms.proofs.Rows.{width_most}
use Rattle.lms.proofs.Digits.{coef-is, coef-most}
use Rattle.lms.proofs.sets.Rows.coef.Goals as goal

pub returns-clause-value : goal.returns-clause-value
returns-clause-value c =
    let a = c.args in
    coef-is a.s.now a.i a.self.now.ots.w c.from-b.result (width_most a.self.now.ots a.self.now.is_row)
    (c.from-b.ensures ∙ c.byte_at.ensures)

pub returns-clause-most : goal.returns-clause-most
returns-clause-most c =
    let a = c.args in
    let is =
    coef-is a.s.now a.i a.self.now.ots.w c.from-b.result (width_most a.self.now.ots a.self.now.is_row)
    (c.from-b.ensures ∙ c.byte_at.ensures) in
    omega (arith, is, coef-most a.s.now a.i a.self.now.ots.w)
