use native.Mathlib.Omega.{arith}
use Rattle.lms.proofs.Rows.{width_most}
use Rattle.lms.proofs.Digits.{power_held, power_most}
use Rattle.lms.proofs.sets.Rows.last.Goals as goal

pub returns-clause-value : goal.returns-clause-value
returns-clause-value c = rw (power_held c.args.self.now.ots.w (width_most c.args.self.now.ots c.args.self.now.is_row))

pub returns-clause-most : goal.returns-clause-most
returns-clause-most c =
    let narrow = width_most c.args.self.now.ots c.args.self.now.is_row in
    omega (arith, power_held c.args.self.now.ots.w narrow, power_most c.args.self.now.ots.w narrow)
