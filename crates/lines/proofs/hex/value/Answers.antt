use native.Mathlib.Omega.{arith}
use Rattle.lines.specs.Hexadecimal.{digit_value}
use Rattle.lines.proofs.Decoding.{within}
use Rattle.lines.proofs.hex.value.Goals as goal

pub overflow_sub-result : goal.overflow_sub-result
overflow_sub-result c = omega (arith, within 48 57 c.args.digit c.if-digit.true)

pub returns-then-digit : goal.returns-then-digit
unfolding digit_value
returns-then-digit c = (rw c.if-digit.true, omega (arith, within 48 57 c.args.digit c.if-digit.true))

pub returns-then-digit-2 : goal.returns-then-digit-2
unfolding digit_value
returns-then-digit-2 c = (rw (c.if-digit.false, c.if-digit-2.true), omega (arith, within 97 102 c.args.digit c.if-digit-2.true))

pub returns : goal.returns
unfolding digit_value
returns c = (rw (c.if-digit.false, c.if-digit-2.false), omega arith)
