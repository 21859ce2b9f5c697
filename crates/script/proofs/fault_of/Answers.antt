use borrow.Author.Tests.{eq-eqb, ne_eqb}
use mathlib.Core.Path.{◌∙◌, sym}
use Rattle.script.specs.Line.{fault_of}
use Rattle.script.proofs.fault_of.Goals as goal

pub returns-then-form-eq0 : goal.returns-then-form-eq0
unfolding fault_of
returns-then-form-eq0 c = rw (eq-eqb _ 0 c.if-form-eq0.true)

pub returns-then-is_wrong : goal.returns-then-is_wrong
unfolding fault_of
returns-then-is_wrong c = rw (ne_eqb _ 0 c.if-form-eq0.false, sym c.is_wrong.ensures ∙ c.if-is_wrong.true)

pub returns-then-is_wrong-2 : goal.returns-then-is_wrong-2
unfolding fault_of
returns-then-is_wrong-2 c =
    let first = sym c.is_wrong.ensures ∙ c.if-is_wrong.false in
    rw (ne_eqb _ 0 c.if-form-eq0.false, first, sym c.is_wrong-2.ensures ∙ c.if-is_wrong-2.true)

pub returns-then-is_wrong-3 : goal.returns-then-is_wrong-3
unfolding fault_of
returns-then-is_wrong-3 c =
    let first = sym c.is_wrong.ensures ∙ c.if-is_wrong.false in
    let second = sym c.is_wrong-2.ensures ∙ c.if-is_wrong-2.false in
    let third = sym c.is_wrong-3.ensures ∙ c.if-is_wrong-3.true in
    rw (ne_eqb _ 0 c.if-form-eq0.false, first, second, ← c.two_bytes.ensures, third)

pub returns-then-is_wrong-4 : goal.returns-then-is_wrong-4
unfolding fault_of
returns-then-is_wrong-4 c =
    let first = sym c.is_wrong.ensures ∙ c.if-is_wrong.false in
    let second = sym c.is_wrong-2.ensures ∙ c.if-is_wrong-2.false in
    let third = sym c.is_wrong-3.ensures ∙ c.if-is_wrong-3.false in
    let fourth = sym c.is_wrong-4.ensures ∙ c.if-is_wrong-4.true in
    let two_bytes = c.two_bytes.ensures in
    rw (ne_eqb _ 0 c.if-form-eq0.false, first, second, ← two_bytes, third, two_bytes, ← c.two_bytes-2.ensures, fourth)

pub returns : goal.returns
unfolding fault_of
returns c =
    let first = sym c.is_wrong.ensures ∙ c.if-is_wrong.false in
    let second = sym c.is_wrong-2.ensures ∙ c.if-is_wrong-2.false in
    let third = sym c.is_wrong-3.ensures ∙ c.if-is_wrong-3.false in
    let fourth = sym c.is_wrong-4.ensures ∙ c.if-is_wrong-4.false in
    let two_bytes = c.two_bytes.ensures in
    rw (
      c.left_fault.ensures,
      ne_eqb _ 0 c.if-form-eq0.false,
      first,
      second,
      ← two_bytes,
      third,
      two_bytes,
      ← c.two_bytes-2.ensures,
      fourth,
    )
