use mathlib.Core.Path.{◌∙◌, sym}
use Rattle.script.proofs.form.named.Goals as goal

pub returns-then-same : goal.returns-then-same
returns-then-same c = rw (sym c.same.ensures ∙ c.if-same.true)

pub returns : goal.returns
returns c = rw (sym c.same.ensures ∙ c.if-same.false)
