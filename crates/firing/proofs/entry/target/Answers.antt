use mathlib.Core.Path.{◌∙◌}
use Rattle.firing.specs.Entry.{target_of}
use Rattle.firing.proofs.entry.target.Goals as goal

pub returns-then-is_strike : goal.returns-then-is_strike
unfolding target_of
returns-then-is_strike c = c.u32_at.ensures ∙ rw (← c.is_strike.ensures, c.if-is_strike.true)

pub returns-else-is_strike : goal.returns-else-is_strike
unfolding target_of
returns-else-is_strike c = rw (← c.is_strike.ensures, c.if-is_strike.false)
