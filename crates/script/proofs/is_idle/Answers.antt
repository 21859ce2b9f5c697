use Rattle.script.proofs.Lines.{blank_line, first_byte}
use Rattle.script.proofs.is_idle.Goals as goal

pub returns-then-line-start : goal.returns-then-line-start
returns-then-line-start c = blank_line _ _ c.skip_blanks-start.ensures c.if-line-start.true

pub returns : goal.returns
returns c = first_byte _ _ _ c.skip_blanks-start.ensures c.if-line-start.false c.byte_at.ensures
