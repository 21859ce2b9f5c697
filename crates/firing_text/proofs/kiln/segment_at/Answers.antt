use Rattle.firing_text.proofs.kiln.segment_at.Goals as goal

pub returns : goal.returns
returns c = rw (c.first.ensures, c.from.ensures)
