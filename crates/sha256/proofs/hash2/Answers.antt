use Rattle.sha256.proofs.hash2.Goals as goal

pub returns : goal.returns
returns c = c.finish.ensures _ (c.update.ensures _ c.begin.ensures)
