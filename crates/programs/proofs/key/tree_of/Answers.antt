use Rattle.programs.proofs.key.tree_of.Goals as goal

pub returns : goal.returns
returns c = rw (c.from.ensures, c.tree_at.ensures.0)
