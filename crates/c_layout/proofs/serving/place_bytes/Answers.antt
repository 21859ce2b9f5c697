use Rattle.std.proofs.Common.{rules}
use Rattle.c_layout.proofs.Heads.{place-laid}
use Rattle.c_layout.proofs.serving.place_bytes.Goals as goal

pub returns : goal.returns
returns c = place-laid _ _ _ _ _ _ _ (search rules) (search rules) c.be4-p.ensures c.be2-a.ensures c.put2.ensures
