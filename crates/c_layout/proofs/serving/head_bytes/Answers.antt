use Rattle.std.proofs.Common.{rules}
use Rattle.c_layout.proofs.Heads.{head-laid}
use Rattle.c_layout.proofs.serving.head_bytes.Goals as goal

pub returns : goal.returns
returns c =
    head-laid _ _ _ _ _ (search rules) (search rules) c.place_bytes-first.ensures c.place_bytes-rest.ensures c.put2.ensures c.put.ensures
