use Rattle.owner_map.proofs.Digits.{cell-laid}
use Rattle.owner_map.proofs.rows.append_number.Goals as goal

pub returns : goal.returns
returns c =
    let d = c.digits-first in
    cell-laid _ _ _ _ _ _ _ d.array_long d.ensures.within d.ensures.digits (rw c.from.ensures at c.put2.ensures)
