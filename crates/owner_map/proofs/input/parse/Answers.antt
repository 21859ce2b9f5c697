use Rattle.std.proofs.Common.{rules}
use Rattle.owner_map.proofs.Inputs.{refused, wanted}
use Rattle.owner_map.proofs.input.parse.Goals as goal

pub returns-then-wanted : goal.returns-then-wanted
returns-then-wanted c =
    wanted _ _ _ _ _ _ c.skip_blanks.ensures c.read_digits-first.ensures c.skip_blanks-2.ensures c.read_digits-second.ensures
    c.skip_blanks-end.ensures _ (rw c.in_range-fits.ensures) c.if-wanted.true

pub returns : goal.returns
returns c =
    refused _ _ _ _ _ _ c.skip_blanks.ensures c.read_digits-first.ensures c.skip_blanks-2.ensures c.read_digits-second.ensures
    c.skip_blanks-end.ensures _ (rw c.in_range-fits.ensures) c.if-wanted.false
