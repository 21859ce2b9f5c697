use Rattle.std.proofs.Common.{rules}
use Rattle.user_list.specs.Users.{group_fits}
use Rattle.user_list.proofs.group_fits.Goals as goal

pub returns : goal.returns
unfolding group_fits
returns c = rw c.list_fits.ensures (search rules)
