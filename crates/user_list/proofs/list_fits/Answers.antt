use Rattle.std.proofs.Common.{rules}
use Rattle.user_list.specs.Users.{user_count, list_fits}
use Rattle.user_list.proofs.list_fits.Goals as goal

pub returns : goal.returns
unfolding list_fits user_count
returns c = search rules
