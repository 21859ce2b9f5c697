use Rattle.user_list.proofs.Lists.{listed_by_length}
use Rattle.user_list.specs.Users.{user_count, is_listed}
use Rattle.user_list.proofs.is_listed.Goals as goal

pub returns : goal.returns
unfolding is_listed user_count
returns c = rw (listed_by_length _ _)
