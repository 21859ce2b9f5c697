use Rattle.user_list.specs.Users.{user_key}
use Rattle.user_list.proofs.key.Goals as goal

pub returns : goal.returns
unfolding user_key
returns c = rw (c.front.ensures, c.from.ensures, c.saturating_sub.ensures)
