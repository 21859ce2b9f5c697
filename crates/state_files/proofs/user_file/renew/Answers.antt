use Rattle.state_files.proofs.Older.{user-stays, user-is_renewed}
use Rattle.state_files.specs.Older.{user_renewed, older_progress}
use Rattle.std.proofs.Common.{refl}
use Rattle.state_files.proofs.user_file.renew.Goals as goal

pub returns-then-not-is_older : goal.returns-then-not-is_older
returns-then-not-is_older c = user-stays _ _ c.is_older.ensures c.if-not-is_older.true

pub returns : goal.returns
unfolding user_renewed older_progress
returns c =
    let is-older = c.is_older.ensures in
    let if1-left = c.if-not-is_older.false in
    let the-from = c.from.ensures in
    let the-front = c.front.ensures in
    let the-put2 = c.put2.ensures in
    user-is_renewed _ _ is-older _ if1-left (rw (c.seal.ensures, the-put2, the-front, the-from) refl)
