use Rattle.state_files.proofs.Older.{is-whole-now, is-whole_as_older}
use Rattle.state_files.proofs.user_file.is_older.Goals as goal

pub returns-then-is_whole : goal.returns-then-is_whole
returns-then-is_whole c = is-whole-now _ _ c.is_whole.ensures c.if-is_whole.true

pub returns : goal.returns
returns c =
    let is_whole = c.is_whole.ensures in
    let if1-left = c.if-is_whole.false in
    is-whole_as_older _ _ is_whole _ _ if1-left c.front.ensures c.is_whole-2.ensures
