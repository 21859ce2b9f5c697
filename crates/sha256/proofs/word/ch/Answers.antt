use Rattle.std.proofs.Common.{rules}
use Rattle.sha256.proofs.Choose.{ch_by_three}
use Rattle.sha256.proofs.word.ch.Goals as goal

pub returns : goal.returns
returns c = ch_by_three _ _ _ (search rules) (search rules) (search rules)
