use Rattle.std.proofs.Common.{sym, ◌∙◌}
use Rattle.sha256.proofs.Numbers.{be_eight}
use Rattle.sha256.proofs.bytes.be8.Goals as goal

pub returns : goal.returns
returns c = c.to_be_bytes.ensures ∙ sym (be_eight _)
