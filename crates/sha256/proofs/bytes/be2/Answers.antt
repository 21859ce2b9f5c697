use Rattle.std.proofs.Common.{sym, ◌∙◌}
use Rattle.sha256.proofs.Numbers.{be-two}
use Rattle.sha256.proofs.bytes.be2.Goals as goal

pub returns : goal.returns
returns c = c.to_be_bytes.ensures ∙ sym (be-two _)
