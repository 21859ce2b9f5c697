use Rattle.std.proofs.Common.{sym, ◌∙◌}
use Rattle.sha256.proofs.Numbers.{be_four}
use Rattle.sha256.proofs.bytes.be4.Goals as goal

pub returns : goal.returns
returns c = c.to_be_bytes.ensures ∙ sym (be_four _)
