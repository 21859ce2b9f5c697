use Rattle.sha256.proofs.Parts.{first}
use Rattle.std.proofs.Common.{[], refl, ◌∙◌, rules}
use Rattle.sha256.proofs.stream.Sha.begin.Goals as goal

pub returns : goal.returns
returns c = c.absorb.ensures [] refl (c.initial.ensures ∙ first) (search rules)
