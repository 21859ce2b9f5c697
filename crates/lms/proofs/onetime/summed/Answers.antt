use mathlib.Core.Path.{◌∙◌}
use borrow.Author.Rules.{rules}
use Rattle.sha256.proofs.Laws.{filled_twice}
use Rattle.lms.proofs.onetime.summed.Goals as goal

pub returns : goal.returns
returns c =
    let args = c.args in
    let put = c.put.ensures in
    let checksum = c.checksum.ensures in
    filled_twice _ args.s _ _ _ 32 (search rules) (search rules) put c.put-2.ensures ∙ rw checksum
