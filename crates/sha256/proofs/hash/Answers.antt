use Rattle.sha256.proofs.Parts.{first, value_of_slice, rest_of_slice}
use Rattle.std.proofs.Common.{[], refl, ◌∙◌, rules}
use Rattle.sha256.proofs.hash.Goals as goal

pub returns : goal.returns
returns c =
    let args = c.args in
    let initial = c.initial.ensures in
    let whole-blocks = c.whole_blocks-state.ensures in
    c.close.ensures args.message.now (value_of_slice args.message.now _ (whole-blocks [] refl (initial ∙ first)))
    (rest_of_slice args.message.now _ refl) (search rules)
