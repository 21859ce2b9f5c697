use Rattle.lms.proofs.ByType.{ots_three, lms_six}
use Rattle.programs.specs.Key.{keys_with, tree_of, public_of}
use Rattle.programs.proofs.key.make.Goals as goal

pub returns : goal.returns
unfolding keys_with tree_of public_of
returns c =
    let blank-tree = c.blank_tree-tree.ensures in
    let blank-key = c.blank_key-public.ensures in
    let generate-1 = c.generate.ensures.1 in
    let public-key-1 = c.public_key.ensures.1 in
    let before2-0 = c.before-2.ensures.0 in
    let the-put = c.put.ensures in
    let tree-at = c.tree_at.ensures.0 in
    let put2 = c.put-2.ensures in
    rw (put2, tree-at, the-put, before2-0, public-key-1, generate-1, blank-key, blank-tree, ots_three, lms_six)
