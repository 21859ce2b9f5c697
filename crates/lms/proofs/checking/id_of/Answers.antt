use mathlib.Core.Path.{◌≡◌, ◌∙◌, ap}
use native.Mathlib.Omega.{arith}
use lib.Seq.{length-take-le}
use lib.ListN.{length, take, drop, length-drop}
use Rattle.sha256.proofs.Laws.{written-whole}
use Rattle.lms.proofs.checking.id_of.Goals as goal

pub returns : goal.returns
returns c =
    let the-pre = c.requires in
    let the-args = c.args in
    let e = c.front.ensures ∙ ap (take 16) c.from.ensures in
    let n : length (take 16 (drop 8 the-args.key.now)) ≡ 16 = length-take-le 16 (drop 8 the-args.key.now) (simp length-drop (omega (
      arith,
      the-pre,
    ))) in
    c.put.ensures ∙ rw e (written-whole _ (take 16 (drop 8 the-args.key.now)) n)
