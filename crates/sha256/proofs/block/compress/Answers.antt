use Rattle.sha256.proofs.Window.{window-first, turn_rounds, turn_window, compressed}
use Rattle.sha256.specs.Block.{rounds}
use Rattle.sha256.specs.Constants.{K}
use Rattle.std.proofs.Common.{◌≡◌, ◌+◌, ◌*◌, refl, ◌∙◌, arith, rules}
use Rattle.sha256.proofs.block.compress.Goals as goal
use Rattle.sha256.proofs.block.compress.Goals.{then-group-lt3, else-group-lt3}

pub loop-group-init : goal.loop-group-init
unfolding rounds
loop-group-init c = record { variables = refl; words = λ g. window-first _ (search rules) }

pub loop-group-preserved : goal.loop-group-preserved
unfolding K
loop-group-preserved c =
    let a = c.loop-group in
    let words = a.invariant.words (omega arith) in
    let next : 16 * (a.group + 1) ≡ 16 * a.group + 16 = omega arith in record {
      variables = rw next (turn_rounds _ _ a.w a.v _ (16 * a.group) (omega arith) words a.invariant.variables
          c.sixteen_rounds-variables.ensures);
      words = λ g. elim c.if-group-lt3.branch [
        | then-group-lt3 w ↦ w.w-is ∙ rw next (turn_window _ a.w _ (16 * a.group) words w.next_sixteen-words.ensures)
        | else-group-lt3 w ↦ absurd (omega (arith, w.if-group-lt3.false))
      ];
    }

pub returns : goal.returns
returns c =
    let a = c.loop-group in
    let n : 16 * a.group ≡ 64 = omega arith in compressed _ _ a.v _ (rw n at a.invariant.variables) c.sums.ensures
