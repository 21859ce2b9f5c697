use Prim.Native.Nat.{ℕ}
use native.Mathlib.Omega.{arith}
use mir.Syntax.{w8}
use mir.Val.{Fits}
use lib.ListN.{get_or}
use borrow.Author.Rules.{rules}
use Rattle.lms.proofs.Words.{prefix_in_words}
use Rattle.lms.proofs.place.Place.prefix_words.Goals as goal

pub returns : goal.returns
returns c =
    let the-args = c.args in
    let f : (j : ℕ) → Fits w8 (get_or the-args.self.id j 0) = λ j. search rules in
    rw c.from.ensures (prefix_in_words the-args.self.id c.words-w.result the-args.self.number the-args.i (λ j. omega (arith, f j))
    (search rules) c.words-w.ensures (omega arith))
