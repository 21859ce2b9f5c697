use borrow.Author.Rules.{rules}
use Rattle.programs.proofs.key.of_two.Goals as goal

pub returns : goal.returns
returns c =
    let memory-1 = c.memory-keys.ensures.1 in
    let the_make = c.make.ensures in
    (search rules, rw (c.make-2.ensures, the_make, memory-1))
