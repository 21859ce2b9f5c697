use Rattle.script.specs.Line.{command_of}
use Rattle.script.proofs.parse.Goals as goal

pub returns : goal.returns
unfolding command_of
returns c =
    let find-0 = c.find-size.ensures.0 in
    let the-front = c.front.ensures in
    let of_word = c.of_word-form.ensures in
    let numbers-at = c.numbers_at-n.ensures in
    let the_end = c.end.ensures in
    let skip-blanks = c.skip_blanks-text.ensures in
    rw (c.fault_of-fault.ensures, c.from.ensures, skip-blanks, the_end, numbers-at, of_word, the-front, find-0)
