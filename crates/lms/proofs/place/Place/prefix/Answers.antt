use borrow.Author.Rules.{rules}
use Rattle.lms.proofs.Writing.{prefix-laid}
use Rattle.lms.proofs.place.Place.prefix.Goals as goal

pub returns : goal.returns
returns c =
    let put = c.put.ensures in
    let be4 = c.be4.ensures in
    let put2 = c.put-2.ensures in
    let be2 = c.be2.ensures in
    let the-args = c.args in
    prefix-laid the-args.self.id _ _ _ _ _ _ the-args.self.number the-args.d (search rules) (search rules) put be4 put2 be2
    c.put-3.ensures
