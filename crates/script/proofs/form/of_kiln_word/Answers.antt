use Rattle.script.specs.Form.{kiln_form_of}
use Rattle.script.proofs.form.of_kiln_word.Goals as goal

pub returns : goal.returns
unfolding kiln_form_of
returns c =
    let the-user = c.user-a.ensures in
    let user2 = c.user.ensures in
    let the-named = c.named-b.ensures in
    let user3 = c.user-2.ensures in
    let named2 = c.named-c.ensures in
    let user4 = c.user-3.ensures in
    let named3 = c.named-d.ensures in
    rw (c.named.ensures, c.user-4.ensures, named3, user4, named2, user3, the-named, user2, the-user)
