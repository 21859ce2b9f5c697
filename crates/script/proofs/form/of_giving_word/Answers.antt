use Rattle.script.specs.Form.{giving_form_of}
use Rattle.script.proofs.form.of_giving_word.Goals as goal

pub returns : goal.returns
unfolding giving_form_of
returns c =
    let the-user = c.user-all.ensures in
    let the-cut = c.cut-some.ensures in
    let of-kiln-word = c.of_kiln_word-a.ensures in
    let the-named = c.named-b.ensures in
    rw (c.named.ensures, the-named, of-kiln-word, the-cut, the-user)
