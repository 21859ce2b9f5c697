use Rattle.script.specs.Form.{reading_form_of}
use Rattle.script.proofs.form.of_reading_word.Goals as goal

pub returns : goal.returns
unfolding reading_form_of
returns c =
    rw (
      c.named.ensures,
      c.user-5.ensures,
      c.named-e.ensures,
      c.user-4.ensures,
      c.named-d.ensures,
      c.user-3.ensures,
      c.named-c.ensures,
      c.user-2.ensures,
      c.named-b.ensures,
      c.user.ensures,
      c.of_giving_word-a.ensures,
    )
