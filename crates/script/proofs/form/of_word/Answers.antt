use Rattle.script.specs.Form.{form_of}
use Rattle.script.proofs.form.of_word.Goals as goal

pub returns : goal.returns
unfolding form_of
returns c =
    rw (
      c.named.ensures,
      c.named-e.ensures,
      c.named-d.ensures,
      c.user-2.ensures,
      c.named-c.ensures,
      c.cut.ensures,
      c.named-b.ensures,
      c.user.ensures,
      c.of_reading_word-a.ensures,
      c.row-one.ensures,
      c.row-all.ensures,
    )
