-- What the commands of a script take: docs/STUDIO.md's table.
use Rattle.std.specs.Prelude.{cond, List, [], ◌∷◌, ℕ}
use Rattle.sha256.specs.Bytes.{eqs}
use Rattle.script.specs.declared.Word.{Word}
use Rattle.script.specs.declared.form.Rest.{Rest}
use Rattle.script.specs.declared.form.Form.{Form}

-- A command with so many numbers, the first from a least to a greatest one; the second, if it takes one, is a position.
unfoldable pub row : Word → ℕ → ℕ → ℕ → Rest → Form
row word numbers least most rest =
    record {
      word = word;
      numbers = numbers;
      first = record { least = least; most = most };
      second = record { least = 1; most = 1048576 };
      rest = rest;
    }

-- "cut U K TEXT: .. K of its requests, 0 to 98, are answered", and the same of a give-up.
unfoldable pub cut_row : Word → Rest → Form
cut_row word rest =
    record {
      word = word;
      numbers = 2;
      first = record { least = 1; most = 3 };
      second = record { least = 0; most = 98 };
      rest = rest;
    }

-- `fire`, `report`, `warm` and `begin`, in the bytes of their letters. A word that is none of the commands' takes no number.
unfoldable pub kiln_form_of : List ℕ → Form
kiln_form_of s =
    cond (eqs s (102 ∷ 105 ∷ 114 ∷ 101 ∷ [])) (row Word.Fire 1 1 3 Rest.Segments)
    (cond (eqs s (114 ∷ 101 ∷ 112 ∷ 111 ∷ 114 ∷ 116 ∷ [])) (row Word.Report 2 1 3 Rest.Nothing)
    (cond (eqs s (119 ∷ 97 ∷ 114 ∷ 109 ∷ [])) (row Word.Warm 4 1 3 Rest.Nothing)
    (cond (eqs s (98 ∷ 101 ∷ 103 ∷ 105 ∷ 110 ∷ [])) (row Word.Begin 3 1 3 Rest.Minutes)
    (row Word.Unknown 0 1 3 Rest.Nothing))))

-- `give-up` and `cut-give-up`.
unfoldable pub giving_form_of : List ℕ → Form
giving_form_of s =
    cond (eqs s (103 ∷ 105 ∷ 118 ∷ 101 ∷ 45 ∷ 117 ∷ 112 ∷ [])) (row Word.GiveUp 1 1 3 Rest.Nothing)
    (cond (eqs s (99 ∷ 117 ∷ 116 ∷ 45 ∷ 103 ∷ 105 ∷ 118 ∷ 101 ∷ 45 ∷ 117 ∷ 112 ∷ [])) (cut_row Word.CutGiveUp Rest.Nothing)
    (kiln_form_of s))

-- `update`, `board`, `strike`, `read` and `settled`.
unfoldable pub reading_form_of : List ℕ → Form
reading_form_of s =
    cond (eqs s (117 ∷ 112 ∷ 100 ∷ 97 ∷ 116 ∷ 101 ∷ [])) (row Word.Update 1 1 3 Rest.Nothing)
    (cond (eqs s (98 ∷ 111 ∷ 97 ∷ 114 ∷ 100 ∷ [])) (row Word.Board 1 1 3 Rest.Nothing)
    (cond (eqs s (115 ∷ 116 ∷ 114 ∷ 105 ∷ 107 ∷ 101 ∷ [])) (row Word.Strike 2 1 3 Rest.Nothing)
    (cond (eqs s (114 ∷ 101 ∷ 97 ∷ 100 ∷ [])) (row Word.Read 2 1 3 Rest.Nothing)
    (cond (eqs s (115 ∷ 101 ∷ 116 ∷ 116 ∷ 108 ∷ 101 ∷ 100 ∷ [])) (row Word.Settled 2 1 3 Rest.Nothing)
    (giving_form_of s)))))

-- `servers` and `fork`, whose number counts servers, and `write`, `cut` and `resume`, which take a text.
unfoldable pub form_of : List ℕ → ℕ → Form
form_of s servers =
    cond (eqs s (115 ∷ 101 ∷ 114 ∷ 118 ∷ 101 ∷ 114 ∷ 115 ∷ [])) (row Word.Servers 1 2 16 Rest.Nothing)
    (cond (eqs s (102 ∷ 111 ∷ 114 ∷ 107 ∷ [])) (row Word.Fork 1 1 servers Rest.Nothing)
    (cond (eqs s (119 ∷ 114 ∷ 105 ∷ 116 ∷ 101 ∷ [])) (row Word.Write 1 1 3 Rest.Text)
    (cond (eqs s (99 ∷ 117 ∷ 116 ∷ [])) (cut_row Word.Cut Rest.Text)
    (cond (eqs s (114 ∷ 101 ∷ 115 ∷ 117 ∷ 109 ∷ 101 ∷ [])) (row Word.Resume 1 1 3 Rest.Text)
    (reading_form_of s)))))
