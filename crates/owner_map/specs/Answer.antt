-- What the program `paths` prints.
use Rattle.std.specs.Prelude.{List, [], ◌∷◌, ℕ}
use Rattle.owner_map.specs.declared.input.Asked.{Asked}
use Rattle.owner_map.specs.Table.{table}

-- The table that is asked for, or `22` and a line end.
abbrev pub answer : Asked → List ℕ
answer (Asked.Table n last) = table n last
answer Asked.Refused = 50 ∷ 50 ∷ 10 ∷ []
