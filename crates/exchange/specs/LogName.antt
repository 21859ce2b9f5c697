-- The log of the programs.
use Rattle.std.specs.Prelude.{List, [], ◌∷◌, ℕ}

-- Its name: "firing log no. 1".
abbrev pub log_name : List ℕ
log_name = 102 ∷ 105 ∷ 114 ∷ 105 ∷ 110 ∷ 103 ∷ 32 ∷ 108 ∷ 111 ∷ 103 ∷ 32 ∷ 110 ∷ 111 ∷ 46 ∷ 32 ∷ 49 ∷ []
