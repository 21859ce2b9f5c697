-- What only inner contracts cite.
use Rattle.std.specs.Prelude.{cond, List, [], ◌∷◌, ℕ, eqb}

-- Where the run of windows that begins at minute `after`, each where the one before ends, comes to its end.
unfoldable pub first_closed : ℕ → List ℕ → ℕ
first_closed after [] = after
first_closed after (first ∷ []) = after
first_closed after (first ∷ end ∷ rest) = cond (eqb first after) (first_closed end rest) after
