use Rattle.std.proofs.Common.{◌≡◌, ℕ, List, [], ◌∷◌, eqb, refl, ◌∙◌}
use Rattle.std.specs.Cmp.Lexicographic.{pointwise}
use Rattle.sha256.specs.Bytes.{eqs}
use Rattle.sha256.proofs.bytes.same.Goals as goal

-- the test for sameness goes through both lists, element by element
eqs_pointwise : (s t : List ℕ) → pointwise eqb s t ≡ eqs s t
unfolding eqs
eqs_pointwise [] [] = refl
eqs_pointwise [] (y ∷ ys) = refl
eqs_pointwise (x ∷ xs) [] = refl
eqs_pointwise (x ∷ xs) (y ∷ ys) = rw (eqs_pointwise xs ys)

pub returns : goal.returns
returns c = c.eq.ensures ∙ eqs_pointwise _ _
