-- What is read of a line, case by case.
use mathlib.Core.Path.{◌≡◌, refl, ◌∙◌}
use mathlib.Core.Bool.{true, false, cond}
use mathlib.Core.List.{List, [], ◌∷◌}
use Prim.Native.Nat.{ℕ, suc, ◌≤◌, ◌<◌}
use native.Mathlib.Omega.{arith}
use lib.Dec.{eqb}
use lib.ListN.{length, drop, get_or, drop_of_length-le, length-drop}
use lib.Seq.{drop-cons}
use Rattle.sha256.proofs.Cases.{by_bool}
use Rattle.lines.specs.Text.{is_blank, run, past, digits_at, after_blanks}
use Rattle.lines.specs.declared.Digits.{Digits}
use Rattle.script.specs.Number.{ends_before, whole_number}
use Rattle.script.specs.Line.{says_nothing, is_idle}

-- a number that ends with the line
pub ends-line : (line : List ℕ) (at : ℕ) (d : Digits) → d ≡ digits_at line at → length line ≤ d.next → d ≡ whole_number line at
unfolding whole_number ends_before
ends-line line at d e h = rw (← e, drop_of_length-le line {i = d.next} h)

blank_first : (s : List ℕ) → 0 < run is_blank s → ends_before s ≡ true
unfolding run ends_before
blank_first [] h = refl
blank_first (b ∷ s) h =
    by_bool (λ t. 0 < cond t (suc (run is_blank s)) 0 → t ≡ true) (is_blank b) (λ _ _. refl) (λ _ g. absurd (omega arith)) h

-- a number that a blank follows
pub ends-word : (line : List ℕ) (at : ℕ) (d : Digits) → d ≡ digits_at line at → d.next < after_blanks line d.next → d ≡ whole_number line at
unfolding whole_number after_blanks
ends-word line at d e h = rw (← e, blank_first (drop d.next line) (omega arith))

no_blank : (s : List ℕ) → 0 < length s → run is_blank s ≤ 0 → ends_before s ≡ false
unfolding run ends_before
no_blank [] l h = absurd (omega arith)
no_blank (b ∷ s) l h =
    by_bool (λ t. cond t (suc (run is_blank s)) 0 ≤ 0 → t ≡ false) (is_blank b) (λ _ g. absurd (omega arith)) (λ _ _. refl) h

-- one that something else follows
pub goes_on_lem : (line : List ℕ) (at : ℕ) (d : Digits) → d ≡ digits_at line at → d.next < length line
    → after_blanks line d.next ≤ d.next → record { value = 0; found = false; next = d.next } ≡ whole_number line at
unfolding whole_number after_blanks
goes_on_lem line at d e l h =
    let f : 0 < length (drop d.next line) = rw length-drop (omega arith) in
    rw (← e, no_blank (drop d.next line) f (omega arith))

-- a line of blanks, and one of which more is there
pub blank_line : (line : List ℕ) (at : ℕ) → at ≡ after_blanks line 0 → length line ≤ at → true ≡ is_idle line
unfolding is_idle says_nothing past after_blanks
blank_line line at e h = let g : at ≡ run is_blank line = e ∙ omega arith in rw (← g, drop_of_length-le line {i = at} h)

pub first_byte : (line : List ℕ) (at b : ℕ) → at ≡ after_blanks line 0 → at < length line → b ≡ get_or line at 0
    → eqb b 35 ≡ is_idle line
unfolding is_idle says_nothing past after_blanks
first_byte line at b e h d = let g : at ≡ run is_blank line = e ∙ omega arith in rw (← g, drop-cons line at 0 h, d)
