-- Big-endian numbers of two, four and eight bytes, written out as the functions compute them.
use Rattle.std.proofs.Common.{◌≡◌, ℕ, suc, ◌+◌, ◌-◌, ◌*◌, ◌/◌, ◌%◌, ◌<◌, ◌≤◌, List, [], ◌∷◌, ◌++◌, length, get_or, take, drop, set, sym, ap, ◌∙◌, add-zero, div-one, add-one, arith, length-drop, drop_of_length-le, get_or-drop, take_all}
use lib.Seq.{take-length, drop-length, paste, paste-suc}
use Rattle.sha256.specs.Bytes.{be, number_at, written}
use Rattle.sha256.proofs.Laws.{written-fits}

pub be-two : (x : ℕ) → be 2 x ≡ x / 256 % 256 ∷ x % 256 ∷ []
unfolding be
be-two x = rw div-one

pub be_four : (x : ℕ) → be 4 x ≡ x / 16777216 % 256 ∷ x / 65536 % 256 ∷ x / 256 % 256 ∷ x % 256 ∷ []
unfolding be
be_four x = rw div-one

pub be_eight : (x : ℕ) → be 8 x ≡ x / 72057594037927936 % 256 ∷ x / 281474976710656 % 256 ∷ x / 1099511627776 % 256
    ∷ x / 4294967296 % 256 ∷ x / 16777216 % 256 ∷ x / 65536 % 256 ∷ x / 256 % 256 ∷ x % 256 ∷ []
unfolding be
be_eight x = rw div-one

pub number-two : (s : List ℕ) (i : ℕ) → number_at 2 s i ≡ get_or s i 0 * 256 + get_or s (i + 1) 0
unfolding number_at
number-two s i = rw add-one (omega arith)

pub number_four : (s : List ℕ) (i : ℕ)
    → number_at 4 s i ≡ get_or s i 0 * 16777216 + get_or s (i + 1) 0 * 65536 + get_or s (i + 2) 0 * 256 + get_or s (i + 3) 0
unfolding number_at
number_four s i =
    let one : i + 1 ≡ suc i = omega arith in
    let two : i + 2 ≡ suc (suc i) = omega arith in
    let three : i + 3 ≡ suc (suc (suc i)) = omega arith in
    rw (one, two, three) (omega arith)

-- the copying loop's result is what the definition says is written
pub copied : (d : List ℕ) (at : ℕ) (s : List ℕ) → at + length s ≤ length d → paste d at s (length s) ≡ written d at s
copied d at s h = ap (λ (x : List ℕ). take at d ++ x ++ drop (at + length s) d) (take-length s) ∙ sym (written-fits d at s h)

-- one turn of the copying loop
pub copy_more : (d e : List ℕ) (at : ℕ) (s : List ℕ) (j : ℕ) → at + j < length d → j < length s → e ≡ paste d at s j
    → set e (at + j) (get_or s j 0) ≡ paste d at s (j + 1)
copy_more d e at s j h g p = rw (p, add-one) (paste-suc d at s j 0 h g)

-- a part from place n to the end is what is left after n, also where n is past the end
pub rest-is : (n : ℕ) (s : List ℕ) → take (length s - n) (drop n s) ≡ drop n s
rest-is n s = take_all (length s - n) (drop n s) (simp length-drop (omega arith))

pub none_left : (n : ℕ) (s : List ℕ) → length s < n → take (length s - length s) (drop (length s) s) ≡ drop n s
none_left n s h = rest-is (length s) s ∙ drop-length s ∙ sym (drop_of_length-le s {i = n} (omega arith))

-- reading at i is reading at the front of what is left after i
pub number-two-from : (s : List ℕ) (i : ℕ) → get_or (drop i s) 0 0 * 256 + get_or (drop i s) 1 0 ≡ number_at 2 s i
number-two-from s i = rw (get_or-drop i s 0 0, get_or-drop i s 1 0, add-zero) (sym (number-two s i))

pub number_four_from : (s : List ℕ) (i : ℕ)
    → get_or (drop i s) 0 0 * 16777216 + get_or (drop i s) 1 0 * 65536 + get_or (drop i s) 2 0 * 256 + get_or (drop i s) 3 0 ≡ number_at 4 s i
number_four_from s i =
    rw (get_or-drop i s 0 0, get_or-drop i s 1 0, get_or-drop i s 2 0, get_or-drop i s 3 0, add-zero) (sym (number_four s i))
