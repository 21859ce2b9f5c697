-- Words read from bytes, and words written as bytes.
use Rattle.std.proofs.Common.{◌≡◌, ℕ, zero, suc, ◌+◌, ◌-◌, ◌*◌, ◌<◌, ◌≤◌, List, [], ◌∷◌, ◌++◌, length, get_or, take, drop, set, refl, ap, ◌∙◌, append_assoc, append-nil, add-suc, add-one, arith, length-append, length-take-le, get_or-drop, take-suc, take-suc-set, take_at, get_or-append-add}
use lib.ListN.{get_or-append}
use Rattle.sha256.specs.Bytes.{be, number_at, written}
use Rattle.sha256.specs.Hash.{words, bytes}
use Rattle.sha256.proofs.Laws.{be-length, be-bytes, written-fits}
use Rattle.sha256.proofs.Cases.{cases_lt}

-- a number is read past what is dropped
pub number-drop : (k : ℕ) (s : List ℕ) (i j : ℕ) → number_at k (drop i s) j ≡ number_at k s (i + j)
unfolding number_at
number-drop zero s i j = refl
number-drop (suc k) s i j = rw (get_or-drop i s j 0, number-drop k s i (suc j), add-suc)

words-suc : (t : ℕ) (s : List ℕ) → words (suc t) s ≡ words t s ++ (number_at 4 s (4 * t) ∷ [])
unfolding words
words-suc t s = refl

-- one more word, stored after the first t
pub words_more : (s w : List ℕ) (t x : ℕ) → t < length w → take t w ≡ words t s → x ≡ number_at 4 s (4 * t)
    → take (t + 1) (set w t x) ≡ words (t + 1) s
words_more s w t x h e ex = rw (add-one, take-suc-set, e, words-suc, ex)

pub words-length : (n : ℕ) (s : List ℕ) → length (words n s) ≡ n
unfolding words
words-length zero s = refl
words-length (suc n) s = length-append (words n s) (number_at 4 s (4 * n) ∷ []) ∙ omega (arith, words-length n s)

pub bytes-append : (xs ys : List ℕ) → bytes (xs ++ ys) ≡ bytes xs ++ bytes ys
unfolding bytes
bytes-append [] ys = refl
bytes-append (x ∷ xs) ys = rw (bytes-append xs ys, append_assoc)

bytes_one : (x : ℕ) → bytes (x ∷ []) ≡ be 4 x
unfolding bytes
bytes_one x = append-nil (be 4 x)

pub bytes-length : (xs : List ℕ) → length (bytes xs) ≡ 4 * length xs
unfolding bytes
bytes-length [] = refl
bytes-length (x ∷ xs) = length-append (be 4 x) (bytes xs) ∙ omega (arith, be-length 4 x, bytes-length xs)

-- bytes x written after those that are done
pub written_next : (d f x : List ℕ) (at : ℕ) → at + length x ≤ length d → take at d ≡ f → take (at + length x) (written d at x) ≡ f ++ x
written_next d f x at h e =
    let l : length (take at d ++ x) ≡ at + length x =
    length-append (take at d) x ∙ omega (arith, length-take-le at d (omega arith)) in
    rw (written-fits d at x h) (take_at (take at d ++ x) (drop (at + length x) d) (at + length x) l ∙ rw e)

-- one more word's bytes, written after those of the words before it
pub bytes_more : (h out b : List ℕ) (i : ℕ) → i < length h → 4 * i + 4 ≤ length out → take (4 * i) out ≡ bytes (take i h)
    → b ≡ be 4 (get_or h i 0) → take (4 * (i + 1)) (written out (4 * i) b) ≡ bytes (take (i + 1) h)
bytes_more h out b i in-h fits e eb =
    let lb : length b ≡ 4 = ap length eb ∙ be-length 4 (get_or h i 0) in
    let n : 4 * (i + 1) ≡ 4 * i + length b = omega arith in
    rw (n, add-one, take-suc h i 0 in-h, bytes-append, bytes_one, ← eb) (written_next out (bytes (take i h)) b (4 * i) (omega arith) e)

-- each byte of words is below 256
pub bytes_below : (xs : List ℕ) (i : ℕ) → get_or (bytes xs) i 0 < 256
unfolding bytes
bytes_below [] i = omega arith
bytes_below (x ∷ xs) i =
    cases_lt i (length (be 4 x))
    (λ h. rw (get_or-append (be 4 x) (bytes xs) 0 i h) (be-bytes 4 x i))
    (λ h. let e : i ≡ length (be 4 x) + (i - length (be 4 x)) = omega arith in
    rw (e, get_or-append-add (be 4 x) (bytes xs) (i - length (be 4 x)) 0) (bytes_below xs (i - length (be 4 x))))
