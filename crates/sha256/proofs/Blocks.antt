-- How the hash value moves on by whole blocks, and what is left after them.
use Rattle.std.proofs.Common.{◌≡◌, ℕ, zero, suc, ◌+◌, ◌-◌, ◌*◌, ◌/◌, ◌%◌, ◌<◌, ◌≤◌, List, [], ◌∷◌, ◌++◌, length, get_or, take, drop, set, replicate, sym, refl, ap, ◌∙◌, arith, length-append, length-drop, drop_of_length-le, take-append-drop, length-take-le, drop-drop, take_at}
use Rattle.std.specs.Simd.{first_chunks}
use native.Mathlib.Nat.{sub-zero, zero-sub, suc-sub-suc}
use lib.ListN.{length-replicate, get_or-append}
use lib.Seq.{drop-append-le, drop-append-add, set_at}
use Rattle.sha256.specs.Bytes.{number_at, written}
use Rattle.sha256.specs.Block.{compress}
use Rattle.sha256.specs.Hash.{words, block, hash_value}
use Rattle.sha256.specs.Inner.{rest}
use Rattle.sha256.proofs.Laws.{written-fits}

-- what stands after the bytes that are read does not matter
number_append : (k : ℕ) (a x : List ℕ) (i : ℕ) → i + k ≤ length a → number_at k (a ++ x) i ≡ number_at k a i
unfolding number_at
number_append zero a x i h = refl
number_append (suc k) a x i h = rw (get_or-append a x 0 i (omega arith), number_append k a x (suc i) (omega arith))

words_append : (n : ℕ) (a x : List ℕ) → 4 * n ≤ length a → words n (a ++ x) ≡ words n a
unfolding words
words_append zero a x h = refl
words_append (suc n) a x h = rw (words_append n a x (omega arith), number_append 4 a x (4 * n) (omega arith))

pub hash_value-append : (i : ℕ) (m x : List ℕ) → 64 * i ≤ length m → hash_value i (m ++ x) ≡ hash_value i m
unfolding hash_value block
hash_value-append zero m x h = refl
hash_value-append (suc i) m x h =
    let d : drop (64 * i) (m ++ x) ≡ drop (64 * i) m ++ x = drop-append-le (64 * i) m x (omega arith) in
    let w : words 16 (drop (64 * i) m ++ x) ≡ words 16 (drop (64 * i) m) =
    words_append 16 (drop (64 * i) m) x (simp length-drop (omega arith)) in
    rw (hash_value-append i m x (omega arith), d, w)

-- the block that begins with the rest of m
pub next-block : (m x : List ℕ)
    → hash_value (suc (length m / 64)) (m ++ x) ≡ compress (hash_value (length m / 64) m) (words 16 (rest m ++ x))
unfolding hash_value block rest
next-block m x =
    rw (hash_value-append (length m / 64) m x (omega arith), drop-append-le (64 * (length m / 64)) m x (omega arith))

-- one turn of the loop over the whole blocks of s, after m
pub next-whole-block : (m s state next : List ℕ) (i : ℕ) → length m % 64 ≡ 0 → i % 64 ≡ 0
    → state ≡ hash_value ((length m + i) / 64) (m ++ s) → next ≡ compress state (words 16 (drop i s))
    → next ≡ hash_value ((length m + (i + 64)) / 64) (m ++ s)
unfolding hash_value block
next-whole-block m s state next i hm hi es en =
    let q : (length m + (i + 64)) / 64 ≡ suc ((length m + i) / 64) = omega arith in
    let at : 64 * ((length m + i) / 64) ≡ length m + i = omega arith in
    rw (q, at, drop-append-add m s i, ← es) en

-- block i of the whole blocks of s, as the loop over them reads it
pub words-in_chunk : (k i : ℕ) (s : List ℕ) → i < k → 64 * k ≤ length s
    → words 16 (get_or (first_chunks 64 k s) i []) ≡ words 16 (drop (64 * i) s)
words-in_chunk zero i s h g = absurd (omega arith)
words-in_chunk (suc k) zero s h g =
    let front : length (take 64 s) ≡ 64 = length-take-le 64 s (omega arith) in
    sym (words_append 16 (take 64 s) (drop 64 s) (omega arith)) ∙ ap (words 16) (take-append-drop 64 s)
words-in_chunk (suc k) (suc i) s h g =
    let at : 64 + 64 * i ≡ 64 * suc i = omega arith in
    words-in_chunk k i (drop 64 s) (omega arith) (simp length-drop (omega arith))
    ∙ ap (words 16) (drop-drop (64 * i) 64 s ∙ ap (λ (j : ℕ). drop j s) at)

pub rest-length : (m : List ℕ) → length (rest m) ≡ length m % 64
unfolding rest
rest-length m = length-drop (64 * (length m / 64)) m ∙ omega arith

-- bytes that do not fill the block
pub rest_more : (m x : List ℕ) → length m % 64 + length x < 64 → rest (m ++ x) ≡ rest m ++ x
unfolding rest
rest_more m x h =
    let l : length (m ++ x) ≡ length m + length x = length-append m x in
    let q : length (m ++ x) / 64 ≡ length m / 64 = omega arith in
    rw q (drop-append-le (64 * (length m / 64)) m x (omega arith))

-- after whole blocks, the rest is that of what follows
pub rest-after : (m s : List ℕ) → length m % 64 ≡ 0 → rest (m ++ s) ≡ drop (length s / 64 * 64) s
unfolding rest
rest-after m s h =
    let l : length (m ++ s) ≡ length m + length s = length-append m s in
    let q : 64 * (length (m ++ s) / 64) ≡ length m + length s / 64 * 64 = omega arith in
    rw q (drop-append-add m s (length s / 64 * 64))

pub rest-none : (m : List ℕ) → length m % 64 ≡ 0 → rest m ≡ []
unfolding rest
rest-none m h = drop_of_length-le m {i = 64 * (length m / 64)} (omega arith)

-- zeros after a, some of them written over
drop-zeros : (n k : ℕ) → drop {A = ℕ} k (replicate n 0) ≡ replicate (n - k) 0
drop-zeros n zero = rw sub-zero
drop-zeros zero (suc k) = rw zero-sub
drop-zeros (suc n) (suc k) = rw suc-sub-suc (drop-zeros n k)

pub written-over-zeros : (a s : List ℕ) (z at : ℕ) → length a ≡ at → length s ≤ z
    → written (a ++ replicate z 0) at s ≡ a ++ s ++ replicate (z - length s) 0
written-over-zeros a s z at ea h =
    let l : length (a ++ replicate z 0) ≡ at + z =
    length-append a (replicate z 0) ∙ omega (arith, length-replicate {A = ℕ} z 0) in
    let d : drop (at + length s) (a ++ replicate z 0) ≡ replicate (z - length s) 0 =
    ap (λ (n : ℕ). drop (n + length s) (a ++ replicate z 0)) (sym ea) ∙ drop-append-add a (replicate z 0) (length s) ∙ drop-zeros z (length s) in
    written-fits (a ++ replicate z 0) at s (omega arith) ∙ rw (take_at a (replicate z 0) at ea, d)

pub set-first-zero : (a : List ℕ) (z at x : ℕ) → length a ≡ at → set (a ++ replicate (suc z) 0) at x ≡ a ++ (x ∷ replicate z 0)
set-first-zero a z at x e = set_at a 0 (replicate z 0) x at e
