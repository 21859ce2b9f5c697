-- Bytes read as words and written back, and a chain's prefix in words.
use mathlib.Core.Path.{◌≡◌, refl, ◌∙◌, sym}
use mathlib.Core.List.{List, [], ◌∷◌, ◌++◌, append_assoc, append-nil}
use Prim.Native.Nat.{ℕ, zero, suc, ◌+◌, ◌*◌, ◌/◌, ◌%◌, ◌≤◌, ◌<◌}
use native.Mathlib.Omega.{arith}
use lib.ListN.{length, take, drop, get_or}
use lib.Seq.{take_all, take-add, drop-cons, take-append-add}
use Rattle.sha256.specs.Bytes.{be, number_at}
use Rattle.sha256.specs.Hash.{words, bytes}
use Rattle.sha256.proofs.Words.{bytes-append}
use Rattle.lms.specs.Types.{prefix}

-- each is below 256
abbrev pub Octets : List ℕ → Type 0
Octets s = (i : ℕ) → get_or s i 0 < 256

-- a number's four bytes are those that it was read from
four_digits : (a b c d : ℕ) → a < 256 → b < 256 → c < 256 → d < 256
    → be 4 (a * 16777216 + (b * 65536 + (c * 256 + (d * 1 + 0)))) ≡ a ∷ b ∷ c ∷ d ∷ []
unfolding be
four_digits a b c d p q r t =
    let n : ℕ = a * 16777216 + (b * 65536 + (c * 256 + (d * 1 + 0))) in
    let first : n / 16777216 % 256 ≡ a = omega arith in
    let second : n / 65536 % 256 ≡ b = omega arith in
    let third : n / 256 % 256 ≡ c = omega arith in
    let fourth : n / 1 % 256 ≡ d = omega arith in
    rw (first, second, third, fourth)

four_back : (s : List ℕ) (i : ℕ) → Octets s → i + 4 ≤ length s → be 4 (number_at 4 s i) ≡ take 4 (drop i s)
unfolding number_at
four_back s i o h =
    let e : take 4 (drop i s) ≡ get_or s i 0 ∷ get_or s (suc i) 0 ∷ get_or s (suc (suc i)) 0 ∷ get_or s (suc (suc (suc i))) 0 ∷ [] =
    rw (
      drop-cons s i 0 (omega arith),
      drop-cons s (suc i) 0 (omega arith),
      drop-cons s (suc (suc i)) 0 (omega arith),
      drop-cons s (suc (suc (suc i))) 0 (omega arith),
    ) in
    four_digits (get_or s i 0) (get_or s (suc i) 0) (get_or s (suc (suc i)) 0) (get_or s (suc (suc (suc i))) 0)
    (o i) (o (suc i)) (o (suc (suc i))) (o (suc (suc (suc i))))
    ∙ sym e

pub bytes-words : (n : ℕ) (s : List ℕ) → Octets s → 4 * n ≤ length s → bytes (words n s) ≡ take (4 * n) s
unfolding words bytes
bytes-words zero s o h = refl
bytes-words (suc n) s o h =
    let e : 4 * suc n ≡ 4 * n + 4 = omega arith in
    bytes-append (words n s) (number_at 4 s (4 * n) ∷ [])
    ∙ rw (bytes-words n s o (omega arith), append-nil, four_back s (4 * n) o (omega arith), e, take-add)

first-words : (s : List ℕ) (x : List ℕ)
    → get_or (words 8 s) 0 0 ∷ get_or (words 8 s) 1 0 ∷ get_or (words 8 s) 2 0 ∷ get_or (words 8 s) 3 0 ∷ x ≡ words 4 s ++ x
unfolding words
first-words s x = refl

-- the last two words give a number's four bytes, and two bytes that are followed by zeros
last-words : (q i : ℕ) → i < 65536 → take 6 (bytes (q ∷ i * 65536 ∷ [])) ≡ be 4 q ++ be 2 i
unfolding bytes be
last-words q i s =
    let a : i * 65536 / 16777216 % 256 ≡ i / 256 % 256 = omega arith in
    let b : i * 65536 / 65536 % 256 ≡ i / 1 % 256 = omega arith in
    rw (a, b)

-- the words before a chain's links
pub prefix_in_words : (I w : List ℕ) (q i : ℕ) → Octets I → length I ≡ 16 → w ≡ words 8 I → i < 65536
    → take 22 (bytes (get_or w 0 0 ∷ get_or w 1 0 ∷ get_or w 2 0 ∷ get_or w 3 0 ∷ q ∷ i * 65536 ∷ [])) ≡ prefix I q i
unfolding prefix
prefix_in_words I w q i o l e s =
    let whole : bytes (words 4 I) ≡ I = bytes-words 4 I o (omega arith) ∙ take_all 16 I (omega arith) in
    let n : 22 ≡ length I + 6 = omega arith in
    rw (e, first-words I (q ∷ i * 65536 ∷ []), bytes-append, whole, n, take-append-add, last-words q i s) (sym (append_assoc I (be 4 q) (be 2 i)))

-- a seed is what its words stand for
pub seed_back : (s : List ℕ) → Octets s → length s ≡ 32 → bytes (words 8 s) ≡ s
seed_back s o l = bytes-words 8 s o (omega arith) ∙ take_all 32 s (omega arith)
