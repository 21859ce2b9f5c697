-- What the crates above know of big-endian numbers and of writing into a buffer.
use Rattle.std.proofs.Common.{◌≡◌, ℕ, zero, suc, ◌+◌, ◌*◌, ◌/◌, ◌%◌, ◌^◌, ◌<◌, ◌≤◌, true, ◌&&◌, eqb, List, [], ◌∷◌, ◌++◌, length, get_or, take, drop, sym, refl, ap, ◌∙◌, ap₂, append_assoc, append-nil, mod-lt, mod-eq_of_lt, mul_comm, pow-suc, arith, length-append, length-drop, drop_of_length-le, length-take-le, drop-drop, take_at, eq-eqb, eqb-true, le-leb}
use mathlib.Core.Bool.{false≢true}
use native.Mathlib.Nat.{mod-one}
use lib.Arith.{mod-mul, digits_div, digits_mod}
use lib.Seq.{drop-append-add}
use borrow.Author.Tests.{lt-leb}
use Rattle.sha256.proofs.Cases.{by_bool, cases_lt}
use Rattle.sha256.specs.Bytes.{be, number_at, written, eqs}

pub be-length : (k n : ℕ) → length (be k n) ≡ k
unfolding be
be-length zero n = refl
be-length (suc k) n = ap suc (be-length k n)

-- each byte is below 256
pub be-bytes : (k n i : ℕ) → get_or (be k n) i 0 < 256
unfolding be
be-bytes zero n i = omega arith
be-bytes (suc k) n zero = omega arith
be-bytes (suc k) n (suc i) = be-bytes k n i

-- a number is read past a byte in front
pub number_past : (k : ℕ) (x : ℕ) (s : List ℕ) (i : ℕ) → number_at k (x ∷ s) (suc i) ≡ number_at k s i
unfolding number_at
number_past zero x s i = refl
number_past (suc k) x s i = ap (λ (n : ℕ). get_or s i 0 * 256 ^ k + n) (number_past k x s (suc i))

base_positive : (k : ℕ) → 0 < 256 ^ k
base_positive zero = omega arith
base_positive (suc k) = omega (arith, pow-suc 256 k, base_positive k)

-- reading k bytes gives back the number that was written in k bytes, modulo 256^k
pub number-be-mod : (k n : ℕ) (s : List ℕ) → number_at k (be k n ++ s) 0 ≡ n % 256 ^ k
unfolding number_at be
number-be-mod zero n s = sym (mod-one n)
number-be-mod (suc k) n s =
    let p : 0 < 256 ^ k = base_positive k in
    let e : n % (256 * 256 ^ k) ≡ (n / 256 ^ k % 256) * 256 ^ k + n % 256 ^ k = mod-mul n (omega arith) p in
    let f : 256 ^ suc k ≡ 256 * 256 ^ k = pow-suc 256 k ∙ mul_comm (256 ^ k) 256 in
    ap (λ (x : ℕ). n / 256 ^ k % 256 * 256 ^ k + x) (number_past k (n / 256 ^ k % 256) (be k n ++ s) 0 ∙ number-be-mod k n s)
    ∙ sym (ap (λ (d : ℕ). n % d) f ∙ e)

pub number-be : (k n : ℕ) (s : List ℕ) → n < 256 ^ k → number_at k (be k n ++ s) 0 ≡ n
number-be k n s h = number-be-mod k n s ∙ mod-eq_of_lt h

-- k bytes hold a number modulo 256^k
pub be-mod : (k n : ℕ) → be k (n % 256 ^ k) ≡ be k n
unfolding be
be-mod zero n = refl
be-mod (suc k) n =
    let c : ℕ = 256 ^ k in
    let p : 0 < 256 ^ k = base_positive k in
    let low : n % 256 ^ k < 256 ^ k = mod-lt n p in
    let split : n % 256 ^ suc k ≡ (n / 256 ^ k % 256) * 256 ^ k + n % 256 ^ k =
    ap (λ (d : ℕ). n % d) (pow-suc 256 k ∙ mul_comm (256 ^ k) 256) ∙ mod-mul n (omega arith) p in
    let high_digit : n % 256 ^ suc k / 256 ^ k % 256 ≡ n / 256 ^ k % 256 =
    rw (split, digits_div (n / 256 ^ k % 256) low) (omega arith) in
    let low-digits : n % 256 ^ suc k % 256 ^ k ≡ n % 256 ^ k = rw (split, digits_mod (n / 256 ^ k % 256) low) in
    ap₂ (λ (x : ℕ) (y : List ℕ). x ∷ y) high_digit (sym (be-mod k (n % 256 ^ suc k)) ∙ ap (be k) low-digits ∙ be-mod k n)

-- what fits is written
pub written-fits : (d : List ℕ) (at : ℕ) (src : List ℕ) → at + length src ≤ length d
    → written d at src ≡ take at d ++ src ++ drop (at + length src) d
unfolding written
written-fits d at src h = rw (le-leb (at + length src) (length d) h)

-- what does not fit leaves all bytes as they were
pub written-not : (d : List ℕ) (at : ℕ) (src : List ℕ) → length d < at + length src → written d at src ≡ d
unfolding written
written-not d at src h = rw (lt-leb (at + length src) (length d) h)

pub written-length : (d : List ℕ) (at : ℕ) (src : List ℕ) → length (written d at src) ≡ length d
written-length d at src =
    cases_lt (length d) (at + length src)
    (λ h. ap length (written-not d at src h))
    (λ h. ap length (written-fits d at src h)
    ∙ length-append (take at d ++ src) (drop (at + length src) d)
    ∙ rw (length-append (take at d) src, length-take-le at d (omega arith), length-drop (at + length src) d) (omega arith))

-- writing a and then b behind it is writing both
pub written_twice : (d : List ℕ) (at : ℕ) (a b : List ℕ) → at + length a + length b ≤ length d
    → written (written d at a) (at + length a) b ≡ written d at (a ++ b)
written_twice d at a b h =
    let la : length (take at d ++ a) ≡ at + length a =
    length-append (take at d) a ∙ omega (arith, length-take-le at d (omega arith)) in
    let ld : length (written d at a) ≡ length d = written-length d at a in
    let lab : length (a ++ b) ≡ length a + length b = length-append a b in
    let n : at + length (a ++ b) ≡ at + length a + length b = omega arith in
    let f : written d at a ≡ (take at d ++ a) ++ drop (at + length a) d = written-fits d at a (omega arith) in
    let front : take (at + length a) (written d at a) ≡ take at d ++ a = rw f (take_at (take at d ++ a) (drop (at + length a) d) (at + length a) la) in
    let back : drop (at + length a + length b) (written d at a) ≡ drop (at + length a + length b) d =
    ap (λ (w : List ℕ). drop (at + length a + length b) w) f
    ∙ ap (λ (k : ℕ). drop (k + length b) ((take at d ++ a) ++ drop (at + length a) d)) (sym la)
    ∙ drop-append-add (take at d ++ a) (drop (at + length a) d) (length b) ∙ drop-drop (length b) (at + length a) d in
    written-fits (written d at a) (at + length a) b (omega arith)
    ∙ rw (front, back) (sym (written-fits d at (a ++ b) (omega arith) ∙ rw n (ap (λ (x : List ℕ). x ++ drop (at + length a + length b) d) (sym (append_assoc (take at d) a b)))))

-- two parts side by side are one
pub written_after : (d a b : List ℕ) (at to : ℕ) → at + length a ≡ to → to + length b ≤ length d
    → written (written d at a) to b ≡ written d at (a ++ b)
written_after d a b at to t h = rw (← t) (written_twice d at a b (omega arith))

-- a buffer filled whole
pub written-whole : (d s : List ℕ) → length s ≡ length d → written d 0 s ≡ s
written-whole d s h =
    let e : drop (0 + length s) d ≡ [] = drop_of_length-le d {i = 0 + length s} (omega arith) in
    written-fits d 0 s (omega arith) ∙ rw e (append-nil s)

-- an array filled by two parts
pub filled_twice : (z a b s₁ s₂ : List ℕ) (n : ℕ) → length a ≡ n → n + length b ≡ length z → s₁ ≡ written z 0 a → s₂ ≡ written s₁ n b → s₂ ≡ a ++ b
filled_twice z a b s₁ s₂ n la lz e₁ e₂ =
    let l : length (a ++ b) ≡ length z = simp length-append (omega arith) in
    rw (e₂, e₁, written_after z a b 0 n (omega arith) (omega arith)) (written-whole z (a ++ b) l)

-- two parts that do not fit together leave all bytes as they were
pub written-not_both : (d : List ℕ) (at : ℕ) (a b : List ℕ) → length d < at + length a + length b → d ≡ written d at (a ++ b)
written-not_both d at a b h = sym (written-not d at (a ++ b) (omega (arith, length-append a b)))

-- the test for sameness says whether two lists are equal
pub eqs-true : (s t : List ℕ) → eqs s t ≡ true → s ≡ t
unfolding eqs
eqs-true [] [] e = refl
eqs-true [] (y ∷ ys) e = absurd (false≢true e)
eqs-true (x ∷ xs) [] e = absurd (false≢true e)
eqs-true (x ∷ xs) (y ∷ ys) e =
    by_bool (λ t. (t && eqs xs ys) ≡ true → x ∷ xs ≡ y ∷ ys) (eqb x y)
    (λ h r. ap₂ (λ (a : ℕ) (l : List ℕ). a ∷ l) (eqb-true x y h) (eqs-true xs ys r))
    (λ h r. absurd (false≢true r)) e

pub eqs_refl : (s : List ℕ) → eqs s s ≡ true
unfolding eqs
eqs_refl [] = refl
eqs_refl (x ∷ xs) = rw (eq-eqb x x refl) (eqs_refl xs)
