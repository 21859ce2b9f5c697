-- A message of 55 bytes is padded to one block; its words, from 22 bytes, one byte and 32 bytes that are kept in words.
use Rattle.std.proofs.Common.{◌≡◌, ℕ, ◌+◌, ◌*◌, ◌/◌, ◌%◌, ◌^◌, List, [], ◌∷◌, ◌++◌, length, get_or, take, sym, refl, ap, ◌∙◌, append-nil, div-one, arith, length-append}
use Rattle.sha256.specs.Bytes.{be, number_at}
use Rattle.sha256.specs.Constants.{H0}
use Rattle.sha256.specs.Block.{compress}
use Rattle.sha256.specs.Hash.{zeros, padding, pad, words, block, hash_value, bytes, sha256}
use Rattle.sha256.proofs.Laws.{be-length, number-be-mod}
use Rattle.sha256.proofs.Numbers.{be_four, number_four}
use Rattle.sha256.proofs.Window.{elements, elements_are}

-- the padded block of 55 bytes
one_block : (b : List ℕ) → length b ≡ 55 → sha256 b ≡ bytes (compress H0 (words 16 (b ++ (128 ∷ be 8 440))))
unfolding sha256 pad padding zeros hash_value block
one_block b l =
    let n : length (b ++ (128 ∷ be 8 440)) ≡ 64 = length-append b (128 ∷ be 8 440) ∙ omega (arith, be-length 8 440) in
    let k : length (b ++ (128 ∷ be 8 440)) / 64 ≡ 1 = omega arith in
    rw (l, k)

-- the four bytes of a word make the word
word-again : (x : ℕ) → x / 16777216 % 256 * 16777216 + x / 65536 % 256 * 65536 + x / 256 % 256 * 256 + x % 256 ≡ x % 2 ^ 32
word-again x =
    sym (number_four (x / 16777216 % 256 ∷ x / 65536 % 256 ∷ x / 256 % 256 ∷ x % 256 ∷ []) 0)
    ∙ rw (← be_four x) (rw append-nil at (number-be-mod 4 x []))

-- the three parts and the padding, byte by byte
abbrev laid : ℕ → ℕ → ℕ → ℕ → ℕ → ℕ → ℕ → ℕ → ℕ → ℕ → ℕ → ℕ → ℕ → ℕ → ℕ → List ℕ
laid p0 p1 p2 p3 p4 p5 j x0 x1 x2 x3 x4 x5 x6 x7 =
    p0 / 16777216 % 256 ∷ p0 / 65536 % 256 ∷ p0 / 256 % 256 ∷ p0 % 256
    ∷ p1 / 16777216 % 256 ∷ p1 / 65536 % 256 ∷ p1 / 256 % 256 ∷ p1 % 256
    ∷ p2 / 16777216 % 256 ∷ p2 / 65536 % 256 ∷ p2 / 256 % 256 ∷ p2 % 256
    ∷ p3 / 16777216 % 256 ∷ p3 / 65536 % 256 ∷ p3 / 256 % 256 ∷ p3 % 256
    ∷ p4 / 16777216 % 256 ∷ p4 / 65536 % 256 ∷ p4 / 256 % 256 ∷ p4 % 256
    ∷ p5 / 16777216 % 256 ∷ p5 / 65536 % 256 ∷ j % 256 ∷ x0 / 16777216 % 256
    ∷ x0 / 65536 % 256 ∷ x0 / 256 % 256 ∷ x0 % 256 ∷ x1 / 16777216 % 256
    ∷ x1 / 65536 % 256 ∷ x1 / 256 % 256 ∷ x1 % 256 ∷ x2 / 16777216 % 256
    ∷ x2 / 65536 % 256 ∷ x2 / 256 % 256 ∷ x2 % 256 ∷ x3 / 16777216 % 256
    ∷ x3 / 65536 % 256 ∷ x3 / 256 % 256 ∷ x3 % 256 ∷ x4 / 16777216 % 256
    ∷ x4 / 65536 % 256 ∷ x4 / 256 % 256 ∷ x4 % 256 ∷ x5 / 16777216 % 256
    ∷ x5 / 65536 % 256 ∷ x5 / 256 % 256 ∷ x5 % 256 ∷ x6 / 16777216 % 256
    ∷ x6 / 65536 % 256 ∷ x6 / 256 % 256 ∷ x6 % 256 ∷ x7 / 16777216 % 256
    ∷ x7 / 65536 % 256 ∷ x7 / 256 % 256 ∷ x7 % 256 ∷ 128
    ∷ 0 ∷ 0 ∷ 0 ∷ 0
    ∷ 0 ∷ 0 ∷ 1 ∷ 184 ∷ []

abbrev prefix : ℕ → ℕ → ℕ → ℕ → ℕ → ℕ → List ℕ
prefix p0 p1 p2 p3 p4 p5 = take 22 (bytes (p0 ∷ p1 ∷ p2 ∷ p3 ∷ p4 ∷ p5 ∷ []))

module _ (p0 p1 p2 p3 p4 p5 j x0 x1 x2 x3 x4 x5 x6 x7 : ℕ) where
  laid-is : prefix p0 p1 p2 p3 p4 p5 ++ be 1 j ++ bytes (x0 ∷ x1 ∷ x2 ∷ x3 ∷ x4 ∷ x5 ∷ x6 ∷ x7 ∷ []) ++ (128 ∷ be 8 440)
      ≡ laid p0 p1 p2 p3 p4 p5 j x0 x1 x2 x3 x4 x5 x6 x7
  unfolding be bytes
  laid-is = simp div-one

  message_length : length (prefix p0 p1 p2 p3 p4 p5 ++ be 1 j ++ bytes (x0 ∷ x1 ∷ x2 ∷ x3 ∷ x4 ∷ x5 ∷ x6 ∷ x7 ∷ [])) ≡ 55
  unfolding be bytes
  message_length = refl

  -- the sixteen words of the block
  words-laid : words 16 (laid p0 p1 p2 p3 p4 p5 j x0 x1 x2 x3 x4 x5 x6 x7)
      ≡ p0 % 2 ^ 32 ∷ p1 % 2 ^ 32 ∷ p2 % 2 ^ 32 ∷ p3 % 2 ^ 32 ∷ p4 % 2 ^ 32
      ∷ (p5 / 2 ^ 16 % 2 ^ 16 * 2 ^ 16 + j % 256 * 256 + x0 / 2 ^ 24 % 256) ∷ (x0 % 2 ^ 24 * 256 + x1 / 2 ^ 24 % 256)
      ∷ (x1 % 2 ^ 24 * 256 + x2 / 2 ^ 24 % 256) ∷ (x2 % 2 ^ 24 * 256 + x3 / 2 ^ 24 % 256) ∷ (x3 % 2 ^ 24 * 256 + x4 / 2 ^ 24 % 256)
      ∷ (x4 % 2 ^ 24 * 256 + x5 / 2 ^ 24 % 256) ∷ (x5 % 2 ^ 24 * 256 + x6 / 2 ^ 24 % 256) ∷ (x6 % 2 ^ 24 * 256 + x7 / 2 ^ 24 % 256)
      ∷ (x7 % 2 ^ 24 * 256 + 2147483648 / 2 ^ 24 % 256) ∷ 0 ∷ 440 ∷ []
  unfolding words
  words-laid =
      let m : List ℕ = laid p0 p1 p2 p3 p4 p5 j x0 x1 x2 x3 x4 x5 x6 x7 in
      let e0 : number_at 4 m 0 ≡ p0 % 2 ^ 32 = number_four m 0 ∙ word-again p0 in
      let e1 : number_at 4 m 4 ≡ p1 % 2 ^ 32 = number_four m 4 ∙ word-again p1 in
      let e2 : number_at 4 m 8 ≡ p2 % 2 ^ 32 = number_four m 8 ∙ word-again p2 in
      let e3 : number_at 4 m 12 ≡ p3 % 2 ^ 32 = number_four m 12 ∙ word-again p3 in
      let e4 : number_at 4 m 16 ≡ p4 % 2 ^ 32 = number_four m 16 ∙ word-again p4 in
      let e5 : number_at 4 m 20 ≡ p5 / 2 ^ 16 % 2 ^ 16 * 2 ^ 16 + j % 256 * 256 + x0 / 2 ^ 24 % 256 = number_four m 20 ∙ omega arith in
      let e6 : number_at 4 m 24 ≡ x0 % 2 ^ 24 * 256 + x1 / 2 ^ 24 % 256 = number_four m 24 ∙ omega arith in
      let e7 : number_at 4 m 28 ≡ x1 % 2 ^ 24 * 256 + x2 / 2 ^ 24 % 256 = number_four m 28 ∙ omega arith in
      let e8 : number_at 4 m 32 ≡ x2 % 2 ^ 24 * 256 + x3 / 2 ^ 24 % 256 = number_four m 32 ∙ omega arith in
      let e9 : number_at 4 m 36 ≡ x3 % 2 ^ 24 * 256 + x4 / 2 ^ 24 % 256 = number_four m 36 ∙ omega arith in
      let e10 : number_at 4 m 40 ≡ x4 % 2 ^ 24 * 256 + x5 / 2 ^ 24 % 256 = number_four m 40 ∙ omega arith in
      let e11 : number_at 4 m 44 ≡ x5 % 2 ^ 24 * 256 + x6 / 2 ^ 24 % 256 = number_four m 44 ∙ omega arith in
      let e12 : number_at 4 m 48 ≡ x6 % 2 ^ 24 * 256 + x7 / 2 ^ 24 % 256 = number_four m 48 ∙ omega arith in
      let e13 : number_at 4 m 52 ≡ x7 % 2 ^ 24 * 256 + 2147483648 / 2 ^ 24 % 256 = number_four m 52 ∙ omega arith in
      let e14 : number_at 4 m 56 ≡ 0 = number_four m 56 ∙ omega arith in
      let e15 : number_at 4 m 60 ≡ 440 = number_four m 60 ∙ omega arith in
      rw (e0, e1, e2, e3, e4, e5, e6, e7, e8, e9, e10, e11, e12, e13, e14, e15)

  hashed : (r : List ℕ) → r ≡ compress H0 (p0 % 2 ^ 32 ∷ p1 % 2 ^ 32 ∷ p2 % 2 ^ 32 ∷ p3 % 2 ^ 32 ∷ p4 % 2 ^ 32
      ∷ (p5 / 2 ^ 16 % 2 ^ 16 * 2 ^ 16 + j % 256 * 256 + x0 / 2 ^ 24 % 256) ∷ (x0 % 2 ^ 24 * 256 + x1 / 2 ^ 24 % 256)
      ∷ (x1 % 2 ^ 24 * 256 + x2 / 2 ^ 24 % 256) ∷ (x2 % 2 ^ 24 * 256 + x3 / 2 ^ 24 % 256) ∷ (x3 % 2 ^ 24 * 256 + x4 / 2 ^ 24 % 256)
      ∷ (x4 % 2 ^ 24 * 256 + x5 / 2 ^ 24 % 256) ∷ (x5 % 2 ^ 24 * 256 + x6 / 2 ^ 24 % 256) ∷ (x6 % 2 ^ 24 * 256 + x7 / 2 ^ 24 % 256)
      ∷ (x7 % 2 ^ 24 * 256 + 2147483648 / 2 ^ 24 % 256) ∷ 0 ∷ 440 ∷ [])
      → bytes r ≡ sha256 (prefix p0 p1 p2 p3 p4 p5 ++ be 1 j ++ bytes (x0 ∷ x1 ∷ x2 ∷ x3 ∷ x4 ∷ x5 ∷ x6 ∷ x7 ∷ []))
  hashed r e =
      ap bytes (e ∙ ap (compress H0) (sym words-laid ∙ ap (words 16) (sym laid-is)))
      ∙ sym (one_block (prefix p0 p1 p2 p3 p4 p5 ++ be 1 j ++ bytes (x0 ∷ x1 ∷ x2 ∷ x3 ∷ x4 ∷ x5 ∷ x6 ∷ x7 ∷ [])) message_length)

-- one link, from the words that the function lays
pub linked : (p x : List ℕ) (j : ℕ) → length p ≡ 6 → length x ≡ 8 → {w0 w1 w2 w3 w4 w5 w6 w7 w8 w9 w10 w11 w12 w13 : ℕ}
    → w0 ≡ get_or p 0 0 % 2 ^ 32
    → w1 ≡ get_or p 1 0 % 2 ^ 32
    → w2 ≡ get_or p 2 0 % 2 ^ 32
    → w3 ≡ get_or p 3 0 % 2 ^ 32
    → w4 ≡ get_or p 4 0 % 2 ^ 32
    → w5 ≡ get_or p 5 0 / 2 ^ 16 % 2 ^ 16 * 2 ^ 16 + j % 256 * 256 + get_or x 0 0 / 2 ^ 24 % 256
    → w6 ≡ get_or x 0 0 % 2 ^ 24 * 256 + get_or x 1 0 / 2 ^ 24 % 256
    → w7 ≡ get_or x 1 0 % 2 ^ 24 * 256 + get_or x 2 0 / 2 ^ 24 % 256
    → w8 ≡ get_or x 2 0 % 2 ^ 24 * 256 + get_or x 3 0 / 2 ^ 24 % 256
    → w9 ≡ get_or x 3 0 % 2 ^ 24 * 256 + get_or x 4 0 / 2 ^ 24 % 256
    → w10 ≡ get_or x 4 0 % 2 ^ 24 * 256 + get_or x 5 0 / 2 ^ 24 % 256
    → w11 ≡ get_or x 5 0 % 2 ^ 24 * 256 + get_or x 6 0 / 2 ^ 24 % 256
    → w12 ≡ get_or x 6 0 % 2 ^ 24 * 256 + get_or x 7 0 / 2 ^ 24 % 256
    → w13 ≡ get_or x 7 0 % 2 ^ 24 * 256 + 2147483648 / 2 ^ 24 % 256
    → (h r : List ℕ) → h ≡ H0 → r ≡ compress h (w0 ∷ w1 ∷ w2 ∷ w3 ∷ w4 ∷ w5 ∷ w6 ∷ w7 ∷ w8 ∷ w9 ∷ w10 ∷ w11 ∷ w12 ∷ w13 ∷ 0 ∷ 440 ∷ [])
    → bytes r ≡ sha256 (take 22 (bytes p) ++ be 1 j ++ bytes x)
linked p x j lp lx e0 e1 e2 e3 e4 e5 e6 e7 e8 e9 e10 e11 e12 e13 h r eh er =
    let ep : elements p 0 6 ≡ p = elements_are 6 0 p (omega arith) in
    let ex : elements x 0 8 ≡ x = elements_are 8 0 x (omega arith) in
    hashed (get_or p 0 0) (get_or p 1 0) (get_or p 2 0) (get_or p 3 0) (get_or p 4 0) (get_or p 5 0) j (get_or x 0 0) (get_or x 1 0) (get_or x 2 0)
    (get_or x 3 0) (get_or x 4 0) (get_or x 5 0) (get_or x 6 0) (get_or x 7 0) r
    (er ∙ rw (eh, e0, e1, e2, e3, e4, e5, e6, e7, e8, e9, e10, e11, e12, e13))
    ∙ rw (ep, ex)
