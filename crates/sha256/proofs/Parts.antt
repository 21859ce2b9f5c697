-- A message that comes in parts: what the streaming state holds after each, and the hash at the end.
use Rattle.std.proofs.Common.{◌≡◌, ℕ, suc, ◌+◌, ◌-◌, ◌*◌, ◌/◌, ◌%◌, ◌^◌, ◌<◌, ◌≤◌, List, [], ◌∷◌, ◌++◌, length, take, drop, set, replicate, sym, refl, ap, ◌∙◌, append_assoc, append-nil, arith, length-append, take-append-drop, length-take-le, take_at}
use lib.ListN.{length-replicate, replicate-append-replicate}
use Rattle.sha256.specs.Bytes.{be, written}
use Rattle.sha256.specs.Constants.{H0}
use Rattle.sha256.specs.Block.{compress}
use Rattle.sha256.specs.Hash.{zeros, padding, pad, words, hash_value, bytes, sha256}
use Rattle.sha256.specs.Inner.{rest, streamed}
use Rattle.sha256.specs.declared.stream.Sha.{Sha}
use Rattle.sha256.proofs.Laws.{be-length, be-mod}
use Rattle.sha256.proofs.Numbers.{rest-is}
use Rattle.sha256.proofs.Blocks.{hash_value-append, next-block, rest-length, rest_more, rest-after, rest-none, written-over-zeros, set-first-zero}

made : (m state block : List ℕ) (total : ℕ) → state ≡ hash_value (length m / 64) m
    → block ≡ rest m ++ replicate (64 - length m % 64) 0 → total ≡ length m % 2 ^ 64
    → ◌≡◌ {A = Sha} (record { state = state; block = block; total = total }) (streamed m)
unfolding streamed
made m state block total p q r = rw (p, q, r)

-- before the first block
pub first : H0 ≡ hash_value 0 []
unfolding hash_value
first = refl

-- after whole blocks: the blocks of s are taken in, and the rest of s is kept
pub absorbed : (m s t next block : List ℕ) (total : ℕ) → length m % 64 ≡ 0
    → next ≡ hash_value ((length m + length s) / 64) (m ++ s)
    → t ≡ take (length s - length s / 64 * 64) (drop (length s / 64 * 64) s) → block ≡ written (replicate 64 0) 0 t
    → total ≡ length (m ++ s) % 2 ^ 64
    → ◌≡◌ {A = Sha} (record { state = next; block = block; total = total }) (streamed (m ++ s))
absorbed m s t next block total h en et eb etotal =
    let l : length (m ++ s) ≡ length m + length s = length-append m s in
    let r : t ≡ rest (m ++ s) = et ∙ rest-is (length s / 64 * 64) s ∙ sym (rest-after m s h) in
    let lt : length t ≡ length (m ++ s) % 64 = ap length r ∙ rest-length (m ++ s) in
    let b : written (replicate 64 0) 0 t ≡ rest (m ++ s) ++ replicate (64 - length (m ++ s) % 64) 0 =
    written-over-zeros [] t 64 0 refl (omega arith) ∙ rw (lt, r) in
    made (m ++ s) next block total (rw l en) (eb ∙ b) etotal

module _ (sh : Sha) (m : List ℕ) (e : sh ≡ streamed m) where
  pub state-is : sh.state ≡ hash_value (length m / 64) m
  unfolding streamed
  state-is = ap (λ (x : Sha). x.state) e

  block-is : sh.block ≡ rest m ++ replicate (64 - length m % 64) 0
  unfolding streamed
  block-is = ap (λ (x : Sha). x.block) e

  pub total-is : sh.total ≡ length m % 2 ^ 64
  unfolding streamed
  total-is = ap (λ (x : Sha). x.total) e

  -- the bytes of the block that are filled
  fill_is : sh.total % 64 ≡ length m % 64
  fill_is = omega (arith, total-is)

  total_more : (s : List ℕ) (count : ℕ) → count ≡ (sh.total + length s) % 2 ^ 64 → count ≡ length (m ++ s) % 2 ^ 64
  total_more s count ec = omega (arith, total-is, length-append m s)

  -- a part that does not fill the block
  pub took_part : (s block : List ℕ) (count : ℕ) → length s < 64 - sh.total % 64
      → block ≡ written sh.block (sh.total % 64) s → count ≡ (sh.total + length s) % 2 ^ 64
      → ◌≡◌ {A = Sha} (record { state = sh.state; block = block; total = count }) (streamed (m ++ s))
  took_part s block count h eb ec =
      let f = fill_is in
      let l : length (m ++ s) ≡ length m + length s = length-append m s in
      let q : length (m ++ s) / 64 ≡ length m / 64 = omega arith in
      let z : 64 - length m % 64 - length s ≡ 64 - length (m ++ s) % 64 = omega arith in
      let b : written sh.block (sh.total % 64) s ≡ rest (m ++ s) ++ replicate (64 - length (m ++ s) % 64) 0 =
      rw (block-is, f) (written-over-zeros (rest m) s (64 - length m % 64) (length m % 64) (rest-length m) (omega arith)
      ∙ rw (z, rest_more m s (omega arith))) in
      made (m ++ s) sh.state block count (state-is ∙ rw q (sym (hash_value-append (length m / 64) m s (omega arith)))) (eb ∙ b)
      (total_more s count ec)

  -- a part that fills it: the block is taken in, and `absorb` does the rest
  pub took_more : (s filled next t : List ℕ) (count : ℕ) (out : Sha) → 64 - sh.total % 64 ≤ length s
      → filled ≡ written sh.block (sh.total % 64) (take (64 - sh.total % 64) s)
      → next ≡ compress sh.state (words 16 filled)
      → t ≡ take (length s - (64 - sh.total % 64)) (drop (64 - sh.total % 64) s)
      → count ≡ (sh.total + length s) % 2 ^ 64
      → ((n : List ℕ) → length n % 64 ≡ 0 → next ≡ hash_value (length n / 64) n → count ≡ length (n ++ t) % 2 ^ 64 → out ≡ streamed (n ++ t))
      → out ≡ streamed (m ++ s)
  took_more s filled next t count out h ef en et ec absorb =
      let f = fill_is in
      let k : ℕ = 64 - sh.total % 64 in
      let x : List ℕ = take (64 - sh.total % 64) s in
      let lx : length (take (64 - sh.total % 64) s) ≡ 64 - sh.total % 64 = length-take-le (64 - sh.total % 64) s h in
      let rt : t ≡ drop (64 - sh.total % 64) s = et ∙ rest-is (64 - sh.total % 64) s in
      let ln : length (m ++ x) ≡ length m + length x = length-append m x in
      let q : length (m ++ x) / 64 ≡ suc (length m / 64) = omega arith in
      let ly : length (take (64 - length m % 64) s) ≡ 64 - length m % 64 = length-take-le (64 - length m % 64) s (omega arith) in
      let none : 64 - length m % 64 - length (take (64 - length m % 64) s) ≡ 0 = omega arith in
      let b : filled ≡ rest m ++ x =
      ef ∙ rw (block-is, f) (written-over-zeros (rest m) (take (64 - length m % 64) s) (64 - length m % 64) (length m % 64) (rest-length m) (omega arith)
      ∙ rw none (append-nil (rest m ++ take (64 - length m % 64) s))) in
      let whole : (m ++ x) ++ t ≡ m ++ s = append_assoc m x t ∙ rw (rt, take-append-drop (64 - sh.total % 64) s) in
      let v : next ≡ hash_value (length (m ++ x) / 64) (m ++ x) = en ∙ rw (q, b, state-is) (sym (next-block m x)) in
      absorb (m ++ x) (omega arith) v (total_more s count ec ∙ rw whole) ∙ ap streamed whole

-- the bytes that the block has, out of the streaming state
pub rest-kept : (sh : Sha) (m : List ℕ) → sh ≡ streamed m → take (sh.total % 64) sh.block ≡ rest m
rest-kept sh m e =
    rw (block-is sh m e, fill_is sh m e) (take_at (rest m) (replicate (64 - length m % 64) 0) (length m % 64) (rest-length m))

-- the length in bits, from a count of bytes modulo 2^64
pub bits_are : (total : ℕ) (m : List ℕ) → total ≡ length m % 2 ^ 64 → be 8 (total * 8 % 2 ^ 64) ≡ be 8 (8 * length m)
bits_are total m t =
    let w : total * 8 % 2 ^ 64 ≡ 8 * length m % 256 ^ 8 = omega arith in
    ap (be 8) w ∙ be-mod 8 (8 * length m)

-- the rest of m in a block of zeros, with the padding's first byte behind it
pub marked-is : (m r : List ℕ) → r ≡ rest m
    → set (written (replicate 64 0) 0 r) (length r) 128 ≡ rest m ++ (128 ∷ replicate (63 - length m % 64) 0)
marked-is m r er =
    let l : length r ≡ length m % 64 = ap length er ∙ rest-length m in
    let n : 64 - length r ≡ suc (63 - length m % 64) = omega arith in
    let b : written (replicate 64 0) 0 r ≡ rest m ++ replicate (suc (63 - length m % 64)) 0 =
    written-over-zeros [] r 64 0 refl (omega arith) ∙ rw (n, er) in
    rw (b, l) (set-first-zero (rest m) (63 - length m % 64) (length m % 64) 128 (rest-length m))

module _ (m state marked : List ℕ) (es : state ≡ hash_value (length m / 64) m) (em : marked ≡ rest m ++ (128 ∷ replicate (63 - length m % 64) 0))
    (bits : List ℕ) (digits : bits ≡ be 8 (8 * length m)) (fin out : List ℕ) (eout : out ≡ bytes fin) where
  bits_length : length bits ≡ 8
  bits_length = ap length digits ∙ be-length 8 (8 * length m)

  -- where the blocks end with the padding, the hash value is the hash
  hashed : (count : ℕ) → fin ≡ hash_value count (pad m) → count ≡ length (pad m) / 64 → out ≡ sha256 m
  unfolding sha256
  hashed count ef ec = eout ∙ rw (ef, ec)

  -- the padding ends in this block
  pub finished_here : (last : List ℕ) → length m % 64 < 56 → last ≡ written marked 56 bits
      → fin ≡ compress state (words 16 last) → out ≡ sha256 m
  unfolding pad padding zeros
  finished_here last h el ef =
      let z : 55 - length m % 64 + 8 ≡ 63 - length m % 64 = omega arith in
      let head : List ℕ = rest m ++ (128 ∷ replicate (55 - length m % 64) 0) in
      let lr : length (rest m) ≡ length m % 64 = rest-length m in
      let lz : length {A = ℕ} (replicate (55 - length m % 64) 0) ≡ 55 - length m % 64 = length-replicate (55 - length m % 64) 0 in
      let lh : length (rest m ++ (128 ∷ replicate (55 - length m % 64) 0)) ≡ 56 =
      length-append (rest m) (128 ∷ replicate (55 - length m % 64) 0) ∙ omega arith in
      let split : marked ≡ head ++ replicate 8 0 =
      em ∙ sym (append_assoc (rest m) (128 ∷ replicate (55 - length m % 64) 0) (replicate 8 0)
      ∙ ap (λ (y : List ℕ). rest m ++ (128 ∷ y)) (replicate-append-replicate (55 - length m % 64) 8 0 ∙ ap (λ (i : ℕ). replicate i 0) z)) in
      let lb = bits_length in
      let none : 8 - length bits ≡ 0 = omega arith in
      let zs : (119 - length m % 64) % 64 ≡ 55 - length m % 64 = omega arith in
      let b : last ≡ rest m ++ (128 ∷ replicate ((119 - length m % 64) % 64) 0 ++ be 8 (8 * length m)) =
      el ∙ rw split (written-over-zeros head bits 8 56 lh (omega arith)
      ∙ rw none (append-nil (head ++ bits)) ∙ append_assoc (rest m) (128 ∷ replicate (55 - length m % 64) 0) bits
      ∙ rw (zs, digits)) in
      let lp : length (m ++ (128 ∷ replicate ((119 - length m % 64) % 64) 0 ++ be 8 (8 * length m))) ≡ length m + (9 + (55 - length m % 64)) =
      length-append m (128 ∷ replicate ((119 - length m % 64) % 64) 0 ++ be 8 (8 * length m))
      ∙ rw (zs, length-append (replicate (55 - length m % 64) 0) (be 8 (8 * length m)), lz, be-length 8 (8 * length m)) (omega arith) in
      hashed (suc (length m / 64)) (ef ∙ rw (b, es) (sym (next-block m _))) (omega arith)

  -- the padding takes one block more
  pub finished_next : (next last : List ℕ) → 56 ≤ length m % 64
      → next ≡ compress state (words 16 marked)
      → last ≡ written (replicate 64 0) 56 bits → fin ≡ compress next (words 16 last) → out ≡ sha256 m
  unfolding pad padding zeros
  finished_next next last h en el ef =
      let one : List ℕ = 128 ∷ replicate (63 - length m % 64) 0 in
      let lz : length {A = ℕ} (replicate (63 - length m % 64) 0) ≡ 63 - length m % 64 = length-replicate (63 - length m % 64) 0 in
      let lm : length (m ++ (128 ∷ replicate (63 - length m % 64) 0)) ≡ length m + suc (63 - length m % 64) =
      length-append m (128 ∷ replicate (63 - length m % 64) 0) ∙ omega arith in
      let q : length (m ++ (128 ∷ replicate (63 - length m % 64) 0)) / 64 ≡ suc (length m / 64) = omega arith in
      let first : next ≡ hash_value (length (m ++ one) / 64) (m ++ one) = en ∙ rw (q, em, es) (sym (next-block m one)) in
      let lb = bits_length in
      let none : 8 - length bits ≡ 0 = omega arith in
      let b : last ≡ replicate 56 0 ++ bits =
      el ∙ written-over-zeros (replicate 56 0) bits 8 56 refl (omega arith) ∙ rw none (append-nil (replicate 56 0 ++ bits)) in
      let second : fin ≡ hash_value (suc (length (m ++ one) / 64)) ((m ++ one) ++ (replicate 56 0 ++ bits)) =
      ef ∙ rw (b, first) (sym (next-block (m ++ one) (replicate 56 0 ++ bits) ∙ rw (rest-none (m ++ one) (omega arith)))) in
      let zs : 63 - length m % 64 + 56 ≡ (119 - length m % 64) % 64 = omega arith in
      let joined : (m ++ one) ++ (replicate 56 0 ++ bits) ≡ m ++ (128 ∷ replicate ((119 - length m % 64) % 64) 0 ++ be 8 (8 * length m)) =
      append_assoc m one (replicate 56 0 ++ bits)
      ∙ ap (λ (y : List ℕ). m ++ (128 ∷ y)) (sym (append_assoc (replicate (63 - length m % 64) 0) (replicate 56 0) bits)
      ∙ rw (replicate-append-replicate {A = ℕ} (63 - length m % 64) 56 0, zs, digits)) in
      let lp : length ((m ++ one) ++ (replicate 56 0 ++ bits)) ≡ length (m ++ one) + 64 =
      length-append (m ++ one) (replicate 56 0 ++ bits) ∙ rw (length-append (replicate 56 0) bits, lb) in
      hashed (suc (length (m ++ one) / 64)) (second ∙ ap (hash_value (suc (length (m ++ one) / 64))) joined)
      (omega (arith, ap length joined))

-- a whole message: its blocks, and what is left after them
pub rest_of_slice : (s t : List ℕ) → t ≡ take (length s - length s / 64 * 64) (drop (length s / 64 * 64) s) → t ≡ rest s
rest_of_slice s t e = e ∙ rest-is (length s / 64 * 64) s ∙ sym (rest-after [] s refl)

pub value_of_slice : (s h : List ℕ) → h ≡ hash_value ((0 + length s) / 64) ([] ++ s) → h ≡ hash_value (length s / 64) s
value_of_slice s h e =
    let n : 0 + length s ≡ length s = omega arith in
    rw n at e
