-- The rounds sixteen at a time are FIPS 180-4's rounds.
use Rattle.std.proofs.Common.{◌≡◌, ℕ, zero, suc, ◌+◌, ◌-◌, ◌*◌, ◌%◌, ◌^◌, ◌<◌, ◌≤◌, true, cond, ltb, List, [], ◌∷◌, ◌++◌, length, get_or, take, drop, sym, refl, ap, ◌∙◌, add-zero, add-suc, add-one, arith, length-append, length-drop, drop_of_length-le, get_or-drop, take_all, drop-cons, take-suc, drop-drop, w64, Fits, ltb-true, le-ltb, lt-ltb}
use lib.ListN.{get_or-append}
use lib.Seq.{drop-append-le}
use Rattle.sha256.specs.Constants.{K}
use Rattle.sha256.specs.Block.{next_w, schedule, round, rounds, sums, compress}
use Rattle.sha256.specs.Inner.{shifted, shifted_by, rounds_from}
use Rattle.sha256.specs.Word.{σ0, σ1}

-- the n elements of a list from place i on, written out
abbrev pub elements : List ℕ → ℕ → ℕ → List ℕ
elements w i zero = []
elements w i (suc n) = get_or w i 0 ∷ elements w (suc i) n

pub elements_are : (n i : ℕ) (w : List ℕ) → i + n ≡ length w → elements w i n ≡ drop i w
elements_are zero i w e = sym (drop_of_length-le w {i = i} (omega arith))
elements_are (suc n) i w e =
    ap (λ (l : List ℕ). get_or w i 0 ∷ l) (elements_are n (suc i) w (omega arith)) ∙ sym (drop-cons w i 0 (omega arith))

-- the word that the schedule gets at place t
abbrev word : ℕ → List ℕ → ℕ
word t m = cond (ltb t 16) (get_or m t 0) (next_w (schedule t m) t)

schedule-suc : (t : ℕ) (m : List ℕ) → schedule (suc t) m ≡ schedule t m ++ (word t m ∷ [])
unfolding schedule
schedule-suc t m = refl

schedule-length : (n : ℕ) (m : List ℕ) → length (schedule n m) ≡ n
unfolding schedule
schedule-length zero m = refl
schedule-length (suc n) m = length-append (schedule n m) (word n m ∷ []) ∙ omega (arith, schedule-length n m)

-- the words of a schedule stay as it grows
schedule-keeps : (more n j : ℕ) (m : List ℕ) → j < n → get_or (schedule (n + more) m) j 0 ≡ get_or (schedule n m) j 0
schedule-keeps zero n j m h = rw add-zero
schedule-keeps (suc more) n j m h =
    rw (add-suc, schedule-suc)
    (get_or-append (schedule (n + more) m) (word (n + more) m ∷ []) 0 j (omega (arith, schedule-length (n + more) m))
    ∙ schedule-keeps more n j m h)

-- the first sixteen words are the block's
schedule-begins : (n : ℕ) (m : List ℕ) → n ≤ 16 → length m ≡ 16 → schedule n m ≡ take n m
unfolding schedule
schedule-begins zero m h l = refl
schedule-begins (suc n) m h l =
    rw (lt-ltb n 16 (omega arith), schedule-begins n m (omega arith) l) (sym (take-suc m n 0 (omega arith)))

-- sixteen words of the schedule, from word t on
abbrev pub window : ℕ → List ℕ → List ℕ
window t m = drop t (schedule (t + 16) m)

pub window-first : (m : List ℕ) → length m ≡ 16 → m ≡ window 0 m
window-first m l = sym (schedule-begins 16 m (omega arith) l ∙ take_all 16 m (omega arith))

window-shifted : (t : ℕ) (m : List ℕ) → shifted (window t m) ≡ window (suc t) m
unfolding shifted next_w
window-shifted t m =
    let s : List ℕ = schedule (t + 16) m in
    let w : List ℕ = drop t (schedule (t + 16) m) in
    let ls : length (schedule (t + 16) m) ≡ t + 16 = schedule-length (t + 16) m in
    let lw : length (drop t (schedule (t + 16) m)) ≡ 16 = length-drop t (schedule (t + 16) m) ∙ omega arith in
    let back2 : t + 16 - 2 ≡ t + 14 = omega arith in
    let back7 : t + 16 - 7 ≡ t + 9 = omega arith in
    let back15 : t + 16 - 15 ≡ t + 1 = omega arith in
    let back16 : t + 16 - 16 ≡ t + 0 = omega arith in
    let x : ℕ = (σ1 (get_or w 14 0) + get_or w 9 0 + σ0 (get_or w 1 0) + get_or w 0 0) % 2 ^ 32 in
    let next : next_w s (t + 16) ≡ x =
    rw (back2, back7, back15, back16, ← get_or-drop t s 14 0, ← get_or-drop t s 9 0, ← get_or-drop t s 1 0, ← get_or-drop t s 0 0) in
    let tail : drop (suc t) s ≡ drop 1 w = sym (drop-drop 1 t s ∙ rw add-one) in
    let count : suc t + 16 ≡ suc (t + 16) = omega arith in
    ap (λ (v : List ℕ). v ++ (x ∷ [])) (elements_are 15 1 w (omega arith))
    ∙ sym (rw (count, schedule-suc, le-ltb (t + 16) 16 (omega arith))
    (drop-append-le (suc t) s (next_w s (t + 16) ∷ []) (omega arith) ∙ rw (tail, next)))

window-shifted_by : (n t : ℕ) (m : List ℕ) → shifted_by n (window t m) ≡ window (t + n) m
unfolding shifted_by
window-shifted_by zero t m = rw add-zero
window-shifted_by (suc n) t m =
    let count : suc (t + n) ≡ t + suc n = omega arith in
    ap shifted (window-shifted_by n t m) ∙ window-shifted (t + n) m ∙ ap (λ (k : ℕ). window k m) count

rounds-suc : (t : ℕ) (w v : List ℕ) → rounds (suc t) w v ≡ round (get_or K t 0) (get_or w t 0) (rounds t w v)
unfolding rounds
rounds-suc t w v = refl

-- rounds with the words of a window are rounds with those of the whole schedule
rounds_in_window : (n t : ℕ) (m v : List ℕ) → n ≤ 16 → t ≤ 48
    → rounds_from n K t (window t m) (rounds t (schedule 64 m) v) ≡ rounds (t + n) (schedule 64 m) v
unfolding rounds_from
rounds_in_window zero t m v h g = rw add-zero
rounds_in_window (suc n) t m v h g =
    let count : t + 16 + (48 - t) ≡ 64 = omega arith in
    let same : get_or (window t m) n 0 ≡ get_or (schedule 64 m) (t + n) 0 =
    get_or-drop t (schedule (t + 16) m) n 0 ∙ sym (schedule-keeps (48 - t) (t + 16) (t + n) m (omega arith))
    ∙ ap (λ (k : ℕ). get_or (schedule k m) (t + n) 0) count in
    rw (same, rounds_in_window n t m v (omega arith) g, add-suc, rounds-suc)

-- what the functions return, from what their callees return
pub slid : (w : List ℕ) {x y z : ℕ} → y ≡ σ1 (get_or w 14 0) → z ≡ σ0 (get_or w 1 0)
    → x ≡ (y + get_or w 9 0 + z + get_or w 0 0) % 2 ^ 32 → elements w 1 15 ++ (x ∷ []) ≡ shifted w
unfolding shifted
slid w p q r = cc

pub no_round : (k : List ℕ) (t : ℕ) (w v : List ℕ) → v ≡ rounds_from 0 k t w v
unfolding rounds_from
no_round k t w v = refl

pub one_more_round : (n : ℕ) (k : List ℕ) (t : ℕ) (w v x y : List ℕ) → x ≡ rounds_from n k t w v
    → y ≡ round (get_or k (t + n) 0) (get_or w n 0) x → y ≡ rounds_from (suc n) k t w v
unfolding rounds_from
one_more_round n k t w v x y ex ey = ey ∙ rw ex

-- one turn of the compression's loop
pub turn_rounds : (m h w v x : List ℕ) (t : ℕ) → t ≤ 48 → w ≡ window t m → v ≡ rounds t (schedule 64 m) h
    → x ≡ rounds_from 16 K t w v → x ≡ rounds (t + 16) (schedule 64 m) h
turn_rounds m h w v x t g ew ev ex = ex ∙ rw (ew, ev) (rounds_in_window 16 t m h (omega arith) g)

pub turn_window : (m w y : List ℕ) (t : ℕ) → w ≡ window t m → y ≡ shifted_by 16 w → y ≡ window (t + 16) m
turn_window m w y t ew ey = ey ∙ rw ew (window-shifted_by 16 t m)

pub compressed : (m h v r : List ℕ) → v ≡ rounds 64 (schedule 64 m) h → r ≡ sums v h → r ≡ compress h m
unfolding compress
compressed m h v r ev er = er ∙ rw ev

-- the place of the constant of round t + i
module _ (t i : ℕ) (h : t ≤ 48) (g : ltb i 16 ≡ true) where
  pub place-fits : Fits w64 (t + i)
  place-fits = omega (arith, ltb-true)

  pub offset_fits : Fits w64 ((t + i) * 4)
  offset_fits = omega (arith, ltb-true)

  pub place_in_table : t + i < 64
  place_in_table = omega (arith, ltb-true)
