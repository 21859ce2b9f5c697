-- FIPS 180-4, section 6.2.2: one block of sixteen words is taken into the hash value of eight words.
use Rattle.std.specs.Prelude.{ℕ, zero, suc, ◌+◌, ◌-◌, ◌%◌, ◌^◌, cond, List, [], ◌∷◌, ◌++◌, nat_lt, slice_index}
use Rattle.sha256.specs.Word.{Ch, Maj, Σ0, Σ1, σ0, σ1}
use Rattle.sha256.specs.Constants.{K}

-- Step 1, 16 ≤ t: W_t from the words before it.
unfoldable pub next_w : List ℕ → ℕ → ℕ
next_w w t = (σ1 (slice_index w (t - 2)) + slice_index w (t - 7) + σ0 (slice_index w (t - 15)) + slice_index w (t - 16)) % 2 ^ 32

-- Step 1: the message schedule W_0 .. W_(n-1) of the block m. Its first sixteen words are the block's own.
unfoldable pub schedule : ℕ → List ℕ → List ℕ
schedule zero m = []
schedule (suc t) m = schedule t m ++ (cond (nat_lt t 16) (slice_index m t) (next_w (schedule t m) t) ∷ [])

-- Step 3: T_1 and T_2, with k for K_t and w for W_t.
unfoldable pub T1 : ℕ → ℕ → ℕ → ℕ → ℕ → ℕ → ℕ
T1 k w e f g h = (h + Σ1 e + Ch e f g + k + w) % 2 ^ 32

unfoldable pub T2 : ℕ → ℕ → ℕ → ℕ
T2 a b c = (Σ0 a + Maj a b c) % 2 ^ 32

-- Step 3: the working variables after one round, from a .. h.
abbrev pub round_from : ℕ → ℕ → ℕ → ℕ → ℕ → ℕ → ℕ → ℕ → ℕ → ℕ → List ℕ
round_from k w a b c d e f g h = (T1 k w e f g h + T2 a b c) % 2 ^ 32 ∷ a ∷ b ∷ c ∷ (d + T1 k w e f g h) % 2 ^ 32 ∷ e ∷ f ∷ g ∷ []

-- The same, from the list of the eight working variables.
unfoldable pub round : ℕ → ℕ → List ℕ → List ℕ
round k w v = round_from k w (slice_index v 0) (slice_index v 1) (slice_index v 2) (slice_index v 3) (slice_index v 4) (slice_index v 5) (slice_index v 6) (slice_index v 7)

-- Step 3: the working variables after the first t rounds, from the schedule w and the variables v.
unfoldable pub rounds : ℕ → List ℕ → List ℕ → List ℕ
rounds zero w v = v
rounds (suc t) w v = round (slice_index K t) (slice_index w t) (rounds t w v)

-- Step 4: the sum of the words at place i, and all eight sums.
abbrev pub sum_at : List ℕ → List ℕ → ℕ → ℕ
sum_at x y i = (slice_index x i + slice_index y i) % 2 ^ 32

unfoldable pub sums : List ℕ → List ℕ → List ℕ
sums x y = sum_at x y 0 ∷ sum_at x y 1 ∷ sum_at x y 2 ∷ sum_at x y 3 ∷ sum_at x y 4 ∷ sum_at x y 5 ∷ sum_at x y 6 ∷ sum_at x y 7 ∷ []

-- Steps 1 to 4: H^(i) from H^(i-1), here h, and the words m of block i.
unfoldable pub compress : List ℕ → List ℕ → List ℕ
compress h m = sums (rounds 64 (schedule 64 m) h) h
