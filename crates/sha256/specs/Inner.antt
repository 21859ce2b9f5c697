-- What only inner contracts cite: sixteen words of the schedule at a time, as the compression's loop goes through FIPS 180-4's 64 rounds,
-- and what the streaming state holds once it has taken in a message.
use Rattle.std.specs.Prelude.{ℕ, zero, suc, ◌+◌, ◌-◌, ◌*◌, ◌/◌, ◌%◌, ◌^◌, List, [], ◌∷◌, ◌++◌, length, drop, replicate, slice_index}
use Rattle.sha256.specs.Word.{σ0, σ1}
use Rattle.sha256.specs.Block.{round}
use Rattle.sha256.specs.Hash.{hash_value}
use Rattle.sha256.specs.declared.stream.Sha.{Sha}

-- W_(t+1) .. W_(t+16) from W_t .. W_(t+15).
unfoldable pub shifted : List ℕ → List ℕ
shifted w =
    slice_index w 1 ∷ slice_index w 2 ∷ slice_index w 3 ∷ slice_index w 4 ∷ slice_index w 5 ∷ slice_index w 6 ∷ slice_index w 7 ∷ slice_index w 8
    ∷ slice_index w 9 ∷ slice_index w 10 ∷ slice_index w 11 ∷ slice_index w 12 ∷ slice_index w 13 ∷ slice_index w 14 ∷ slice_index w 15
    ∷ (σ1 (slice_index w 14) + slice_index w 9 + σ0 (slice_index w 1) + slice_index w 0) % 2 ^ 32 ∷ []

unfoldable pub shifted_by : ℕ → List ℕ → List ℕ
shifted_by zero w = w
shifted_by (suc n) w = shifted (shifted_by n w)

-- n rounds, the first with the constant at place t of k and the first word of w.
unfoldable pub rounds_from : ℕ → List ℕ → ℕ → List ℕ → List ℕ → List ℕ
rounds_from zero k t w v = v
rounds_from (suc n) k t w v = round (slice_index k (t + n)) (slice_index w n) (rounds_from n k t w v)

-- The bytes of m after its last whole block.
unfoldable pub rest : List ℕ → List ℕ
rest m = drop (64 * (length m / 64)) m

-- The state after m: the hash value of m's whole blocks, the rest of m with zeros after it, and m's length modulo 2^64.
unfoldable pub streamed : List ℕ → Sha
streamed m =
    record {
      state = hash_value (length m / 64) m;
      block = rest m ++ replicate (64 - length m % 64) 0;
      total = length m % 2 ^ 64;
    }
