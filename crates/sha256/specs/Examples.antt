-- FIPS 180-4's definition, computed on the empty message and NIST's examples "abc" (one block) and the message of 56 bytes (two blocks).
use Rattle.std.specs.Prelude.{◌≡◌, [], ◌∷◌, refl}
use Rattle.sha256.specs.Bytes.{be, number_at}
use Rattle.sha256.specs.Word.{¬32, SHL, SHR, ROTR, Ch, Maj, Σ0, Σ1, σ0, σ1}
use Rattle.sha256.specs.Constants.{K, H0}
use Rattle.sha256.specs.Block.{next_w, schedule, T1, T2, round, rounds, sums, compress}
use Rattle.sha256.specs.Hash.{zeros, padding, pad, words, block, hash_value, bytes, sha256}

pub empty_message : sha256 [] ≡ 227 ∷ 176 ∷ 196 ∷ 66 ∷ 152 ∷ 252 ∷ 28 ∷ 20 ∷ 154 ∷ 251 ∷ 244 ∷ 200 ∷ 153 ∷ 111 ∷ 185 ∷ 36 ∷ 39 ∷ 174
    ∷ 65 ∷ 228 ∷ 100 ∷ 155 ∷ 147 ∷ 76 ∷ 164 ∷ 149 ∷ 153 ∷ 27 ∷ 120 ∷ 82 ∷ 184 ∷ 85 ∷ []
unfolding be number_at ¬32 SHL SHR ROTR Ch Maj Σ0 Σ1 σ0 σ1 K H0 next_w schedule T1 T2 round rounds sums compress
    zeros padding pad words block hash_value bytes sha256
empty_message = refl

pub abc : sha256 (97 ∷ 98 ∷ 99 ∷ []) ≡ 186 ∷ 120 ∷ 22 ∷ 191 ∷ 143 ∷ 1 ∷ 207 ∷ 234 ∷ 65 ∷ 65 ∷ 64 ∷ 222 ∷ 93 ∷ 174 ∷ 34 ∷ 35 ∷ 176 ∷ 3
    ∷ 97 ∷ 163 ∷ 150 ∷ 23 ∷ 122 ∷ 156 ∷ 180 ∷ 16 ∷ 255 ∷ 97 ∷ 242 ∷ 0 ∷ 21 ∷ 173 ∷ []
unfolding be number_at ¬32 SHL SHR ROTR Ch Maj Σ0 Σ1 σ0 σ1 K H0 next_w schedule T1 T2 round rounds sums compress
    zeros padding pad words block hash_value bytes sha256
abc = refl

pub two_blocks : sha256 (97 ∷ 98 ∷ 99 ∷ 100 ∷ 98 ∷ 99 ∷ 100 ∷ 101 ∷ 99 ∷ 100 ∷ 101 ∷ 102 ∷ 100 ∷ 101 ∷ 102 ∷ 103 ∷ 101 ∷ 102 ∷ 103 ∷ 104
    ∷ 102 ∷ 103 ∷ 104 ∷ 105 ∷ 103 ∷ 104 ∷ 105 ∷ 106 ∷ 104 ∷ 105 ∷ 106 ∷ 107 ∷ 105 ∷ 106 ∷ 107 ∷ 108 ∷ 106 ∷ 107 ∷ 108 ∷ 109 ∷ 107 ∷ 108
    ∷ 109 ∷ 110 ∷ 108 ∷ 109 ∷ 110 ∷ 111 ∷ 109 ∷ 110 ∷ 111 ∷ 112 ∷ 110 ∷ 111 ∷ 112 ∷ 113 ∷ [])
    ≡ 36 ∷ 141 ∷ 106 ∷ 97 ∷ 210 ∷ 6 ∷ 56 ∷ 184 ∷ 229 ∷ 192 ∷ 38 ∷ 147 ∷ 12 ∷ 62 ∷ 96 ∷ 57 ∷ 163 ∷ 60 ∷ 228 ∷ 89 ∷ 100 ∷ 255 ∷ 33 ∷ 103
    ∷ 246 ∷ 236 ∷ 237 ∷ 212 ∷ 25 ∷ 219 ∷ 6 ∷ 193 ∷ []
unfolding be number_at ¬32 SHL SHR ROTR Ch Maj Σ0 Σ1 σ0 σ1 K H0 next_w schedule T1 T2 round rounds sums compress
    zeros padding pad words block hash_value bytes sha256
two_blocks = refl
