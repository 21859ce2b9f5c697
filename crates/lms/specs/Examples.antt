-- The RFC's own examples and tables, computed from the definitions.
use Rattle.std.specs.Prelude.{◌≡◌, refl, List, [], ◌∷◌, ◌++◌, ℕ, ◌+◌, ◌-◌, ◌*◌, ◌/◌}
use Rattle.lms.specs.Signature.{signature_size}
use Rattle.lms.specs.declared.Ots.{Ots}
use Rattle.lms.specs.Types.{LMOTS_SHA256_N32_W1, LMOTS_SHA256_N32_W2, LMOTS_SHA256_N32_W4, LMOTS_SHA256_N32_W8}
use Rattle.lms.specs.Types.{u32str}
use Rattle.lms.specs.Ots.{coef, sum_to, Cksm, digit}
use Rattle.lms.specs.Tree.{tree_size}
use Rattle.lms.specs.Sets.{ots_of, lms_of, key_lms_type, key_ots_type, key_signature_size, key_tree_size, key_numbers}
use Rattle.sha256.specs.Bytes.{be, number_at}

-- Section 3.1.3: "if S is the string 0x1234, then coef(S, 7, 1) is 0 and coef(S, 0, 4) is 1".
coef_of_1234 : (coef (0x12 ∷ 0x34 ∷ []) 7 1 ≡ 0) × (coef (0x12 ∷ 0x34 ∷ []) 0 4 ≡ 1)
unfolding coef
coef_of_1234 = (refl, refl)

-- Appendix B: p = u + v, with u the values of w bits in n bytes and v those in the checksum's 16 - ls bits.
strings : Ots → ℕ
strings o = 32 * 8 / o.w + (16 - o.ls) / o.w

strings_of_table_1 :
    (strings LMOTS_SHA256_N32_W1 ≡ (LMOTS_SHA256_N32_W1).p)
    × ((strings LMOTS_SHA256_N32_W2 ≡ (LMOTS_SHA256_N32_W2).p)
    × ((strings LMOTS_SHA256_N32_W4 ≡ (LMOTS_SHA256_N32_W4).p) × (strings LMOTS_SHA256_N32_W8 ≡ (LMOTS_SHA256_N32_W8).p)))
unfolding strings
strings_of_table_1 = (refl, (refl, (refl, refl)))

-- Appendix F, test case 2, top level: Q, the hash of the text.
Q : List ℕ
Q =
    0x86 ∷ 0xaa ∷ 0xba ∷ 0x29 ∷ 0x43 ∷ 0x10 ∷ 0x4a ∷ 0x72 ∷ 0x23 ∷ 0xc7 ∷ 0xbe ∷ 0x46 ∷ 0x56 ∷ 0x92 ∷ 0xf5 ∷ 0x54 ∷
    0x77 ∷ 0xd1 ∷ 0x58 ∷ 0x6d ∷ 0x37 ∷ 0xc4 ∷ 0xc0 ∷ 0x25 ∷ 0x0a ∷ 0x04 ∷ 0xfe ∷ 0xdb ∷ 0x0c ∷ 0x9e ∷ 0x8e ∷ 0xf1 ∷ []

checksum_of_Q : Cksm LMOTS_SHA256_N32_W4 Q ≡ 0x1f ∷ 0xc0 ∷ []
unfolding Q Cksm sum_to coef be
checksum_of_Q = refl

last_digits_of_Q :
    (digit LMOTS_SHA256_N32_W4 Q 63 ≡ 1)
    × ((digit LMOTS_SHA256_N32_W4 Q 64 ≡ 1) × ((digit LMOTS_SHA256_N32_W4 Q 65 ≡ 15) × (digit LMOTS_SHA256_N32_W4 Q 66 ≡ 12)))
unfolding Q digit Cksm sum_to coef be
last_digits_of_Q = (refl, (refl, (refl, refl)))

-- Document 02, g: a signature's bytes for widths 1, 2, 4 and 8, at height 5 and at height 10; document 01's is 2,508.
signatures : ℕ → List ℕ
signatures lmstype =
    signature_size (ots_of 1) (lms_of lmstype) ∷ signature_size (ots_of 2) (lms_of lmstype) ∷ signature_size (ots_of 3) (lms_of lmstype)
    ∷ signature_size (ots_of 4) (lms_of lmstype) ∷ []

signature_sizes : (signatures 5 ≡ 8684 ∷ 4460 ∷ 2348 ∷ 1292 ∷ []) × (signatures 6 ≡ 8844 ∷ 4620 ∷ 2508 ∷ 1452 ∷ [])
unfolding signatures signature_size ots_of lms_of
signature_sizes = (refl, refl)

-- The front of a key of types 5 and 4, and of one of types 6 and 3, document 01's: a tree of 65,504 bytes and 1,024 signatures.
key_5_4 : List ℕ
key_5_4 = u32str 5 ++ u32str 4

key_6_3 : List ℕ
key_6_3 = u32str 6 ++ u32str 3

key_sizes :
    ((key_signature_size key_5_4 ≡ 1292) × ((key_tree_size key_5_4 ≡ 2016) × (key_numbers key_5_4 ≡ 32)))
    × ((key_signature_size key_6_3 ≡ 2508) × ((key_tree_size key_6_3 ≡ 65504) × (key_numbers key_6_3 ≡ 1024)))
unfolding key_5_4 key_6_3 be number_at key_lms_type key_ots_type key_signature_size key_tree_size key_numbers signature_size tree_size ots_of lms_of
key_sizes = ((refl, (refl, refl)), (refl, (refl, refl)))
