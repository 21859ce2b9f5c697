-- Parameter sets by their types' numbers, and what a public key's types say (document 02, g).
use Rattle.std.specs.Prelude.{Bool, cond, ◌&&◌, List, ℕ, ◌^◌, leb, eqb}
use Rattle.sha256.specs.Bytes.{number_at}
use Rattle.lms.specs.declared.Ots.{Ots}
use Rattle.lms.specs.declared.Lms.{Lms}
use Rattle.lms.specs.Types.{LMOTS_SHA256_N32_W1, LMOTS_SHA256_N32_W2, LMOTS_SHA256_N32_W4, LMOTS_SHA256_N32_W8}
use Rattle.lms.specs.Types.{LMS_SHA256_M32_H5, LMS_SHA256_M32_H10}
use Rattle.lms.specs.Tree.{tree_size}
use Rattle.lms.specs.Signature.{signature_size}

-- A number other than t that is no type of Table 1 or 2.
unfoldable pub other_type : ℕ → ℕ
other_type t = cond (eqb t 0) 4294967295 0

-- RFC 8554, section 4.1: Table 1 by the type. Any other number has a row of another type, so that Algorithm 6 refuses a key that
-- names it.
unfoldable pub ots_of : ℕ → Ots
ots_of t =
    cond (eqb t 1) LMOTS_SHA256_N32_W1
    (cond (eqb t 2) LMOTS_SHA256_N32_W2
    (cond (eqb t 3) LMOTS_SHA256_N32_W4
    (cond (eqb t 4) LMOTS_SHA256_N32_W8 (record { otstype = other_type t; w = 4; p = 67; ls = 4 }))))

-- Section 5.1: Table 2 by the type, up to height 10. Any other number likewise.
unfoldable pub lms_of : ℕ → Lms
lms_of t = cond (eqb t 5) LMS_SHA256_M32_H5 (cond (eqb t 6) LMS_SHA256_M32_H10 (record { lmstype = other_type t; h = 10 }))

-- Document 02, g: "height 5 or 10 with Winternitz width 1, 2, 4 or 8, as RFC 8554 types them"; the LMS type first, as in a key.
unfoldable pub is_set : ℕ → ℕ → Bool
is_set lmstype otstype = (leb 5 lmstype && leb lmstype 6) && (leb 1 otstype && leb otstype 4)

-- Section 5.3: a public key is u32str(type) || u32str(otstype) || I || T[1].
unfoldable pub key_lms_type : List ℕ → ℕ
key_lms_type key = number_at 4 key 0

unfoldable pub key_ots_type : List ℕ → ℕ
key_ots_type key = number_at 4 key 4

-- Document 02, g: "Message and key lengths follow the type".
unfoldable pub key_signature_size : List ℕ → ℕ
key_signature_size key = signature_size (ots_of (key_ots_type key)) (lms_of (key_lms_type key))

unfoldable pub key_tree_size : List ℕ → ℕ
key_tree_size key = tree_size (lms_of (key_lms_type key)).h

-- Document 02, g: "A key is spent at 32 or 1,024 signatures".
unfoldable pub key_numbers : List ℕ → ℕ
key_numbers key = 2 ^ (lms_of (key_lms_type key)).h
