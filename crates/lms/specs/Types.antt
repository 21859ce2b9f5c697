-- RFC 8554: strings of numbers, the parameter sets' tables, the values that tell the hashed strings apart.
-- The hash is SHA-256 and n = m = 32 in each set named here.
use Rattle.std.specs.Prelude.{List, [], ◌++◌, ℕ, zero, suc}
use Rattle.sha256.specs.Bytes.{be}
use Rattle.lms.specs.declared.Ots.{Ots}
use Rattle.lms.specs.declared.Lms.{Lms}

-- Section 3.1: u8str, u16str and u32str, the number's bytes in network order.
abbrev pub u8str : ℕ → List ℕ
u8str = be 1

abbrev pub u16str : ℕ → List ℕ
u16str = be 2

abbrev pub u32str : ℕ → List ℕ
u32str = be 4

-- S[0] || S[1] || .. || S[i - 1]
unfoldable pub cat : (ℕ → List ℕ) → ℕ → List ℕ
cat S zero = []
cat S (suc i) = cat S i ++ S i

-- Section 4.1, Table 1, with n = 32.
abbrev pub LMOTS_SHA256_N32_W1 : Ots
LMOTS_SHA256_N32_W1 = record { otstype = 1; w = 1; p = 265; ls = 7 }

abbrev pub LMOTS_SHA256_N32_W2 : Ots
LMOTS_SHA256_N32_W2 = record { otstype = 2; w = 2; p = 133; ls = 6 }

abbrev pub LMOTS_SHA256_N32_W4 : Ots
LMOTS_SHA256_N32_W4 = record { otstype = 3; w = 4; p = 67; ls = 4 }

abbrev pub LMOTS_SHA256_N32_W8 : Ots
LMOTS_SHA256_N32_W8 = record { otstype = 4; w = 8; p = 34; ls = 0 }

-- Section 5.1, Table 2, with m = 32.
abbrev pub LMS_SHA256_M32_H5 : Lms
LMS_SHA256_M32_H5 = record { lmstype = 5; h = 5 }

abbrev pub LMS_SHA256_M32_H10 : Lms
LMS_SHA256_M32_H10 = record { lmstype = 6; h = 10 }

-- Section 7.1: the values between the hashed strings' numbers and their contents.
abbrev pub D_PBLC : ℕ
D_PBLC = 0x8080

abbrev pub D_MESG : ℕ
D_MESG = 0x8181

abbrev pub D_LEAF : ℕ
D_LEAF = 0x8282

abbrev pub D_INTR : ℕ
D_INTR = 0x8383

-- I || u32str(q) || u16str(i): every hashed string begins so, with a key's or a node's number and a chain's number or one of the
-- values above.
unfoldable pub prefix : List ℕ → ℕ → ℕ → List ℕ
prefix I q i = I ++ u32str q ++ u16str i
