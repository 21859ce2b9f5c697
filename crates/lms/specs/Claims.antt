-- What holds of every key and signature, for each width and height.
use Rattle.std.specs.Prelude.{Some, ◌≡◌, List, ◌++◌, ℕ, ◌^◌, ◌<◌, ◌≤◌, length, take}
use Rattle.sha256.specs.Hash.{sha256}
use Rattle.lms.specs.Types.{u16str, u32str, D_MESG}
use Rattle.lms.specs.declared.Ots.{Ots}
use Rattle.lms.specs.declared.Lms.{Lms}
use Rattle.lms.specs.Ots.{text_hash}
use Rattle.lms.specs.Tree.{T, tree_bytes, tree_size, public_key}
use Rattle.lms.specs.Signature.{signature, signature_size}
use Rattle.lms.specs.Calls.{generate_code, generated, public_key_code, public_key_written, sign_code, signed}
use Rattle.lms.specs.Check.{check_of}

-- Types and numbers fit the four bytes that a key and a signature have for each. Every row of the RFC's tables does.
pub record Set (o : Ots) (l : Lms) : Type 0 where
  pub ots_fits : o.otstype < 2 ^ 32
  pub type_fits : l.lmstype < 2 ^ 32
  pub numbers_fit : l.h ≤ 32

-- The signature made with the generated key's tree is accepted under its public key, with its number, whatever follows the tree in its
-- buffer.
unfoldable pub RoundTrip : Type 0
RoundTrip =
    (o : Ots) (l : Lms) → Set o l → (I SEED C message rest : List ℕ) (q : ℕ) → length I ≡ 16 → length C ≡ 32 → q < 2 ^ l.h
    → check_of o l (public_key o l I (T o l.h I SEED 1)) message (signature o l I SEED q C message (tree_bytes o l.h I SEED ++ rest))
    ≡ Some q

-- A signature has 12 + n * (p + 1) + m * h bytes, whatever the bytes of the tree are.
unfoldable pub SignatureLength : Type 0
SignatureLength =
    (o : Ots) (l : Lms) (I SEED C message tree : List ℕ) (q : ℕ) → length C ≡ 32 → q < 2 ^ l.h → tree_size l.h ≤ length tree
    → length (signature o l I SEED q C message tree) ≡ signature_size o l

-- What is hashed of the text is the RFC's string and nothing else.
unfoldable pub TextHashed : Type 0
TextHashed =
    (I C message : List ℕ) (q : ℕ) → text_hash I q C message ≡ sha256 (I ++ u32str q ++ u16str D_MESG ++ C ++ message)

-- The same of the calls, on any lent buffers that are long enough: what the public key's call and the signing call leave at the
-- front of theirs, out of the tree that key generation left in its own, is accepted, with the number; and all three answer 0.
unfoldable pub CallsRoundTrip : Type 0
CallsRoundTrip =
    (o : Ots) (l : Lms) → Set o l → (I SEED C message tree key place : List ℕ) (q : ℕ) → length I ≡ 16 → length C ≡ 32 → q < 2 ^ l.h
    → tree_size l.h ≤ length tree → 56 ≤ length key → signature_size o l ≤ length place
    → (generate_code l tree ≡ 0)
    × (public_key_code l (generated o l I SEED tree) key ≡ 0)
    × (sign_code o l q (generated o l I SEED tree) place ≡ 0)
    × (check_of o l (take 56 (public_key_written o l I (generated o l I SEED tree) key)) message
    (take (signature_size o l) (signed o l I SEED q C message (generated o l I SEED tree) place))
    ≡ Some q)
