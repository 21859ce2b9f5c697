-- The user list, "one N, log name and user list": users' RFC 8554 public keys, 56 bytes each, one behind the other. Users are numbered
-- from 1. All that is asked of it, and every length that follows from a key, stands here.
use Rattle.std.specs.Prelude.{Bool, ◌&&◌, List, ℕ, ◌+◌, ◌-◌, ◌*◌, ◌/◌, ◌%◌, ◌^◌, eqb, leb, length, take, drop}
use Rattle.lms.specs.Types.{LMOTS_SHA256_N32_W4, LMS_SHA256_M32_H10}
use Rattle.lms.specs.Tree.{tree_size}
use Rattle.lms.specs.Signature.{signature_size}

-- How many users the list has: its whole keys.
unfoldable pub user_count : List ℕ → ℕ
user_count users = length users / 56

-- The key of user a.
unfoldable pub user_key : List ℕ → ℕ → List ℕ
user_key users a = take 56 (drop (56 * (a - 1)) users)

unfoldable pub is_listed : List ℕ → ℕ → Bool
is_listed users a = leb 1 a && leb a (user_count users)

-- "user count (1..64)". A list that is not whole keys has no count.
unfoldable pub list_fits : List ℕ → Bool
list_fits users = eqb (length users % 56) 0 && (leb 1 (user_count users) && leb (user_count users) 64)

-- Document 01, code 22: "N, user count (1..64) .. outside its range"; N is 2 to 16.
unfoldable pub group_fits : ℕ → List ℕ → Bool
group_fits n users = leb 2 n && (leb n 16 && list_fits users)

-- How long user a's signatures are, how long the tree of its key is, and how many signatures the key makes. Every key is of one type.
unfoldable pub signature_length : List ℕ → ℕ → ℕ
signature_length users a = signature_size LMOTS_SHA256_N32_W4 LMS_SHA256_M32_H10

unfoldable pub tree_length : List ℕ → ℕ → ℕ
tree_length users a = tree_size (LMS_SHA256_M32_H10).h

unfoldable pub signature_count : List ℕ → ℕ → ℕ
signature_count users a = 2 ^ (LMS_SHA256_M32_H10).h

-- The longest signature that a key may make, and the tree of such a key.
abbrev pub longest_signature : ℕ
longest_signature = 2508

abbrev pub longest_tree : ℕ
longest_tree = 65504

-- Document 01, code 21: "lent buffer below 2,566 (request to be written), 2,552 (answer)": a Commit has 58 bytes before its signature, the
-- answer to a Record 44.
abbrev pub least_request : ℕ
least_request = 58 + longest_signature

abbrev pub least_answer : ℕ
least_answer = 44 + longest_signature
