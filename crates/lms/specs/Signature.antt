-- RFC 8554, section 5.4 and 5.4.1: the signature, its path taken from the key's tree.
use Rattle.std.specs.Prelude.{List, ◌++◌, ℕ, ◌+◌, ◌-◌, ◌*◌, ◌/◌, ◌^◌, take, drop}
use Rattle.std.specs.Int.Bits.{bit_xor}
use Rattle.lms.specs.Types.{u32str, cat}
use Rattle.lms.specs.declared.Ots.{Ots}
use Rattle.lms.specs.declared.Lms.{Lms}
use Rattle.lms.specs.Ots.{ots_signature}

-- T[r] out of the bytes of a tree, whose first node is T[1].
unfoldable pub node_at : List ℕ → ℕ → List ℕ
node_at tree r = take 32 (drop (32 * (r - 1)) tree)

-- Section 5.4.1: the number of the node beside the way at level i, floor(r / 2^i) xor 1, with r = 2^h + q.
unfoldable pub path_node : ℕ → ℕ → ℕ → ℕ
path_node h q i = bit_xor ((2 ^ h + q) / 2 ^ i) 1

-- Section 5.4.1: path[0] || .. || path[h-1], from the leaf up.
unfoldable pub path : ℕ → List ℕ → ℕ → List ℕ
path h tree q = cat (λ i. node_at tree (path_node h q i)) h

-- Section 5.4: u32str(q) || lmots_signature || u32str(type) || path[0] || .. || path[h-1]
unfoldable pub signature : Ots → Lms → List ℕ → List ℕ → ℕ → List ℕ → List ℕ → List ℕ → List ℕ
signature o l I SEED q C message tree = u32str q ++ ots_signature o I SEED q C message ++ u32str l.lmstype ++ path l.h tree q

-- Section 5.4: a signature's length, 12 + n * (p + 1) + m * h bytes.
unfoldable pub signature_size : Ots → Lms → ℕ
signature_size o l = 12 + 32 * (o.p + 1) + 32 * l.h
