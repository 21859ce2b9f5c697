-- RFC 8554, section 5.3: the tree over the one-time keys, and the public key.
use Rattle.std.specs.Prelude.{cond, List, [], ◌++◌, ℕ, zero, suc, ◌+◌, ◌-◌, ◌*◌, ◌^◌, leb}
use Rattle.sha256.specs.Hash.{sha256}
use Rattle.lms.specs.Types.{u32str, cat, prefix, D_LEAF, D_INTR}
use Rattle.lms.specs.declared.Ots.{Ots}
use Rattle.lms.specs.declared.Lms.{Lms}
use Rattle.lms.specs.Ots.{K}

-- Section 5.3: H(I || u32str(r) || u16str(D_LEAF) || OTS_PUB_HASH[r - 2^h])
unfoldable pub leaf : List ℕ → ℕ → List ℕ → List ℕ
leaf I r key = sha256 (prefix I r D_LEAF ++ key)

-- Section 5.3: H(I || u32str(r) || u16str(D_INTR) || T[2*r] || T[2*r+1])
unfoldable pub inner : List ℕ → ℕ → List ℕ → List ℕ → List ℕ
inner I r left right = sha256 (prefix I r D_INTR ++ left ++ right)

-- Section 5.3: T[r] by its two cases, r >= 2^h and otherwise; the two nodes below it count in the second only.
unfoldable pub node_over : Ots → ℕ → List ℕ → List ℕ → ℕ → List ℕ → List ℕ → List ℕ
node_over o h I SEED r left right = cond (leb (2 ^ h) r) (leaf I r (K o I SEED (r - 2 ^ h))) (inner I r left right)

-- T[r], where the first number bounds the levels that are gone down.
unfoldable pub node_within : ℕ → Ots → ℕ → List ℕ → List ℕ → ℕ → List ℕ
node_within zero o h I SEED r = []
node_within (suc n) o h I SEED r = node_over o h I SEED r (node_within n o h I SEED (2 * r)) (node_within n o h I SEED (2 * r + 1))

-- T[r], for r from 1: a tree of height h has h + 1 levels.
unfoldable pub T : Ots → ℕ → List ℕ → List ℕ → ℕ → List ℕ
T o h I SEED r = node_within (suc h) o h I SEED r

-- Document 01: "the key's tree, the RFC's nodes 1 to 2,047 in order"; for height h they end at 2^(h+1) - 1.
unfoldable pub tree_bytes : Ots → ℕ → List ℕ → List ℕ → List ℕ
tree_bytes o h I SEED = cat (λ i. T o h I SEED (suc i)) (2 ^ suc h - 1)

-- Document 01: "a lent buffer of 65,504 bytes", for height 10: 32 bytes for each node.
unfoldable pub tree_size : ℕ → ℕ
tree_size h = 32 * (2 ^ suc h - 1)

-- Section 5.3: u32str(type) || u32str(otstype) || I || T[1]
unfoldable pub public_key : Ots → Lms → List ℕ → List ℕ → List ℕ
public_key o l I root = u32str l.lmstype ++ u32str o.otstype ++ I ++ root
