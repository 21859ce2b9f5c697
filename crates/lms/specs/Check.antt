-- RFC 8554, section 5.4.2: the check of a signature, Algorithms 6 and 6a.
use Rattle.std.specs.Prelude.{Option, Some, None, Bool, true, false, cond, ◌&&◌, List, ℕ, zero, suc, ◌+◌, ◌*◌, ◌/◌, ◌%◌, ◌^◌, eqb, ltb, length, take, drop}
use Rattle.sha256.specs.Bytes.{number_at, eqs}
use Rattle.lms.specs.declared.Ots.{Ots}
use Rattle.lms.specs.declared.Lms.{Lms}
use Rattle.lms.specs.Ots.{Kc}
use Rattle.lms.specs.Tree.{leaf, inner}
use Rattle.lms.specs.Signature.{signature_size}

-- Algorithm 6a, step 4, one turn: the node above node_num, from tmp and path[i].
unfoldable pub above : List ℕ → ℕ → List ℕ → List ℕ → List ℕ
above I node_num tmp beside = cond (eqb (node_num % 2) 1) (inner I (node_num / 2) beside tmp) (inner I (node_num / 2) tmp beside)

-- Algorithm 6a, step 4: tmp after i turns, which halve node_num i times. From a node of height h, node_num > 1 holds for h turns.
unfoldable pub climb : List ℕ → List ℕ → ℕ → List ℕ → ℕ → List ℕ
climb I path node_num tmp zero = tmp
climb I path node_num tmp (suc i) = above I (node_num / 2 ^ i) (climb I path node_num tmp i) (take 32 (drop (32 * i) path))

-- Algorithm 6a, steps 3 and 4: the candidate root Tc.
unfoldable pub Tc : Ots → ℕ → List ℕ → ℕ → List ℕ → List ℕ → List ℕ → List ℕ → List ℕ
Tc o h I q C y path message = climb I path (2 ^ h + q) (leaf I (2 ^ h + q) (Kc o I q C y message)) h

-- Algorithm 6, steps 1 and 2: the key is of the set's types and exactly 24 + m bytes long.
unfoldable pub key_fits : Ots → Lms → List ℕ → Bool
key_fits o l key = eqb (length key) (24 + 32) && (eqb (number_at 4 key 0) l.lmstype && eqb (number_at 4 key 4) o.otstype)

-- Algorithm 6a, 2 f: where the signature's own type stands.
unfoldable pub type_place : Ots → ℕ
type_place o = 8 + 32 * (o.p + 1)

-- Algorithm 6a, steps 1 and 2: exact length (1, d, i), types (c, g) and number (i).
-- Algorithm 4b's own tests, its steps 1 and 2, are c and d again.
unfoldable pub signature_fits : Ots → Lms → List ℕ → Bool
signature_fits o l s =
    eqb (length s) (signature_size o l) && (eqb (number_at 4 s 4) o.otstype
    && (eqb (number_at 4 s (type_place o)) l.lmstype && ltb (number_at 4 s 0) (2 ^ l.h)))

-- Algorithm 6, step 3: Tc from the parts of key and signature: I; q, C, y, path.
unfoldable pub root_of : Ots → Lms → List ℕ → List ℕ → List ℕ → List ℕ
root_of o l key m s = Tc o l.h (take 16 (drop 8 key)) (number_at 4 s 0) (take 32 (drop 8 s)) (drop 40 s) (drop (type_place o + 4) s) m

-- Algorithm 6: VALID with the number q that was used, or INVALID.
unfoldable pub check_of : Ots → Lms → List ℕ → List ℕ → List ℕ → Option ℕ
check_of o l key message s = let valid = key_fits o l key && (signature_fits o l s && eqs (root_of o l key message s) (drop 24 key)) in
    cond valid (Some (number_at 4 s 0)) None

-- Whether an answer is VALID.
abbrev pub is_valid : Option ℕ → Bool
is_valid None = false
is_valid (Some q) = true
