-- What the entry points answer and write. A call that is refused writes nothing.
use Rattle.std.specs.Prelude.{cond, ◌&&◌, List, ℕ, ◌^◌, leb, ltb, eqb, length}
use Rattle.sha256.specs.Bytes.{written}
use Rattle.lms.specs.declared.Ots.{Ots}
use Rattle.lms.specs.declared.Lms.{Lms}
use Rattle.lms.specs.Tree.{tree_bytes, tree_size, public_key}
use Rattle.lms.specs.Signature.{node_at, signature, signature_size}

-- Document 01: "21: lent buffer below .. 65,504 (key)".
unfoldable pub generate_code : Lms → List ℕ → ℕ
generate_code l tree = cond (leb (tree_size l.h) (length tree)) 0 21

unfoldable pub generated : Ots → Lms → List ℕ → List ℕ → List ℕ → List ℕ
generated o l I SEED tree = cond (eqb (generate_code l tree) 0) (written tree 0 (tree_bytes o l.h I SEED)) tree

-- The public key out of a tree, into 56 bytes.
unfoldable pub public_key_code : Lms → List ℕ → List ℕ → ℕ
public_key_code l tree key = cond (leb (tree_size l.h) (length tree) && leb 56 (length key)) 0 21

unfoldable pub public_key_written : Ots → Lms → List ℕ → List ℕ → List ℕ → List ℕ
public_key_written o l I tree key = cond (eqb (public_key_code l tree key) 0) (written key 0 (public_key o l I (node_at tree 1))) key

-- 21 where tree or place is short, then, document 01: "17: signature number 1,024 reached".
unfoldable pub sign_code : Ots → Lms → ℕ → List ℕ → List ℕ → ℕ
sign_code o l q tree place =
    cond (leb (tree_size l.h) (length tree) && leb (signature_size o l) (length place)) (cond (ltb q (2 ^ l.h)) 0 17) 21

-- Document 01: "the signature is written straight into its place"; what follows it stays.
unfoldable pub signed : Ots → Lms → List ℕ → List ℕ → ℕ → List ℕ → List ℕ → List ℕ → List ℕ → List ℕ
signed o l I SEED q C m tree place = cond (eqb (sign_code o l q tree place) 0) (written place 0 (signature o l I SEED q C m tree)) place
