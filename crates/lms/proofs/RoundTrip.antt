-- What is signed is accepted: the parts of a key and of a signature are read back as they were written.
use mathlib.Core.Path.{◌≡◌, refl, ◌∙◌, sym, ap}
use mathlib.Core.Bool.{true}
use mathlib.Core.List.{List, ◌++◌, append_assoc}
use Rattle.std.specs.Prelude.{Some}
use Prim.Native.Nat.{ℕ, ◌+◌, ◌-◌, ◌*◌, ◌^◌, ◌≤◌, ◌<◌, suc}
use native.Mathlib.Nat.{add-zero, pow-suc}
use native.Mathlib.Omega.{arith}
use borrow.Author.Tests.{eq-eqb, lt-ltb, le-leb}
use lib.Pow.{pow_pos, pow_mono}
use lib.ListN.{length, take, drop, length-append}
use lib.Seq.{take_at, drop_at, drop-drop}
use Rattle.sha256.specs.Bytes.{number_at, written}
use Rattle.lms.specs.Types.{LMOTS_SHA256_N32_W4, LMS_SHA256_M32_H10, u32str, cat, prefix}
use Rattle.lms.specs.declared.Ots.{Ots}
use Rattle.lms.specs.declared.Lms.{Lms}
use Rattle.lms.specs.Ots.{K, text_hash, opened, ots_signature}
use Rattle.lms.specs.Tree.{leaf, T, tree_bytes, tree_size, public_key}
use Rattle.lms.specs.Signature.{node_at, path, signature, signature_size}
use Rattle.lms.specs.Check.{Tc, key_fits, type_place, signature_fits, root_of, check_of}
use Rattle.lms.specs.Claims.{Set, RoundTrip, SignatureLength, TextHashed, CallsRoundTrip}
use Rattle.sha256.proofs.Words.{number-drop}
use Rattle.sha256.proofs.Laws.{be-length, number-be, eqs_refl, written-fits}
use Rattle.lms.specs.Calls.{generate_code, generated, public_key_code, public_key_written, sign_code, signed}
use Rattle.lms.proofs.Parts.{cat-length}
use Rattle.lms.proofs.Chains.{opened-length, opened-closes}
use Rattle.lms.proofs.Nodes.{node-whole, at_leaf, node_in_tree, node-length, tree-length, path-length, path_leads_to_root}

pub text-hashed : TextHashed
unfolding TextHashed text_hash prefix
text-hashed I C message q = refl

-- what stands behind the part x, which begins at n
behind : (s x y : List ℕ) (n c : ℕ) → drop n s ≡ x ++ y → length x ≡ c → drop (n + c) s ≡ y
behind s x y n c e l = sym (drop-drop c n s) ∙ ap (drop c) e ∙ drop_at x y c l

-- the number of four bytes at n
number_there : (s rest : List ℕ) (n x : ℕ) → drop n s ≡ u32str x ++ rest → x < 2 ^ 32 → number_at 4 s n ≡ x
number_there s rest n x e f =
    ap (number_at 4 s) (sym (add-zero n)) ∙ sym (number-drop 4 s n 0) ∙ ap (λ (y : List ℕ). number_at 4 y 0) e ∙ number-be 4 x rest f

-- the parts of a public key
module _ (o : Ots) (l : Lms) (I root : List ℕ) (li : length I ≡ 16) where
  abbrev key : List ℕ
  key = public_key o l I root

  key-from_0 : key ≡ u32str l.lmstype ++ (u32str o.otstype ++ (I ++ root))
  unfolding public_key
  key-from_0 = simp append_assoc

  key-from_4 : drop 4 key ≡ u32str o.otstype ++ (I ++ root)
  key-from_4 = behind key (u32str l.lmstype) _ 0 4 key-from_0 (be-length 4 l.lmstype)

  key-from_8 : drop 8 key ≡ I ++ root
  key-from_8 = behind key (u32str o.otstype) _ 4 4 key-from_4 (be-length 4 o.otstype)

  pub key_root : drop 24 key ≡ root
  key_root = behind key I root 8 16 key-from_8 li

  key-id : take 16 (drop 8 key) ≡ I
  key-id = rw key-from_8 (take_at I root 16 li)

  pub key-length : length root ≡ 32 → length key ≡ 56
  key-length lr =
      ap length key-from_0
      ∙ simp length-append (omega (arith, be-length 4 l.lmstype, be-length 4 o.otstype))

  key_fits_lem : Set o l → length root ≡ 32 → key_fits o l key ≡ true
  unfolding key_fits
  key_fits_lem set lr =
      rw (
        eq-eqb (length key) 56 (key-length lr),
        eq-eqb (number_at 4 key 0) l.lmstype (number_there key _ 0 l.lmstype key-from_0 set.type_fits),
        eq-eqb (number_at 4 key 4) o.otstype (number_there key _ 4 o.otstype key-from_4 set.ots_fits),
      )

-- the parts of a signature
module _ (o : Ots) (l : Lms) (I SEED C message tree : List ℕ) (q : ℕ) (lc : length C ≡ 32) (few : q < 2 ^ l.h)
    (whole : tree_size l.h ≤ length tree) where
  abbrev sig : List ℕ
  sig = signature o l I SEED q C message tree

  abbrev y : List ℕ
  y = cat (opened o I SEED q (text_hash I q C message)) o.p

  abbrev end : List ℕ
  end = u32str l.lmstype ++ path l.h tree q

  y-length : length y ≡ 32 * o.p
  y-length =
      cat-length (opened o I SEED q (text_hash I q C message)) o.p
      (λ i _. opened-length o I SEED q (text_hash I q C message) i) o.p (omega arith)

  sig-from_0 : sig ≡ u32str q ++ (u32str o.otstype ++ (C ++ (y ++ end)))
  unfolding signature ots_signature
  sig-from_0 = simp append_assoc

  sig-from_4 : drop 4 sig ≡ u32str o.otstype ++ (C ++ (y ++ end))
  sig-from_4 = behind sig (u32str q) _ 0 4 sig-from_0 (be-length 4 q)

  sig-from_8 : drop 8 sig ≡ C ++ (y ++ end)
  sig-from_8 = behind sig (u32str o.otstype) _ 4 4 sig-from_4 (be-length 4 o.otstype)

  sig-from_40 : drop 40 sig ≡ y ++ end
  sig-from_40 = behind sig C _ 8 32 sig-from_8 lc

  sig-from_type : drop (type_place o) sig ≡ end
  unfolding type_place
  sig-from_type =
      let e : 8 + 32 * (o.p + 1) ≡ 40 + 32 * o.p = omega arith in
      rw e (behind sig y end 40 (32 * o.p) sig-from_40 y-length)

  sig-from-path : drop (type_place o + 4) sig ≡ path l.h tree q
  sig-from-path = behind sig (u32str l.lmstype) _ (type_place o) 4 sig-from_type (be-length 4 l.lmstype)

  sig_randomizer : take 32 (drop 8 sig) ≡ C
  sig_randomizer = rw sig-from_8 (take_at C (y ++ end) 32 lc)

  sig-length : length sig ≡ signature_size o l
  unfolding signature_size
  sig-length =
      ap length sig-from_0
      ∙ simp length-append
      (omega (arith, be-length 4 q, be-length 4 o.otstype, y-length, be-length 4 l.lmstype, path-length l.h q few tree whole))

  module _ (set : Set o l) where
    small : q < 2 ^ 32
    small = let m : 2 ^ l.h ≤ 2 ^ 32 = pow_mono {j = 32} set.numbers_fit in omega arith

    sig-number : number_at 4 sig 0 ≡ q
    sig-number = number_there sig _ 0 q sig-from_0 small

    sig_fits : signature_fits o l sig ≡ true
    unfolding signature_fits
    sig_fits =
        let n : number_at 4 sig 0 < 2 ^ l.h = rw sig-number few in
        rw (
          eq-eqb (length sig) (signature_size o l) sig-length,
          eq-eqb (number_at 4 sig 4) o.otstype (number_there sig _ 4 o.otstype sig-from_4 set.ots_fits),
          eq-eqb (number_at 4 sig (type_place o)) l.lmstype (number_there sig _ (type_place o) l.lmstype sig-from_type set.type_fits),
          lt-ltb (number_at 4 sig 0) (2 ^ l.h) n,
        )

pub signature-length : SignatureLength
unfolding SignatureLength
signature-length o l I SEED C message tree q lc few whole = sig-length o l I SEED C message tree q lc few whole

-- Algorithm 6a finds the root, whatever follows the strings y and the tree
root_found : (o : Ots) (l : Lms) (I SEED C message after rest : List ℕ) (q : ℕ) → q < 2 ^ l.h
    → Tc o l.h I q C (cat (opened o I SEED q (text_hash I q C message)) o.p ++ after)
    (path l.h (tree_bytes o l.h I SEED ++ rest) q) message
    ≡ T o l.h I SEED 1
unfolding Tc
root_found o l I SEED C message after rest q few =
    let n : 2 ^ l.h + q - 2 ^ l.h ≡ q = omega arith in
    let t : T o l.h I SEED (2 ^ l.h + q) ≡ leaf I (2 ^ l.h + q) (K o I SEED q) =
    at_leaf o l.h I SEED (2 ^ l.h + q) (omega arith) ∙ ap (λ (x : ℕ). leaf I (2 ^ l.h + q) (K o I SEED x)) n in
    rw (opened-closes o I SEED q C message after, ← t) (path_leads_to_root o l.h I SEED q few rest)

-- the signature made with the generated key's tree is accepted, with its number
pub round_trip : RoundTrip
unfolding RoundTrip check_of root_of
round_trip o l set I SEED C message rest q li lc few =
    let whole : tree_size l.h ≤ length (tree_bytes o l.h I SEED ++ rest) =
    simp length-append (omega (arith, tree-length o l.h I SEED)) in
    rw (
      key_fits_lem o l I (T o l.h I SEED 1) li set (node-length o l.h I SEED 1),
      sig_fits o l I SEED C message (tree_bytes o l.h I SEED ++ rest) q lc few whole set,
      key-id o l I (T o l.h I SEED 1) li,
      key_root o l I (T o l.h I SEED 1) li,
      sig-number o l I SEED C message (tree_bytes o l.h I SEED ++ rest) q lc few whole set,
      sig_randomizer o l I SEED C message (tree_bytes o l.h I SEED ++ rest) q lc few whole,
      sig-from_40 o l I SEED C message (tree_bytes o l.h I SEED ++ rest) q lc few whole,
      sig-from-path o l I SEED C message (tree_bytes o l.h I SEED ++ rest) q lc few whole,
      root_found o l I SEED C message _ rest q few,
      eqs_refl (T o l.h I SEED 1),
    )

-- document 01's set is one of those
pub set-fits : Set LMOTS_SHA256_N32_W4 LMS_SHA256_M32_H10
set-fits = record { ots_fits = omega arith; type_fits = omega arith; numbers_fit = omega arith }

-- what was written to the front of a buffer stands there
front-written : (d s : List ℕ) (n : ℕ) → length s ≡ n → n ≤ length d → take n (written d 0 s) ≡ s
front-written d s n e h = ap (take n) (written-fits d 0 s (omega arith)) ∙ take_at s (drop (0 + length s) d) n e

-- the calls on buffers that are long enough
module _ (o : Ots) (l : Lms) (I SEED : List ℕ) where
  module _ (tree : List ℕ) (room : tree_size l.h ≤ length tree) where
    grown : generate_code l tree ≡ 0
    unfolding generate_code
    grown = rw (le-leb (tree_size l.h) (length tree) room)

    -- the buffer begins with the tree
    generated-tree : generated o l I SEED tree ≡ tree_bytes o l.h I SEED ++ drop (tree_size l.h) tree
    unfolding generated
    generated-tree =
        let n : 0 + length (tree_bytes o l.h I SEED) ≡ tree_size l.h = omega (arith, tree-length o l.h I SEED) in
        rw grown (written-fits tree 0 (tree_bytes o l.h I SEED) (omega arith) ∙ rw n)

  module _ (tree : List ℕ) (whole : tree_size l.h ≤ length tree) where
    module _ (li : length I ≡ 16) (key : List ℕ) (room : 56 ≤ length key) where
      key-answered : public_key_code l tree key ≡ 0
      unfolding public_key_code
      key-answered = rw (le-leb (tree_size l.h) (length tree) whole, le-leb 56 (length key) room)

      key_in_place : take 56 (public_key_written o l I tree key) ≡ public_key o l I (node_at tree 1)
      unfolding public_key_written
      key_in_place =
          let one : 1 < 2 ^ suc l.h = omega (arith, pow-suc 2 l.h, pow_pos l.h) in
          let root : length (node_at tree 1) ≡ 32 = node-whole tree l.h 1 whole (omega arith) one in
          rw key-answered (front-written key (public_key o l I (node_at tree 1)) 56 (key-length o l I (node_at tree 1) li root) room)

    module _ (C message place : List ℕ) (q : ℕ) (lc : length C ≡ 32) (few : q < 2 ^ l.h) (room : signature_size o l ≤ length place) where
      sign-answered : sign_code o l q tree place ≡ 0
      unfolding sign_code
      sign-answered =
          rw (le-leb (tree_size l.h) (length tree) whole, le-leb (signature_size o l) (length place) room, lt-ltb q (2 ^ l.h) few)

      signature_in_place : take (signature_size o l) (signed o l I SEED q C message tree place) ≡ signature o l I SEED q C message tree
      unfolding signed
      signature_in_place =
          rw sign-answered
          (front-written place (signature o l I SEED q C message tree) (signature_size o l)
          (sig-length o l I SEED C message tree q lc few whole) room)

pub calls-round_trip : CallsRoundTrip
unfolding CallsRoundTrip RoundTrip
calls-round_trip o l set I SEED C message tree pk place q li lc few room pk-room place-room =
    let t : List ℕ = generated o l I SEED tree in
    let e : t ≡ tree_bytes o l.h I SEED ++ drop (tree_size l.h) tree = generated-tree o l I SEED tree room in
    let n : length t ≡ length (tree_bytes o l.h I SEED) + length (drop (tree_size l.h) tree) =
    ap length e ∙ length-append (tree_bytes o l.h I SEED) (drop (tree_size l.h) tree) in
    let whole : tree_size l.h ≤ length t = omega (arith, tree-length o l.h I SEED) in
    let one : 1 < 2 ^ suc l.h = omega (arith, pow-suc 2 l.h, pow_pos l.h) in
    let accepted : check_of o l (public_key o l I (node_at t 1)) message (signature o l I SEED q C message t) ≡ Some q =
    rw (e, node_in_tree o l.h I SEED 1 (drop (tree_size l.h) tree) (omega arith) one)
    (round_trip o l set I SEED C message (drop (tree_size l.h) tree) q li lc few) in (
      grown o l I SEED tree room,
      key-answered o l I SEED t whole li pk pk-room,
      sign-answered o l I SEED t whole C message place q lc few place-room,
      rw (
        key_in_place o l I SEED t whole li pk pk-room,
        signature_in_place o l I SEED t whole C message place q lc few place-room,
      )
          accepted,
    )
