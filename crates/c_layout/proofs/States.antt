-- The bytes of what a user keeps and of its calls, as they are read and laid.
use mathlib.Core.Path.{◌≡◌, refl, ◌∙◌, ap, ap₂}
use mathlib.Core.Bool.{Bool, true, false, cond}
use mathlib.Core.List.{List, [], ◌∷◌, ◌++◌, append_assoc}
use Prim.Native.Nat.{ℕ, ◌+◌, ◌%◌, ◌≤◌}
use native.Mathlib.Omega.{arith}
use lib.Dec.{eqb, leb}
use mir.Val.{bool_byte}
use lib.ListN.{length, take, drop, get_or, replicate, length-append, length-drop, length-replicate}
use borrow.Author.Tests.{eq-eqb, ne_eqb}
use Rattle.sha256.specs.Bytes.{be, number_at, written}
use Rattle.sha256.proofs.Laws.{be-length, be-mod, written-whole, filled_twice}
use Rattle.sha256.proofs.Window.{elements}
use Rattle.tree.specs.Cover.{piece}
use Rattle.tree.proofs.Cases.{by_bool}
use Rattle.tree.proofs.Messages.{number-elements, three_parts}
use Rattle.tree.proofs.Pieces.{piece-whole}
use Rattle.user.specs.declared.call.Kept.{Kept}
use Rattle.user.specs.declared.call.Progress.{Progress}
use Rattle.user_update.specs.declared.call.Update.{Update}
use Rattle.user_write.specs.declared.call.Write.{Write}
use Rattle.user_read.specs.declared.call.Read.{Read}
use Rattle.user_calls.specs.Calls.{Call, idle, reading}
use Rattle.c_layout.specs.Mark.{mark_of}
use Rattle.c_layout.specs.User.{progress_bytes, kept_bytes, progress_of, marks_fit, kept_of, update_bytes, update_of, write_of, call_bytes, kept_after, call_after}

-- a mark
pub mark_cast : (b : Bool) → bool_byte b ≡ mark_of b
unfolding mark_of
mark_cast true = refl
mark_cast false = refl

-- 32 bytes from place i on
pub part_read : (b t d : List ℕ) (i : ℕ) → i + 32 ≤ length b → t ≡ drop i b → d ≡ piece t 0 → d ≡ take 32 (drop i b)
part_read b t d i h et ed =
    let ld = length-drop i b in
    ed ∙ ap (λ (x : List ℕ). piece x 0) et ∙ piece-whole (drop i b) 0 (omega arith)

-- what is kept
pub kept_read : (b t d : List ℕ) (v n : ℕ) (g : Progress) → length b ≡ 46 → v ≡ cond (marks_fit b) (number_at 4 b 0) 4294967295
    → t ≡ drop 4 b → d ≡ piece t 0 → n ≡ number_at 4 b 36 → g ≡ progress_of b
    → ◌≡◌ {A = Kept}
    (record { version = v; digest = d; number = n; opened = eqb (get_or b 40 0) 1; signed = eqb (get_or b 41 0) 1; progress = g }) (kept_of b)
unfolding kept_of
kept_read b t d v n g l ev et ed en eg =
    let e : d ≡ take 32 (drop 4 b) = part_read b t d 4 (omega arith) et ed in
    rw (ev, e, en, eg)

pub kept-laid : (k : Kept) (v n s₁ s₂ : List ℕ) → length k.digest ≡ 32 → v ≡ be 4 k.version → n ≡ be 4 k.number
    → s₁ ≡ written (replicate 46 0) 0 (v ++ k.digest)
    → s₂ ≡ written s₁ 36 (elements n 0 4 ++ (bool_byte k.opened ∷ bool_byte k.signed ∷ k.progress.levels ∷ bool_byte k.progress.put
    ∷ bool_byte k.progress.begun ∷ k.progress.done ∷ [])) → s₂ ≡ kept_bytes k
unfolding kept_bytes progress_bytes
kept-laid k v n s₁ s₂ ld ev en e₁ e₂ =
    let g = k.progress in
    let rest : List ℕ = bool_byte k.opened ∷ bool_byte k.signed ∷ g.levels ∷ bool_byte g.put ∷ bool_byte g.begun ∷ g.done ∷ [] in
    let lv : length v ≡ 4 = ap length ev ∙ be-length 4 k.version in
    let whole = filled_twice (replicate 46 0) (v ++ k.digest) (elements n 0 4 ++ rest) s₁ s₂ 36
    (simp length-append (omega arith)) (omega (arith, length-replicate {A = ℕ} 46 0)) e₁ e₂ in
    let parts : (v ++ k.digest) ++ (elements n 0 4 ++ rest) ≡ (be 4 k.version ++ k.digest) ++ (be 4 k.number ++ rest) =
    ap₂ (λ (x y : List ℕ). (x ++ k.digest) ++ (y ++ rest)) ev (number-elements 4 k.number n en) in
    whole ∙ parts ∙ append_assoc (be 4 k.version) k.digest (be 4 k.number ++ rest)
    ∙ rw (mark_cast k.opened, mark_cast k.signed, mark_cast g.put, mark_cast g.begun)

pub kept-written : (code : ℕ) (k : Kept) (kept after : List ℕ) → code ≡ 0 → after ≡ kept_bytes k → after ≡ kept_after code k kept
unfolding kept_after
kept-written code k kept after z e = rw (eq-eqb code 0 z) e

pub kept-left : (code : ℕ) (k : Kept) (kept : List ℕ) → (code ≡ 0 → ⊥) → kept ≡ kept_after code k kept
unfolding kept_after
kept-left code k kept n = rw (ne_eqb code 0 n)

-- a call's bytes
pub call-laid : (code : ℕ) (c : Call) (after call left : List ℕ) → code ≡ 0 → after ≡ call_bytes c → left ≡ written call 0 after
    → left ≡ call_after code (call_bytes c) call
unfolding call_after
call-laid code c after call left z ea e = rw (eq-eqb code 0 z) (e ∙ ap (written call 0) ea)

pub call-left : (code : ℕ) (after call : List ℕ) → (code ≡ 0 → ⊥) → call ≡ call_after code after call
unfolding call_after
call-left code after call n = rw (ne_eqb code 0 n)

-- nothing is written where there is nothing to write
written_none : (d : List ℕ) → written d 0 [] ≡ d
unfolding written
written_none d = by_bool (λ b. cond b d d ≡ d) (leb 0 (length d)) (λ _. refl) (λ _. refl)

pub call_none : (code : ℕ) (call : List ℕ) → call ≡ call_after code (call_bytes idle) call
unfolding call_after call_bytes
call_none code call = rw (written_none call) (by_bool (λ b. call ≡ cond b call call) (eqb code 0) (λ _. refl) (λ _. refl))

-- an Update
pub update-read : (b t d : List ℕ) (g l p : ℕ) → length b ≡ 82 → g ≡ number_at 4 b 2 → l ≡ number_at 4 b 6 → p ≡ number_at 4 b 10
    → t ≡ drop 14 b → d ≡ piece t 0
    → ◌≡◌ {A = Update} (record { answers = get_or b 1 0; greatest = g; least = l; position = p; digest = d }) (update_of b)
unfolding update_of
update-read b t d g l p n eg el ep et ed =
    let e : d ≡ take 32 (drop 14 b) = part_read b t d 14 (omega arith) et ed in
    rw (eg, el, ep, e)

pub update-laid : (kind : ℕ) (u : Update) (g l p out : List ℕ) → length u.digest ≡ 32 → g ≡ be 4 u.greatest → l ≡ be 4 u.least
    → p ≡ be 4 u.position
    → out ≡ written (replicate 46 0) 0 ((kind ∷ u.answers ∷ (elements g 0 4 ++ (elements l 0 4 ++ elements p 0 4))) ++ u.digest)
    → out ≡ kind ∷ update_bytes u
unfolding update_bytes
update-laid kind u g l p out ld eg el ep eo =
    let G : List ℕ = be 4 u.greatest in
    let L : List ℕ = be 4 u.least in
    let P : List ℕ = be 4 u.position in
    let d : List ℕ = u.digest in
    let parts : (kind ∷ u.answers ∷ (elements g 0 4 ++ (elements l 0 4 ++ elements p 0 4))) ++ d ≡ kind ∷ u.answers ∷ (G ++ (L ++ (P ++ d))) =
    three_parts (λ x y z. (kind ∷ u.answers ∷ (x ++ (y ++ z))) ++ d) (number-elements 4 u.greatest g eg) (number-elements 4 u.least l el) (number-elements 4 u.position p ep)
    ∙ ap (λ (x : List ℕ). kind ∷ u.answers ∷ x) (append_assoc G (L ++ P) d ∙ ap (λ (x : List ℕ). G ++ x) (append_assoc L P d)) in
    let size : length (kind ∷ u.answers ∷ (G ++ (L ++ (P ++ d)))) ≡ 46 =
    simp length-append (omega (arith, be-length 4 u.greatest, be-length 4 u.least, be-length 4 u.position)) in
    eo ∙ ap (written (replicate 46 0) 0) parts
    ∙ written-whole (replicate 46 0) (kind ∷ u.answers ∷ (G ++ (L ++ (P ++ d)))) (omega (arith, length-replicate {A = ℕ} 46 0))

-- a Write
pub write_read : (b t r : List ℕ) (u : Update) (n : ℕ) → length b ≡ 82 → u ≡ update_of b → t ≡ drop 48 b → r ≡ piece t 0 → n ≡ number_at 2 b 80
    → ◌≡◌ {A = Write} (record { update = u; opened = eqb (get_or b 46 0) 1; answers = get_or b 47 0; randomizer = r; length = n }) (write_of b)
unfolding write_of
write_read b t r u n l eu et er en =
    let e : r ≡ take 32 (drop 48 b) = part_read b t r 48 (omega arith) et er in
    rw (eu, e, en)

pub rest-laid : (w : Write) (n s₁ s₂ : List ℕ) → length w.randomizer ≡ 32 → n ≡ be 2 (w.length % 65536)
    → s₁ ≡ written (replicate 36 0) 0 ((bool_byte w.opened ∷ w.answers ∷ []) ++ w.randomizer) → s₂ ≡ written s₁ 34 n
    → s₂ ≡ mark_of w.opened ∷ w.answers ∷ (w.randomizer ++ be 2 w.length)
rest-laid w n s₁ s₂ lr en e₁ e₂ =
    let ln : length n ≡ 2 = ap length en ∙ be-length 2 (w.length % 65536) in
    let m : n ≡ be 2 w.length = en ∙ be-mod 2 w.length in
    let whole : s₂ ≡ bool_byte w.opened ∷ w.answers ∷ (w.randomizer ++ n) =
    filled_twice (replicate 36 0) ((bool_byte w.opened ∷ w.answers ∷ []) ++ w.randomizer) n s₁ s₂ 34 (omega arith) (omega (arith, length-replicate {A = ℕ} 36 0)) e₁ e₂ in
    whole ∙ rw (m, mark_cast w.opened)

-- a Read
pub read-laid : (r : Read) (p n : List ℕ) → p ≡ be 4 r.position → n ≡ be 2 r.length
    → 3 ∷ (elements p 0 4 ++ (r.answers ∷ elements n 0 2)) ≡ call_bytes (reading r)
unfolding call_bytes
read-laid r p n ep en =
    ap₂ (λ (x y : List ℕ). 3 ∷ (x ++ (r.answers ∷ y))) (number-elements 4 r.position p ep) (number-elements 2 r.length n en)
