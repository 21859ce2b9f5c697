-- Bytes written one part after the other.
use mathlib.Core.Path.{◌≡◌, refl, ◌∙◌, sym, ap}
use mathlib.Core.List.{List, [], ◌++◌, append_assoc, append-nil}
use Prim.Native.Nat.{◌*◌, ◌<◌, ℕ, ◌+◌, ◌-◌, ◌≤◌}
use native.Mathlib.Nat.{add-zero}
use native.Mathlib.Omega.{arith}
use lib.ListN.{length, take, drop, length-append, take-append-drop}
use lib.Seq.{take_at, drop_at, drop-drop, length-take-le}
use Rattle.sha256.specs.Bytes.{written}
use Rattle.sha256.proofs.Laws.{be-length, written-fits, written_after, written-whole}
use Rattle.lms.specs.declared.Ots.{Ots}
use Rattle.lms.specs.declared.Lms.{Lms}
use Rattle.lms.specs.Tree.{public_key}
use Rattle.lms.proofs.Parts.{cat_more, cat-length}
use Rattle.lms.specs.Types.{cat, u16str, u32str, prefix}

module _ (d s : List ℕ) (at : ℕ) (fits : at + length s ≤ length d) where
  before-length : length (take at d ++ s) ≡ at + length s
  before-length = length-append (take at d) s ∙ omega (arith, length-take-le at d (omega arith))

  -- what stands behind the written part
  pub written_behind : (j : ℕ) → at + length s ≤ j → drop j (written d at s) ≡ drop j d
  written_behind j h =
      let n : at + length s + (j - (at + length s)) ≡ j = omega arith in
      let e : drop (at + length s) (written d at s) ≡ drop (at + length s) d =
      rw (written-fits d at s fits) (drop_at (take at d ++ s) (drop (at + length s) d) (at + length s) before-length) in
      ap (λ (k : ℕ). drop k (written d at s)) (sym n)
      ∙ sym (drop-drop (j - (at + length s)) (at + length s) (written d at s))
      ∙ ap (drop (j - (at + length s))) e
      ∙ drop-drop (j - (at + length s)) (at + length s) d
      ∙ ap (λ (k : ℕ). drop k d) n

  -- the written part
  pub written_there : take (length s) (drop at (written d at s)) ≡ s
  written_there =
      rw (written-fits d at s fits, append_assoc, drop_at (take at d) (s ++ drop (at + length s) d) at (length-take-le at d (omega arith)))
      (take_at s (drop (at + length s) d) (length s) refl)

pub written_none : (d : List ℕ) (at : ℕ) → at ≤ length d → written d at [] ≡ d
written_none d at h = written-fits d at [] (omega arith) ∙ rw (append-nil, add-zero) (take-append-drop at d)

-- the 22 bytes before a hashed string's contents, laid part by part
pub prefix-laid : (I b d z s₁ s₂ s₃ : List ℕ) (r x : ℕ) → length I ≡ 16 → length z ≡ 22
    → s₁ ≡ written z 0 I → b ≡ u32str r → s₂ ≡ written s₁ 16 b → d ≡ u16str x → s₃ ≡ written s₂ 20 d → s₃ ≡ prefix I r x
unfolding prefix
prefix-laid I b d z s₁ s₂ s₃ r x li lz e₁ eb e₂ ed e₃ =
    let lb : length (u32str r) ≡ 4 = be-length 4 r in
    let ld : length (u16str x) ≡ 2 = be-length 2 x in
    let la : length (I ++ u32str r) ≡ 20 = simp length-append (omega arith) in
    let lp : length (I ++ u32str r ++ u16str x) ≡ 22 = simp length-append (omega arith) in
    let two : written (written z 0 I) 16 (u32str r) ≡ written z 0 (I ++ u32str r) =
    written_after z I (u32str r) 0 16 (omega arith) (omega arith) in
    let three : written (written z 0 (I ++ u32str r)) 20 (u16str x) ≡ written z 0 (I ++ u32str r ++ u16str x) =
    written_after z (I ++ u32str r) (u16str x) 0 20 (omega arith) (omega arith) in
    rw (e₃, ed, e₂, eb, e₁, two, three) (written-whole z (I ++ u32str r ++ u16str x) (omega arith))

-- one more string of 32 bytes, behind those that are laid
pub laid_more : (d : List ℕ) (S : ℕ → List ℕ) (at i N : ℕ) (x s t : List ℕ) → ((j : ℕ) → j < N → length (S j) ≡ 32) → i < N → at + 32 * N ≤ length d
    → s ≡ written d at (cat S i) → x ≡ S i → t ≡ written s (at + 32 * i) x → t ≡ written d at (cat S (i + 1))
laid_more d S at i N x s t l g fits es ex et =
    let n : length (cat S i) ≡ 32 * i = cat-length S N l i (omega arith) in
    rw (et, es, ex, cat_more) (written_after d (cat S i) (S i) at (at + 32 * i) (omega arith) (omega (arith, l i g)))

-- a public key, laid part by part
pub public_key-laid : (o : Ots) (l : Lms) (d I root a b s₁ s₂ s₃ s₄ : List ℕ) → length I ≡ 16 → length root ≡ 32 → 56 ≤ length d
    → a ≡ u32str l.lmstype → s₁ ≡ written d 0 a → b ≡ u32str o.otstype → s₂ ≡ written s₁ 4 b → s₃ ≡ written s₂ 8 I → s₄ ≡ written s₃ 24 root
    → s₄ ≡ written d 0 (public_key o l I root)
unfolding public_key
public_key-laid o l d I root a b s₁ s₂ s₃ s₄ li lr fits ea e₁ eb e₂ e₃ e₄ =
    let la : length (u32str l.lmstype) ≡ 4 = be-length 4 l.lmstype in
    let lb : length (u32str o.otstype) ≡ 4 = be-length 4 o.otstype in
    let lab : length (u32str l.lmstype ++ u32str o.otstype) ≡ 8 = simp length-append (omega arith) in
    let labi : length (u32str l.lmstype ++ u32str o.otstype ++ I) ≡ 24 = simp length-append (omega arith) in
    rw (
      e₄,
      e₃,
      e₂,
      eb,
      e₁,
      ea,
      written_after d (u32str l.lmstype) (u32str o.otstype) 0 4 (omega arith) (omega arith),
      written_after d (u32str l.lmstype ++ u32str o.otstype) I 0 8 (omega arith) (omega arith),
      written_after d (u32str l.lmstype ++ u32str o.otstype ++ I) root 0 24 (omega arith) (omega arith),
    )

-- a signature, laid part by part: q, the one-time signature's type, C and strings y, the type, the path
pub signature-laid : (d q t C y u P s₁ s₂ s₃ s₄ s₅ s₆ : List ℕ) (end : ℕ) → length q ≡ 4 → length t ≡ 4 → length C ≡ 32 → length u ≡ 4
    → 40 + length y ≡ end → end + 4 + length P ≤ length d
    → s₁ ≡ written d 0 q → s₂ ≡ written s₁ 4 t → s₃ ≡ written s₂ 8 C → s₄ ≡ written s₃ 40 y → s₅ ≡ written s₄ end u → s₆ ≡ written s₅ (end + 4) P
    → s₆ ≡ written d 0 (q ++ (t ++ C ++ y) ++ u ++ P)
signature-laid d q t C y u P s₁ s₂ s₃ s₄ s₅ s₆ end lq lt lc lu le fits e₁ e₂ e₃ e₄ e₅ e₆ =
    let a : length (q ++ t) ≡ 8 = simp length-append (omega arith) in
    let b : length (q ++ t ++ C) ≡ 40 = simp length-append (omega arith) in
    let c : length (q ++ t ++ C ++ y) ≡ end = simp length-append (omega arith) in
    let e : length (q ++ t ++ C ++ y ++ u) ≡ end + 4 = simp length-append (omega arith) in
    rw (
      e₆,
      e₅,
      e₄,
      e₃,
      e₂,
      e₁,
      written_after d q t 0 4 (omega arith) (omega arith),
      written_after d (q ++ t) C 0 8 (omega arith) (omega arith),
      written_after d (q ++ t ++ C) y 0 40 (omega arith) (omega arith),
      written_after d (q ++ t ++ C ++ y) u 0 end (omega arith) (omega arith),
      written_after d (q ++ t ++ C ++ y ++ u) P 0 (end + 4) (omega arith) (omega arith),
    )
    (ap (written d 0) (simp append_assoc))
