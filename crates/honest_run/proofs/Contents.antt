-- What an honest Update takes in passes its checks: the Record holds, and the cover gives both digests.
use mathlib.Core.Path.{◌≡◌, refl, sym, ap, ◌∙◌}
use mathlib.Core.Bool.{true}
use mathlib.Core.List.{List, ◌++◌, append-nil}
use Prim.Native.Nat.{ℕ, suc, ◌-◌, ◌≤◌, ◌<◌}
use native.Mathlib.Omega.{arith}
use lib.ListN.{length, drop, get_or, length-append}
use lib.Seq.{take_at, drop_at, drop-drop}
use borrow.Author.Tests.{eq-eqb, ne_eqb, le-leb}
use Rattle.sha256.specs.Bytes.{be}
use Rattle.sha256.proofs.Laws.{be-length, number-be, eqs_refl}
use Rattle.tree.specs.Bytes.{eqs, number_at}
use Rattle.tree.specs.Tree.{leaves, digest}
use Rattle.tree.specs.Cover.{at, peaks, tiles, cover, piece}
use Rattle.user_list.specs.Users.{user_count, is_listed}
use Rattle.tree.proofs.Cases.{cases_eq, positive}
use Rattle.tree.proofs.Honest.{TrueAnswers, true-cover-gives-digest}
use Rattle.tree.proofs.Pieces.{piece-whole}
use Rattle.tree.proofs.Tiles.{no_tiles, get_d_left}
use Rattle.user.specs.declared.call.Kept.{Kept}
use Rattle.user_update.specs.declared.call.Update.{Update}
use Rattle.user_update.specs.Update.{record_holds, cover_gives_own, cover_gives_new}
use Rattle.honest_run.specs.Network.{HonestSetup, public_to, settings_in}
use Rattle.honest_run.proofs.Invariant.{Item, texts, digest_of, SignedOk, ItemOk}
use Rattle.honest_run.proofs.Log.{digest_size}

-- a Record's body is read back
module _ (body digest signature : List ℕ) (author : ℕ) (e : body ≡ be 2 author ++ (digest ++ signature)) (size : length digest ≡ 32) where
  -- behind the author stand digest and signature
  behind-author : drop 2 body ≡ digest ++ signature
  behind-author = ap (drop 2) e ∙ drop_at (be 2 author) (digest ++ signature) 2 (be-length 2 author)

  -- the author
  author_back : author < 65536 → number_at 2 body 0 ≡ author
  author_back h = ap (λ (b : List ℕ). number_at 2 b 0) e ∙ number-be 2 author (digest ++ signature) h

  -- the digest
  pub digest_back : piece (drop 2 body) 0 ≡ digest
  digest_back =
      let l = length-append digest signature in
      ap (λ (b : List ℕ). piece b 0) behind-author ∙ piece-whole (digest ++ signature) 0 (omega arith) ∙ take_at digest signature 32 size

  -- the signature
  signature_back : drop 34 body ≡ signature
  signature_back = sym (drop-drop 32 2 body) ∙ ap (drop 32) behind-author ∙ drop_at digest signature 32 size

-- 14: a committed position's Record has a listed author and a signature that holds
pub record_holds_lem : (c : HonestSetup) (L : ℕ → Item) (a w : ℕ) (body : List ℕ) → user_count (public_to c c.count) ≡ c.count → c.count ≤ 64 → 0 < w
    → ItemOk c L (w - 1) × SignedOk c L (w - 1) → body ≡ be 2 (L (w - 1)).author ++ (digest_of L w ++ (L (w - 1)).signature)
    → record_holds (settings_in c a) w body ≡ true
unfolding record_holds is_listed
record_holds_lem c L a w body counted few z item e =
    let i = item.0 in
    let one = i.one in
    let low = i.listed in
    let d = digest_size L w in
    let sig = (L (w - 1)).signature in
    let n : suc (w - 1) ≡ w = omega arith in
    rw (
      author_back body (digest_of L w) sig (L (w - 1)).author e d (omega arith),
      digest_back body (digest_of L w) sig (L (w - 1)).author e d,
      signature_back body (digest_of L w) sig (L (w - 1)).author e d,
      counted,
      le-leb 1 (L (w - 1)).author one,
      le-leb (L (w - 1)).author c.count low,
    )
    (rw n at item.1.valid)

-- 15: the hashes of the peaks of v, which a cover from v begins with, give the digest of v
own-answers : (g : ℕ → List ℕ) (v w : ℕ) (hashes : List ℕ) → TrueAnswers (leaves g) (cover v w) hashes → TrueAnswers (leaves g) (cover v v) hashes
unfolding cover
own-answers g v w hashes t j h =
    let own : peaks v ++ tiles v v ≡ peaks v = rw (no_tiles v v (omega arith)) (append-nil (peaks v)) in
    let i : j < length (peaks v) = rw own at h in
    let l = length-append (peaks v) (tiles v w) in
    let first : get_or (peaks v ++ tiles v w) j (at 0 0) ≡ get_or (peaks v) j (at 0 0) = get_d_left (peaks v) (tiles v w) j (length (peaks v)) refl i in
    rw own (rw first at (t j (omega arith)))

-- so 15 passes
pub gives-own : (L : ℕ → Item) (w : ℕ) (k : Kept) (hashes : List ℕ) → (0 < k.version → k.digest ≡ digest_of L k.version)
    → TrueAnswers (leaves (texts L)) (cover k.version w) hashes → cover_gives_own k hashes ≡ true
unfolding cover_gives_own digest
gives-own L w k hashes own t =
    cases_eq k.version 0 (λ e. rw (eq-eqb k.version 0 e))
    (λ e.
    let z = positive k.version e in
    let d = true-cover-gives-digest k.version k.version (leaves (texts L)) hashes (omega arith) z (own-answers (texts L) k.version w hashes t) in
    rw (ne_eqb k.version 0 e) (ap (λ (x : List ℕ). eqs x k.digest) (d ∙ sym (own z)) ∙ eqs_refl k.digest))

-- 16: they all give the digest of w
pub gives-new : (L : ℕ → Item) (v w : ℕ) (u : Update) (hashes : List ℕ) → v ≤ w → 0 < w → u.position ≡ w → u.digest ≡ digest_of L w
    → TrueAnswers (leaves (texts L)) (cover v w) hashes → cover_gives_new v u hashes ≡ true
unfolding cover_gives_new digest
gives-new L v w u hashes h z p d t =
    let e = true-cover-gives-digest v w (leaves (texts L)) hashes h z t in
    rw p (ap (λ (x : List ℕ). eqs x u.digest) (e ∙ sym d) ∙ eqs_refl u.digest)
