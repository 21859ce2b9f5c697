-- What a step lays is what the next step reads: reading is the inverse of laying.
use mathlib.Core.Path.{◌≡◌, refl, ◌∙◌, sym, ap}
use mathlib.Core.Bool.{Bool, true, false}
use mathlib.Core.List.{List, [], ◌∷◌, ◌++◌, append_assoc}
use Prim.Native.Nat.{ℕ, ◌+◌, ◌*◌, ◌/◌, ◌%◌, ◌<◌}
use native.Mathlib.Omega.{arith}
use lib.Dec.{eqb, leb}
use lib.ListN.{length, take, drop, get_or}
use lib.Seq.{take_at, drop_at, drop-drop, get_or-drop}
use Rattle.sha256.specs.Bytes.{be, number_at}
use Rattle.sha256.proofs.Laws.{number-be}
use Rattle.sha256.proofs.Numbers.{be-two, be_four, number-two, number_four}
use Rattle.sha256.proofs.Words.{number-drop}
use Rattle.user.specs.declared.call.Kept.{Kept}
use Rattle.user_update.specs.declared.call.Update.{Update}
use Rattle.user_write.specs.declared.call.Write.{Write}
use Rattle.user_read.specs.declared.call.Read.{Read}
use Rattle.user_give_up.specs.declared.call.GiveUp.{GiveUp}
use Rattle.tree.specs.Setup.{Settings}
use Rattle.user.specs.Asking.{kept_fits}
use Rattle.user_calls.specs.Calls.{updating, writing, reading, giving_up}
use Rattle.c_layout.specs.Mark.{mark_of}
use Rattle.c_layout.specs.User.{progress_bytes, kept_bytes, progress_of, marks_fit, kept_of, update_bytes, update_of, write_of, read_of, give_up_of, call_bytes, call_of}

-- a mark
pub mark-fits : (b : Bool) → leb (mark_of b) 1 ≡ true
unfolding mark_of
mark-fits true = refl
mark-fits false = refl

pub mark-read : (b : Bool) → eqb (mark_of b) 1 ≡ b
unfolding mark_of
mark-read true = refl
mark-read false = refl

-- a number from its four bytes
pub four : (x : ℕ) → x < 4294967296 → x / 16777216 % 256 * 16777216 + x / 65536 % 256 * 65536 + x / 256 % 256 * 256 + x % 256 ≡ x
four x h = sym (number_four (x / 16777216 % 256 ∷ x / 65536 % 256 ∷ x / 256 % 256 ∷ x % 256 ∷ []) 0) ∙ rw (be_four x) at (number-be 4 x [] h)

-- what is kept
module _ (k : Kept) (d : length k.digest ≡ 32) where
  abbrev marked : List ℕ
  marked = mark_of k.opened ∷ mark_of k.signed ∷ progress_bytes k.progress

  kept_tail : drop 36 (kept_bytes k) ≡ be 4 k.number ++ marked
  unfolding kept_bytes
  kept_tail = rw (be_four k.version) (drop_at k.digest (be 4 k.number ++ marked) 32 d)

  kept-digest : take 32 (drop 4 (kept_bytes k)) ≡ k.digest
  unfolding kept_bytes
  kept-digest = rw (be_four k.version) (take_at k.digest (be 4 k.number ++ marked) 32 d)

  kept-version : k.version < 4294967296 → number_at 4 (kept_bytes k) 0 ≡ k.version
  unfolding kept_bytes
  kept-version h = number-be 4 k.version _ h

  kept-number : k.number < 4294967296 → number_at 4 (kept_bytes k) 36 ≡ k.number
  kept-number h = sym (number-drop 4 (kept_bytes k) 36 0) ∙ ap (λ (x : List ℕ). number_at 4 x 0) kept_tail ∙ number-be 4 k.number marked h

  -- the bytes after the number: marks, and how far an open write got
  abbrev tail_laid : List ℕ
  tail_laid = k.number / 16777216 % 256 ∷ k.number / 65536 % 256 ∷ k.number / 256 % 256 ∷ k.number % 256 ∷ marked

  kept-behind : (i : ℕ) → get_or (kept_bytes k) (36 + i) 0 ≡ get_or tail_laid i 0
  kept-behind i =
      let laid : drop 36 (kept_bytes k) ≡ tail_laid = kept_tail ∙ rw (be_four k.number) in
      sym (get_or-drop 36 (kept_bytes k) i 0) ∙ ap (λ (x : List ℕ). get_or x i 0) laid

  kept_marks : marks_fit (kept_bytes k) ≡ true
  unfolding marks_fit progress_bytes
  kept_marks =
      let g = k.progress in
      rw (kept-behind 4, kept-behind 5, kept-behind 7, kept-behind 8, mark-fits k.opened, mark-fits k.signed, mark-fits g.put, mark-fits g.begun)

  kept_progress : progress_of (kept_bytes k) ≡ k.progress
  unfolding progress_of progress_bytes
  kept_progress =
      let g = k.progress in
      rw (kept-behind 6, kept-behind 7, kept-behind 8, kept-behind 9, mark-read g.put, mark-read g.begun)

  pub kept_decode_encode : k.version < 4294967296 → k.number < 4294967296 → kept_of (kept_bytes k) ≡ k
  unfolding kept_of
  kept_decode_encode hv hn =
      rw (kept_marks, kept-behind 4, kept-behind 5, mark-read k.opened, mark-read k.signed, kept-version hv, kept-number hn, kept-digest, kept_progress)

-- Bytes with a mark above 1 are out of range.
pub marks_out_of_range : (s : Settings) (b : List ℕ) → marks_fit b ≡ false → kept_fits s (kept_of b) ≡ false
unfolding kept_fits kept_of
marks_out_of_range s b e = rw e

-- the Update of a call's bytes, and what stands behind it
module _ (b : List ℕ) (kind : ℕ) (u : Update) (rest : List ℕ) (d : length u.digest ≡ 32) (e : b ≡ (kind ∷ update_bytes u) ++ rest) where
  abbrev laid : List ℕ
  laid =
      kind ∷ u.answers ∷ u.greatest / 16777216 % 256 ∷ u.greatest / 65536 % 256 ∷ u.greatest / 256 % 256 ∷ u.greatest % 256
      ∷ u.least / 16777216 % 256 ∷ u.least / 65536 % 256 ∷ u.least / 256 % 256 ∷ u.least % 256
      ∷ u.position / 16777216 % 256 ∷ u.position / 65536 % 256 ∷ u.position / 256 % 256 ∷ u.position % 256 ∷ (u.digest ++ rest)

  is-laid : b ≡ laid
  unfolding update_bytes
  is-laid = e ∙ rw (be_four u.greatest, be_four u.least, be_four u.position)

  update-behind : drop 46 b ≡ rest
  update-behind = rw is-laid (drop_at u.digest rest 32 d)

  update-behind-kind : u.greatest < 4294967296 → u.least < 4294967296 → u.position < 4294967296 → update_of b ≡ u
  unfolding update_of
  update-behind-kind hg hl hp =
      let digest : take 32 (drop 14 b) ≡ u.digest = rw is-laid (take_at u.digest rest 32 d) in
      let answers : get_or b 1 0 ≡ u.answers = rw is-laid in
      let greatest : number_at 4 b 2 ≡ u.greatest = number_four b 2 ∙ rw is-laid (four u.greatest hg) in
      let least : number_at 4 b 6 ≡ u.least = number_four b 6 ∙ rw is-laid (four u.least hl) in
      let position : number_at 4 b 10 ≡ u.position = number_four b 10 ∙ rw is-laid (four u.position hp) in
      rw (answers, greatest, least, position, digest)

-- an Update
pub update_decode_encode : (b : List ℕ) (u : Update) (rest : List ℕ) → length u.digest ≡ 32 → b ≡ call_bytes (updating u) ++ rest
    → u.greatest < 4294967296 → u.least < 4294967296 → u.position < 4294967296 → call_of b ≡ updating u
unfolding call_of call_bytes
update_decode_encode b u rest d e hg hl hp =
    let kind : get_or b 0 0 ≡ 1 = ap (λ (x : List ℕ). get_or x 0 0) e in
    rw (kind, update-behind-kind b 1 u rest d e hg hl hp)

-- a Write
module _ (b : List ℕ) (w : Write) (rest : List ℕ) (d : length w.update.digest ≡ 32) (lr : length w.randomizer ≡ 32) (e : b ≡ call_bytes (writing w) ++ rest) where
  abbrev behind : List ℕ
  behind = mark_of w.opened ∷ w.answers ∷ ((w.randomizer ++ be 2 w.length) ++ rest)

  is-behind : b ≡ (2 ∷ update_bytes w.update) ++ behind
  unfolding call_bytes
  is-behind = e ∙ append_assoc (2 ∷ update_bytes w.update) (mark_of w.opened ∷ w.answers ∷ (w.randomizer ++ be 2 w.length)) rest

  write-behind : drop 46 b ≡ behind
  write-behind = update-behind b 2 w.update behind d is-behind

  from_randomizer : drop 48 b ≡ w.randomizer ++ (be 2 w.length ++ rest)
  from_randomizer = sym (drop-drop 2 46 b) ∙ ap (drop 2) write-behind ∙ append_assoc w.randomizer (be 2 w.length) rest

  from-length : drop 80 b ≡ be 2 w.length ++ rest
  from-length = sym (drop-drop 32 48 b) ∙ ap (drop 32) from_randomizer ∙ drop_at w.randomizer (be 2 w.length ++ rest) 32 lr

  pub write_decode_encode : w.update.greatest < 4294967296 → w.update.least < 4294967296 → w.update.position < 4294967296
      → w.length < 65536 → call_of b ≡ writing w
  unfolding call_of write_of
  write_decode_encode hg hl hp hn =
      let kind : get_or b 0 0 ≡ 2 = ap (λ (x : List ℕ). get_or x 0 0) is-behind in
      let update : update_of b ≡ w.update = update-behind-kind b 2 w.update behind d is-behind hg hl hp in
      let opened : get_or b 46 0 ≡ mark_of w.opened = sym (get_or-drop 46 b 0 0) ∙ ap (λ (x : List ℕ). get_or x 0 0) write-behind in
      let answers : get_or b 47 0 ≡ w.answers = sym (get_or-drop 46 b 1 0) ∙ ap (λ (x : List ℕ). get_or x 1 0) write-behind in
      let randomizer : take 32 (drop 48 b) ≡ w.randomizer = ap (take 32) from_randomizer ∙ take_at w.randomizer (be 2 w.length ++ rest) 32 lr in
      let size : number_at 2 b 80 ≡ w.length = sym (number-drop 2 b 80 0) ∙ ap (λ (x : List ℕ). number_at 2 x 0) from-length ∙ number-be 2 w.length rest hn in
      rw (kind, update, opened, mark-fits w.opened, mark-read w.opened, answers, randomizer, size)

-- a Read
pub read_decode_encode : (b : List ℕ) (r : Read) (rest : List ℕ) → b ≡ call_bytes (reading r) ++ rest → r.position < 4294967296
    → r.length < 65536 → call_of b ≡ reading r
unfolding call_of call_bytes read_of
read_decode_encode b r rest e hp hn =
    let laid : b ≡ 3 ∷ r.position / 16777216 % 256 ∷ r.position / 65536 % 256 ∷ r.position / 256 % 256 ∷ r.position % 256
    ∷ r.answers ∷ r.length / 256 % 256 ∷ r.length % 256 ∷ rest = e ∙ rw (be_four r.position, be-two r.length) in
    let kind : get_or b 0 0 ≡ 3 = ap (λ (x : List ℕ). get_or x 0 0) laid in
    let position : number_at 4 b 1 ≡ r.position = number_four b 1 ∙ rw laid (four r.position hp) in
    let answers : get_or b 5 0 ≡ r.answers = rw laid in
    let size : number_at 2 b 6 ≡ r.length = number-two b 6 ∙ rw laid (omega arith) in
    rw (kind, position, answers, size)

-- a give-up
pub give_up_decode_encode : (b : List ℕ) (g : GiveUp) (rest : List ℕ) → b ≡ call_bytes (giving_up g) ++ rest → call_of b ≡ giving_up g
unfolding call_of call_bytes give_up_of
give_up_decode_encode b g rest e =
    let kind : get_or b 0 0 ≡ 4 = ap (λ (x : List ℕ). get_or x 0 0) e in
    let waits : get_or b 1 0 ≡ mark_of g.waits = ap (λ (x : List ℕ). get_or x 1 0) e in
    rw (kind, waits, mark-fits g.waits, mark-read g.waits)
