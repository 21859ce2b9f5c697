-- The server's call over the head's 79 bytes.
use mathlib.Core.Path.{◌≡◌, refl, ◌∙◌, sym, ap, ap₂}
use mathlib.Core.Bool.{Bool, true, false, cond, ◌&&◌}
use mathlib.Core.List.{List, [], ◌∷◌, ◌++◌, append_assoc}
use Prim.Native.Nat.{ℕ, zero, suc, ◌+◌, ◌*◌, ◌/◌, ◌%◌, ◌^◌, ◌≤◌, ◌<◌, min}
use native.Mathlib.Nat.{add-zero, pow-suc, mul-le-mul_right}
use native.Mathlib.Omega.{arith}
use lib.Arith.{digits_div, digits_mod}
use lib.Dec.{eqb, leb}
use mir.Val.{bool_byte}
use lib.ListN.{length, take, drop, get_or, replicate, length-append, length-drop, length-replicate, take-append-drop}
use lib.Seq.{take_all, take_at, drop_at, drop-cons, drop-drop, get_or-drop}
use borrow.Author.Tests.{leb-true}
use Rattle.sha256.specs.Bytes.{be, number_at, written}
use Rattle.sha256.proofs.Laws.{be-length, be-mod, written-whole, filled_twice}
use Rattle.sha256.proofs.Numbers.{be-two, be_four, number-two, number_four}
use Rattle.sha256.proofs.Words.{number-drop}
use Rattle.sha256.proofs.Window.{elements}
use Rattle.tree.specs.Cover.{piece}
use Rattle.tree.proofs.Cases.{by_eqb, and-true}
use Rattle.tree.proofs.Messages.{be-one, number-elements, three_parts}
use Rattle.tree.specs.Setup.{Settings, settings, in_log, first_code}
use Rattle.user_list.specs.Users.{group_fits, least_answer}
use Rattle.tree.specs.Inner.{settings_of}
use Rattle.server.specs.declared.Head.{Head}
use Rattle.server.specs.declared.Earlier.{Earlier}
use Rattle.server.specs.declared.lent.Reply.{Reply}
use Rattle.server.specs.Checks.{server_setup_checks, server_settings_fit, place_fits, head_fits}
use Rattle.server.specs.Serve.{ServeOutcome, refused_setup, served}
use Rattle.user_list.proofs.Lists.{group-fits}
use Rattle.server.proofs.Served.{served-refused}
use Rattle.server.proofs.Sizes.{answer-at-most_2552}
use Rattle.tree.specs.declared.setup.Config.{Config}
use Rattle.server.specs.Inner.{reply_of, ServesLent}
use Rattle.c_layout.specs.Inner.{config_of}
use Rattle.c_layout.specs.Mark.{mark_of}
use Rattle.c_layout.specs.Server.{place_bytes, head_bytes, earlier_of, head_of, result_of, server_answered, ServerYields}
use Rattle.c_layout.proofs.Narrowed.{narrowed}
use Rattle.c_layout.proofs.States.{part_read, mark_cast}
use Rattle.c_layout.proofs.Inverses.{four, mark-fits, mark-read}

-- the head that is read, and the bytes that are laid
pub earlier_read : (b t d : List ℕ) (p a : ℕ) → length b ≡ 79 → p ≡ number_at 4 b 40 → a ≡ number_at 2 b 45 → t ≡ drop 47 b → d ≡ piece t 0
    → ◌≡◌ {A = Earlier} (record { known = eqb (get_or b 39 0) 1; position = p; level = get_or b 44 0; author = a; digest = d }) (earlier_of b)
unfolding earlier_of
earlier_read b t d p a l ep ea et ed =
    let ld = length-drop 47 b in
    let e : d ≡ drop 47 b = part_read b t d 47 (omega arith) et ed ∙ take_all 32 (drop 47 b) (omega arith) in
    rw (ep, ea, e)

pub head_read : (b t d : List ℕ) (p a : ℕ) (earlier : Earlier) → length b ≡ 79 → p ≡ cond (leb (get_or b 39 0) 1) (number_at 4 b 0) 4294967295
    → a ≡ number_at 2 b 5 → t ≡ drop 7 b → d ≡ piece t 0 → earlier ≡ earlier_of b
    → ◌≡◌ {A = Head} (record { position = p; level = get_or b 4 0; author = a; digest = d; earlier = earlier }) (head_of b)
unfolding head_of
head_read b t d p a earlier l ep ea et ed ee =
    let e : d ≡ take 32 (drop 7 b) = part_read b t d 7 (omega arith) et ed in
    rw (ep, ea, e, ee)

place_size : (p l a : ℕ) (d : List ℕ) → length d ≡ 32 → length (place_bytes p l a d) ≡ 39
unfolding place_bytes
place_size p l a d ld = simp length-append (omega (arith, be-length 4 p, be-length 1 l, be-length 2 a))

pub place-laid : (position level author : ℕ) (d p a out : List ℕ) → length d ≡ 32 → level < 256 → p ≡ be 4 position → a ≡ be 2 author
    → out ≡ written (replicate 39 0) 0 ((elements p 0 4 ++ (level ∷ elements a 0 2)) ++ d) → out ≡ place_bytes position level author d
unfolding place_bytes
place-laid position level author d p a out ld hl ep ea eo =
    let parts : (elements p 0 4 ++ (level ∷ elements a 0 2)) ++ d ≡ be 4 position ++ (be 1 level ++ (be 2 author ++ d)) =
    three_parts (λ x y z. (x ++ (level ∷ y)) ++ z) (number-elements 4 position p ep) (number-elements 2 author a ea) refl
    ∙ rw (be-one level hl) (append_assoc (be 4 position) (level ∷ be 2 author) d) in
    let size : length (be 4 position ++ (be 1 level ++ (be 2 author ++ d))) ≡ 39 = place_size position level author d ld in
    eo ∙ ap (written (replicate 39 0) 0) parts
    ∙ written-whole (replicate 39 0) (be 4 position ++ (be 1 level ++ (be 2 author ++ d))) (omega (arith, length-replicate {A = ℕ} 39 0))

pub head-laid : (h : Head) (first rest s₁ s₂ : List ℕ) → length first ≡ 39 → length rest ≡ 39
    → first ≡ place_bytes h.position h.level h.author h.digest
    → rest ≡ place_bytes h.earlier.position h.earlier.level h.earlier.author h.earlier.digest
    → s₁ ≡ written (replicate 79 0) 0 (first ++ (bool_byte h.earlier.known ∷ [])) → s₂ ≡ written s₁ 40 rest → s₂ ≡ head_bytes h
unfolding head_bytes
head-laid h first rest s₁ s₂ lf lr ef er e₁ e₂ =
    let mark : ℕ = bool_byte h.earlier.known in
    let whole : s₂ ≡ (first ++ (mark ∷ [])) ++ rest =
    filled_twice (replicate 79 0) (first ++ (mark ∷ [])) rest s₁ s₂ 40 (simp length-append (omega arith)) (omega (arith, length-replicate {A = ℕ} 79 0)) e₁ e₂ in
    whole ∙ append_assoc first (mark ∷ []) rest ∙ rw (mark_cast h.earlier.known, ef, er)

-- The bytes of a position, level, author and digest, written out.
place-elements : (p l a : ℕ) (d : List ℕ) → l < 256
    → place_bytes p l a d ≡ p / 16777216 % 256 ∷ p / 65536 % 256 ∷ p / 256 % 256 ∷ p % 256 ∷ l ∷ a / 256 % 256 ∷ a % 256 ∷ d
unfolding place_bytes
place-elements p l a d h = rw (be_four p, be-one l h, be-two a)

-- A head that a call leaves is the head that the next call reads.
module _ (h : Head) (size : length h.digest ≡ 32) (hl : h.level < 256) (el : h.earlier.level < 256) where
  abbrev before : Earlier
  before = h.earlier

  abbrev behind : List ℕ
  behind = mark_of before.known ∷ place_bytes before.position before.level before.author before.digest

  front-laid : head_bytes h ≡ h.position / 16777216 % 256 ∷ h.position / 65536 % 256 ∷ h.position / 256 % 256 ∷ h.position % 256
      ∷ h.level ∷ h.author / 256 % 256 ∷ h.author % 256 ∷ (h.digest ++ behind)
  unfolding head_bytes
  front-laid = ap (λ (x : List ℕ). x ++ behind) (place-elements h.position h.level h.author h.digest hl)

  behind-laid : drop 39 (head_bytes h) ≡ mark_of before.known ∷ before.position / 16777216 % 256 ∷ before.position / 65536 % 256
      ∷ before.position / 256 % 256 ∷ before.position % 256 ∷ before.level ∷ before.author / 256 % 256 ∷ before.author % 256 ∷ before.digest
  behind-laid =
      rw front-laid (drop_at h.digest behind 32 size)
      ∙ ap (λ (x : List ℕ). mark_of before.known ∷ x) (place-elements before.position before.level before.author before.digest el)

  byte_behind : (i : ℕ) → get_or (head_bytes h) (39 + i) 0 ≡ get_or (drop 39 (head_bytes h)) i 0
  byte_behind i = sym (get_or-drop 39 (head_bytes h) i 0)

  earlier_decoded : before.position < 4294967296 → before.author < 65536 → earlier_of (head_bytes h) ≡ before
  unfolding earlier_of
  earlier_decoded hp ha =
      let b = head_bytes h in
      let known : get_or b 39 0 ≡ mark_of before.known = byte_behind 0 ∙ ap (λ (x : List ℕ). get_or x 0 0) behind-laid in
      let position : number_at 4 b 40 ≡ before.position =
      sym (number-drop 4 b 39 1) ∙ number_four (drop 39 b) 1 ∙ rw behind-laid (four before.position hp) in
      let level : get_or b 44 0 ≡ before.level = byte_behind 5 ∙ ap (λ (x : List ℕ). get_or x 5 0) behind-laid in
      let author : number_at 2 b 45 ≡ before.author = sym (number-drop 2 b 39 6) ∙ number-two (drop 39 b) 6 ∙ rw behind-laid (omega arith) in
      let digest : drop 47 b ≡ before.digest = sym (drop-drop 8 39 b) ∙ ap (drop 8) behind-laid in
      rw (known, mark-read before.known, position, level, author, digest)

  pub decode_encode : h.position < 4294967296 → h.author < 65536 → before.position < 4294967296 → before.author < 65536
      → head_of (head_bytes h) ≡ h
  unfolding head_of
  decode_encode hp ha ep ea =
      let b = head_bytes h in
      let known : get_or b 39 0 ≡ mark_of before.known = byte_behind 0 ∙ ap (λ (x : List ℕ). get_or x 0 0) behind-laid in
      let position : number_at 4 b 0 ≡ h.position = number_four b 0 ∙ rw front-laid (four h.position hp) in
      let level : get_or b 4 0 ≡ h.level = ap (λ (x : List ℕ). get_or x 4 0) front-laid in
      let author : number_at 2 b 5 ≡ h.author = number-two b 5 ∙ rw front-laid (omega arith) in
      let digest : take 32 (drop 7 b) ≡ h.digest = rw front-laid (take_at h.digest behind 32 size) in
      rw (known, mark-fits before.known, position, level, author, digest, earlier_decoded ep ea)

-- the bytes of the number that bytes stand for are those bytes
module _ (b : List ℕ) (bytes : (i : ℕ) → get_or b i 0 < 256) where
  number_below : (k i : ℕ) → number_at k b i < 256 ^ k
  unfolding number_at
  number_below zero i = omega arith
  number_below (suc k) i =
      let m : get_or b i 0 * 256 ^ k ≤ 255 * 256 ^ k = mul-le-mul_right (256 ^ k) (omega (arith, bytes i)) in
      omega (arith, pow-suc 256 k, number_below k (suc i))

  be-number : (k i : ℕ) → be k (number_at k b i) ≡ elements b i k
  unfolding be number_at
  be-number zero i = refl
  be-number (suc k) i =
      let low = number_below k (suc i) in
      let x : ℕ = get_or b i 0 in
      let high : (x * 256 ^ k + number_at k b (suc i)) / 256 ^ k % 256 ≡ x = rw (digits_div x low) (omega (arith, bytes i)) in
      let rest : be k (x * 256 ^ k + number_at k b (suc i)) ≡ elements b (suc i) k =
      sym (be-mod k (x * 256 ^ k + number_at k b (suc i))) ∙ ap (be k) (digits_mod x low) ∙ be-number k (suc i) in
      ap₂ (λ (y : ℕ) (l : List ℕ). y ∷ l) high rest

  elements-rest : (n i : ℕ) → i + n ≤ length b → elements b i n ++ drop (i + n) b ≡ drop i b
  elements-rest zero i h = rw add-zero
  elements-rest (suc n) i h =
      let e : i + suc n ≡ suc i + n = omega arith in
      rw e (ap (λ (l : List ℕ). get_or b i 0 ∷ l) (elements-rest n (suc i) (omega arith)) ∙ sym (drop-cons b i 0 (omega arith)))

  place-number : (i : ℕ) (d : List ℕ) → let level = suc (suc (suc (suc i))) in
      place_bytes (number_at 4 b i) (get_or b level 0) (number_at 2 b (suc level)) d ≡ elements b i 7 ++ d
  unfolding place_bytes
  place-number i d = let level = suc (suc (suc (suc i))) in
      rw (be-number 4 i, be-one (get_or b level 0) (bytes level), be-number 2 (suc level))

  mark-kept : (x : ℕ) → leb x 1 ≡ true → mark_of (eqb x 1) ≡ x
  unfolding mark_of
  mark-kept x t =
      let h = leb-true x 1 t in
      by_eqb (λ b. mark_of b ≡ x) x 1 (λ e. sym e) (λ n. omega arith)

  -- A call that is accepted and leaves the head leaves its bytes.
  pub encode_decode : length b ≡ 79 → leb (get_or b 39 0) 1 ≡ true → head_bytes (head_of b) ≡ b
  unfolding head_bytes head_of earlier_of
  encode_decode l t =
      let behind : mark_of (eqb (get_or b 39 0) 1) ∷ place_bytes (number_at 4 b 40) (get_or b 44 0) (number_at 2 b 45) (drop 47 b) ≡ drop 39 b =
      rw (mark-kept (get_or b 39 0) t, place-number 40 (drop 47 b), elements-rest 7 40 (omega arith)) (sym (drop-cons b 39 0 (omega arith))) in
      let digest : take 32 (drop 7 b) ++ drop 39 b ≡ drop 7 b =
      ap (λ (x : List ℕ). take 32 (drop 7 b) ++ x) (sym (drop-drop 32 7 b)) ∙ take-append-drop 32 (drop 7 b) in
      rw (t, behind, place-number 0 (take 32 (drop 7 b)))
      (append_assoc (elements b 0 7) (take 32 (drop 7 b)) (drop 39 b) ∙ rw digest (elements-rest 7 0 (omega arith)))

-- Bytes with a mark above 1 are a head out of range, and every call refuses it with 22.
head-mark-out_of_range : (users b : List ℕ) → leb (get_or b 39 0) 1 ≡ false → head_fits users (head_of b) ≡ false
unfolding head_fits place_fits head_of in_log
head-mark-out_of_range users b e = rw e

-- what a server's settings that fit say of the two numbers
numbers_fit : (servers own : ℕ) (users : List ℕ) → server_settings_fit servers own users ≡ true → (servers ≤ 16) × (own ≤ 64)
unfolding server_settings_fit
numbers_fit servers own users t =
    let a = and-true (group_fits servers users) (leb 1 own && leb own servers) t in
    let g = group-fits servers users a.0 in
    let o = leb-true own servers (and-true (leb 1 own) _ a.1).1 in
    (g.sixteen, omega (arith, g.sixteen))

-- a head out of its ranges is refused with 22
and_no : (b : Bool) → b && false ≡ false
and_no true = refl
and_no false = refl

head_unfit : (s : Settings) (h : Head) (store : List ℕ) (used : ℕ) (answer : List ℕ) → head_fits s.users h ≡ false
    → first_code (server_setup_checks s h store used answer) ≡ 22
unfolding server_setup_checks first_code
head_unfit s h store used answer e = rw (e, and_no (server_settings_fit s.servers s.own s.users))

-- settings out of their ranges are refused with 22, so a number that does not fit its bytes may be taken for the greatest
module _ (log users : List ℕ) (h : Head) (store : List ℕ) (used : ℕ) (q answer : List ℕ) where
  unfit : (servers own : ℕ) → server_settings_fit servers own users ≡ false
      → served (settings servers own log users) h store used q answer ≡ refused_setup 22 h store used answer
  unfolding server_setup_checks first_code
  unfit servers own e = served-refused (settings servers own log users) h store used q answer 22 (rw e) (λ z. omega arith)

  passed_on : (servers own : ℕ)
      → served (settings (min servers 255) (min own 65535) log users) h store used q answer ≡ served (settings servers own log users) h store used q answer
  passed_on servers own =
      narrowed (λ n m. served (settings n m log users) h store used q answer) _ (λ n m. server_settings_fit n m users) (λ n m. numbers_fit n m users) unfit
      65535 servers own (omega arith)

-- what the call below gave
pub record Called (servers own : ℕ) (log users head store : List ℕ) (used : ℕ) (q answer : List ℕ) (reply : Reply) (after : Head) (s a : List ℕ) : Type 0 where
  pub left : ServesLent (served (settings servers own log users) (head_of head) store used q answer) reply after s a

module _ {servers own : ℕ} {log users head store : List ℕ} {used : ℕ} {q answer : List ℕ} {reply : Reply} {after : Head} {s a : List ℕ} where
  pub called : {config : Config} {before : Head} → config ≡ config_of servers own log → before ≡ head_of head
      → ServesLent (served (settings_of config users) before store used q answer) reply after s a
      → Called servers own log users head store used q answer reply after s a
  unfolding config_of
  called en eb e = record { left = rw (en, eb, passed_on log users (head_of head) store used q answer servers own) at e }

  module _ (e : Called servers own log users head store used q answer reply after s a) where
    pub answer-small : reply.answered ≤ least_answer
    unfolding reply_of
    answer-small = rw e.left.0 (answer-at-most_2552 (settings servers own log users) (head_of head) store used q answer)

    -- so the call over bytes leaves what its definition says
    pub head-left : (head' : List ℕ) → head' ≡ cond (eqb reply.code 0) (head_bytes after) head
        → ServerYields (server_answered servers own log users head store used q answer)
        (record { code = reply.code; answer = reply.answered; used = reply.used }) head' s a
    unfolding server_answered result_of reply_of
    head-left head' eh = rw (eh, e.left.0, e.left.1.0) (refl, (refl, (e.left.1.1.0, e.left.1.1.1)))

-- a head whose mark is above 1
pub head-mark-refused : (servers own : ℕ) (log users head store : List ℕ) (used : ℕ) (q answer : List ℕ) → leb (get_or head 39 0) 1 ≡ false
    → (server_answered servers own log users head store used q answer).result.code ≡ 22
unfolding server_answered result_of refused_setup
head-mark-refused servers own log users head store used q answer e =
    let s : Settings = settings servers own log users in
    let unfit : first_code (server_setup_checks s (head_of head) store used answer) ≡ 22 = head_unfit s (head_of head) store used answer (head-mark-out_of_range users head e) in
    ap (λ (x : ServeOutcome). x.out.code) (served-refused s (head_of head) store used q answer 22 (sym unfit) (λ z. omega arith))
