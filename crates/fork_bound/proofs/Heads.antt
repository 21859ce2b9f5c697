-- H's side of the claim: of the Reserves that H accepted and that were not given up since, those of one position have one digest, in every
-- list of steps.
use mathlib.Core.Path.{◌≡◌, refl, ap, sym, ◌∙◌, subst}
use mathlib.Core.Bool.{true, false, cond}
use mathlib.Core.List.Memᴰ
use mathlib.Core.List.{List, [], ◌∷◌, ◌++◌, Memᴰ}
use mathlib.Core.Logic.{◌⊎◌, inl, inr}
use Prim.Native.Nat.{ℕ, ◌-◌, ◌%◌, ◌≤◌, ◌<◌}
use native.Mathlib.Nat.{mod-lt}
use native.Mathlib.Omega.{arith}
use lib.Dec.{eqb}
use lib.ListN.{length, take, length-append}
use lib.Seq.{take_all}
use borrow.Author.Tests.{ne_eqb, eqb-true}
use Rattle.sha256.proofs.Laws.{be-mod}
use Rattle.tree.specs.Cover.{piece}
use Rattle.tree.specs.Message.{request, request_header, request_kind, request_author, request_position, request_body, answer, answer_header, answer_code}
use Rattle.tree.proofs.Cases.{by_eqb, cases_eq, not_both}
use Rattle.tree.proofs.Messages.{answer_header_length, request-kind, request-author, request-position, request-body, answer-code}
use Rattle.tree.proofs.Pieces.{piece-whole}
use Rattle.tree.specs.Setup.{first_code, Settings}
use Rattle.user.proofs.Passed.{by_cond}
use Rattle.server.specs.declared.Head.{Head}
use Rattle.store.specs.Shape.{request_body_fits}
use Rattle.store.specs.Store.{records}
use Rattle.server.specs.Checks.{server_setup_checks, record_found, pull_source}
use Rattle.server.specs.Serve.{none_earlier, as_earlier, reserved_head, brought_back, header_given, body_given, answer_given, ServeOutcome, refused_setup, served}
use Rattle.server.proofs.Codes.{request_codes}
use Rattle.server.proofs.Served.{rs, code, given, served-passed, served-refused}
use Rattle.server.proofs.Theorems.{Heads, reserved-or_same, refusal-keeps_all, head_changes_only_by_reserve-or_give_up, reserve-passed}
use Rattle.server.proofs.After.{reserved_higher, reserved-again, accepted-setup, accepted-code, accepted-fits}
use Rattle.server.proofs.GiveUps.{reserve-is-head, give_up_is-heads, give_up_brings_back}
use Rattle.whole_run.specs.World.{Event, answered, Noted}
use Rattle.whole_run.specs.Runs.{NewServer, new_server, server_events}
use Rattle.fork_bound.specs.Fair.{Account, Belongs, InTime}
use Rattle.whole_run.proofs.Answers.{all_given}
use Rattle.fork_bound.proofs.Order.{noted_in, noted_below, noted-later, noted-before}
use Rattle.fork_bound.proofs.Noted.{Whole}
use Rattle.fork_bound.proofs.Taken.{belongs_later, Took}

-- the tenth byte of an answer is its code, whatever the other fields are
code_byte : (kind own p l c : ℕ) (body : List ℕ) → c < 256 → answer_code (answer_header kind own p l c ++ body) ≡ c
unfolding answer answer_header
code_byte kind own p l c body h =
    rw (be-mod 1 kind, be-mod 1 own, be-mod 4 p, be-mod 1 l) at (
    answer-code (kind % 256) (own % 256) (p % 4294967296) (l % 256) c body
    (mod-lt kind (omega arith)) (mod-lt own (omega arith)) (mod-lt p (omega arith)) (mod-lt l (omega arith)) h)

header_length : (own : ℕ) (q : List ℕ) (c : ℕ) → length (header_given own q c) ≡ 10
unfolding header_given
header_length own q c = answer_header_length _ own _ _ c

-- one call of H
module _ (s : Settings) (h : Head) (store : List ℕ) (used : ℕ) (q buffer : List ℕ) where
  abbrev after : ServeOutcome
  after = served s h store used q buffer

  abbrev noted_of : ℕ → List Event
  noted_of H = server_events H q after.out.answered after.answer

  small-code : code s h store used q buffer < 256
  small-code =
      let rs = records s.users (take used store) in
      elim (request_codes s h (record_found rs q) (pull_source rs q) (length store - used) q) [ inl l ↦ omega (arith, l) | inr e ↦ omega (arith, e) ]

  -- the answer that is noted is the one that was given: it has the call's code
  given-code : first_code (server_setup_checks s h store used buffer) ≡ 0 → answer_code (take after.out.answered after.answer) ≡ after.out.code
  unfolding answer_given header_given
  given-code z =
      let c = code_byte _ s.own _ _ (code s h store used q buffer) _ small-code in
      rw (all_given s h store used q buffer z, served-passed s h store used q buffer z) c

  -- a call notes its answer, if it gives one
  noted-code : (H : ℕ) (r x : List ℕ) → Memᴰ (answered H r x) (noted_of H) → (r ≡ q) × (answer_code x ≡ after.out.code)
  unfolding server_events refused_setup
  noted-code H r x =
      let a : List ℕ = take after.out.answered after.answer in
      by_eqb (λ b. Memᴰ (answered H r x) (cond b [] (answered H q a ∷ [])) → (r ≡ q) × (answer_code x ≡ after.out.code)) after.out.answered 0
      (λ _ i. absurd (Memᴰ.not-nil i))
      (λ n i. elim (Memᴰ.cases_cons i) [
        | inl e ↦ cases_eq (first_code (server_setup_checks s h store used buffer)) 0
            (λ z. let same : x ≡ a = cc in (cc, ap answer_code same ∙ given-code z))
            (λ m. absurd (n (rw (served-refused s h store used q buffer _ refl m))))
        | inr j ↦ absurd (Memᴰ.not-nil j)
      ])

  -- and one that is accepted gives one
  accepted-noted : (H : ℕ) → after.out.code ≡ 0 → (x : List ℕ) × (noted_of H ≡ answered H q x ∷ []) × (answer_code x ≡ 0)
  unfolding server_events answer_given
  accepted-noted H ok =
      let z = accepted-setup s h store used q buffer ok in
      let some : after.out.answered ≡ 0 → ⊥ = λ e.
      let size : length (given s h store used q buffer) ≡ 0 = rw (served-passed s h store used q buffer z) at e in
      let first = header_given s.own q (code s h store used q buffer) in
      let parts = length-append first (cond (eqb (code s h store used q buffer) 0) (body_given h (pull_source (rs s h store used q buffer) q) q) []) in
      omega (arith, size, parts, header_length s.own q (code s h store used q buffer)) in
      (take after.out.answered after.answer, rw (ne_eqb after.out.answered 0 some), given-code z ∙ ok)

  -- an accepted Reserve's digest has 32 bytes
  reserved-body : after.out.code ≡ 0 → request_kind q ≡ 5 → length (request_body q) ≡ 32
  unfolding request_body_fits
  reserved-body ok k = eqb-true (length (request_body q)) 32 (rw k at (accepted-fits s h store used q buffer ok).body)

  reserved-digest : after.out.code ≡ 0 → request_kind q ≡ 5 → piece (request_body q) 0 ≡ request_body q
  reserved-digest ok k =
      let l = reserved-body ok k in
      piece-whole (request_body q) 0 (omega arith) ∙ take_all 32 (request_body q) (omega arith)

-- a request of this kind of user a, for p and δ
abbrev pub Of : ℕ → ℕ → ℕ → List ℕ → List ℕ → Type 0
Of kind a p δ q = (request_kind q ≡ kind) × (request_author q ≡ a) × (request_position q ≡ p) × (request_body q ≡ δ)

-- H accepted a Reserve of user a for p and δ, and has accepted no give-up of it since
pub record Stands (H : ℕ) (log : List Event) (a p : ℕ) (δ : List ℕ) : Type 0 where
  pub request : List ℕ
  pub answer : List ℕ
  pub number : ℕ
  pub given : Noted log number (answered H request answer)
  pub reserves : Of 5 a p δ request
  pub code : answer_code answer ≡ 0
  pub since : (k : ℕ) (r y : List ℕ) → number < k → Noted log k (answered H r y) → Of 9 a p δ r → answer_code y ≡ 0 → ⊥

-- p, a and δ are those of a head, or p is below it
pub record Below (a p : ℕ) (δ : List ℕ) (position author : ℕ) (digest : List ℕ) : Type 0 where
  pub up : p ≤ position
  pub same : p ≡ position → (a ≡ author) × (δ ≡ digest)

-- a give-up that H accepted at number k was in time
abbrev pub Timely : ℕ → Account → List Event → ℕ → List ℕ → Type 0
Timely H account log k q =
    (m : ℕ) × Belongs H account (request_author q) log k m q × ((i j : ℕ) (r x : List ℕ) → request_kind r ≡ 5 → j < k
    → Noted log j (answered H r x) → Belongs H account (request_author q) log j i r → m < i → ⊥)

-- What stands at H is at its head or below; if there is an earlier head, nothing stands between the two; and for one position one digest stands.
pub record Logged (H : ℕ) (account : Account) (h : Head) (log : List Event) : Type 0 where
  pub whole : length h.digest ≡ 32
  pub earlier_whole : h.earlier.known ≡ true → length h.earlier.digest ≡ 32
  pub past : (a p : ℕ) (δ : List ℕ) → Stands H log a p δ → Below a p δ h.position h.author h.digest
  pub before : h.earlier.known ≡ true → (a p : ℕ) (δ : List ℕ) → Stands H log a p δ
      → (p ≡ h.position) ⊎ Below a p δ h.earlier.position h.earlier.author h.earlier.digest
  pub same : (a b p : ℕ) (δ ε : List ℕ) → Stands H log a p δ → Stands H log b p ε → δ ≡ ε
  pub fair : (k : ℕ) (q y : List ℕ) → Noted log k (answered H q y) → request_kind q ≡ 9 → answer_code y ≡ 0 → Timely H account log k q

-- what is noted under a number of the past was so then
noted-then : (es log : List Event) (i : ℕ) (e : Event) → i < length log → Noted (es ++ log) i e → Noted log i e
noted-then es log i e l m = elim (noted-before es log i e m) [ inl x ↦ x | inr x ↦ absurd (omega (arith, x.1)) ]

belongs_then : (H : ℕ) (account : Account) (es log : List Event) (a j i : ℕ) (q : List ℕ) → j < length log → Belongs H account a (es ++ log) j i q
    → Belongs H account a log j i q
unfolding Belongs
belongs_then H account es log a j i q l b = (b.0, b.1, noted-then es log i _ (omega (arith, b.1)) b.2)

-- a give-up that was in time stays so: what is noted later has higher numbers
timely-later : (H : ℕ) (account : Account) (es log : List Event) (k : ℕ) (q : List ℕ) → k ≤ length log → Timely H account log k q
    → Timely H account (es ++ log) k q
timely-later H account es log k q small t = (
  t.0,
  belongs_later H account es log _ _ _ q t.1,
  λ i j r x five l n b. t.2 i j r x five l (noted-then es log j _ (omega arith) n) (belongs_then H account es log _ j i r (omega arith) b),
)

-- a head that stays, where what stands now stood before
stays_logged : (H : ℕ) (account : Account) (h : Head) (log longer : List Event) → Logged H account h log
    → ((a p : ℕ) (δ : List ℕ) → Stands H longer a p δ → Stands H log a p δ)
    → ((k : ℕ) (q y : List ℕ) → Noted longer k (answered H q y) → request_kind q ≡ 9 → answer_code y ≡ 0 → Timely H account longer k q)
    → Logged H account h longer
stays_logged H account h log longer k stood fair =
    record {
      whole = k.whole;
      earlier_whole = k.earlier_whole;
      past = λ a p δ x. k.past a p δ (stood a p δ x);
      before = λ e a p δ x. k.before e a p δ (stood a p δ x);
      same = λ a b p δ ε x y. k.same a b p δ ε (stood a p δ x) (stood b p ε y);
      fair = fair;
    }

-- steps of users and of other servers: the head stays, and no answer of H's is new
pub logged_later : (H : ℕ) (account : Account) (h : Head) (es log : List Event) → ((q a : List ℕ) → Memᴰ (answered H q a) es → ⊥)
    → Logged H account h log → Logged H account h (es ++ log)
logged_later H account h es log none k =
    stays_logged H account h log (es ++ log) k stood
    (λ j q y n e z.
    let m = old j q y n in timely-later H account es log j q (omega (arith, noted_below log j _ m)) (k.fair j q y m e z))
  where
    old : (j : ℕ) (q y : List ℕ) → Noted (es ++ log) j (answered H q y) → Noted log j (answered H q y)
    old j q y n = elim (noted-before es log j _ n) [ inl x ↦ x | inr x ↦ absurd (none q y x.0) ]

    stood : (a p : ℕ) (δ : List ℕ) → Stands H (es ++ log) a p δ → Stands H log a p δ
    stood a p δ x =
        record {
          request = x.request;
          answer = x.answer;
          number = x.number;
          given = old _ _ _ x.given;
          reserves = x.reserves;
          code = x.code;
          since = λ j r y l n. x.since j r y l (noted-later es log _ _ n);
        }

-- a call of H
module _ (H : ℕ) (account : Account) (h : Head) (log : List Event) (s : Settings) (store : List ℕ) (used : ℕ) (q buffer : List ℕ)
    (k : Logged H account h log) (timely : request_kind q ≡ 9 → (served s h store used q buffer).out.code ≡ 0 → InTime H account log q) where
  abbrev pub call : ServeOutcome
  call = served s h store used q buffer

  abbrev es : List Event
  es = server_events H q call.out.answered call.answer

  abbrev pub longer : List Event
  longer = es ++ log

  -- what stands then stood before and is not given up now, or is reserved now
  split : (a p : ℕ) (δ : List ℕ) → Stands H longer a p δ
      → (Stands H log a p δ × (Of 9 a p δ q → call.out.code ≡ 0 → ⊥)) ⊎ (Of 5 a p δ q × (call.out.code ≡ 0))
  unfolding Noted
  split a p δ x = elim (noted-before es log x.number _ x.given) [
    | inl y ↦ inl (
      record {
        request = x.request;
        answer = x.answer;
        number = x.number;
        given = y;
        reserves = x.reserves;
        code = x.code;
        since = λ j r z l n. x.since j r z l (noted-later es log _ _ n);
      },
      λ o ok. let n = accepted-noted s h store used q buffer H ok in
          x.since (length log) q n.0 (noted_below log _ _ y) (rw n.1 (inl (refl, refl))) o n.2,
    )
    | inr y ↦ (let n = noted-code s h store used q buffer H x.request x.answer y.0 in
        inr (subst (Of 5 a p δ) n.0 x.reserves, sym n.1 ∙ x.code))
  ]

  -- a give-up that is accepted now is in time
  timely-now : InTime H account log q → Timely H account longer (length log) q
  unfolding InTime
  timely-now t =
      timely-later H account es log (length log) q (omega arith) (t.0, t.1, λ i j r x five _ n b. t.2 i j r x five n b)

  one_event : length es ≤ 1
  unfolding server_events
  one_event = by_cond (λ (xs : List Event). length xs ≤ 1) (eqb call.out.answered 0) [] _ (λ _. omega arith) (λ _. omega arith)

  fair_now : (j : ℕ) (r y : List ℕ) → Noted longer j (answered H r y) → request_kind r ≡ 9 → answer_code y ≡ 0 → Timely H account longer j r
  fair_now j r y n e z = elim (noted-before es log j _ n) [
    | inl x ↦ timely-later H account es log j r (omega (arith, noted_below log j _ x)) (k.fair j r y x e z)
    | inr x ↦ (let c = noted-code s h store used q buffer H r y x.0 in
        let last : j ≡ length log = omega (arith, noted_below longer j _ n, length-append es log, one_event, x.1) in
        subst (λ b. Timely H account longer j b) (sym c.0)
        (subst (λ i. Timely H account longer i q) (sym last) (timely-now (timely (rw c.0 at e) (sym c.1 ∙ z)))))
  ]

  -- what holds of the new head, by what it is
  abbrev Goes : Head → Type 0
  Goes h' = Logged H account h' longer

  -- nothing is reserved now, and the head stays
  stays : (call.out.code ≡ 0 → request_kind q ≡ 5 → ⊥) → Goes h
  stays none = stays_logged H account h log longer k old fair_now
    where
      old : (a p : ℕ) (δ : List ℕ) → Stands H longer a p δ → Stands H log a p δ
      old a p δ x = elim (split a p δ x) [ inl y ↦ y.0 | inr y ↦ absurd (none y.1 y.0.0) ]

  -- a Reserve is accepted
  module _ (ok : (served s h store used q buffer).out.code ≡ 0) (reserve : request_kind q ≡ 5) where
    abbrev next : Head
    next = reserved_head h q

    digest-is : next.digest ≡ request_body q
    unfolding reserved_head
    digest-is = reserved-digest s h store used q buffer ok reserve

    at_head : (a p : ℕ) (δ : List ℕ) → Of 5 a p δ q → Below a p δ next.position next.author next.digest
    unfolding reserved_head
    at_head a p δ o = record { up = omega (arith, o.2); same = λ _. (sym o.1, sym o.3 ∙ sym digest-is) }

    next-whole : length next.digest ≡ 32
    next-whole = ap length digest-is ∙ reserved-body s h store used q buffer ok reserve

    -- for a higher position
    higher : h.position < request_position q → Goes next
    unfolding reserved_head as_earlier
    higher l =
        let e = reserved_higher h q l in
        record {
          whole = next-whole;
          earlier_whole = λ _. rw e k.whole;
          past = λ a p δ x. elim (split a p δ x) [
            | inl y ↦ (let b = k.past a p δ y.0 in let up = b.up in record { up = omega arith; same = λ same. absurd (omega arith) })
            | inr y ↦ at_head a p δ y.0
          ];
          before = λ _ a p δ x. elim (split a p δ x) [ inl y ↦ inr (rw e (k.past a p δ y.0)) | inr y ↦ inl (sym y.0.2) ];
          same = λ a b p δ ε x y. elim (split a p δ x) [
            | inl v ↦ elim (split b p ε y) [
              | inl w ↦ k.same a b p δ ε v.0 w.0
              | inr w ↦ (let up = (k.past a p δ v.0).up in absurd (omega (arith, w.0.2)))
            ]
            | inr v ↦ elim (split b p ε y) [
              | inl w ↦ (let up = (k.past b p ε w.0).up in absurd (omega (arith, v.0.2)))
              | inr w ↦ sym v.0.3 ∙ w.0.3
            ]
          ];
          fair = fair_now;
        }

    -- for the head's own
    again : Heads h q → Goes next
    unfolding reserved_head
    again t =
        let e = reserved-again h q t.position in
        record {
          whole = next-whole;
          earlier_whole = λ m. rw e (k.earlier_whole (rw e at m));
          past = λ a p δ x. elim (split a p δ x) [
            | inl y ↦ (let b = k.past a p δ y.0 in let up = b.up in record {
              up = omega (arith, t.position);
              same = λ same. (let c = b.same (same ∙ t.position) in (c.0 ∙ sym t.author, c.1 ∙ sym t.digest ∙ sym digest-is));
            })
            | inr y ↦ at_head a p δ y.0
          ];
          before = λ m a p δ x. elim (split a p δ x) [
            | inl y ↦ elim (k.before (rw e at m) a p δ y.0) [ inl z ↦ inl (z ∙ sym t.position) | inr z ↦ inr (rw e z) ]
            | inr y ↦ inl (sym y.0.2)
          ];
          same = λ a b p δ ε x y. elim (split a p δ x) [
            | inl v ↦ elim (split b p ε y) [
              | inl w ↦ k.same a b p δ ε v.0 w.0
              | inr w ↦ ((k.past a p δ v.0).same (sym w.0.2 ∙ t.position)).1 ∙ sym t.digest ∙ w.0.3
            ]
            | inr v ↦ elim (split b p ε y) [
              | inl w ↦ sym v.0.3 ∙ t.digest ∙ sym ((k.past b p ε w.0).same (sym v.0.2 ∙ t.position)).1
              | inr w ↦ sym v.0.3 ∙ w.0.3
            ]
          ];
          fair = fair_now;
        }

  -- A give-up is accepted: what stood at the head's position is given up, and nothing stood between it and the earlier head.
  brings_back : call.out.code ≡ 0 → request_kind q ≡ 9 → Goes (brought_back h.earlier)
  unfolding brought_back none_earlier
  brings_back ok nine =
      let t = give_up_is-heads s h store used q buffer ok nine in
      let heads = t.1 in
      let old : (a p : ℕ) (δ : List ℕ) → Stands H longer a p δ → Stands H log a p δ × (Of 9 a p δ q → call.out.code ≡ 0 → ⊥) =
      λ a p δ x. elim (split a p δ x) [ inl y ↦ y | inr y ↦ absurd (let five = y.0.0 in omega arith) ] in
      record {
        whole = k.earlier_whole t.0;
        earlier_whole = λ m. not_both false m refl;
        past = λ a p δ x. (let y = old a p δ x in elim (k.before t.0 a p δ y.0) [
          | inl e ↦ (let b = (k.past a p δ y.0).same e in
              absurd (y.1 (nine, heads.author ∙ sym b.0, heads.position ∙ sym e, heads.digest ∙ sym b.1) ok))
          | inr b ↦ b
        ]);
        before = λ m. not_both false m refl;
        same = λ a b p δ ε x y. k.same a b p δ ε (old a p δ x).0 (old b p ε y).0;
        fair = fair_now;
      }

  pub logged_server : Logged H account call.out.head longer
  logged_server =
      cases_eq call.out.code 0
      (λ ok. cases_eq (request_kind q) 5
      (λ five. subst Goes (sym (reserve-is-head s h store used q buffer ok five))
      (reserved-or_same h q (reserve-passed s h store used q buffer (accepted-code s h store used q buffer ok) five) (higher ok five) (again ok five)))
      (λ n. cases_eq (request_kind q) 9
      (λ nine. subst Goes (sym (give_up_brings_back s h store used q buffer ok nine)) (brings_back ok nine))
      (λ m. subst Goes (sym (head_changes_only_by_reserve-or_give_up s h store used q buffer (λ _. n) (λ _. m))) (stays (λ _. n)))))
      (λ n. subst Goes (sym (refusal-keeps_all s h store used q buffer n).0) (stays (λ z _. n z)))

pub logged_first : (H : ℕ) (account : Account) (b : NewServer) → Logged H account (new_server b).head []
unfolding new_server none_earlier
logged_first H account b =
    record {
      whole = b.digest_size;
      earlier_whole = λ m. not_both false m refl;
      past = λ a p δ x. absurd (Memᴰ.not-nil (noted_in [] _ _ x.given));
      before = λ m. not_both false m refl;
      same = λ a b p δ ε x y. absurd (Memᴰ.not-nil (noted_in [] _ _ x.given));
      fair = λ k q y n. absurd (Memᴰ.not-nil (noted_in [] _ _ n));
    }

-- what H reads in a Reserve: each number modulo the size of its field
module _ (log : List ℕ) (named : length log ≡ 16) (a p l : ℕ) (δ : List ℕ) where
  abbrev reserve : List ℕ
  reserve = request 5 log a p l δ

  reserve_wraps : reserve ≡ request 5 log (a % 65536) (p % 4294967296) (l % 256) δ
  unfolding request request_header
  reserve_wraps = rw (be-mod 2 a, be-mod 4 p, be-mod 1 l)

  pub reserve-read : (request_kind reserve ≡ 5) × (request_author reserve ≡ a % 65536) × (request_position reserve ≡ p % 4294967296) × (request_body reserve ≡ δ)
  reserve-read =
      let ha : a % 65536 < 65536 = mod-lt a (omega arith) in
      let hp : p % 4294967296 < 4294967296 = mod-lt p (omega arith) in
      let hl : l % 256 < 256 = mod-lt l (omega arith) in
      rw reserve_wraps (
        request-kind 5 log _ _ _ δ (omega arith) named ha hp hl,
        request-author 5 log _ _ _ δ (omega arith) named ha hp hl,
        request-position 5 log _ _ _ δ (omega arith) named ha hp hl,
        request-body 5 log _ _ _ δ (omega arith) named ha hp hl,
      )

-- What H knows of its own head, of the list of steps that W stands for.
abbrev pub HeadOk : Whole → Head → List Event → Type 0
HeadOk W = Logged W.follows W.account

module _ (W : Whole) (h : Head) (log : List Event) (k : Logged W.follows W.account h log) where
  -- A Reserve that H accepted, of which the user has handed out no give-up since, stands: H took none of it in, by the premises.
  stands : (a p l : ℕ) (δ : List ℕ) → a ≤ 64 → p ≤ 1048576 → Took W log a p l δ → Stands W.follows log a p δ
  unfolding Belongs
  stands a p l δ listed small t =
      let q = request 5 W.group.log a p l δ in
      let r = reserve-read W.group.log W.named a p l δ in
      record {
        request = q;
        answer = t.answer;
        number = t.number;
        given = t.given;
        reserves = (r.0, omega (arith, r.1), omega (arith, r.2), r.3);
        code = t.code;
        since = λ j y x late n o z.
            let f = k.fair j y x n o.0 z in
            let by : ℕ → ℕ → List ℕ → ℕ → Type 0 = λ j i q b. Belongs W.follows W.account b log j i q in
            let i = t.since f.0 y (subst (by j f.0 y) o.1 f.1).2 (o.0, o.2, o.3) in
            f.2 i.0 t.number q t.answer r.0 late t.given (subst (by t.number i.0 q) (sym o.1) i.2) i.1;
      }

  -- Two of one position have the same digest.
  pub one-digest-at-H : (a b p l m : ℕ) (δ ε : List ℕ) → a ≤ 64 → b ≤ 64 → p ≤ 1048576 → Took W log a p l δ → Took W log b p m ε → δ ≡ ε
  one-digest-at-H a b p l m δ ε la lb small x y = k.same a b p δ ε (stands a p l δ la small x) (stands b p m ε lb small y)
