-- A call of the server's exported function is, on the head that the bytes stand for, the server's step.
use mathlib.Core.Path.{◌≡◌, sym, subst}
use mathlib.Core.List.{List}
use Prim.Native.Nat.{ℕ, ◌≤◌, ◌<◌}
use native.Mathlib.Omega.{arith}
use lib.Dec.{eqb, leb}
use lib.ListN.{length, length-replicate}
use borrow.Author.Tests.{eq-eqb, ne_eqb, leb-true}
use Rattle.tree.specs.Message.{request_kind, request_position, request_level, request_author, request_body}
use Rattle.tree.specs.Setup.{Settings, settings}
use Rattle.user_list.specs.Users.{user_count, is_listed, group_fits}
use Rattle.tree.proofs.Cases.{and-true, cases_eq}
use Rattle.user_list.proofs.Lists.{group-fits}
use Rattle.tree.proofs.Levels.{lg_below}
use Rattle.tree.proofs.Pieces.{piece-length}
use Rattle.server.specs.declared.Head.{Head}
use Rattle.server.specs.declared.Earlier.{Earlier}
use Rattle.server.specs.Checks.{server_settings_fit}
use Rattle.server.specs.Serve.{none_earlier, as_earlier, reserved_head, brought_back, ServeOutcome, served}
use Rattle.server.proofs.Asked.{Fits, names_node, in_log_lem}
use Rattle.server.proofs.Served.{Ready, setup-passed}
use Rattle.server.proofs.Theorems.{refusal-keeps_all, head_changes_only_by_reserve-or_give_up}
use Rattle.server.proofs.After.{accepted-setup, accepted-fits}
use Rattle.server.proofs.GiveUps.{reserve-is-head, give_up_brings_back}
use Rattle.user.proofs.Passed.{by_cond}
use Rattle.c_layout.specs.Server.{head_of, server_answered}
use Rattle.c_layout.proofs.Heads.{decode_encode}

-- a place whose fields fit their bytes, and a head that has two of them
pub record PlaceSmall (position level author : ℕ) (digest : List ℕ) : Type 0 where
  pub at : position < 4294967296
  pub low : level < 256
  pub by : author < 65536
  pub size : length digest ≡ 32

pub record HeadSmall (h : Head) : Type 0 where
  pub now : PlaceSmall h.position h.level h.author h.digest
  pub before : PlaceSmall h.earlier.position h.earlier.level h.earlier.author h.earlier.digest

module _ (s : Settings) (h : Head) (store : List ℕ) (used : ℕ) (q answer : List ℕ) (small : HeadSmall h) where
  abbrev left : ServeOutcome
  left = served s h store used q answer

  few_users : Ready s h store used → user_count s.users ≤ 64
  unfolding server_settings_fit
  few_users r = (group-fits s.servers s.users (and-true (group_fits s.servers s.users) _ r.settings).0).few

  -- a Reserve that is accepted
  reserved : left.out.code ≡ 0 → request_kind q ≡ 5 → HeadSmall (reserved_head h q)
  unfolding reserved_head as_earlier is_listed
  reserved ok k =
      let r = setup-passed s h store used answer (accepted-setup s h store used q answer ok) in
      let f : Fits s.users q = accepted-fits s h store used q answer ok in
      let node = in_log_lem (request_position q) (request_level q) (names_node (request_kind q) (request_position q) (request_level q) (λ o. omega arith) f.node).0 in
      let p = node.1.0 in
      let l = node.1.1 in
      let b = lg_below (request_position q) 21 (omega arith) in
      let own = leb-true (request_author q) (user_count s.users) (and-true (leb 1 (request_author q)) _ f.author).1 in
      let few = few_users r in
      let before = small.now.low in
      let same = eqb (request_position q) h.position in
      let Small : Earlier → Type 0 = λ e. PlaceSmall e.position e.level e.author e.digest in
      record {
        now = record {
          at = omega arith;
          low = by_cond (λ x. x < 256) same _ _ (λ _. omega arith) (λ _. omega arith);
          by = omega arith;
          size = piece-length (request_body q) 0;
        };
        before = by_cond Small same h.earlier (as_earlier h) (λ _. small.before) (λ _. small.now);
      }

  -- The head after a call fits its bytes, as it did before.
  pub head_small : HeadSmall left.out.head
  unfolding brought_back none_earlier
  head_small =
      cases_eq left.out.code 0
      (λ ok. cases_eq (request_kind q) 5
      (λ five. subst HeadSmall (sym (reserve-is-head s h store used q answer ok five)) (reserved ok five))
      (λ n. cases_eq (request_kind q) 9
      (λ nine. subst HeadSmall (sym (give_up_brings_back s h store used q answer ok nine))
      (record { now = small.before; before = record { at = omega arith; low = omega arith; by = omega arith; size = length-replicate {A = ℕ} 32 0 } }))
      (λ m. subst HeadSmall (sym (head_changes_only_by_reserve-or_give_up s h store used q answer (λ _. n) (λ _. m))) small)))
      (λ n. subst HeadSmall (sym (refusal-keeps_all s h store used q answer n).0) small)

-- The head that the bytes stand for after the call is the server's head after its step.
pub head_same : (servers own : ℕ) (log users head store : List ℕ) (used : ℕ) (q answer : List ℕ) → HeadSmall (head_of head)
    → head_of (server_answered servers own log users head store used q answer).head
    ≡ (served (settings servers own log users) (head_of head) store used q answer).out.head
unfolding server_answered
head_same servers own log users head store used q answer small =
    let s = settings servers own log users in
    let left = served s (head_of head) store used q answer in
    let h = head_small s (head_of head) store used q answer small in
    cases_eq left.out.code 0
    (λ z. rw (eq-eqb left.out.code 0 z)
    (decode_encode left.out.head h.now.size h.now.low h.before.low h.now.at h.now.by h.before.at h.before.by))
    (λ n. rw (ne_eqb left.out.code 0 n) (sym (refusal-keeps_all s (head_of head) store used q answer n).0))
