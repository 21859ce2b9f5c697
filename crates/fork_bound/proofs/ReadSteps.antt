-- The steps of a Read keep what holds of its user, and what it reads is in its view.
use mathlib.Core.Path.{◌≡◌, ap, sym, ◌∙◌}
use mathlib.Core.Bool.{true, ◌&&◌}
use mathlib.Core.List.Memᴰ
use mathlib.Core.List.{List, []}
use mathlib.Core.Logic.{inl, inr}
use Prim.Native.Nat.{ℕ, ◌≤◌}
use native.Mathlib.Omega.{arith}
use lib.Dec.{eqb, leb}
use lib.ListN.{length, take}
use borrow.Author.Tests.{eqb-true, eqb-false, leb-true}
use Rattle.tree.specs.Bytes.{eqs, written}
use Rattle.tree.specs.Expr.{entry_text, value}
use Rattle.tree.specs.Setup.{first_code, Settings}
use Rattle.tree.proofs.Cases.{and-true}
use Rattle.tree.proofs.Agree.{AllIn, Sized}
use Rattle.tree.proofs.Cuts.{read-digest-sized}
use Rattle.tree.proofs.ReadLaws.{read-gives-leaf}
use Rattle.user_list.specs.Users.{least_request}
use Rattle.user.specs.declared.call.Kept.{Kept}
use Rattle.user.specs.Asking.{user_setup_checks, request_room, refused, done, asking}
use Rattle.user.specs.Outcome.{Lent, Outcome}
use Rattle.user_read.specs.declared.call.Read.{Read}
use Rattle.user_read.specs.Read.{read_want, read_checks, read_at, read_asks, read_started, held_text, text_author, text_entry, text_leaf, read_next, read_collected, read_over, read_ends, read_taken}
use Rattle.user.proofs.Passed.{setup-passed, by_cond}
use Rattle.user_read.proofs.ReadRules.{by_taken, next, collected, next_small, handed, held_small, read-given}
use Rattle.user_read.proofs.Texts.{author_low, author_of_text, entry_of_text}
use Rattle.user_calls.specs.Calls.{reading, as_call}
use Rattle.whole_run.specs.World.{settings_for, User, sent_by, returned, view_after, new_reads, after, read_events}
use Rattle.whole_run.proofs.Requests.{sent-kind, read-kind}
use Rattle.fork_bound.proofs.Noted.{Whole, Hashed, Within, all_hashed}
use Rattle.fork_bound.proofs.Histories.{Known}
use Rattle.fork_bound.proofs.States.{ReadOk, UserOk}

over_sized : (v : ℕ) (r : Read) (hashes held : List ℕ) → Sized (read_over v r hashes held)
unfolding read_over text_leaf Sized
over_sized v r hashes held = read-digest-sized r.position v hashes _ tt

module _ (W : Whole) (own : ℕ) (u : User) (ok : UserOk W own u) where
  abbrev s : Settings
  s = settings_for W.group own

  abbrev Keeps : Outcome Read → Type 0
  Keeps o = o.step.code ≡ 0 → Within W (read_events u.state.kept.version o) → UserOk W own (after u (as_call reading o))

  asks_ok : (m : Lent) (r : Read) → request_room m.request ≡ true → r.length ≤ 1026
      → UserOk W own (after u (as_call reading (read_asks s u.state m r)))
  unfolding after read_asks asking returned view_after new_reads sent_by request_room
  asks_ok m r room h =
      let n = leb-true least_request (length m.request) room in
      let pull = read-kind W.group.servers u.state.kept.version r in
      let sent = sent-kind s (read_want W.group.servers u.state.kept.version r) [] m.request W.named (omega arith) (omega arith) in
      record { seen = ok.seen; state = ok.state; call = h; out = λ e. absurd (omega arith) }

  -- what a Read that gives the digest has read is in every history with that digest
  read_ok : Known W → (k : Kept) (r : Read) (hashes held : List ℕ) → 1 ≤ r.position → r.position ≤ k.version
      → eqs (value (read_over k.version r hashes held)) k.digest ≡ true → AllIn (Hashed W) (read_over k.version r hashes held)
      → ReadOk W k.version k.digest
      (record { position = r.position; author = text_author (held_text r held); entry = text_entry (held_text r held) })
  unfolding read_over text_leaf
  read_ok K k r hashes held some within e x =
      let text = held_text r held in
      let author = text_author text in
      let entry = text_entry text in
      record {
        some = some;
        within = within;
        true-read = λ f h d.
            let t = read-gives-leaf (Hashed W) K.free r.position k.version hashes (entry_text author entry) f some within x
            (h.hashed k.version (omega arith) (omega arith)) (read-given k r hashes held e ∙ sym d) in
            (ap text_author (sym t) ∙ author_of_text author entry (author_low text), ap text_entry (sym t) ∙ entry_of_text author entry);
      }

  ends_ok : (m : Lent) (r : Read) → 1 ≤ r.position → r.position ≤ u.state.kept.version → r.length ≤ 1026 → 1024 ≤ length m.entry
      → eqs (value (read_over u.state.kept.version r m.hashes m.held)) u.state.kept.digest ≡ true → Keeps (read_ends u.state m r)
  unfolding after read_ends done returned view_after new_reads read_events sent_by
  ends_ok m r some within small room e _ f =
      let k = u.state.kept in
      let i = ok.state in
      let text = held_text r m.held in
      let entry : take (length (text_entry text)) (written m.entry 0 (text_entry text)) ≡ text_entry text =
      handed (text_entry text) m.entry (omega (arith, held_small r m.held small)) in
      let over = all_hashed W (read_over k.version r m.hashes m.held) _ (over_sized k.version r m.hashes m.held) (λ t y. y) f in
      record {
        seen = ok.seen;
        state = record {
          small = i.small;
          room = i.room;
          sized = i.sized;
          kept = i.kept;
          open_write = i.open_write;
          reads = λ K y z.
              elim (Memᴰ.cases_cons z) [
                | inl q ↦ rw (q, entry) (read_ok K k r m.hashes m.held some within e over)
                | inr w ↦ i.reads K y w
              ];
        };
        call = tt;
        out = λ e. absurd (omega arith);
      }

  -- an answer that a Read takes in
  pub read-taken_ok : (r : Read) (a : List ℕ) → r.length ≤ 1026 → Keeps (read_taken s u.state u.lent r a)
  unfolding refused read_collected read_next
  read-taken_ok r a h =
      let σ = u.state in
      let m = u.lent in
      by_taken s σ m r a Keeps (λ n z. absurd (n z))
      (λ t l e. ends_ok (collected s σ m r a) (next s σ m r a) t.some t.within (next_small s σ m r a t h) t.room e)
      (λ t _ _ _. asks_ok (collected s σ m r a) (next s σ m r a) t.request-room (next_small s σ m r a t h))

  pub read-started_ok : (m : Lent) (p : ℕ) → (read_started s u.state m p).step.code ≡ 0
      → UserOk W own (after u (as_call reading (read_started s u.state m p)))
  unfolding read_started read_checks user_setup_checks refused
  read-started_ok m p =
      let code = first_code (read_checks s u.state.kept p m) in
      by_cond (λ o. o.step.code ≡ 0 → UserOk W own (after u (as_call reading o))) (eqb code 0) _ _
      (λ e _.
      let room = (setup-passed s u.state.kept (request_room m.request && leb 1024 (length m.entry)) _ (eqb-true code 0 e)).1 in
      asks_ok m (read_at p 0) (and-true (request_room m.request) _ room).0 (omega arith))
      (λ e z. absurd (eqb-false code 0 e z))
