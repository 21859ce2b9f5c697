-- The requests that a user hands out: their kind and position read back, that each fits the request buffer, and the sizes of what goes into them.
use mathlib.Core.Path.{◌≡◌, refl, ◌∙◌, sym, ap}
use mathlib.Core.Bool.{true, cond, not, ◌||◌}
use mathlib.Core.List.{List}
use Prim.Native.Nat.{ℕ, suc, ◌+◌, ◌%◌, ◌≤◌, ◌<◌}
use native.Mathlib.Omega.{arith}
use lib.Dec.{eqb, leb, ltb}
use lib.ListN.{length, take, length-append, length-take}
use borrow.Author.Tests.{leb-true, le-leb}
use Rattle.sha256.specs.Bytes.{written}
use Rattle.sha256.proofs.Cases.{by_bool}
use Rattle.sha256.proofs.Laws.{be-mod, written-length}
use Rattle.lms.specs.Types.{LMOTS_SHA256_N32_W4, LMS_SHA256_M32_H10}
use Rattle.lms.specs.Tree.{tree_size}
use Rattle.lms.specs.Signature.{signature_size}
use Rattle.lms.specs.Claims.{SignatureLength}
use Rattle.lms.proofs.RoundTrip.{signature-length}
use Rattle.tree.specs.Level.{lg}
use Rattle.tree.specs.Expr.{Expr}
use Rattle.tree.specs.Cover.{piece, path_bytes, path_written}
use Rattle.tree.specs.Message.{request, request_header, request_kind, request_position}
use Rattle.tree.proofs.Cases.{and-true}
use Rattle.tree.proofs.Messages.{be-one, request-position}
use Rattle.tree.proofs.Pieces.{piece-length}
use Rattle.tree.specs.Setup.{Settings}
use Rattle.user_list.specs.Users.{tree_length, least_request, longest_signature, longest_tree}
use Rattle.user_list.proofs.Lists.{one-tree, one-count}
use Rattle.user_update.specs.declared.call.Update.{Update}
use Rattle.user_write.specs.declared.call.Write.{Write}
use Rattle.user.specs.declared.ask.Want.{Want}
use Rattle.user.specs.Asking.{request_room, of_node, of_status, asks}
use Rattle.user.specs.Outcome.{State, Key}
use Rattle.user_update.specs.Update.{update_want}
use Rattle.user_read.specs.declared.call.Read.{Read}
use Rattle.user_read.specs.Read.{read_want}
use Rattle.firing.specs.Entry.{entry_fits}
use Rattle.user_write.specs.Write.{commit_number, path_digest, write_kind, write_level, write_body, held_entry, write_room, number_left, signs_next}
use Rattle.user_write.specs.Write.{commit_signature, write_signature}
use Rattle.user_write.proofs.WriteRules.{number-left}
use Rattle.user.proofs.Passed.{by_cond, sent_is}

-- a request's kind and position, read back; its other fields may be of any size
asks-kind : (s : Settings) (w : Want) (body : List ℕ) → w.kind < 256 → request_kind (asks s w body) ≡ w.kind
unfolding asks request request_header
asks-kind s w body h = rw (be-one w.kind h)

fields_wrap : (kind author p l : ℕ) (log body : List ℕ)
    → request (kind % 256) log (author % 65536) p (l % 256) body ≡ request kind log author p l body
unfolding request request_header
fields_wrap kind author p l log body = rw (be-mod 1 kind, be-mod 2 author, be-mod 1 l)

asks-position : (s : Settings) (w : Want) (body : List ℕ) → length s.log ≡ 16 → w.position < 4294967296
    → request_position (asks s w body) ≡ w.position
unfolding asks
asks-position s w body named h =
    ap (λ (q : List ℕ). request_position q) (sym (fields_wrap w.kind s.own w.position w.level s.log body))
    ∙ request-position (w.kind % 256) s.log (s.own % 65536) w.position (w.level % 256) body (omega arith) named (omega arith) h (omega arith)

-- the same of the bytes that are handed out
pub sent-kind : (s : Settings) (w : Want) (body buffer : List ℕ) → length s.log ≡ 16 → 26 + length body ≤ length buffer → w.kind < 256
    → request_kind (take (26 + length body) (written buffer 0 (asks s w body))) ≡ w.kind
sent-kind s w body buffer named room h = ap (λ (q : List ℕ). request_kind q) (sent_is s w body buffer named room) ∙ asks-kind s w body h

pub sent-position : (s : Settings) (w : Want) (body buffer : List ℕ) → length s.log ≡ 16 → 26 + length body ≤ length buffer
    → w.position < 4294967296 → request_position (take (26 + length body) (written buffer 0 (asks s w body))) ≡ w.position
sent-position s w body buffer named room h =
    ap (λ (q : List ℕ). request_position q) (sent_is s w body buffer named room) ∙ asks-position s w body named h

-- an Update asks for a Status, a Record or a node
pub update-kind : (n v : ℕ) (c : Update) → (update_want n v c).kind < 5
unfolding update_want of_status of_node
update-kind n v c =
    by_cond (λ (w : Want). w.kind < 5) (ltb c.answers n) _ _ (λ e. omega arith)
    (λ e. by_cond (λ (w : Want). w.kind < 5) (eqb c.answers n) _ _ (λ d. omega arith) (λ d. omega arith))

-- the kinds of a write's requests, the first of them a Reserve
pub write-kind : (p j : ℕ) → write_kind p j < 9
unfolding write_kind
write-kind p j =
    by_cond (λ k. k < 9) (leb j (lg p)) 5 _ (λ e. omega arith)
    (λ e. by_cond (λ k. k < 9) (eqb j (lg p + 1)) 6 _ (λ d. omega arith)
    (λ d. by_cond (λ k. k < 9) (ltb j (commit_number p)) 7 8 (λ c. omega arith) (λ c. omega arith)))

-- a Read asks for an entry or a node
pub read-kind : (n v : ℕ) (r : Read) → (read_want n v r).kind < 5
unfolding read_want of_node
read-kind n v r = by_cond (λ (w : Want). w.kind < 5) (eqb r.answers 0) _ _ (λ _. omega arith) (λ _. omega arith)

pub reserve-first : (p : ℕ) → write_kind p 0 ≡ 5
unfolding write_kind
reserve-first p = rw (le-leb 0 (lg p) (omega arith))

-- every request of a write fits 2,566 bytes: its body is at most a digest and a signature
pub body_short : (p j : ℕ) (w : Write) (σ : State) (held : List ℕ) → w.length ≤ 1024 → length σ.signature ≡ longest_signature
    → length (write_body p j σ.path (held_entry w held) σ.signature) ≤ 32 + longest_signature
unfolding write_body path_digest held_entry
body_short p j w σ held short z =
    by_cond (λ (q : List ℕ). length q ≤ 32 + longest_signature) (leb j (lg p)) _ _ (λ e. omega (arith, piece-length σ.path (lg p)))
    (λ e. by_cond (λ (q : List ℕ). length q ≤ 32 + longest_signature) (eqb j (lg p + 1)) _ _ (λ d. omega (arith, length-take w.length held))
    (λ d. by_cond (λ (q : List ℕ). length q ≤ 32 + longest_signature) (ltb j (commit_number p)) _ _ (λ c. omega (arith, piece-length σ.path (write_level p j)))
    (λ c. omega (arith, length-append (piece σ.path (lg p)) σ.signature, piece-length σ.path (lg p)))))

-- the sizes that an entry may have
pub entry-sizes : (entry : List ℕ) → entry_fits entry ≡ true → (1 ≤ length entry) × (length entry ≤ 1024)
unfolding entry_fits
entry-sizes entry e =
    let some = and-true (leb 1 (length entry)) _ e in
    let short = and-true (leb (length entry) 1024) _ some.1 in
    (leb-true 1 (length entry) some.0, leb-true (length entry) 1024 short.0)

pub room-passed : (s : Settings) (key : Key) (buffer : List ℕ) → write_room s key buffer ≡ true
    → (least_request ≤ length buffer) × (longest_tree ≤ length key.tree)
unfolding write_room request_room
room-passed s key buffer e =
    let whole = tree_length s.users s.own in
    let x = and-true (request_room buffer) (leb whole (length key.tree)) e in
    let tree = leb-true whole (length key.tree) x.1 in
    (leb-true least_request (length buffer) x.0, omega (arith, tree, one-tree s.users s.own))

-- the signature that is kept or made has 2,508 bytes: 17 leaves it a number, 21 a tree
pub signature-sized : (s : Settings) (σ : State) (key : Key) (w : Write) → length σ.signature ≡ longest_signature
    → length w.randomizer ≡ 32 → longest_tree ≤ length key.tree → not (signs_next σ.kept w) || number_left s σ.kept ≡ true
    → length (write_signature s σ key w) ≡ longest_signature
unfolding write_signature commit_signature SignatureLength signature_size tree_size
signature-sized s σ key w z random long free =
    by_cond (λ (q : List ℕ). length q ≡ longest_signature) (signs_next σ.kept w) _ _
    (λ e.
    let f : σ.kept.number < 1024 = omega (arith, number-left s σ.kept (rw e at free), one-count s.users s.own) in
    signature-length LMOTS_SHA256_N32_W4 LMS_SHA256_M32_H10 key.id key.seed w.randomizer _ key.tree σ.kept.number random f long)
    (λ e. z)

-- the path that a write opens with has the length of the path before
pub laid-length : (v w : ℕ) (hs : List ℕ) (e : Expr) (d : List ℕ) → length (path_written v w hs e d) ≡ length d
unfolding path_written
laid-length v w hs e d =
    by_bool (λ b. length (cond b (written d 0 (path_bytes v w hs e (lg (suc w) + 1))) d) ≡ length d) (leb v w) (λ _. written-length d 0 _) (λ _. refl)
