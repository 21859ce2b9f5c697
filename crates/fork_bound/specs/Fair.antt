-- Which lists of steps demand 3 speaks of: document 01's premise on H's answers, and document 02's on give-ups.
use Rattle.std.specs.Prelude.{◌≡◌, Bool, true, ℕ, ◌<◌, length}
use mathlib.Core.List.{List, [], ◌∷◌, Memᴰ}
use Rattle.tree.specs.Message.{request_kind, request_author}
use Rattle.server.specs.Serve.{served}
use Rattle.user_calls.specs.Calls.{Input, start_update, start_write, start_read, start_give_up, answer}
use Rattle.whole_run.specs.World.{Setup, settings_for, Event, handed_out, answered, Noted, User, user_step}
use Rattle.whole_run.specs.Runs.{World, Step, user, drops, server, Sized}

-- What is asked of steps, log being what was noted before: of bytes x that user a takes as H's answer to its last request q
-- (`gave a log q x`), and of a give-up q that H accepts (`timely log q`).
pub record Premises : Type 1 where
  pub gave : ℕ → List Event → List ℕ → List ℕ → Type 0
  pub timely : List Event → List ℕ → Type 0

-- Document 00: "An answer taken as that server's was its answer to that request."
unfoldable pub FairInput : ℕ → Premises → ℕ → List Event → User → Input → Type 0
FairInput H p a log u (start_update m) = Unit {0}
FairInput H p a log u (start_write m entry randomizer) = Unit {0}
FairInput H p a log u (start_read m i) = Unit {0}
FairInput H p a log u (start_give_up m) = Unit {0}
FairInput H p a log u (answer x) = u.sent.server ≡ H → p.gave a log u.sent.bytes x

-- Of answers that a user refuses, and of requests that H refuses, nothing is asked.
unfoldable pub FairStep : Setup → ℕ → Premises → World → Step → Type 0
FairStep g H p w (user a i) =
    Sized i × ((user_step (settings_for g a) (w.users a) i).step.code ≡ 0 → FairInput H p a w.log (w.users a) i)
FairStep g H p w (drops a) = Unit {0}
FairStep g H p w (server s q buffer) = let h = w.servers s in
    let code = (served (settings_for g s) h.head h.store h.used q buffer).out.code in
    s ≡ H → request_kind q ≡ 9 → code ≡ 0 → p.timely w.log q

-- Each step was fair, w being the world after a list of steps.
unfoldable pub Fair : Setup → ℕ → Premises → (List Step → World) → List Step → Type 0
Fair g H p w [] = Unit {0}
Fair g H p w (x ∷ xs) = FairStep g H p (w xs) x × Fair g H p w xs

-- A request is a message, not its bytes: a user may hand out the same bytes again, and an old message may arrive late. So there is an
-- account of which handing-out each answer of H's belongs to, both by their numbers: the answer's first.
abbrev pub Account : Type 0
Account = ℕ → ℕ → Bool

-- Where nothing but bytes is known, an answer may belong to every earlier handing-out of the same bytes.
unfoldable pub any_earlier : Account
any_earlier j i = true

-- By the account, H's answer number j to a request q belongs to handing-out number i, before it, of q by user a to H.
unfoldable pub Belongs : ℕ → Account → ℕ → List Event → ℕ → ℕ → List ℕ → Type 0
Belongs H account a log j i q = (account j i ≡ true) × (i < j) × Noted log i (handed_out a H q)

-- "H gave this answer to a request of the same bytes". Document 02, e: "an answer to a Reserve handed out before a give-up is never taken
-- for one to an equal Reserve handed out after it": it belongs to a handing-out after each give-up that user a had handed out to H.
unfoldable pub SinceGiveUps : ℕ → Account → ℕ → List Event → List ℕ → ℕ → Type 0
SinceGiveUps H account a log q j =
    (m : ℕ) (r : List ℕ) → Noted log m (handed_out a H r) → request_kind r ≡ 9 → (i : ℕ) × (m < i) × Belongs H account a log j i q

unfoldable pub Gave : ℕ → Account → ℕ → List Event → List ℕ → List ℕ → Type 0
Gave H account a log q x = (j : ℕ) × Noted log j (answered H q x) × (request_kind q ≡ 5 → SinceGiveUps H account a log q j)

-- Document 02, e: "each give-up a rule-following server takes was sent by its author and reaches it .. before any later request of that
-- author or a copy of one, whoever sends it": H's answer to it, which is the next to be noted, belongs to a handing-out by its author, and
-- no earlier answer of H's to a Reserve belongs to a later one. (That it "reaches it at most once" is not needed.)
unfoldable pub InTime : ℕ → Account → List Event → List ℕ → Type 0
InTime H account log q = let a = request_author q in
    (m : ℕ) × Belongs H account a log (length log) m q
    × ((i j : ℕ) (r x : List ℕ) → request_kind r ≡ 5 → Noted log j (answered H r x) → Belongs H account a log j i r → m < i → ⊥)

-- The premises of documents 01 and 02 together, with such an account.
unfoldable pub as_messages : ℕ → Account → Premises
as_messages H account = record { gave = Gave H account; timely = InTime H account }

-- Document 01's premise alone: "H gave this answer to a request of the same bytes". No give-up is accepted.
unfoldable pub without_give_ups : ℕ → Premises
without_give_ups H = record { gave = λ a log q x. Memᴰ (answered H q x) log; timely = λ log q. ⊥ }
