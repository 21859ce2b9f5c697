-- What holds of users and servers between two steps of an honest run.
use mathlib.Core.Path.{◌≡◌}
use mathlib.Core.Bool.{Bool, true, false, cond, ◌&&◌, ◌||◌}
use mathlib.Core.List.{List, [], ◌++◌}
use Prim.Native.Nat.{ℕ, suc, ◌+◌, ◌-◌, ◌%◌, ◌≤◌, ◌<◌, min, max}
use lib.Dec.{eqb, leb, ltb}
use lib.ListN.{length, get_or}
use Rattle.sha256.specs.Bytes.{be}
use Rattle.lms.specs.Types.{LMOTS_SHA256_N32_W4, LMS_SHA256_M32_H10}
use Rattle.lms.specs.Check.{check_of, is_valid}
use Rattle.tree.specs.Level.{lg, is_full}
use Rattle.tree.specs.Label.{nodes_to, label, server_of, owner}
use Rattle.tree.specs.Expr.{entry_text, value}
use Rattle.tree.specs.Tree.{leaves, digest, node}
use Rattle.tree.specs.Cover.{at, piece, cover}
use Rattle.tree.specs.Read.{read_nodes}
use Rattle.tree.specs.Message.{stored, signed_text, answer}
use Rattle.tree.specs.Setup.{in_log}
use Rattle.user_list.specs.Users.{user_key, signature_length, longest_signature}
use Rattle.server.specs.declared.Earlier.{Earlier}
use Rattle.store.specs.Shape.{node_fits}
use Rattle.store.specs.Store.{first}
use Rattle.server.specs.Serve.{ServeOutcome, served}
use Rattle.server.proofs.Served.{Ready}
use Rattle.server.proofs.After.{records_of}
use Rattle.user.specs.declared.ask.Want.{Want}
use Rattle.user.specs.declared.call.Kept.{Kept}
use Rattle.user.specs.Outcome.{State}
use Rattle.user.specs.Asking.{asks}
use Rattle.user.proofs.Ranges.{ProgressInRange}
use Rattle.user_update.specs.declared.call.Update.{Update}
use Rattle.user_write.specs.Write.{commit_number, write_level, write_kind, write_want}
use Rattle.user_give_up.specs.GiveUp.{next_told}
use Rattle.user_read.specs.declared.call.Read.{Read}
use Rattle.user_read.specs.Read.{held_text}
use Rattle.honest_run.specs.Network.{HonestSetup, public_to, settings_in, Network, answer_bytes}
use Rattle.whole_run.specs.Runs.{Server, server_after, set}
use Rattle.honest_run.specs.Claim.{stored_to, stored_by}

-- The log as it grows: author, entry and signature at each place from 0. Place w is the open write's, once it is open.
pub record Item : Type 0 where
  pub author : ℕ
  pub entry : List ℕ
  pub signature : List ℕ

-- the text that the leaf of place i holds
abbrev pub texts : (ℕ → Item) → ℕ → List ℕ
texts L i = entry_text (L i).author (L i).entry

-- the hash of a node
abbrev pub hash_of : (ℕ → Item) → ℕ → ℕ → List ℕ
hash_of L p l = value (node (leaves (texts L)) p l)

-- the digest of p entries
abbrev pub digest_of : (ℕ → Item) → ℕ → List ℕ
digest_of L p = digest (texts L) p

-- the body of the record of a kind (6 entry, 7 node, 8 Commit) for a node
abbrev pub body_of : (ℕ → Item) → ℕ → ℕ → ℕ → List ℕ
body_of L kind p l =
    cond (eqb kind 6) (L (p - 1)).entry (cond (eqb kind 7) (hash_of L p l) (digest_of L p ++ (L (p - 1)).signature))

-- the record of a kind for a node
abbrev pub record_of : (ℕ → Item) → ℕ → ℕ → ℕ → List ℕ
record_of L kind p l = stored kind p l (L (p - 1)).author (body_of L kind p l)

-- a kind that is stored
abbrev pub PutKind : ℕ → Type 0
PutKind kind = (6 ≤ kind) × (kind ≤ 8)

-- its number among the requests of the write of p
abbrev pub number_of : ℕ → ℕ → ℕ → ℕ
number_of kind p l = cond (eqb kind 8) (commit_number p) (lg p + 1 + l)

-- w entries are committed, and g requests of the write after them have arrived: whether a record is stored by then
unfoldable pub has : ℕ → ℕ → ℕ → ℕ → ℕ → Bool
has w g kind p l = leb p w || (eqb p (suc w) && ltb (number_of kind p l) g)

-- the greatest label reserved by then
unfoldable pub reached : ℕ → ℕ → ℕ
reached w g = nodes_to w + min g (lg (suc w) + 1)

-- the server that a label belongs to
unfoldable pub owner_of : ℕ → ℕ → ℕ
owner_of n t = server_of n (t % n)

-- label t is the head of server s once the labels up to T are reserved; 0 where it has none
pub record HeadAt (n s T t : ℕ) : Type 0 where
  pub low : t ≤ T
  pub none : t ≡ 0 → T < s
  pub mine : 0 < t → owner_of n t ≡ s
  pub last : 0 < t → T < t + n

-- an author and a digest are those of position p, where that is not 0
abbrev pub HoldsAt : (ℕ → Item) → ℕ → ℕ → List ℕ → Type 0
HoldsAt L position author digest = (p : ℕ) → position ≡ suc p → (author ≡ (L p).author) × (digest ≡ digest_of L (suc p))

-- the head that a server had before the open write
pub record EarlierOk (c : HonestSetup) (L : ℕ → Item) (w s : ℕ) (e : Earlier) : Type 0 where
  pub known : e.known ≡ true
  pub head : HeadAt c.servers s (nodes_to w) (label e.position e.level)
  pub holds : HoldsAt L e.position e.author e.digest

-- a server that g requests of the open write have reached, or one that is as if only g had
pub record ServerOk (c : HonestSetup) (L : ℕ → Item) (w g s : ℕ) (x : Server) : Type 0 where
  pub ready : Ready (settings_in c s) x.head x.store x.used
  pub head : HeadAt c.servers s (reached w g) (label x.head.position x.head.level)
  pub holds : HoldsAt L x.head.position x.head.author x.head.digest
  pub earlier : x.head.position ≡ suc w → EarlierOk c L w s x.head.earlier
  pub stored : (kind p l : ℕ) → PutKind kind → node_fits kind p l ≡ true → owner c.servers p l ≡ s
      → first kind p l (records_of (settings_in c s) x.store x.used) ≡ cond (has w g kind p l) (record_of L kind p l) []

-- all servers, once g requests of the open write have arrived: each one is as some of them left it
pub record ServersOk (c : HonestSetup) (L : ℕ → Item) (w g : ℕ) (y : ℕ → Server) : Type 0 where
  pub shown : ℕ → ℕ
  pub few : (s : ℕ) → shown s ≤ g
  pub each : (s : ℕ) → 1 ≤ s → s ≤ c.servers → ServerOk c L w (shown s) s (y s)

-- how far the open write was given up: every server is as all of them left it where no give-up has begun, and as none did where the server
-- is done with it; and somebody is still to be told
pub record GivenUpOk (n g : ℕ) (k : Kept) (shown : ℕ → ℕ) : Type 0 where
  pub all : k.progress.begun ≡ false → (s : ℕ) → shown s ≡ g
  pub done : (s : ℕ) → 1 ≤ s → s ≤ k.progress.done → shown s ≡ 0
  pub left : k.progress.begun ≡ true → next_told n k ≡ 0 → ⊥

-- room for what is left of the open write's records
abbrev pub RoomLeft : HonestSetup → (ℕ → Item) → ℕ → ℕ → ℕ → Server → Type 0
RoomLeft c L w g s x =
    x.used + stored_by c.servers (suc w) (length (L w).entry) s
    ≤ length x.store + stored_to c.servers (suc w) (length (L w).entry) s g

-- whether the author's key accepts the signature of item x at place i, over digest d
abbrev pub valid_at : HonestSetup → ℕ → Item → List ℕ → Bool
valid_at c i x d =
    is_valid (check_of LMOTS_SHA256_N32_W4 LMS_SHA256_M32_H10 (user_key (public_to c c.count) x.author) (signed_text c.log (suc i) d) x.signature)

-- how long the signatures of the author at place i are
abbrev pub signature_at : HonestSetup → (ℕ → Item) → ℕ → ℕ
signature_at c L i = signature_length (public_to c c.count) (L i).author

-- a signature of place i that its author's key accepts
pub record SignedOk (c : HonestSetup) (L : ℕ → Item) (i : ℕ) : Type 0 where
  pub size : length (L i).signature ≡ signature_at c L i
  pub valid : valid_at c i (L i) (digest_of L (suc i)) ≡ true

-- what was written at place i
pub record ItemOk (c : HonestSetup) (L : ℕ → Item) (i : ℕ) : Type 0 where
  pub one : 1 ≤ (L i).author
  pub listed : (L i).author ≤ c.count
  pub some : 1 ≤ length (L i).entry
  pub short : length (L i).entry ≤ 1024

-- a user's open write of place w
pub record OpenOk (c : HonestSetup) (L : ℕ → Item) (w g a : ℕ) (begun : List ℕ) (σ : State) : Type 0 where
  pub version : σ.kept.version ≡ w
  pub within : w < 1048576
  pub item : ItemOk c L w
  pub author : (L w).author ≡ a
  pub entry : (L w).entry ≡ begun
  pub path_ok : (l : ℕ) → l ≤ lg (suc w) → piece σ.path l ≡ hash_of L (suc w) l
  pub signed : σ.kept.signed ≡ true → ((L w).signature ≡ σ.signature) × SignedOk c L w
  pub unsigned : σ.kept.signed ≡ false → (g ≤ commit_number (suc w)) × (σ.kept.number < 1024)
  pub progress : ProgressInRange c.servers (suc w) σ.kept.signed σ.kept.progress
  pub unput : σ.kept.progress.put ≡ false → g ≤ σ.kept.progress.levels

-- what a user keeps
pub record KeptOk (c : HonestSetup) (L : ℕ → Item) (w g a : ℕ) (begun : List ℕ) (σ : State) : Type 0 where
  pub low : σ.kept.version ≤ w
  pub number : σ.kept.number ≤ 1024
  pub digest_ok : 0 < σ.kept.version → σ.kept.digest ≡ digest_of L σ.kept.version
  pub path_size : length σ.path ≡ 672
  pub signature_size : length σ.signature ≡ longest_signature
  pub open_ok : σ.kept.opened ≡ true → OpenOk c L w g a begun σ

-- all of them
pub record Good (c : HonestSetup) (L : ℕ → Item) (w g : ℕ) (begun : ℕ → List ℕ) (x : Network) : Type 0 where
  pub servers_ok : ServersOk c L w g x.servers
  pub shown_ok : (a : ℕ) → (x.users a).state.kept.opened ≡ true → GivenUpOk c.servers g (x.users a).state.kept servers_ok.shown
  pub users_ok : (a : ℕ) → KeptOk c L w g a (begun a) (x.users a).state
  pub room_ok : (a : ℕ) → (x.users a).state.kept.opened ≡ true → (s : ℕ) → 1 ≤ s → s ≤ c.servers → RoomLeft c L w g s (x.servers s)
  pub free : ((a : ℕ) → (x.users a).state.kept.opened ≡ false) → g ≡ 0
  pub fits : g ≤ suc (commit_number (suc w))
  pub items : (i : ℕ) → i < w → ItemOk c L i × SignedOk c L i
  pub within : w ≤ 1048576

-- The body of an answer to a Status: a head of that server.
pub record ToldOk (c : HonestSetup) (w g s : ℕ) (body : List ℕ) : Type 0 where
  pub position : ℕ
  pub level : ℕ
  pub told : body ≡ be 4 position ++ be 1 level
  pub head : HeadAt c.servers s (reached w g) (label position level)
  pub none : position ≡ 0 → level ≡ 0
  pub some : 0 < position → in_log position level ≡ true

-- The body of a right answer to what a user asks for: a head of that server, the hash of a node, an entry with its author, or a Commit's
-- author, digest and signature.
unfoldable pub RightBody : HonestSetup → (ℕ → Item) → ℕ → ℕ → Want → List ℕ → Type 0
RightBody c L w g want body =
    (want.kind ≡ 1 → ToldOk c w g want.server body)
    × (want.kind ≡ 2 → body ≡ hash_of L want.position want.level)
    × (want.kind ≡ 3 → body ≡ texts L (want.position - 1))
    × (want.kind ≡ 4 → body ≡ be 2 (L (want.position - 1)).author ++ (digest_of L want.position ++ (L (want.position - 1)).signature))

-- What a user may ask for where w entries are committed: a Status of a server, or a node of a kind that is stored.
pub record CanAsk (c : HonestSetup) (w : ℕ) (want : Want) : Type 0 where
  pub first_kind : 1 ≤ want.kind
  pub last-kind : want.kind ≤ 4
  pub status : want.kind ≡ 1 → (want.position ≡ 0) × (want.level ≡ 0) × (1 ≤ want.server) × (want.server ≤ c.servers)
  pub low : 2 ≤ want.kind → 1 ≤ want.position
  pub high : 2 ≤ want.kind → want.position ≤ w
  pub owned : 2 ≤ want.kind → want.server ≡ owner c.servers want.position want.level
  pub full : want.kind ≡ 2 → is_full want.position want.level ≡ true
  pub leaf : want.kind ≡ 3 → want.level ≡ 0
  pub top : want.kind ≡ 4 → want.level ≡ lg want.position

-- An Update on its way, before its next answer, from version v: the heads seen so far, then the Record's digest, then hashes of the cover.
pub record UpdateOk (n v w : ℕ) (L : ℕ → Item) (u : Update) (hashes : List ℕ) : Type 0 where
  pub greatest_low : u.answers ≤ n → u.greatest ≤ nodes_to w
  pub greatest_seen : u.answers ≤ n → owner_of n (nodes_to w) ≤ u.answers → u.greatest ≡ nodes_to w
  pub position-is : u.answers ≤ n → u.greatest ≡ nodes_to w → u.position ≡ w
  pub least_near : u.answers ≤ n → 0 < u.answers → nodes_to w < u.least + n
  pub position_later : n ≤ u.answers → u.position ≡ w
  pub digest-later : n < u.answers → u.digest ≡ digest_of L w
  pub hashes_right : n < u.answers → (j : ℕ) → j < u.answers - (n + 1)
      → piece hashes j ≡ hash_of L (get_or (cover v w) j (at 0 0)).position (get_or (cover v w) j (at 0 0)).level

-- A Read of i on its way, before its next answer, from version v: the entry with its author, then the hashes of the nodes.
pub record ReadOk (v i : ℕ) (L : ℕ → Item) (r : Read) (hashes held : List ℕ) : Type 0 where
  pub position : r.position ≡ i
  pub text : 0 < r.answers → held_text r held ≡ texts L (i - 1)
  pub hashes_right : (j : ℕ) → suc j < r.answers
      → piece hashes (j + 1) ≡ hash_of L (get_or (read_nodes i v) j (at 0 0)).position (get_or (read_nodes i v) j (at 0 0)).level

-- what server s, in state x, makes of a request of user a
abbrev pub serving : HonestSetup → ℕ → ℕ → Server → Want → List ℕ → ServeOutcome
serving c a s x want body =
    served (settings_in c s) x.head x.store x.used (asks (settings_in c a) want body) (c.answers s)

-- a pull is answered rightly, and changes nothing
pub record PullRight (c : HonestSetup) (L : ℕ → Item) (w g a : ℕ) (x : Server) (want : Want) : Type 0 where
  pub body : List ℕ
  pub same : server_after (serving c a want.server x want []) ≡ x
  pub given : answer_bytes (serving c a want.server x want []) ≡ answer want.kind want.server want.position want.level 0 body
  pub right : RightBody c L w g want body

-- the body of request j of the open write
abbrev pub body_at : (ℕ → Item) → ℕ → ℕ → List ℕ
body_at L w j =
    cond (leb j (lg (suc w))) (digest_of L (suc w))
    (cond (eqb j (lg (suc w) + 1)) (L w).entry
    (cond (ltb j (commit_number (suc w))) (hash_of L (suc w) (write_level (suc w) j)) (digest_of L (suc w) ++ (L w).signature)))

-- what the owner makes of it
abbrev pub putting : HonestSetup → (ℕ → Item) → ℕ → ℕ → (ℕ → Server) → ServeOutcome
putting c L w j x =
    let want = write_want c.servers (suc w) j in
    serving c (L w).author want.server (x want.server) want (body_at L w j)

-- all servers after it
abbrev pub servers_after : HonestSetup → (ℕ → Item) → ℕ → ℕ → (ℕ → Server) → ℕ → Server
servers_after c L w j x = set x (write_want c.servers (suc w) j).server (server_after (putting c L w j x))

-- it is accepted, and then suc j requests at least have arrived
pub record PutRight (c : HonestSetup) (L : ℕ → Item) (w g j : ℕ) (x : ℕ → Server) : Type 0 where
  pub given : answer_bytes (putting c L w j x)
      ≡ answer (write_kind (suc w) j) (write_want c.servers (suc w) j).server (suc w) (write_level (suc w) j) 0 []
  pub all_ok : (s : ℕ) → 1 ≤ s → s ≤ c.servers → ServerOk c L w (max g (suc j)) s (servers_after c L w j x s)
  pub room : (s : ℕ) → 1 ≤ s → s ≤ c.servers → RoomLeft c L w (max g (suc j)) s (servers_after c L w j x s)
