-- A call of an honest run on its way: what holds before its next answer, and at its end.
use mathlib.Core.Path.{◌≡◌, ap, ◌∙◌}
use mathlib.Core.Bool.{true, false}
use mathlib.Core.List.{List, [], ◌++◌}
use Prim.Native.Nat.{ℕ, suc, ◌+◌, ◌≤◌, ◌<◌}
use lib.Dec.{eqb}
use lib.ListN.{length, take, get_or}
use Rattle.tree.specs.Bytes.{written}
use Rattle.user.specs.declared.call.StepResult.{StepResult}
use Rattle.user.specs.Outcome.{State, Lent, with_hashes, with_request}
use Rattle.firing.specs.Entry.{entry_fits}
use Rattle.user_update.specs.declared.call.Update.{Update}
use Rattle.user_update.specs.Update.{update_ended, update_want, update_answers}
use Rattle.user_write.specs.declared.call.Write.{Write}
use Rattle.user_write.specs.Write.{target_fits, commit_number, write_want, held_entry, write_answers}
use Rattle.user_read.specs.declared.call.Read.{Read}
use Rattle.user_read.specs.Read.{read_count, read_want}
use Rattle.user_give_up.specs.GiveUp.{next_told, give_up_answers, give_up_want, waiting}
use Rattle.user_calls.specs.Calls.{updating, writing, reading, giving_up, Input, start_update, start_write, start_read, start_give_up, answer}
use Rattle.whole_run.specs.World.{User, Sent, user_step}
use Rattle.whole_run.specs.Runs.{Server, set}
use Rattle.honest_run.specs.Network.{HonestSetup, generated_key, Network, settings_in, steps, Written, Run, entries_of, wrote}
use Rattle.honest_run.specs.Claim.{Alone, stored_by, ValidMemory, written_at, Serves}
use Rattle.honest_run.proofs.Invariant.{Item, digest_of, body_at, UpdateOk, ReadOk, Good}
use Rattle.honest_run.proofs.Frames.{sent_for, set_same, memory_collects, memory-asks}
use Rattle.honest_run.proofs.Exchanges.{exchanged, handed_by}

-- an Update, a call of its own or a Write's: what its user keeps, the hashes so far, and the request that is out
pub record Updates (c : HonestSetup) (L : ℕ → Item) (w g a : ℕ) (σ : State) (hashes : List ℕ) (sent : Sent) (x : Update) : Type 0 where
  pub none_open : g ≡ 0
  pub shut : σ.kept.opened ≡ false
  pub on_way : UpdateOk c.servers σ.kept.version w L x hashes
  pub waits : update_ended c.servers σ.kept.version x ≡ false
  pub asks_next_lem : sent ≡ sent_for c a (update_want c.servers σ.kept.version x) []

-- an Update that is a call of its own
pub record UpdateCall (c : HonestSetup) (L : ℕ → Item) (w g a left : ℕ) (u : User) : Type 0 where
  pub call : Update
  pub is : u.call ≡ updating call
  pub memory : ValidMemory u.lent
  pub updates : Updates c L w g a u.state u.lent.hashes u.sent call
  pub count : call.answers + left ≡ update_answers c.servers u.state.kept.version w

-- a Write before its first Reserve: what it needs to open
pub record ToOpen (c : HonestSetup) (L : ℕ → Item) (w g a left : ℕ) (entry : List ℕ) (u : User) (y : ℕ → Server) (call : Write) : Type 0 where
  pub updates : Updates c L w g a u.state u.lent.hashes u.sent call.update
  pub answers : call.update.answers < update_answers c.servers u.state.kept.version w
  pub count : call.update.answers + left ≡ update_answers c.servers u.state.kept.version w + write_answers (suc w)
  pub number : u.state.kept.number < 1024
  pub position : w < 1048576
  pub target : target_fits w entry ≡ true
  pub room : (s : ℕ) → 1 ≤ s → s ≤ c.servers → (y s).used + stored_by c.servers (suc w) (length entry) s ≤ length (y s).store

-- and once it is open, before the answer to its request
pub record Opened (c : HonestSetup) (L : ℕ → Item) (w g a left : ℕ) (u : User) (call : Write) : Type 0 where
  pub opened : u.state.kept.opened ≡ true
  pub arrived : call.answers ≤ g
  pub few : call.answers ≤ commit_number (suc w)
  pub signed : call.answers ≡ commit_number (suc w) → u.state.kept.signed ≡ true
  pub unbegun : u.state.kept.progress.begun ≡ false
  pub handed : u.state.kept.progress.put ≡ false → suc call.answers ≤ u.state.kept.progress.levels
  pub sent : u.sent ≡ sent_for c a (write_want c.servers (suc w) call.answers) (body_at L w call.answers)
  pub count : call.answers + left ≡ write_answers (suc w)

-- the memory of a Write of this entry, and what the Write has of its own
pub record WriteMemory (c : HonestSetup) (a : ℕ) (entry : List ℕ) (m : Lent) (call : Write) : Type 0 where
  pub valid : ValidMemory m
  pub key : m.key ≡ generated_key c a
  pub randomizer : length call.randomizer ≡ 32
  pub entry-fits : entry_fits entry ≡ true
  pub held : held_entry call m.held ≡ entry

-- it has them still when it has collected hashes and has come further, and when it hands out a request
pub memory_moves : (c : HonestSetup) (a : ℕ) (entry : List ℕ) (m : Lent) (w x : Write) (hashes : List ℕ) → WriteMemory c a entry m w
    → length hashes ≡ 1248 → x.randomizer ≡ w.randomizer → x.length ≡ w.length → WriteMemory c a entry (with_hashes m hashes) x
unfolding held_entry
memory_moves c a entry m w x hashes ok size same long =
    record {
      valid = memory_collects m hashes size ok.valid;
      key = ok.key;
      randomizer = ap length same ∙ ok.randomizer;
      entry-fits = ok.entry-fits;
      held = ap (λ n. take n m.held) long ∙ ok.held;
    }

pub memory-hands-out : (c : HonestSetup) (a : ℕ) (entry : List ℕ) (m : Lent) (w : Write) (request : List ℕ) → WriteMemory c a entry m w
    → WriteMemory c a entry (with_request m (written m.request 0 request)) w
memory-hands-out c a entry m w request ok =
    record {
      valid = memory-asks m request ok.valid;
      key = ok.key;
      randomizer = ok.randomizer;
      entry-fits = ok.entry-fits;
      held = ok.held;
    }

-- a Write, before its first Reserve or open
pub record WriteCall (c : HonestSetup) (L : ℕ → Item) (w g a left : ℕ) (entry : List ℕ) (u : User) (y : ℕ → Server) : Type 0 where
  pub call : Write
  pub is : u.call ≡ writing call
  pub memory : WriteMemory c a entry u.lent call
  pub before : call.opened ≡ false → ToOpen c L w g a left entry u y call
  pub open_call : call.opened ≡ true → Opened c L w g a left u call

-- a Read of position i
pub record ReadCall (c : HonestSetup) (L : ℕ → Item) (w a i left : ℕ) (u : User) : Type 0 where
  pub call : Read
  pub is : u.call ≡ reading call
  pub memory : ValidMemory u.lent
  pub room : 1024 ≤ length u.lent.entry
  pub one : 1 ≤ i
  pub within : i ≤ u.state.kept.version
  pub on_way : ReadOk u.state.kept.version i L call u.lent.hashes u.lent.held
  pub waits : call.answers < read_count i u.state.kept.version
  pub sent : u.sent ≡ sent_for c a (read_want c.servers u.state.kept.version call) []
  pub count : call.answers + left ≡ read_count i u.state.kept.version

-- a give-up, before the answer of the server that is told next
pub record GiveUpCall (c : HonestSetup) (L : ℕ → Item) (w a left : ℕ) (u : User) : Type 0 where
  pub is : u.call ≡ giving_up waiting
  pub memory : ValidMemory u.lent
  pub opened : u.state.kept.opened ≡ true
  pub unput : u.state.kept.progress.put ≡ false
  pub begun : u.state.kept.progress.begun ≡ true
  pub next : next_told c.servers u.state.kept ≡ 0 → ⊥
  pub sent : u.sent ≡ sent_for c a (give_up_want c.servers u.state.kept) (digest_of L (suc w))
  pub count : give_up_answers c.servers u.state.kept ≡ left

-- the call that an input started, with so many answers to come
unfoldable pub CallOk : HonestSetup → (ℕ → Item) → ℕ → ℕ → ℕ → ℕ → User → (ℕ → Server) → Input → Type 0
CallOk c L w g a left u y (start_update m) = UpdateCall c L w g a left u
CallOk c L w g a left u y (start_write m entry randomizer) = WriteCall c L w g a left entry u y
CallOk c L w g a left u y (start_read m i) = ReadCall c L w a i left u
CallOk c L w g a left u y (start_give_up m) = GiveUpCall c L w a left u
CallOk c L w g a left u y (answer z) = ⊥

-- the log that the servers hold is the one that was written
pub record Holds (L : ℕ → Item) (w : ℕ) (log : List Written) : Type 0 where
  pub count : w ≡ length log
  pub author : (i : ℕ) → i < w → (L i).author ≡ (written_at log i).author
  pub entry : (i : ℕ) → i < w → (L i).entry ≡ (written_at log i).entry

-- the entry that user a's last Write has begun, after a call that starts
abbrev pub entry_begun : Input → List ℕ → List ℕ
entry_begun i before = get_or (entries_of i) 0 before

-- the entries begun, once a call has started
abbrev pub begun_by : Run Network → ℕ → Input → ℕ → List ℕ
begun_by r a i = set r.begun a (entry_begun i (r.begun a))

-- a Write begins its entry
pub begun-entry : (r : Run Network) (a : ℕ) (m : Lent) (entry randomizer : List ℕ) → begun_by r a (start_write m entry randomizer) a ≡ entry
unfolding entries_of
begun-entry r a m entry randomizer = set_same r.begun a entry

-- between two calls
pub record Between (c : HonestSetup) (r : Run Network) : Type 0 where
  pub log : ℕ → Item
  pub w : ℕ
  pub g : ℕ
  pub good : Good c log w g r.begun r.network
  pub holds : Holds log w r.log

-- a call of user a that goes on
pub record OnWay (c : HonestSetup) (r : Run Network) (a : ℕ) (i : Input) (left : ℕ) (x : Network) : Type 0 where
  pub log : ℕ → Item
  pub w : ℕ
  pub g : ℕ
  pub good : Good c log w g (begun_by r a i) x
  pub holds : Holds log w r.log
  pub alone : Alone x a
  pub reads : (x.users a).reads ≡ (r.network.users a).reads
  pub call : CallOk c log w g a left (x.users a) x.servers i

-- a call of user a that has ended with 0
pub record Over (c : HonestSetup) (r : Run Network) (a : ℕ) (i : Input) (handed : StepResult) (x : Network) : Type 0 where
  pub log : ℕ → Item
  pub w : ℕ
  pub g : ℕ
  pub good : Good c log w g (begun_by r a i) x
  pub holds : Holds log w (r.log ++ wrote a i handed)
  pub alone : Alone x a
  pub none_out : (x.users a).sent.server ≡ 0
  pub serves : Serves r a (x.users a) i

-- a call's start, n answers being to come
pub record Started (c : HonestSetup) (r : Run Network) (a : ℕ) (i : Input) (n : ℕ) : Type 0 where
  pub some : 0 < n
  pub code : (user_step (settings_in c a) (r.network.users a) i).step.code ≡ 0
  pub ended : (user_step (settings_in c a) (r.network.users a) i).step.ended ≡ false
  pub on_way : OnWay c r a i n (steps c r.network a i)

-- an answer that is taken in, `left` more being to come
pub record Stepped (c : HonestSetup) (r : Run Network) (a : ℕ) (i : Input) (left : ℕ) (x : Network) : Type 0 where
  pub code : (handed_by c x a).code ≡ 0
  pub ended : (handed_by c x a).ended ≡ eqb left 0
  pub goes_on_lem : 0 < left → OnWay c r a i left (exchanged c x a)
  pub over : left ≡ 0 → Over c r a i (handed_by c x a) (exchanged c x a)

-- a call that goes on: its request arrives, and the answer is lost
pub record Late (c : HonestSetup) (L : ℕ → Item) (w : ℕ) (begun : ℕ → List ℕ) (x : Network) : Type 0 where
  pub g : ℕ
  pub good : Good c L w g begun x

-- the Write that is on its way
pub write-call : (c : HonestSetup) (r : Run Network) (a : ℕ) (m : Lent) (entry randomizer : List ℕ) (left : ℕ) (x : Network)
    → (o : OnWay c r a (start_write m entry randomizer) left x) → WriteCall c o.log o.w o.g a left entry (x.users a) x.servers
unfolding CallOk
write-call c r a m entry randomizer left x o = o.call
