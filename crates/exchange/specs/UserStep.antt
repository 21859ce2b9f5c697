-- A user's step: the buffers of a slice are lent to a call of `c_layout`, and laid as it leaves them.
use Rattle.std.specs.Prelude.{◌≡◌, cond, List, ℕ, min, eqb, length, take, drop}
use Rattle.lines.specs.Memory.{zeros}
use Rattle.sha256.specs.Bytes.{written}
use Rattle.tree.specs.Setup.{Settings, settings}
use Rattle.user.specs.Outcome.{key_of}
use Rattle.c_layout.specs.declared.user_start.Asked.{Asked}
use Rattle.c_layout.specs.User.{UserLent, user_lent, UserOutcome, update_begun, read_begun, write_begun, give_up_begun, user_answered}
use Rattle.exchange.specs.declared.user_step.StepInput.{StepInput}
use Rattle.exchange.specs.declared.user_step.Layout.{Layout}

-- d filled with the bytes of a slice from `at` on; where they are too few, d stays as it was.
unfoldable pub loaded : List ℕ → ℕ → List ℕ → List ℕ
loaded world at d = written d 0 (take (length d) (drop at world))

-- The user list and the key tree that are lent.
unfoldable pub users_in : StepInput → Layout → List ℕ → List ℕ
users_in s at world = take s.users (drop at.users world)

unfoldable pub tree_in : StepInput → Layout → List ℕ → List ℕ
tree_in s at world = take s.tree (drop at.tree world)

-- N, the own number, the log's name and the user list that is lent.
abbrev pub group_of : StepInput → List ℕ → Settings
group_of s users = settings s.servers s.own s.log users

-- What a start leaves: the call and the request may change, and what is kept or held as is said of it.
unfoldable pub begun : UserLent → UserOutcome → List ℕ → List ℕ → UserOutcome
begun m o kept held =
    let lent = user_lent kept m.path m.signature o.lent.call m.hashes held o.lent.request m.entry in
    record { result = o.result; lent = lent }

-- A give-up is kept once it has begun; a Write's entry is held.
unfoldable pub give_up_lent : StepInput → List ℕ → UserLent → UserOutcome
give_up_lent s users m =
    let o = give_up_begun (group_of s users) m.kept m.path m.call m.request in
    begun m o o.lent.kept m.held

unfoldable pub write_lent : StepInput → List ℕ → List ℕ → List ℕ → UserLent → UserOutcome
write_lent s users tree entry m =
    let o = write_begun (group_of s users) tree entry s.randomizer m.kept m.path m.call m.held m.request in
    begun m o m.kept o.lent.held

-- Kind 1 starts an Update, 3 a Read, 4 a give-up, any other a Write.
unfoldable pub start_lent : StepInput → List ℕ → List ℕ → List ℕ → UserLent → UserOutcome
start_lent s users tree input m =
    let g = group_of s users in
    cond (eqb s.kind 1) (begun m (update_begun g m.kept m.call m.request) m.kept m.held)
    (cond (eqb s.kind 3) (begun m (read_begun g s.position m.kept m.call m.request m.entry) m.kept m.held)
    (cond (eqb s.kind 4) (give_up_lent s users m) (write_lent s users tree input m)))

-- The step on what is lent: kind 0 takes in an answer.
unfoldable pub step_lent : StepInput → List ℕ → List ℕ → List ℕ → UserLent → UserOutcome
step_lent s users tree input m =
    cond (eqb s.kind 0) (user_answered (group_of s users) m (key_of s.id s.seed tree) input) (start_lent s users tree input m)

-- What is lent: beside what is kept, the path and the signature, the call and its memory as a slice has them. Where it is too short for
-- one, that is zeros.
unfoldable pub lent_in : StepInput → Layout → List ℕ → List ℕ → List ℕ → List ℕ → UserLent
lent_in s at kept path signature world =
    let call = loaded world at.call (zeros 82) in
    let hashes = loaded world at.hashes (zeros 1248) in
    let held = loaded world at.held (zeros 1026) in
    let request = loaded world at.request (zeros (min s.request 2566)) in
    let entry = loaded world at.entry (zeros (min s.entry 1024)) in
    user_lent kept path signature call hashes held request entry

-- The slice with three parts laid, each from its place on; with the call and its memory, and with all.
unfoldable pub laid3 : ℕ → List ℕ → ℕ → List ℕ → ℕ → List ℕ → List ℕ → List ℕ
laid3 a x b y c z world = written (written (written world a x) b y) c z

unfoldable pub call_laid : Layout → UserLent → List ℕ → List ℕ
call_laid at l world =
    let called = laid3 at.call l.call at.hashes l.hashes at.held l.held world in
    written (written called at.request l.request) at.entry l.entry

unfoldable pub all_laid : Layout → UserLent → List ℕ → List ℕ
all_laid at l world =
    laid3 at.kept l.kept at.path l.path at.signature l.signature (call_laid at l world)

-- What is handed back and what is in what is kept, the path, the signature and the slice after the call's part of a step.
abbrev pub CallYields : Layout → List ℕ → UserOutcome → Asked → List ℕ → List ℕ → List ℕ → List ℕ → Type 0
CallYields at world o r kept path signature after =
    (r ≡ o.result) × ((kept ≡ o.lent.kept) × ((path ≡ o.lent.path)
    × ((signature ≡ o.lent.signature) × (after ≡ call_laid at o.lent world))))

-- A step: what the call of `c_layout` leaves, laid into the slice.
unfoldable pub step_made : StepInput → Layout → List ℕ → List ℕ → UserOutcome
step_made s at input world =
    let kept = loaded world at.kept (zeros 46) in
    let path = loaded world at.path (zeros 672) in
    let signature = loaded world at.signature (zeros 2508) in
    step_lent s (users_in s at world) (tree_in s at world) input (lent_in s at kept path signature world)

abbrev pub StepYields : Layout → List ℕ → UserOutcome → Asked → List ℕ → Type 0
StepYields at world o r after = (r ≡ o.result) × (after ≡ all_laid at o.lent world)
