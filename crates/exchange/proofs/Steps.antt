-- What the calls of `c_layout` leave of a user's buffers.
use mathlib.Core.Path.{◌≡◌, refl, sym, ◌∙◌, ap}
use mathlib.Core.List.{List, [], ◌∷◌, ◌++◌}
use Prim.Native.Nat.{ℕ, ◌+◌, ◌-◌, ◌%◌, ◌≤◌, min}
use native.Mathlib.Omega.{arith}
use lib.ListN.{length, take, drop, get_or, replicate, length-replicate, replicate-append-replicate}
use lib.Seq.{take-append_seam}
use Rattle.lines.specs.Memory.{zeros}
use Rattle.sha256.specs.Bytes.{be}
use Rattle.sha256.proofs.Laws.{be-mod}
use Rattle.c_layout.specs.declared.user_start.Asked.{Asked}
use Rattle.c_layout.specs.User.{UserLent, user_lent, UserOutcome, write_begun, give_up_begun, Begins, WriteBegins, GiveUpBegins, UserYields}
use Rattle.exchange.specs.declared.user_step.StepInput.{StepInput}
use Rattle.exchange.specs.declared.user_step.Layout.{Layout}
use Rattle.exchange.specs.UserStep.{loaded, users_in, tree_in, group_of, begun, give_up_lent, write_lent, step_lent, lent_in, laid3, call_laid, CallYields, all_laid, StepYields}
use Rattle.exchange.specs.UserPlace.{step_bytes}

-- a number's two bytes
pub be-two-mod : (n : ℕ) → be 2 (n % 65536) ≡ be 2 n
be-two-mod n = be-mod 2 n

two-elements : (n : ℕ) → get_or (be 2 n) 0 0 ∷ get_or (be 2 n) 1 0 ∷ [] ≡ be 2 n
unfolding be
two-elements n = refl

two_bytes : (n : ℕ) (a : List ℕ) → a ≡ be 2 (n % 65536) → get_or a 0 0 ∷ get_or a 1 0 ∷ [] ≡ be 2 n
two_bytes n a e = ap (λ (x : List ℕ). get_or x 0 0 ∷ get_or x 1 0 ∷ []) (e ∙ be-two-mod n) ∙ two-elements n

-- the bytes of the last step
pub step-laid : (last : ℕ) (x : Asked) (a n : List ℕ) → a ≡ be 2 (x.author % 65536) → n ≡ be 2 (x.entry % 65536)
    → last ∷ x.code % 256 ∷ x.refusal % 256 ∷ x.ended % 256 ∷ get_or a 0 0 ∷ get_or a 1 0 ∷ get_or n 0 0 ∷ get_or n 1 0 ∷ [] ≡ step_bytes last x
unfolding step_bytes
step-laid last x a n ea en = rw (← two_bytes x.author a ea, ← two_bytes x.entry n en)

-- a start: what it may change, and what stays
pub began : (m : UserLent) (o : UserOutcome) (kept held : List ℕ) (r : Asked) (call request : List ℕ) → Begins o r call request
    → UserYields (begun m o kept held) r (user_lent kept m.path m.signature call m.hashes held request m.entry)
unfolding begun
began m o kept held r call request e = rw (e.0, e.1.0, e.1.1) (refl, refl)

module _ (s : StepInput) (users : List ℕ) (m : UserLent) (r : Asked) (call request : List ℕ) where
  pub write_began : (tree entry held : List ℕ)
      → WriteBegins (write_begun (group_of s users) tree entry s.randomizer m.kept m.path m.call m.held m.request) r call held request
      → UserYields (write_lent s users tree entry m) r (user_lent m.kept m.path m.signature call m.hashes held request m.entry)
  unfolding write_lent
  write_began tree entry held e = rw e.1 (began m _ _ _ r call request e.0)

  pub give_up_began : (kept : List ℕ)
      → GiveUpBegins (give_up_begun (group_of s users) m.kept m.path m.call m.request) r kept call request
      → UserYields (give_up_lent s users m) r (user_lent kept m.path m.signature call m.hashes m.held request m.entry)
  unfolding give_up_lent
  give_up_began kept e = rw e.1 (began m _ _ _ r call request e.0)

-- the first bytes of zeros
pub take-zeros : (n k : ℕ) → n ≤ k → take (n - 0) (drop 0 (replicate k 0)) ≡ zeros n
unfolding zeros
take-zeros n k h =
    let some : List ℕ = replicate n 0 in
    let rest : List ℕ = replicate (k - n) 0 in
    let e : n + (k - n) ≡ k = omega arith in
    let f : n - 0 ≡ n = omega arith in
    let l : length some ≡ n = length-replicate {A = ℕ} n 0 in
    let r : some ++ rest ≡ replicate k 0 = replicate-append-replicate {A = ℕ} n (k - n) 0 ∙ ap (λ (i : ℕ). replicate i 0) e in
    let g : take n (some ++ rest) ≡ some = ap (λ (i : ℕ). take i (some ++ rest)) (sym l) ∙ take-append_seam some rest in
    rw f (ap (λ (x : List ℕ). take n x) (sym r) ∙ g)

-- what is lent, each part as it is loaded
pub lent-loaded : (s : StepInput) (at : Layout) (input kept path signature world users tree call hashes held request entry : List ℕ)
    → users ≡ users_in s at world
    → tree ≡ tree_in s at world
    → call ≡ loaded world at.call (zeros 82)
    → hashes ≡ loaded world at.hashes (zeros 1248)
    → held ≡ loaded world at.held (zeros 1026)
    → request ≡ loaded world at.request (zeros (min s.request 2566))
    → entry ≡ loaded world at.entry (zeros (min s.entry 1024))
    → step_lent s users tree input (user_lent kept path signature call hashes held request entry)
    ≡ step_lent s (users_in s at world) (tree_in s at world) input (lent_in s at kept path signature world)
unfolding lent_in
lent-loaded s at input kept path signature world users tree call hashes held request entry u t c h e r y = rw (u, t, c, h, e, r, y)

-- a part of a buffer that is lent, as it is loaded
pub part_loaded : (part world : List ℕ) (at n k m : ℕ) → part ≡ loaded world at (take (n - 0) (drop 0 (replicate m 0))) → n ≡ k → n ≤ m
    → part ≡ loaded world at (zeros k)
part_loaded part world at n k m e f h =
    e ∙ ap (λ (d : List ℕ). loaded world at d) (take-zeros n m h ∙ ap zeros f)

-- what is laid after the call's part of a step, and after the step
module _ (at : Layout) (world : List ℕ) (o : UserOutcome) (r : Asked) where
  pub call-left : (l : UserLent) (after : List ℕ) → UserYields o r l → after ≡ call_laid at l world
      → (p : UserOutcome) → o ≡ p → CallYields at world p r l.kept l.path l.signature after
  call-left l after e ea p q =
      let a = e.0 ∙ ap (λ (x : UserOutcome). x.result) q in
      let b = e.1 ∙ ap (λ (x : UserOutcome). x.lent) q in
      let kept = ap (λ (x : UserLent). x.kept) b in
      let path = ap (λ (x : UserLent). x.path) b in
      let signature = ap (λ (x : UserLent). x.signature) b in
      (a, (kept, (path, (signature, ea ∙ ap (λ (x : UserLent). call_laid at x world) b))))

  pub step_left : (kept path signature called after : List ℕ) → CallYields at world o r kept path signature called
      → after ≡ laid3 at.kept kept at.path path at.signature signature called → StepYields at world o r after
  unfolding all_laid
  step_left kept path signature called after e ea = (e.0, rw (ea, e.1.0, e.1.1.0, e.1.1.1.0, e.1.1.1.1))
