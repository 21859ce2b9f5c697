-- What holds of all users and servers after a step of one user, nobody else's write being open.
use mathlib.Core.Path.{◌≡◌, refl, ap, sym, ◌∙◌, subst}
use mathlib.Core.Bool.{true, false}
use mathlib.Core.List.{List}
use Prim.Native.Nat.{ℕ, suc, ◌≤◌, ◌<◌}
use native.Mathlib.Omega.{arith}
use Rattle.sha256.proofs.Cases.{by_bool}
use Rattle.tree.proofs.Cases.{cases_eq, not_both}
use Rattle.user.specs.declared.call.Kept.{Kept}
use Rattle.user.specs.Outcome.{State}
use Rattle.user_write.specs.Write.{commit_number}
use Rattle.whole_run.specs.World.{User}
use Rattle.whole_run.specs.Runs.{Server, set}
use Rattle.honest_run.specs.Network.{HonestSetup, Network}
use Rattle.honest_run.specs.Claim.{Alone}
use Rattle.honest_run.proofs.Invariant.{Item, texts, ServerOk, ServersOk, GivenUpOk, RoomLeft, ItemOk, SignedOk, KeptOk, Good}
use Rattle.honest_run.proofs.Frames.{set_same, set_other, kept_moves, kept-begun}

-- the users after user a's step
abbrev pub with_user : Network → ℕ → User → (ℕ → Server) → Network
with_user x a u y = record { users = set x.users a u; servers = y }

-- user a's own step opens no other user's write
pub still_alone : (x : Network) (a : ℕ) (u : User) (y : ℕ → Server) → Alone x a → Alone (with_user x a u y) a
unfolding Alone
still_alone x a u y alone b n = ap (λ (v : User). v.state.kept.opened) (set_other x.users a u b n) ∙ alone b n

-- servers that all requests have reached, with no give-up begun
abbrev pub all_reached : (c : HonestSetup) (M : ℕ → Item) (v h : ℕ) (y : ℕ → Server) → ((s : ℕ) → 1 ≤ s → s ≤ c.servers → ServerOk c M v h s (y s))
    → ServersOk c M v h y
all_reached c M v h y all = record { shown = λ s. h; few = λ s. omega arith; each = all }

pub none-given_up : (n h : ℕ) (k : Kept) → k.progress.begun ≡ false → k.progress.done ≡ 0 → GivenUpOk n h k (λ s. h)
none-given_up n h k unbegun none =
    record { all = λ _ s. refl; done = λ s one few. absurd (omega arith); left = λ b. not_both k.progress.begun b unbegun }

-- servers that are as they were
abbrev pub servers_same : (c : HonestSetup) (L : ℕ → Item) (w g : ℕ) (x y : ℕ → Server) → ServersOk c L w g x → ((s : ℕ) → 1 ≤ s → y s ≡ x s)
    → ServersOk c L w g y
servers_same c L w g x y ok same =
    record {
      shown = ok.shown;
      few = ok.few;
      each = λ s one last. subst (ServerOk c L w (ok.shown s) s) (sym (same s one)) (ok.each s one last);
    }

-- what the step leaves of what user a keeps and of the servers, for the log M of which v entries are committed and h requests more have arrived
pub record Leaves (c : HonestSetup) (M : ℕ → Item) (v h a : ℕ) (begun : List ℕ) (σ : State) (y : ℕ → Server) : Type 0 where
  pub servers : ServersOk c M v h y
  pub shown : σ.kept.opened ≡ true → GivenUpOk c.servers h σ.kept servers.shown
  pub own : KeptOk c M v h a begun σ
  pub room : σ.kept.opened ≡ true → (s : ℕ) → 1 ≤ s → s ≤ c.servers → RoomLeft c M v h s (y s)
  pub shut : σ.kept.opened ≡ false → h ≡ 0
  pub fits : h ≤ suc (commit_number (suc v))
  pub items : (i : ℕ) → i < v → ItemOk c M i × SignedOk c M i
  pub within : v ≤ 1048576

module _ (c : HonestSetup) (L M : ℕ → Item) (w v g h a : ℕ) (b f : ℕ → List ℕ) (x : Network) (good : Good c L w g b x) (alone : Alone x a)
    (up : w ≤ v) (same : (i : ℕ) → i < w → texts L i ≡ texts M i) where
  -- the others keep what they kept
  pub good_change : (z : Network) → ((j : ℕ) → (j ≡ a → ⊥) → (z.users j).state ≡ (x.users j).state)
      → Leaves c M v h a (f a) (z.users a).state z.servers → Good c M v h f z
  unfolding Alone
  good_change z others left =
      record {
        servers_ok = left.servers;
        shown_ok =
            λ j o.
            cases_eq j a (λ e. subst (λ k. (z.users k).state.kept.opened ≡ true → GivenUpOk c.servers h (z.users k).state.kept left.servers.shown) (sym e)
            left.shown o)
            (λ n. not_both (z.users j).state.kept.opened o (ap (λ (σ : State). σ.kept.opened) (others j n) ∙ alone j n));
        users_ok =
            λ j.
            cases_eq j a (λ e. subst (λ k. KeptOk c M v h k (f k) (z.users k).state) (sym e) left.own)
            (λ n.
            subst (KeptOk c M v h j (f j)) (sym (others j n))
            (kept_moves c L M w v g h j (b j) (f j) (x.users j).state up same (alone j n) (good.users_ok j)));
        room_ok =
            λ j o.
            cases_eq j a (λ e. left.room (ap (λ k. (z.users k).state.kept.opened) (sym e) ∙ o))
            (λ n. not_both (z.users j).state.kept.opened o (ap (λ (σ : State). σ.kept.opened) (others j n) ∙ alone j n));
        free = λ none. left.shut (none a);
        fits = left.fits;
        items = left.items;
        within = left.within;
      }

  -- all users and servers after user a's step
  pub good_next : (u : User) (y : ℕ → Server) → Leaves c M v h a (f a) u.state y → Good c M v h f (with_user x a u y)
  good_next u y left =
      good_change (with_user x a u y) (λ j n. ap (λ (z : User). z.state) (set_other x.users a u j n))
      (subst (λ (z : User). Leaves c M v h a (f a) z.state y) (sym (set_same x.users a u)) left)

-- servers and what users keep are the same, and an open write is of the entry that was begun
pub good_same : (c : HonestSetup) (L : ℕ → Item) (w g : ℕ) (b f : ℕ → List ℕ) (x z : Network) → Good c L w g b x
    → ((j : ℕ) → (z.users j).state ≡ (x.users j).state) → ((s : ℕ) → 1 ≤ s → z.servers s ≡ x.servers s)
    → ((j : ℕ) → (x.users j).state.kept.opened ≡ true → f j ≡ b j) → Good c L w g f z
good_same c L w g b f x z good users servers begun =
    let opened : (j : ℕ) → (x.users j).state.kept.opened ≡ (z.users j).state.kept.opened =
    λ j. ap (λ (σ : State). σ.kept.opened) (sym (users j)) in
    record {
      servers_ok = servers_same c L w g x.servers z.servers good.servers_ok servers;
      shown_ok =
          λ j o.
          subst (λ (σ : State). GivenUpOk c.servers g σ.kept good.servers_ok.shown) (sym (users j)) (good.shown_ok j (opened j ∙ o));
      users_ok =
          λ j.
          subst (KeptOk c L w g j (f j)) (sym (users j))
          (kept-begun c L w g j (b j) (f j) (x.users j).state (begun j) (good.users_ok j));
      room_ok = λ j o s one few. subst (RoomLeft c L w g s) (sym (servers s one)) (good.room_ok j (opened j ∙ o) s one few);
      free = λ none. good.free (λ j. opened j ∙ none j);
      fits = good.fits;
      items = good.items;
      within = good.within;
    }

-- nobody's write is open where its own is not
pub none_open : (c : HonestSetup) (L : ℕ → Item) (w g a : ℕ) (b : ℕ → List ℕ) (x : Network) → Good c L w g b x → Alone x a
    → (x.users a).state.kept.opened ≡ false → g ≡ 0
unfolding Alone
none_open c L w g a b x good alone o =
    good.free (λ j. cases_eq j a (λ e. ap (λ k. (x.users k).state.kept.opened) e ∙ o) (λ n. alone j n))

-- while no give-up has begun, every server is as all requests that have arrived left it
pub every_server : (c : HonestSetup) (L : ℕ → Item) (w g a : ℕ) (b : ℕ → List ℕ) (x : Network) → Good c L w g b x → Alone x a
    → ((x.users a).state.kept.opened ≡ true → (x.users a).state.kept.progress.begun ≡ false) → (s : ℕ) → 1 ≤ s → s ≤ c.servers
    → ServerOk c L w g s (x.servers s)
every_server c L w g a b x good alone unbegun s one last =
    let k = (x.users a).state.kept in
    let shown : ℕ → ℕ = good.servers_ok.shown in
    let all : shown s ≡ g =
    by_bool (λ t. k.opened ≡ t → shown s ≡ g) k.opened
    (λ _ o. (good.shown_ok a o).all (unbegun o) s)
    (λ _ o. omega (arith, good.servers_ok.few s, none_open c L w g a b x good alone o)) refl in
    subst (λ h. ServerOk c L w h s (x.servers s)) all (good.servers_ok.each s one last)

-- a step of a user that keeps what it kept leaves what held before
pub leaves_same : (c : HonestSetup) (L : ℕ → Item) (w g a : ℕ) (b : ℕ → List ℕ) (x : Network) → Good c L w g b x → Alone x a
    → (σ : State) (y : ℕ → Server) (begun : List ℕ) → σ ≡ (x.users a).state → ((x.users a).state.kept.opened ≡ true → begun ≡ b a)
    → ((s : ℕ) → 1 ≤ s → y s ≡ x.servers s) → Leaves c L w g a begun σ y
leaves_same c L w g a b x good alone σ y begun same entry-same unchanged =
    subst (λ (τ : State). Leaves c L w g a begun τ y) (sym same)
    (record {
      servers = servers_same c L w g x.servers y good.servers_ok unchanged;
      shown = good.shown_ok a;
      own = kept-begun c L w g a (b a) begun (x.users a).state entry-same (good.users_ok a);
      room = λ o s one few. subst (RoomLeft c L w g s) (sym (unchanged s one)) (good.room_ok a o s one few);
      shut = none_open c L w g a b x good alone;
      fits = good.fits;
      items = good.items;
      within = good.within;
    })
