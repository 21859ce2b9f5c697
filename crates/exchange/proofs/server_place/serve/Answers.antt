use Rattle.exchange.proofs.Served.{place-served}
use lib.ListN.{length}
use borrow.Author.Tests.{lt-leb}
use mathlib.Core.Path.{refl}
use Rattle.exchange.specs.ServerPlace.{place_served, no_store}
use Rattle.exchange.proofs.server_place.serve.Goals as goal

pub returns-then-place-lt-STORE : goal.returns-then-place-lt-STORE
unfolding place_served no_store
returns-then-place-lt-STORE c = rw (lt-leb 88 (length c.args.place.now) c.if-place-lt-STORE.true) (refl, (refl, refl))

pub returns : goal.returns
returns c =
    let args = c.args in
    let if1-left = c.if-place-lt-STORE.false in
    let head_of = c.head_of-head.ensures in
    let u32-at = c.u32_at-used.ensures in
    let the-serve = c.serve-served.ensures in
    let the-keep = c.keep.ensures in
    place-served args.place.now if1-left _ _ _ _ _ _ _ head_of u32-at _ _ _ _ _ the-serve the-keep
