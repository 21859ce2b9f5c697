use Rattle.exchange.specs.UserPlace.{forgotten}
use Rattle.exchange.proofs.user_place.forget.Goals as goal

pub returns : goal.returns
unfolding forgotten
returns c =
    let blank-call = c.blank_call-call.ensures in
    let blank-memory = c.blank_memory-memory.ensures in
    let the-put = c.put.ensures in
    let put2 = c.put-2.ensures in
    rw (put2, the-put, blank-memory, blank-call)
