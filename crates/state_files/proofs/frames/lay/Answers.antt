-- A frame is laid by one copy of the length's two bytes and the message.
use Rattle.state_files.proofs.Framed.{no_frame, frame-laid}
use Rattle.state_files.proofs.frames.lay.Goals as goal

pub returns-then-message-gt4094 : goal.returns-then-message-gt4094
returns-then-message-gt4094 c = no_frame _ _ c.if-message-gt4094.true

pub returns : goal.returns
returns c =
    let if1-left = c.if-message-gt4094.false in
    let be2 = c.be2-length.ensures in
    let put2 = c.put2.ensures in
    frame-laid _ _ _ _ if1-left be2 put2
