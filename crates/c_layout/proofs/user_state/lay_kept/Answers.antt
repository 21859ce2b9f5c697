use Rattle.c_layout.proofs.States.{kept-written, kept-left}
use Rattle.c_layout.proofs.user_state.lay_kept.Goals as goal

pub returns-then-code-eq0 : goal.returns-then-code-eq0
returns-then-code-eq0 c = kept-written _ _ _ _ c.if-code-eq0.true c.kept_bytes.ensures

pub returns-else-code-eq0 : goal.returns-else-code-eq0
returns-else-code-eq0 c = kept-left _ _ _ c.if-code-eq0.false
