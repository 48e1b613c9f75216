-- `step_ending::holds` meets its contract: by the kind.
-- Assumes nothing.
use Rattle.step_ending.proofs.Asking.{holds_register, holds_last}
use Rattle.step_ending.proofs.holds.Goals as goal

pub returns-then-q-eq0 : goal.returns-then-q-eq0
returns-then-q-eq0 c = holds_register _ _ _ _ c.if-q-eq0.true c.register_at-r.ensures

pub returns-else-q-eq0 : goal.returns-else-q-eq0
returns-else-q-eq0 c = holds_last _ _ _ _ c.if-q-eq0.false c.last_value.ensures
