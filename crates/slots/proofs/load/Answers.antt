-- `slots::load` meets its contract: the 8 bytes of slot k are those from 8 k on.
-- Assumes nothing.
use native.Mathlib.Omega.{arith}
use mathlib.Core.Path.{◌∙◌}
use Rattle.slots.proofs.SlotLaws.{get_or_slots, get_or_slots_none}
use Rattle.slots.proofs.load.Goals as goal

pub returns-then-k-s : goal.returns-then-k-s
returns-then-k-s c = c.le64_at.ensures ∙ get_or_slots _ _ _ (omega arith)

pub returns-else-k-s : goal.returns-else-k-s
returns-else-k-s c = get_or_slots_none _ _ _ (omega arith)
