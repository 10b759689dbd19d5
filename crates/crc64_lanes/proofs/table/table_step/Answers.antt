-- `table_step` meets its contract: the entry is the low byte taken through eight one-bit steps, and the steps are linear.
-- Assumes nothing.
use Rattle.crc64_lanes.proofs.TableLaws.{table_step}
use Rattle.crc64_lanes.proofs.table.table_step.Goals as goal

pub returns : goal.returns
returns c = table_step _ c.requires _
