-- `table` meets its contract: one test over the whole table, which is computed here.
-- Assumes nothing.
use mathlib.Core.Path.{refl}
use Rattle.crc64_register.specs.Crc64.{reversed, polynomial, bit_step, bit_steps}
use Rattle.crc64_lanes.specs.Table.{every, is_entry, is_table}
use Rattle.crc64_lanes.proofs.table.table.Goals as goal

pub returns : goal.returns
unfolding is_table every is_entry bit_steps bit_step polynomial reversed
returns c = refl
