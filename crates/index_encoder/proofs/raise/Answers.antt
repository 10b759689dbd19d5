-- `raise` meets its contract: the two refusals, then all levels in the part of the output that a file may fill. Assumes nothing.
use mathlib.Core.Path.{refl}
use native.Mathlib.Omega.{arith}
use Rattle.outcome.specs.Fault.{number}
use Rattle.index_encoder.proofs.RaiseLaws.{raise_few, raise_late, raise_put}
use Rattle.index_encoder.proofs.raise.Goals as goal

pub returns-then-per_index-lt2 : goal.returns-then-per_index-lt2
unfolding number
returns-then-per_index-lt2 c = let both = (raise_few c.args.output.now _ c.args.from c.args.to _ refl (omega arith)) in
    record { result_value = both.0; index_put = both.1 }

pub returns-then-room-to : goal.returns-then-room-to
unfolding number
returns-then-room-to c = let both = (raise_late c.args.output.now _ c.args.from c.args.to (omega arith) _ c.file_room-room.ensures.2
    _ refl (omega arith)) in record { result_value = both.0; index_put = both.1 }

pub returns : goal.returns
returns c = let both = (raise_put c.args.output.now _ c.args.from c.args.to (omega arith) _ c.file_room-room.ensures.2 c.file_room-room.ensures.0
    (omega arith) _
    c.put_levels.auto.output _ c.put_levels.ensures) in record { result_value = both.0; index_put = both.1 }
