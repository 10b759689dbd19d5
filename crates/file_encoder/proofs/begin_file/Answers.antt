-- `begin_file` meets its contract. Assumes nothing.
use mathlib.Core.Path.{refl}
use native.Mathlib.Omega.{arith}
use Rattle.file_encoder.proofs.BeginLaws.{begin_none, begin_some}
use Rattle.file_encoder.proofs.begin_file.Goals as goal

pub overflow_add-blocks : goal.overflow_add-blocks
overflow_add-blocks c = omega (arith, c.well_formed)

pub returns-then-file_room-blocks : goal.returns-then-file_room-blocks
returns-then-file_room-blocks c =
    let both = begin_none c.args.output.now c.args.metadata.now _ c.file_room.ensures.2 (omega arith) in
    record { value = both.0; output_after = both.1 }

pub returns : goal.returns
returns c =
    let both = begin_some c.args.output.now c.args.metadata.now _ c.file_room.ensures.2 c.if-file_room-blocks.false _ refl _ c.begin_header.ensures.1 in
    record { value = both.0; output_after = both.1 }
