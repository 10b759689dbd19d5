-- `file_room` meets its contract: the smaller of the two limits. Assumes nothing.
use mathlib.Core.Path.{sym, ap, ◌∙◌}
use lib.Dec.{leb}
use native.Mathlib.Omega.{arith}
use Rattle.index_encoder.proofs.RaiseLaws.{room_limit}
use Rattle.index_encoder.proofs.file_room.Goals as goal

pub returns : goal.returns
returns c =
    let least = c.min.ensures in
    (omega arith, omega arith, λ end. room_limit c.args.room end ∙ ap (leb end) (sym least))
