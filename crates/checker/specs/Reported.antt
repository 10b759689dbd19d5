-- What is reported of a result.
use Rattle.std.specs.Prelude.{Result, Ok, Err}
use Rattle.outcome.specs.declared.Refusal.{Refusal}
use Rattle.outcome.specs.Fault.{number}
use Rattle.checker.specs.declared.Checked.{Checked}

-- a refusal: no blocks and no records are counted
unfoldable pub refused_as : Refusal → Checked
refused_as r = record { number = number r.fault; place = r.place; blocks = 0; records = 0 }

unfoldable pub reported : Result Checked Refusal → Checked
reported (Ok checked) = checked
reported (Err r) = refused_as r
