-- `survey_dump` meets its contract. The loop's invariant: the records before `at` are counted. The measure is what is left.
-- Assumes nothing.
use Prim.Native.Nat.{◌-◌}
use Rattle.sim_import.proofs.SurveyLaws.{Surveyed}
use Rattle.sim_import.proofs.survey.survey_dump.Given as goal

abbrev pub invariant-loop-at : goal.invariant-loop-at
invariant-loop-at l = Surveyed l.dump.name_length l.dump.bytes.now l.all.count l.all.length l.at

abbrev pub decreases-loop-at : goal.decreases-loop-at
decreases-loop-at l = l.at-end - l.at
