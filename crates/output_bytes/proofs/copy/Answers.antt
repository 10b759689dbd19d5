-- `copy` meets its contract. Assumes nothing.
use native.Mathlib.Omega.{arith}
use Rattle.output_bytes.proofs.CopyLaws.{copying_none, copying_more, copy_late, copy_past, copy_same, copy_none, copy_all}
use Rattle.output_bytes.proofs.copy.Goals.{then-at-source-via-then-at-source, then-at-source-via-else-at-source+then-output-at}
use Rattle.output_bytes.proofs.copy.Goals as goal

pub returns-then-at-source : goal.returns-then-at-source
returns-then-at-source c =
    elim c.then-at-source.branch [
      | then-at-source-via-then-at-source w ↦ copy_late _ _ _ _ (omega arith)
      | then-at-source-via-else-at-source+then-output-at w ↦ copy_past _ _ _ _ (omega arith) (omega arith)
    ]

pub returns-then-at-source-2 : goal.returns-then-at-source-2
returns-then-at-source-2 c = copy_same _ _ _ _ (omega arith) (omega arith)

pub returns-then-output-at-2 : goal.returns-then-output-at-2
returns-then-output-at-2 c = copy_none _ _ _ _ (omega arith) (omega arith)

pub loop-left-init : goal.loop-left-init
loop-left-init c = copying_none _ _ _ _ (omega arith) (omega arith)

pub loop-left-preserved : goal.loop-left-preserved
loop-left-preserved c = copying_more _ _ _ _ _ _ c.loop-left.invariant (omega arith)

pub returns : goal.returns
returns c = copy_all _ _ _ _ _ _ c.loop-left.invariant (omega arith)
