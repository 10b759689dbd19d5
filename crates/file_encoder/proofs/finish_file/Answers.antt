-- `finish_file` meets its contract. Assumes nothing.
use Rattle.file_encoder.proofs.FinishLaws.{finish_low, finish_refused, finish_done}
use Rattle.file_encoder.proofs.finish_file.Goals as goal

pub returns-in_err-metadata : goal.returns-in_err-metadata
returns-in_err-metadata c =
    λ metadata blocks two b sum. absurd (c.in_err-metadata.ensures (finish_low metadata blocks _ two c.args.output.now _ _ b))

pub returns-in_err-index : goal.returns-in_err-index
returns-in_err-index c =
    λ metadata blocks two b sum. rw c.from_residual-in_err-index.ensures (finish_refused metadata blocks _ two c.args.output.now _ _ b _ _
    c.in_err-index.ensures.value c.put_index.ensures.result_value c.put_index.ensures.output_after)

pub returns : goal.returns
returns c =
    λ metadata blocks two b sum. finish_done metadata blocks _ two c.args.output.now _ _ b _ _ _ _ _ _
    c.in_ok-index.ensures.value c.put_index.ensures.result_value c.put_index.ensures.output_after sum c.in_ok-metadata.ensures c.complete_header.ensures
