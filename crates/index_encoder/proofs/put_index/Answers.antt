-- `put_index` meets its contract: after a refusal the output is cleared from `to` on. Assumes nothing.
use Rattle.index_encoder.proofs.RaiseLaws.{index_failed, index_left}
use Rattle.index_encoder.proofs.put_index.Goals as goal

pub returns-then-to-output : goal.returns-then-to-output
returns-then-to-output c =
    record {
      result_value = c.raise-raised.ensures.result_value;
      output_after = index_failed c.args.output.now _ c.args.from c.args.to _ c.raise-raised.auto.output _
          (c.raise-raised.ensures.result_value, c.raise-raised.ensures.index_put) c.if-is_err.ensures.value c.clear.ensures;
    }

pub returns-else-is_err : goal.returns-else-is_err
returns-else-is_err c =
    record {
      result_value = c.raise-raised.ensures.result_value;
      output_after = index_left c.args.output.now _ c.args.from c.args.to _ c.raise-raised.auto.output _
          (c.raise-raised.ensures.result_value, c.raise-raised.ensures.index_put) c.is_err.ensures.value c.else-is_err.either;
    }
