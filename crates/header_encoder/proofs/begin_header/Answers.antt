-- `begin_header` meets its contract: magic, length, zeros, codec, metadata and zeros stand side by side. Assumes nothing.
use native.Mathlib.Omega.{arith}
use Rattle.header.specs.Header.{unfinished_magic, codec_none}
use Rattle.header_encoder.proofs.HeaderPutLaws.{begin_full, begin_stored}
use Rattle.header_encoder.proofs.begin_header.Goals as goal

pub returns-then-output-front : goal.returns-then-output-front
returns-then-output-front c =
    begin_full c.args.output.now c.args.metadata.now (omega arith)

pub returns : goal.returns
unfolding unfinished_magic codec_none
returns c =
    begin_stored c.args.output.now c.args.metadata.now (omega arith) c.le64_bytes.ensures c.le64_bytes-2.ensures c.put.ensures.1
    c.put-2.ensures.1 c.put-3.ensures.1 c.put-4.ensures.1 c.put-5.ensures.1 c.put-6.ensures.1 c.put-7.ensures.1
