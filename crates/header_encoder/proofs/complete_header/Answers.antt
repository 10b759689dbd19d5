-- `complete_header` meets its contract: fields, CRC and magic stand where zeros and the unfinished magic stood. Assumes nothing.
use mathlib.Core.Path.{◌≡◌, ap, ◌∙◌}
use lib.ListN.{length}
use native.Mathlib.Omega.{arith}
use borrow.Author.Rules.{rules}
use Rattle.endian.specs.FixedWidth.{little_bytes}
use Rattle.header.specs.Header.{magic}
use Rattle.header_encoder.proofs.HeaderPutLaws.{unfinished_within, complete_stored}
use Rattle.header_encoder.proofs.complete_header.Goals as goal

pub returns-then-output-front : goal.returns-then-output-front
returns-then-output-front c = λ known rest long is. absurd (let within = unfinished_within known rest is in omega arith)

pub returns : goal.returns
unfolding magic
returns c =
    let array = c.well_formed.1.1.1.1.1.0 in
    let long : length c.args.hash ≡ 32 = search rules in
    λ known rest. complete_stored known rest c.args.metadata c.args.root c.args.rootsize c.args.total c.args.hash long c.le64_bytes.ensures
    c.le64_bytes-2.ensures c.le64_bytes-3.ensures c.put.ensures.1 c.put-2.ensures.1 c.put-3.ensures.1 c.put-4.ensures.1
    (c.le64_bytes-4.ensures ∙ ap (little_bytes 8) c.checksum-crc.ensures) c.put-5.ensures.1 c.put-6.ensures.1
