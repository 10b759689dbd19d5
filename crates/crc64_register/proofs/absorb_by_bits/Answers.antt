-- `absorb_by_bits` meets its contract: `register` is the fold of the step over the bytes. Assumes nothing.
use Rattle.std.proofs.Common.{rules, ◌≡◌, ◌∙◌}
use Rattle.std.specs.List.{fold}
use Rattle.crc64_register.specs.Crc64.{byte_step}
use Rattle.crc64_register.proofs.Crc64Laws.{register_fold}
use Rattle.crc64_register.proofs.absorb_by_bits.Goals as goal

pub returns : goal.returns
returns c =
    let folded : c.fold.result ≡ fold byte_step c.args.register c.args.bytes.now = search rules in
    folded ∙ register_fold c.args.register c.args.bytes.now
