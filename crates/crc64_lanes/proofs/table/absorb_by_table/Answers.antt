-- `absorb_by_table` meets its contract: `register` is the fold of the step over the bytes. Assumes nothing.
use Rattle.std.proofs.Common.{rules, ◌≡◌, ◌∙◌, ℕ}
use Rattle.std.specs.List.{fold}
use lib.Bits.{bit_xor}
use Rattle.crc64_register.specs.Crc64.{byte_step, bit_steps}
use Rattle.crc64_register.proofs.Crc64Laws.{register_fold}
use Rattle.crc64_lanes.proofs.table.absorb_by_table.Goals as goal

pub returns : goal.returns
unfolding byte_step
returns c =
    let folded : c.fold.result ≡ fold (λ (r b : ℕ). bit_steps 8 (bit_xor r b)) c.args.register c.args.bytes.now = search rules in
    folded ∙ register_fold c.args.register c.args.bytes.now
