-- `put_file` meets its contract. Assumes nothing.
use mathlib.Core.Path.{refl, ap, ◌∙◌}
use native.Mathlib.Omega.{arith}
use Rattle.byte_string.proofs.BytesLaws.{bytes_of_below}
use Rattle.sha256.specs.State.{absorbed}
use Rattle.writer.proofs.ReadyLaws.{ready, ready⇒valid}
use Rattle.writer.proofs.PutFileLaws.{header_none, data_none, file_done}
use Rattle.writer.proofs.put_file.Goals as goal

pub returns-in_err-from : goal.returns-in_err-from
returns-in_err-from c =
    λ rs read. rw c.from_residual.ensures (header_none c.args.metadata.now c.args.records.now _ _ c.args.output.now rs read
    c.in_err-from.ensures.value _)

pub put_data-requires : goal.put_data-requires
put_data-requires c =
    ready⇒valid c.args.metadata.now c.args.records.now _ _ c.requires.1.0 (ready c.args.metadata.now c.args.records.now _ _
    c.requires.1.0 c.requires.1.1)

pub returns-in_err-to : goal.returns-in_err-to
returns-in_err-to c =
    λ rs read. rw c.from_residual-in_err-to.ensures (data_none c.args.metadata.now c.args.records.now _ _ c.args.output.now rs read _
    c.in_ok-from.ensures.value c.requires.0 _ c.begin_file.ensures.output_after c.begin_file.auto.output _ _ c.in_err-to.ensures refl _)

pub returns : goal.returns
returns c =
    λ rs read. let bytes = bytes_of_below c.args.records.now (λ k l. omega (arith, c.type_inv.records k)) in
    file_done c.args.metadata.now c.args.records.now _ _ c.args.output.now rs read _
    c.in_ok-from.ensures.value c.requires.0 _ c.begin_file.ensures.output_after c.begin_file.auto.output _ _ c.in_ok-to.ensures _ refl bytes
    c.put_data.auto.output (c.absorb.ensures ∙ ap (λ s. absorbed s c.args.records.now) c.begin.ensures) c.finish-hash.ensures c.finish_file.ensures
