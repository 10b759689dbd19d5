-- The padding is absorbed like any piece, and the digest is of the hash value that this gives.
use Rattle.std.proofs.Common.{◌-◌, ◌%◌, refl, ap, ◌∙◌}
use Rattle.sha256.specs.declared.State.{State}
use Rattle.sha256.specs.Sha256.{digest}
use Rattle.sha256.specs.State.{absorbed, finished}
use Rattle.sha256.proofs.FillLaws.{padding_parts}
use Rattle.sha256.proofs.finish.Goals as goal

pub returns : goal.returns
unfolding finished absorbed
returns c =
    let n = c.args.state.count in
    let bytes = padding_parts n ((119 - n % 64) % 64) c.copy_from_slice.new.self refl (c.copy_from_slice.ensures.after ∙ c.be64_bytes.ensures) in
    c.digest.ensures ∙ ap (λ (s : State). digest s.hash) (c.absorb.ensures ∙ ap (absorbed c.args.state) bytes)
