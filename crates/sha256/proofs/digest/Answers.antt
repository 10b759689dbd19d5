use Rattle.std.proofs.Common.{◌≡◌, refl, ◌∙◌, arith}
use borrow.Rule.Slice.PartMut.{same_len_mid}
use Rattle.sha256.proofs.DigestLaws.{listed, word_bytes, word_bytes_all, word_bytes_copied}
use Rattle.sha256.proofs.digest.Goals as goal

pub loop-i-init : goal.loop-i-init
unfolding word_bytes
loop-i-init c = (refl, refl)

pub loop-i-preserved : goal.loop-i-preserved
loop-i-preserved c =
    let copied = word_bytes_copied c.loop-i.out (listed c.args.hash) c.copy_from_slice.new.self c.loop-i.i (omega arith) (omega arith)
    c.loop-i.invariant.1 (c.copy_from_slice.ensures.after ∙ c.be32_bytes.ensures) in
    (same_len_mid _ _ c.loop-i.out _ c.copy_from_slice.ensures.len ∙ c.loop-i.invariant.0, copied)

pub returns : goal.returns
returns c =
    let done : c.loop-i.i ≡ 8 = omega arith in
    word_bytes_all c.loop-i.out c.args.hash c.loop-i.invariant.0 (rw done at c.loop-i.invariant.1)
