use Rattle.std.proofs.Common.{◌≡◌, length, ◌∙◌, arith, rules}
use Rattle.sha256.proofs.FillLaws.{zeroed_byte, zeroed_zero, zeroed_all}
use Rattle.sha256.proofs.filled.Goals.{then-i-piece, else-i-piece}
use Rattle.sha256.proofs.filled.Goals as goal

pub loop-i-preserved : goal.loop-i-preserved
loop-i-preserved c =
    let room : length c.args.kept ≡ 64 = search rules in
    elim c.if-i-piece.branch [
      | then-i-piece w ↦ w.out-is ∙ zeroed_byte c.args.kept c.args.fill c.args.piece.now room c.requires c.loop-i.i c.loop-i.out
          c.loop-i-test.true c.loop-i.invariant w.if-i-piece.true
      | else-i-piece w ↦ w.out-is ∙ zeroed_zero c.args.kept c.args.fill c.args.piece.now room c.requires c.loop-i.i c.loop-i.out
          c.loop-i-test.true c.loop-i.invariant w.if-i-piece.false
    ]

pub returns : goal.returns
returns c =
    let room : length c.args.kept ≡ 64 = search rules in
    zeroed_all c.args.kept c.args.fill c.args.piece.now room c.requires c.loop-i.i c.loop-i.out (omega arith) c.loop-i.invariant
