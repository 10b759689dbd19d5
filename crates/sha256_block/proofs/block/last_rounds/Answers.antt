use Rattle.std.proofs.Common.{◌≡◌, take, drop, take_all, length-drop, sym, refl, ◌∙◌, arith, inl, inr}
use Rattle.sha256_block.specs.Compression.{rounds, round}
use Rattle.sha256_block.proofs.BlockLaws.{rounds_no_constant, rounds_no_word}
use Rattle.sha256_block.proofs.block.last_rounds.Goals as goal

pub loop-k-init : goal.loop-k-init
loop-k-init c =
    let parts = c.zip-k-items.ensures in
    let ks : take 16 (drop 48 c.args.k.now) ≡ drop 48 c.args.k.now = take_all 16 (drop 48 c.args.k.now) (omega (arith, length-drop 48 c.args.k.now)) in
    let ws : take 16 (drop 48 c.args.w.now) ≡ drop 48 c.args.w.now = take_all 16 (drop 48 c.args.w.now) (omega (arith, length-drop 48 c.args.w.now)) in
    rw (c.into_iter-k-iterator.ensures.into_iter_gives, parts.first, c.iter.ensures.rest, parts.second.0, ks, ws) refl

pub loop-k-preserved : goal.loop-k-preserved
unfolding rounds
loop-k-preserved c =
    let taken = c.in-Some.ensures.steps in
    let now = c.loop-k.k-iterator in
    let left = c.next.new.self in
    let step : rounds now.a.rest.now now.b.rest.now c.loop-k.v ≡ rounds left.a.rest.now left.b.rest.now (round c.loop-k.v c.in-Some.k.now c.in-Some.w.now) = rw (taken.0, taken.1) refl in
    rw c.round-v.ensures (sym step ∙ c.loop-k.invariant)

pub returns : goal.returns
returns c =
    elim c.in-None.ensures.steps [
      | inl none ↦ sym (rounds_no_constant _ _ c.loop-k.v none.1.0) ∙ c.loop-k.invariant
      | inr none ↦ sym (rounds_no_word _ _ c.loop-k.v none.1.0) ∙ c.loop-k.invariant
    ]
