-- `keys_under` meets its contract: each return is one case of the definition, and each turn of the loop is one entry passed.
-- Assumes nothing.
use Rattle.std.proofs.Common.{arith, sym, ap, ◌∙◌, ◌-◌, subst, take}
use lib.Seq.{length-take-le}
use Rattle.payload.specs.Answers.{entry_said, entry_in, KeyWithin}
use Rattle.payload.proofs.PayloadLaws.{entry⇒Entered}
use Rattle.items.proofs.GoingLaws.{going_more}
use Rattle.check_walk.specs.declared.keys.Keys.{Keys}
use Rattle.check_walk.specs.Keys.{Within, keys_of}
use Rattle.check_walk.proofs.LookupLaws.{going_over}
use Rattle.check_walk.proofs.KeyLaws.{keys_leaf, keys_start, keys_whole, over-keys_end, over_key, met_within, entry_keys_within, keys-within}
use Rattle.check_walk.proofs.keys.+keys_under.Goals as goal

pub returns-then-level-eq0 : goal.returns-then-level-eq0
returns-then-level-eq0 t c =
    c.leaf_keys.ensures ∙ keys_leaf c.args.file.now c.args.level c.args.at c.args.before c.if-level-eq0.true

pub loop-step-init : goal.loop-step-init
loop-step-init t c = record {
  going = keys_start c.args.file.now c.args.level c.args.at _ c.payload_at-payload.result c.payload_at-payload.ensures.value _
      (ap (λ n. take n c.args.file.now) c.end.ensures);
  within = met_within c.args.file.now c.args.before _ c.entering-met.ensures c.requires;
}

pub keys_under-child-requires : goal.keys_under-child-requires
keys_under-child-requires t c = (omega arith, c.loop-step.invariant.within)

pub entry_keys-met-requires : goal.entry_keys-met-requires
unfolding KeyWithin
entry_keys-met-requires t c =
    let all = length-take-le c.end.result c.args.file.now (omega (arith, c.end.ensures, c.payload_at-payload.ensures.length_in_bounds)) in (
      omega (arith, all, c.in-Ok.ensures.key_within, c.end.ensures, c.payload_at-payload.ensures.length_in_bounds),
      c.loop-step.invariant.within,
      subst (λ (k : Keys). Within c.args.file.now k.span) (sym c.keys_under-child.ensures)
          (keys-within c.args.file.now (c.args.level - 1) _ _ c.loop-step.invariant.within),
    )

pub loop-step-smaller : goal.loop-step-smaller
unfolding entry_said
loop-step-smaller t c =
    let e = entry⇒Entered c.args.at (take c.end.result c.args.file.now) c.loop-step.place _ (sym (c.in-Ok.ensures.by_index c.args.at)) in
    omega (arith, e.forward, e.within)

pub loop-step-preserved : goal.loop-step-preserved
unfolding entry_said entry_in KeyWithin
loop-step-preserved t c =
    let read = sym (c.in-Ok.ensures.by_index c.args.at) in
    let e = entry⇒Entered c.args.at (take c.end.result c.args.file.now) c.loop-step.place _ read in
    let all = length-take-le c.end.result c.args.file.now (omega (arith, c.end.ensures, c.payload_at-payload.ensures.length_in_bounds)) in record {
      going = going_more _ _ _ _ _ _ (omega (arith, e.forward, e.within)) c.loop-step.invariant.going _ read e.forward _
          (over_key c.args.file.now c.args.at c.end.result (keys_of c.args.file.now (c.args.level - 1)) c.in-Ok.step.item.key
          _ _ _ _ _ (omega (arith, all, c.in-Ok.ensures.key_within)) c.keys_under-child.ensures c.entry_keys-met.ensures);
      within = subst (λ (k : Keys). Within c.args.file.now k.span) (sym c.entry_keys-met.ensures)
          (entry_keys_within c.args.file.now _ _ _ _ c.loop-step.invariant.within
          (subst (λ (k : Keys). Within c.args.file.now k.span) (sym c.keys_under-child.ensures)
          (keys-within c.args.file.now (c.args.level - 1) _ _ c.loop-step.invariant.within)));
    }

pub returns : goal.returns
unfolding entry_said
returns t c =
    sym (sym (keys_whole c.args.file.now c.args.level c.args.at c.args.before _ c.if-level-eq0.false c.entering-met.ensures)
    ∙ going_over _ _ _ _ _ _ c.loop-step.invariant.going _ _ (sym (c.in_default.ensures.by_index c.args.at)) ∙ over-keys_end _ _ _ _)
