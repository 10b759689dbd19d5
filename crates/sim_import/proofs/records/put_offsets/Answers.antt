use mathlib.Core.Path.{◌≡◌, refl, sym, ◌∙◌}
use lib.ListN.{length}
use Prim.Native.Nat.{◌+◌}
use native.Mathlib.Omega.{arith}
use Rattle.slots.specs.Slots.{slots}
use Rattle.sim.proofs.AdnLaws.{filled_parts}
use Rattle.sim_import.proofs.RecordLaws.{Placed, placed_none, placed_all, placed_free, placed_one}
use Rattle.sim_import.proofs.records.put_offsets.Goals as goal
use Rattle.sim_import.proofs.records.put_offsets.Goals.{Joined-not-is_free, then-not-is_free, else-not-is_free}

-- the record at `at` has its slot, or needs none
next : (c : Joined-not-is_free)
    → (length c.if-not-is_free.s ≡ length c.args.s.now)
    × Placed c.args.dump.name_length c.args.dump.bytes.now (slots 8 c.args.s.now) (slots 8 c.if-not-is_free.s) c.if-not-is_free.k
    (c.loop-at.at + (c.args.dump.name_length + 14))
next c =
    let filled = c.is_free.ensures ∙ filled_parts _ _ _ _ c.record.ensures.field c.record.ensures.rest in
    elim c.if-not-is_free.branch [
      | then-not-is_free w ↦
          rw (w.s-is, w.k-is) (
            w.store.auto.s ∙ c.loop-at.invariant.0,
            rw w.store.ensures (placed_one _ _ _ _ _ _ c.loop-at.invariant.1 c.requires c.loop-at-test.true (sym filled ∙ w.if-not-is_free.true)),
          )
      | else-not-is_free w ↦
          rw (w.s-is, w.k-is) (
            c.loop-at.invariant.0,
            placed_free _ _ _ _ _ _ c.loop-at.invariant.1 c.requires c.loop-at-test.true (sym filled ∙ w.if-not-is_free.false),
          )
    ]

pub loop-at-init : goal.loop-at-init
loop-at-init c = (refl, placed_none _ _ _)

pub overflow_add-k : goal.overflow_add-k
overflow_add-k c =
    let more = placed_one _ _ _ _ _ _ c.loop-at.invariant.1 c.requires c.loop-at-test.true
    (sym (c.is_free.ensures ∙ filled_parts _ _ _ _ c.record.ensures.field c.record.ensures.rest) ∙ c.if-not-is_free.true) in
    let few = more.few in omega arith

pub loop-at-preserved : goal.loop-at-preserved
loop-at-preserved c = rw c.width-at-step.ensures (next (goal.at.loop-at-preserved c).Joined-not-is_free)

pub returns-after-not-is_free : goal.returns-after-not-is_free
returns-after-not-is_free c =
    let all = next (goal.at.returns-after-not-is_free c).Joined-not-is_free in
    placed_all _ _ _ _ _ _ all.1 c.requires (omega arith)

pub returns : goal.returns
returns c = placed_all _ _ _ _ _ _ c.loop-at.invariant.1 c.requires c.loop-at-test.false
