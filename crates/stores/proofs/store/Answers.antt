-- `store` meets its contract: one law for each store, and for none.
-- Assumes nothing.
use mathlib.Core.Path.{◌≡◌, sym, ◌∙◌}
use mathlib.Core.Logic.{inl, inr}
use Prim.Native.Nat.{◌+◌, ◌≤◌}
use native.Mathlib.Omega.{arith}
use lib.ListN.{length}
use Rattle.header.specs.Header.{H, field_at}
use Rattle.part.specs.Part.{part}
use Rattle.stores.proofs.FileStoreLaws.{has_stores⁻¹, no_stores, first_store, blocks_store, header_store, last_store, no_more_stores}
use Rattle.stores.proofs.store.Goals.{After-le64_at}
use Rattle.stores.proofs.store.Goals as goal

pub returns-then-not-has_stores : goal.returns-then-not-has_stores
returns-then-not-has_stores c = sym (no_stores _ _ (sym c.if-not-has_stores.ensures))

-- where the blocks begin, which is within the file
extent : (c : After-le64_at) → c.le64_at.result ≡ H c.args.file.now
unfolding H field_at part
extent c = c.le64_at.ensures

within : (c : After-le64_at) → 24 + c.le64_at.result ≤ length c.args.file.now
within c = omega (arith, extent c, (has_stores⁻¹ _ (sym c.if-not-has_stores.ensures)).1)

pub overflow_add-blocks : goal.overflow_add-blocks
overflow_add-blocks c =
    omega (arith, within ((goal.at.overflow_add-blocks c).After-le64_at), c.well_formed)

pub returns-in-0 : goal.returns-in-0
returns-in-0 c =
    elim c.in-0.is [
      | inl first ↦ c.part.ensures ∙ sym (first_store _ (sym c.if-not-has_stores.ensures) _ first)
      | inr last ↦ c.part.ensures ∙ sym (last_store _ (sym c.if-not-has_stores.ensures) _ last)
    ]

pub part-requires-in-1 : goal.part-requires-in-1
part-requires-in-1 c = within ((goal.at.part-requires-in-1 c).After-le64_at)

pub returns-in-1 : goal.returns-in-1
returns-in-1 c =
    c.part-in-1.ensures
    ∙ sym (blocks_store _ (sym c.if-not-has_stores.ensures) _ _ c.in-1.is (omega (arith, extent ((goal.at.returns-in-1 c).After-le64_at))))

pub returns-in-2 : goal.returns-in-2
returns-in-2 c =
    c.part-in-2.ensures
    ∙ sym (header_store _ (sym c.if-not-has_stores.ensures) _ _ c.in-2.is (omega (arith, extent ((goal.at.returns-in-2 c).After-le64_at))))

pub returns-in_default : goal.returns-in_default
returns-in_default c =
    let far : 4 ≤ c.args.i = grind arith in
    sym (no_more_stores _ (sym c.if-not-has_stores.ensures) _ far)
