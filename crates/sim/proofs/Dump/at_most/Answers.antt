-- `at_most` meets its contract: the fronts of the two names decide, or what follows them does. Assumes nothing.
use Rattle.std.proofs.Common.{◌≤◌, length, ℕ, Bor, ◌≡◌, ◌++◌, refl, sym, ap, ap₂, arith, drop, ◌∙◌}
use Rattle.std.specs.Ordering.{nat_cmp}
use Rattle.std.specs.Slice.Iter.{iter_rest}
use Rattle.std.proofs.lemmas.List.{drop_all}
use Rattle.std.proofs.lemmas.Iterator.{YieldsList-from_slice}
use Rattle.std.proofs.lemmas.Iterator.Consumers.{YieldsList-from_chain}
use Rattle.std.proofs.lemmas.Iterator.Search.{cmp_from_yields_List}
use Rattle.part.proofs.PartLaws.{lent_drop}
use Rattle.byte_string.specs.Order.{order, at_most}
use Rattle.sim.specs.Adn.{record_at}
use Rattle.sim.proofs.AdnLaws.{fronts_decide, fronts_agree, parts_record}
use Rattle.sim.proofs.Dump.at_most.Goals as goal
use Rattle.sim.proofs.Dump.at_most.Goals.{After-cmp}

-- the two records, in the two parts of ours
records : (c : After-cmp) → at_most (c.name-x.result.now ++ c.record-s.result.rest.now) (c.name-y.result.now ++ c.record-t.result.rest.now)
    ≡ at_most (record_at c.args.self.name_length c.args.self.bytes.now c.args.a) (record_at c.args.self.name_length c.args.self.bytes.now c.args.b)
records c =
    ap₂ at_most (parts_record _ _ c.args.a _ _ _ c.record-s.ensures.field c.name-x.ensures c.record-s.ensures.rest)
    (parts_record _ _ c.args.b _ _ _ c.record-t.ensures.field c.name-y.ensures c.record-t.ensures.rest)

pub returns-in-Equal : goal.returns-in-Equal
unfolding order
returns-in-Equal c =
    let n = c.min-n.result in
    let x = c.name-x.result.now in
    let y = c.name-y.result.now in
    let r = c.record-s.result.rest.now in
    let t = c.record-t.result.rest.now in
    let order : c.cmp-in-Equal.result ≡ order (drop n x ++ r) (drop n y ++ t) =
    rw (drop_all n x (omega arith), drop_all n y (omega arith)) c.cmp-in-Equal.ensures in
    c.is_le.ensures ∙ fronts_agree x r y t n (omega arith) (omega arith) _ (sym c.in-Equal.is ∙ c.cmp.ensures) order
    ∙ records (goal.at.returns-in-Equal c).After-cmp

pub returns-in-Equal-2 : goal.returns-in-Equal-2
unfolding order
returns-in-Equal-2 c =
    let n = c.min-n.result in
    let h : n ≤ length c.name-x.result.now = omega arith in
    let k : n ≤ length c.name-y.result.now = omega arith in
    let order =
    cmp_from_yields_List {v = λ (y : Bor ℕ). y.now} (λ x y. y ≡ x) _ nat_cmp _ c.cmp-in-Equal-2.ensures.ran
    (YieldsList-from_chain
    (YieldsList-from_slice (drop n c.name-x.result.now)
    (ap iter_rest c.chain.ensures.first ∙ c.iter.ensures.rest ∙ lent_drop c.name-x.result.now n))
    (YieldsList-from_slice c.record-s.result.rest.now c.chain.ensures.second.0) c.chain.ensures.first_done c.chain.ensures.second_done)
    (λ it e. rw e
    (YieldsList-from_chain
    (YieldsList-from_slice (drop n c.name-y.result.now)
    (ap iter_rest c.chain-in-Equal-2.ensures.first ∙ c.iter-in-Equal-2.ensures.rest ∙ lent_drop c.name-y.result.now n))
    (YieldsList-from_slice c.record-t.result.rest.now c.chain-in-Equal-2.ensures.second.0) c.chain-in-Equal-2.ensures.first_done
    c.chain-in-Equal-2.ensures.second_done))
    (λ x y. refl) in
    c.is_le-in-Equal-2.ensures ∙ fronts_agree _ _ _ _ n h k _ (sym c.in-Equal.is ∙ c.cmp.ensures) order
    ∙ records (goal.at.returns-in-Equal-2 c).After-cmp

pub returns-in_default : goal.returns-in_default
unfolding order
returns-in_default c =
    c.is_le-in_default.ensures ∙ fronts_decide _ _ _ _ c.min-n.result (omega arith) (omega arith) _ c.cmp.ensures c.in_default.not-Equal
    ∙ records (goal.at.returns-in_default c).After-cmp
