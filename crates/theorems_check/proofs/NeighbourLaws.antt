-- Laws of 23: neighbouring data blocks are in order exactly where all pairs are.
-- Assumes nothing.
use mathlib.Core.Path.{◌≡◌, refl, ◌∙◌, subst}
use mathlib.Core.Bool.{true}
use mathlib.Core.List.{List, [], ◌∷◌, Memᴰ}
use Rattle.byte_string.specs.Order.{at_most}
use Rattle.byte_string.proofs.OrderLaws.{at_most_trans}
use Rattle.outcome.specs.Outcome.{answer}
use Rattle.lists.specs.Lists.{all}
use Rattle.outcome.proofs.OutcomeLaws.{kept, kept⁻¹}
use Rattle.payload.specs.Payload.{Text}
use Rattle.block.specs.Block.{Block}
use Rattle.tree.specs.Stages.{all_at_most, neighbours_of, neighbours}
use Rattle.lists.proofs.ListsLaws.{all_member, member_all}

pub all_at_most⁻¹ : (a b : Block) → all_at_most a b ≡ true → (r s : Text) → Memᴰ r a.records → Memᴰ s b.records → at_most r.bytes s.bytes ≡ true
unfolding all_at_most
all_at_most⁻¹ a b h r s m n =
    all_member (λ t. at_most r.bytes t.bytes) b.records (all_member (λ q. all (λ t. at_most q.bytes t.bytes) b.records) a.records h r m) s n

pub all_at_most_of : (a b : Block) → ((r s : Text) → Memᴰ r a.records → Memᴰ s b.records → at_most r.bytes s.bytes ≡ true) → all_at_most a b ≡ true
unfolding all_at_most
all_at_most_of a b h =
    member_all (λ r. all (λ s. at_most r.bytes s.bytes) b.records) a.records (λ r m. member_all (λ s. at_most r.bytes s.bytes) b.records (λ s n. h r s m n))

-- what stands after the first
pub neighbours-after : (a : Block) (bs : List Block) → neighbours_of a bs ≡ answer tt → neighbours bs ≡ answer tt
unfolding neighbours neighbours_of
neighbours-after a [] h = refl
neighbours-after a (b ∷ bs) h = (kept⁻¹ (all_at_most a b) 23 b.frame.start (neighbours_of b bs) tt h).1

pub neighbours-before : (a : Block) (bs : List Block) → ((b : Block) → Memᴰ b bs → all_at_most a b ≡ true) → neighbours bs ≡ answer tt → neighbours_of a bs ≡ answer tt
unfolding neighbours neighbours_of
neighbours-before a [] h rest = refl
neighbours-before a (b ∷ bs) h rest = kept (all_at_most a b) 23 b.frame.start (neighbours_of b bs) (h b (Memᴰ.head refl)) ∙ rest

-- from neighbour to neighbour, through a record of each block between
pub neighbours_chain : (a : Block) (bs : List Block) → neighbours_of a bs ≡ answer tt → ((b : Block) → Memᴰ b bs → (q : Text) × Memᴰ q b.records)
    → (b : Block) → Memᴰ b bs → (r s : Text) → Memᴰ r a.records → Memᴰ s b.records → at_most r.bytes s.bytes ≡ true
unfolding neighbours_of
neighbours_chain a bs h some b i r s m n = go b bs i a r h some m n
  where
    go : (b : Block) (bs : List Block) → Memᴰ b bs → (a : Block) (r : Text) → neighbours_of a bs ≡ answer tt → ((b : Block) → Memᴰ b bs → (q : Text) × Memᴰ q b.records)
        → Memᴰ r a.records → Memᴰ s b.records → at_most r.bytes s.bytes ≡ true
    go b bs (Memᴰ.head {x = c} {xs = cs} e) a r h some m n =
        all_at_most⁻¹ a c (kept⁻¹ (all_at_most a c) 23 c.frame.start (neighbours_of c cs) tt h).0 r s m (subst (λ (d : Block). Memᴰ s d.records) e n)
    go b bs (Memᴰ.tail {x = c} {xs = cs} i) a r h some m n =
        let first = kept⁻¹ (all_at_most a c) 23 c.frame.start (neighbours_of c cs) tt h in
        let between = some c (Memᴰ.head refl) in
        let q = between.0 in
        at_most_trans r.bytes q.bytes s.bytes
        (all_at_most⁻¹ a c first.0 r q m between.1)
        (go b cs i c q first.1 (λ d j. some d (Memᴰ.tail j)) between.1 n)
