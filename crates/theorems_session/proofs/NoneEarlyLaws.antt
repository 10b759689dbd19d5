-- Where no block was closed early, the blocks are the records in groups.
-- Assumes nothing.
use mathlib.Core.Path.{◌≡◌, refl, ap, ◌∙◌}
use mathlib.Core.List.{List, [], ◌∷◌, ◌++◌, flat_map, append-nil, Memᴰ}
use Prim.Native.Nat.{ℕ, ◌≤◌}
use native.Mathlib.Omega.{arith}
use lib.ListN.{length}
use lib.Seq.{take_at, drop_at}
use Rattle.lists.specs.Groups.{groups}
use Rattle.lists.proofs.GroupsLaws.{groups_nil, groups_cons, groups_one}
use Rattle.layout.proofs.KeyLaws.{Filled}
use Rattle.session_value.specs.Stage.{open_block}
use Rattle.theorems_session.specs.SessionByRules.{NoneEarly}

-- a full group in front
groups_full : {A : Type 0} (n : ℕ) → 1 ≤ n → (g xs : List A) → length g ≡ n → groups n (g ++ xs) ≡ g ∷ groups n xs
groups_full n some [] xs long = absurd (omega arith)
groups_full n some (x ∷ g) xs long = rw (groups_cons n some x (g ++ xs), take_at (x ∷ g) xs n long, drop_at (x ∷ g) xs n long)

-- a group that isn't fuller, and nothing after it
groups_last : {A : Type 0} (n : ℕ) → 1 ≤ n → (g : List A) → 1 ≤ length g → length g ≤ n → groups n (g ++ []) ≡ g ∷ []
groups_last n some [] filled few = absurd (omega arith)
groups_last n some (x ∷ g) filled few = ap (groups n) (append-nil (x ∷ g)) ∙ groups_one n some x g few

pub early_groups : (per_block : ℕ) → 1 ≤ per_block → (blocks : List (List (List ℕ))) → Filled blocks
    → ((b : List (List ℕ)) → Memᴰ b blocks → length b ≤ per_block) → NoneEarly per_block blocks → groups per_block (flat_map (λ b. b) blocks) ≡ blocks
unfolding NoneEarly flat_map
early_groups per_block some [] filled few full = groups_nil per_block some
early_groups per_block some (b ∷ []) filled few full =
    groups_last per_block some b (filled b (Memᴰ.head refl)) (few b (Memᴰ.head refl))
early_groups per_block some (b ∷ c ∷ more) filled few full =
    groups_full per_block some b (flat_map (λ l. l) (c ∷ more)) (omega (arith, full.0))
    ∙ ap (λ (l : List (List (List ℕ))). b ∷ l)
    (early_groups per_block some (c ∷ more) (λ g m. filled g (Memᴰ.tail m)) (λ g m. few g (Memᴰ.tail m)) full.1)

-- where all closed blocks are full, only the open one may not be
pub full_none_early : (per_block : ℕ) (closed : List (List (List ℕ))) (rs : List (List ℕ)) → ((b : List (List ℕ)) → Memᴰ b closed → length b ≡ per_block)
    → NoneEarly per_block (closed ++ open_block rs)
unfolding NoneEarly open_block
full_none_early per_block [] [] full = tt
full_none_early per_block [] (r ∷ rs) full = tt
full_none_early per_block (b ∷ []) [] full = tt
full_none_early per_block (b ∷ []) (r ∷ rs) full = (omega (arith, full b (Memᴰ.head refl)), tt)
full_none_early per_block (b ∷ c ∷ more) rs full =
    (omega (arith, full b (Memᴰ.head refl)), full_none_early per_block (c ∷ more) rs (λ g m. full g (Memᴰ.tail m)))
