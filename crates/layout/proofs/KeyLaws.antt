-- Keys that rise: of the entries over data blocks, and of the entries over index blocks.
-- Assumes nothing.
use mathlib.Core.Path.{◌≡◌, refl}
use mathlib.Core.Bool.{Bool, true, ◌&&◌}
use mathlib.Core.Option.{none, some}
use mathlib.Core.List.{List, [], ◌∷◌, ◌++◌, flat_map, map, Memᴰ}
use Prim.Native.Nat.{ℕ, ◌<◌}
use native.Mathlib.Omega.{arith}
use lib.ListN.{length}
use Rattle.lists.specs.Groups.{first_or, last_or}
use Rattle.lists.proofs.ListsLaws.{both⁻¹}
use Rattle.lists.proofs.RisingLaws.{member_split, flat_map_split}
use Rattle.byte_string.specs.Order.{at_most}
use Rattle.byte_string.proofs.OrderLaws.{at_most_refl, at_most_trans}
use Rattle.payload.specs.Payload.{rising, rising_from}
use Rattle.layout.specs.Index.{IndexEntry}
use Rattle.layout.specs.File.{key_for, data_entries}
use Rattle.layout.proofs.KeyForLaws.{key_at_most_first, before-at_most_key}

-- ---- byte strings that rise

-- two tests that hold
both : (a b : Bool) → a ≡ true → b ≡ true → (a && b) ≡ true
both a b p q = rw (p, q)

pub rising_lower : (x y : List ℕ) (zs : List (List ℕ)) → at_most x y ≡ true → rising_from y zs ≡ true → rising_from x zs ≡ true
unfolding rising_from
rising_lower x y [] h k = refl
rising_lower x y (z ∷ zs) h k = let r = both⁻¹ (at_most y z) (rising_from z zs) k in both _ _ (at_most_trans x y z h r.0) r.1

-- from the last of some on
pub rising-after : (x : List ℕ) (ys zs : List (List ℕ)) → rising_from x (ys ++ zs) ≡ true
    → (at_most x (last_or x ys) ≡ true) × (rising_from (last_or x ys) zs ≡ true)
unfolding rising_from last_or
rising-after x [] zs h = (at_most_refl x, h)
rising-after x (y ∷ ys) zs h =
    let r = both⁻¹ (at_most x y) (rising_from y (ys ++ zs)) h in
    let more = rising-after y ys zs r.1 in
    (at_most_trans x y (last_or y ys) r.0 more.0, more.1)

rising-skip : (x : List ℕ) (ys zs : List (List ℕ)) → rising_from x (ys ++ zs) ≡ true → rising_from x zs ≡ true
rising-skip x ys zs h = let r = rising-after x ys zs h in rising_lower x (last_or x ys) zs r.0 r.1

rising_stop : (x : List ℕ) (ys zs : List (List ℕ)) → rising_from x (ys ++ zs) ≡ true → rising_from x ys ≡ true
unfolding rising_from
rising_stop x [] zs h = refl
rising_stop x (y ∷ ys) zs h = let r = both⁻¹ (at_most x y) (rising_from y (ys ++ zs)) h in both _ _ r.0 (rising_stop y ys zs r.1)

pub rising_left : (xs ys : List (List ℕ)) → rising (xs ++ ys) ≡ true → rising xs ≡ true
unfolding rising
rising_left [] ys h = refl
rising_left (x ∷ xs) ys h = rising_stop x xs ys h

rising_tail : (x : List ℕ) (xs : List (List ℕ)) → rising_from x xs ≡ true → rising xs ≡ true
unfolding rising rising_from
rising_tail x [] h = refl
rising_tail x (y ∷ ys) h = (both⁻¹ (at_most x y) (rising_from y ys) h).1

pub rising_right : (xs ys : List (List ℕ)) → rising (xs ++ ys) ≡ true → rising ys ≡ true
unfolding rising
rising_right [] ys h = h
rising_right (x ∷ xs) ys h = rising_tail x ys (rising-skip x xs ys h)

-- ---- in groups

-- none of them is empty
abbrev pub Filled : {A : Type 0} → List (List A) → Type 0
Filled {A} gs = (g : List A) → Memᴰ g gs → 0 < length g

-- the first of each group, where all rise
pub firsts_rise_from : (x : List ℕ) (gs : List (List (List ℕ))) → Filled gs → rising_from x (flat_map (λ g. g) gs) ≡ true
    → rising_from x (map (first_or []) gs) ≡ true
unfolding rising_from flat_map first_or
firsts_rise_from x [] filled h = refl
firsts_rise_from x ([] ∷ gs) filled h = absurd (let none = filled [] (Memᴰ.head refl) in omega arith)
firsts_rise_from x ((y ∷ ys) ∷ gs) filled h =
    let r = both⁻¹ (at_most x y) (rising_from y (ys ++ flat_map (λ g. g) gs)) h in
    both _ _ r.0 (firsts_rise_from y gs (λ g m. filled g (Memᴰ.tail m)) (rising-skip y ys (flat_map (λ g. g) gs) r.1))

pub firsts_rise : (gs : List (List (List ℕ))) → Filled gs → rising (flat_map (λ g. g) gs) ≡ true → rising (map (first_or []) gs) ≡ true
unfolding rising flat_map first_or
firsts_rise [] filled h = refl
firsts_rise ([] ∷ gs) filled h = absurd (let none = filled [] (Memᴰ.head refl) in omega arith)
firsts_rise ((y ∷ ys) ∷ gs) filled h = firsts_rise_from y gs (λ g m. filled g (Memᴰ.tail m)) (rising-skip y ys (flat_map (λ g. g) gs) h)

-- each group rises, where all rise
pub rising_group : (gs : List (List (List ℕ))) → rising (flat_map (λ g. g) gs) ≡ true → (g : List (List ℕ)) → Memᴰ g gs → rising g ≡ true
rising_group gs h g m =
    let split = member_split gs g m in
    let parts = flat_map_split (λ (l : List (List ℕ)). l) gs split.0 g split.1 split.2 in
    rising_left g (flat_map (λ l. l) split.1) (rising_right (flat_map (λ l. l) split.0) (g ++ flat_map (λ l. l) split.1) (rw (← parts) h))

-- ---- entries

abbrev pub keys : List IndexEntry → List (List ℕ)
keys es = map (λ (e : IndexEntry). e.key) es

-- over data blocks, after a record that is at most all of theirs; `key` is the key before
data_keys_from : (key last : List ℕ) (at : ℕ) (blocks : List (List (List ℕ))) → Filled blocks → at_most key last ≡ true
    → rising_from last (flat_map (λ rs. rs) blocks) ≡ true → rising_from key (keys (data_entries (some last) at blocks)) ≡ true
unfolding rising_from flat_map first_or last_or data_entries
data_keys_from key last at [] filled below h = refl
data_keys_from key last at ([] ∷ more) filled below h = absurd (let nothing = filled [] (Memᴰ.head refl) in omega arith)
data_keys_from key last at ((r ∷ rs) ∷ more) filled below h =
    let first = both⁻¹ (at_most last r) (rising_from r (rs ++ flat_map (λ l. l) more)) h in
    let after = rising-after r rs (flat_map (λ l. l) more) first.1 in
    let next = key_for (some last) r in
    both _ _ (at_most_trans key last next below (before-at_most_key last r first.0))
    (data_keys_from next (last_or r rs) _ more (λ g m. filled g (Memᴰ.tail m))
    (at_most_trans next r (last_or r rs) (key_at_most_first (some last) r) after.0) after.1)

pub data_keys_rise : (at : ℕ) (blocks : List (List (List ℕ))) → Filled blocks → rising (flat_map (λ rs. rs) blocks) ≡ true
    → rising (keys (data_entries none at blocks)) ≡ true
unfolding rising flat_map first_or last_or data_entries
data_keys_rise at [] filled h = refl
data_keys_rise at ([] ∷ more) filled h = absurd (let nothing = filled [] (Memᴰ.head refl) in omega arith)
data_keys_rise at ((r ∷ rs) ∷ more) filled h =
    let after = rising-after r rs (flat_map (λ l. l) more) h in
    data_keys_from (key_for none r) (last_or r rs) _ more (λ g m. filled g (Memᴰ.tail m))
    (at_most_trans (key_for none r) r (last_or r rs) (key_at_most_first none r) after.0) after.1
