-- Laws of records in the form that the writer takes, and of their order.
-- Assumes nothing.
use mathlib.Core.Path.{◌≡◌, refl, sym, ap, ◌∙◌}
use mathlib.Core.List.Memᴰ
use mathlib.Core.List.{List, [], ◌∷◌, ◌++◌, append-nil, flat_map}
use Prim.Native.Nat.{ℕ, zero, suc, ◌+◌, ◌*◌, ◌-◌, ◌≤◌, ◌<◌}
use native.Mathlib.Numerals.{add-one}
use native.Mathlib.Omega.{arith}
use lib.ListN.{length, get_or, take, drop, length-append, length-drop, take-append-drop}
use lib.Seq.{take-suc}
use Rattle.lists.proofs.ListsLaws.{flat_map_append}
use Rattle.uleb128.proofs.EncodingLaws.{encoding_some, encoding-length}
use Rattle.layout.specs.Blocks.{text_bytes, records_bytes}
use Rattle.layout.proofs.ReadBackLaws.{length_text}
use Rattle.sorting.specs.Sorting.{Permutation, empty, skip, swap, trans}
use Rattle.sorting.proofs.PermutationLaws.{permutation_member}
use Rattle.sim_import.specs.Steps.{Long}

-- ---- records one after the other

pub bytes_append : (rs qs : List (List ℕ)) → records_bytes (rs ++ qs) ≡ records_bytes rs ++ records_bytes qs
unfolding records_bytes
bytes_append rs qs = flat_map_append text_bytes rs qs

pub bytes_one : (r : List ℕ) → records_bytes (r ∷ []) ≡ text_bytes r
unfolding records_bytes flat_map
bytes_one r = append-nil (text_bytes r)

bytes_first : (r : List ℕ) (rs : List (List ℕ)) → records_bytes (r ∷ rs) ≡ text_bytes r ++ records_bytes rs
unfolding records_bytes flat_map
bytes_first r rs = refl

pub length-first : (r : List ℕ) (rs : List (List ℕ)) → length (records_bytes (r ∷ rs)) ≡ length (text_bytes r) + length (records_bytes rs)
length-first r rs = rw (bytes_first r rs) (length-append (text_bytes r) (records_bytes rs))

-- one more
pub bytes_more : (rs : List (List ℕ)) (k : ℕ) (d : List ℕ) → k < length rs
    → records_bytes (take (k + 1) rs) ≡ records_bytes (take k rs) ++ text_bytes (get_or rs k d)
bytes_more rs k d h = rw (add-one k, take-suc rs k d h) (bytes_append (take k rs) (get_or rs k d ∷ []) ∙ rw (bytes_one (get_or rs k d)))

-- a record of at most 269 bytes takes at most two more for its length
pub text_short : (r : List ℕ) → length r ≤ 269 → length (text_bytes r) ≤ length r + 2
text_short r h = omega (arith, length_text r, encoding-length 1 (length r) (omega arith))

-- ---- records that take at least as many bytes as a slot

text_long : (r : List ℕ) → 7 ≤ length r → 8 ≤ length (text_bytes r)
text_long r h = omega (arith, length_text r, encoding_some (length r))

pub bytes_long : (rs : List (List ℕ)) → Long rs → 8 * length rs ≤ length (records_bytes rs)
unfolding Long
bytes_long [] l = omega arith
bytes_long (r ∷ rs) l =
    let first = text_long r (l r (Memᴰ.head refl)) in
    let rest = bytes_long rs (λ q m. l q (Memᴰ.tail m)) in
    omega (arith, length-first r rs)

long_drop : (k : ℕ) (rs : List (List ℕ)) → Long rs → Long (drop k rs)
unfolding Long
long_drop zero rs l = l
long_drop (suc k) [] l = l
long_drop (suc k) (r ∷ rs) l = long_drop k rs (λ q m. l q (Memᴰ.tail m))

-- the first k records end before the slot after the k-th, where all end with the slots
pub bytes_front : (rs : List (List ℕ)) (count k size : ℕ) → length rs ≡ count → Long rs → length (records_bytes rs) ≡ size → 8 * count ≤ size → k ≤ count
    → length (records_bytes (take k rs)) ≤ size - 8 * count + 8 * k
bytes_front rs count k size e l t s h =
    let split : length (records_bytes rs) ≡ length (records_bytes (take k rs)) + length (records_bytes (drop k rs)) =
    ap (λ q. length (records_bytes q)) (sym (take-append-drop k rs))
    ∙ rw (bytes_append (take k rs) (drop k rs)) (length-append (records_bytes (take k rs)) (records_bytes (drop k rs))) in
    let rest : 8 * (length rs - k) ≤ length (records_bytes (drop k rs)) = rw length-drop at (bytes_long (drop k rs) (long_drop k rs l)) in
    omega arith

-- ---- in any order

pub permutation_long : {xs ys : List (List ℕ)} → Permutation xs ys → Long ys → Long xs
unfolding Long
permutation_long p l r m = l r (permutation_member r p m)

pub permutation_bytes : {xs ys : List (List ℕ)} → Permutation xs ys → length (records_bytes xs) ≡ length (records_bytes ys)
permutation_bytes empty = refl
permutation_bytes (skip {x} {xs} {ys} p) = omega (arith, length-first x xs, length-first x ys, permutation_bytes p)
permutation_bytes (swap {x} {y} {xs}) =
    omega (arith, length-first x (y ∷ xs), length-first y xs, length-first y (x ∷ xs), length-first x xs)
permutation_bytes (trans p q) = permutation_bytes p ∙ permutation_bytes q
