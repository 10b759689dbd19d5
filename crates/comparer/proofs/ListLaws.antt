-- Laws of the numbers that are put for differences.
-- Assumes nothing.
use mathlib.Core.Path.{◌≡◌, refl, sym, ap, ap₂, ◌∙◌}
use mathlib.Core.List.{List, [], ◌∷◌, flat_map}
use Prim.Native.Nat.{ℕ, ◌+◌, ◌<◌}
use native.Mathlib.Omega.{arith}
use lib.ListN.{length, get_or, take, length-take}
use Rattle.output_list.specs.OutputList.{with_number, with_numbers}
use Rattle.std.proofs.lemmas.List.{take_more}
use Rattle.output_list.proofs.OutputListLaws.{with_numbers-append}
use Rattle.differences.specs.Differences.{Difference, numbers_of, room_for}

-- one number more is put
pub put_more : (before list later : List ℕ) (at i : ℕ) (ns : List ℕ) → i < length ns → list ≡ with_numbers before at (take i ns)
    → later ≡ with_number list (at + i) (get_or ns i 0) → later ≡ with_numbers before at (take (i + 1) ns)
unfolding with_numbers
put_more before list later at i ns h is put =
    let long : length (take i ns) ≡ i = simp length-take (omega arith) in
    put
    ∙ ap₂ (λ (l : List ℕ) (k : ℕ). with_number l (at + k) (get_or ns i 0)) is (sym long)
    ∙ sym (with_numbers-append before at (take i ns) (get_or ns i 0 ∷ []))
    ∙ ap (with_numbers before at) (sym (take_more ns i 0 h))

-- five places for each difference
pub length-numbers_of : (ds : List Difference) → length (numbers_of ds) ≡ room_for (length ds)
unfolding numbers_of room_for flat_map
length-numbers_of [] = refl
length-numbers_of (d ∷ ds) = let rest = length-numbers_of ds in omega arith
