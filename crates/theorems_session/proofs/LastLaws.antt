-- The last element of a list.
-- Assumes nothing.
use mathlib.Core.Path.{◌≡◌, refl, ap}
use mathlib.Core.Logic.{◌⊎◌, inl, inr}
use mathlib.Core.List.{List, [], ◌∷◌, ◌++◌}

-- a list is empty or has a last element
pub last_or_none : {A : Type 0} (xs : List A) → (xs ≡ []) ⊎ ((earlier : List A) × ((last : A) × (xs ≡ earlier ++ (last ∷ []))))
last_or_none [] = inl refl
last_or_none {A} (x ∷ xs) = inr (go (last_or_none xs))
  where
    go : (xs ≡ []) ⊎ ((earlier : List A) × ((last : A) × (xs ≡ earlier ++ (last ∷ []))))
        → (earlier : List A) × ((last : A) × (x ∷ xs ≡ earlier ++ (last ∷ [])))
    go (inl e) = ([], (x, ap (λ (l : List A). x ∷ l) e))
    go (inr p) = (x ∷ p.0, (p.1.0, ap (λ (l : List A). x ∷ l) p.1.1))
