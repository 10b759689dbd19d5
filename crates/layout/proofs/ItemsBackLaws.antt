-- Things that are laid side by side are read back one after the other, where each of them is read back.
-- Assumes nothing.
use mathlib.Core.Path.{◌≡◌, refl, ap, ◌∙◌, subst}
use mathlib.Core.List.{List, [], ◌∷◌, ◌++◌, flat_map, append-nil, Memᴰ}
use Prim.Native.Nat.{ℕ, zero, suc, ◌+◌, ◌-◌, ◌≤◌, ◌<◌}
use native.Mathlib.Omega.{arith}
use lib.ListN.{length, length-append}
use Rattle.outcome.specs.Outcome.{Outcome, answer}
use Rattle.outcome.proofs.OutcomeLaws.{bind_answer}
use Rattle.items.specs.Items.{items_from, sound_from}
use Rattle.items.specs.declared.Step.{Step}
use Rattle.items.proofs.ItemsLaws.{items_end_lem, items_step, sound_step}
use Rattle.layout.proofs.LiesLaws.{Lies, lies_front, lies_back}

-- things with their bytes, and each as it is found at an offset
module _ {A B : Type 0} (bytes : B → List ℕ) (found : ℕ → B → A) where
  -- side by side from an offset on
  unfoldable pub placed_by : (at : ℕ) → List B → List A
  placed_by at [] = []
  placed_by at (b ∷ bs) = found at b ∷ placed_by (at + length (bytes b)) bs

  module _ (step : ℕ → Outcome (Step A)) (s : List ℕ) (some : (b : B) → 0 < length (bytes b)) where
    -- each of these is found by a step where it lies
    abbrev pub FoundBack : List B → Type 0
    FoundBack bs = (b : B) → Memᴰ b bs → (at : ℕ) → Lies s at (bytes b) → step at ≡ answer (record { item = found at b; next = at + length (bytes b) })

    -- these, and then the rest
    pub items_back_then : (end : ℕ) (rest : List A) (bs : List B) → FoundBack bs → (at fuel : ℕ)
        → Lies s at (flat_map bytes bs) → at + length (flat_map bytes bs) ≤ end
        → end - at ≤ fuel
        → ((more : ℕ) → end - (at + length (flat_map bytes bs)) ≤ more → items_from step end more (at + length (flat_map bytes bs)) ≡ answer rest)
        → items_from step end fuel at ≡ answer (placed_by at bs ++ rest)
    unfolding flat_map placed_by
    items_back_then end rest [] back at fuel l h enough after =
        subst (λ (n : ℕ). items_from step end fuel n ≡ answer rest) (omega arith) (after fuel (omega arith))
    items_back_then end rest (b ∷ bs) back at zero l h enough after =
        absurd (let long = length-append (bytes b) (flat_map bytes bs) in let positive = some b in omega arith)
    items_back_then end rest (b ∷ bs) back at (suc fuel) l h enough after =
        let long = length-append (bytes b) (flat_map bytes bs) in
        let positive = some b in
        let next = at + length (bytes b) in
        let all : at + length (bytes b ++ flat_map bytes bs) ≡ next + length (flat_map bytes bs) = omega arith in
        items_step step end fuel at (record { item = found at b; next = next }) (omega arith)
        (back b (Memᴰ.head refl) at (lies_front s at (bytes b) (flat_map bytes bs) l))
        ∙ bind_answer (items_from step end fuel next) _ (placed_by next bs ++ rest)
        (items_back_then end rest bs (λ c m. back c (Memᴰ.tail m)) next fuel (lies_back s at (bytes b) (flat_map bytes bs) l) (omega arith) (omega arith)
        (subst (λ (n : ℕ). (more : ℕ) → end - n ≤ more → items_from step end more n ≡ answer rest) all after))

    -- up to an end
    pub items_back : (end : ℕ) (bs : List B) → FoundBack bs → (at fuel : ℕ)
        → Lies s at (flat_map bytes bs) → at + length (flat_map bytes bs) ≡ end → end - at ≤ fuel
        → items_from step end fuel at ≡ answer (placed_by at bs)
    items_back end bs back at fuel l h enough =
        items_back_then end [] bs back at fuel l (omega arith) enough (λ more k. items_end_lem step end more (at + length (flat_map bytes bs)) (omega arith))
        ∙ ap answer (append-nil (placed_by at bs))

    -- these, and then those in front of the first refusal
    pub sound_back_then : (end : ℕ) (rest : List A) (bs : List B) → FoundBack bs → (at fuel : ℕ)
        → Lies s at (flat_map bytes bs) → at + length (flat_map bytes bs) ≤ end
        → end - at ≤ fuel
        → ((more : ℕ) → end - (at + length (flat_map bytes bs)) ≤ more → sound_from step end more (at + length (flat_map bytes bs)) ≡ rest)
        → sound_from step end fuel at ≡ placed_by at bs ++ rest
    unfolding flat_map placed_by
    sound_back_then end rest [] back at fuel l h enough after =
        subst (λ (n : ℕ). sound_from step end fuel n ≡ rest) (omega arith) (after fuel (omega arith))
    sound_back_then end rest (b ∷ bs) back at zero l h enough after =
        absurd (let long = length-append (bytes b) (flat_map bytes bs) in let positive = some b in omega arith)
    sound_back_then end rest (b ∷ bs) back at (suc fuel) l h enough after =
        let long = length-append (bytes b) (flat_map bytes bs) in
        let positive = some b in
        let next = at + length (bytes b) in
        let all : at + length (bytes b ++ flat_map bytes bs) ≡ next + length (flat_map bytes bs) = omega arith in
        sound_step step end fuel at (record { item = found at b; next = next }) (omega arith)
        (back b (Memᴰ.head refl) at (lies_front s at (bytes b) (flat_map bytes bs) l))
        ∙ ap (λ (xs : List A). found at b ∷ xs)
        (sound_back_then end rest bs (λ c m. back c (Memᴰ.tail m)) next fuel (lies_back s at (bytes b) (flat_map bytes bs) l) (omega arith) (omega arith)
        (subst (λ (n : ℕ). (more : ℕ) → end - n ≤ more → sound_from step end more n ≡ rest) all after))
