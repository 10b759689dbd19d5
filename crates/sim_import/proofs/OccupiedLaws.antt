-- Laws of the records of a dump that aren't free, and of our records of them.
-- Assumes nothing.
use mathlib.Core.Path.{◌≡◌, refl, sym, ap, ◌∙◌, subst}
use mathlib.Core.Bool.{Bool, true, false, not}
use mathlib.Core.Logic.{◌⊎◌, inl, inr}
use mathlib.Core.List.Memᴰ
use mathlib.Core.List.{List, [], ◌∷◌, ◌++◌, map, Memᴰ}
use Prim.Native.Nat.{ℕ, ◌+◌, ◌-◌, ◌%◌, ◌≤◌, ◌<◌}
use native.Mathlib.Nat.{zero-add, mod-eq_of_lt, mod-eq-sub-mod}
use native.Mathlib.Omega.{arith}
use lib.Dec.{leb}
use lib.ListN.{length, take, drop, length-drop, drop_of_length-le}
use lib.Seq.{drop-drop, length-take-le}
use Rattle.lists.specs.Lists.{keep}
use Rattle.lists.specs.Groups.{groups}
use Rattle.lists.proofs.ListsLaws.{keep_append, keep_member}
use Rattle.lists.proofs.GroupsLaws.{groups_nil, groups_cons, by_groups}
use Rattle.byte_string.proofs.OrderLaws.{Ways, ways}
use Rattle.part.specs.Part.{part}
use Rattle.outcome.specs.Outcome.{Outcome, answer, refused, ◌>>=◌, ◌>>◌, must, number_of}
use Rattle.sim.specs.Adn.{is_filled, is_name, number_length, record_of, imported}
use Rattle.sim_import.specs.Import.{not_free, occupied, imported_all}
use Rattle.sim.proofs.AdnLaws.{record_long}
use Rattle.sim_import.specs.Steps.{Whole, Long}

-- ---- one after the other

some_first : (s : List ℕ) → 0 < length s → (b : ℕ) × (more : List ℕ) × (s ≡ b ∷ more)
some_first [] h = absurd (omega arith)
some_first (b ∷ more) h = (b, more, refl)

module _ (x : ℕ) where
  groups_first : (s : List ℕ) → 0 < length s → groups (x + 14) s ≡ take (x + 14) s ∷ groups (x + 14) (drop (x + 14) s)
  groups_first s h =
      let f = some_first s h in
      subst (λ (l : List ℕ). groups (x + 14) l ≡ take (x + 14) l ∷ groups (x + 14) (drop (x + 14) l)) (sym f.2)
      (groups_cons (x + 14) (omega arith) f.0 f.1)

  -- none are left
  pub occupied_end : (dump : List ℕ) (at : ℕ) → length dump ≤ at → occupied x (drop at dump) ≡ []
  unfolding occupied not_free keep
  occupied_end dump at h = rw (drop_of_length-le dump h, groups_nil {A = ℕ} (x + 14) (omega arith))

  -- the record at an offset, if it isn't free, and those behind it
  pub occupied_step : (dump : List ℕ) (at : ℕ) → at < length dump
      → occupied x (drop at dump) ≡ not_free (part dump at (x + 14) ∷ []) ++ occupied x (drop (at + (x + 14)) dump)
  unfolding occupied not_free part
  occupied_step dump at h =
      ap (keep (λ adn. not (is_filled adn))) (groups_first (drop at dump) (rw length-drop (omega arith)))
      ∙ rw (drop-drop (x + 14) at dump)
      (keep_append (λ adn. not (is_filled adn)) (take (x + 14) (drop at dump) ∷ []) (groups (x + 14) (drop (at + (x + 14)) dump)))

  -- the next one of whole records is whole
  pub whole_step : (dump : List ℕ) (at : ℕ) → Whole x (drop at dump) → at < length dump → at + (x + 14) ≤ length dump
  unfolding Whole
  whole_step dump at w h = go (ways (length dump - at) (x + 14))
    where
      go : Ways (length dump - at) (x + 14) → at + (x + 14) ≤ length dump
      go (inl l) = absurd (let n = sym (mod-eq_of_lt l) ∙ rw length-drop at w in omega arith)
      go (inr (inl e)) = omega arith
      go (inr (inr l)) = omega arith

  pub whole_rest : (dump : List ℕ) (at : ℕ) → Whole x (drop at dump) → at < length dump → Whole x (drop (at + (x + 14)) dump)
  unfolding Whole
  whole_rest dump at w h =
      let l : x + 14 ≤ length dump - at = omega (arith, whole_step dump at w h) in
      let w : (length dump - at) % (x + 14) ≡ 0 = rw length-drop at w in
      let n : length dump - (at + (x + 14)) ≡ length dump - at - (x + 14) = omega arith in
      rw (length-drop, n) (sym (mod-eq-sub-mod l) ∙ w)

-- ---- our records of them

module _ (x : ℕ) where
  -- one list after another
  pub imported_append : (adns more : List (List ℕ))
      → imported_all x (adns ++ more) ≡ (imported_all x adns >>= λ rs. imported_all x more >>= λ qs. answer (rs ++ qs))
  unfolding imported_all ◌>>=◌
  imported_append [] more = go (imported_all x more)
    where
      go : (o : Outcome (List (List ℕ))) → o ≡ (o >>= λ qs. answer qs)
      go (answer qs) = refl
      go (refused n p) = refl
  imported_append (adn ∷ adns) more =
      go (imported x adn) (imported_all x (adns ++ more)) (imported_all x adns) (imported_all x more) (imported_append adns more)
    where
      go : (i : Outcome (List ℕ)) (whole o p : Outcome (List (List ℕ))) → whole ≡ (o >>= λ rs. p >>= λ qs. answer (rs ++ qs))
          → (i >>= λ r. whole >>= λ rs. answer (r ∷ rs)) ≡ ((i >>= λ r. o >>= λ rs. answer (r ∷ rs)) >>= λ rs. p >>= λ qs. answer (rs ++ qs))
      go (answer r) whole (answer rs) (answer qs) e = rw e
      go (answer r) whole (answer rs) (refused n q) e = rw e
      go (answer r) whole (refused n q) p e = rw e
      go (refused n q) whole o p e = refl

  -- our records of all, or a refusal at place 0 whose number isn't 0
  pub data Known (adns : List (List ℕ)) : Outcome (List (List ℕ)) → Type 0 where
    some : Known adns (answer (map (record_of x) adns))
    none : (n : ℕ) → (n ≡ 0 → ⊥) → Known adns (refused n 0)

  pub one_known : (adn : List ℕ) → (imported x adn ≡ answer (record_of x adn)) ⊎ ((n : ℕ) × (n ≡ 0 → ⊥) × (imported x adn ≡ refused n 0))
  unfolding imported must ◌>>◌
  one_known adn = go (is_name (take x adn)) (leb (number_length x adn) 11)
    where
      go : (a b : Bool) → ((must a 33 0 >> (must b 34 0 >> answer (record_of x adn))) ≡ answer (record_of x adn))
          ⊎ ((n : ℕ) × (n ≡ 0 → ⊥) × ((must a 33 0 >> (must b 34 0 >> answer (record_of x adn))) ≡ refused n 0))
      go true true = inl refl
      go true false = inr (34, (λ e. omega arith), refl)
      go false b = inr (33, (λ e. omega arith), refl)

  pub imported_some : (adn : List ℕ) → 0 ≡ number_of (imported x adn) → imported x adn ≡ answer (record_of x adn)
  unfolding number_of
  imported_some adn z = go (one_known adn)
    where
      go : (imported x adn ≡ answer (record_of x adn)) ⊎ ((n : ℕ) × (n ≡ 0 → ⊥) × (imported x adn ≡ refused n 0)) → imported x adn ≡ answer (record_of x adn)
      go (inl e) = e
      go (inr r) = absurd (r.1 (sym (z ∙ ap number_of r.2)))

  pub known : (adns : List (List ℕ)) → Known adns (imported_all x adns)
  unfolding imported_all ◌>>=◌
  known [] = some
  known (adn ∷ adns) = go (one_known adn) (known adns)
    where
      rest : (o : Outcome (List (List ℕ))) → imported x adn ≡ answer (record_of x adn) → Known adns o
          → Known (adn ∷ adns) (imported x adn >>= λ r. o >>= λ rs. answer (r ∷ rs))
      rest o e some = rw e some
      rest o e (none n h) = rw e (none n h)

      go : (imported x adn ≡ answer (record_of x adn)) ⊎ ((n : ℕ) × (n ≡ 0 → ⊥) × (imported x adn ≡ refused n 0)) → Known adns (imported_all x adns)
          → Known (adn ∷ adns) (imported x adn >>= λ r. imported_all x adns >>= λ rs. answer (r ∷ rs))
      go (inl e) k = rest (imported_all x adns) e k
      go (inr r) k = rw r.2 (none r.0 r.1)

-- none, or the one
pub free_one : (adn : List ℕ) → is_filled adn ≡ true → not_free (adn ∷ []) ≡ []
unfolding not_free keep
free_one adn e = rw e

pub not_free_one : (adn : List ℕ) → is_filled adn ≡ false → not_free (adn ∷ []) ≡ adn ∷ []
unfolding not_free keep
not_free_one adn e = rw e

-- ---- every record of whole ones has its 14 bytes, and so has ours

pub groups_whole : (x : ℕ) (dump : List ℕ) → Whole x dump → (adn : List ℕ) → Memᴰ adn (groups (x + 14) dump) → length adn ≡ x + 14
groups_whole x =
    by_groups (x + 14) (omega arith) (λ dump. Whole x dump → (adn : List ℕ) → Memᴰ adn (groups (x + 14) dump) → length adn ≡ x + 14)
    (λ w adn m. absurd (none adn (subst (λ l. Memᴰ adn l) (groups_nil (x + 14) (omega arith)) m)))
    (λ b s ih w adn m. more b s (ih (rw (zero-add (x + 14)) at (whole_rest x (b ∷ s) 0 w (omega arith)))) w adn
    (subst (λ l. Memᴰ adn l) (groups_cons (x + 14) (omega arith) b s) m))
  where
    none : (adn : List ℕ) → Memᴰ adn [] → ⊥
    none adn m = Memᴰ.not-nil m

    more : (b : ℕ) (s : List ℕ) → ((adn : List ℕ) → Memᴰ adn (groups (x + 14) (drop (x + 14) (b ∷ s))) → length adn ≡ x + 14) → Whole x (b ∷ s)
        → (adn : List ℕ) → Memᴰ adn (take (x + 14) (b ∷ s) ∷ groups (x + 14) (drop (x + 14) (b ∷ s))) → length adn ≡ x + 14
    more b s ih w adn (Memᴰ.head e) = rw e (length-take-le (x + 14) (b ∷ s) (let l = whole_step x (b ∷ s) 0 w (omega arith) in omega arith))
    more b s ih w adn (Memᴰ.tail m) = ih adn m

pub occupied_long : (x : ℕ) (dump : List ℕ) → Whole x dump → Long (map (record_of x) (occupied x dump))
unfolding Long occupied not_free
occupied_long x dump w r m = go (Memᴰ.of_map (record_of x) (occupied x dump) m)
  where
    go : (adn : List ℕ) × Memᴰ adn (occupied x dump) × (record_of x adn ≡ r) → 7 ≤ length r
    go h =
        let whole = groups_whole x dump w h.0 (keep_member (λ adn. not (is_filled adn)) (groups (x + 14) dump) h.0 h.1).0 in
        let long = record_long x h.0 in
        rw (← h.2) (omega arith)
