-- The records of a dump, and ours of them.
-- Assumes nothing.
use mathlib.Core.Path.{◌≡◌, sym, ap, ap₂, ◌∙◌}
use mathlib.Core.Logic.{◌↔◌}
use mathlib.Core.Bool.{true, false, not, true≢false}
use mathlib.Core.List.{List, [], ◌∷◌, ◌++◌, flat_map, Memᴰ}
use Prim.Native.Nat.{ℕ, ◌+◌}
use native.Mathlib.Omega.{arith}
use lib.ListN.{length, take, drop, length-append, length-drop}
use lib.Seq.{take-append_seam, drop-append_seam}
use borrow.Author.Tests.{not-true}
use Rattle.lists.specs.Groups.{groups}
use Rattle.lists.proofs.ListsLaws.{keep_member, member_keep}
use Rattle.lists.proofs.GroupsLaws.{groups_join}
use Rattle.lists.proofs.RisingLaws.{flat_map_same, each-once}
use Rattle.sim.specs.Adn.{is_filled, name_of, record_of}
use Rattle.sim_import.specs.Import.{not_free, occupied}
use Rattle.sim_import.specs.Steps.{Whole}
use Rattle.sim_import.proofs.OccupiedLaws.{groups_whole}
use Rattle.theorems_import.specs.Names.{Filled, NameIn}
use Rattle.theorems_import.specs.ImportedByRules.{IsDump}
use Rattle.theorems_import.proofs.NameTheorems.{filled⇒Filled, Filled⇒filled, untrue, NameIn⇒is_name}

-- ---- the records of a dump

-- joined they are the dump
pub dump_joined : (x : ℕ) (dump : List ℕ) → flat_map (λ adn. adn) (groups (x + 14) dump) ≡ dump
dump_joined x dump =
    flat_map_same (λ adn. adn) (flat_map (λ b. b ∷ [])) (groups (x + 14) dump) (λ adn m. sym (each-once adn))
    ∙ groups_join (x + 14) (omega arith) (λ b. b ∷ []) dump ∙ each-once dump

-- each has x + 14 bytes
pub dump_records : (x : ℕ) (dump : List ℕ) → IsDump x dump → (adn : List ℕ) → Memᴰ adn (groups (x + 14) dump) → length adn ≡ x + 14
unfolding IsDump Whole
dump_records x dump d adn m = groups_whole x dump d.1 adn m

-- those that aren't free
pub occupied_exactly : (x : ℕ) (dump adn : List ℕ) → Memᴰ adn (occupied x dump) ↔ (Memᴰ adn (groups (x + 14) dump) × (Filled adn → ⊥))
unfolding occupied not_free
occupied_exactly x dump adn = (
  λ m. let k = keep_member (λ a. not (is_filled a)) (groups (x + 14) dump) adn m in
      (k.0, λ f. true≢false (sym (Filled⇒filled adn f) ∙ not-true (is_filled adn) k.1)),
  λ p. member_keep (λ a. not (is_filled a)) (groups (x + 14) dump) adn p.0 (ap not (untrue (is_filled adn) (λ e. p.1 (filled⇒Filled adn e)))),
)

-- ---- ours of them

joined_name : (a b c d : List ℕ) → a ++ c ≡ b ++ d → length a ≡ length b → (a ≡ b) × (c ≡ d)
joined_name a b c d e same = (
  sym (take-append_seam a c) ∙ ap₂ (λ (n : ℕ) (l : List ℕ). take n l) same e ∙ take-append_seam b d,
  sym (drop-append_seam a c) ∙ ap₂ (λ (n : ℕ) (l : List ℕ). drop n l) same e ∙ drop-append_seam b d,
)

-- two are equal exactly when names and last 14 bytes are
pub equal_exactly : (x : ℕ) (adn other : List ℕ) → length adn ≡ x + 14 → length other ≡ x + 14
    → (record_of x adn ≡ record_of x other) ↔ ((name_of (take x adn) ≡ name_of (take x other)) × (drop x adn ≡ drop x other))
unfolding record_of
equal_exactly x adn other long same = (
  λ e. joined_name (name_of (take x adn)) (name_of (take x other)) (drop x adn) (drop x other) e (lengths e),
  λ p. ap₂ (λ (name rest : List ℕ). name ++ rest) p.0 p.1,
)
  where
    lengths : name_of (take x adn) ++ drop x adn ≡ name_of (take x other) ++ drop x other → length (name_of (take x adn)) ≡ length (name_of (take x other))
    lengths e =
        let both = simp length-append at (ap length e) in
        let rest = length-drop x adn in
        let other-rest = length-drop x other in
        omega arith

-- with the names that stand in their fields
pub equal_names : (x : ℕ) (adn other name other_name : List ℕ) → length adn ≡ x + 14 → length other ≡ x + 14
    → NameIn (take x adn) name → NameIn (take x other) other_name
    → (record_of x adn ≡ record_of x other) ↔ ((name ≡ other_name) × (drop x adn ≡ drop x other))
equal_names x adn other name other_name long same i j =
    rw (← (NameIn⇒is_name (take x adn) name i).1, ← (NameIn⇒is_name (take x other) other_name j).1) (equal_exactly x adn other long same)
