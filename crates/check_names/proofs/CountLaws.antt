-- Laws of the pass over the counts (20).
-- Assumes nothing.
use mathlib.Core.Path.{◌≡◌, refl, sym, ap, ◌∙◌}
use mathlib.Core.Bool.{Bool, true, false, cond}
use mathlib.Core.List.{List}
use Prim.Native.Nat.{ℕ, zero, suc, ◌+◌, ◌/◌, ◌%◌, ◌^◌, ◌≤◌, ◌<◌}
use native.Mathlib.Omega.{arith}
use lib.Dec.{eqb}
use lib.ListN.{length, get_or, drop}
use borrow.Author.Tests.{eq-eqb, ne_eqb, leb-false}
use Rattle.outcome.specs.Outcome.{answer, refused}
use Rattle.lists.proofs.RisingLaws.{flat_map_keep}
use Rattle.payload.specs.Payload.{Entry}
use Rattle.block.specs.Block.{Block, is_ordinary}
use Rattle.block.specs.Survey.{ordinary}
use Rattle.block.specs.Laid.{laid_from}
use Rattle.tree.specs.Tree.{namings}
use Rattle.tree.specs.Stages.{each, named_rightly}
use Rattle.tree.proofs.StageLaws.{each_kept, each_broken, each_none}
use Rattle.check_names.specs.Starts.{starts_of, start_at}
use Rattle.check_names.specs.Names.{entries_of, times_named, up_to_two, WordsKept}
use Rattle.check_names.proofs.LaidNamesLaws.{laid_member, reserved_entries}
use Rattle.check_names.proofs.StartsLaws.{AtIndex, length_starts}
use Rattle.check_names.proofs.WordLaws.{kept_block, kept_start_at, kept_count}

-- all entries are those of ordinary blocks
file_entries : (file : List ℕ) (from : ℕ) → entries_of (ordinary (laid_from file from)) ≡ entries_of (laid_from file from)
unfolding entries_of ordinary is_ordinary
file_entries file from =
    flat_map_keep (λ b. b.entries) (λ b. is_ordinary b.frame.level) (laid_from file from)
    (λ b m other. reserved_entries file b (laid_member file from b m) (leb-false b.frame.level 63 other))

-- ---- one count

-- as far as 0 and 1 go a count up to two is the number itself
count_right : (k wanted : ℕ) → wanted ≤ 1 → up_to_two k ≡ wanted → k ≡ wanted
unfolding up_to_two
count_right zero wanted few e = e
count_right (suc zero) wanted few e = e
count_right (suc (suc k)) wanted few e = absurd (omega arith)

count_wrong : (k wanted : ℕ) → (up_to_two k ≡ wanted → ⊥) → wanted ≤ 1 → k ≡ wanted → ⊥
unfolding up_to_two
count_wrong zero wanted other few e = other e
count_wrong (suc zero) wanted other few e = other e
count_wrong (suc (suc k)) wanted other few e = omega arith

at_most_one : (b : Bool) → cond b 0 1 ≤ 1
at_most_one true = omega arith
at_most_one false = omega arith

-- ---- the pass

module _ (work : List ℕ) (root : ℕ) where
  abbrev blocks : (file : List ℕ) (first : ℕ) → List Block
  blocks file first = ordinary (laid_from file first)

  abbrev rule : (file : List ℕ) (first : ℕ) → Block → Bool
  rule file first = named_rightly (laid_from file first) root

  -- the blocks so far are named rightly
  abbrev pub Counting : (i : ℕ) → Type 0
  Counting i = (file : List ℕ) (first : ℕ) → WordsKept file first (entries_of (blocks file first)) work
      → each (rule file first) 20 (blocks file first) ≡ each (rule file first) 20 (drop i (blocks file first))

  pub counting_start : Counting 0
  counting_start file first k = refl

  module _ (i : ℕ) (p : Counting i) where
    pub counting_end : length work ≤ i → (file : List ℕ) (first : ℕ) → WordsKept file first (entries_of (blocks file first)) work
        → answer tt ≡ each (rule file first) 20 (blocks file first)
    counting_end past file first k =
        let many = k.many in
        let long = length_starts (laid_from file first) in
        sym (p file first k ∙ each_none (rule file first) 20 i (blocks file first) (omega arith))

    module _ (inside : i < length work) (file : List ℕ) (first : ℕ) (k : WordsKept file first (entries_of (blocks file first)) work) where
      its_block : AtIndex (blocks file first) i
      its_block = kept_block file first (entries_of (blocks file first)) work k i inside

      abbrev start : ℕ
      start = its_block.block.frame.start

      its_start : start ≡ get_or work i 0 % 2 ^ 30
      unfolding start_at starts_of
      its_start = sym its_block.starts ∙ sym (kept_start_at file first (entries_of (blocks file first)) work k i inside)

      its_count : get_or work i 0 / 2 ^ 30 ≡ up_to_two (namings (laid_from file first) start)
      unfolding namings times_named starts_of entries_of
      its_count =
          kept_count file first (entries_of (blocks file first)) work k i inside
          ∙ ap (λ (at : ℕ). up_to_two (times_named (entries_of (blocks file first)) at)) its_block.starts
          ∙ ap (λ (l : List Entry). up_to_two (times_named l start)) (file_entries file first)

      its_wanted : ◌≡◌ {A = ℕ} (cond (eqb start root) 0 1) (cond (eqb (get_or work i 0 % 2 ^ 30) root) 0 1)
      its_wanted = ap (λ (at : ℕ). cond (eqb at root) 0 1) its_start

      counted_right : get_or work i 0 / 2 ^ 30 ≡ cond (eqb (get_or work i 0 % 2 ^ 30) root) 0 1
          → each (rule file first) 20 (drop i (blocks file first)) ≡ each (rule file first) 20 (drop (i + 1) (blocks file first))
      unfolding named_rightly
      counted_right e =
          each_kept (rule file first) 20 (drop i (blocks file first)) (drop (i + 1) (blocks file first)) its_block.block its_block.rest
          (eq-eqb _ _ (count_right (namings (laid_from file first) start) _ (at_most_one (eqb start root)) (sym its_count ∙ e ∙ sym its_wanted)))

      pub counting_broken : (get_or work i 0 / 2 ^ 30 ≡ cond (eqb (get_or work i 0 % 2 ^ 30) root) 0 1 → ⊥)
          → refused 20 (get_or work i 0 % 2 ^ 30) ≡ each (rule file first) 20 (blocks file first)
      unfolding named_rightly
      counting_broken other =
          ap (refused 20) (sym its_start)
          ∙ sym
          (p file first k
          ∙ each_broken (rule file first) 20 (drop i (blocks file first)) (drop (i + 1) (blocks file first)) its_block.block its_block.rest
          (ne_eqb _ _
          (λ same. count_wrong (namings (laid_from file first) start) _ (λ e. other (its_count ∙ e ∙ its_wanted)) (at_most_one (eqb start root)) same)))

    pub counting_more : i < length work → get_or work i 0 / 2 ^ 30 ≡ cond (eqb (get_or work i 0 % 2 ^ 30) root) 0 1 → Counting (i + 1)
    counting_more inside e file first k = p file first k ∙ counted_right inside file first k e
