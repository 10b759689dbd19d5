-- The four stores make the file, and after every cut the check refuses with 2 or 3, or the file is the finished one.
-- Assumes nothing.
use mathlib.Core.Path.{◌≡◌, refl, sym, ap, ◌∙◌, subst}
use mathlib.Core.Logic.{◌≢◌, ◌⊎◌, inl, inr}
use mathlib.Core.Bool.{Bool, true, false}
use mathlib.Core.List.{List, [], ◌++◌}
use Prim.Native.Nat.{ℕ, zero, suc, ◌+◌, ◌^◌, ◌≤◌, ◌<◌}
use native.Mathlib.Omega.{arith}
use lib.Dec.{leb}
use borrow.Author.Tests.{leb-true, leb-false}
use lib.ListN.{length, take, drop, length-take, length-drop, take-append-drop}
use lib.Seq.{take_all, drop-drop}
use Rattle.byte_string.specs.Order.{begins}
use Rattle.byte_string.proofs.PrefixLaws.{append-begins, begins_refl, begins_short}
use Rattle.part.specs.Part.{part}
use Rattle.part.proofs.PartLaws.{length_part}
use Rattle.outcome.specs.Outcome.{refused}
use Rattle.outcome.proofs.OutcomeLaws.{bind_refused}
use Rattle.header.specs.Header.{magic, unfinished_magic, H, header_of}
use Rattle.header.proofs.RuleLaws.{header_unfinished, header_magic}
use Rattle.checker.specs.Check.{check_with, check_of}
use Rattle.stores.specs.Store.{Store, overwritten, carry_out, carry_out_all, cut}
use Rattle.stores.specs.FileStores.{has_stores, four_stores}
use Rattle.stores.proofs.CarryOutLaws.{overwritten_none, overwritten_behind, overwritten_next, overwritten_end, overwritten_long}
use Rattle.stores.proofs.FileStoreLaws.{has_stores⁻¹, stores_four}
use Rattle.theorems_stores.specs.StoredByRules.{RefusedWith2Or3, after_cut, CrashSafe}

-- ---- what the check refuses

check_refused : (file : List ℕ) (number places : ℕ) → header_of file ≡ refused number 0 → check_of file places ≡ refused number 0
unfolding check_of check_with
check_refused file number places e = bind_refused (header_of file) _ number 0 e

-- the magic is the unfinished one: 2
with_unfinished : (file : List ℕ) → length file ≤ 2 ^ 30 → begins unfinished_magic file ≡ true → RefusedWith2Or3 file
unfolding RefusedWith2Or3
with_unfinished file small u = λ places. inl (check_refused file 2 places (header_unfinished file small u))

-- it is neither: 3
with_neither : (file : List ℕ) → length file ≤ 2 ^ 30 → begins unfinished_magic file ≡ false → begins magic file ≡ false → RefusedWith2Or3 file
unfolding RefusedWith2Or3
with_neither file small u m = λ places. inr (check_refused file 3 places (header_magic file small u m))

-- ---- the magics

-- some bytes of the unfinished magic, and nothing else: all of it, or too few for either
first-cut : (k : ℕ) → RefusedWith2Or3 (overwritten [] 0 (take k unfinished_magic))
unfolding unfinished_magic magic begins
first-cut k = subst RefusedWith2Or3 (sym (overwritten_none (take k unfinished_magic))) (go (leb 8 k) refl)
  where
    go : (b : Bool) → leb 8 k ≡ b → RefusedWith2Or3 (take k unfinished_magic)
    go true e = subst RefusedWith2Or3 (sym (take_all k unfinished_magic (leb-true 8 k e))) (with_unfinished unfinished_magic (omega arith) refl)
    go false e =
        let few : length (take k unfinished_magic) < 8 = omega (arith, length-take k unfinished_magic, leb-false 8 k e) in
        with_neither _ (omega (arith, few)) (begins_short unfinished_magic (take k unfinished_magic) few) (begins_short magic (take k unfinished_magic) few)

-- a finished file's bytes behind the unfinished magic, some of whose bytes the magic has replaced; the two differ in bytes 3 to 5
last_cut : (k : ℕ) (rest : List ℕ) → 8 + length rest ≤ 2 ^ 30
    → let state = overwritten (unfinished_magic ++ rest) 0 (take k magic) in
    RefusedWith2Or3 state ⊎ (state ≡ magic ++ rest)
unfolding overwritten unfinished_magic magic begins
last_cut zero rest small = inl (with_unfinished _ (omega arith) refl)
last_cut (suc zero) rest small = inl (with_unfinished _ (omega arith) refl)
last_cut (suc (suc zero)) rest small = inl (with_unfinished _ (omega arith) refl)
last_cut (suc (suc (suc zero))) rest small = inl (with_unfinished _ (omega arith) refl)
last_cut (suc (suc (suc (suc zero)))) rest small = inl (with_neither _ (omega arith) refl refl)
last_cut (suc (suc (suc (suc (suc zero))))) rest small = inl (with_neither _ (omega arith) refl refl)
last_cut (suc (suc (suc (suc (suc (suc zero)))))) rest small = inr refl
last_cut (suc (suc (suc (suc (suc (suc (suc zero))))))) rest small = inr refl
last_cut (suc (suc (suc (suc (suc (suc (suc (suc k)))))))) rest small =
    inr (ap (overwritten (unfinished_magic ++ rest) 0) (take_all (suc (suc (suc (suc (suc (suc (suc (suc k)))))))) magic (omega arith)))

-- ---- the stores one after the other

module _ (file : List ℕ) (has : has_stores file ≡ true) where
  -- the header behind the magic, and all blocks
  abbrev header : List ℕ
  header = part file 8 (16 + H file)

  abbrev blocks : List ℕ
  blocks = drop (24 + H file) file

  whole : 24 + H file ≤ length file
  whole = (has_stores⁻¹ file has).1

  length_of_header : length header ≡ 16 + H file
  length_of_header = length_part file 8 (16 + H file) (omega (arith, whole))

  -- the file is the magic, the header behind it, and the blocks
  apart : magic ++ (header ++ blocks) ≡ file
  unfolding part magic
  apart =
      let sum : 24 + H file ≡ 8 + (16 + H file) = omega arith in
      ap (λ (n : ℕ). magic ++ (header ++ drop n file)) sum
      ∙ ap (λ (r : List ℕ). magic ++ (header ++ r)) (sym (drop-drop (16 + H file) 8 file))
      ∙ ap (λ (r : List ℕ). magic ++ r) (take-append-drop (16 + H file) (drop 8 file))
      ∙ append-begins magic file (has_stores⁻¹ file has).0

  -- with the blocks behind the unfinished magic
  abbrev blocks_stand : List ℕ
  blocks_stand = overwritten unfinished_magic (24 + H file) blocks

  blocks_cut_opens : (bytes : List ℕ) → begins unfinished_magic (overwritten unfinished_magic (24 + H file) bytes) ≡ true
  unfolding unfinished_magic
  blocks_cut_opens bytes = overwritten_behind unfinished_magic unfinished_magic (24 + H file) bytes (begins_refl unfinished_magic) (omega arith)

  blocks_cut_long : (bytes : List ℕ) → length bytes ≤ length blocks → length (overwritten unfinished_magic (24 + H file) bytes) ≤ length file
  unfolding unfinished_magic
  blocks_cut_long bytes h =
      let w = whole in
      let e = length-drop (24 + H file) file in
      overwritten_long unfinished_magic (24 + H file) bytes (length file) (omega arith) (omega arith)

  -- with k bytes of the header
  header_cut_opens : (bytes : List ℕ) → begins unfinished_magic (overwritten blocks_stand 8 bytes) ≡ true
  unfolding unfinished_magic
  header_cut_opens bytes = overwritten_behind unfinished_magic blocks_stand 8 bytes (blocks_cut_opens blocks) (omega arith)

  header_cut_long : (bytes : List ℕ) → length bytes ≤ length header → length (overwritten blocks_stand 8 bytes) ≤ length file
  header_cut_long bytes h =
      let w = whole in
      let e = length_of_header in
      overwritten_long blocks_stand 8 bytes (length file) (blocks_cut_long blocks (omega arith)) (omega arith)

  -- with the whole header
  header_stands : overwritten blocks_stand 8 header ≡ unfinished_magic ++ (header ++ blocks)
  unfolding unfinished_magic
  header_stands =
      let sum : 8 + length header ≡ 24 + H file = omega (arith, length_of_header) in
      overwritten_next unfinished_magic blocks_stand header (blocks_cut_opens blocks) some
      ∙ ap (λ (n : ℕ). unfinished_magic ++ (header ++ drop n blocks_stand)) sum
      ∙ ap (λ (r : List ℕ). unfinished_magic ++ (header ++ r)) (overwritten_end unfinished_magic (24 + H file) blocks (omega arith))
    where
      some : header ≢ []
      some e = absurd (omega (arith, length_of_header, ap length e))

  -- with the magic
  magic_stands : overwritten (unfinished_magic ++ (header ++ blocks)) 0 magic ≡ file
  unfolding overwritten unfinished_magic magic
  magic_stands = apart

  -- the first store is the unfinished magic
  from_first : (P : List ℕ → Type 0) → P unfinished_magic → P (overwritten [] 0 unfinished_magic)
  from_first P p = subst P (sym (overwritten_none unfinished_magic)) p

  all_stand : carry_out_all [] (four_stores file) ≡ file
  unfolding carry_out_all carry_out four_stores
  all_stand =
      from_first (λ s. overwritten (overwritten (overwritten s (24 + H file) blocks) 8 header) 0 magic ≡ file)
      (ap (λ (s : List ℕ). overwritten s 0 magic) header_stands ∙ magic_stands)

  module _ (small : length file ≤ 2 ^ 30) where
    blocks_refused : (k : ℕ) → RefusedWith2Or3 (overwritten unfinished_magic (24 + H file) (take k blocks))
    blocks_refused k =
        let few : length (take k blocks) ≤ length blocks = omega (arith, length-take k blocks) in
        with_unfinished _ (omega (arith, blocks_cut_long (take k blocks) few)) (blocks_cut_opens (take k blocks))

    header_refused : (k : ℕ) → RefusedWith2Or3 (overwritten blocks_stand 8 (take k header))
    header_refused k =
        let few : length (take k header) ≤ length header = omega (arith, length-take k header) in
        with_unfinished _ (omega (arith, header_cut_long (take k header) few)) (header_cut_opens (take k header))

    -- behind the magic no more stands than behind that of the file
    rest_long : 8 + length (header ++ blocks) ≤ 2 ^ 30
    unfolding magic
    rest_long = omega (arith, ap length apart)

    last_or_file : (k : ℕ) → let state = overwritten (overwritten blocks_stand 8 header) 0 (take k magic) in RefusedWith2Or3 state ⊎ (state ≡ file)
    last_or_file k =
        let cut-there : List ℕ = overwritten (unfinished_magic ++ (header ++ blocks)) 0 (take k magic) in
        subst (λ (s : List ℕ). RefusedWith2Or3 (overwritten s 0 (take k magic)) ⊎ (overwritten s 0 (take k magic) ≡ file)) (sym header_stands)
        (subst (λ (f : List ℕ). RefusedWith2Or3 cut-there ⊎ (cut-there ≡ f)) apart (last_cut k (header ++ blocks) rest_long))

    cuts : (n k : ℕ) → let state = carry_out_all [] (cut n k (four_stores file)) in RefusedWith2Or3 state ⊎ (state ≡ file)
    unfolding carry_out_all carry_out cut four_stores
    cuts zero k = inl (first-cut k)
    cuts (suc zero) k = inl (from_first (λ s. RefusedWith2Or3 (overwritten s (24 + H file) (take k blocks))) (blocks_refused k))
    cuts (suc (suc zero)) k =
        inl (from_first (λ s. RefusedWith2Or3 (overwritten (overwritten s (24 + H file) blocks) 8 (take k header))) (header_refused k))
    cuts (suc (suc (suc zero))) k =
        from_first
        (λ s.
        let state = overwritten (overwritten (overwritten s (24 + H file) blocks) 8 header) 0 (take k magic) in
        RefusedWith2Or3 state ⊎ (state ≡ file))
        (last_or_file k)
    cuts (suc (suc (suc (suc n)))) k = inr all_stand

    pub crash_safe : CrashSafe file
    unfolding after_cut four_stores
    crash_safe =
        let four = stores_four file has in
        record {
          four = ap length four;
          all = ap (carry_out_all []) four ∙ all_stand;
          cuts = λ n k. subst (λ (ss : List Store). let state = carry_out_all [] (cut n k ss) in RefusedWith2Or3 state ⊎ (state ≡ file)) (sym four) (cuts n k);
        }
