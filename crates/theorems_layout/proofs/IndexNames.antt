-- The index of a written file: its entries name all blocks but the root in file order, each one level lower.
-- Assumes nothing.
use mathlib.Core.Path.{◌≡◌, refl, sym, ap, ◌∙◌, subst}
use mathlib.Core.Logic.{◌≢◌, ◌⊎◌, inl, inr}
use mathlib.Core.List.Memᴰ
use mathlib.Core.List.{List, [], ◌∷◌, ◌++◌, flat_map, map, map-append, append-nil, append_assoc, Memᴰ}
use Prim.Native.Nat.{ℕ, ◌+◌, ◌<◌}
use native.Mathlib.Omega.{arith}
use lib.ListN.{length, length-append}
use Rattle.lists.specs.Groups.{last_or}
use Rattle.lists.proofs.ListsLaws.{flat_map_append, member_flat_map}
use Rattle.layout.specs.Index.{IndexEntry, IndexBlock, entry_for, level_from, root_of}
use Rattle.layout.proofs.IndexFitLaws.{length_level, level_member}
use Rattle.theorems_layout.proofs.Levels.{Levels, top, higher, level_entries}

-- ---- the last element

module _ {A : Type 0} where
  pub last_or_append : (x : A) (xs ys : List A) → last_or x (xs ++ ys) ≡ last_or (last_or x xs) ys
  unfolding last_or
  last_or_append x [] ys = refl
  last_or_append x (y ∷ xs) ys = last_or_append y xs ys

  pub last_or_member : (x : A) (xs : List A) → Memᴰ (last_or x xs) (x ∷ xs)
  unfolding last_or
  last_or_member x [] = Memᴰ.head refl
  last_or_member x (y ∷ xs) = Memᴰ.tail (last_or_member y xs)

-- ---- the entries

-- the entries of all index blocks, and then one for the root, are the entries over the level below and one for each index block
pub levels_entries : (level at : ℕ) (es : List IndexEntry) (bs : List IndexBlock) → Levels level at es bs → (none : IndexBlock)
    → flat_map (λ b. b.entries) bs ++ (entry_for (last_or none bs) ∷ []) ≡ es ++ map entry_for bs
unfolding flat_map last_or
levels_entries level at es bs (top some) none =
    ap (λ (l : List IndexEntry). l ++ (entry_for (record { level = level; offset = at; entries = es }) ∷ [])) (append-nil es)
levels_entries level at es bs (higher gs {bs = rest} grouped two above) none =
    let here = level_from level at gs in
    let entries : List IndexBlock → List IndexEntry = flat_map (λ b. b.entries) in
    let root = entry_for (last_or none (here ++ rest)) in
    ap (λ (l : List IndexEntry). l ++ (root ∷ [])) (flat_map_append (λ b. b.entries) here rest)
    ∙ append_assoc (entries here) (entries rest) (root ∷ [])
    ∙ ap (λ (l : List IndexEntry). l ++ (entries rest ++ (root ∷ []))) (level_entries level at gs ∙ grouped.joins)
    ∙ ap (λ (b : IndexBlock). es ++ (entries rest ++ (entry_for b ∷ []))) (last_or_append none here rest)
    ∙ ap (λ (l : List IndexEntry). es ++ l) (levels_entries (level + 1) _ (map entry_for here) rest above (last_or none here))
    ∙ ap (λ (l : List IndexEntry). es ++ l) (sym (map-append entry_for here rest))

-- the root, which is the last block: its entry would follow those of all index blocks
pub record Top (es : List IndexEntry) (bs : List IndexBlock) : Type 0 where
  pub root : IndexBlock
  pub member : Memᴰ root bs
  pub last : (none : IndexBlock) → last_or none bs ≡ root
  pub root_is : root_of bs ≡ entry_for root
  pub entries_are : flat_map (λ b. b.entries) bs ++ (entry_for root ∷ []) ≡ es ++ map entry_for bs

levels_length : (level at : ℕ) (es : List IndexEntry) (bs : List IndexBlock) → Levels level at es bs → 0 < length bs
levels_length level at es bs (top some) = omega arith
levels_length level at es bs (higher gs {bs = rest} grouped two above) =
    let sum = length-append (level_from level at gs) rest in let long = length_level level at gs in omega arith

pub levels_top : (level at : ℕ) (es : List IndexEntry) (bs : List IndexBlock) → Levels level at es bs → Top es bs
unfolding root_of last_or
levels_top level at es [] l = absurd (let some = levels_length level at es [] l in omega arith)
levels_top level at es (b ∷ bs) l =
    record { root = last_or b bs; member = last_or_member b bs; last = λ none. refl; root_is = refl; entries_are = levels_entries level at es (b ∷ bs) l b }

-- an index block has an entry
pub levels_some : (level at : ℕ) (es : List IndexEntry) (bs : List IndexBlock) → Levels level at es bs → (b : IndexBlock) → Memᴰ b bs → b.entries ≢ []
levels_some level at es bs (top some) b m = λ none. some (sym (ap (λ (c : IndexBlock). c.entries) (Memᴰ.eq_of_singleton m)) ∙ none)
levels_some level at es bs (higher gs {bs = rest} grouped two above) b m =
    go (Memᴰ.append_cases (level_from level at gs) m) (λ n. levels_some (level + 1) _ (map entry_for (level_from level at gs)) rest above b n)
  where
    go : Memᴰ b (level_from level at gs) ⊎ Memᴰ b rest → (Memᴰ b rest → b.entries ≢ []) → b.entries ≢ []
    go (inl here) up = grouped.each b.entries (level_member level at gs b here).1
    go (inr later) up = up later

-- what an entry of an index block is: one of those over the level below, or the entry for an index block one level lower
abbrev pub NamedBy : (level : ℕ) → List IndexEntry → List IndexBlock → (b : IndexBlock) → IndexEntry → Type 0
NamedBy level es bs b e =
    ((b.level ≡ level) × Memᴰ e es) ⊎ ((c : IndexBlock) × Memᴰ c bs × (entry_for c ≡ e) × (c.level + 1 ≡ b.level))

pub levels_named : (level at : ℕ) (es : List IndexEntry) (bs : List IndexBlock) → Levels level at es bs → (b : IndexBlock) → Memᴰ b bs
    → (e : IndexEntry) → Memᴰ e b.entries → NamedBy level es bs b e
levels_named level at es bs (top some) b m e n =
    let same = Memᴰ.eq_of_singleton m in
    inl (ap (λ (c : IndexBlock). c.level) same, subst (Memᴰ e) (ap (λ (c : IndexBlock). c.entries) same) n)
levels_named level at es bs (higher gs {bs = rest} grouped two above) b m e n =
    go (Memᴰ.append_cases (level_from level at gs) m) (λ i. levels_named (level + 1) _ (map entry_for (level_from level at gs)) rest above b i e n)
  where
    here : List IndexBlock
    here = level_from level at gs

    up : NamedBy (level + 1) (map entry_for here) rest b e → NamedBy level es (here ++ rest) b e
    up (inl p) =
        let c = Memᴰ.of_map entry_for here p.1 in
        let low = (level_member level at gs c.0 c.1).0 in
        inr (c.0, Memᴰ.append_left rest c.1, c.2, ap (λ (k : ℕ). k + 1) low ∙ sym p.0)
    up (inr c) = inr (c.0, Memᴰ.append_right here c.1, c.2, c.3)

    go : Memᴰ b here ⊎ Memᴰ b rest → (Memᴰ b rest → NamedBy (level + 1) (map entry_for here) rest b e) → NamedBy level es (here ++ rest) b e
    go (inl i) later =
        let l = level_member level at gs b i in
        inl (l.0, subst (Memᴰ e) grouped.joins (member_flat_map (λ g. g) gs b.entries e l.1 n))
    go (inr i) later = up (later i)
