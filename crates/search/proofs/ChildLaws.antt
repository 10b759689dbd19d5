-- Laws of the block that an entry names: reading an entry and the key of the next, and the opening test on parts of the file.
-- Assumes nothing.
use Rattle.std.specs.Prelude.{Some}
use Rattle.std.specs.Prelude.{Option as Given}
use Rattle.std.proofs.Math.Option.{Option, some}
use Rattle.outcome.specs.Fault.{number}
use Rattle.items.specs.declared.Step.{Step}
use mathlib.Core.Path.{◌≡◌, refl, sym, ap, ap₂, ◌∙◌, subst}
use mathlib.Core.Bool.{Bool}
use mathlib.Core.List.{List, [], ◌∷◌}
use Prim.Native.Nat.{ℕ, ◌+◌, ◌-◌, ◌≤◌, ◌<◌}
use native.Mathlib.Omega.{arith}
use lib.ListN.{length, take}
use lib.Seq.{length-take-le}
use Rattle.outcome.specs.Outcome.{Outcome, answer, refused}
use Rattle.outcome.proofs.OutcomeLaws.{answer_injective, refused_not_answer}
use Rattle.items.specs.Items.{items_from}
use Rattle.items.proofs.ItemsLaws.{Row, row_end, row_more, items⇒row, row⇒items}
use Rattle.part.specs.declared.Part.{Part}
use Rattle.part.specs.Part.{part}
use Rattle.part.proofs.PartLaws.{part-take}
use Rattle.framing.specs.declared.Frame.{Frame}
use Rattle.payload.specs.Payload.{Text, Entry, text_at, entry_at, entries_at}
use Rattle.payload.specs.Answers.{text_in}
use Rattle.payload.proofs.PayloadLaws.{text⇒Placed, entry⇒Entered, entry⁻¹}
use Rattle.payload.proofs.ReadLaws.{payload⁻¹, entry_forward}
use Rattle.block.specs.Block.{Block, block_in}
use Rattle.block.proofs.BlockLaws.{inside_index}
use Rattle.query.specs.Query.{Query}
use Rattle.query.specs.Opening.{may_match}
use Rattle.search.specs.declared.opening.Named.{Named}
use Rattle.search.specs.declared.child.Child.{Child}
use Rattle.search.specs.Search.{next_key, child_named}
use Rattle.search.specs.Steps.{PartWithin, BoundWithin, bound_of, admitted, entries_from, ChildWithin, IsChild}

-- ---- the entries of an index block

module _ (file : List ℕ) (f : Frame) where
  abbrev entry_in : ℕ → Outcome (Step Entry)
  entry_in = entry_at f.start (take f.end file)

  -- one after another
  abbrev Entries : ℕ → List Entry → Type 0
  Entries at es = Row entry_in f.end at es

  in_row : (at : ℕ) (es : List Entry) → entries_from file f at ≡ answer es → Entries at es
  unfolding entries_from
  in_row at es e = items⇒row entry_in f.end (entry_forward f.start (take f.end file)) (f.end - at) at es (omega arith) e

  of_row : (at : ℕ) (es : List Entry) → Entries at es → entries_from file f at ≡ answer es
  unfolding entries_from
  of_row at es r = row⇒items entry_in f.end (entry_forward f.start (take f.end file)) at es r (f.end - at) (omega arith)

  -- none can be read: none is left
  pub entries_none : (at number place : ℕ) → entry_in at ≡ refused number place → (es : List Entry) → entries_from file f at ≡ answer es → es ≡ []
  entries_none at number place unread es e = go es (in_row at es e)
    where
      go : (l : List Entry) → Entries at l → l ≡ []
      go l (row_end h) = refl
      go l (row_more x more h read rest) = absurd (refused_not_answer x number place (sym unread ∙ read))

  -- one was read: it is the first of those left
  pub entries_next : (at : ℕ) (x : Step Entry) → at < f.end → entry_in at ≡ answer x → (es : List Entry) → entries_from file f at ≡ answer es
      → (after : List Entry) × (es ≡ x.item ∷ after) × (entries_from file f x.next ≡ answer after)
  entries_next at x before read es e = go es (in_row at es e)
    where
      go : (l : List Entry) → Entries at l → (after : List Entry) × (l ≡ x.item ∷ after) × (entries_from file f x.next ≡ answer after)
      go l (row_end past) = absurd (omega arith)
      go l (row_more y more h e r) =
          let same = answer_injective y x (sym e ∙ read) in (
            more,
            ap (λ (z : Step Entry). z.item ∷ more) same,
            subst (λ (z : Step Entry). entries_from file f z.next ≡ answer more) same (of_row y.next more r),
          )

  -- those of a block that passed its tests
  module _ (b : Block) (e : block_in file f ≡ answer b) (index : f.level ≡ 0 → ⊥) (ordinary : f.level ≤ 63) where
    pub block_frame : b.frame ≡ f
    block_frame = (inside_index file f b e index ordinary).1

    pub block_entries_lem : f.end ≤ length file → entries_from file f (f.body + 1) ≡ answer b.entries
    unfolding entries_at entries_from
    block_entries_lem inside =
        let s = take f.end file in
        subst (λ (n : ℕ). items_from entry_in n (n - (f.body + 1)) (f.body + 1) ≡ answer b.entries) (length-take-le f.end file inside)
        (payload⁻¹ entry_in (λ x. x.key) 21 f.start (length s) (f.body + 1) b.entries (inside_index file f b e index ordinary).0).items

  -- ---- the key of the next entry

  abbrev key_in : ℕ → Outcome (Step Text)
  key_in = text_at f.start (take f.end file)

  -- the byte string of a part
  abbrev text_of : Part → Step Text
  text_of p = record { item = text_in (take f.end file) p.offset p.length; next = p.offset + p.length }

  module _ (next : ℕ) (above : Given Part) where
    -- no key can be read: no entry is left
    pub next_refused : (number place : ℕ) → key_in next ≡ refused number place
        → (es : List Entry) → entries_from file f next ≡ answer es → bound_of file above ≡ next_key es (bound_of file above)
    unfolding next_key
    next_refused number place unread es e = go es (in_row next es e)
      where
        go : (l : List Entry) → Entries next l → bound_of file above ≡ next_key l (bound_of file above)
        go l (row_end past) = refl
        go l (row_more x more before read rest) =
            let r = entry⁻¹ f.start (take f.end file) next x read in
            absurd (refused_not_answer r.key number place (sym unread ∙ r.key_read))

    -- one was read: it is that of the next entry
    module _ (key : Part) (inside : f.end ≤ length file) (read : key_in next ≡ answer (text_of key)) where
      key_ends : (next < key.offset) × (key.offset + key.length ≤ f.end)
      unfolding text_in
      key_ends =
          let placed = text⇒Placed f.start (take f.end file) next _ read in
          let within = placed.within in
          let long = length-take-le f.end file inside in
          (placed.forward, omega arith)

      pub next_within : PartWithin file key
      unfolding PartWithin
      next_within = let ends = key_ends.1 in omega arith

      pub next_found : (es : List Entry) → entries_from file f next ≡ answer es
          → bound_of file (Some key) ≡ next_key es (bound_of file above)
      unfolding next_key bound_of text_in
      next_found es e = go es (in_row next es e)
        where
          go : (l : List Entry) → Entries next l → bound_of file (Some key) ≡ next_key l (bound_of file above)
          go l (row_end past) = let bounds = key_ends in let forward = bounds.0 in let ends = bounds.1 in absurd (omega arith)
          go l (row_more x more h entered rest) =
              let r = entry⁻¹ f.start (take f.end file) next x entered in
              ap some
              (sym (part-take file f.end key.offset key.length key_ends.1)
              ∙ ap (λ (k : Step Text). k.item.bytes) (answer_injective (text_of key) r.key (sym read ∙ r.key_read))
              ∙ ap (λ (y : Step Entry). y.item.key.bytes) r.entry_is)

  -- ---- an entry that was read

  -- the entry with this key, offset and size
  abbrev entry_of : Part → (offset size : ℕ) → Entry
  entry_of key offset size = record { key = text_in (take f.end file) key.offset key.length; offset = offset; size = size }

  module _ (at : ℕ) (above : Given Part) (inside : f.end ≤ length file) (key : Part) (offset size next : ℕ)
      (read : entry_in at ≡ answer (record { item = entry_of key offset size; next = next }))
      (keyed : key.offset + key.length ≤ length (take f.end file)) (upper : Given Part) (named : Named) where
    abbrev child : Child
    child = record { key = key; upper = upper; named = named }

    module _ (names : named ≡ child_named f.start (f.level - 1) offset size) where
      pub child_within : BoundWithin file upper → ChildWithin file f at child next
      unfolding PartWithin child_named
      child_within bounded =
          let entered = entry⇒Entered f.start (take f.end file) at _ read in
          let long = length-take-le f.end file inside in
          let within = entered.within in
          record {
            named = names ∙ ap (λ (n : Named). child_named f.start (f.level - 1) n.offset n.size) (sym names);
            key = omega arith;
            upper = bounded;
            forward = entered.forward;
            before = omega arith;
          }

      pub is_child : ((after : List Entry) → entries_from file f next ≡ answer after → bound_of file upper ≡ next_key after (bound_of file above))
          → (es : List Entry) → entries_from file f at ≡ answer es → IsChild file f above child next es
      unfolding text_in child_named
      is_child bounds es e =
          let entered = entry⇒Entered f.start (take f.end file) at _ read in
          let long = length-take-le f.end file inside in
          let forward = entered.forward in
          let within = entered.within in
          let some = entries_next at _ (omega arith) read es e in
          record {
            entry = entry_of key offset size;
            after = some.0;
            split = some.1;
            rest = some.2;
            lower = sym (part-take file f.end key.offset key.length (omega arith));
            upper = bounds some.0 some.2;
            offset = ap (λ (n : Named). n.offset) names;
            size = ap (λ (n : Named). n.size) names;
          }

-- ---- the opening test

-- on the bounds that code lends
pub admits_lent : (file : List ℕ) (q : Query) (c : Child) (upper : Option (List ℕ)) → upper ≡ bound_of file c.upper
    → (lower : List ℕ) → lower ≡ part file c.key.offset c.key.length
    → (r : Bool) → r ≡ may_match lower upper q → r ≡ admitted file q c
unfolding admitted
admits_lent file q c upper above lower below r e = e ∙ ap₂ (λ (l : List ℕ) (u : Option (List ℕ)). may_match l u q) below above
