-- Laws of putting the entries of an index block.
-- Assumes nothing.
use mathlib.Core.Path.{◌≡◌, refl, sym, ap, ◌∙◌, subst}
use mathlib.Core.List.{List, [], ◌∷◌, ◌++◌, flat_map, append_assoc, append-nil}
use Rattle.std.specs.Prelude.{Ok}
use Prim.Native.Nat.{ℕ, suc, ◌+◌, ◌-◌, ◌*◌, ◌^◌, ◌≤◌, ◌<◌}
use native.Mathlib.Omega.{arith}
use lib.ListN.{length, take, drop, length-append, length-take, drop_of_length-le}
use lib.Seq.{append_snoc, take_all, take-nil, take-append_seam, drop-append_seam}
use Rattle.lists.proofs.ListsLaws.{flat_map_append}
use Rattle.part.specs.Part.{part}
use Rattle.part.specs.declared.Part.{Part}
use Rattle.part.proofs.PartLaws.{length_part, part-take, part_front}
use Rattle.outcome.specs.Outcome.{refused}
use Rattle.uleb128.specs.Encoding.{encoding}
use Rattle.uleb128.proofs.EncodingLaws.{encoding-length}
use Rattle.output_bytes.specs.OutputBytes.{stored, stored_length, copied}
use Rattle.output_bytes.proofs.OutputBytesLaws.{length-stored, take-stored, stored-after, stored_whole}
use Rattle.output_bytes.proofs.CopyLaws.{copied_some}
use Rattle.layout.specs.Blocks.{text_bytes}
use Rattle.layout.specs.Index.{IndexEntry, entry_bytes}
use Rattle.layout.proofs.ReadBackLaws.{length_text, length_entry}
use Rattle.index_encoder.specs.declared.child.Position.{Position}
use Rattle.index_encoder.specs.declared.child.Child.{Child}
use Rattle.index_encoder.specs.Children.{bytes_of, Within, entry_in, child_at, children_from, child_said, ChildWithin}
use Rattle.index_encoder.specs.Level.{Measured, entries_for}
use Rattle.index_encoder.proofs.StoredLaws.{flat_map_snoc, stored_nil}
use Rattle.index_encoder.proofs.ChildLaws.{children_refused, children_more}

-- ---- the length of an entry

pub number_few : (n : ℕ) → n ≤ 2 ^ 30 → length (encoding n) ≤ 5
number_few n h = encoding-length 4 n (omega arith)

module _ (s : List ℕ) (key : Part) (offset size : ℕ) (within : key.offset + key.length ≤ length s) where
  pub length_entry_in :
      length (entry_bytes (entry_in s key offset size)) ≡ length (encoding key.length) + key.length + length (encoding offset) + length (encoding size)
  unfolding entry_in bytes_of
  length_entry_in =
      let k = part s key.offset key.length in
      length_entry (record { key = k; offset = offset; size = size })
      ∙ ap (λ n. n + length (encoding offset) + length (encoding size))
      (length_text k ∙ ap (λ n. length (encoding n) + n) (length_part s key.offset key.length within))

  pub entry_few : key.length < size → offset ≤ 2 ^ 30 → size ≤ 2 ^ 30 → length (entry_bytes (entry_in s key offset size)) ≤ 16 * size
  entry_few short low small =
      let a = number_few key.length (omega arith) in
      let b = number_few offset low in
      let c = number_few size small in
      let long = length_entry_in in
      omega arith

-- ---- measuring a group of blocks

module _ (s : List ℕ) (from : Position) (most : ℕ) where
  -- the blocks up to `at` are seen, and so many bytes counted
  pub record Measuring (at : Position) (count total : ℕ) : Type 0 where
    pub seen : List IndexEntry
    pub split : children_from s from ≡ seen ++ children_from s at
    pub counted : count ≡ length seen
    pub few : count ≤ most
    pub sized : total ≡ length (flat_map entry_bytes seen)
    pub onward : from.offset ≤ at.offset
    pub bounded : total ≤ 16 * (at.offset - from.offset)
    pub within : Within s at.before

  pub measuring_none : Within s from.before → Measuring from 0 0
  unfolding flat_map
  measuring_none h =
      record { seen = []; split = refl; counted = refl; few = omega arith; sized = refl; onward = omega arith; bounded = omega arith; within = h }

  module _ (at : Position) (count total : ℕ) (m : Measuring at count total) where
    measured : (rest : List IndexEntry) → children_from s at ≡ rest → take most (m.seen ++ rest) ≡ m.seen → drop most (m.seen ++ rest) ≡ rest
        → Measured s from most (record { count = count; next = at; length = total })
    measured rest e t d =
        let whole : children_from s from ≡ m.seen ++ rest = m.split ∙ ap (λ l. m.seen ++ l) e in
        let first : take most (children_from s from) ≡ m.seen = ap (take most) whole ∙ t in
        record {
          counted = m.counted ∙ ap length (sym first);
          sized = m.sized ∙ ap (λ l. length (flat_map entry_bytes l)) (sym first);
          onward = e ∙ sym (ap (drop most) whole ∙ d);
          within = m.within;
        }

    -- no block is left
    pub measured_all : (number place : ℕ) → child_at s at ≡ refused number place → Measured s from most (record { count = count; next = at; length = total })
    measured_all number place e =
        let enough : length (m.seen ++ []) ≤ most = rw (append-nil m.seen) (let a = m.counted in let b = m.few in omega arith) in
        measured [] (children_refused s at number place e) (take_all most (m.seen ++ []) enough ∙ append-nil m.seen)
        (drop_of_length-le (m.seen ++ []) enough)

    -- there are enough
    pub measured_full : most ≤ count → Measured s from most (record { count = count; next = at; length = total })
    measured_full h =
        let all : most ≡ length m.seen = (let a = m.counted in let b = m.few in omega arith) in
        measured (children_from s at) refl
        (ap (λ n. take n (m.seen ++ children_from s at)) all ∙ take-append_seam m.seen (children_from s at))
        (ap (λ n. drop n (m.seen ++ children_from s at)) all ∙ drop-append_seam m.seen (children_from s at))

    -- one more
    module _ (c : Child) (told : child_said s at (Ok c) ≡ child_at s at) (within : ChildWithin s at (Ok c)) (short : length s ≤ 2 ^ 30) where
      pub measuring_bound : length (entry_bytes (entry_in s c.key at.offset c.size)) ≤ 16 * c.size
      unfolding ChildWithin
      measuring_bound =
          let a = within.0 in
          let b = within.1 in
          let d = within.3 in
          entry_few s c.key at.offset c.size (omega arith) (omega arith) (omega arith) (omega arith)

      pub measuring_more : count < most
          → Measuring (record { offset = at.offset + c.size; before = c.last }) (count + 1) (total + length (entry_bytes (entry_in s c.key at.offset c.size)))
      unfolding child_said entry_in ChildWithin Within
      measuring_more h =
          let it = entry_in s c.key at.offset c.size in
          let next : Position = record { offset = at.offset + c.size; before = c.last } in
          record {
            seen = m.seen ++ (it ∷ []);
            split =
                m.split
                ∙ ap (λ l. m.seen ++ l) (children_more s at _ (sym told) next refl refl)
                ∙ sym (append_snoc m.seen it (children_from s next));
            counted = rw (length-append m.seen (it ∷ [])) (let a = m.counted in omega arith);
            few = omega arith;
            sized = rw (flat_map_snoc entry_bytes m.seen it)
                (rw (length-append (flat_map entry_bytes m.seen) (entry_bytes it))
                (let a = m.sized in omega arith));
            onward = (let a = m.onward in omega arith);
            bounded = (let a = m.onward in let b = m.bounded in let d = measuring_bound in omega arith);
            within = (let a = within.2 in let b = within.3 in omega arith);
          }

-- ---- putting an entry

module _ (o : List ℕ) (place : ℕ) (key : Part) (offset size : ℕ) (before : key.offset + key.length ≤ place)
    (enough : place + length (entry_bytes (entry_in o key offset size)) ≤ length o) where
  -- the parts of the entry fit one after the other
  entry_sum : place + length (encoding key.length) + key.length + length (encoding offset) + length (encoding size) ≤ length o
  entry_sum = let long = length_entry_in o key offset size (omega arith) in omega arith

  abbrev text : List ℕ
  text = encoding key.length ++ part o key.offset key.length

  text_long : length text ≡ length (encoding key.length) + key.length
  text_long =
      let sum = entry_sum in
      length-append (encoding key.length) (part o key.offset key.length)
      ∙ ap (λ (n : ℕ). length (encoding key.length) + n) (length_part o key.offset key.length (omega arith))

  module _ {a : ℕ} (ea : a ≡ stored_length o place (encoding key.length)) where
    -- the number of the key's length
    pub entry_number : (a ≡ length (encoding key.length)) × (place + a + key.length ≤ length o)
    entry_number =
        let sum = entry_sum in
        let whole = stored_whole o place (encoding key.length) (omega arith) ea in
        (whole, omega arith)

    module _ {o1 o2 : List ℕ} (e1 : o1 ≡ stored o place (encoding key.length)) (e2 : o2 ≡ copied o1 key.offset key.length (place + a)) where
      -- the key
      entry_key : o2 ≡ stored o place text
      entry_key =
          let sum = entry_sum in
          let number = entry_number.0 in
          let long : length o1 ≡ length o = ap length e1 ∙ length-stored o place (encoding key.length) in
          let same : part o1 key.offset key.length ≡ part o key.offset key.length =
          part_front o1 o place (ap (take place) e1 ∙ take-stored o place (encoding key.length) place (omega arith)) key.offset key.length before in
          let one = length_part o key.offset key.length (omega arith) in
          stored-after o place (encoding key.length) (part o key.offset key.length) (omega arith) e1 (ap (λ n. place + n) number)
          (e2 ∙ copied_some o1 key.offset key.length (place + a) (omega arith) (omega arith) ∙ ap (stored o1 (place + a)) same)

      module _ {b : ℕ} (eb : b ≡ stored_length o2 (place + a + key.length) (encoding offset)) where
        -- the offset
        pub entry_offset : (b ≡ length (encoding offset)) × (place + a + key.length + b ≤ length o)
        entry_offset =
            let sum = entry_sum in
            let number = entry_number.0 in
            let long : length o2 ≡ length o = ap length entry_key ∙ length-stored o place text in
            let whole = stored_whole o2 (place + a + key.length) (encoding offset) (omega arith) eb in
            (whole, omega arith)

        module _ {o3 o4 : List ℕ} {c : ℕ} (e3 : o3 ≡ stored o2 (place + a + key.length) (encoding offset))
            (ec : c ≡ stored_length o3 (place + a + key.length + b) (encoding size)) (e4 : o4 ≡ stored o3 (place + a + key.length + b) (encoding size)) where
          -- the size, and the whole
          pub entry_stored : (place + a + key.length + b + c ≡ place + length (entry_bytes (entry_in o key offset size)))
              × (o4 ≡ stored o place (entry_bytes (entry_in o key offset size)))
              × (place + a + key.length + b + c ≤ length o)
          unfolding entry_bytes text_bytes entry_in bytes_of
          entry_stored =
              let sum = entry_sum in
              let number = entry_number.0 in
              let second = entry_offset.0 in
              let long = text_long in
              let all = length_entry_in o key offset size (omega arith) in
              let third : o3 ≡ stored o place (text ++ encoding offset) =
              stored-after o place text (encoding offset) (omega arith) entry_key (omega arith) e3 in
              let longer = length-append text (encoding offset) in
              let same : length o3 ≡ length o = ap length third ∙ length-stored o place (text ++ encoding offset) in
              let last = stored_whole o3 (place + a + key.length + b) (encoding size) (omega arith) ec in
              let fourth : o4 ≡ stored o place (text ++ encoding offset ++ encoding size) =
              stored-after o place (text ++ encoding offset) (encoding size) (omega arith) third (omega arith) e4 in
              let exact = length_part o key.offset key.length (omega arith) in (
                omega arith,
                fourth ∙ ap (stored o place) (append_assoc text (encoding offset) (encoding size)
                    ∙ ap (λ (n : ℕ). (encoding n ++ part o key.offset key.length) ++ (encoding offset ++ encoding size)) (sym exact)),
                omega arith,
              )

-- ---- putting the entries of a block

module _ (old : List ℕ) (to : ℕ) (from : Position) (count place : ℕ) where
  -- the entries for the blocks up to `at` are put
  pub record Entering (output : List ℕ) (at : Position) (end left : ℕ) : Type 0 where
    pub seen : List IndexEntry
    pub split : entries_for old to from count ≡ seen ++ take left (children_from (take to old) at)
    pub ends : end ≡ place + length (flat_map entry_bytes seen)
    pub holds : output ≡ stored old place (flat_map entry_bytes seen)
    pub within : Within (take to old) at.before

  pub entering_none : Within (take to old) from.before → Entering old from place count
  unfolding entries_for flat_map
  entering_none h = record { seen = []; split = refl; ends = omega arith; holds = sym (stored_nil old place); within = h }

  module _ (output : List ℕ) (at : Position) (end left : ℕ) (e : Entering output at end left) where
    -- the run of blocks is as it was
    pub entering_same : to ≤ place → take to output ≡ take to old
    entering_same h = ap (take to) e.holds ∙ take-stored old place (flat_map entry_bytes e.seen) to h

    pub entering_long : length output ≡ length old
    entering_long = ap length e.holds ∙ length-stored old place (flat_map entry_bytes e.seen)

    abbrev AllPut : Type 0
    AllPut =
        (end ≡ place + length (flat_map entry_bytes (entries_for old to from count)))
        × (output ≡ stored old place (flat_map entry_bytes (entries_for old to from count)))

    finished : take left (children_from (take to old) at) ≡ []
        → AllPut
    finished none =
        let all : e.seen ≡ entries_for old to from count = sym (e.split ∙ ap (λ l. e.seen ++ l) none ∙ append-nil e.seen) in
        (e.ends ∙ ap (λ l. place + length (flat_map entry_bytes l)) all, e.holds ∙ ap (λ l. stored old place (flat_map entry_bytes l)) all)

    -- all are put
    pub entering_all : left ≤ 0
        → AllPut
    entering_all h = let none : left ≡ 0 = omega arith in finished (ap (λ n. take n (children_from (take to old) at)) none)

    module _ (h : to ≤ place) where
      pub entering_within : Within (take to output) at.before
      entering_within = subst (λ l. Within l at.before) (sym (entering_same h)) e.within

      -- no block is left
      pub entering_refused : (number p : ℕ) → child_at (take to output) at ≡ refused number p
          → AllPut
      entering_refused number p r =
          let none = children_refused (take to old) at number p (ap (λ l. child_at l at) (sym (entering_same h)) ∙ r) in
          finished (ap (take left) none ∙ take-nil left)

      module _ (c : Child) (told : child_said (take to output) at (Ok c) ≡ child_at (take to output) at)
          (within : ChildWithin (take to output) at (Ok c)) (less : ℕ) (some : left ≡ less + 1)
          (enough : place + length (flat_map entry_bytes (entries_for old to from count)) ≤ length old) where
        abbrev it : IndexEntry
        it = entry_in output c.key at.offset c.size

        abbrev onward : Position
        onward = record { offset = at.offset + c.size; before = c.last }

        short : length (take to output) ≤ to
        short = let long = length-take to output in omega arith

        abbrev rest : List IndexEntry
        rest = take less (children_from (take to old) onward)

        next : take left (children_from (take to old) at) ≡ it ∷ rest
        unfolding child_said ChildWithin entry_in bytes_of
        next =
            let a = within.1 in
            let b = within.3 in
            let e3 = short in
            let one : children_from (take to old) at ≡ it ∷ children_from (take to old) onward =
            ap (λ l. children_from l at) (sym (entering_same h))
            ∙ children_more (take to output) at _ (sym told) onward refl refl
            ∙ ap (λ k. record { key = k; offset = at.offset; size = c.size } ∷ children_from (take to output) onward)
            (part-take output to c.key.offset c.key.length (omega arith))
            ∙ ap (λ l. it ∷ children_from l onward) (entering_same h) in
            ap (take left) one ∙ ap (λ n. take n (it ∷ children_from (take to old) onward)) left_is
          where
            left_is : left ≡ suc less
            left_is = omega arith

        split : entries_for old to from count ≡ e.seen ++ (it ∷ []) ++ rest
        split = e.split ∙ ap (λ l. e.seen ++ l) next ∙ sym (append_snoc e.seen it rest)

        -- the next one fits
        pub entering_fits : (c.key.offset + c.key.length ≤ end) × (end + length (entry_bytes (entry_in output c.key at.offset c.size)) ≤ length output)
            × (at.offset + c.size ≤ to)
        unfolding ChildWithin
        entering_fits =
            let a = within.1 in
            let b = within.3 in
            let e3 = short in
            let ends = e.ends in
            let long = entering_long in
            let all : length (flat_map entry_bytes (entries_for old to from count))
            ≡ length (flat_map entry_bytes e.seen) + length (entry_bytes it) + length (flat_map entry_bytes rest) =
            ap (λ l. length (flat_map entry_bytes l)) split
            ∙ ap length (flat_map_append entry_bytes (e.seen ++ (it ∷ [])) rest)
            ∙ length-append (flat_map entry_bytes (e.seen ++ (it ∷ []))) (flat_map entry_bytes rest)
            ∙ ap (λ l. length l + length (flat_map entry_bytes rest)) (flat_map_snoc entry_bytes e.seen it)
            ∙ ap (λ n. n + length (flat_map entry_bytes rest)) (length-append (flat_map entry_bytes e.seen) (entry_bytes it)) in
            (omega arith, omega arith, omega arith)

        pub entering_more : {new : List ℕ} {ended : ℕ} → ended ≡ end + length (entry_bytes (entry_in output c.key at.offset c.size))
            → new ≡ stored output end (entry_bytes (entry_in output c.key at.offset c.size))
            → Entering new (record { offset = at.offset + c.size; before = c.last }) ended less
        unfolding ChildWithin Within
        entering_more {new} ended_is holds =
            let fits = entering_fits.1 in
            let long = entering_long in
            let ends = e.ends in
            let a = within.2 in
            let b = within.3 in
            let same = ap length (entering_same h) in
            record {
              seen = e.seen ++ (it ∷ []);
              split = split;
              ends = ended_is ∙ rw (flat_map_snoc entry_bytes e.seen it, length-append (flat_map entry_bytes e.seen) (entry_bytes it)) (omega arith);
              holds =
                  stored-after old place (flat_map entry_bytes e.seen) (entry_bytes it) (omega arith) e.holds ends holds
                  ∙ ap (stored old place) (sym (flat_map_snoc entry_bytes e.seen it));
              within = omega arith;
            }
