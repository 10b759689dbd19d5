-- Laws of putting one level of index blocks.
-- Assumes nothing.
use mathlib.Core.Path.{◌≡◌, refl, sym, ap, ◌∙◌, subst}
use mathlib.Core.List.{List, [], ◌∷◌, ◌++◌, flat_map, append-nil}
use Prim.Native.Nat.{ℕ, zero, suc, ◌+◌, ◌-◌, ◌≤◌, ◌<◌}
use native.Mathlib.Omega.{arith}
use lib.Dec.{leb}
use lib.ListN.{length, take, drop, length-append, length-take, length-drop}
use lib.Seq.{append_snoc}
use Rattle.lists.specs.Groups.{groups}
use Rattle.lists.proofs.ListsLaws.{flat_map_append}
use Rattle.lists.proofs.GroupsLaws.{groups_nil, groups_cons}
use Rattle.endian.specs.FixedWidth.{little_bytes}
use Rattle.uleb128.specs.Encoding.{encoding}
use Rattle.crc64.specs.Crc64.{crc64}
use Rattle.output_bytes.specs.OutputBytes.{stored, stored_length, stored_size}
use Rattle.output_bytes.proofs.OutputBytesLaws.{length-stored, take-stored, stored-after, part-stored, stored_size_some, stored_size_none}
use Rattle.layout.specs.Blocks.{block_size}
use Rattle.layout.specs.Index.{IndexEntry, entry_bytes, IndexBlock, index_bytes, level_from}
use Rattle.layout.proofs.BlockBackLaws.{index_some}
use Rattle.encoder.proofs.PutLaws.{block_size_some, size_out, size_within, block_number, block_stored}
use Rattle.index_encoder.specs.declared.entries.Group.{Group}
use Rattle.std.specs.Prelude.{Option, Some, None}
use Rattle.std.specs.Bool.{then_some}
use Rattle.index_encoder.specs.declared.child.Position.{Position}
use Rattle.index_encoder.specs.Children.{Within, children_from, start_at}
use Rattle.index_encoder.specs.Level.{Measured, entries_for, block_for, level_for, LevelPut}
use Rattle.index_encoder.proofs.StoredLaws.{flat_map_snoc, take_counted, stored_nil}

-- ---- one index block

-- the block at `place` over the first `count` blocks from `from` to `to`, whose entries take n bytes
module _ (o : List ℕ) (level to : ℕ) (from : Position) (count place n : ℕ) (low : to ≤ place) (held : Within (take to o) from.before)
    (long : n ≡ length (flat_map entry_bytes (entries_for o to from count))) where
  abbrev payload : List ℕ
  payload = flat_map entry_bytes (entries_for o to from count)

  abbrev room_for : ℕ → Option ℕ
  room_for m = then_some (leb (place + block_size m) (length o)) (block_size m)

  -- it doesn't fit
  pub block_none : None ≡ room_for n
      → (None ≡ stored_size o place (index_bytes (block_for o level to from count place)))
      × (o ≡ stored o place (index_bytes (block_for o level to from count place)))
  unfolding index_bytes block_for
  block_none e = size_out o place level payload (e ∙ ap room_for long)

  module _ {size : ℕ} (es : Some size ≡ room_for n) where
    fits : (size ≡ block_size (length payload)) × (place + block_size (length payload) ≤ length o)
    fits = size_within o place payload size (es ∙ ap room_for long)

    pub index_room : n < length o
    index_room = let enough = fits.1 in let some = block_size_some (length payload) in omega arith

    module _ {a : ℕ} (ea : a ≡ stored_length o place (encoding (n + 1))) where
      -- the number
      pub index_number : (a ≡ length (encoding (length payload + 1))) × (place + (a + (length payload + 9)) ≤ length o)
      index_number = block_number o place payload fits.1 (subst (λ m. a ≡ stored_length o place (encoding (m + 1))) long ea)

      module _ {o1 o2 : List ℕ} (e1 : o1 ≡ stored o place (encoding (n + 1))) (e2 : o2 ≡ stored o1 (place + a) (level ∷ [])) where
        lengths : (length o1 ≡ length o) × (length o2 ≡ length o)
        lengths =
            let first : length o1 ≡ length o = ap length e1 ∙ length-stored o place (encoding (n + 1)) in
            (first, ap length e2 ∙ length-stored o1 (place + a) (level ∷ []) ∙ first)

        -- the run of blocks is as it was
        front : take to o2 ≡ take to o
        front =
            ap (take to) e2
            ∙ take-stored o1 (place + a) (level ∷ []) to (omega arith)
            ∙ ap (take to) e1
            ∙ take-stored o place (encoding (n + 1)) to low

        same : entries_for o2 to from count ≡ entries_for o to from count
        unfolding entries_for
        same = ap (λ l. take count (children_from l from)) front

        -- the entries fit
        pub index_fits : (to ≤ place + a + 1) × Within (take to o2) from.before
            × (place + a + 1 + length (flat_map entry_bytes (entries_for o2 to from count)) ≤ length o2)
        index_fits =
            let number = index_number.1 in
            let two = lengths.1 in
            (omega arith, subst (λ l. Within l from.before) (sym front) held, rw same (omega arith))

        module _ {o3 : List ℕ} {end : ℕ} (ee : end ≡ place + a + 1 + length (flat_map entry_bytes (entries_for o2 to from count)))
            (e3 : o3 ≡ stored o2 (place + a + 1) (flat_map entry_bytes (entries_for o2 to from count))) where
          ends : end ≡ place + a + 1 + length payload
          ends = ee ∙ ap (λ l. place + a + 1 + length (flat_map entry_bytes l)) same

          -- where the level byte and the entries lie
          pub index_ends : (place + a ≤ end) × (end ≤ length o3)
          index_ends =
              let e = ends in
              let number = index_number.1 in
              let two = lengths.1 in
              let three : length o3 ≡ length o2 = ap length e3 ∙ length-stored o2 (place + a + 1) (flat_map entry_bytes (entries_for o2 to from count)) in
              (omega arith, omega arith)

          summed : take (end - (place + a)) (drop (place + a) o3) ≡ level ∷ payload
          summed =
              let e = ends in
              let number = index_number.1 in
              let one = lengths.0 in
              let third : o3 ≡ stored o1 (place + a) (level ∷ payload) =
              stored-after o1 (place + a) (level ∷ []) payload (omega arith) e2 refl (e3 ∙ ap (λ l. stored o2 (place + a + 1) (flat_map entry_bytes l)) same) in
              let reach : end - (place + a) ≡ length (level ∷ payload) = omega arith in
              ap (λ k. take k (drop (place + a) o3)) reach
              ∙ ap (λ l. take (length (level ∷ payload)) (drop (place + a) l)) third
              ∙ part-stored o1 (place + a) (level ∷ payload) (omega arith)

          -- number, level byte, entries and CRC
          pub index_stored : {sum : ℕ} {crc o4 : List ℕ} → sum ≡ crc64 (take (end - (place + a)) (drop (place + a) o3)) → crc ≡ little_bytes 8 sum
              → o4 ≡ stored o3 end crc
              → (Some size ≡ stored_size o place (index_bytes (block_for o level to from count place)))
              × (o4 ≡ stored o place (index_bytes (block_for o level to from count place)))
          unfolding index_bytes block_for
          index_stored {sum} {crc} s c e4 =
              block_stored o place level payload fits.1 fits.0 index_number.0 (c ∙ ap (little_bytes 8) (s ∙ ap crc64 summed))
              (subst (λ m. o1 ≡ stored o place (encoding (m + 1))) long e1)
              e2
              (e3 ∙ ap (λ l. stored o2 (place + a + 1) (flat_map entry_bytes l)) same)
              (e4 ∙ ap (λ p. stored o3 p crc) ends)

-- ---- the index blocks of a level

module _ (old : List ℕ) (per_index level from to : ℕ) where
  abbrev children_of : Position → List IndexEntry
  children_of at = children_from (take to old) at

  -- the index blocks of the groups up to `at` are put
  pub record Leveling (output : List ℕ) (at : Position) (end blocks : ℕ) : Type 0 where
    pub done : List IndexBlock
    pub split : level_for per_index level old from to ≡ done ++ level_from level end (groups per_index (children_of at))
    pub ends : end ≡ to + length (flat_map index_bytes done)
    pub counted : blocks ≡ length done
    pub few : blocks ≤ end
    pub within : end ≤ length old
    pub holds : output ≡ stored old to (flat_map index_bytes done)
    pub held : Within (take to old) at.before

  pub leveling_none : to ≤ length old → Leveling old (start_at from) to 0
  unfolding level_for flat_map start_at Within
  leveling_none h =
      record {
        done = [];
        split = refl;
        ends = omega arith;
        counted = refl;
        few = omega arith;
        within = h;
        holds = sym (stored_nil old to);
        held = omega arith;
      }

  module _ (output : List ℕ) (at : Position) (end blocks : ℕ) (v : Leveling output at end blocks) where
    pub leveling_long : length output ≡ length old
    leveling_long = ap length v.holds ∙ length-stored old to (flat_map index_bytes v.done)

    -- the run of blocks is as it was
    pub leveling_same : take to output ≡ take to old
    leveling_same = ap (take to) v.holds ∙ take-stored old to (flat_map index_bytes v.done) to (omega arith)

    -- the record before the next block lies there
    pub leveling_held : Within (take to output) at.before
    leveling_held = subst (λ l. Within l at.before) (sym leveling_same) v.held

    module _ (some : 1 ≤ per_index) (g : Group) (measured : Measured (take to output) at per_index g) where
      first : g.count ≡ length (take per_index (children_of at))
      first = measured.counted ∙ ap (λ l. length (take per_index (children_from l at))) leveling_same

      -- no block is left
      pub level_all : g.count ≡ 0 → LevelPut old output to (level_for per_index level old from to) (Some (record { end = end; blocks = blocks }))
      unfolding LevelPut level_from
      level_all z = go (children_of at) refl
        where
          go : (xs : List IndexEntry) → children_of at ≡ xs → LevelPut old output to (level_for per_index level old from to) (Some (record { end = end; blocks = blocks }))
          go [] e =
              let all : v.done ≡ level_for per_index level old from to =
              sym (v.split ∙ ap (λ l. v.done ++ level_from level end l) (ap (groups per_index) e ∙ groups_nil per_index some) ∙ append-nil v.done) in (
                v.ends ∙ ap (λ l. to + length (flat_map index_bytes l)) all,
                v.within,
                v.counted ∙ ap length all,
                v.holds ∙ ap (λ l. stored old to (flat_map index_bytes l)) all,
              )
          go (x ∷ xs) e =
              absurd (let none : 0 ≡ length (take per_index (x ∷ xs)) = sym z ∙ first ∙ ap (λ l. length (take per_index l)) e in
              let long = length-take per_index (x ∷ xs) in omega arith)

      -- the entries of the next block
      pub level_requires : (to ≤ end) × Within (take to output) at.before
          × (g.length ≡ length (flat_map entry_bytes (entries_for output to at g.count)))
      unfolding entries_for
      level_requires =
          let ends = v.ends in (
            omega arith,
            leveling_held,
            measured.sized
                ∙ ap (λ l. length (flat_map entry_bytes l)) (sym (take_counted per_index (children_from (take to output) at)))
                ∙ ap (λ k. length (flat_map entry_bytes (take k (children_from (take to output) at)))) (sym measured.counted),
          )

      module _ (more : 0 < g.count) where
        abbrev block : IndexBlock
        block = block_for output level to at g.count end

        -- there is a block, and the next group begins after its blocks
        record Begun : Type 0 where
          begins : groups per_index (children_of at) ≡ take per_index (children_of at) ∷ groups per_index (children_of g.next)
          falls : length (children_of g.next) < length (children_of at)

        begun : Begun
        begun = go (children_of at) refl
          where
            onward : children_of g.next ≡ drop per_index (children_of at)
            onward = ap (λ l. children_from l g.next) (sym leveling_same) ∙ measured.onward ∙ ap (λ l. drop per_index (children_from l at)) leveling_same

            go : (xs : List IndexEntry) → children_of at ≡ xs → Begun
            go [] e = absurd (let zero-count : g.count ≡ 0 = first ∙ ap (λ l. length (take per_index l)) e ∙ none per_index in omega arith)
              where
                none : (n : ℕ) → length (take {A = IndexEntry} n []) ≡ 0
                none zero = refl
                none (suc n) = refl
            go (x ∷ xs) e =
                let left = length-drop per_index (x ∷ xs) in
                let rest : children_of g.next ≡ drop per_index (x ∷ xs) = onward ∙ ap (drop per_index) e in
                record {
                  begins = ap (groups per_index) e ∙ groups_cons per_index some x xs
                      ∙ ap (λ l. l ∷ groups per_index (drop per_index (x ∷ xs))) (ap (take per_index) (sym e))
                      ∙ ap (λ l. take per_index (children_of at) ∷ groups per_index l) (sym rest);
                  falls = rw (rest, e) (omega arith);
                }

        pub level_falls : length (children_of g.next) < length (children_of at)
        level_falls = begun.falls

        abbrev others : List IndexBlock
        others = level_from level (end + length (index_bytes block)) (groups per_index (children_of g.next))

        split : level_for per_index level old from to ≡ v.done ++ (block ∷ []) ++ others
        unfolding level_from block_for entries_for
        split =
            v.split
            ∙ ap (λ l. v.done ++ level_from level end l) begun.begins
            ∙ ap (λ es. v.done ++ level_from level end (es ∷ groups per_index (children_of g.next))) entries
            ∙ sym (append_snoc v.done block others)
          where
            entries : take per_index (children_of at) ≡ take g.count (children_from (take to output) at)
            entries =
                ap (λ l. take per_index (children_from l at)) (sym leveling_same)
                ∙ sym (take_counted per_index (children_from (take to output) at))
                ∙ ap (λ k. take k (children_from (take to output) at)) (sym measured.counted)

        -- it doesn't fit
        pub level_none : {new : List ℕ} → None ≡ stored_size output end (index_bytes block) → new ≡ stored output end (index_bytes block)
            → LevelPut old new to (level_for per_index level old from to) None
        unfolding LevelPut
        level_none {new} e1 e2 = (
          (let over = stored_size_none output end (index_bytes block) e1 in
              let ends = v.ends in let long = leveling_long in let all = whole in omega arith),
          ap (take to) e2 ∙ take-stored output end (index_bytes block) to (let ends = v.ends in omega arith) ∙ leveling_same,
        )
          where
            whole : length (flat_map index_bytes (level_for per_index level old from to))
                ≡ length (flat_map index_bytes v.done) + length (index_bytes block) + length (flat_map index_bytes others)
            whole =
                ap (λ l. length (flat_map index_bytes l)) split
                ∙ ap length (flat_map_append index_bytes (v.done ++ (block ∷ [])) others)
                ∙ length-append (flat_map index_bytes (v.done ++ (block ∷ []))) (flat_map index_bytes others)
                ∙ ap (λ l. length l + length (flat_map index_bytes others)) (flat_map_snoc index_bytes v.done block)
                ∙ ap (λ k. k + length (flat_map index_bytes others)) (length-append (flat_map index_bytes v.done) (index_bytes block))

        -- it is put
        module _ {size : ℕ} {new : List ℕ} (e1 : Some size ≡ stored_size output end (index_bytes block)) (e2 : new ≡ stored output end (index_bytes block)) where
          pub level_size : (size ≡ length (index_bytes block)) × (end + size ≤ length old)
          level_size =
              let all = stored_size_some output end (index_bytes block) e1 in
              let long = leveling_long in
              let size_is = all.0 in
              let within = all.1 in
              (size_is, omega arith)

          pub leveling_more : Leveling new g.next (end + size) (blocks + 1)
          leveling_more =
              let long = leveling_long in
              let whole = level_size.0 in
              let within = level_size.1 in
              let ends = v.ends in
              let counted = v.counted in
              let few = v.few in
              let some = index_some block in
              let more : length (flat_map index_bytes (v.done ++ (block ∷ []))) ≡ length (flat_map index_bytes v.done) + length (index_bytes block) =
              ap length (flat_map_snoc index_bytes v.done block) ∙ length-append (flat_map index_bytes v.done) (index_bytes block) in
              record {
                done = v.done ++ (block ∷ []);
                split = split ∙ ap (λ k. v.done ++ (block ∷ []) ++ level_from level (end + k) (groups per_index (children_of g.next))) (sym whole);
                ends = omega arith;
                counted = rw (length-append v.done (block ∷ [])) (omega arith);
                few = omega arith;
                within = within;
                holds =
                    stored-after old to (flat_map index_bytes v.done) (index_bytes block) (omega arith) v.holds ends e2
                    ∙ ap (stored old to) (sym (flat_map_snoc index_bytes v.done block));
                held = subst (λ l. Within l g.next.before) leveling_same measured.within;
              }
