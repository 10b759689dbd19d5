-- Laws of putting level after level.
-- Assumes nothing.
use mathlib.Core.Path.{◌≡◌, refl, sym, ap, ◌∙◌}
use mathlib.Core.Bool.{false, cond}
use mathlib.Core.Logic.{◌⊎◌, inl, inr}
use mathlib.Core.List.{List, [], ◌∷◌, ◌++◌, flat_map, map, append-nil, append_assoc}
use Prim.Native.Nat.{ℕ, zero, suc, ◌+◌, ◌-◌, ◌^◌, ◌≤◌, ◌<◌}
use native.Mathlib.Nat.{pow-zero, pow-succ'}
use native.Mathlib.Omega.{arith}
use lib.Dec.{leb}
use lib.ListN.{length, take, drop, length-append, length-take, length-map}
use lib.Seq.{take-take, take_at, length-take-le}
use borrow.Author.Tests.{le-leb, lt-leb, ne_eqb}
use Rattle.lists.specs.Groups.{groups, last_or}
use Rattle.lists.proofs.ListsLaws.{flat_map_append}
use Rattle.lists.proofs.GroupsLaws.{groups_nil, groups_some, groups_half}
use Rattle.output_bytes.specs.OutputBytes.{stored}
use Rattle.output_bytes.proofs.OutputBytesLaws.{stored_some, length-stored, take-stored, stored-after}
use Rattle.block.specs.Block.{is_data}
use Rattle.layout.specs.Index.{IndexEntry, IndexBlock, index_bytes, entry_for, level_from, levels_from, index_over, root_of}
use Rattle.layout.proofs.LiesLaws.{lies_last}
use Rattle.layout.proofs.SideBySideLaws.{level_side_by_side}
use Rattle.layout.proofs.IndexFitLaws.{length_level, level_member, level_some}
use Rattle.std.specs.Prelude.{Option, Some, None, Result, Ok, Err}
use Rattle.std.specs.Option.{ok_or}
use Rattle.std.specs.Result.{IsErrAnd, result_ok}
use Rattle.std.proofs.lemmas.Result.{err_from_is_err_and}
use Rattle.outcome.specs.declared.Fault.{Fault}
use Rattle.outcome.specs.declared.Fault.TheVariants.{OutputRoom}
use Rattle.outcome.specs.Fault.{number}
use Rattle.index_encoder.specs.declared.level.Level.{Level}
use Rattle.index_encoder.specs.declared.Raised.{Raised}
use Rattle.index_encoder.specs.Children.{children_from, start_at}
use Rattle.index_encoder.specs.Level.{level_for, LevelPut}
use Rattle.index_encoder.specs.Raise.{index_for, raised_from, LevelsPut}
use Rattle.index_encoder.proofs.StoredLaws.{stored_nil}
use Rattle.index_encoder.proofs.ChildLaws.{children_few}
use Rattle.index_encoder.proofs.ChildrenBackLaws.{index_children_back}

-- ---- the levels

levels_nil : (fuel per_index level at : ℕ) → 1 ≤ per_index → levels_from fuel per_index level at [] ≡ []
unfolding levels_from level_from
levels_nil zero per_index level at h = refl
levels_nil (suc fuel) per_index level at h = rw (groups_nil {A = IndexEntry} per_index h)

root_last : (bs : List IndexBlock) (b : IndexBlock) → root_of (bs ++ (b ∷ [])) ≡ entry_for b
unfolding root_of last_or
root_last [] b = refl
root_last (x ∷ bs) b = ap entry_for (last x bs)
  where
    last : (y : IndexBlock) (ys : List IndexBlock) → last_or y (ys ++ (b ∷ [])) ≡ b
    last y [] = refl
    last y (z ∷ ys) = last z ys

-- from level 1 on there is no data block
index_level : (level : ℕ) → 1 ≤ level → {n : ℕ} → n ≡ level → is_data n ≡ false
unfolding is_data
index_level level h {n} e = ne_eqb n 0 (λ z. omega arith)

-- a level that is put is read back as the entries that name its blocks
pub level_back : (o : List ℕ) (per_index level a b : ℕ) → 1 ≤ level → 1 ≤ per_index → length o ≤ 2 ^ 30
    → b + length (flat_map index_bytes (level_for per_index level o a b)) ≤ length o → {new : List ℕ} {end : ℕ}
    → new ≡ stored o b (flat_map index_bytes (level_for per_index level o a b)) → end ≡ b + length (flat_map index_bytes (level_for per_index level o a b))
    → children_from (take end new) (start_at b) ≡ map entry_for (level_for per_index level o a b)
unfolding level_for
level_back o per_index level a b low some short enough {new} {end} holds ends =
    index_children_back s (let long = reach in omega arith) b bs
    (λ x m. (level_some per_index some level b es x m, index_level level low (level_member level b (groups per_index es) x m).0))
    (level_side_by_side level b (groups per_index es))
    (lies_last s (take b o) (flat_map index_bytes bs) b whole (sym front))
    (sym reach)
  where
    es : List IndexEntry
    es = children_from (take b o) (start_at a)

    bs : List IndexBlock
    bs = level_from level b (groups per_index es)

    s : List ℕ
    s = take end new

    front : length (take b o) ≡ b
    front = length-take-le b o (omega arith)

    whole : s ≡ take b o ++ flat_map index_bytes bs
    whole =
        ap (take end)
        (holds
        ∙ stored_some o b (flat_map index_bytes bs) enough
        ∙ sym (append_assoc (take b o) (flat_map index_bytes bs) (drop (b + length (flat_map index_bytes bs)) o)))
        ∙ take_at (take b o ++ flat_map index_bytes bs) (drop (b + length (flat_map index_bytes bs)) o) end
        (length-append (take b o) (flat_map index_bytes bs) ∙ ap (λ n. n + length (flat_map index_bytes bs)) front ∙ sym ends)

    reach : length s ≡ b + length (flat_map index_bytes bs)
    reach = ap length whole ∙ length-append (take b o) (flat_map index_bytes bs) ∙ ap (λ n. n + length (flat_map index_bytes bs)) front

-- ---- the loop over levels

module _ (old : List ℕ) (per_index from to : ℕ) where
  -- the levels below this one are put; their last lies from a to b
  pub record Raising (output : List ℕ) (level a b : ℕ) : Type 0 where
    pub done : List IndexBlock
    pub fuel : ℕ
    pub enough : length (children_from (take b output) (start_at a)) ≤ fuel
    pub split : index_for per_index old from to ≡ done ++ levels_from fuel per_index level b (children_from (take b output) (start_at a))
    pub ends : b ≡ to + length (flat_map index_bytes done)
    pub holds : output ≡ stored old to (flat_map index_bytes done)
    pub within : b ≤ length old
    pub first : (done ≡ []) ⊎ (0 < length (children_from (take b output) (start_at a)))
    -- how many levels can follow
    pub above : ℕ
    pub few : length (children_from (take b output) (start_at a)) ≤ 2 ^ above + 1
    pub low : level + above ≤ 31
    pub high : 1 ≤ level

  module _ (two : 2 ≤ per_index) (short : length old ≤ 2 ^ 30) where
    pub raising_none : to ≤ length old → Raising old 1 from to
    unfolding index_for index_over flat_map
    raising_none h =
        let few = children_few (take to old) (start_at from) in
        let long = length-take to old in
        record {
          done = [];
          fuel = length (children_from (take to old) (start_at from));
          enough = omega arith;
          split = refl;
          ends = omega arith;
          holds = sym (stored_nil old to);
          within = h;
          first = inl refl;
          above = 30;
          few = omega arith;
          low = omega arith;
          high = omega arith;
        }

    module _ (output : List ℕ) (level a b : ℕ) (v : Raising output level a b) where
      pub raising_long : length output ≡ length old
      raising_long = ap length v.holds ∙ length-stored old to (flat_map index_bytes v.done)

      -- what `put_level` requires
      pub raising_requires : (1 ≤ per_index) × (b ≤ length output) × (length output ≤ 2 ^ 30)
      raising_requires = let long = raising_long in let within = v.within in (omega arith, omega arith, omega arith)

      abbrev es : List IndexEntry
      es = children_from (take b output) (start_at a)

      abbrev here : List IndexBlock
      here = level_for per_index level output a b

      count : length here ≡ length (groups per_index es)
      unfolding level_for
      count = length_level level b (groups per_index es)

      -- where there are no entries there is no block, and nothing more to put
      none_here : es ≡ [] → here ≡ []
      unfolding level_for level_from
      none_here e = ap (λ l. level_from level b (groups per_index l)) e ∙ ap (level_from level b) (groups_nil per_index (omega arith))

      finished : es ≡ [] → index_for per_index old from to ≡ v.done
      finished e =
          v.split
          ∙ ap (λ l. v.done ++ levels_from v.fuel per_index level b l) e
          ∙ ap (λ l. v.done ++ l) (levels_nil v.fuel per_index level b (omega arith))
          ∙ append-nil v.done

      -- else this level, and those above it
      upper : ℕ → List IndexBlock
      upper fuel = cond (leb (length here) 1) [] (levels_from fuel per_index (level + 1) (b + length (flat_map index_bytes here)) (map entry_for here))

      record Above : Type 0 where
        fuel : ℕ
        enough : length es ≤ suc fuel
        split : index_for per_index old from to ≡ v.done ++ here ++ upper fuel

      goes_on : 0 < length es → Above
      unfolding upper levels_from level_for
      goes_on some = go v.fuel v.enough v.split
        where
          go : (fuel : ℕ) → length es ≤ fuel → index_for per_index old from to ≡ v.done ++ levels_from fuel per_index level b es → Above
          go zero enough split = absurd (omega arith)
          go (suc fuel) enough split =
              record {
                fuel = fuel;
                enough = enough;
                split = split ∙ sym (append_assoc v.done here (upper fuel));
              }

      by_entries : {P : Type 0} → (es ≡ [] → P) → (0 < length es → P) → P
      by_entries {P} f g = go es refl
        where
          go : (xs : List IndexEntry) → es ≡ xs → P
          go [] e = f e
          go (x ∷ xs) e = g (let long : length es ≡ length (x ∷ xs) = ap length e in omega arith)

      has_group : 0 < length es → 1 ≤ length (groups per_index es)
      has_group some = go es refl
        where
          go : (xs : List IndexEntry) → es ≡ xs → 1 ≤ length (groups per_index es)
          go [] e = absurd (let none : length es ≡ 0 = ap length e in omega arith)
          go (x ∷ xs) e = rw e (groups_some per_index (omega arith) x xs)

      -- the bytes of the levels so far and of this one
      whole : length (flat_map index_bytes (v.done ++ here)) ≡ length (flat_map index_bytes v.done) + length (flat_map index_bytes here)
      whole = ap length (flat_map_append index_bytes v.done here) ∙ length-append (flat_map index_bytes v.done) (flat_map index_bytes here)

      -- this level doesn't fit, so the index doesn't
      full : (new : List ℕ) → LevelPut output new b here None
          → (length old < to + length (flat_map index_bytes (index_for per_index old from to))) × (take to new ≡ take to old)
      unfolding LevelPut flat_map
      full new p =
          (by_entries empty more, kept)
        where
          empty : es ≡ [] → length old < to + length (flat_map index_bytes (index_for per_index old from to))
          empty e =
              absurd (let none : length (flat_map index_bytes here) ≡ 0 = ap (λ l. length (flat_map index_bytes l)) (none_here e) in
              let over = p.0 in let long = raising_long in let within = v.within in omega arith)

          more : 0 < length es → length old < to + length (flat_map index_bytes (index_for per_index old from to))
          more some =
              let on = goes_on some in
              let all : length (flat_map index_bytes (index_for per_index old from to))
              ≡ length (flat_map index_bytes (v.done ++ here)) + length (flat_map index_bytes (upper on.fuel)) =
              ap (λ l. length (flat_map index_bytes l)) on.split
              ∙ ap length (flat_map_append index_bytes (v.done ++ here) (upper on.fuel))
              ∙ length-append (flat_map index_bytes (v.done ++ here)) (flat_map index_bytes (upper on.fuel)) in
              let w = whole in
              let over = p.0 in
              let long = raising_long in
              let ends = v.ends in
              omega arith

          kept : take to new ≡ take to old
          kept =
              let ends = v.ends in
              sym (take-take to b new (omega arith))
              ∙ ap (take to) p.1
              ∙ take-take to b output (omega arith)
              ∙ ap (take to) v.holds
              ∙ take-stored old to (flat_map index_bytes v.done) to (omega arith)

      -- the refusal that is handed on
      pub raising_refused : (new : List ℕ) (put : Option Level) → LevelPut output new b here put → {fault : Fault} → put ≡ result_ok {T = Level} (Err fault)
          → Err fault ≡ ok_or put OutputRoom → (r : Result Raised Fault) → IsErrAnd r (λ f. f ≡ fault)
          → LevelsPut old new to (index_for per_index old from to) r
      unfolding LevelPut LevelsPut number
      raising_refused new (Some put) p none e r told = cc
      raising_refused new None p {fault} none e r told =
          let handed = err_from_is_err_and r told in let is : fault ≡ OutputRoom = cc in
          let over = full new p in rw (handed.1, handed.2, is) (refl, over.0, over.1)

      module _ (new : List ℕ) (level-put : Level) (p : LevelPut output new b here (Some level-put)) where
        abbrev end : ℕ
        end = level-put.end

        abbrev blocks : ℕ
        blocks = level-put.blocks

        abbrev Put : Type 0
        Put = (end ≡ b + length (flat_map index_bytes here)) × (end ≤ length output) × (blocks ≡ length here) × (new ≡ stored output b (flat_map index_bytes here))

        put : Put
        unfolding LevelPut
        put = p

        put_all : new ≡ stored old to (flat_map index_bytes (v.done ++ here))
        put_all =
            let ends = put.0 in
            let within = put.1 in
            let long = raising_long in
            let start = v.ends in
            stored-after old to (flat_map index_bytes v.done) (flat_map index_bytes here) (omega arith) v.holds start put.3
            ∙ ap (stored old to) (sym (flat_map_append index_bytes v.done here))

        ends_all : end ≡ to + length (flat_map index_bytes (v.done ++ here))
        ends_all = let ends = put.0 in let start = v.ends in let w = whole in omega arith

        pub raising_ends : b ≤ end
        raising_ends = let ends = put.0 in omega arith

        answers : index_for per_index old from to ≡ v.done ++ here → (root rootsize : ℕ)
            → root ≡ (root_of (v.done ++ here)).offset → rootsize ≡ (root_of (v.done ++ here)).size
            → LevelsPut old new to (index_for per_index old from to) (Ok (record { root = root; rootsize = rootsize; end = end }))
        unfolding LevelsPut raised_from
        answers e root rootsize r s =
            let within = put.1 in
            let long = raising_long in
            let ends = ends_all in
            let total : length (flat_map index_bytes (index_for per_index old from to)) ≡ length (flat_map index_bytes (v.done ++ here)) =
            ap (λ l. length (flat_map index_bytes l)) e in (
              cc,
              omega arith,
              put_all ∙ ap (λ l. stored old to (flat_map index_bytes l)) (sym e),
            )

        -- no block on this level: there is nothing to put
        pub raising_nothing : blocks ≡ 0 → LevelsPut old new to (index_for per_index old from to) (Ok (record { root = 0; rootsize = 0; end = end }))
        unfolding root_of
        raising_nothing z = by_entries empty (λ some. absurd (no_more some))
          where
            no_more : 0 < length es → ⊥
            no_more some =
                let counted = put.2 in
                let same = count in
                let group = has_group some in
                omega arith

            nothing : es ≡ [] → v.done ≡ []
            nothing e = go v.first
              where
                go : (v.done ≡ []) ⊎ (0 < length es) → v.done ≡ []
                go (inl d) = d
                go (inr some) = absurd (no_more some)

            empty : es ≡ [] → LevelsPut old new to (index_for per_index old from to) (Ok (record { root = 0; rootsize = 0; end = end }))
            empty e =
                let all : v.done ++ here ≡ [] = ap (λ l. v.done ++ l) (none_here e) ∙ append-nil v.done ∙ nothing e in
                answers (finished e ∙ nothing e ∙ sym all) 0 0 (sym (ap (λ l. (root_of l).offset) all)) (sym (ap (λ l. (root_of l).size) all))

        -- one block on this level: it is the root
        pub raising_root : blocks ≡ 1 → LevelsPut old new to (index_for per_index old from to) (Ok (record { root = b; rootsize = end - b; end = end }))
        unfolding upper level_for level_from entry_for flat_map
        raising_root z = by_entries (λ e. absurd (let counted = put.2 in let none = ap length (none_here e) in omega arith)) more
          where
            one : (gs : List (List IndexEntry)) → groups per_index es ≡ gs → (g : List IndexEntry) × (groups per_index es ≡ g ∷ [])
            one [] e = absurd (let counted = put.2 in let same = count in let none : length (groups per_index es) ≡ 0 = ap length e in omega arith)
            one (g ∷ []) e = (g, e)
            one (g ∷ (h ∷ gs)) e =
                absurd (let counted = put.2 in let same = count in let many : length (groups per_index es) ≡ length (g ∷ (h ∷ gs)) = ap length e in omega arith)

            more : 0 < length es → LevelsPut old new to (index_for per_index old from to) (Ok (record { root = b; rootsize = end - b; end = end }))
            more some =
                let on = goes_on some in
                let counted = put.2 in
                let last : upper on.fuel ≡ [] = rw (le-leb (length here) 1 (omega arith)) in
                let group = one (groups per_index es) refl in
                let root : IndexBlock = record { level = level; offset = b; entries = group.0 } in
                let alone : here ≡ root ∷ [] = ap (level_from level b) group.1 in
                let named : root_of (v.done ++ here) ≡ entry_for root = ap (λ l. root_of (v.done ++ l)) alone ∙ root_last v.done root in
                let ends = put.0 in
                let size : length (flat_map index_bytes here) ≡ length (index_bytes root) =
                ap (λ l. length (flat_map index_bytes l)) alone ∙ ap length (append-nil (index_bytes root)) in
                answers (on.split ∙ ap (λ l. v.done ++ here ++ l) last ∙ append-nil (v.done ++ here)) b (end - b)
                (sym (ap (λ (e : IndexEntry). e.offset) named)) (let right = ap (λ (e : IndexEntry). e.size) named in omega arith)

        -- two blocks or more: the next level is over them
        pub raising_more : 2 ≤ blocks → Raising new (level + 1) b end
        unfolding upper
        raising_more many = by_entries (λ e. absurd (let counted = put.2 in let none = ap length (none_here e) in omega arith)) more
          where
            back : children_from (take end new) (start_at b) ≡ map entry_for here
            back = let ends = put.0 in let within = put.1 in let r = raising_requires in
                level_back output per_index level a b v.high r.0 r.2 (omega arith) put.3 put.0

            counted_back : length (children_from (take end new) (start_at b)) ≡ length here
            counted_back = ap length back ∙ length-map here entry_for

            fewer : (above : ℕ) → length es ≤ 2 ^ above + 1 → level + above ≤ 31 → (next : ℕ) × (length here ≤ 2 ^ next + 1) × (level + 1 + next ≤ 31)
            fewer zero few low =
                absurd (let half = groups_half per_index two es in let same = count in let counted = put.2 in let one = pow-zero 2 in omega arith)
            fewer (suc next) few low =
                let half = groups_half per_index two es in
                let same = count in
                let double = pow-succ' 2 next in
                (next, omega arith, omega arith)

            more : 0 < length es → Raising new (level + 1) b end
            more some =
                let on = goes_on some in
                let enough = on.enough in
                let counted = put.2 in
                let same = count in
                let half = groups_half per_index two es in
                let long = raising_long in
                let within = put.1 in
                let next = fewer v.above v.few v.low in
                let cb = counted_back in
                let others : upper on.fuel ≡ levels_from on.fuel per_index (level + 1) end (children_from (take end new) (start_at b)) =
                rw (lt-leb (length here) 1 (omega arith)) (ap (λ n. levels_from on.fuel per_index (level + 1) n (map entry_for here)) (sym put.0)
                ∙ ap (levels_from on.fuel per_index (level + 1) end) (sym back)) in
                record {
                  done = v.done ++ here;
                  fuel = on.fuel;
                  enough = omega arith;
                  split = on.split ∙ ap (λ l. v.done ++ here ++ l) others;
                  ends = ends_all;
                  holds = put_all;
                  within = omega arith;
                  first = inr (omega arith);
                  above = next.0;
                  few = let f = next.1 in omega arith;
                  low = next.2;
                  high = omega arith;
                }
