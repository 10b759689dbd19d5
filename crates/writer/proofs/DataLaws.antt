-- Laws of putting the data blocks: each takes the next records of the input.
-- Assumes nothing.
use mathlib.Core.Path.{◌≡◌, refl, sym, ap, ◌∙◌, subst}
use mathlib.Core.Bool.{Bool, true, false, cond}
use mathlib.Core.List.{List, [], ◌∷◌, ◌++◌, flat_map, map, append_assoc, append-nil}
use Rattle.std.specs.Prelude.{Some, None}
use Prim.Native.Nat.{ℕ, zero, suc, ◌+◌, ◌-◌, ◌^◌, ◌≤◌, ◌<◌}
use native.Mathlib.Nat.{add-zero}
use native.Mathlib.Omega.{arith}
use lib.Dec.{leb}
use lib.ListN.{length, take, drop, length-append, length-take, length-drop, drop_of_length-le, take-append-drop}
use lib.Seq.{take_all}
use Rattle.byte_string.specs.Order.{AreBytes}
use Rattle.outcome.specs.Outcome.{answer, refused}
use Rattle.outcome.proofs.OutcomeLaws.{refused_not_answer}
use Rattle.lists.specs.Groups.{groups}
use Rattle.lists.proofs.ListsLaws.{flat_map_append}
use Rattle.lists.proofs.GroupsLaws.{groups_cons, groups_nil}
use Rattle.part.specs.Part.{part}
use Rattle.items.specs.declared.Step.{Step}
use Rattle.items.proofs.ItemsLaws.{Row, row_end, row_more}
use Rattle.payload.specs.Payload.{Text, text_at}
use Rattle.output_bytes.specs.OutputBytes.{bytes_fit, stored, stored_size}
use Rattle.output_bytes.proofs.OutputBytesLaws.{stored-append, length-stored, stored_size_some, stored_size_none}
use Rattle.layout.specs.Blocks.{text_bytes, records_bytes, data_bytes, block_bytes}
use Rattle.layout.proofs.ReadBackLaws.{text_some}
use Rattle.layout.proofs.InputLaws.{Taken, taken_none, taken_more, text_encoded}
use Rattle.file_encoder.specs.Begun.{end_if_fits}
use Rattle.file_encoder.proofs.FitLaws.{not_fitting, too_long, fitting}
use Rattle.writer.specs.Steps.{DataPut}

-- ---- the end of the next records

-- the loop: `count` records were taken, of at most `most`
pub record Taking (s : List ℕ) (from most at count : ℕ) : Type 0 where
  pub few : count ≤ most
  pub taken : (xs : List Text) → from ≤ length s → Row (text_at 0 s) (length s) from xs → Taken 0 s from xs at count

pub taking_none : (s : List ℕ) (from most : ℕ) → Taking s from most from 0
taking_none s from most = record { few = omega arith; taken = λ xs h row. taken_none 0 s from xs h row }

pub taking_more : (s : List ℕ) (from most at count : ℕ) → AreBytes s → Taking s from most at count → count < most → (t : Step Text)
    → text_at 0 s at ≡ answer t → Taking s from most t.next (count + 1)
taking_more s from most at count bytes k more t e =
    let placed = text_encoded 0 s at t bytes e in
    let forward = placed.forward in
    let within = placed.within in
    record { few = omega arith; taken = λ xs h row. taken_more 0 s from xs at count bytes (k.taken xs h row) (omega arith) t e }

module _ (s : List ℕ) (from most at count : ℕ) (k : Taking s from most at count) (xs : List Text) (h : from ≤ length s)
    (row : Row (text_at 0 s) (length s) from xs) where
  -- all were taken
  pub taking_all : most ≤ count → Taken 0 s from xs at most
  taking_all enough = let few = k.few in let all : count ≡ most = omega arith in subst (Taken 0 s from xs at) all (k.taken xs h row)

  -- no record follows: the input ends
  pub taking_end : (n place : ℕ) → text_at 0 s at ≡ refused n place → Taken 0 s from xs at most
  taking_end n place none = go (k.taken xs h row) (drop count xs) refl (k.taken xs h row).row
    where
      go : Taken 0 s from xs at count → (ys : List Text) → drop count xs ≡ ys → Row (text_at 0 s) (length s) at ys → Taken 0 s from xs at most
      go t ys e (row_more u more before f r) = absurd (refused_not_answer u n place (sym none ∙ f))
      go t ys e (row_end end) =
          let few = k.few in
          let long : length xs - count ≡ 0 = sym (length-drop count xs) ∙ ap length e in
          record {
            after = t.after;
            within = t.within;
            row = subst (Row (text_at 0 s) (length s) at) (e ∙ sym (drop_of_length-le xs {i = most} (omega arith))) t.row;
            bytes = t.bytes ∙ ap (λ (l : List Text). records_bytes (map (λ x. x.bytes) l)) (take_all count xs (omega arith) ∙ sym (take_all most xs (omega arith)));
          }

-- ---- data block after data block

take-map : {A B : Type 0} (f : A → B) (n : ℕ) (xs : List A) → take n (map f xs) ≡ map f (take n xs)
take-map f zero xs = refl
take-map f (suc n) [] = refl
take-map f (suc n) (x ∷ xs) = ap (λ l. f x ∷ l) (take-map f n xs)

drop-map : {A B : Type 0} (f : A → B) (n : ℕ) (xs : List A) → drop n (map f xs) ≡ map f (drop n xs)
drop-map f zero xs = refl
drop-map f (suc n) [] = refl
drop-map f (suc n) (x ∷ xs) = drop-map f n xs

-- the byte strings of records
unfoldable pub bytes_of : List Text → List (List ℕ)
bytes_of xs = map (λ x. x.bytes) xs

stored-nothing : (old : List ℕ) (at : ℕ) → stored old at [] ≡ old
unfolding stored bytes_fit
stored-nothing old at = go (leb (at + 0) (length old))
  where
    go : (b : Bool) → cond b (take at old ++ ([] ++ drop (at + 0) old)) old ≡ old
    go true = ap (λ (k : ℕ). take at old ++ drop k old) (add-zero at) ∙ take-append-drop at old
    go false = refl

-- the loop: the blocks `done` are put, and the records `left` follow
pub record DataPutting (old : List ℕ) (from : ℕ) (s : List ℕ) (per : ℕ) (xs : List Text) (output : List ℕ) (at next : ℕ) : Type 0 where
  pub done : List (List (List ℕ))
  pub left : List Text
  pub within : at ≤ length s
  pub row : Row (text_at 0 s) (length s) at left
  pub blocks : groups per (bytes_of xs) ≡ done ++ groups per (bytes_of left)
  pub ends : next ≡ from + length (flat_map data_bytes done)
  pub stands : output ≡ stored old from (flat_map data_bytes done)
  pub fit : 0 < at → (next ≤ length old) × (next ≤ 2 ^ 30)

pub putting_none : (old : List ℕ) (from : ℕ) (s : List ℕ) (per : ℕ) (xs : List Text) → Row (text_at 0 s) (length s) 0 xs → DataPutting old from s per xs old 0 from
unfolding flat_map
putting_none old from s per xs row =
    record {
      done = [];
      left = xs;
      within = omega arith;
      row = row;
      blocks = refl;
      ends = omega arith;
      stands = sym (stored-nothing old from);
      fit = λ h. absurd (omega arith);
    }

-- the next block
pub record NextBlock (old : List ℕ) (from : ℕ) (s : List ℕ) (per : ℕ) (xs : List Text) (output : List ℕ) (at next end : ℕ) : Type 0 where
  pub forward : at < end
  pub within : end ≤ length s
  pub records : List (List ℕ)
  pub payload : take (end - at) (drop at s) ≡ records_bytes records
  pub put : (after : ℕ) (then : List ℕ) → after ≡ next + length (data_bytes records) → after ≤ length old → after ≤ 2 ^ 30 → then ≡ stored output next (data_bytes records)
      → DataPutting old from s per xs then end after
  pub full : length old < next + length (data_bytes records) → None ≡ end_if_fits (length old) from (flat_map data_bytes (groups per (bytes_of xs)))
  pub long : 2 ^ 30 < next + length (data_bytes records) → None ≡ end_if_fits (length old) from (flat_map data_bytes (groups per (bytes_of xs)))

module _ (old : List ℕ) (from : ℕ) (s : List ℕ) (per : ℕ) (xs : List Text) (output : List ℕ) (at next end : ℕ) where
  pub next_block : 1 ≤ per → at < length s → DataPutting old from s per xs output at next
      → ((ys : List Text) → at ≤ length s → Row (text_at 0 s) (length s) at ys → Taken 0 s at ys end per) → NextBlock old from s per xs output at next end
  unfolding bytes_of flat_map part records_bytes
  next_block count before p taken = go p.left p.row p.blocks
    where
      go : (ys : List Text) → Row (text_at 0 s) (length s) at ys → groups per (bytes_of xs) ≡ p.done ++ groups per (bytes_of ys) → NextBlock old from s per xs output at next end
      go ys (row_end h) e = absurd (omega arith)
      go ys (row_more u more h step row) e = made (taken (u.item ∷ more) p.within (row_more u more h step row))
        where
          g : List (List ℕ)
          g = bytes_of (take per (u.item ∷ more))

          rest : List (List (List ℕ))
          rest = groups per (bytes_of (drop per (u.item ∷ more)))

          all : groups per (bytes_of xs) ≡ p.done ++ (g ∷ rest)
          all = e ∙ ap (λ l. p.done ++ l) (groups_cons per count u.item.bytes (bytes_of more)
              ∙ ap (λ l. l ∷ groups per (drop per (bytes_of (u.item ∷ more)))) (take-map (λ x. x.bytes) per (u.item ∷ more))
              ∙ ap (λ l. g ∷ groups per l) (drop-map (λ x. x.bytes) per (u.item ∷ more)))

          bytes_are : flat_map data_bytes (groups per (bytes_of xs)) ≡ flat_map data_bytes p.done ++ (data_bytes g ++ flat_map data_bytes rest)
          bytes_are = ap (flat_map data_bytes) all ∙ flat_map_append data_bytes p.done (g ∷ rest)

          long_is : length (flat_map data_bytes (groups per (bytes_of xs))) ≡ length (flat_map data_bytes p.done) + (length (data_bytes g) + length (flat_map data_bytes rest))
          long_is = ap length bytes_are ∙ length-append (flat_map data_bytes p.done) (data_bytes g ++ flat_map data_bytes rest)
              ∙ ap (λ (k : ℕ). length (flat_map data_bytes p.done) + k) (length-append (data_bytes g) (flat_map data_bytes rest))

          one_more : flat_map data_bytes (p.done ++ (g ∷ [])) ≡ flat_map data_bytes p.done ++ data_bytes g
          one_more = flat_map_append data_bytes p.done (g ∷ []) ∙ ap (λ l. flat_map data_bytes p.done ++ l) (append-nil (data_bytes g))

          made : Taken 0 s at (u.item ∷ more) end per → NextBlock old from s per xs output at next end
          made t =
              let ends = p.ends in
              record {
                forward = forward per count refl;
                within = t.within;
                records = g;
                payload = t.bytes;
                put = λ after then a h k f. record {
                  done = p.done ++ (g ∷ []);
                  left = drop per (u.item ∷ more);
                  within = t.within;
                  row = t.row;
                  blocks = all ∙ sym (append_assoc p.done (g ∷ []) rest);
                  ends = a ∙ ap (λ (n : ℕ). n + length (data_bytes g)) ends ∙ added;
                  stands = f ∙ ap (λ z. stored z next (data_bytes g)) p.stands ∙ ap (λ (n : ℕ). stored (stored old from (flat_map data_bytes p.done)) n (data_bytes g)) ends
                      ∙ stored-append old from (flat_map data_bytes p.done) (data_bytes g) (omega arith) ∙ ap (stored old from) (sym one_more);
                  fit = λ some. (h, k);
                };
                full = λ h. not_fitting (length old) from (flat_map data_bytes (groups per (bytes_of xs))) (omega (arith, long_is));
                long = λ h. too_long (length old) from (flat_map data_bytes (groups per (bytes_of xs))) (omega (arith, long_is));
              }
            where
              added : from + length (flat_map data_bytes p.done) + length (data_bytes g) ≡ from + length (flat_map data_bytes (p.done ++ (g ∷ [])))
              added = rw (one_more, length-append (flat_map data_bytes p.done) (data_bytes g)) (omega arith)

              forward : (n : ℕ) → 1 ≤ n → n ≡ per → at < end
              forward zero c m = absurd (omega arith)
              forward (suc n) c m =
                  let some = text_some u.item.bytes in
                  let bytes : length (take (end - at) (drop at s)) ≡ length (text_bytes u.item.bytes) + length (records_bytes (bytes_of (take n more))) =
                  ap length (t.bytes ∙ ap (λ (k : ℕ). records_bytes (bytes_of (take k (u.item ∷ more)))) (sym m))
                  ∙ length-append (text_bytes u.item.bytes) (records_bytes (bytes_of (take n more))) in
                  let cut = length-take (end - at) (drop at s) in
                  omega arith

-- all blocks are put
pub putting_all : (old : List ℕ) (from : ℕ) (s : List ℕ) (per : ℕ) (xs : List Text) (output : List ℕ) (at next : ℕ) → 1 ≤ per → 0 < length s → length s ≤ at
    → DataPutting old from s per xs output at next → DataPut old from (groups per (bytes_of xs)) (Some next) output
unfolding bytes_of
putting_all old from s per xs output at next count some end p = go p.left p.row p.blocks
  where
    go : (ys : List Text) → Row (text_at 0 s) (length s) at ys → groups per (bytes_of xs) ≡ p.done ++ groups per (bytes_of ys) → DataPut old from (groups per (bytes_of xs)) (Some next) output
    go ys (row_more u more before step row) e = absurd (omega arith)
    go ys (row_end h) e =
        let all : groups per (bytes_of xs) ≡ p.done = e ∙ ap (λ l. p.done ++ l) (groups_nil per count) ∙ append-nil p.done in
        let fit = p.fit (omega arith) in
        let ends = p.ends in
        record {
          ends = ap Some ends ∙ fitting (length old) from (flat_map data_bytes p.done) (omega arith) (omega arith)
              ∙ ap (λ l. end_if_fits (length old) from (flat_map data_bytes l)) (sym all);
          stands = λ n put. p.stands ∙ ap (λ l. stored old from (flat_map data_bytes l)) (sym all);
        }

-- a block doesn't fit
pub putting_full : (old : List ℕ) (from : ℕ) (per : ℕ) (xs : List Text) (output : List ℕ) → None ≡ end_if_fits (length old) from (flat_map data_bytes (groups per (bytes_of xs)))
    → DataPut old from (groups per (bytes_of xs)) None output
putting_full old from per xs output e = record { ends = e; stands = λ n put. cc }

pub putting_length : (old : List ℕ) (from : ℕ) (s : List ℕ) (per : ℕ) (xs : List Text) (output : List ℕ) (at next : ℕ) → DataPutting old from s per xs output at next
    → length output ≡ length old
putting_length old from s per xs output at next p = ap length p.stands ∙ length-stored old from (flat_map data_bytes p.done)

-- what putting the next block leads to
module _ (old : List ℕ) (from : ℕ) (s : List ℕ) (per : ℕ) (xs : List Text) (output : List ℕ) (at next end : ℕ) (n : NextBlock old from s per xs output at next end)
    (same : length output ≡ length old) where
  block_is : block_bytes 0 (take (end - at) (drop at s)) ≡ data_bytes n.records
  unfolding data_bytes
  block_is = ap (block_bytes 0) n.payload

  -- it doesn't fit
  pub block_none : None ≡ stored_size output next (block_bytes 0 (take (end - at) (drop at s)))
      → None ≡ end_if_fits (length old) from (flat_map data_bytes (groups per (bytes_of xs)))
  block_none none = let l = stored_size_none output next (data_bytes n.records) (none ∙ ap (stored_size output next) block_is) in n.full (omega arith)

  module _ (size : ℕ) (sized : Some size ≡ stored_size output next (block_bytes 0 (take (end - at) (drop at s)))) where
    fits : (size ≡ length (data_bytes n.records)) × (next + length (data_bytes n.records) ≤ length output)
    fits = stored_size_some output next (data_bytes n.records) (sized ∙ ap (stored_size output next) block_is)

    pub block_room : next + size ≤ length old
    block_room = let l = fits in omega (arith, l.0, l.1)

    pub block_long : 2 ^ 30 < next + size → None ≡ end_if_fits (length old) from (flat_map data_bytes (groups per (bytes_of xs)))
    block_long h = let l = fits in n.long (omega (arith, l.0))

    pub block_put : next + size ≤ 2 ^ 30 → (then : List ℕ) → then ≡ stored output next (block_bytes 0 (take (end - at) (drop at s))) → DataPutting old from s per xs then end (next + size)
    block_put h then e =
        n.put (next + size) then (ap (λ (k : ℕ). next + k) fits.0) block_room h (e ∙ ap (stored output next) block_is)
