-- Laws of a file that is begun: the header as far as it is known, then data blocks.
-- Assumes nothing.
use mathlib.Core.Path.{◌≡◌, refl, sym, ap, ◌∙◌}
use mathlib.Core.Bool.{Bool, true, false, cond, false≢true}
use mathlib.Core.Logic.{◌⊎◌, inl, inr}
use mathlib.Core.List.Memᴰ
use mathlib.Core.List.{List, [], ◌++◌, flat_map, append_assoc, append-nil, Memᴰ}
use Rattle.std.specs.Prelude.{Some, None}
use Rattle.std.specs.Bool.{then_some}
use Prim.Native.Nat.{ℕ, ◌+◌, ◌≤◌, ◌<◌}
use native.Mathlib.Omega.{arith}
use lib.Dec.{leb}
use lib.ListN.{length, length-append}
use borrow.Author.Tests.{le-leb, lt-leb}
use Rattle.lists.proofs.ListsLaws.{flat_map_append}
use Rattle.output_list.specs.OutputList.{padded, zeros}
use Rattle.output_list.proofs.OutputListLaws.{padded_nil}
use Rattle.output_bytes.specs.OutputBytes.{stored}
use Rattle.output_bytes.proofs.OutputBytesLaws.{length-stored, stored-padded}
use Rattle.layout.specs.Blocks.{data_bytes}
use Rattle.layout.specs.File.{blocks_start, unfinished_header, file_fits}
use Rattle.layout.proofs.HeaderBackLaws.{length_unfinished}
use Rattle.layout.proofs.KeyLaws.{Filled}
use Rattle.file_encoder.specs.Begun.{blocks_begin, with_header, begun_file, Begun}
use Rattle.file_encoder.proofs.FitLaws.{fits⁻¹}

-- ---- what `begin_file` answers: `room` is how much of the output a file may fill

module _ (output metadata : List ℕ) (room : ℕ) (limit : (end : ℕ) → file_fits (length output) end ≡ leb end room) where
  -- the header doesn't fit
  pub begin_none : room < 104 + length metadata
      → (None ≡ blocks_begin (length output) metadata) × (output ≡ with_header output metadata)
  unfolding blocks_begin with_header blocks_start
  begin_none h =
      let no : file_fits (length output) (104 + length metadata) ≡ false = limit (104 + length metadata) ∙ lt-leb (104 + length metadata) room h in
      (rw no, rw no)

  -- the header is put
  pub begin_some : 104 + length metadata ≤ room → (from : ℕ) → from ≡ 104 + length metadata
      → (then : List ℕ) → then ≡ stored output 0 (unfinished_header metadata)
      → (Some from ≡ blocks_begin (length output) metadata) × (then ≡ with_header output metadata)
  unfolding blocks_begin with_header blocks_start
  begin_some h from f then e =
      let yes : file_fits (length output) (104 + length metadata) ≡ true = limit (104 + length metadata) ∙ le-leb (104 + length metadata) room h in
      (rw yes (ap Some f), rw yes e)

-- ---- what stands then

-- the header doesn't fit
pub begun_not : (room : ℕ) (metadata : List ℕ) → None ≡ blocks_begin room metadata → file_fits room (blocks_start metadata) ≡ false
unfolding blocks_begin
begun_not room metadata e = go (file_fits room (blocks_start metadata)) e
  where
    go : (b : Bool) → None ≡ then_some b (blocks_start metadata) → b ≡ false
    go true f = cc
    go false f = refl

-- the header fits
pub begun_yes : (room : ℕ) (metadata : List ℕ) {from : ℕ} → Some from ≡ blocks_begin room metadata
    → (from ≡ blocks_start metadata) × (file_fits room (blocks_start metadata) ≡ true)
unfolding blocks_begin
begun_yes room metadata {from} e = go (file_fits room (blocks_start metadata)) e
  where
    go : (b : Bool) → Some from ≡ then_some b (blocks_start metadata) → (from ≡ blocks_start metadata) × (b ≡ true)
    go true f = (cc, refl)
    go false f = cc

-- an output keeps its length
pub header_long : (output metadata : List ℕ) → length (with_header output metadata) ≡ length output
unfolding with_header
header_long output metadata = go (file_fits (length output) (blocks_start metadata))
  where
    go : (b : Bool) → length (cond b (stored output 0 (unfinished_header metadata)) output) ≡ length output
    go true = length-stored output 0 (unfinished_header metadata)
    go false = refl

-- a file is begun in an output of zeros
pub begun_none : (old metadata : List ℕ) → old ≡ zeros (length old) → {from : ℕ} → Some from ≡ blocks_begin (length old) metadata
    → {output : List ℕ} → output ≡ with_header old metadata → Begun metadata [] output from from
unfolding with_header begun_file flat_map
begun_none old metadata zero {from} e {output} f =
    go (file_fits (length old) (blocks_start metadata)) refl (begun_yes (length old) metadata e).1 (begun_yes (length old) metadata e).0 f
  where
    U : List ℕ
    U = unfinished_header metadata

    go : (b : Bool) → file_fits (length old) (blocks_start metadata) ≡ b → b ≡ true → from ≡ blocks_start metadata → output ≡ cond b (stored old 0 U) old
        → Begun metadata [] output from from
    go false h t e f = absurd (false≢true t)
    go true h t e f =
        let same : length output ≡ length old = ap length f ∙ length-stored old 0 U in
        record {
          stands = f ∙ ap (λ o. stored o 0 U) (zero ∙ sym (padded_nil (length old))) ∙ stored-padded (length old) [] U (enough (fits⁻¹ (length old) _ h).0)
              ∙ ap (padded (length old)) (sym (append-nil U)) ∙ ap (λ (n : ℕ). padded n (U ++ [])) (sym same);
          begins = e;
          ends = e ∙ plus_none (blocks_start metadata);
          fits = ap (file_fits (length output)) e ∙ ap (λ (n : ℕ). file_fits n (blocks_start metadata)) same ∙ h;
          filled = λ g m. absurd (Memᴰ.not-nil m);
        }
      where
        enough : blocks_start metadata ≤ length old → 0 + length U ≤ length old
        enough l = let long = length_unfinished metadata in omega arith

        plus_none : (n : ℕ) → n ≡ n + 0
        plus_none n = omega arith

-- ---- data blocks

module _ (metadata : List ℕ) (blocks : List (List (List ℕ))) (output : List ℕ) (from to : ℕ) (b : Begun metadata blocks output from to) where
  -- what stands, up to the zeros
  abbrev S : List ℕ
  S = unfinished_header metadata ++ flat_map data_bytes blocks

  pub begun_long : length (unfinished_header metadata ++ flat_map data_bytes blocks) ≡ to
  begun_long =
      length-append (unfinished_header metadata) (flat_map data_bytes blocks)
      ∙ ap (λ (n : ℕ). n + length (flat_map data_bytes blocks)) (length_unfinished metadata) ∙ sym b.ends

  pub begun_stands : output ≡ padded (length output) (unfinished_header metadata ++ flat_map data_bytes blocks)
  unfolding begun_file
  begun_stands = b.stands

  -- bytes stored behind what stands
  pub begun-stored : (bytes : List ℕ) → to + length bytes ≤ length output → stored output to bytes ≡ padded (length output) (S ++ bytes)
  begun-stored bytes h =
      ap (λ o. stored o to bytes) begun_stands ∙ ap (λ (n : ℕ). stored (padded (length output) S) n bytes) (sym begun_long)
      ∙ stored-padded (length output) S bytes (let long = begun_long in omega arith)

  -- data blocks put behind those that stand
  pub begun_more : (more : List (List (List ℕ))) → Filled more → {end : ℕ} → end ≡ to + length (flat_map data_bytes more) → file_fits (length output) end ≡ true
      → {then : List ℕ} → then ≡ stored output to (flat_map data_bytes more) → Begun metadata (blocks ++ more) then from end
  unfolding begun_file
  begun_more more filled {end} e h {then} f =
      record {
        stands = f ∙ begun-stored D (enough (fits⁻¹ (length output) end h).0) ∙ ap (padded (length output)) joined
            ∙ ap (λ (n : ℕ). padded n (unfinished_header metadata ++ flat_map data_bytes (blocks ++ more))) (sym same);
        begins = b.begins;
        ends = e ∙ ap (λ (n : ℕ). n + length D) b.ends ∙ sum;
        fits = ap (λ (n : ℕ). file_fits n end) same ∙ h;
        filled = λ g m. both g (Memᴰ.append_cases blocks m);
      }
    where
      D : List ℕ
      D = flat_map data_bytes more

      same : length then ≡ length output
      same = ap length f ∙ length-stored output to D

      enough : end ≤ length output → to + length D ≤ length output
      enough l = omega arith

      joined : S ++ D ≡ unfinished_header metadata ++ flat_map data_bytes (blocks ++ more)
      joined = append_assoc (unfinished_header metadata) (flat_map data_bytes blocks) D
          ∙ ap (λ l. unfinished_header metadata ++ l) (sym (flat_map_append data_bytes blocks more))

      sum : blocks_start metadata + length (flat_map data_bytes blocks) + length D ≡ blocks_start metadata + length (flat_map data_bytes (blocks ++ more))
      sum = rw (flat_map_append data_bytes blocks more, length-append (flat_map data_bytes blocks) D) (omega arith)

      both : (g : List (List ℕ)) → Memᴰ g blocks ⊎ Memᴰ g more → 0 < length g
      both g (inl m) = b.filled g m
      both g (inr m) = filled g m
