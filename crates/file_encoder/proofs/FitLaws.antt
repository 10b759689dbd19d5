-- Laws of what fits an output.
-- Assumes nothing.
use mathlib.Core.Path.{◌≡◌, refl, sym, ap, ◌∙◌, subst}
use mathlib.Core.Bool.{Bool, true, false, ◌&&◌, false≢true}
use mathlib.Core.List.{List, flat_map}
use Rattle.std.specs.Prelude.{Option, Some, None}
use Rattle.std.specs.Bool.{then_some}
use Prim.Native.Nat.{ℕ, ◌+◌, ◌^◌, ◌≤◌, ◌<◌}
use native.Mathlib.Omega.{arith}
use lib.Dec.{leb}
use lib.ListN.{length, length-append}
use borrow.Author.Tests.{le-leb, lt-leb, leb-true}
use Rattle.output_list.specs.OutputList.{padded}
use Rattle.layout.specs.Blocks.{data_bytes}
use Rattle.layout.specs.Index.{index_bytes}
use Rattle.layout.specs.File.{blocks_start, data_part, index_blocks, blocks_part, file_of, file_fits}
use Rattle.layout.proofs.FileBackLaws.{length_file}
use Rattle.file_encoder.specs.Begun.{end_if_fits, FilePut}

-- ---- a length

pub fits : (room end : ℕ) → end ≤ room → end ≤ 2 ^ 30 → file_fits room end ≡ true
unfolding file_fits
fits room end h k = rw (le-leb end room h, le-leb end (2 ^ 30) k)

pub fits⁻¹ : (room end : ℕ) → file_fits room end ≡ true → (end ≤ room) × (end ≤ 2 ^ 30)
unfolding file_fits
fits⁻¹ room end e = go (leb end room) (leb end (2 ^ 30)) refl refl e
  where
    go : (a b : Bool) → leb end room ≡ a → leb end (2 ^ 30) ≡ b → (a && b) ≡ true → (end ≤ room) × (end ≤ 2 ^ 30)
    go true true p q h = (leb-true end room p, leb-true end (2 ^ 30) q)
    go true false p q h = absurd (false≢true h)
    go false b p q h = absurd (false≢true h)

-- what is shorter fits too
pub fits_less : (room m n : ℕ) → m ≤ n → file_fits room n ≡ true → file_fits room m ≡ true
fits_less room m n h e = let k = fits⁻¹ room n e in fits room m (omega (arith, k.0)) (omega (arith, k.1))

-- ---- where bytes end

module _ (room from : ℕ) (bytes : List ℕ) where
  pub end_yes : file_fits room (from + length bytes) ≡ true → Some (from + length bytes) ≡ end_if_fits room from bytes
  unfolding end_if_fits
  end_yes h = rw h

  pub end_no : file_fits room (from + length bytes) ≡ false → None ≡ end_if_fits room from bytes
  unfolding end_if_fits
  end_no h = rw h

  pub not_fitting : room < from + length bytes → None ≡ end_if_fits room from bytes
  unfolding file_fits
  not_fitting h = end_no (rw (lt-leb (from + length bytes) room h))

  pub too_long : 2 ^ 30 < from + length bytes → None ≡ end_if_fits room from bytes
  unfolding file_fits
  too_long h = end_no (rw (lt-leb (from + length bytes) (2 ^ 30) h) (go (leb (from + length bytes) room)))
    where
      go : (b : Bool) → (b && false) ≡ false
      go true = refl
      go false = refl

  pub fitting : from + length bytes ≤ room → from + length bytes ≤ 2 ^ 30 → Some (from + length bytes) ≡ end_if_fits room from bytes
  fitting h k = end_yes (fits room (from + length bytes) h k)

  -- what an end says
  pub end_some : {end : ℕ} → Some end ≡ end_if_fits room from bytes → (end ≡ from + length bytes) × (file_fits room end ≡ true)
  unfolding end_if_fits
  end_some {end} e = go (file_fits room (from + length bytes)) refl e
    where
      go : (b : Bool) → file_fits room (from + length bytes) ≡ b → Some end ≡ then_some b (from + length bytes)
          → (end ≡ from + length bytes) × (file_fits room end ≡ true)
      go true h f = let same : end ≡ from + length bytes = cc in (same, ap (file_fits room) same ∙ h)
      go false h f = cc

  pub end_none : None ≡ end_if_fits room from bytes → file_fits room (from + length bytes) ≡ false
  unfolding end_if_fits
  end_none e = go (file_fits room (from + length bytes)) e
    where
      go : (b : Bool) → None ≡ then_some b (from + length bytes) → b ≡ false
      go true f = cc
      go false f = refl

-- ---- the file

pub file_long : (metadata : List ℕ) (blocks : List (List (List ℕ))) (per_index : ℕ)
    → length (file_of metadata blocks per_index) ≡ blocks_start metadata + length (flat_map data_bytes blocks)
    + length (flat_map index_bytes (index_blocks per_index (blocks_start metadata) blocks))
unfolding blocks_part data_part
file_long metadata blocks per_index =
    let sum = length-append (flat_map data_bytes blocks) (flat_map index_bytes (index_blocks per_index (blocks_start metadata) blocks)) in
    length_file metadata blocks per_index ∙ rw sum (omega arith)

-- a file that is put whole
pub put_whole : (room : ℕ) (file : List ℕ) {end : ℕ} {output : List ℕ} → end ≡ length file → file_fits room end ≡ true → output ≡ padded room file
    → FilePut room file (Some end) output
put_whole room file {end} e h o = record { ends = ap Some same ∙ end_yes room 0 file (ap (file_fits room) (sym same) ∙ h); stands = λ n put. o }
  where
    same : end ≡ 0 + length file
    same = omega arith

-- where a beginning of the file doesn't fit, the file doesn't
pub put-nothing : (room : ℕ) (file output : List ℕ) (n : ℕ) → n ≤ length file → file_fits room n ≡ false → FilePut room file None output
put-nothing room file output n h e = record { ends = end_no room 0 file (go (file_fits room (0 + length file)) refl); stands = λ n put. cc }
  where
    go : (b : Bool) → file_fits room (0 + length file) ≡ b → b ≡ false
    go true f = absurd (false≢true (sym e ∙ fits_less room n (0 + length file) (omega arith) f))
    go false f = refl

-- an output keeps its length
pub put_room : {room same : ℕ} {end : Option ℕ} {file output : List ℕ} → same ≡ room → FilePut same file end output → FilePut room file end output
put_room {end = end} {file = file} {output = output} e p = subst (λ (n : ℕ). FilePut n file end output) e p
