-- Laws of a file that is finished: the index behind the data blocks, then the whole header in front of them.
-- Assumes nothing.
use mathlib.Core.Path.{◌≡◌, sym, ap, ◌∙◌}
use mathlib.Core.List.{List, ◌++◌, flat_map, append_assoc}
use Rattle.std.specs.Prelude.{Option, Some, None, Result, Ok, Err}
use Rattle.std.specs.Result.{result_ok}
use Rattle.outcome.specs.declared.Fault.{Fault}
use Rattle.outcome.specs.Fault.{number, said_at}
use Prim.Native.Nat.{ℕ, ◌+◌, ◌-◌, ◌≤◌}
use native.Mathlib.Omega.{arith}
use lib.ListN.{length, length-append}
use Rattle.outcome.specs.Outcome.{answer, refused}
use Rattle.output_list.specs.OutputList.{padded, zeros}
use Rattle.output_list.proofs.OutputListLaws.{padded-append}
use Rattle.sha256.specs.Sha256.{sha256}
use Rattle.sha256.proofs.StateLaws.{sha256-length}
use Rattle.layout.specs.Blocks.{records_bytes, data_bytes}
use Rattle.layout.specs.Index.{IndexEntry, index_bytes}
use Rattle.layout.specs.File.{header_data, header_bytes, unfinished_header, blocks_start, data_part, index_blocks, blocks_part, root_entry, file_of}
use Rattle.layout.proofs.HeaderBackLaws.{length_header, length_unfinished}
use Rattle.layout.proofs.FileBackLaws.{length_file}
use Rattle.index_encoder.specs.Raise.{raise_of, raised_of, with_index}
use Rattle.index_encoder.specs.declared.Raised.{Raised}
use Rattle.file_encoder.specs.Begun.{Begun, FilePut}
use Rattle.file_encoder.proofs.FitLaws.{fits⁻¹, file_long, put_whole, put-nothing}
use Rattle.file_encoder.proofs.BeginLaws.{begun-stored}
use Rattle.file_encoder.proofs.IndexLaws.{raise_none, Raise, raise_some}

-- a front put in the place of another of the same length
padded_front : (room : ℕ) (u h x : List ℕ) → length u ≡ length h → h ++ (x ++ zeros (room - length (u ++ x))) ≡ padded room (h ++ x)
padded_front room u h x same =
    sym (append_assoc h x (zeros (room - length (u ++ x)))) ∙ ap (λ (n : ℕ). h ++ x ++ zeros (room - n)) long ∙ sym (padded-append room (h ++ x))
  where
    long : length (u ++ x) ≡ length (h ++ x)
    long = rw (length-append u x, length-append h x, same)

module _ (metadata : List ℕ) (blocks : List (List (List ℕ))) (per_index : ℕ) (two : 2 ≤ per_index) (output : List ℕ) (from to : ℕ)
    (b : Begun metadata blocks output from to) where
  abbrev room : ℕ
  room = length output

  abbrev file : List ℕ
  file = file_of metadata blocks per_index

  abbrev U : List ℕ
  U = unfinished_header metadata

  abbrev B : List ℕ
  B = blocks_part per_index (blocks_start metadata) blocks

  abbrev I : List ℕ
  I = flat_map index_bytes (index_blocks per_index (blocks_start metadata) blocks)

  long : length file ≡ to + length I
  long = file_long metadata blocks per_index ∙ ap (λ (n : ℕ). n + length I) (sym b.ends)

  -- no file is begun so low
  pub finish_low : 104 ≤ from
  unfolding blocks_start
  finish_low = let begins = b.begins in omega arith

  -- the index doesn't fit
  pub finish_none : (n : ℕ) (then : List ℕ) → refused n 0 ≡ raised_of per_index output from to → then ≡ with_index output to (raise_of per_index output from to)
      → FilePut (length output) (file_of metadata blocks per_index) None then × (◌≡◌ {A = Option ℕ} None None → then ≡ output)
  finish_none n then e f =
      let none = raise_none metadata blocks per_index two output from to b n then e f in
      (put-nothing room file then (to + length I) (omega (arith, long)) none.0, λ zero. none.1)

  -- as the code says it
  pub finish_refused : (r : Result Raised Fault) (then : List ℕ) → None ≡ result_ok r → said_at 0 r ≡ raised_of per_index output from to
      → then ≡ with_index output to (raise_of per_index output from to)
      → FilePut (length output) (file_of metadata blocks per_index) None then × (◌≡◌ {A = Option ℕ} None None → then ≡ output)
  unfolding said_at
  finish_refused (Ok x) then o e f = cc
  finish_refused (Err fault) then o e f = finish_none (number fault) then e f

  -- index and header are put; m is the length of the metadata
  module _ (r : Raised) (o : Result Raised Fault) (second third hash : List ℕ) (m : ℕ) (put : Some r ≡ result_ok o)
      (said : said_at 0 o ≡ raised_of per_index output from to)
      (f : second ≡ with_index output to (raise_of per_index output from to)) (sum : hash ≡ sha256 (flat_map records_bytes blocks))
      (front : (104 ≤ from) × (m ≡ from - 104))
      (complete : (known rest : List ℕ) → length known ≡ m → second ≡ unfinished_header known ++ rest
      → third ≡ header_bytes (header_data known r.root r.rootsize r.end hash) ++ rest) where
    e : answer r ≡ raised_of per_index output from to
    unfolding said_at
    e = go o put said
      where
        go : (o : Result Raised Fault) → Some r ≡ result_ok o → said_at 0 o ≡ raised_of per_index output from to → answer r ≡ raised_of per_index output from to
        go (Ok x) p q = let same : r ≡ x = cc in ap answer same ∙ q
        go (Err fault) p q = cc

    raised : Raise metadata blocks per_index two output from to b r second
    raised = raise_some metadata blocks per_index two output from to b r second e f

    total : r.end ≡ length file
    total = raised.total ∙ sym long

    index : second ≡ U ++ (B ++ zeros (room - length (U ++ B)))
    unfolding blocks_part data_part
    index =
        let fit = fits⁻¹ room r.end raised.fit in
        let end = raised.total in
        raised.put ∙ begun-stored metadata blocks output from to b I (omega (arith, fit.0))
        ∙ ap (padded room) (append_assoc U (flat_map data_bytes blocks) I) ∙ padded-append room (U ++ B) ∙ append_assoc U B (zeros (room - length (U ++ B)))

    known_long : length metadata ≡ m
    unfolding blocks_start
    known_long = let begins = b.begins in omega arith

    abbrev root : IndexEntry
    root = root_entry per_index (blocks_start metadata) blocks

    abbrev header : ℕ → ℕ → ℕ → List ℕ → List ℕ
    header at size end z = header_bytes (header_data metadata at size end z)

    abbrev H : List ℕ
    H = header root.offset root.size (blocks_start metadata + length B) (sha256 (flat_map records_bytes blocks))

    header_is : header r.root r.rootsize r.end hash ≡ H
    header_is =
        ap (λ (n : ℕ). header n r.rootsize r.end hash) raised.root ∙ ap (λ (n : ℕ). header root.offset n r.end hash) raised.rootsize
        ∙ ap (λ (n : ℕ). header root.offset root.size n hash) (total ∙ length_file metadata blocks per_index)
        ∙ ap (header root.offset root.size (blocks_start metadata + length B)) sum

    header_long : length U ≡ length H
    header_long = length_unfinished metadata
        ∙ sym (length_header metadata _ _ _ (sha256 (flat_map records_bytes blocks)) (sha256-length (flat_map records_bytes blocks)))

    stands : third ≡ padded room file
    unfolding file_of
    stands =
        complete metadata (B ++ zeros (room - length (U ++ B))) known_long index ∙ ap (λ h. h ++ (B ++ zeros (room - length (U ++ B)))) header_is
        ∙ padded_front room U H B header_long

    pub finish_done : FilePut (length output) (file_of metadata blocks per_index) (Some r.end) third × (Some r.end ≡ None → third ≡ output)
    unfolding blocks_start
    finish_done = (
      put_whole room file total raised.fit stands,
      λ none. cc,
    )
