-- The file that is put, step by step: it is begun, the data blocks are put, and it is finished.
-- Assumes nothing.
use mathlib.Core.Path.{◌≡◌, sym, ap, ◌∙◌, subst}
use mathlib.Core.Bool.{true}
use mathlib.Core.List.{List, [], flat_map, map}
use Rattle.std.specs.Prelude.{Option, Some, None}
use Prim.Native.Nat.{ℕ, ◌+◌, ◌^◌, ◌≤◌, ◌<◌}
use native.Mathlib.Omega.{arith}
use lib.ListN.{length}
use Rattle.byte_string.specs.Order.{AreBytes}
use Rattle.outcome.specs.Outcome.{answer}
use Rattle.lists.specs.Groups.{groups}
use Rattle.lists.proofs.GroupsLaws.{groups_member}
use Rattle.items.proofs.ItemsLaws.{Row}
use Rattle.payload.specs.Payload.{Text, text_at}
use Rattle.output_list.specs.OutputList.{zeros}
use Rattle.sha256.specs.declared.State.{State}
use Rattle.sha256.specs.Sha256.{sha256}
use Rattle.sha256.specs.State.{begun, absorbed, finished, none, more}
use Rattle.sha256.proofs.StateLaws.{Holds⇒sha256}
use Rattle.layout.specs.Blocks.{records_bytes, data_bytes}
use Rattle.layout.specs.File.{blocks_start, file_of, file_fits}
use Rattle.layout.proofs.FileBackLaws.{length_file}
use Rattle.layout.proofs.KeyLaws.{Filled}
use Rattle.file_encoder.specs.Begun.{blocks_begin, with_header, Begun, FilePut}
use Rattle.file_encoder.proofs.FitLaws.{fits⁻¹, end_some, end_none, file_long, put-nothing, put_room}
use Rattle.file_encoder.proofs.BeginLaws.{begun_not, begun_none, begun_more}
use Rattle.layout.proofs.PayloadBackLaws.{payloads_shorter}
use Rattle.writer.specs.Write.{records_to_write}
use Rattle.writer.specs.Steps.{DataPut}
use Rattle.writer.proofs.DataLaws.{bytes_of}
use Rattle.writer.proofs.ReadyLaws.{Ready, ready, ready⇒joined}

-- the hash of an input that is taken whole
hash_whole : (input : List ℕ) {state : State} {hash : List ℕ} → length input < 2 ^ 61 → state ≡ absorbed begun input → hash ≡ finished state
    → hash ≡ sha256 input
hash_whole input short e f = f ∙ ap finished e ∙ Holds⇒sha256 input (absorbed begun input) (more none input) short

module _ (metadata input : List ℕ) (b i : ℕ) (old : List ℕ) (rs : List (List ℕ)) (read : records_to_write metadata input b i ≡ answer rs) where
  abbrev blocks : List (List (List ℕ))
  blocks = groups b rs

  abbrev file : List ℕ
  file = file_of metadata blocks i

  abbrev D : List ℕ
  D = flat_map data_bytes blocks

  known : Ready metadata input b i rs
  known = ready metadata input b i rs read

  filled : Filled blocks
  filled g m = let k = groups_member b known.block_count rs g m in omega (arith, k.0)

  -- no room for the header
  pub header_none : None ≡ blocks_begin (length old) metadata → (output : List ℕ) → FilePut (length old) (file_of metadata (groups b rs) i) None output
  header_none begins output =
      put-nothing (length old) file output (blocks_start metadata) (omega (arith, length_file metadata blocks i)) (begun_not (length old) metadata begins)

  module _ (from : ℕ) (begins : Some from ≡ blocks_begin (length old) metadata) (zero : old ≡ zeros (length old)) (first : List ℕ)
      (head : first ≡ with_header old metadata) (same : length first ≡ length old) (put-to : Option ℕ) (second : List ℕ)
      (put : (xs : List Text) → Row (text_at 0 input) (length input) 0 xs → DataPut first from (groups b (map (λ x. x.bytes) xs)) put-to second) where
    laid : DataPut first from blocks put-to second
    unfolding bytes_of
    laid = subst (λ l. DataPut first from (groups b l) put-to second) (sym known.same) (put known.texts known.row)

    start : Begun metadata [] first from from
    start = begun_none old metadata zero begins head

    -- the data blocks don't fit
    pub data_none : None ≡ put-to → (output : List ℕ) → FilePut (length old) (file_of metadata (groups b rs) i) None output
    data_none out output =
        put_room same (put-nothing (length first) file output (from + length D) within (end_none (length first) from D (out ∙ laid.ends)))
      where
        within : from + length D ≤ length file
        within = let from_is = start.begins in let long = file_long metadata blocks i in omega arith

    module _ (to : ℕ) (reached : Some to ≡ put-to) where
      ends : (to ≡ from + length D) × (file_fits (length first) to ≡ true)
      ends = end_some (length first) from D (reached ∙ laid.ends)

      -- the data blocks stand
      data_done : Begun metadata blocks second from to
      data_done = begun_more metadata [] first from from start blocks filled ends.0 ends.1 (laid.stands to (sym reached))

      joined : AreBytes input → flat_map records_bytes blocks ≡ input
      joined bytes = ready⇒joined metadata input b i rs bytes known

      hashed : AreBytes input → {state : State} {hash : List ℕ} → state ≡ absorbed begun input → hash ≡ finished state
          → hash ≡ sha256 (flat_map records_bytes blocks)
      hashed bytes s h = hash_whole input (short (ap length (joined bytes)) (fits⁻¹ (length first) to ends.1).1) s h ∙ ap sha256 (sym (joined bytes))
        where
          short : length (flat_map records_bytes blocks) ≡ length input → to ≤ 2 ^ 30 → length input < 2 ^ 61
          short l k = let few = payloads_shorter blocks in let to_is = ends.0 in omega arith

      -- the file is finished, as far as it fits
      pub file_done : AreBytes input → length second ≡ length first → {state : State} {hash : List ℕ} → state ≡ absorbed begun input → hash ≡ finished state
          → {end : Option ℕ} {third : List ℕ} → ((metadata : List ℕ) (blocks : List (List (List ℕ))) → 2 ≤ i → Begun metadata blocks second from to
          → hash ≡ sha256 (flat_map records_bytes blocks)
          → FilePut (length second) (file_of metadata blocks i) end third × (end ≡ None → third ≡ second))
          → FilePut (length old) (file_of metadata (groups b rs) i) end third
      file_done bytes long s h finish = put_room (long ∙ same) (finish metadata blocks known.index_count data_done (hashed bytes s h)).0
