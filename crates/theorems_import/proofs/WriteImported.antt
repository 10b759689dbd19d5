-- What importing gives, the writer takes: it refuses none of it for its form or order, and the file reads back as the records.
-- Assumes nothing.
use mathlib.Core.Path.{◌≡◌, refl, sym, ap, subst}
use mathlib.Core.Logic.{◌≢◌}
use mathlib.Core.Bool.{false}
use mathlib.Core.List.Memᴰ
use mathlib.Core.List.{List, [], map, Memᴰ}
use Prim.Native.Nat.{ℕ, ◌≤◌}
use native.Mathlib.Omega.{arith}
use lib.ListN.{length, take}
use Rattle.payload.specs.Payload.{Text}
use Rattle.block.specs.Block.{Block}
use Rattle.layout.specs.Blocks.{records_bytes}
use Rattle.written.specs.declared.Written.{Written}
use Rattle.query.specs.Query.{query_of}
use Rattle.matching.specs.ResultList.{room_for}
use Rattle.reader.specs.declared.ReadAnswer.{ReadAnswer}
use Rattle.sorting.proofs.PermutationLaws.{permutation_member}
use Rattle.sim.specs.Adn.{record_of}
use Rattle.sim.proofs.AdnLaws.{record_short}
use Rattle.sim_import.specs.Import.{occupied}
use Rattle.theorems_check.specs.Rules.{Sorted}
use Rattle.theorems_read.specs.ReadByRules.{GivesMatches, ReadByRules}
use Rattle.theorems_write.specs.WrittenByRules.{InputOf, HoldsRecords, WrittenByRules, Ends, malformed, unsorted}
use Rattle.theorems_write.proofs.InputTheorems.{input_unique}
use Rattle.theorems_write.proofs.NumberTheorems as written
use Rattle.theorems_write.proofs.ReadBack.{written⇒read_all}
use Rattle.theorems_import.specs.ImportedByRules.{IsDump, Imported, ImportedByRules}
use Rattle.theorems_import.proofs.RecordTheorems.{dump_records, occupied_exactly}
use Rattle.theorems_import.proofs.NumberTheorems.{exact_0}
use Rattle.theorems_import.proofs.GivenTheorems.{some_exactly}

-- ---- the records are short

module _ (x : ℕ) (dump : List ℕ) (rs : List (List ℕ)) (i : Imported x dump rs) (d : IsDump x dump) where
  -- at most 255 bytes each
  pub imported_short : (r : List ℕ) → Memᴰ r rs → length r ≤ 255
  unfolding IsDump
  imported_short r m =
      let of = Memᴰ.of_map (record_of x) (occupied x dump) (permutation_member r i.each m) in
      let whole = dump_records x dump d of.0 ((occupied_exactly x dump of.0).0 of.1).0 in
      let less = record_short x of.0 in
      let same = ap length of.2 in
      let narrow = d.0 in
      omega arith

  module _ (some : rs ≢ []) where
    -- they are an input of the writer
    pub imported_input : InputOf (records_bytes rs) rs
    imported_input = record { bytes = refl; some = some; short = λ r m. let short = imported_short r m in omega arith }

    module _ (metadata : List ℕ) (per_block per_index room : ℕ) (w : Written) (output : List ℕ)
        (by-rules : WrittenByRules metadata (records_bytes rs) per_block per_index room w output) where
      -- never refused for 28 or 29
      pub import⇒not_28_29 : (w.number ≢ 28) × (w.number ≢ 29)
      import⇒not_28_29 = (
        λ e. formed ((written.number_exactly metadata (records_bytes rs) per_block per_index room w output by-rules 28).0 e),
        λ e. risen ((written.number_exactly metadata (records_bytes rs) per_block per_index room w output by-rules 29).0 e),
      )
        where
          formed : Ends metadata (records_bytes rs) per_block per_index room 28 → ⊥
          formed (malformed c m none) = none rs imported_input

          risen : Ends metadata (records_bytes rs) per_block per_index room 29 → ⊥
          risen (unsorted c m ss s f) = f (subst Sorted (input_unique (records_bytes rs) rs ss imported_input s) i.rises)

      -- the written file holds these records
      pub import⇒holds : w.number ≡ 0 → (bs : List Block) × HoldsRecords metadata (records_bytes rs) rs (take w.length output) bs
      import⇒holds z =
          let of = by-rules.written rs imported_input z in
          subst (λ (file : List ℕ). (bs : List Block) × HoldsRecords metadata (records_bytes rs) rs file bs) (sym of.0.front_is) (of.1.0, of.1.1)

      -- and reads back as these, in order, each as often
      pub import⇒reads_back : w.number ≡ 0 → (stop : List ℕ) (results-room : ℕ) (r : ReadAnswer) (results : List ℕ)
          → ReadByRules (take w.length output) (query_of [] false stop []) results-room r results → room_for (length rs) ≤ results-room
          → (ms : List Text) × (map (λ m. m.bytes) ms ≡ rs) × GivesMatches (take w.length output) ms results-room r results
      import⇒reads_back z stop results-room r results read fits =
          let held = import⇒holds z in
          written⇒read_all metadata (records_bytes rs) rs (take w.length output) held.0 held.1 stop results-room r results read fits

-- ---- importing, then writing

-- The writer is handed what the import's output holds, of a dump with a record that isn't free: it isn't refused for 28 or 29, and the file that
-- is written holds the imported records.
pub import_then_write : (dump : List ℕ) (x room : ℕ) (r : Written) (output : List ℕ) → ImportedByRules dump x room r output → r.number ≡ 0
    → occupied x dump ≢ [] → (metadata : List ℕ) (per_block per_index file-room : ℕ) (w : Written) (file : List ℕ)
    → WrittenByRules metadata (take r.length output) per_block per_index file-room w file
    → (rs : List (List ℕ)) × Imported x dump rs × (w.number ≢ 28) × (w.number ≢ 29)
    × (w.number ≡ 0 → (bs : List Block) × HoldsRecords metadata (records_bytes rs) rs (take w.length file) bs)
import_then_write dump x room r output import z some metadata per_block per_index file-room w file by-rules =
    let given = import.given z in
    let rs = given.0 in
    let i = given.1 in
    let d = ((exact_0 dump x room r output import).0 z).0 in
    let rs-some = (some_exactly x dump rs i).1 some in
    let taken = subst (λ (input : List ℕ). WrittenByRules metadata input per_block per_index file-room w file) given.2.front_is by-rules in
    let sound = import⇒not_28_29 x dump rs i d rs-some metadata per_block per_index file-room w file taken in
    (rs, i, sound.0, sound.1, import⇒holds x dump rs i d rs-some metadata per_block per_index file-room w file taken)
