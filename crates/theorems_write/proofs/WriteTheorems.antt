-- Writing is as claimed.
-- Assumes nothing.
use mathlib.Core.Path.{◌≡◌, refl, sym, ◌∙◌, subst}
use mathlib.Core.Logic.{◌≢◌}
use mathlib.Core.Bool.{Bool, true, false, ◌&&◌, false≢true}
use mathlib.Core.List.{List}
use Prim.Native.Nat.{ℕ, ◌^◌}
use native.Mathlib.Omega.{arith}
use lib.Dec.{leb}
use lib.ListN.{length}
use borrow.Author.Tests.{leb-true, le-leb}
use Rattle.lists.specs.Groups.{groups}
use Rattle.lists.proofs.ListsLaws.{both, both⁻¹}
use Rattle.output_list.specs.OutputList.{padded}
use Rattle.output_list.proofs.OutputListLaws.{take-padded}
use Rattle.outcome.specs.Outcome.{Outcome, answer, refused, number_of, place_of, count_of, list_of}
use Rattle.outcome.proofs.OutcomeLaws.{kept, broken, bind_answer, bind_refused}
use Rattle.byte_string.specs.Order.{AreBytes}
use Rattle.header.specs.Metadata.{Metadata, is_metadata}
use Rattle.header.proofs.MetadataLaws.{is_metadata⇒Metadata, Metadata⇒is_metadata}
use Rattle.block.specs.Block.{Block}
use Rattle.layout.specs.File.{blocks_start, file_of, counts_fit, file_fits}
use Rattle.layout.specs.Placed.{placed_blocks}
use Rattle.written.specs.declared.Written.{Written}
use Rattle.written.specs.Written.{written_answer, written_output}
use Rattle.writer.specs.Write.{input_of, records_to_write, write_of}
use Rattle.writer.proofs.InputRuleLaws.{refused_at_30, refused_at_9, to_input}
use Rattle.theorems_check.specs.Rules.{Sorted}
use Rattle.theorems_layout.specs.WrittenLayout.{WrittenLayout}
use Rattle.theorems_write.specs.WrittenByRules.{CountsFit, InputOf, Fits, HoldsRecords, HoldsFile, WrittenByRules}
use Rattle.theorems_write.specs.WrittenByRules.{Ends, counts_out_of_range, no_metadata, malformed, unsorted, too_long, done}
use Rattle.theorems_write.proofs.InputTheorems.{InputEnds, sorted, input_ends, input_unique}
use Rattle.theorems_write.proofs.InputTheorems as reading
use Rattle.theorems_write.proofs.FileHolds.{file_holds, file_laid}

-- ---- the tests

counts⇒CountsFit : (b i : ℕ) → counts_fit b i ≡ true → CountsFit b i
unfolding counts_fit CountsFit
counts⇒CountsFit b i e =
    let p = both⁻¹ (leb 1 b && leb b 65535) (leb 2 i && leb i 65535) e in
    let block = both⁻¹ (leb 1 b) (leb b 65535) p.0 in
    let index = both⁻¹ (leb 2 i) (leb i 65535) p.1 in (
      omega (arith, leb-true 1 b block.0),
      omega (arith, leb-true b 65535 block.1),
      omega (arith, leb-true 2 i index.0),
      omega (arith, leb-true i 65535 index.1),
    )

CountsFit⇒counts : (b i : ℕ) → CountsFit b i → counts_fit b i ≡ true
unfolding counts_fit CountsFit
CountsFit⇒counts b i c =
    both _ _ (both _ _ (le-leb 1 b (omega (arith, c.0))) (le-leb b 65535 (omega (arith, c.1))))
    (both _ _ (le-leb 2 i (omega (arith, c.2))) (le-leb i 65535 (omega (arith, c.3))))

fits⇒Fits : (room : ℕ) (file : List ℕ) → file_fits room (length file) ≡ true → Fits room file
unfolding file_fits Fits
fits⇒Fits room file e =
    let p = both⁻¹ (leb (length file) room) (leb (length file) (2 ^ 30)) e in
    (omega (arith, leb-true (length file) room p.0), omega (arith, leb-true (length file) (2 ^ 30) p.1))

Fits⇒fits : (room : ℕ) (file : List ℕ) → Fits room file → file_fits room (length file) ≡ true
unfolding file_fits Fits
Fits⇒fits room file f = both _ _ (le-leb (length file) room (omega (arith, f.0))) (le-leb (length file) (2 ^ 30) (omega (arith, f.1)))

-- ---- the answer and the output

module _ (metadata input : List ℕ) (per_block per_index room : ℕ) where
  abbrev file : List (List ℕ) → List ℕ
  file rs = file_of metadata (groups per_block rs) per_index

  -- answer and output of this outcome are as claimed
  abbrev AsClaimed : Outcome (List ℕ) → Type 0
  AsClaimed o = WrittenByRules metadata input per_block per_index room (written_answer o) (written_output room o)

  refused_claimed : (n : ℕ) → n ≢ 0 → Ends metadata input per_block per_index room n → AsClaimed (refused n 0)
  unfolding written_answer written_output number_of place_of count_of list_of
  refused_claimed n some ends = record { ends = ends; place = refl; refused = λ _. (refl, refl); written = λ rs r z. absurd (some z) }

  module _ (metadata_bytes : AreBytes metadata) (input-bytes : AreBytes input) where
    done_claimed : CountsFit per_block per_index → Metadata metadata → (rs : List (List ℕ)) → InputOf input rs → Sorted rs → Fits room (file rs)
        → AsClaimed (answer (file rs))
    unfolding written_answer written_output number_of place_of count_of list_of Fits
    done_claimed c m rs r s f =
        record {
          ends = done c m rs r s f;
          place = refl;
          refused = λ some. absurd (some refl);
          written = λ ss q z. subst Held (input_unique input rs ss r q) (held, (blocks, holds, laid));
        }
      where
        Held : List (List ℕ) → Type 0
        Held ss =
            HoldsFile room (record { number = 0; place = 0; length = length (file rs) }) (padded room (file rs)) (file ss)
            × ((bs : List Block) × HoldsRecords metadata input ss (file ss) bs × WrittenLayout per_block per_index (file ss) bs)

        held : HoldsFile room (record { number = 0; place = 0; length = length (file rs) }) (padded room (file rs)) (file rs)
        held = record { length_is = refl; output_is = refl; front_is = take-padded room (file rs) }

        blocks : List Block
        blocks = placed_blocks per_index (blocks_start metadata) (groups per_block rs)

        holds : HoldsRecords metadata input rs (file rs) blocks
        holds = file_holds metadata input per_block per_index metadata_bytes input-bytes c m rs r s (omega (arith, f.1))

        laid : WrittenLayout per_block per_index (file rs) blocks
        laid = file_laid metadata input per_block per_index metadata_bytes input-bytes c m rs r s (omega (arith, f.1))

    write_claimed : AsClaimed (write_of metadata input per_block per_index room)
    unfolding write_of
    write_claimed = counts (counts_fit per_block per_index) refl
      where
        refuse : (n : ℕ) → n ≢ 0 → records_to_write metadata input per_block per_index ≡ refused n 0 → Ends metadata input per_block per_index room n
            → AsClaimed (write_of metadata input per_block per_index room)
        refuse n some e ends = subst AsClaimed (sym (bind_refused (records_to_write metadata input per_block per_index) _ n 0 e)) (refused_claimed n some ends)

        fit : CountsFit per_block per_index → Metadata metadata → (rs : List (List ℕ)) → InputOf input rs → Sorted rs
            → records_to_write metadata input per_block per_index ≡ answer rs → (b : Bool) → file_fits room (length (file rs)) ≡ b
            → AsClaimed (write_of metadata input per_block per_index room)
        fit c m rs r s e true h =
            subst AsClaimed (sym (bind_answer (records_to_write metadata input per_block per_index) _ rs e ∙ kept (file_fits room (length (file rs))) 31 0 _ h))
            (done_claimed c m rs r s (fits⇒Fits room (file rs) h))
        fit c m rs r s e false h =
            subst AsClaimed (sym (bind_answer (records_to_write metadata input per_block per_index) _ rs e ∙ broken (file_fits room (length (file rs))) 31 0 _ h))
            (refused_claimed 31 (λ z. omega arith) (too_long c m rs r s (λ f. false≢true (sym h ∙ Fits⇒fits room (file rs) f))))

        read : CountsFit per_block per_index → Metadata metadata → (o : Outcome (List (List ℕ))) → InputEnds input o
            → records_to_write metadata input per_block per_index ≡ o → AsClaimed (write_of metadata input per_block per_index room)
        read c m o (sorted rs r s) e = fit c m rs r s e (file_fits room (length (file rs))) refl
        read c m o (reading.unsorted rs r f) e = refuse 29 (λ z. omega arith) e (unsorted c m rs r f)
        read c m o (reading.malformed none) e = refuse 28 (λ z. omega arith) e (malformed c m none)

        rule : counts_fit per_block per_index ≡ true → (b : Bool) → is_metadata metadata ≡ b → AsClaimed (write_of metadata input per_block per_index room)
        rule h true k =
            read (counts⇒CountsFit per_block per_index h) (is_metadata⇒Metadata metadata k) (input_of input) (input_ends input input-bytes)
            (to_input metadata input per_block per_index h k)
        rule h false k =
            refuse 9 (λ z. omega arith) (refused_at_9 metadata input per_block per_index h k)
            (no_metadata (counts⇒CountsFit per_block per_index h) (λ m. false≢true (sym k ∙ Metadata⇒is_metadata metadata m)))

        counts : (b : Bool) → counts_fit per_block per_index ≡ b → AsClaimed (write_of metadata input per_block per_index room)
        counts true h = rule h (is_metadata metadata) refl
        counts false h =
            refuse 30 (λ z. omega arith) (refused_at_30 metadata input per_block per_index h)
            (counts_out_of_range (λ c. false≢true (sym h ∙ CountsFit⇒counts per_block per_index c)))

    -- of an answer and an output that are the writer's
    pub write_by_rules : (r : Written) (output : List ℕ) → r ≡ written_answer (write_of metadata input per_block per_index room)
        → output ≡ written_output room (write_of metadata input per_block per_index room) → WrittenByRules metadata input per_block per_index room r output
    write_by_rules r output told held = rw (told, held) write_claimed
