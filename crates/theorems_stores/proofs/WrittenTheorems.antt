-- The stores of what is written are as claimed.
-- Assumes nothing.
use mathlib.Core.Path.{◌≡◌, refl, sym, ap, ◌∙◌, subst}
use mathlib.Core.Bool.{false}
use mathlib.Core.List.{List, []}
use Prim.Native.Nat.{ℕ, zero, suc}
use native.Mathlib.Omega.{arith}
use lib.ListN.{length, take, replicate}
use Rattle.byte_string.specs.Order.{AreBytes, begins}
use Rattle.byte_string.proofs.PrefixLaws.{begins_of_take}
use Rattle.output_list.specs.OutputList.{zeros}
use Rattle.output_list.proofs.OutputListLaws.{zeros-replicate, take-padded}
use Rattle.outcome.specs.Outcome.{Outcome, answer, refused, number_of, place_of, count_of, list_of}
use Rattle.header.specs.Header.{magic}
use Rattle.block.specs.Block.{Block}
use Rattle.written.specs.declared.Written.{Written}
use Rattle.written.specs.Written.{written_answer, written_output}
use Rattle.writer.specs.Write.{write_of}
use Rattle.checker.specs.Check.{accept_of}
use Rattle.theorems_check.proofs.AcceptLaws.{accepted⇒Rules}
use Rattle.theorems_write.specs.WrittenByRules.{WrittenByRules, Ends, counts_out_of_range, no_metadata, malformed, unsorted, too_long, done}
use Rattle.theorems_write.proofs.WriteTheorems.{write_by_rules}
use Rattle.stores.specs.FileStores.{stores_of}
use Rattle.stores.proofs.FileStoreLaws.{stores_none, stores_by_magic}
use Rattle.theorems_stores.specs.StoredByRules.{CrashSafe, stores_to_write, WrittenInStores}
use Rattle.theorems_stores.proofs.StoreTheorems.{has_stores_lem}
use Rattle.theorems_stores.proofs.CutTheorems.{crash_safe}

-- every file that the check accepts is safe to write by its stores
pub accepted_safe : (file : List ℕ) (bs : List Block) → accept_of file ≡ answer bs → CrashSafe file
unfolding magic
accepted_safe file bs e =
    let header = (accepted⇒Rules file bs e).header in
    crash_safe file (has_stores_lem file (begins_of_take magic file header.finished) header.whole) header.short

-- neither no bytes nor zeros have stores
no_stores_of_nothing : stores_of [] ≡ []
unfolding magic begins
no_stores_of_nothing = stores_none [] (stores_by_magic [] refl)

no_stores_of_zeros : (room : ℕ) → stores_of (zeros room) ≡ []
unfolding magic begins
no_stores_of_zeros room = ap stores_of (zeros-replicate room) ∙ stores_none _ (stores_by_magic _ (none room))
  where
    none : (n : ℕ) → begins magic (replicate n 0) ≡ false
    none zero = refl
    none (suc n) = refl

module _ (metadata input : List ℕ) (per_block per_index room : ℕ) where
  abbrev wrote : Outcome (List ℕ)
  wrote = write_of metadata input per_block per_index room

  -- the stores that the output gives
  given_by : (o : Outcome (List ℕ)) → stores_of (take (written_answer o).length (written_output room o)) ≡ stores_to_write o
  unfolding written_answer written_output number_of place_of count_of list_of stores_to_write
  given_by (answer file) = ap stores_of (take-padded room file)
  given_by (refused number place) = no_stores_of_nothing

  -- a file that was written
  safe : (r : Written) (output : List ℕ) → WrittenByRules metadata input per_block per_index room r output → r.number ≡ 0 → CrashSafe (take r.length output)
  safe r output w z = go r.number w.ends z
    where
      go : (number : ℕ) → Ends metadata input per_block per_index room number → number ≡ 0 → CrashSafe (take r.length output)
      go number (counts_out_of_range _) e = absurd (omega arith)
      go number (no_metadata _ _) e = absurd (omega arith)
      go number (malformed _ _ _) e = absurd (omega arith)
      go number (unsorted _ _ _ _ _) e = absurd (omega arith)
      go number (too_long _ _ _ _ _ _) e = absurd (omega arith)
      go number (done c m rs given sorted fits) e =
          let held = w.written rs given z in
          subst CrashSafe (sym held.0.front_is) (accepted_safe _ held.1.0 held.1.1.accepted)

  module _ (metadata_bytes : AreBytes metadata) (input-bytes : AreBytes input) where
    pub write_in_stores : (r : Written) (output : List ℕ) → r ≡ written_answer wrote → output ≡ written_output room wrote
        → WrittenInStores metadata input per_block per_index room r output
    write_in_stores r output told held =
        let w = write_by_rules metadata input per_block per_index room metadata_bytes input-bytes r output told held in
        record {
          given = rw (told, held) (given_by wrote);
          refused_none = λ some. none (w.refused some).0 (w.refused some).1;
          written = safe r output w;
        }
      where
        none : r.length ≡ 0 → output ≡ zeros room → (stores_of (take r.length output) ≡ []) × (stores_of output ≡ [])
        none no_length cleared =
            (ap (λ (n : ℕ). stores_of (take n output)) no_length ∙ no_stores_of_nothing, ap stores_of cleared ∙ no_stores_of_zeros room)
