-- Laws of the index over the data blocks of a file that is begun.
-- Assumes nothing.
use mathlib.Core.Path.{◌≡◌, refl, sym, ap, ◌∙◌}
use mathlib.Core.Bool.{Bool, true, false}
use mathlib.Core.List.{List, ◌++◌, flat_map}
use mathlib.Core.Option.{none}
use Prim.Native.Nat.{ℕ, ◌+◌, ◌-◌, ◌≤◌}
use native.Mathlib.Omega.{arith}
use lib.Dec.{leb}
use lib.ListN.{length, take}
use borrow.Author.Tests.{le-leb}
use Rattle.outcome.specs.Outcome.{Outcome, answer, refused, ◌>>=◌}
use Rattle.outcome.proofs.OutcomeLaws.{kept, broken, answer_injective, refused_not_answer, answer_not_refused}
use Rattle.output_list.specs.OutputList.{padded, zeros}
use Rattle.output_list.proofs.OutputListLaws.{padded-append, take-padded}
use Rattle.output_bytes.specs.OutputBytes.{stored}
use Rattle.layout.specs.Blocks.{data_bytes}
use Rattle.layout.specs.Index.{IndexBlock, index_bytes, index_over}
use Rattle.layout.specs.File.{blocks_start, unfinished_header, data_entries, data_part, index_blocks, root_entry, file_fits}
use Rattle.layout.proofs.HeaderBackLaws.{length_unfinished}
use Rattle.layout.proofs.LiesLaws.{lies_last}
use Rattle.index_encoder.specs.Children.{children_from, start_at}
use Rattle.index_encoder.proofs.ChildrenBackLaws.{data_children_back}
use Rattle.index_encoder.specs.Raise.{index_for, raise_of, raised_from, raised_of, with_index}
use Rattle.index_encoder.specs.declared.Raised.{Raised}
use Rattle.file_encoder.specs.Begun.{Begun}
use Rattle.file_encoder.proofs.FitLaws.{fits⁻¹}
use Rattle.file_encoder.proofs.BeginLaws.{begun_long, begun_stands}

module _ (metadata : List ℕ) (blocks : List (List (List ℕ))) (per_index : ℕ) (two : 2 ≤ per_index) (output : List ℕ) (from to : ℕ)
    (b : Begun metadata blocks output from to) where
  abbrev S : List ℕ
  S = unfinished_header metadata ++ flat_map data_bytes blocks

  abbrev index : List IndexBlock
  index = index_blocks per_index (blocks_start metadata) blocks

  long : length S ≡ to
  long = begun_long metadata blocks output from to b

  taken : take to output ≡ S
  taken = ap (take to) (begun_stands metadata blocks output from to b) ∙ ap (λ (n : ℕ). take n (padded (length output) S)) (sym long)
      ∙ take-padded (length output) S

  children : children_from S (start_at (blocks_start metadata)) ≡ data_entries none (blocks_start metadata) blocks
  children =
      let fit = fits⁻¹ (length output) to b.fits in
      data_children_back S (omega (arith, long, fit.1)) (blocks_start metadata) blocks b.filled
      (lies_last S (unfinished_header metadata) (flat_map data_bytes blocks) (blocks_start metadata) refl (sym (length_unfinished metadata)))
      (sym b.ends ∙ sym long)

  index_is : index_for per_index output from to ≡ index
  unfolding index_for index_blocks data_part
  index_is = ap (λ z. index_over per_index to (children_from z (start_at from))) taken
      ∙ ap (λ (n : ℕ). index_over per_index to (children_from S (start_at n))) b.begins ∙ ap (index_over per_index to) children
      ∙ ap (λ (n : ℕ). index_over per_index n (data_entries none (blocks_start metadata) blocks)) b.ends

  -- where the index ends
  abbrev end : ℕ
  end = to + length (flat_map index_bytes index)

  fit_is : file_fits (length output) (to + length (flat_map index_bytes (index_for per_index output from to))) ≡ file_fits (length output) end
  fit_is = ap (λ l. file_fits (length output) (to + length (flat_map index_bytes l))) index_is

  raise_yes : file_fits (length output) end ≡ true → raise_of per_index output from to ≡ answer index
  unfolding raise_of
  raise_yes h = kept (leb 2 per_index) 30 0 _ (le-leb 2 per_index two) ∙ kept _ 31 0 _ (fit_is ∙ h) ∙ ap answer index_is

  raise_no : file_fits (length output) end ≡ false → raise_of per_index output from to ≡ refused 31 0
  unfolding raise_of
  raise_no h = kept (leb 2 per_index) 30 0 _ (le-leb 2 per_index two) ∙ broken _ 31 0 _ (fit_is ∙ h)

  -- what is answered of the index
  abbrev said : Outcome (List IndexBlock) → Outcome Raised
  said o = o >>= λ bs. answer (raised_from to bs)

  -- the index doesn't fit: the output is as it was
  pub raise_none : (n : ℕ) (then : List ℕ) → refused n 0 ≡ raised_of per_index output from to → then ≡ with_index output to (raise_of per_index output from to)
      → (file_fits (length output) (to + length (flat_map index_bytes (index_blocks per_index (blocks_start metadata) blocks))) ≡ false) × (then ≡ output)
  unfolding raised_of ◌>>=◌ with_index
  raise_none n then e f = go (file_fits (length output) end) refl
    where
      go : (c : Bool) → file_fits (length output) end ≡ c → (file_fits (length output) end ≡ false) × (then ≡ output)
      go true h = absurd (refused_not_answer (raised_from to index) n 0 (e ∙ ap said (raise_yes h)))
      go false h = (
        h,
        f ∙ ap (with_index output to) (raise_no h) ∙ ap (λ l. l ++ zeros (length output - to)) taken
            ∙ ap (λ (k : ℕ). S ++ zeros (length output - k)) (sym long) ∙ sym (padded-append (length output) S)
            ∙ sym (begun_stands metadata blocks output from to b),
      )

  -- the index is put
  pub record Raise (r : Raised) (then : List ℕ) : Type 0 where
    pub total : r.end ≡ to + length (flat_map index_bytes (index_blocks per_index (blocks_start metadata) blocks))
    pub fit : file_fits (length output) r.end ≡ true
    pub root : r.root ≡ (root_entry per_index (blocks_start metadata) blocks).offset
    pub rootsize : r.rootsize ≡ (root_entry per_index (blocks_start metadata) blocks).size
    pub put : then ≡ stored output to (flat_map index_bytes (index_blocks per_index (blocks_start metadata) blocks))

  pub raise_some : (r : Raised) (then : List ℕ) → answer r ≡ raised_of per_index output from to
      → then ≡ with_index output to (raise_of per_index output from to) → Raise r then
  unfolding raised_of ◌>>=◌ with_index raised_from root_entry
  raise_some r then e f = go (file_fits (length output) end) refl
    where
      go : (c : Bool) → file_fits (length output) end ≡ c → Raise r then
      go false h = absurd (answer_not_refused r 31 0 (e ∙ ap said (raise_no h)))
      go true h =
          let same : r ≡ raised_from to index = answer_injective r (raised_from to index) (e ∙ ap said (raise_yes h)) in
          let total : r.end ≡ end = ap (λ (z : Raised). z.end) same in
          record {
            total = total;
            fit = ap (file_fits (length output)) total ∙ h;
            root = ap (λ (z : Raised). z.root) same;
            rootsize = ap (λ (z : Raised). z.rootsize) same;
            put = f ∙ ap (with_index output to) (raise_yes h);
          }
