-- Laws of one block's entries, and of the pass over all ordinary blocks (19).
-- Assumes nothing.
use mathlib.Core.Path.{◌≡◌, refl, sym, ap, ◌∙◌, subst}
use mathlib.Core.Bool.{Bool, true, false}
use mathlib.Core.List.{List, [], ◌∷◌, ◌++◌, flat_map, append-nil, Memᴰ}
use Prim.Native.Nat.{ℕ, ◌+◌, ◌%◌, ◌^◌, ◌≤◌, ◌<◌}
use native.Mathlib.Omega.{arith}
use lib.ListN.{length, get_or, take, drop}
use lib.Seq.{take_all}
use Rattle.outcome.specs.Outcome.{answer, refused}
use Rattle.outcome.specs.Fault.{number, said}
use Rattle.outcome.specs.declared.Fault.TheVariants.{EntryTarget}
use Rattle.std.specs.Prelude.{Ok, Err}
use Rattle.outcome.proofs.OutcomeLaws.{answer_injective, answer_not_refused}
use Rattle.lists.proofs.ListsLaws.{flat_map_append}
use Rattle.framing.specs.declared.Frame.{Frame}
use Rattle.framing.specs.Frame.{frame_at}
use Rattle.payload.specs.Payload.{Entry, entry_at}
use Rattle.block.specs.Block.{Block}
use Rattle.block.specs.Survey.{ordinary}
use Rattle.block.specs.Laid.{laid_items, laid_from}
use Rattle.tree.specs.Stages.{each, entries_fit}
use Rattle.tree.proofs.StageLaws.{each_kept, each_broken, each_none}
use Rattle.check_names.specs.Starts.{starts_of, start_at}
use Rattle.check_names.specs.Names.{entries_of, WordsKept, EntriesSeen, AllSeen}
use Rattle.check_names.proofs.LaidNamesLaws.{LaidBlock, data_entries_lem, index_entries}
use Rattle.check_names.proofs.StartsLaws.{AtIndex, length_starts, ordinary_laid, ordinary_level_of}
use Rattle.check_names.proofs.WordLaws.{kept_block, kept_start_at}
use Rattle.check_names.proofs.EntriesLaws.{none_seen}

-- ---- the entries of one block

module _ (file : List ℕ) (first : ℕ) (seen : List Entry) (work : List ℕ) (k : WordsKept file first seen work)
    (b : Block) (m : Memᴰ b (ordinary (laid_from file first))) (start : ℕ) (at : b.frame.start ≡ start) where
  laid : LaidBlock file b
  laid = ordinary_laid file first b m

  its_frame : frame_at file start ≡ answer b.frame
  its_frame = ap (frame_at file) (sym at) ∙ laid.framed

  pub block_framed : (number place : ℕ) → frame_at file start ≡ refused number place → ⊥
  block_framed number place e = answer_not_refused b.frame number place (sym its_frame ∙ e)

  module _ (f : Frame) (e : frame_at file start ≡ answer f) where
    same : b.frame ≡ f
    same = answer_injective b.frame f (sym its_frame ∙ e)

    -- a data block has none
    pub block_none : f.level ≡ 0 → EntriesSeen file first b.frame.level seen b.entries work true
    block_none level =
        none_seen file first b.frame.level seen b.entries work k (data_entries_lem file b laid (ap (λ (g : Frame). g.level) same ∙ level))

    -- those of an index block are the items of its payload
    pub block_index : (f.level ≡ 0 → ⊥) → (later : List ℕ) (r : Bool)
        → ((first : ℕ) (seen : List Entry) → WordsKept file first seen work → EntriesSeen file first f.level seen (laid_items file entry_at f) later r)
        → EntriesSeen file first b.frame.level seen b.entries later r
    block_index other later r done =
        let level = ordinary_level_of file first b m in
        let entries = index_entries file b laid (λ none. other (ap (λ (g : Frame). g.level) (sym same) ∙ none)) level in
        subst (λ (es : List Entry). EntriesSeen file first b.frame.level seen es later r) (sym entries)
        (subst (λ (g : Frame). EntriesSeen file first g.level seen (laid_items file entry_at g) later r) (sym same) (done first seen k))

-- ---- 19: the pass over all blocks

module _ (file work₀ : List ℕ) where
  abbrev blocks : (first : ℕ) → List Block
  blocks first = ordinary (laid_from file first)

  abbrev rule : (first : ℕ) → Block → Bool
  rule first = entries_fit (laid_from file first)

  -- the blocks so far break no rule, and their entries are seen
  pub record Passed (first : ℕ) (work : List ℕ) (i : ℕ) : Type 0 where
    pub leads : each (rule first) 19 (blocks first) ≡ each (rule first) 19 (drop i (blocks first))
    pub kept : WordsKept file first (entries_of (take i (blocks first))) work

  abbrev pub Passing : (work : List ℕ) (i : ℕ) → Type 0
  Passing work i = (first : ℕ) → WordsKept file first [] work₀ → Passed first work i

  pub passing_start : Passing work₀ 0
  unfolding entries_of flat_map
  passing_start first k = record { leads = refl; kept = k }

  module _ (work : List ℕ) (i : ℕ) (p : Passing work i) where
    pub passing_end : length work ≤ i → (first : ℕ) → WordsKept file first [] work₀ → AllSeen file first work (Ok tt)
    unfolding said
    passing_end past first k =
        let q = p first k in
        let many = q.kept.many in
        let long = length_starts (laid_from file first) in
        let all : length (blocks first) ≤ i = omega arith in
        record {
          fault = sym (q.leads ∙ each_none (rule first) 19 i (blocks first) all);
          kept = λ z. subst (λ (l : List Block). WordsKept file first (entries_of l) work) (take_all i (blocks first) all) q.kept;
        }

    module _ (inside : i < length work) (later : List ℕ) (r : Bool)
        (seen : (first : ℕ) (seen : List Entry) (b : Block) → WordsKept file first seen work → Memᴰ b (blocks first)
        → b.frame.start ≡ get_or work i 0 % 2 ^ 30 → EntriesSeen file first b.frame.level seen b.entries later r) where
      -- the block at the index
      module _ (first : ℕ) (k : WordsKept file first [] work₀) where
        abbrev done : List Entry
        done = entries_of (take i (blocks first))

        its_block : AtIndex (blocks first) i
        its_block = kept_block file first done work (p first k).kept i inside

        its_start : its_block.block.frame.start ≡ get_or work i 0 % 2 ^ 30
        unfolding start_at starts_of
        its_start = sym its_block.starts ∙ sym (kept_start_at file first done work (p first k).kept i inside)

        its_entries : EntriesSeen file first its_block.block.frame.level done its_block.block.entries later r
        its_entries = seen first done its_block.block (p first k).kept its_block.member its_start

        one_more : entries_of (take (i + 1) (blocks first)) ≡ done ++ its_block.block.entries
        unfolding entries_of flat_map
        one_more =
            ap entries_of its_block.front
            ∙ flat_map_append (λ c. c.entries) (take i (blocks first)) (its_block.block ∷ [])
            ∙ ap (λ (l : List Entry). done ++ l) (append-nil its_block.block.entries)

      pub passing_more : r ≡ true → Passing later (i + 1)
      unfolding entries_fit
      passing_more right first k =
          let b = its_block first k in
          let q = its_entries first k in
          record {
            leads =
                (p first k).leads
                ∙ each_kept (rule first) 19 (drop i (blocks first)) (drop (i + 1) (blocks first)) b.block b.rest (sym q.fit ∙ right);
            kept = subst (λ (l : List Entry). WordsKept file first l later) (sym (one_more first k)) (q.kept right);
          }

      pub passing_broken : r ≡ false → (first : ℕ) → WordsKept file first [] work₀
          → AllSeen file first later (Err (record { fault = EntryTarget; place = get_or work i 0 % 2 ^ 30 }))
      unfolding entries_fit said number
      passing_broken wrong first k =
          let b = its_block first k in
          let q = its_entries first k in
          record {
            fault =
                ap (refused 19) (sym (its_start first k))
                ∙ sym
                ((p first k).leads
                ∙ each_broken (rule first) 19 (drop i (blocks first)) (drop (i + 1) (blocks first)) b.block b.rest (sym q.fit ∙ wrong));
            kept = λ z. cc;
          }
