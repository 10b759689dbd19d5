-- The search of an accepted file finds every record that matches: a block that is not opened leads to none.
-- Assumes nothing.
use mathlib.Core.Path.{◌≡◌, refl, sym, ap, ap₂, ◌∙◌}
use mathlib.Core.Bool.{Bool, true, false, cond}
use mathlib.Core.Option.{Option, none, some}
use mathlib.Core.List.{List, [], ◌∷◌, ◌++◌, flat_map, append-nil, Memᴰ}
use Prim.Native.Nat.{ℕ, zero, suc, ◌+◌}
use lib.Seq.{append_snoc}
use Rattle.outcome.specs.Outcome.{answer}
use Rattle.lists.proofs.CountLaws.{keep_none}
use Rattle.lists.proofs.RisingLaws.{flat_map_flat_map}
use Rattle.header.specs.Header.{blocks_from, field_at, H, header_numbers}
use Rattle.header.proofs.HeaderLaws.{blocks_within}
use Rattle.payload.specs.Payload.{Text, Entry}
use Rattle.block.specs.Block.{Block}
use Rattle.block.specs.Survey.{records_of}
use Rattle.query.specs.Query.{Query, matches}
use Rattle.query.specs.Opening.{up_to, may_match}
use Rattle.query.proofs.OpeningLaws.{no_match_unopened}
use Rattle.matching.specs.Matching.{matching}
use Rattle.matching.proofs.MatchLaws.{matching_nil, matching-append}
use Rattle.search.specs.Search.{next_key}
use Rattle.tree.specs.Tree.{block_entries, block_records, block_level, leaves, under}
use Rattle.checker.specs.Check.{accept_of}
use Rattle.tree.proofs.TreeWays.{Way, at_root, by_entry, turns_of, root_records}
use Rattle.theorems_check.proofs.TiledLaws.{tiled_block}
use Rattle.theorems_check.proofs.AcceptLaws.{Accepted⇒Rules, accepted⇒Accepted}
use Rattle.theorems_check.proofs.RecordsSorted.{records_rise}
use Rattle.theorems_tree.proofs.TreeCuts.{lower_bound, upper_bound, lower_of, upper_of, UpTo, SearchTree}
use Rattle.theorems_tree.proofs.TreeBounds.{under_bounds}
use Rattle.theorems_tree.proofs.TreeFile.{rules⇒SearchTree}
use Rattle.theorems_search.proofs.Events.{Event, opens, events_over, events_of, search_events, finds_in}
use Rattle.theorems_search.proofs.EventsLaws.{finds_in_append, finds_in_finds}

-- ---- what a block leads to

UpTo⇒up_to : (x : List ℕ) (upper : Option (List ℕ)) → UpTo x upper → up_to x upper ≡ true
unfolding UpTo up_to
UpTo⇒up_to x none h = refl
UpTo⇒up_to x (some upper) h = h

-- a data block to its own records, an index block to those of the blocks that its entries name
pub under_data : (bs : List Block) (at : ℕ) → under bs 0 at ≡ block_records bs at
unfolding under leaves flat_map
under_data bs at = append-nil (block_records bs at)

pub under_index : (bs : List Block) (level at : ℕ) → under bs (suc level) at ≡ flat_map (λ e. under bs level e.offset) (block_entries bs at)
unfolding under leaves
under_index bs level at = flat_map_flat_map (λ o. block_records bs o) (λ e. leaves bs level e.offset) (block_entries bs at)

module _ (bs : List Block) (root : ℕ) (k : SearchTree bs root) (q : Query) where
  -- a block whose bounds admit no match leads to none
  pub unopened_none : (level at : ℕ) (w : Way bs root level at) → may_match (lower_of bs root level at w) (upper_of bs root level at w) q ≡ false → matching q (under bs level at) ≡ []
  unfolding matching
  unopened_none level at w shut = keep_none (λ r. matches q r.bytes) (under bs level at) unmatched
    where
      unmatched : (r : Text) → Memᴰ r (under bs level at) → matches q r.bytes ≡ false
      unmatched r m =
          let bounds = under_bounds bs root k level at w r m in
          no_match_unopened (lower_of bs root level at w) (upper_of bs root level at w) q r.bytes shut bounds.0 (UpTo⇒up_to r.bytes (upper_of bs root level at w) bounds.1)

  -- ---- what is found

  -- below every block of this level its matches are found
  abbrev Finds : ℕ → Type 0
  Finds level = (at : ℕ) (w : Way bs root level at) → finds_in (events_of bs q level at (upper_of bs root level at w)) ≡ matching q (under bs level at)

  -- through the entries of an index block from one of them on
  entries_find : (level at : ℕ) (w : Way bs root (suc level) at) → Finds level → (front es : List Entry) → block_entries bs at ≡ front ++ es
      → finds_in (events_over q (λ e bound. opens e.offset ∷ events_of bs q level e.offset bound) (upper_of bs root (suc level) at w) es)
      ≡ matching q (flat_map (λ e. under bs level e.offset) es)
  unfolding events_over finds_in flat_map upper_of upper_bound lower_of lower_bound turns_of
  entries_find level at w below front [] p = sym (matching_nil q)
  entries_find level at w below front (e ∷ es) p =
      finds_in_append (cond (may_match e.key.bytes bound q) visited []) (events_over q (λ e bound. opens e.offset ∷ events_of bs q level e.offset bound) (upper_of bs root (suc level) at w) es)
      ∙ ap₂ (λ (a b : List Text). a ++ b) (go (may_match e.key.bytes bound q) refl) (entries_find level at w below (front ++ (e ∷ [])) es (p ∙ sym (append_snoc front e es)))
      ∙ sym (matching-append q (under bs level e.offset) (flat_map (λ x. under bs level x.offset) es))
    where
      bound : Option (List ℕ)
      bound = next_key es (upper_of bs root (suc level) at w)

      visited : List Event
      visited = opens e.offset ∷ events_of bs q level e.offset bound

      on : Way bs root level e.offset
      on = by_entry at front e es w p refl

      go : (may : Bool) → may_match e.key.bytes bound q ≡ may → finds_in (cond may visited []) ≡ matching q (under bs level e.offset)
      go true may = below e.offset on
      go false shut = sym (unopened_none level e.offset on shut)

  pub events_find : (level at : ℕ) (w : Way bs root level at) → finds_in (events_of bs q level at (upper_of bs root level at w)) ≡ matching q (under bs level at)
  unfolding events_of
  events_find zero at w = finds_in_finds (matching q (block_records bs at)) ∙ ap (matching q) (sym (under_data bs at))
  events_find (suc level) at w = entries_find level at w (events_find level) [] (block_entries bs at) refl ∙ ap (matching q) (sym (under_index bs level at))

  -- the whole search
  pub search_finds : finds_in (search_events bs root q) ≡ matching q (records_of bs)
  unfolding search_events finds_in upper_of upper_bound turns_of
  search_finds = events_find (block_level bs root) root (at_root refl refl) ∙ ap (matching q) (root_records bs root k.tree k.walked)

-- ---- an accepted file

pub accepted⇒SearchTree : (file : List ℕ) (bs : List Block) → accept_of file ≡ answer bs → SearchTree bs (field_at file 16)
accepted⇒SearchTree file bs e =
    let a = accepted⇒Accepted file bs e in
    let r = Accepted⇒Rules file bs a in
    rules⇒SearchTree file (blocks_from (header_numbers file)) bs a.blocks (blocks_within file (header_numbers file) a.header)
    (λ (b : Block) (m : Memᴰ b bs). records_rise file b.frame.start b (tiled_block file (24 + H file) bs r.tiled b m).0) r.tree

-- everything that matches is found, in file order and as often as stored
pub finds_all : (file : List ℕ) (bs : List Block) → accept_of file ≡ answer bs → (q : Query) → finds_in (search_events bs (field_at file 16) q) ≡ matching q (records_of bs)
finds_all file bs e q = search_finds bs (field_at file 16) (accepted⇒SearchTree file bs e) q
