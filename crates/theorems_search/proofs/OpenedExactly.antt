-- The search opens exactly the blocks that the rule opens, in walk order: the root first, each once.
-- Assumes nothing.
use mathlib.Core.Path.{◌≡◌, refl, sym, ◌∙◌, subst}
use mathlib.Core.Bool.{Bool, true, false, cond}
use mathlib.Core.List.{List, [], ◌∷◌, ◌++◌, flat_map, Memᴰ}
use mathlib.Core.Option.{Option, none}
use Prim.Native.Nat.{ℕ, zero, suc}
use lib.Seq.{append_snoc}
use Rattle.byte_string.specs.Order.{AreBytes}
use Rattle.lists.proofs.ListsLaws.{Ascending}
use Rattle.lists.proofs.RisingLaws.{split_member}
use Rattle.payload.specs.Payload.{Entry}
use Rattle.block.specs.Block.{Block}
use Rattle.query.specs.Query.{Query}
use Rattle.query.specs.Opening.{may_match}
use Rattle.query.proofs.OpeningLaws.{may_match⇒CanMatch}
use Rattle.matching.specs.Matching.{matching}
use Rattle.search.specs.Search.{next_key}
use Rattle.tree.specs.Tree.{block_entries, block_records, block_level, leaves}
use Rattle.theorems_tree.specs.Preorder.{Kept, no_more, taken, Once, preorder}
use Rattle.theorems_search.specs.OpeningRule.{Opened, the_root}
use Rattle.theorems_search.specs.SearchedByRules.{QueryBytes}
use Rattle.tree.proofs.TreeLaws.{Tree}
use Rattle.tree.proofs.TreeWays.{Way, at_root, turns_of, way_block, met_entries}
use Rattle.theorems_search.proofs.EventsLaws.{opens_in_append, opens_in_finds}
use Rattle.theorems_search.proofs.Events.{Event, opens, events_over, events_of, search_events, opens_in}
use Rattle.theorems_tree.proofs.TreePreorder.{preorder_distinct}
use Rattle.theorems_tree.proofs.TreeCuts.{upper_bound, upper_of}
use Rattle.theorems_search.proofs.KeptLaws.{kept_append, kept_none, kept_once}
use Rattle.theorems_search.proofs.RuleWays.{way_down, entry_opened, unopened_below}

-- ---- the blocks opened in events

-- the root is opened
pub root_opened : (bs : List Block) (root : ℕ) (q : Query) → Opened bs root q root
unfolding Opened
root_opened bs root q = (none, the_root refl refl)

-- and listed first
pub opened_root_first : (bs : List Block) (root : ℕ) (q : Query) → (rest : List ℕ) × (opens_in (search_events bs root q) ≡ root ∷ rest)
unfolding search_events opens_in
opened_root_first bs root q = (opens_in (events_of bs q (block_level bs root) root none), refl)

-- the keys of all entries are byte strings
unfoldable pub KeysAreBytes : List Block → Type 0
KeysAreBytes bs = (b : Block) → Memᴰ b bs → (e : Entry) → Memᴰ e b.entries → AreBytes e.key.bytes

module _ (bs : List Block) (root : ℕ) (t : Tree bs root) (q : Query) (keys : KeysAreBytes bs) (asked : QueryBytes q) where
  -- ---- under one block

  abbrev visit : ℕ → Entry → Option (List ℕ) → List Event
  visit level e bound = opens e.offset ∷ events_of bs q level e.offset bound

  -- of the blocks met at and under an open block, the search opens exactly those of the rule
  abbrev Exactly : (level at : ℕ) → Way bs root level at → Type 0
  Exactly level at w = Kept (Opened bs root q) (preorder bs level at) (at ∷ opens_in (events_of bs q level at (upper_of bs root level at w)))

  module _ (level at : ℕ) (w : Way bs root (suc level) at) (opened : Opened bs root q at) (ih : (y : ℕ) (v : Way bs root level y) → Opened bs root q y → Exactly level y v) where
    key_bytes : (front : List Entry) (e : Entry) (es : List Entry) → block_entries bs at ≡ front ++ (e ∷ es) → AreBytes e.key.bytes
    unfolding KeysAreBytes
    key_bytes front e es split =
        let met = way_block bs root t (suc level) at w in
        keys met.block met.member e (split_member met.block.entries front e es (met_entries bs root t (suc level) at met ∙ split))

    -- at one entry
    at_entry : (front : List Entry) (e : Entry) (es : List Entry) → block_entries bs at ≡ front ++ (e ∷ es) → (b : Bool) → may_match e.key.bytes (next_key es (upper_of bs root (suc level) at w)) q ≡ b
        → Kept (Opened bs root q) (preorder bs level e.offset) (opens_in (cond b (visit level e (next_key es (upper_of bs root (suc level) at w))) []))
    unfolding opens_in upper_of upper_bound turns_of way_down
    at_entry front e es split true p =
        ih e.offset (way_down bs root t q level at w front e es split)
        (entry_opened bs root t q level at w front e es split opened
        (may_match⇒CanMatch e.key.bytes (next_key es (upper_of bs root (suc level) at w)) q (key_bytes front e es split) asked.start asked.prefix p))
    at_entry front e es split false p =
        kept_none (Opened bs root q) (preorder bs level e.offset) (unopened_below bs root t q level at w front e es split p)

    -- from an entry on
    over_entries : (front es : List Entry) → block_entries bs at ≡ front ++ es
        → Kept (Opened bs root q) (flat_map (λ e. preorder bs level e.offset) es) (opens_in (events_over q (visit level) (upper_of bs root (suc level) at w) es))
    unfolding events_over opens_in flat_map
    over_entries front [] split = no_more
    over_entries front (e ∷ es) split =
        let above = upper_of bs root (suc level) at w in
        let b = may_match e.key.bytes (next_key es above) q in
        subst (Kept (Opened bs root q) (preorder bs level e.offset ++ flat_map (λ x. preorder bs level x.offset) es))
        (sym (opens_in_append (cond b (visit level e (next_key es above)) []) (events_over q (visit level) above es)))
        (kept_append (Opened bs root q) (preorder bs level e.offset) (flat_map (λ x. preorder bs level x.offset) es) (opens_in (cond b (visit level e (next_key es above)) [])) (opens_in (events_over q (visit level) above es))
        (at_entry front e es split b refl) (over_entries (front ++ (e ∷ [])) es (split ∙ sym (append_snoc front e es))))

  pub opened-under : (level at : ℕ) (w : Way bs root level at) → Opened bs root q at → Exactly level at w
  unfolding preorder events_of
  opened-under zero at w o = taken o (subst (Kept (Opened bs root q) []) (sym (opens_in_finds (matching q (block_records bs at)))) no_more)
  opened-under (suc level) at w o = taken o (over_entries level at w o (opened-under level) [] (block_entries bs at) refl)

  -- ---- from the root

  -- the blocks opened are exactly those of the rule, in walk order
  pub opened_exactly : Kept (Opened bs root q) (preorder bs (block_level bs root) root) (opens_in (search_events bs root q))
  unfolding search_events opens_in upper_of upper_bound turns_of
  opened_exactly = opened-under (block_level bs root) root (at_root refl refl) (root_opened bs root q)

  -- each once
  pub opened-once : Ascending (leaves bs (block_level bs root) root) → Once (opens_in (search_events bs root q))
  opened-once walked = kept_once (Opened bs root q) (preorder bs (block_level bs root) root) (opens_in (search_events bs root q)) opened_exactly (preorder_distinct bs root t walked)
