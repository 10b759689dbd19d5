-- The blocks that the search of an accepted file opens: exactly those of the rule, the root first, each once, and few in vain.
-- Assumes nothing.
use mathlib.Core.Path.{◌≡◌, subst}
use mathlib.Core.List.{List, ◌∷◌}
use Prim.Native.Nat.{ℕ, ◌+◌, ◌≤◌, ◌<◌}
use lib.ListN.{length, drop}
use Rattle.byte_string.specs.Order.{AreBytes}
use Rattle.byte_string.proofs.BytesLaws.{bytes_take, bytes_drop}
use Rattle.outcome.specs.Outcome.{answer}
use Rattle.part.specs.Part.{part}
use Rattle.header.specs.Header.{blocks_from, field_at, H, header_numbers}
use Rattle.block.specs.Block.{Block, blocks_at}
use Rattle.block.proofs.HeldLaws.{key_in_block}
use Rattle.block.proofs.TileLaws.{blocks_read}
use Rattle.query.specs.Query.{Query}
use Rattle.tree.specs.Tree.{block_level}
use Rattle.checker.specs.Check.{accept_of}
use Rattle.theorems_tree.specs.Preorder.{Kept, Once, preorder}
use Rattle.theorems_search.specs.OpeningRule.{Opened, InVain}
use Rattle.theorems_search.specs.SearchedByRules.{QueryBytes}
use Rattle.theorems_search.proofs.Events.{search_events, opens_in}
use Rattle.theorems_check.proofs.AcceptLaws.{accepted⇒Accepted}
use Rattle.theorems_search.proofs.SearchFinds.{accepted⇒SearchTree}
use Rattle.theorems_search.proofs.KeptLaws.{kept_unique}
use Rattle.theorems_search.proofs.OpenedExactly.{KeysAreBytes, opened_exactly, opened_root_first, opened-once}
use Rattle.theorems_search.proofs.TwoInVain.{searched_in_vain}

-- ---- the blocks that were read

module _ (file : List ℕ) (from : ℕ) (bs : List Block) (stage : blocks_at file from ≡ answer bs) where
  -- keys are parts of the file
  pub keys_bytes : AreBytes file → KeysAreBytes bs
  unfolding KeysAreBytes part
  keys_bytes bytes b m e i =
      let stands = key_in_block file b.frame.start b (blocks_read file from bs stage b m).read e i in
      subst AreBytes stands.bytes_are (bytes_take (length e.key.bytes) (drop e.key.at file) (bytes_drop e.key.at file bytes))

-- ---- an accepted file

module _ (file : List ℕ) (bs : List Block) (accepted : accept_of file ≡ answer bs) where
  accepted_blocks : blocks_at file (24 + H file) ≡ answer bs
  unfolding header_numbers blocks_from
  accepted_blocks = (accepted⇒Accepted file bs accepted).blocks

  pub accepted⇒keys : AreBytes file → KeysAreBytes bs
  accepted⇒keys = keys_bytes file (24 + H file) bs accepted_blocks

  module _ (bytes : AreBytes file) (q : Query) (asked : QueryBytes q) where
    pub accepted_exactly : Kept (Opened bs (field_at file 16) q) (preorder bs (block_level bs (field_at file 16)) (field_at file 16)) (opens_in (search_events bs (field_at file 16) q))
    accepted_exactly = opened_exactly bs (field_at file 16) (accepted⇒SearchTree file bs accepted).tree q (accepted⇒keys bytes) asked

    -- so the rule determines the list
    pub accepted_unique : (opened : List ℕ) → Kept (Opened bs (field_at file 16) q) (preorder bs (block_level bs (field_at file 16)) (field_at file 16)) opened → opened ≡ opens_in (search_events bs (field_at file 16) q)
    accepted_unique opened exact =
        kept_unique (Opened bs (field_at file 16) q) (preorder bs (block_level bs (field_at file 16)) (field_at file 16)) opened (opens_in (search_events bs (field_at file 16) q)) exact accepted_exactly

    pub accepted_root_first : (rest : List ℕ) × (opens_in (search_events bs (field_at file 16) q) ≡ field_at file 16 ∷ rest)
    accepted_root_first = opened_root_first bs (field_at file 16) q

    pub accepted_once : Once (opens_in (search_events bs (field_at file 16) q))
    accepted_once = opened-once bs (field_at file 16) (accepted⇒SearchTree file bs accepted).tree q (accepted⇒keys bytes) asked (accepted⇒SearchTree file bs accepted).walked

    pub accepted_in_vain : (level : ℕ) → level < block_level bs (field_at file 16) → (vain : List ℕ) × Kept (InVain bs q level) (opens_in (search_events bs (field_at file 16) q)) vain × (length vain ≤ 2)
    accepted_in_vain = searched_in_vain bs (field_at file 16) (accepted⇒SearchTree file bs accepted) q (accepted⇒keys bytes) asked
