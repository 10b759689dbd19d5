-- The rules of the tree: 17, then 19 to 25 in the checking order, each with its refusal.
use Rattle.std.specs.Prelude.{ℕ, suc, ◌+◌, ◌-◌, Bool, cond, leb, eqb, drop}
use mathlib.Core.List.{List, [], ◌∷◌, flat_map}
use Rattle.byte_string.specs.Order.{at_most, begins}
use Rattle.sha256.specs.Sha256.{sha256}
use Rattle.outcome.specs.Outcome.{Outcome, answer, ◌>>◌, must}
use Rattle.part.specs.Part.{part}
use Rattle.lists.specs.Lists.{keep, any, all}
use Rattle.header.specs.declared.Header.{Header}
use Rattle.block.specs.Block.{Block, is_data}
use Rattle.block.specs.Survey.{ordinary, is_root}
use Rattle.tree.specs.Tree.{block_level, names, namings, leaves, under, key_fits}

-- 17: the root's place and size are an index block's
unfoldable pub has_root : Header → List Block → Bool
has_root h bs = any (λ b. is_root h.root h.rootsize b.frame) bs

-- a rule for each block in file order: the first that breaks it is the place
unfoldable pub each : (Block → Bool) → (number : ℕ) → List Block → Outcome (Unit {0})
each rule number [] = answer tt
each rule number (b ∷ bs) = must (rule b) number b.frame.start >> each rule number bs

-- 19: every entry of the block names a fitting block
unfoldable pub entries_fit : List Block → Block → Bool
entries_fit bs b = all (names bs b.frame.level) b.entries

-- 20: the block is named once, the root not at all
unfoldable pub named_rightly : List Block → (root : ℕ) → Block → Bool
named_rightly bs root b = eqb (namings bs b.frame.start) (cond (eqb b.frame.start root) 0 1)

-- 22: each offset is at least the least that is allowed, which is one more than the offset before it
unfoldable pub ascending : (least : ℕ) → List ℕ → Outcome (Unit {0})
ascending least [] = answer tt
ascending least (at ∷ rest) = must (leb least at) 22 at >> ascending (suc at) rest

-- every record of a is at most every record of b
unfoldable pub all_at_most : Block → Block → Bool
all_at_most a b = all (λ r. all (λ s. at_most r.bytes s.bytes) b.records) a.records

-- 23 for a and the data blocks after it, each against the one before
unfoldable pub neighbours_of : Block → List Block → Outcome (Unit {0})
neighbours_of a [] = answer tt
neighbours_of a (b ∷ bs) = must (all_at_most a b) 23 b.frame.start >> neighbours_of b bs

-- 23: the records of each data block are at most those of the next
unfoldable pub neighbours : List Block → Outcome (Unit {0})
neighbours [] = answer tt
neighbours (a ∷ bs) = neighbours_of a bs

-- 24: every entry of the block keeps the key rule
unfoldable pub keys_fit : List Block → Block → Bool
keys_fit bs b = all (λ e. key_fits bs e.key.bytes (under bs (b.frame.level - 1) e.offset)) b.entries

-- the payloads of the data blocks, joined in file order
unfoldable pub payloads : List ℕ → List Block → List ℕ
payloads file bs = flat_map (λ b. cond (is_data b.frame.level) (part file (b.frame.body + 1) (b.frame.end - (b.frame.body + 1))) []) bs

-- ---- the rules one after the other

-- 19 and 20
unfoldable pub naming_of : List Block → (root : ℕ) → Outcome (Unit {0})
naming_of bs root = do
  each (entries_fit bs) 19 (ordinary bs)
  each (named_rightly bs root) 20 (ordinary bs)

-- 22 to 24
unfoldable pub walk_rules_of : List Block → (root : ℕ) → Outcome (Unit {0})
walk_rules_of bs root = do
  ascending 0 (leaves bs (block_level bs root) root)
  neighbours (keep (λ b. is_data b.frame.level) bs)
  each (keys_fit bs) 24 (ordinary bs)

-- 25: the header's hash is that of the payloads
unfoldable pub hash_rule_of : List ℕ → List Block → Outcome (Unit {0})
hash_rule_of file bs = must (begins (sha256 (payloads file bs)) (drop 40 file)) 25 0

-- 19 to 25
unfoldable pub tree_of : List ℕ → Header → List Block → Outcome (Unit {0})
tree_of file h bs = do
  naming_of bs h.root
  walk_rules_of bs h.root
  hash_rule_of file bs
