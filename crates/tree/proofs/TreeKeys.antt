-- The key rule in the walk's terms: the records of the file before a block's first are those that the walk has met before the block.
-- Assumes nothing.
use mathlib.Core.Path.{◌≡◌, refl, ap, ◌∙◌, subst}
use mathlib.Core.Bool.{Bool, true, false, ◌&&◌}
use mathlib.Core.List.Memᴰ
use mathlib.Core.List.{List, ◌∷◌, ◌++◌, map, map-append, append-nil, Memᴰ}
use Prim.Native.Nat.{ℕ}
use lib.Dec.{ltb}
use borrow.Author.Tests.{lt-ltb, le-ltb}
use Rattle.byte_string.specs.Order.{at_most}
use Rattle.lists.specs.Lists.{keep, all}
use Rattle.lists.proofs.ListsLaws.{Ascending, keep_append}
use Rattle.lists.proofs.RisingLaws.{ascending_right, ascending_apart, ascending_least}
use Rattle.lists.proofs.CountLaws.{keep_all, keep_none}
use Rattle.payload.specs.Payload.{Text}
use Rattle.block.specs.Block.{Block}
use Rattle.block.specs.Survey.{records_of}
use Rattle.tree.specs.Tree.{block_level, leaves, under, records_before, key_fits}
use Rattle.tree.proofs.TreeLaws.{Tree}
use Rattle.tree.proofs.TreeWays.{Way, pre, post, records_cut}

-- of records at ascending offsets, those before one of them are the ones that stand before it
front_kept : (front : List Text) (first : Text) (back : List Text) → Ascending (map (λ r. r.at) (front ++ (first ∷ back)))
    → keep (λ r. ltb r.at first.at) (front ++ (first ∷ back)) ≡ front
front_kept front first back rise =
    keep_append before front (first ∷ back)
    ∙ ap (λ (l : List Text). l ++ keep before (first ∷ back)) (keep_all before front earlier)
    ∙ ap (λ (l : List Text). front ++ l) (keep_none before (first ∷ back) later)
    ∙ append-nil front
  where
    before : Text → Bool
    before r = ltb r.at first.at

    offsets : Ascending (map (λ r. r.at) front ++ map (λ r. r.at) (first ∷ back))
    offsets = subst Ascending (map-append (λ r. r.at) front (first ∷ back)) rise

    earlier : (r : Text) → Memᴰ r front → ltb r.at first.at ≡ true
    earlier r m =
        lt-ltb r.at first.at
        (ascending_apart (map (λ u. u.at) front) (map (λ u. u.at) (first ∷ back)) offsets r.at first.at (Memᴰ.map (λ (u : Text). u.at) m) (Memᴰ.head refl))

    later : (r : Text) → Memᴰ r (first ∷ back) → ltb r.at first.at ≡ false
    later r m =
        le-ltb r.at first.at
        (ascending_least first.at (map (λ u. u.at) back) (ascending_right (map (λ u. u.at) front) (map (λ u. u.at) (first ∷ back)) offsets) r.at (Memᴰ.map (λ (u : Text). u.at) m))

module _ (bs : List Block) (root : ℕ) (t : Tree bs root) (walked : Ascending (leaves bs (block_level bs root) root)) (placed : Ascending (map (λ r. r.at) (records_of bs))) where
  -- the records of the file before the first one that a block leads to
  pub before-first : (level at : ℕ) (w : Way bs root level at) (first : Text) (rest : List Text) → under bs level at ≡ first ∷ rest
      → records_before bs first.at ≡ pre bs root level at w
  unfolding records_before
  before-first level at w first rest own =
      let cut = records_cut bs root t walked level at w ∙ ap (λ (l : List Text). pre bs root level at w ++ (l ++ post bs root level at w)) own in
      ap (keep (λ r. ltb r.at first.at)) cut ∙ front_kept (pre bs root level at w) first (rest ++ post bs root level at w) (subst (λ (l : List Text). Ascending (map (λ r. r.at) l)) cut placed)

  -- the key rule for the block at the end of a way
  pub key_fits_way : (key : List ℕ) (level at : ℕ) (w : Way bs root level at) (first : Text) (rest : List Text) → under bs level at ≡ first ∷ rest
      → key_fits bs key (under bs level at) ≡ (at_most key first.bytes && all (λ r. at_most r.bytes key) (pre bs root level at w))
  unfolding key_fits
  key_fits_way key level at w first rest own =
      ap (key_fits bs key) own ∙ ap (λ (l : List Text). at_most key first.bytes && all (λ r. at_most r.bytes key) l) (before-first level at w first rest own)
