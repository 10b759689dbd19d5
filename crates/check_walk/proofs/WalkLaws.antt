-- The walk of 23 and 24 over the tree: the span that it hands back, and the first data block out of order.
-- Assumes nothing.
use mathlib.Core.Path.{◌≡◌, refl, sym, ap, ◌∙◌, subst}
use mathlib.Core.Bool.{Bool, true, ◌&&◌, not, cond}
use mathlib.Core.List.{List, [], ◌∷◌, ◌++◌, flat_map, append-nil, append_assoc, Memᴰ}
use Prim.Native.Nat.{ℕ, zero, suc, ◌≤◌, ◌<◌}
use native.Mathlib.Omega.{arith}
use lib.Dec.{eqb}
use lib.ListN.{length}
use Rattle.byte_string.specs.Order.{at_most}
use Rattle.outcome.specs.Outcome.{answer}
use Rattle.lists.proofs.ListsLaws.{flat_map_append}
use Rattle.payload.specs.Payload.{Text, Entry}
use Rattle.block.specs.Block.{Block, blocks_at}
use Rattle.block.proofs.HeldLaws.{data_some}
use Rattle.block.proofs.TileLaws.{blocks_read}
use Rattle.check_walk.specs.declared.keys.Span.{Span}
use Rattle.check_walk.specs.declared.keys.Keys.{Keys}
use Rattle.tree.specs.Tree.{block_entries, block_records, leaves}
use Rattle.check_walk.specs.Lookup.{no_part, bytes_in, records_in}
use Rattle.check_walk.specs.Keys.{no_span, span_over, span_joined, first_of, leaf_keys, entry_keys, over_keys, keys_entering, keys_of}
use Rattle.check_walk.proofs.AscentLaws.{walk_entries}
use Rattle.check_walk.proofs.SpanLaws.{last_bytes, last_bytes_append, Spans, spans_last, spans_joined, block_spans}
use Rattle.tree.proofs.TreeLaws.{Tree, records_at_lem, Child, child}

-- ---- data blocks in walk order

-- the first of some records is at least the last one before
unfoldable pub first_fits : List ℕ → List Text → Bool
first_fits d [] = true
first_fits d (r ∷ rs) = at_most d r.bytes

pub spans_first : (file d : List ℕ) (own : Span) (rs : List Text) → 0 < length rs → Spans file d own rs → at_most d (bytes_in file (first_of own)) ≡ first_fits d rs
unfolding Spans first_fits
spans_first file d own [] some h = absurd (omega arith)
spans_first file d own (r ∷ rs) some h = ap (at_most d) h.1

-- the first of the data blocks at these offsets that is out of order, where d is the last record before and m an earlier such block
unfoldable pub out_of : List Block → (d : List ℕ) (m : ℕ) → List ℕ → ℕ
out_of bs d m [] = m
out_of bs d m (o ∷ os) = out_of bs (last_bytes d (block_records bs o)) (cond (eqb m 0 && not (first_fits d (block_records bs o))) o m) os

-- the records of the data blocks at these offsets
abbrev pub records_all : List Block → List ℕ → List Text
records_all bs = flat_map (λ o. block_records bs o)

pub out_of_append : (bs : List Block) (d : List ℕ) (m : ℕ) (xs ys : List ℕ)
    → out_of bs d m (xs ++ ys) ≡ out_of bs (last_bytes d (records_all bs xs)) (out_of bs d m xs) ys
unfolding out_of flat_map last_bytes
out_of_append bs d m [] ys = refl
out_of_append bs d m (x ∷ xs) ys =
    let next : ℕ = cond (eqb m 0 && not (first_fits d (block_records bs x))) x m in
    out_of_append bs (last_bytes d (block_records bs x)) next xs ys
    ∙ ap (λ (l : List ℕ). out_of bs l (out_of bs (last_bytes d (block_records bs x)) next xs) ys) (sym (last_bytes_append d (block_records bs x) (records_all bs xs)))

-- ---- what is known of the walk at a place

-- after the data blocks at these offsets, where the walk began with the last record d and the block m out of order
pub record Met (file : List ℕ) (bs : List Block) (d : List ℕ) (m : ℕ) (xs : List ℕ) (k : Keys) : Type 0 where
  pub spans : Spans file d k.span (records_all bs xs)
  pub ordered : k.unordered ≡ out_of bs d m xs

pub met_last : (file : List ℕ) (bs : List Block) (d : List ℕ) (m : ℕ) (xs : List ℕ) (k : Keys) → Met file bs d m xs k
    → bytes_in file k.span.last ≡ last_bytes d (records_all bs xs)
met_last file bs d m xs k h = spans_last file d k.span (records_all bs xs) h.spans

-- an entry more
pub met_entry : (file : List ℕ) (bs : List Block) (d : List ℕ) (m : ℕ) (xs ys : List ℕ) (at : ℕ) (key : List ℕ) (met own : Keys) → Met file bs d m xs met
    → Met file bs (bytes_in file met.span.last) met.unordered ys own → Met file bs d m (xs ++ ys) (entry_keys file at key met own)
unfolding entry_keys
met_entry file bs d m xs ys at key met own h k =
    let last = met_last file bs d m xs met h in
    record {
      spans = subst (Spans file d (span_joined met.span own.span)) (sym (flat_map_append (λ o. block_records bs o) xs ys))
          (spans_joined file d met.span own.span (records_all bs xs) (records_all bs ys) h.spans (subst (λ (l : List ℕ). Spans file l own.span (records_all bs ys)) last k.spans));
      ordered = k.ordered ∙ ap (λ (l : List ℕ). out_of bs l met.unordered ys) last ∙ ap (λ (n : ℕ). out_of bs (last_bytes d (records_all bs xs)) n ys) h.ordered ∙ sym (out_of_append bs d m xs ys);
    }

met_over : (file : List ℕ) (bs : List Block) (d : List ℕ) (m : ℕ) (level at : ℕ) (walk : ℕ → Keys → Keys) (es : List Entry)
    → ((e : Entry) → Memᴰ e es → (k : Keys) → Met file bs (bytes_in file k.span.last) k.unordered (leaves bs level e.offset) (walk e.offset k))
    → (xs : List ℕ) (met : Keys) → Met file bs d m xs met → Met file bs d m (xs ++ flat_map (λ e. leaves bs level e.offset) es) (over_keys file at walk es met)
unfolding over_keys flat_map
met_over file bs d m level at walk [] h xs met k = subst (λ (l : List ℕ). Met file bs d m l met) (sym (append-nil xs)) k
met_over file bs d m level at walk (e ∷ es) h xs met k =
    let next : Keys = entry_keys file at e.key.bytes met (walk e.offset met) in
    let own : List ℕ = leaves bs level e.offset in
    subst (λ (l : List ℕ). Met file bs d m l (over_keys file at walk es next)) (append_assoc xs own (flat_map (λ x. leaves bs level x.offset) es))
    (met_over file bs d m level at walk es (λ x i. h x (Memᴰ.tail i)) (xs ++ own) next (met_entry file bs d m xs own at e.key.bytes met (walk e.offset met) k (h e (Memᴰ.head refl) met)))

pub met_entering : (file : List ℕ) (bs : List Block) (before : Keys)
    → Met file bs (bytes_in file before.span.last) before.unordered [] (keys_entering before)
unfolding keys_entering Spans no_part out_of flat_map
met_entering file bs before = record { spans = (refl, refl); ordered = refl }

module _ (file : List ℕ) (from : ℕ) (bs : List Block) (read : blocks_at file from ≡ answer bs) (root : ℕ) (t : Tree bs root) where
  met_leaf : (b : Block) → Memᴰ b bs → b.frame.level ≡ 0 → (before : Keys)
      → Met file bs (bytes_in file before.span.last) before.unordered (b.frame.start ∷ []) (leaf_keys file b.frame.start before)
  unfolding leaf_keys out_of flat_map
  met_leaf b m level before =
      let d = bytes_in file before.span.last in
      let own = span_over (records_in file b.frame.start) no_span in
      let is = (blocks_read file from bs read b m).read in
      let mine : records_all bs (b.frame.start ∷ []) ≡ b.records = append-nil (block_records bs b.frame.start) ∙ records_at_lem bs root t b m in
      let spans = block_spans file b.frame.start b is level d in
      record {
        spans = subst (Spans file d own) (sym mine) spans;
        ordered = ap (λ (f : Bool). cond (eqb before.unordered 0 && not f) b.frame.start before.unordered) (spans_first file d own b.records (data_some file b.frame.start b is level) spans ∙ ap (first_fits d) (sym (records_at_lem bs root t b m)));
      }

  -- the walk down from a block of the tree meets the tree's data blocks
  pub walk_met : (level : ℕ) (b : Block) → Memᴰ b bs → b.frame.level ≡ level → level ≤ 63 → (before : Keys)
      → Met file bs (bytes_in file before.span.last) before.unordered (leaves bs level b.frame.start) (keys_of file level b.frame.start before)
  unfolding keys_of leaves
  walk_met zero b m here few before = met_leaf b m here before
  walk_met (suc level) b m here few before =
      let at = b.frame.start in
      subst (λ (es : List Entry). Met file bs (bytes_in file before.span.last) before.unordered (flat_map (λ e. leaves bs level e.offset) (block_entries bs at)) (over_keys file at (keys_of file level) es (keys_entering before)))
      (sym (walk_entries file from bs read root t b m (omega arith) (omega arith)))
      (met_over file bs (bytes_in file before.span.last) before.unordered level at (keys_of file level) (block_entries bs at)
      (λ e i k. below e (child bs root t b m level here e i) k (walk_met level)) [] (keys_entering before) (met_entering file bs before))
    where
      below : (e : Entry) → Child bs root t level e → (k : Keys)
          → ((c : Block) → Memᴰ c bs → c.frame.level ≡ level → level ≤ 63 → (q : Keys) → Met file bs (bytes_in file q.span.last) q.unordered (leaves bs level c.frame.start) (keys_of file level c.frame.start q))
          → Met file bs (bytes_in file k.span.last) k.unordered (leaves bs level e.offset) (keys_of file level e.offset k)
      below e c k ih =
          subst (λ (o : ℕ). Met file bs (bytes_in file k.span.last) k.unordered (leaves bs level o) (keys_of file level o k)) c.starts (ih c.block c.member c.leveled (omega arith) k)
