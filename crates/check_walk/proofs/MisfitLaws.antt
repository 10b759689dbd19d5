-- 24: the keys that the walk finds not to fit are those that the key rule refuses, where the records of the file rise.
-- Assumes nothing.
use mathlib.Core.Path.{◌≡◌, refl, sym, ap, ◌∙◌, subst}
use mathlib.Core.Bool.{Bool, true, false, ◌&&◌, cond, and_comm}
use mathlib.Core.List.{List, [], ◌∷◌, ◌++◌, map, flat_map, append-nil}
use Prim.Native.Nat.{ℕ, zero, suc}
use native.Mathlib.Omega.{arith}
use lib.Seq.{append_snoc}
use Rattle.byte_string.specs.Order.{at_most}
use Rattle.byte_string.proofs.OrderLaws.{nil_at_most, at_most_trans}
use Rattle.outcome.specs.Outcome.{answer}
use Rattle.lists.specs.Lists.{all}
use Rattle.lists.proofs.ListsLaws.{Ascending, flat_map_append, all_member, member_all, same_tests}
use Rattle.payload.specs.Payload.{Text, Entry, rising_from}
use Rattle.block.specs.Block.{Block, blocks_at}
use Rattle.block.specs.Survey.{records_of}
use Rattle.check_walk.specs.declared.keys.Span.{Span}
use Rattle.check_walk.specs.declared.keys.Keys.{Keys}
use Rattle.tree.specs.Tree.{block_entries, block_records, block_level, leaves, under, key_fits}
use Rattle.check_walk.specs.Lookup.{bytes_in, entries_in}
use Rattle.check_walk.specs.Keys.{earlier, first_of, fits_between, entry_keys, over_keys, keys_entering, keys_of, leaf_keys}
use Rattle.check_walk.proofs.AscentLaws.{walk_entries}
use Rattle.check_walk.proofs.SpanLaws.{last_bytes, last_bytes_append, Spans}
use Rattle.check_walk.proofs.WalkLaws.{records_all, Met, met_last, met_entry, met_entering, walk_met}
use Rattle.check_walk.proofs.NeighbourLaws.{from_each, last_of}
use Rattle.tree.proofs.TreeLaws.{Tree}
use Rattle.tree.proofs.TreeWays.{Way, by_entry, leaves_before, pre, records_cut, way_block, under_some}
use Rattle.tree.proofs.TreeWays.{Met as MetBlock}
use Rattle.tree.proofs.TreeKeys.{key_fits_way}

-- ---- the first of some places

unfoldable pub least_of : ℕ → List ℕ → ℕ
least_of m [] = m
least_of m (x ∷ xs) = least_of (earlier m x) xs

pub least_of_append : (m : ℕ) (xs ys : List ℕ) → least_of m (xs ++ ys) ≡ least_of (least_of m xs) ys
unfolding least_of
least_of_append m [] ys = refl
least_of_append m (x ∷ xs) ys = least_of_append (earlier m x) xs ys

-- ---- the index blocks with a key that does not fit, in walk order

-- the block at `at`, where the key of its entry does not fit
abbrev pub misfit_of : List Block → (level at : ℕ) → Entry → List ℕ
misfit_of bs level at e = cond (key_fits bs e.key.bytes (under bs level e.offset)) [] (at ∷ [])

unfoldable pub misfits : List Block → (level at : ℕ) → List ℕ
misfits bs zero at = []
misfits bs (suc level) at = flat_map (λ e. misfits bs level e.offset ++ misfit_of bs level at e) (block_entries bs at)

-- ---- rising records

pub rising_left : (d : List ℕ) (xs ys : List Text) → rising_from d (map (λ r. r.bytes) (xs ++ ys)) ≡ true → rising_from d (map (λ r. r.bytes) xs) ≡ true
unfolding rising_from
rising_left d [] ys h = refl
rising_left d (x ∷ xs) ys h = go (at_most d x.bytes) h (rising_left x.bytes xs ys)
  where
    go : (b : Bool) → (b && rising_from x.bytes (map (λ r. r.bytes) (xs ++ ys))) ≡ true
        → (rising_from x.bytes (map (λ r. r.bytes) (xs ++ ys)) ≡ true → rising_from x.bytes (map (λ r. r.bytes) xs) ≡ true)
        → (b && rising_from x.bytes (map (λ r. r.bytes) xs)) ≡ true
    go true k rest = rest k
    go false k rest = k

-- in rising records the last one says "every record"
all_last : (key d : List ℕ) (rs : List Text) → rising_from d (map (λ r. r.bytes) rs) ≡ true → all (λ r. at_most r.bytes key) rs ≡ at_most (last_bytes [] rs) key
unfolding all last_bytes
all_last key d [] h = sym (nil_at_most key)
all_last key d (x ∷ xs) h = same_tests (all (λ r. at_most r.bytes key) (x ∷ xs)) (at_most (last_bytes x.bytes xs) key) forth back
  where
    forth : all (λ r. at_most r.bytes key) (x ∷ xs) ≡ true → at_most (last_bytes x.bytes xs) key ≡ true
    forth e = let l = last_of x xs in ap (λ (b : List ℕ). at_most b key) l.2 ∙ all_member (λ r. at_most r.bytes key) (x ∷ xs) e l.0 l.1

    back : at_most (last_bytes x.bytes xs) key ≡ true → all (λ r. at_most r.bytes key) (x ∷ xs) ≡ true
    back e = member_all (λ r. at_most r.bytes key) (x ∷ xs) (λ r m. at_most_trans r.bytes (last_bytes x.bytes xs) key (from_each d (x ∷ xs) h r m) e)

-- the test that the walk makes is the key rule's
test_same : (file key : List ℕ) (met own : Span) (before : List Text) (first : Text) (rest : List Text) → rising_from [] (map (λ r. r.bytes) before) ≡ true
    → bytes_in file met.last ≡ last_bytes [] before → (d : List ℕ) → Spans file d own (first ∷ rest)
    → fits_between file key met own ≡ (at_most key first.bytes && all (λ r. at_most r.bytes key) before)
unfolding fits_between Spans
test_same file key met own before first rest rise last d spans =
    ap (λ (l : List ℕ). at_most l key && at_most key (bytes_in file (first_of own))) last
    ∙ ap (λ (l : List ℕ). at_most (last_bytes [] before) key && at_most key l) spans.1
    ∙ ap (λ (b : Bool). b && at_most key first.bytes) (sym (all_last key [] before rise))
    ∙ and_comm (all (λ r. at_most r.bytes key) before) (at_most key first.bytes)

least_cond : (fits : Bool) (m at : ℕ) → cond fits m (earlier m at) ≡ least_of m (cond fits [] (at ∷ []))
unfolding least_of
least_cond true m at = refl
least_cond false m at = refl

-- ---- the walk

module _ (file : List ℕ) (from : ℕ) (bs : List Block) (read : blocks_at file from ≡ answer bs) (root : ℕ) (t : Tree bs root)
    (walked : Ascending (leaves bs (block_level bs root) root)) (placed : Ascending (map (λ r. r.at) (records_of bs))) (rise : rising_from [] (map (λ r. r.bytes) (records_of bs)) ≡ true) where
  way_met : (level at : ℕ) → Way bs root level at → (before : Keys)
      → Met file bs (bytes_in file before.span.last) before.unordered (leaves bs level at) (keys_of file level at before)
  way_met level at w before = go (way_block bs root t level at w)
    where
      go : MetBlock bs root t level at → Met file bs (bytes_in file before.span.last) before.unordered (leaves bs level at) (keys_of file level at before)
      go b = subst (λ (o : ℕ). Met file bs (bytes_in file before.span.last) before.unordered (leaves bs level o) (keys_of file level o before)) b.starts
          (walk_met file from bs read root t level b.block b.member b.leveled b.few before)

  -- the test at an entry
  way_test : (level at : ℕ) (w : Way bs root level at) (key : List ℕ) (met : Keys) → bytes_in file met.span.last ≡ last_bytes [] (pre bs root level at w)
      → fits_between file key met.span (keys_of file level at met).span ≡ key_fits bs key (under bs level at)
  unfolding under
  way_test level at w key met last = go (under_some bs root t level at w)
    where
      go : (first : Text) × (rest : List Text) × (under bs level at ≡ first ∷ rest)
          → fits_between file key met.span (keys_of file level at met).span ≡ key_fits bs key (under bs level at)
      go (first, rest, own) =
          test_same file key met.span (keys_of file level at met).span (pre bs root level at w) first rest
          (rising_left [] (pre bs root level at w) _ (subst (λ (rs : List Text). rising_from [] (map (λ r. r.bytes) rs) ≡ true) (records_cut bs root t walked level at w) rise))
          last (bytes_in file met.span.last) (subst (Spans file (bytes_in file met.span.last) (keys_of file level at met).span) own (way_met level at w met).spans)
          ∙ sym (key_fits_way bs root t walked placed key level at w first rest own)

  -- the last record before an entry's block
  way_last : (level at : ℕ) (w : Way bs root (suc level) at) (front : List Entry) (e : Entry) (back : List Entry) (p : block_entries bs at ≡ front ++ (e ∷ back)) (d : List ℕ) (l : List ℕ)
      → d ≡ last_bytes [] (pre bs root (suc level) at w) → l ≡ last_bytes d (records_all bs (flat_map (λ x. leaves bs level x.offset) front))
      → l ≡ last_bytes [] (pre bs root level e.offset (by_entry at front e back w p refl))
  unfolding pre leaves_before
  way_last level at w front e back p d l h k =
      k ∙ ap (λ (x : List ℕ). last_bytes x (records_all bs (flat_map (λ y. leaves bs level y.offset) front))) h
      ∙ sym (last_bytes_append [] (records_all bs (leaves_before bs root (suc level) at w)) (records_all bs (flat_map (λ y. leaves bs level y.offset) front)))
      ∙ ap (last_bytes []) (sym (flat_map_append (λ o. block_records bs o) (leaves_before bs root (suc level) at w) (flat_map (λ y. leaves bs level y.offset) front)))

  over_misfit : (level at : ℕ) (w : Way bs root (suc level) at) (d : List ℕ) (m : ℕ) → d ≡ last_bytes [] (pre bs root (suc level) at w)
      → ((o : ℕ) (v : Way bs root level o) (k : Keys) → bytes_in file k.span.last ≡ last_bytes [] (pre bs root level o v) → (keys_of file level o k).misfit ≡ least_of k.misfit (misfits bs level o))
      → (front back : List Entry) → block_entries bs at ≡ front ++ back → (met : Keys) → Met file bs d m (flat_map (λ x. leaves bs level x.offset) front) met
      → (over_keys file at (keys_of file level) back met).misfit ≡ least_of met.misfit (flat_map (λ e. misfits bs level e.offset ++ misfit_of bs level at e) back)
  unfolding over_keys flat_map least_of entry_keys
  over_misfit level at w d m h ih front [] p met k = refl
  over_misfit level at w d m h ih front (e ∷ back) p met k =
      over_misfit level at w d m h ih (front ++ (e ∷ [])) back (p ∙ sym (append_snoc front e back)) next
      (subst (λ (l : List ℕ). Met file bs d m l next) more (met_entry file bs d m done (leaves bs level e.offset) at e.key.bytes met own k (way_met level e.offset v met)))
      ∙ ap (λ (n : ℕ). least_of n rest) step
      ∙ sym (least_of_append met.misfit (misfits bs level e.offset ++ misfit_of bs level at e) rest)
    where
      v : Way bs root level e.offset
      v = by_entry at front e back w p refl

      own : Keys
      own = keys_of file level e.offset met

      next : Keys
      next = entry_keys file at e.key.bytes met own

      done : List ℕ
      done = flat_map (λ x. leaves bs level x.offset) front

      rest : List ℕ
      rest = flat_map (λ x. misfits bs level x.offset ++ misfit_of bs level at x) back

      more : done ++ leaves bs level e.offset ≡ flat_map (λ x. leaves bs level x.offset) (front ++ (e ∷ []))
      more = ap (λ (l : List ℕ). done ++ l) (sym (append-nil (leaves bs level e.offset))) ∙ sym (flat_map_append (λ x. leaves bs level x.offset) front (e ∷ []))

      last : bytes_in file met.span.last ≡ last_bytes [] (pre bs root level e.offset v)
      last = way_last level at w front e back p d (bytes_in file met.span.last) h (met_last file bs d m done met k)

      step : next.misfit ≡ least_of met.misfit (misfits bs level e.offset ++ misfit_of bs level at e)
      step =
          ap (λ (b : Bool). cond b own.misfit (earlier own.misfit at)) (way_test level e.offset v e.key.bytes met last)
          ∙ least_cond (key_fits bs e.key.bytes (under bs level e.offset)) own.misfit at
          ∙ ap (λ (n : ℕ). least_of n (misfit_of bs level at e)) (ih e.offset v met last)
          ∙ sym (least_of_append met.misfit (misfits bs level e.offset) (misfit_of bs level at e))

  -- the walk down from a block keeps the first of its misfits
  pub walk_misfit : (level at : ℕ) (w : Way bs root level at) (before : Keys) → bytes_in file before.span.last ≡ last_bytes [] (pre bs root level at w)
      → (keys_of file level at before).misfit ≡ least_of before.misfit (misfits bs level at)
  unfolding keys_of leaf_keys misfits least_of flat_map keys_entering
  walk_misfit zero at w before h = refl
  walk_misfit (suc level) at w before h = go (way_block bs root t (suc level) at w) (walk_misfit level)
    where
      go : MetBlock bs root t (suc level) at
          → ((o : ℕ) (v : Way bs root level o) (k : Keys) → bytes_in file k.span.last ≡ last_bytes [] (pre bs root level o v) → (keys_of file level o k).misfit ≡ least_of k.misfit (misfits bs level o))
          → (keys_of file (suc level) at before).misfit ≡ least_of before.misfit (misfits bs (suc level) at)
      go b ih =
          let few = b.few in
          let high = b.leveled in
          let same = subst (λ (o : ℕ). entries_in file o ≡ block_entries bs o) b.starts (walk_entries file from bs read root t b.block b.member (omega arith) (omega arith)) in
          ap (λ (es : List Entry). (over_keys file at (keys_of file level) es (keys_entering before)).misfit) same
          ∙ over_misfit level at w (bytes_in file before.span.last) before.unordered h ih [] (block_entries bs at) refl (keys_entering before) (met_entering file bs before)
