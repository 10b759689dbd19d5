-- What the walks find is what the rules state, for blocks that have passed their tests, 17, 19 and 20.
-- Assumes nothing.
use mathlib.Core.Path.{◌≡◌, refl, sym, ap, ◌∙◌, subst}
use mathlib.Core.Logic.{◌≢◌}
use mathlib.Core.Bool.{Bool, true, false}
use mathlib.Core.List.Memᴰ
use mathlib.Core.List.{List, [], map, flat_map, Memᴰ}
use Prim.Native.Nat.{ℕ, ◌+◌, ◌≤◌, ◌<◌}
use native.Mathlib.Omega.{arith}
use lib.Dec.{eqb}
use lib.ListN.{length}
use borrow.Author.Tests.{eqb-true, eqb-false}
use Rattle.outcome.specs.Outcome.{Outcome, answer, refused, ◌>>◌}
use Rattle.part.specs.Part.{part}
use Rattle.lists.specs.Lists.{keep}
use Rattle.outcome.proofs.OutcomeLaws.{after_answer, after_refused}
use Rattle.lists.proofs.ListsLaws.{Ascending, keep_member}
use Rattle.framing.specs.Frame.{frame_at}
use Rattle.payload.specs.Payload.{Text, Entry, rising, rising_from}
use Rattle.block.specs.Block.{Block, is_data, blocks_at}
use Rattle.block.specs.Survey.{ordinary, records_of}
use Rattle.block.proofs.HeldLaws.{block_frame, entry⇒index, data_some, records_rising}
use Rattle.block.proofs.TileLaws.{blocks_read, ReadBlock, file_records_all}
use Rattle.check_walk.specs.declared.keys.Keys.{Keys}
use Rattle.tree.specs.Tree.{block_level, leaves, under, block_records}
use Rattle.tree.specs.Stages.{each, ascending, neighbours, keys_fit, naming_of, walk_rules_of}
use Rattle.tree.proofs.StageLaws.{ascending⁻¹, naming⁻¹, fit⁻¹, rightly⇒once, rightly⇒unnamed}
use Rattle.tree.proofs.TreeLaws.{Tree, level_at, records_at_lem}
use Rattle.tree.proofs.TreeWays.{at_root, leaves_before, pre, leaves_file_order, root_records}
use Rattle.tree.proofs.TreeBlocks.{blocks⇒Tree}
use Rattle.check_walk.specs.Lookup.{no_part, bytes_in, level_of}
use Rattle.check_walk.specs.Ascent.{ascent_of}
use Rattle.check_walk.specs.Keys.{no_span, no_keys, keys_of}
use Rattle.check_walk.specs.Walk.{place_said, keys_said, walked_of}
use Rattle.check_walk.proofs.AscentLaws.{ascent_leaves}
use Rattle.check_walk.proofs.SpanLaws.{last_bytes}
use Rattle.check_walk.proofs.WalkLaws.{out_of, Met, walk_met}
use Rattle.check_walk.proofs.NeighbourLaws.{DataBlock, neighbours_walk, ordered_rising}
use Rattle.check_walk.proofs.MisfitLaws.{walk_misfit}
use Rattle.check_walk.proofs.FirstMisfitLaws.{keys-first}
use Rattle.check_walk.proofs.WalkedLaws.{said_place, keys_unordered, walked_refused, walked_risen}

-- what the walks need: the blocks of a file, none of which begins at 0, that have passed 17, 19 and 20
pub record Ready (file : List ℕ) (from root : ℕ) (bs : List Block) : Type 0 where
  pub later : 0 < from
  pub read : blocks_at file from ≡ answer bs
  pub rooted : (b : Block) × Memᴰ b bs × (b.frame.start ≡ root) × (1 ≤ b.frame.level) × (b.frame.level ≤ 63)
  pub named : naming_of bs root ≡ answer tt

module _ (file : List ℕ) (from root : ℕ) (bs : List Block) (ready : Ready file from root bs) where
  read_at : (b : Block) → Memᴰ b bs → ReadBlock file from b
  read_at b m = blocks_read file from bs ready.read b m

  abbrev top : Block
  top = ready.rooted.0

  top_member : Memᴰ top bs
  top_member = ready.rooted.1

  top_start : top.frame.start ≡ root
  top_start = ready.rooted.2

  top_few : top.frame.level ≤ 63
  top_few = ready.rooted.4

  whole : from ≤ length file
  whole = let r = read_at top top_member in let after = r.after in let within = r.within in omega arith

  start_some : (b : Block) → Memᴰ b bs → b.frame.start ≢ 0
  start_some b m z = let r = read_at b m in let after = r.after in let later = ready.later in omega arith

  named : (b : Block) → Memᴰ b bs → (e : Entry) → Memᴰ e b.entries
      → (c : Block) × Memᴰ c bs × (c.frame.start ≡ e.offset) × (c.frame.size ≡ e.size) × (c.frame.level + 1 ≡ b.frame.level)
  named b m e n = fit⁻¹ bs (naming⁻¹ bs root ready.named).0 b m (entry⇒index file b.frame.start b (read_at b m).read e n).1 e n

  tree : Tree bs root
  tree =
      blocks⇒Tree file from bs ready.read whole root named
      (rightly⇒once bs root (naming⁻¹ bs root ready.named).1)
      (rightly⇒unnamed bs root (naming⁻¹ bs root ready.named).1 top top_member top_few top_start)
      ready.rooted

  -- the level that the walk begins with
  root_level : level_of (frame_at file root) ≡ block_level bs root
  unfolding level_of
  root_level =
      ap (λ (o : ℕ). level_of (frame_at file o)) (sym top_start)
      ∙ ap level_of (block_frame file top.frame.start top (read_at top top_member).read)
      ∙ sym (level_at bs root tree top top_member)
      ∙ ap (block_level bs) top_start

  -- 22
  root_ascent : (level : ℕ) → level ≡ level_of (frame_at file root)
      → (ascent_of file level root 0 >> answer tt) ≡ ascending 0 (leaves bs (block_level bs root) root)
  root_ascent level e =
      let here : top.frame.level ≡ block_level bs root = sym (level_at bs root tree top top_member) ∙ ap (block_level bs) top_start in
      ap (λ (l : ℕ). ascent_of file l root 0 >> answer tt) (e ∙ root_level ∙ sym here)
      ∙ ap (λ (o : ℕ). ascent_of file top.frame.level o 0 >> answer tt) (sym top_start)
      ∙ ascent_leaves file from bs ready.read root tree top top_member top_few 0
      ∙ ap (λ (l : ℕ). ascending 0 (leaves bs l top.frame.start)) here
      ∙ ap (λ (o : ℕ). ascending 0 (leaves bs (block_level bs root) o)) top_start

  module _ (passed : ascending 0 (leaves bs (block_level bs root) root) ≡ answer tt) where
    walked : Ascending (leaves bs (block_level bs root) root)
    walked = (ascending⁻¹ 0 (leaves bs (block_level bs root) root) passed).0

    -- what the walk from the root hands back
    abbrev keys : Keys
    keys = keys_of file (block_level bs root) root no_keys

    met : Met file bs [] 0 (leaves bs (block_level bs root) root) keys
    unfolding no_keys no_span no_part bytes_in part
    met =
        let here : top.frame.level ≡ block_level bs root = sym (level_at bs root tree top top_member) ∙ ap (block_level bs) top_start in
        let few = top_few in
        subst (λ (o : ℕ). Met file bs [] 0 (leaves bs (block_level bs root) o) (keys_of file (block_level bs root) o no_keys)) top_start
        (walk_met file from bs ready.read root tree (block_level bs root) top top_member here (omega arith) no_keys)

    data_of : (d : Block) → Memᴰ d (keep (λ b. is_data b.frame.level) bs) → DataBlock bs d
    unfolding is_data
    data_of d i =
        let k = keep_member (λ b. is_data b.frame.level) bs d i in
        let is = (read_at d k.0).read in
        record {
          start_some = start_some d k.0;
          found = records_at_lem bs root tree d k.0;
          some = data_some file d.frame.start d is (eqb-true d.frame.level 0 k.1);
          sorted = records_rising file d.frame.start d is;
        }

    -- 23
    root_neighbours : neighbours (keep (λ b. is_data b.frame.level) bs) ≡ place_said 23 keys.unordered
    root_neighbours =
        neighbours_walk bs (keep (λ b. is_data b.frame.level) bs) data_of
        ∙ ap (λ (xs : List ℕ). place_said 23 (out_of bs [] 0 xs)) (sym (leaves_file_order bs root tree walked))
        ∙ ap (place_said 23) (sym met.ordered)

    leaf_rising : (x : ℕ) → Memᴰ x (leaves bs (block_level bs root) root) → (x ≢ 0) × (rising (map (λ r. r.bytes) (block_records bs x)) ≡ true)
    leaf_rising x i =
        let p = Memᴰ.of_map (λ (b : Block). b.frame.start) (keep (λ b. is_data b.frame.level) bs) (subst (Memᴰ x) (leaves_file_order bs root tree walked) i) in
        let d = data_of p.0 p.1 in (
          subst (λ (o : ℕ). o ≢ 0) p.2 d.start_some,
          subst (λ (o : ℕ). rising (map (λ r. r.bytes) (block_records bs o)) ≡ true) p.2 (ap (λ (rs : List Text). rising (map (λ r. r.bytes) rs)) d.found ∙ d.sorted),
        )

    -- where 23 passes, the records of the file rise
    records_rise : keys.unordered ≡ 0 → rising_from [] (map (λ r. r.bytes) (records_of bs)) ≡ true
    unfolding under
    records_rise z =
        subst (λ (rs : List Text). rising_from [] (map (λ r. r.bytes) rs) ≡ true) (root_records bs root tree walked)
        (ordered_rising bs [] (leaves bs (block_level bs root) root) leaf_rising (sym met.ordered ∙ z))

    -- 24, where 23 passes
    root_keys : keys.unordered ≡ 0 → each (keys_fit bs) 24 (ordinary bs) ≡ place_said 24 keys.misfit
    unfolding no_keys no_span no_part bytes_in part pre leaves_before flat_map last_bytes
    root_keys z =
        keys-first bs root tree start_some
        ∙ ap (place_said 24) (sym (walk_misfit file from bs ready.read root tree walked (file_records_all file from bs ready.read whole) (records_rise z) (block_level bs root) root (at_root refl refl) no_keys refl))

    -- 23 and 24
    keys_rules : keys_said keys ≡ (neighbours (keep (λ b. is_data b.frame.level) bs) >> each (keys_fit bs) 24 (ordinary bs))
    unfolding keys_said
    keys_rules = go (eqb keys.unordered 0) refl
      where
        go : (b : Bool) → eqb keys.unordered 0 ≡ b
            → keys_said keys ≡ (neighbours (keep (λ c. is_data c.frame.level) bs) >> each (keys_fit bs) 24 (ordinary bs))
        go true p =
            ap (λ (o : Outcome (Unit {0})). o >> place_said 24 keys.misfit) (sym root_neighbours)
            ∙ ap (λ (o : Outcome (Unit {0})). neighbours (keep (λ c. is_data c.frame.level) bs) >> o) (sym (root_keys (eqb-true keys.unordered 0 p)))
        go false p =
            let out = keys_unordered keys (eqb-false keys.unordered 0 p) in
            out ∙ sym (after_refused (neighbours (keep (λ c. is_data c.frame.level) bs)) _ 23 keys.unordered (root_neighbours ∙ said_place 23 keys.unordered (eqb-false keys.unordered 0 p)))

  -- 22 to 24
  pub walked_rules : walked_of file root ≡ walk_rules_of bs root
  unfolding walk_rules_of
  walked_rules = go (ascent_of file (level_of (frame_at file root)) root 0) refl
    where
      level : ℕ
      level = level_of (frame_at file root)

      go : (o : Outcome ℕ) → ascent_of file level root 0 ≡ o → walked_of file root ≡ walk_rules_of bs root
      go (answer least) e =
          let passed = sym (root_ascent level refl) ∙ after_answer (ascent_of file level root 0) (answer tt) least e in
          walked_risen file root level refl least e
          ∙ ap (λ (l : ℕ). keys_said (keys_of file l root no_keys)) root_level
          ∙ keys_rules passed
          ∙ sym (after_answer (ascending 0 (leaves bs (block_level bs root) root)) _ tt passed)
      go (refused number place) e =
          walked_refused file root level refl number place e
          ∙ sym (after_refused (ascending 0 (leaves bs (block_level bs root) root)) _ number place (sym (root_ascent level refl) ∙ after_refused (ascent_of file level root 0) (answer tt) number place e))
