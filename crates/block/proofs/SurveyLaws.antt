-- Laws of the pass over all blocks: what one block more adds.
-- Assumes nothing.
use mathlib.Core.Path.{◌≡◌, refl, sym, ap, ap₂, ◌∙◌, subst}
use mathlib.Core.Bool.{Bool, true, false, ◌||◌, cond, or-false}
use mathlib.Core.List.{List, [], ◌∷◌, ◌++◌, flat_map, append-nil}
use Prim.Native.Nat.{ℕ, ◌+◌, ◌≤◌, ◌<◌}
use native.Mathlib.Omega.{arith}
use lib.ListN.{length, length-append}
use Rattle.std.specs.Prelude.{Result, Ok, Err}
use Rattle.std.specs.Result.{MatchResult, IsErrAnd}
use Rattle.std.proofs.lemmas.Result.{err_from_is_err_and}
use Rattle.outcome.specs.declared.Fault.{Fault}
use Rattle.outcome.specs.declared.Refusal.{Refusal}
use Rattle.outcome.specs.Fault.{said_at, said}
use Rattle.std.specs.Int.{from_bool}
use Rattle.outcome.specs.Outcome.{answer, refused}
use Rattle.lists.specs.Lists.{keep, any}
use Rattle.outcome.proofs.OutcomeLaws.{answer_injective, bind_answer, bind_refused, bind⁻¹, map_refused⁻¹}
use Rattle.items.proofs.ItemsLaws.{Progress, progress_start, progress_more, progress_end, progress_refused}
use Rattle.lists.proofs.ListsLaws.{keep_append, any_append, flat_map_append}
use Rattle.framing.specs.declared.Frame.{Frame}
use Rattle.block.specs.declared.Survey.{Survey}
use Rattle.payload.specs.Payload.{Text}
use Rattle.block.specs.Block.{Block, is_ordinary, block_at, block_step, blocks_at}
use Rattle.block.specs.Survey.{ordinary, records_of, is_root, surveyed, survey_of}
use Rattle.block.specs.declared.Tallied.{Tallied}
use Rattle.block.specs.Answers.{tallied}
use Rattle.framing.proofs.FrameLaws.{Framed}
use Rattle.block.proofs.BlockLaws.{BlockRead, block⇒BlockRead}
use borrow.Author.Tests.{le-leb, lt-leb, eq-eqb, ne_eqb}
use lib.Dec.{leb}

-- ---- the root

pub found_before : (found b : Bool) → found ≡ true → true ≡ (found || b)
found_before found b e = sym (ap (λ (a : Bool). a || b) e)

pub found_here : (found b c : Bool) → found ≡ false → c ≡ b → c ≡ (found || b)
found_here found b c e h = h ∙ sym (ap (λ (a : Bool). a || b) e)

module _ (root rootsize : ℕ) (f : Frame) where
  pub root_elsewhere : (f.start ≡ root → ⊥) → false ≡ is_root root rootsize f
  unfolding is_root
  root_elsewhere h = rw (ne_eqb f.start root h)

  pub root_other_size : f.start ≡ root → (f.size ≡ rootsize → ⊥) → false ≡ is_root root rootsize f
  unfolding is_root
  root_other_size s h = rw (eq-eqb f.start root s, ne_eqb f.size rootsize h)

  pub root_data : f.start ≡ root → f.size ≡ rootsize → f.level < 1 → false ≡ is_root root rootsize f
  unfolding is_root
  root_data s z h = rw (eq-eqb f.start root s, eq-eqb f.size rootsize z, lt-leb 1 f.level h)

  pub root_index : f.start ≡ root → f.size ≡ rootsize → 1 ≤ f.level → leb f.level 63 ≡ is_root root rootsize f
  unfolding is_root is_ordinary
  root_index s z h = rw (eq-eqb f.start root s, eq-eqb f.size rootsize z, le-leb 1 f.level h)

-- ---- one block more

pub ordinary_more : (bs : List Block) (b : Block) → length (ordinary (bs ++ (b ∷ []))) ≡ length (ordinary bs) + from_bool (is_ordinary b.frame.level)
unfolding ordinary keep
ordinary_more bs b =
    ap length (keep_append (λ c. is_ordinary c.frame.level) bs (b ∷ []))
    ∙ length-append (ordinary bs) _
    ∙ ap (λ (n : ℕ). length (ordinary bs) + n) (one (is_ordinary b.frame.level))
  where
    one : (c : Bool) → length (cond c (b ∷ []) []) ≡ from_bool c
    one true = refl
    one false = refl

pub records_more : (bs : List Block) (b : Block) → length (records_of (bs ++ (b ∷ []))) ≡ length (records_of bs) + length b.records
unfolding records_of flat_map
records_more bs b =
    ap length (flat_map_append (λ c. c.records) bs (b ∷ []))
    ∙ length-append (records_of bs) _
    ∙ ap (λ (l : List Text). length (records_of bs) + length l) (append-nil b.records)

pub root_more : (root rootsize : ℕ) (bs : List Block) (b : Block)
    → any (λ c. is_root root rootsize c.frame) (bs ++ (b ∷ [])) ≡ (any (λ c. is_root root rootsize c.frame) bs || is_root root rootsize b.frame)
unfolding any
root_more root rootsize bs b =
    any_append (λ c. is_root root rootsize c.frame) bs (b ∷ [])
    ∙ ap (λ (c : Bool). any (λ c. is_root root rootsize c.frame) bs || c) (or-false (is_root root rootsize b.frame))

pub at_most_one : (n : ℕ) (b : Bool) → n ≡ from_bool b → n ≤ 1
at_most_one n true e = omega arith
at_most_one n false e = omega arith

-- ---- the pass

-- a fault that gets its place
pub placed : {A : Type 0} (Gives : Fault → Refusal → Type 0) (place : ℕ) (r : Result A Fault) (q : Result A Refusal)
    → ((f : Fault) (x : Refusal) → Gives f x → x ≡ record { fault = f; place = place })
    → MatchResult r (λ a. q ≡ Ok a) (λ f. IsErrAnd q (Gives f)) → said q ≡ said_at place r
unfolding said said_at
placed Gives place (Ok a) q given h = rw h
placed Gives place (Err f) q given h =
    let p = err_from_is_err_and q h in
    let e = given f p.0 p.2 in
    rw (p.1, e)

-- a block whose tests were reported
pub record Reported (file : List ℕ) (at : ℕ) (f : Frame) (n : ℕ) : Type 0 where
  pub block : Block
  pub read : block_at file at ≡ answer block
  pub same_frame : block.frame ≡ f
  pub same_count : length block.records ≡ n
  pub forward : 0 < f.size
  pub within : at + f.size ≤ length file
  pub few : n < f.size

pub reported : (file : List ℕ) (at : ℕ) (f : Frame) (n : ℕ) → tallied (block_at file at) ≡ answer (record { frame = f; records = n }) → Reported file at f n
unfolding tallied
reported file at f n e =
    let all = bind⁻¹ (block_at file at) _ _ e in
    let b = all.0 in
    let same = answer_injective _ _ all.2 in
    go b all.1 (ap (λ (t : Tallied). t.frame) same) (ap (λ (t : Tallied). t.records) same) (block⇒BlockRead file at b all.1)
  where
    go : (b : Block) → block_at file at ≡ answer b → b.frame ≡ f → length b.records ≡ n → BlockRead file at b → Reported file at f n
    go b r p q l =
        let framed : Framed file at f = subst (Framed file at) p l.framed in
        let few : length b.records < f.size = subst (λ (g : Frame). length b.records < g.size) p l.few in
        let within = framed.within in
        record {
          block = b;
          read = r;
          same_frame = p;
          same_count = q;
          forward = omega arith;
          within = within;
          few = omega arith;
        }

-- a block that was read, as a step
pub step_read : (file : List ℕ) (at : ℕ) (b : Block) (f : Frame) → block_at file at ≡ answer b → b.frame ≡ f → block_step file at ≡ answer (record { item = b; next = at + f.size })
unfolding block_step
step_read file at b f e same = bind_answer (block_at file at) _ b e ∙ ap (λ (g : Frame). answer (record { item = b; next = at + g.size })) same

module _ (file : List ℕ) (from root rootsize : ℕ) where
  pub record Surveyed (at blocks records : ℕ) (found : Bool) : Type 0 where
    pub seen : List Block
    pub progress : Progress (block_step file) (length file) from at seen
    pub blocks_are : blocks ≡ length (ordinary seen)
    pub records_are : records ≡ length (records_of seen)
    pub root_is : found ≡ any (λ b. is_root root rootsize b.frame) seen
    pub few_blocks : blocks ≤ at
    pub few_records : records ≤ at

  pub surveyed_start : Surveyed from 0 0 false
  unfolding ordinary keep records_of flat_map any
  surveyed_start =
      record {
        seen = [];
        progress = progress_start (block_step file) (length file) from;
        blocks_are = refl;
        records_are = refl;
        root_is = refl;
        few_blocks = omega arith;
        few_records = omega arith;
      }

  pub surveyed_more : (at blocks records : ℕ) (found : Bool) → Surveyed at blocks records found → at < length file
      → (f : Frame) (n one : ℕ) (found' : Bool) → tallied (block_at file at) ≡ answer (record { frame = f; records = n })
      → one ≡ from_bool (is_ordinary f.level) → found' ≡ (found || is_root root rootsize f)
      → Surveyed (at + f.size) (blocks + one) (records + n) found'
  surveyed_more at blocks records found p h f n one found' e o r = go (reported file at f n e)
    where
      go : Reported file at f n → Surveyed (at + f.size) (blocks + one) (records + n) found'
      go q =
          let b = q.block in
          let stepped : block_step file at ≡ answer (record { item = b; next = at + f.size }) = step_read file at b f q.read q.same_frame in
          let single = at_most_one one (is_ordinary f.level) o in
          let few_blocks = p.few_blocks in
          let few_records = p.few_records in
          let few = q.few in
          let forward = q.forward in
          record {
            seen = p.seen ++ (b ∷ []);
            progress = progress_more (block_step file) (length file) from at p.seen (record { item = b; next = at + f.size }) p.progress h stepped (omega arith);
            blocks_are = ap₂ (λ (k l : ℕ). k + l) p.blocks_are (o ∙ ap (λ (g : Frame). from_bool (is_ordinary g.level)) (sym q.same_frame)) ∙ sym (ordinary_more p.seen b);
            records_are = ap₂ (λ (k l : ℕ). k + l) p.records_are (sym q.same_count) ∙ sym (records_more p.seen b);
            root_is = r ∙ ap₂ (λ (c d : Bool). c || d) p.root_is (ap (is_root root rootsize) (sym q.same_frame)) ∙ sym (root_more root rootsize p.seen b);
            few_blocks = omega arith;
            few_records = omega arith;
          }

  pub surveyed_refused : (at blocks records : ℕ) (found : Bool) → Surveyed at blocks records found → at < length file
      → (number place : ℕ) → tallied (block_at file at) ≡ refused number place → survey_of file from root rootsize ≡ refused number place
  unfolding survey_of blocks_at tallied block_step
  surveyed_refused at blocks records found p h number place e =
      bind_refused (blocks_at file from) _ number place
      (progress_refused (block_step file) (length file) from at number place p.seen p.progress h
      (bind_refused (block_at file at) _ number place (map_refused⁻¹ (block_at file at) _ number place e)))

  pub surveyed_end : (at blocks records : ℕ) (found : Bool) → Surveyed at blocks records found → length file ≤ at
      → survey_of file from root rootsize ≡ answer (record { blocks = blocks; records = records; root = found })
  unfolding survey_of blocks_at surveyed
  surveyed_end at blocks records found p h =
      bind_answer (blocks_at file from) _ p.seen (progress_end (block_step file) (length file) from at p.seen p.progress h)
      ∙ ap answer (same p.blocks_are p.records_are p.root_is)
    where
      same : blocks ≡ length (ordinary p.seen) → records ≡ length (records_of p.seen) → found ≡ any (λ b. is_root root rootsize b.frame) p.seen
          → ◌≡◌ {A = Survey}
          (record { blocks = length (ordinary p.seen); records = length (records_of p.seen); root = any (λ b. is_root root rootsize b.frame) p.seen })
          (record { blocks = blocks; records = records; root = found })
      same x y z = cc
