-- Laws of a whole block.
-- Assumes nothing.
use mathlib.Core.Path.{◌≡◌, refl, sym, ap, ◌∙◌, subst}
use mathlib.Core.Bool.{Bool, true, false}
use mathlib.Core.List.{List, []}
use Prim.Native.Nat.{ℕ, ◌+◌, ◌-◌, ◌≤◌, ◌<◌}
use native.Mathlib.Omega.{arith}
use lib.Dec.{leb}
use lib.ListN.{length, take, length-take}
use borrow.Author.Tests.{le-leb, lt-leb, eq-eqb, ne_eqb, leb-true, leb-false}
use Rattle.outcome.specs.Outcome.{Outcome, answer, refused, ◌>>=◌}
use Rattle.items.specs.declared.Step.{Step}
use Rattle.outcome.proofs.OutcomeLaws.{answer_injective, bind_answer, bind_refused, bind⁻¹, map_refused⁻¹}
use Rattle.items.proofs.ItemsLaws.{items_length}
use Rattle.framing.specs.declared.Frame.{Frame}
use Rattle.framing.specs.Frame.{sound_frame_at}
use Rattle.payload.specs.Payload.{Text, payload_at, records_at, entries_at}
use Rattle.payload.proofs.ReadLaws.{payload⁻¹}
use Rattle.block.specs.Block.{Block, is_data, is_ordinary, block_in, block_at}
use Rattle.payload.specs.Answers.{counted}
use Rattle.block.specs.declared.Tallied.{Tallied}
use Rattle.block.specs.Answers.{tallied}
use Rattle.outcome.proofs.ResultLaws.{fault_on}
use Rattle.framing.proofs.FrameLaws.{Framed, frame⇒Framed, sound_frame⁻¹, frame_bounds, frame_start}

-- ---- levels

pub data_level : (level : ℕ) → level ≡ 0 → is_data level ≡ true
unfolding is_data
data_level level h = eq-eqb level 0 h

pub not_data_level : (level : ℕ) → (level ≡ 0 → ⊥) → is_data level ≡ false
unfolding is_data
not_data_level level h = ne_eqb level 0 h

pub ordinary_level : (level : ℕ) → level ≤ 63 → is_ordinary level ≡ true
unfolding is_ordinary
ordinary_level level h = le-leb level 63 h

pub reserved_level : (level : ℕ) → 63 < level → is_ordinary level ≡ false
unfolding is_ordinary
reserved_level level h = lt-leb level 63 h

-- level 0 is data, 1 to 63 index, and higher ones are reserved
pub data LevelOf (level : ℕ) : Type 0 where
  is_data_lem : level ≡ 0 → LevelOf level
  is_index : 1 ≤ level → level ≤ 63 → LevelOf level
  is_reserved : 63 < level → LevelOf level

pub level_of_lem : (level : ℕ) → LevelOf level
level_of_lem level = go (leb 1 level) refl (leb level 63) refl
  where
    go : (some : Bool) → leb 1 level ≡ some → (ordinary : Bool) → leb level 63 ≡ ordinary → LevelOf level
    go false p o q = let none = leb-false 1 level p in is_data_lem (omega arith)
    go true p true q = is_index (leb-true 1 level p) (leb-true level 63 q)
    go true p false q = is_reserved (leb-false level 63 q)

-- ---- the block that a frame encloses

module _ (file : List ℕ) (f : Frame) where
  pub block_data : is_data f.level ≡ true
      → block_in file f ≡ (records_at f.start (take f.end file) (f.body + 1) >>= λ rs. answer (record { frame = f; records = rs; entries = [] }))
  unfolding block_in
  block_data h = rw h

  pub block_index : is_data f.level ≡ false → is_ordinary f.level ≡ true
      → block_in file f ≡ (entries_at f.start (take f.end file) (f.body + 1) >>= λ es. answer (record { frame = f; records = []; entries = es }))
  unfolding block_in
  block_index h o = rw (h, o)

  pub block_reserved : is_data f.level ≡ false → is_ordinary f.level ≡ false → block_in file f ≡ answer (record { frame = f; records = []; entries = [] })
  unfolding block_in
  block_reserved h o = rw (h, o)

  -- what the tests of its payload report
  pub data_sound : (n : ℕ) → f.level ≡ 0 → counted (records_at f.start (take f.end file) (f.body + 1)) ≡ answer n → tallied (block_in file f) ≡ answer (record { frame = f; records = n })
  unfolding tallied counted ◌>>=◌
  data_sound n level e =
      let all = bind⁻¹ (records_at f.start (take f.end file) (f.body + 1)) _ n e in
      rw (block_data (data_level f.level level), all.1) (ap (λ (k : ℕ). answer (record { frame = f; records = k })) (answer_injective _ n all.2))

  pub data_unsound : (n p : ℕ) → f.level ≡ 0 → counted (records_at f.start (take f.end file) (f.body + 1)) ≡ refused n p → tallied (block_in file f) ≡ refused n p
  unfolding tallied counted
  data_unsound n p level e =
      bind_refused (block_in file f) _ n p
      (block_data (data_level f.level level) ∙ bind_refused _ _ n p (map_refused⁻¹ (records_at f.start (take f.end file) (f.body + 1)) length n p e))

  pub index_sound : (n : ℕ) → (f.level ≡ 0 → ⊥) → is_ordinary f.level ≡ true → counted (entries_at f.start (take f.end file) (f.body + 1)) ≡ answer n → tallied (block_in file f) ≡ answer (record { frame = f; records = 0 })
  unfolding tallied counted ◌>>=◌
  index_sound n level o e =
      let all = bind⁻¹ (entries_at f.start (take f.end file) (f.body + 1)) _ n e in
      rw (block_index (not_data_level f.level level) o, all.1)

  pub index_unsound : (n p : ℕ) → (f.level ≡ 0 → ⊥) → is_ordinary f.level ≡ true → counted (entries_at f.start (take f.end file) (f.body + 1)) ≡ refused n p → tallied (block_in file f) ≡ refused n p
  unfolding tallied counted
  index_unsound n p level o e =
      bind_refused (block_in file f) _ n p
      (block_index (not_data_level f.level level) o ∙ bind_refused _ _ n p (map_refused⁻¹ (entries_at f.start (take f.end file) (f.body + 1)) length n p e))

  pub reserved_sound : (f.level ≡ 0 → ⊥) → is_ordinary f.level ≡ false → tallied (block_in file f) ≡ answer (record { frame = f; records = 0 })
  unfolding tallied ◌>>=◌
  reserved_sound level o = rw (block_reserved (not_data_level f.level level) o)

-- ---- a block that was read

-- the block in a frame, by its level
module _ (file : List ℕ) (f : Frame) (b : Block) (e : block_in file f ≡ answer b) where
  pub inside_data : f.level ≡ 0 → (records_at f.start (take f.end file) (f.body + 1) ≡ answer b.records) × (b.frame ≡ f) × (b.entries ≡ [])
  inside_data level =
      let all = bind⁻¹ (records_at f.start (take f.end file) (f.body + 1)) _ b (sym (block_data file f (data_level f.level level)) ∙ e) in
      let same = answer_injective _ b all.2 in
      (all.1 ∙ ap (λ (c : Block). answer c.records) same, sym (ap (λ (c : Block). c.frame) same), sym (ap (λ (c : Block). c.entries) same))

  pub inside_index : (f.level ≡ 0 → ⊥) → f.level ≤ 63
      → (entries_at f.start (take f.end file) (f.body + 1) ≡ answer b.entries) × (b.frame ≡ f) × (b.records ≡ [])
  inside_index some few =
      let index = block_index file f (not_data_level f.level some) (ordinary_level f.level few) in
      let all = bind⁻¹ (entries_at f.start (take f.end file) (f.body + 1)) _ b (sym index ∙ e) in
      let same = answer_injective _ b all.2 in
      (all.1 ∙ ap (λ (c : Block). answer c.entries) same, sym (ap (λ (c : Block). c.frame) same), sym (ap (λ (c : Block). c.records) same))

  pub inside_reserved : 63 < f.level → (b.frame ≡ f) × (b.records ≡ []) × (b.entries ≡ [])
  inside_reserved many =
      let reserved = block_reserved file f (not_data_level f.level (λ z. omega arith)) (reserved_level f.level many) in
      let same = answer_injective _ b (sym reserved ∙ e) in
      (sym (ap (λ (c : Block). c.frame) same), sym (ap (λ (c : Block). c.records) same), sym (ap (λ (c : Block). c.entries) same))

-- at most as many records as bytes
payload_few : {A : Type 0} (step : ℕ → Outcome (Step A)) (text_of : A → Text) (unsorted place end at : ℕ) (xs : List A) → payload_at step text_of unsorted place end at ≡ answer xs → length xs ≤ end - at
payload_few step text_of unsorted place end at xs e = items_length step end (end - at) at xs (payload⁻¹ step text_of unsorted place end at xs e).items

-- where a block that was read lies, and that it has fewer records than bytes
pub record BlockRead (file : List ℕ) (at : ℕ) (b : Block) : Type 0 where
  pub framed : Framed file at b.frame
  pub sound : sound_frame_at file at ≡ answer b.frame
  pub inside : block_in file b.frame ≡ answer b
  pub few : length b.records < b.frame.size

-- the block in a frame has that frame, and fewer records than the frame has bytes
inside_frame : (file : List ℕ) (at : ℕ) (f : Frame) (b : Block) → Framed file at f → block_in file f ≡ answer b → (b.frame ≡ f) × (length b.records < f.size)
unfolding records_at
inside_frame file at f b l e = go (level_of_lem f.level)
  where
    some : f.body < f.end
    some = l.some

    sized : f.end + 8 ≡ at + f.size
    sized = l.sized

    number : at < f.body
    number = l.number

    none : b.records ≡ [] → length b.records < f.size
    none empty = subst (λ (rs : List Text). length rs < f.size) (sym empty) (omega arith)

    go : LevelOf f.level → (b.frame ≡ f) × (length b.records < f.size)
    go (is_data_lem level) =
        let r = inside_data file f b e level in
        let few = payload_few _ _ 16 f.start (length (take f.end file)) (f.body + 1) b.records r.0 in
        (r.1, omega (arith, simp length-take at few))
    go (is_index more level) = let r = inside_index file f b e (λ z. omega arith) level in (r.1, none r.2)
    go (is_reserved level) = let r = inside_reserved file f b e level in (r.0, none r.1)

pub block⇒BlockRead : (file : List ℕ) (at : ℕ) (b : Block) → block_at file at ≡ answer b → BlockRead file at b
unfolding block_at
block⇒BlockRead file at b e =
    let first = bind⁻¹ (sound_frame_at file at) (block_in file) b e in
    read first.0 first.1 first.2
  where
    read : (f : Frame) → sound_frame_at file at ≡ answer f → block_in file f ≡ answer b → BlockRead file at b
    read f s i =
        let framed = frame⇒Framed file at f (sound_frame⁻¹ file at f s).0 in
        let inner = inside_frame file at f b framed i in
        let same = sym inner.0 in
        record {
          framed = subst (Framed file at) same framed;
          sound = s ∙ ap answer same;
          inside = subst (λ (g : Frame). block_in file g ≡ answer b) same i;
          few = subst (λ (g : Frame). length b.records < g.size) same inner.1;
        }

-- ---- the frame, then the block in it

pub block_framed : (file : List ℕ) (at : ℕ) (f : Frame) (o : Outcome Tallied) → sound_frame_at file at ≡ answer f → o ≡ tallied (block_in file f) → o ≡ tallied (block_at file at)
unfolding block_at
block_framed file at f o e h = h ∙ ap tallied (sym (bind_answer (sound_frame_at file at) (block_in file) f e))

pub block_unframed : (file : List ℕ) (at number place : ℕ) → sound_frame_at file at ≡ refused number place → tallied (block_at file at) ≡ refused number place
unfolding block_at tallied
block_unframed file at number place e = bind_refused _ _ number place (bind_refused (sound_frame_at file at) (block_in file) number place e)

-- ---- what the proofs of the code take

pub ruleset block_rules = (frame_bounds, frame_start, block_framed, block_unframed, fault_on)
