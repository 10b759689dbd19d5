-- Laws of the walk down from an index block: it is a way through its entries.
-- Assumes nothing.
use Rattle.std.specs.Prelude.{Result}
use Rattle.std.specs.Prelude.{Option as Given}
use Rattle.outcome.specs.declared.Refusal.{Refusal}
use Rattle.part.specs.declared.Part.{Part}
use mathlib.Core.Path.{◌≡◌, refl, sym, ap, ◌∙◌, subst}
use mathlib.Core.Bool.{cond}
use mathlib.Core.List.{List, [], ◌∷◌}
use mathlib.Core.Option.{Option}
use Prim.Native.Nat.{ℕ, zero, suc, ◌+◌, ◌-◌, ◌≤◌}
use native.Mathlib.Omega.{arith}
use lib.ListN.{length}
use Rattle.outcome.specs.Outcome.{Outcome, answer, ◌>>=◌}
use Rattle.framing.specs.declared.Frame.{Frame}
use Rattle.payload.specs.Payload.{Entry}
use Rattle.block.specs.Block.{Block, block_in}
use Rattle.query.specs.Query.{Query}
use Rattle.query.specs.Opening.{may_match}
use Rattle.search.specs.declared.opening.Named.{Named}
use Rattle.search.specs.declared.walk.Progress.{Progress}
use Rattle.search.specs.Search.{Walked, with_opened, next_key, child_named, open_block, walk_over, walk_of}
use Rattle.search.specs.Steps.{bound_of, entries_from, StaysWithin, WalkAsks, ListsHold, Reaches, WalkSaid}
use Rattle.search.proofs.ChildLaws.{block_frame, block_entries_lem}

-- ---- through the entries of an index block

module _ (file : List ℕ) (q : Query) (places room from : ℕ) where
  -- the walk down from a block of this level that is named
  unfoldable pub down_from : Named → (level : ℕ) → Option (List ℕ) → Walked → Outcome Walked
  down_from n level bound t = open_block file places from n t >>= λ c. walk_of file q places room from level c bound (with_opened n.offset t)

  -- the blocks of these entries of the index block with this frame
  unfoldable pub through : Frame → Option (List ℕ) → List Entry → Walked → Outcome Walked
  through f above es s = walk_over q (λ e bound t. down_from (child_named f.start (f.level - 1) e.offset e.size) (f.level - 1) bound t) above es s

  pub through_none : (f : Frame) (above : Option (List ℕ)) (s : Walked) → through f above [] s ≡ answer s
  unfolding through walk_over
  through_none f above s = refl

  pub through_next : (f : Frame) (above : Option (List ℕ)) (e : Entry) (es : List Entry) (s : Walked)
      → through f above (e ∷ es) s
      ≡ (cond (may_match e.key.bytes (next_key es above) q)
      (down_from (child_named f.start (f.level - 1) e.offset e.size) (f.level - 1) (next_key es above) s) (answer s)
      >>= through f above es)
  unfolding through walk_over
  through_next f above e es s = refl

  -- a walk over entries, where `level` is one less than the index block's
  over : (place level : ℕ) → Option (List ℕ) → List Entry → Walked → Outcome Walked
  over place level above es s = walk_over q (λ e bound t. down_from (child_named place level e.offset e.size) level bound t) above es s

  walk_suc : (level : ℕ) (b : Block) (above : Option (List ℕ)) (s : Walked) → (level ≡ 0 → ⊥)
      → walk_of file q places room from level b above s ≡ over b.frame.start (level - 1) above b.entries s
  unfolding over down_from walk_of child_named
  walk_suc zero b above s h = absurd (h refl)
  walk_suc (suc level) b above s h =
      let one : level ≡ suc level - 1 = omega arith in
      ap (λ (l : ℕ). over b.frame.start l above b.entries s) one

  walk_through : (f : Frame) (b : Block) → block_in file f ≡ answer b → (f.level ≡ 0 → ⊥) → f.level ≤ 63 → (above : Option (List ℕ)) (s : Walked)
      → walk_of file q places room from f.level b above s ≡ through f above b.entries s
  unfolding over through
  walk_through f b e index ordinary above s =
      walk_suc f.level b above s index ∙ ap (λ (g : Frame). over g.start (f.level - 1) above b.entries s) (block_frame file f b e index ordinary)

-- what a way through its entries says is what the walk down from an index block says
pub walk_said : {file : List ℕ} {q : Query} {from : ℕ} {f : Frame} {above : Given Part} {p₀ : Progress} {opened₀ results₀ : List ℕ}
    {r : Result Progress Refusal} {opened_now resultsNow : List ℕ}
    → WalkAsks file f above p₀ (length opened₀) (length results₀) → (f.level ≡ 0 → ⊥) → StaysWithin r (length opened₀) (length results₀)
    → ((all : List Entry) (s : Walked) → entries_from file f (f.body + 1) ≡ answer all → ListsHold opened₀ results₀ p₀ s
    → Reaches r opened_now resultsNow (through file q (length opened₀) (length results₀) from f (bound_of file above) all s))
    → WalkSaid file q from f above p₀ opened₀ results₀ r opened_now resultsNow
walk_said {file} {q} {from} {f} {above} {p₀} {opened₀} {results₀} {r} {opened_now} {resultsNow} asks index stays ends =
    record {
      stays = stays;
      reaches = λ b s e h.
          subst (Reaches r opened_now resultsNow)
          (sym (walk_through file q (length opened₀) (length results₀) from f b e index asks.ordinary (bound_of file above) s))
          (ends b.entries s (block_entries_lem file f b e index asks.ordinary asks.frame.end) h);
    }
