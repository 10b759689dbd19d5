-- Where the records of a file lie: one after the other, and their bytes are the file's.
-- Assumes nothing.
use mathlib.Core.Path.{◌≡◌, refl, sym, ap, ◌∙◌, subst}
use mathlib.Core.Bool.{Bool, true, false, cond}
use mathlib.Core.Logic.{⊎_elim}
use mathlib.Core.List.Memᴰ
use mathlib.Core.List.{List, [], ◌∷◌, ◌++◌, flat_map, Memᴰ}
use Prim.Native.Nat.{ℕ, zero, suc, ◌+◌, ◌-◌, ◌≤◌, ◌<◌}
use native.Mathlib.Omega.{arith}
use lib.Dec.{leb}
use lib.ListN.{length, take, length-take}
use borrow.Author.Tests.{leb-true, leb-false}
use Rattle.lists.specs.Lists.{keep}
use Rattle.part.specs.Part.{part}
use Rattle.part.proofs.PartLaws.{part-take}
use Rattle.outcome.specs.Outcome.{Outcome, answer, refused}
use Rattle.outcome.proofs.OutcomeLaws.{answer_injective, bind⁻¹}
use Rattle.items.specs.Items.{sound_from}
use Rattle.items.specs.declared.Step.{Step}
use Rattle.items.proofs.ItemsLaws.{sound_end, sound_step, sound_refused}
use Rattle.framing.specs.declared.Frame.{Frame}
use Rattle.framing.specs.Frame.{frame_at}
use Rattle.framing.proofs.FrameLaws.{Framed, frame⇒Framed}
use Rattle.payload.specs.Payload.{Text, text_at}
use Rattle.payload.specs.Answers.{text_in}
use Rattle.payload.proofs.PayloadLaws.{text⇒Placed}
use Rattle.block.specs.Block.{Block, is_data, block_at, blocks_at}
use Rattle.block.specs.Laid.{laid_items, laid_records, laid_in, laid_at, laid_from}
use Rattle.block.specs.Survey.{records_of}
use Rattle.block.proofs.LaidLaws.{block⇒laid, blocks⇒laid}
use Rattle.query.specs.Query.{Query, matches}
use Rattle.matching.specs.Matching.{matching}
use Rattle.lists.proofs.RisingLaws.{each-once}

module _ (file : List ℕ) where
  -- a record lies after an offset, and its bytes are the file's there
  pub record Stands (from : ℕ) (r : Text) : Type 0 where
    pub after : from < r.at
    pub bytes_are : part file r.at (length r.bytes) ≡ r.bytes

  -- records that lie one after the other, from an offset to an end
  unfoldable pub LaidOut : (from : ℕ) → List Text → (end : ℕ) → Type 0
  LaidOut from [] end = from ≤ end
  LaidOut from (r ∷ rs) end = Stands from r × LaidOut (r.at + length r.bytes) rs end

  -- ---- putting together

  pub laid_wider : (rs : List Text) (from at end last : ℕ) → from ≤ at → end ≤ last → LaidOut at rs end → LaidOut from rs last
  unfolding LaidOut
  laid_wider [] from at end last f l h = omega arith
  laid_wider (r ∷ rs) from at end last f l (s, h) =
      let after = s.after in
      (record { after = omega arith; bytes_are = s.bytes_are }, laid_wider rs _ _ end last (omega arith) l h)

  pub laid_order : (rs : List Text) (from end : ℕ) → LaidOut from rs end → from ≤ end
  unfolding LaidOut
  laid_order [] from end h = h
  laid_order (r ∷ rs) from end (s, h) = let rest = laid_order rs _ end h in let after = s.after in omega arith

  pub laid_append : (xs ys : List Text) (from at end : ℕ) → LaidOut from xs at → LaidOut at ys end → LaidOut from (xs ++ ys) end
  unfolding LaidOut
  laid_append [] ys from at end h k = laid_wider ys from at end end h (omega arith) k
  laid_append (x ∷ xs) ys from at end (s, h) k = (s, laid_append xs ys _ at end h k)

  -- the records of items that follow one another
  pub laid_sound : {A : Type 0} (step : ℕ → Outcome (Step A)) (texts : A → List Text) (end : ℕ)
      → ((at : ℕ) (s : Step A) → step at ≡ answer s → LaidOut at (texts s.item) s.next × (s.next ≤ end))
      → (fuel at : ℕ) → at ≤ end → LaidOut at (flat_map texts (sound_from step end fuel at)) end
  unfolding LaidOut flat_map sound_from
  laid_sound step texts end each zero at h = h
  laid_sound {A} step texts end each (suc fuel) at h = by_end (leb end at) refl (laid_sound step texts end each fuel)
    where
      Rest : Type 0
      Rest = (next : ℕ) → next ≤ end → LaidOut next (flat_map texts (sound_from step end fuel next)) end

      here : List A → Type 0
      here l = LaidOut at (flat_map texts l) end

      by_step : (o : Outcome (Step A)) → step at ≡ o → at < end → Rest → here (sound_from step end (suc fuel) at)
      by_step (answer s) e less rest =
          let all = each at s e in
          subst here (sym (sound_step step end fuel at s less e)) (laid_append (texts s.item) _ at s.next end all.0 (rest s.next all.1))
      by_step (refused number place) e less rest = subst here (sym (sound_refused step end fuel at number place less e)) h

      by_end : (b : Bool) → leb end at ≡ b → Rest → here (sound_from step end (suc fuel) at)
      by_end true e rest = subst here (sym (sound_end step end (suc fuel) at (leb-true end at e))) h
      by_end false e rest = by_step (step at) refl (leb-false end at e) rest

  -- ---- a record, a frame, and all records of a file

  -- a record that is read in a part of the file that begins where the file begins
  text_laid : (place end at : ℕ) (s : Step Text) → text_at place (take end file) at ≡ answer s → LaidOut at (s.item ∷ []) s.next × (s.next ≤ end)
  unfolding LaidOut text_in
  text_laid place end at s e =
      let t = text⇒Placed place (take end file) at s e in
      go s.item t.length_at t.item_is t.long t.forward t.ends t.within
    where
      go : (r : Text) (n : ℕ) → r ≡ text_in (take end file) r.at n → length r.bytes ≡ n → at < r.at → s.next ≡ r.at + n
          → s.next ≤ length (take end file)
          → LaidOut at (r ∷ []) s.next × (s.next ≤ end)
      go r n is long forward ends within =
          let cut = length-take end file in
          let bytes_are = ap (part file r.at) long ∙ sym (part-take file end r.at n (omega arith)) ∙ sym (ap (λ (t : Text). t.bytes) is) in
          ((record { after = forward; bytes_are = bytes_are }, omega arith), omega arith)

  items_laid : (f : Frame) → f.body + 1 ≤ f.end → LaidOut (f.body + 1) (laid_items file text_at f) f.end
  unfolding laid_items
  items_laid f h =
      let step = text_at f.start (take f.end file) in
      subst (λ rs. LaidOut (f.body + 1) rs f.end) (each-once (sound_from step f.end (f.end - (f.body + 1)) (f.body + 1)))
      (laid_sound step (λ r. r ∷ []) f.end (text_laid f.start f.end) (f.end - (f.body + 1)) (f.body + 1) h)

  frame_laid : (at : ℕ) (f : Frame) → Framed file at f → LaidOut at (laid_records file f) (at + f.size)
  unfolding laid_records LaidOut
  frame_laid at f l = go (is_data f.level)
    where
      number : at < f.body
      number = l.number

      some : f.body < f.end
      some = l.some

      sized : f.end + 8 ≡ at + f.size
      sized = l.sized

      go : (d : Bool) → LaidOut at (cond d (laid_items file text_at f) []) (at + f.size)
      go true = laid_wider (laid_items file text_at f) at (f.body + 1) f.end (at + f.size) (omega arith) (omega arith) (items_laid f (omega arith))
      go false = omega arith

  step_laid : (at : ℕ) (s : Step Block) → laid_at file at ≡ answer s → LaidOut at s.item.records s.next × (s.next ≤ length file)
  unfolding laid_at laid_in
  step_laid at s e =
      let all = bind⁻¹ (frame_at file at) _ s e in
      let l = frame⇒Framed file at all.0 all.1 in
      subst (λ (t : Step Block). LaidOut at t.item.records t.next × (t.next ≤ length file)) (answer_injective _ s all.2)
      (frame_laid at all.0 l, l.within)

  -- the records of a block that can be read
  pub block_laid : (at : ℕ) (b : Block) → block_at file at ≡ answer b → LaidOut at b.records (at + b.frame.size) × (at + b.frame.size ≤ length file)
  block_laid at b e = step_laid at (record { item = b; next = at + b.frame.size }) (block⇒laid file at b e)

  -- the records of a file whose blocks are accepted
  pub blocks_laid : (from : ℕ) (bs : List Block) → blocks_at file from ≡ answer bs → from ≤ length file → LaidOut from (records_of bs) (length file)
  unfolding records_of laid_from
  blocks_laid from bs e h =
      subst (λ (cs : List Block). LaidOut from (records_of cs) (length file)) (blocks⇒laid file from bs e)
      (laid_sound (laid_at file) (λ b. b.records) (length file) step_laid (length file - from) from h)

  -- those of them that match
  pub matching_laid : (q : Query) (rs : List Text) (from end : ℕ) → LaidOut from rs end → LaidOut from (matching q rs) end
  unfolding LaidOut matching keep
  matching_laid q [] from end h = h
  matching_laid q (r ∷ rs) from end (s, h) = go (matches q r.bytes) (matching_laid q rs (r.at + length r.bytes) end h)
    where
      after : from < r.at
      after = s.after

      go : (b : Bool) → LaidOut (r.at + length r.bytes) (matching q rs) end → LaidOut from (cond b (r ∷ matching q rs) (matching q rs)) end
      go true rest = (s, rest)
      go false rest = laid_wider (matching q rs) from (r.at + length r.bytes) end end (omega arith) (omega arith) rest

  -- ---- taking apart

  -- a record lies within, and the part of the file at its offset and of its length is its bytes
  pub laid_part : (xs : List Text) (r : Text) (ys : List Text) (from end : ℕ) → LaidOut from (xs ++ r ∷ ys) end
      → (from < r.at) × (r.at + length r.bytes ≤ end) × (part file r.at (length r.bytes) ≡ r.bytes)
  unfolding LaidOut
  laid_part [] r ys from end (s, h) = (s.after, laid_order ys _ end h, s.bytes_are)
  laid_part (x ∷ xs) r ys from end (s, h) =
      let rest = laid_part xs r ys _ end h in
      let after = s.after in
      let further = rest.0 in
      (omega arith, rest.1, rest.2)

  -- a later record begins after an earlier one ends
  pub laid_rising : (xs : List Text) (r : Text) (ys : List Text) (t : Text) (zs : List Text) (from end : ℕ) → LaidOut from (xs ++ r ∷ (ys ++ t ∷ zs)) end
      → r.at + length r.bytes < t.at
  unfolding LaidOut
  laid_rising [] r ys t zs from end (s, h) = (laid_part ys t zs _ end h).0
  laid_rising (x ∷ xs) r ys t zs from end (s, h) = laid_rising xs r ys t zs _ end h

  -- the same of a member
  pub laid_member : (r : Text) (rs : List Text) (from end : ℕ) → LaidOut from rs end → Memᴰ r rs
      → (r.at + length r.bytes ≤ end) × (part file r.at (length r.bytes) ≡ r.bytes)
  unfolding LaidOut
  laid_member r [] from end h m = absurd (Memᴰ.not-nil m)
  laid_member r (x ∷ rs) from end (s, h) m =
      ⊎_elim (λ same. subst Kept (sym same) (laid_order rs _ end h, s.bytes_are)) (laid_member r rs _ end h) (Memᴰ.cases_cons m)
    where
      Kept : Text → Type 0
      Kept t = (t.at + length t.bytes ≤ end) × (part file t.at (length t.bytes) ≡ t.bytes)

  -- it lies after where they begin
  pub laid_after : (r : Text) (rs : List Text) (from end : ℕ) → LaidOut from rs end → Memᴰ r rs → from < r.at
  unfolding LaidOut
  laid_after r [] from end h m = absurd (Memᴰ.not-nil m)
  laid_after r (x ∷ rs) from end (s, h) m =
      ⊎_elim (λ same. subst (λ (t : Text). from < t.at) (sym same) s.after)
      (λ later. let rest = laid_after r rs _ end h later in let first = s.after in omega arith) (Memᴰ.cases_cons m)

  -- there are at most as many as bytes
  pub laid_few : (rs : List Text) (from end : ℕ) → LaidOut from rs end → length rs + from ≤ end
  unfolding LaidOut
  laid_few [] from end h = omega arith
  laid_few (r ∷ rs) from end (s, h) = let rest = laid_few rs _ end h in let after = s.after in omega arith
