-- Laws of the blocks that stand side by side in an output.
-- Assumes nothing.
use mathlib.Core.Path.{◌≡◌, refl, sym, ap, ap₂, ◌∙◌}
use mathlib.Core.Bool.{Bool, true, false, cond}
use mathlib.Core.Option.{some}
use mathlib.Core.List.{List, [], ◌∷◌}
use Prim.Native.Nat.{ℕ, zero, suc, ◌+◌, ◌-◌, ◌≤◌, ◌<◌}
use native.Mathlib.Omega.{arith}
use lib.ListN.{length, take}
use lib.Seq.{length-take-le}
use borrow.Author.Tests.{eq-eqb, ne_eqb}
use Rattle.outcome.specs.Outcome.{Outcome, answer, refused}
use Rattle.outcome.proofs.OutcomeLaws.{answer_injective, bind_answer, bind_refused, bind⁻¹}
use Rattle.items.specs.Items.{where_answered}
use Rattle.items.specs.declared.Step.{Step}
use Rattle.part.specs.declared.Part.{Part}
use Rattle.part.proofs.PartLaws.{part-take}
use Rattle.framing.specs.declared.Frame.{Frame}
use Rattle.framing.specs.Frame.{frame_at}
use Rattle.framing.proofs.FrameLaws.{Framed, frame⇒Framed}
use Rattle.payload.specs.Payload.{Text, text_at}
use Rattle.payload.specs.Answers.{text_in}
use Rattle.payload.proofs.PayloadLaws.{text⇒Placed}
use Rattle.block.specs.Block.{is_data}
use Rattle.layout.specs.Index.{IndexEntry}
use Rattle.layout.specs.File.{key_for}
use Rattle.index_encoder.specs.declared.child.Position.{Position}
use Rattle.std.specs.Prelude.{Result, Ok}
use Rattle.std.specs.Result.{IsErrAnd}
use Rattle.std.proofs.lemmas.Result.{err_from_is_err_and}
use Rattle.outcome.specs.declared.Fault.{Fault}
use Rattle.outcome.specs.Fault.{number}
use Rattle.index_encoder.specs.declared.child.Child.{Child as Found}
use Rattle.index_encoder.specs.Children.{bytes_of, Within, last_from, Child, child_after, children_after, child_at, children_from}
use Rattle.index_encoder.specs.Children.{entry_in, child_said, ChildWithin}

-- ---- one block

module _ (s before : List ℕ) (at : ℕ) where
  pub child_frameless : (number place : ℕ) → frame_at s at ≡ refused number place → child_after s before at ≡ refused number place
  unfolding child_after
  child_frameless number place e = bind_refused (frame_at s at) _ number place e

  module _ (f : Frame) (Framed-at : frame_at s at ≡ answer f) where
    pub child_keyless : (number place : ℕ) → text_at at (take f.end s) (f.body + 1) ≡ refused number place → child_after s before at ≡ refused number place
    unfolding child_after
    child_keyless number place r =
        bind_answer (frame_at s at) _ f Framed-at ∙ bind_refused (text_at at (take f.end s) (f.body + 1)) _ number place r

    module _ (first : Step Text) (read : text_at at (take f.end s) (f.body + 1) ≡ answer first) where
      pub data_child_found : is_data f.level ≡ true
          → child_after s before at
          ≡ answer (record {
            entry = record { key = key_for (some before) first.item.bytes; offset = at; size = f.size };
            last = last_from (take f.end s) first.next first.item.bytes;
          })
      unfolding child_after
      data_child_found d = bind_answer (frame_at s at) _ f Framed-at ∙ bind_answer (text_at at (take f.end s) (f.body + 1)) _ first read ∙ rw d

      pub index_child_found : is_data f.level ≡ false
          → child_after s before at
          ≡ answer (record { entry = record { key = first.item.bytes; offset = at; size = f.size }; last = first.item.bytes })
      unfolding child_after
      index_child_found d = bind_answer (frame_at s at) _ f Framed-at ∙ bind_answer (text_at at (take f.end s) (f.body + 1)) _ first read ∙ rw d

  -- the entry is for the block at `at`, which lies within s
  pub record Standing (c : Child) : Type 0 where
    pub offset : c.entry.offset ≡ at
    pub some : 0 < c.entry.size
    pub within : at + c.entry.size ≤ length s

  pub child⇒Standing : (c : Child) → child_after s before at ≡ answer c → Standing c
  unfolding child_after
  child⇒Standing c e =
      let found = bind⁻¹ (frame_at s at) _ c e in
      let f = found.0 in
      let keyed = bind⁻¹ (text_at at (take f.end s) (f.body + 1)) _ c found.2 in
      by_kind f (frame⇒Framed s at f found.1) (is_data f.level) _ _ _ _ (answer_injective _ c keyed.2)
    where
      of_size : ℕ → (key last : List ℕ) → Child
      of_size size key last = record { entry = record { key = key; offset = at; size = size }; last = last }

      standing : (f : Frame) → Framed s at f → (key last : List ℕ) → of_size f.size key last ≡ c → Standing c
      standing f framed key last same =
          let number = framed.number in
          let some = framed.some in
          let sized = framed.sized in
          let within = framed.within in
          let size : f.size ≡ c.entry.size = ap (λ (x : Child). x.entry.size) same in
          record { offset = sym (ap (λ (x : Child). x.entry.offset) same); some = omega arith; within = omega arith }

      by_kind : (f : Frame) → Framed s at f → (b : Bool) (key last key' last' : List ℕ)
          → cond b (of_size f.size key last) (of_size f.size key' last') ≡ c → Standing c
      by_kind f framed true key last key' last' same = standing f framed key last same
      by_kind f framed false key last key' last' same = standing f framed key' last' same

-- ---- what `child_at` answers, and where it lies

-- a fault that is handed on
pub child_fault : (s : List ℕ) (p : Position) (r : Result Found Fault) (f : Fault) → IsErrAnd r (λ x. x ≡ f)
    → child_after s (bytes_of s p.before) p.offset ≡ refused (number f) p.offset → (child_said s p r ≡ child_at s p) × ChildWithin s p r
unfolding child_at child_said ChildWithin
child_fault s p r f h e = let told = err_from_is_err_and r h in rw (told.1, told.2) (sym e, tt)

module _ (s : List ℕ) (p : Position) (f : Frame) (Framed-at : frame_at s p.offset ≡ answer f) (first : Part)
    (read : text_at p.offset (take f.end s) (f.body + 1)
    ≡ answer (record { item = text_in (take f.end s) first.offset first.length; next = first.offset + first.length })) where
  -- where the first text lies
  pub record FirstLies : Type 0 where
    pub after : p.offset < first.offset
    pub inside : first.offset + first.length ≤ f.end
    pub ends : f.end + 8 ≡ p.offset + f.size
    pub within : p.offset + f.size ≤ length s
    pub cut : length (take f.end s) ≡ f.end

  pub first_lies : FirstLies
  unfolding text_in
  first_lies =
      let framed = frame⇒Framed s p.offset f Framed-at in
      let number = framed.number in
      let sized = framed.sized in
      let within = framed.within in
      let cut : length (take f.end s) ≡ f.end = length-take-le f.end s (omega arith) in
      let placed = text⇒Placed p.offset (take f.end s) (f.body + 1) _ read in
      let after : f.body + 1 < first.offset = placed.forward in
      let inside : first.offset + first.length ≤ length (take f.end s) = placed.within in
      record { after = omega arith; inside = omega arith; ends = sized; within = within; cut = cut }

  pub first-within : Within s first × Within (take f.end s) first
  unfolding Within
  first-within =
      let l = first_lies in
      let inside = l.inside in
      let ends = l.ends in
      let within = l.within in
      let cut = l.cut in
      (omega arith, omega arith)

  -- a part before the end of the frame
  pub bytes_before : (q : Part) → q.offset + q.length ≤ f.end → bytes_of (take f.end s) q ≡ bytes_of s q
  unfolding bytes_of
  bytes_before q h = part-take s f.end q.offset q.length h

  abbrev Told : (key last : Part) → Type 0
  Told key last =
      (child_said s p (Ok (record { key = key; last = last; size = f.size })) ≡ child_at s p)
      × ChildWithin s p (Ok (record { key = key; last = last; size = f.size }))

  pub index_child_told : (f.level ≡ 0 → ⊥) → Told first first
  unfolding is_data bytes_of child_at child_said ChildWithin entry_in text_in
  index_child_told d =
      let l = first_lies in
      let after = l.after in
      let inside = l.inside in
      let ends = l.ends in
      let same = bytes_before first inside in (
        ap (λ (k : List ℕ). answer (record { entry = record { key = k; offset = p.offset; size = f.size }; last = k })) (sym same)
            ∙ sym (index_child_found s (bytes_of s p.before) p.offset f Framed-at _ read (ne_eqb f.level 0 d)),
        (after, omega arith, omega arith, l.within),
      )

  pub data_child_told : f.level ≡ 0 → (key last : Part) → bytes_of s key ≡ key_for (some (bytes_of s p.before)) (bytes_of s first)
      → key.offset ≡ first.offset → key.length ≤ first.length
      → bytes_of (take f.end s) last ≡ last_from (take f.end s) (first.offset + first.length) (bytes_of (take f.end s) first)
      → Within (take f.end s) last → Told key last
  unfolding is_data bytes_of child_at child_said ChildWithin entry_in text_in Within
  data_child_told d key last key_is starts shorter last_is last_within =
      let l = first_lies in
      let after = l.after in
      let inside = l.inside in
      let ends = l.ends in
      let cut = l.cut in (
        ap₂ (λ (k m : List ℕ). answer (record { entry = record { key = k; offset = p.offset; size = f.size }; last = m }))
            (key_is ∙ ap (key_for (some (bytes_of s p.before))) (sym (bytes_before first inside)))
            (sym (bytes_before last (omega arith)) ∙ last_is)
            ∙ sym (data_child_found s (bytes_of s p.before) p.offset f Framed-at _ read (eq-eqb f.level 0 d)),
        (omega arith, omega arith, omega arith, l.within),
      )

-- ---- blocks one after the other

module _ (s : List ℕ) where
  after_refused : (fuel : ℕ) (before : List ℕ) (at number place : ℕ) → child_after s before at ≡ refused number place → children_after s fuel before at ≡ []
  unfolding children_after where_answered
  after_refused zero before at number place e = refl
  after_refused (suc fuel) before at number place e = rw e

  pub after_more : (fuel : ℕ) (before : List ℕ) (at : ℕ) (c : Child) → child_after s before at ≡ answer c
      → children_after s (suc fuel) before at ≡ c.entry ∷ children_after s fuel c.last (at + c.entry.size)
  unfolding children_after where_answered
  after_more fuel before at c e = rw e

  -- past the end there is no block
  pub after_past : (fuel : ℕ) (before : List ℕ) (at : ℕ) → length s ≤ at → children_after s fuel before at ≡ []
  after_past fuel before at h = go (child_after s before at) refl
    where
      go : (o : Outcome Child) → child_after s before at ≡ o → children_after s fuel before at ≡ []
      go (answer c) e = absurd (let p = child⇒Standing s before at c e in let w = p.within in let z = p.some in omega arith)
      go (refused number place) e = after_refused fuel before at number place e

  -- enough fuel is as good as more
  after_fuel : (fuel more : ℕ) (before : List ℕ) (at : ℕ) → length s - at ≤ fuel → length s - at ≤ more
      → children_after s fuel before at ≡ children_after s more before at
  after_fuel zero more before at h k = after_past zero before at (omega arith) ∙ sym (after_past more before at (omega arith))
  after_fuel (suc fuel) zero before at h k = after_past (suc fuel) before at (omega arith) ∙ sym (after_past zero before at (omega arith))
  after_fuel (suc fuel) (suc more) before at h k = go (child_after s before at) refl (after_fuel fuel more)
    where
      go : (o : Outcome Child) → child_after s before at ≡ o
          → ((b : List ℕ) (a : ℕ) → length s - a ≤ fuel → length s - a ≤ more → children_after s fuel b a ≡ children_after s more b a)
          → children_after s (suc fuel) before at ≡ children_after s (suc more) before at
      go (answer c) e rest =
          let p = child⇒Standing s before at c e in
          let z = p.some in
          after_more fuel before at c e
          ∙ ap (λ (l : List IndexEntry). c.entry ∷ l) (rest c.last (at + c.entry.size) (omega arith) (omega arith))
          ∙ sym (after_more more before at c e)
      go (refused number place) e rest =
          after_refused (suc fuel) before at number place e ∙ sym (after_refused (suc more) before at number place e)

  after_few : (fuel : ℕ) (before : List ℕ) (at : ℕ) → length (children_after s fuel before at) ≤ fuel
  unfolding children_after
  after_few zero before at = omega arith
  after_few (suc fuel) before at = go (child_after s before at) refl (after_few fuel)
    where
      go : (o : Outcome Child) → child_after s before at ≡ o → ((b : List ℕ) (a : ℕ) → length (children_after s fuel b a) ≤ fuel)
          → length (children_after s (suc fuel) before at) ≤ suc fuel
      go (answer c) e rest =
          let long = ap length (after_more fuel before at c e) in
          let few = rest c.last (at + c.entry.size) in
          omega arith
      go (refused number place) e rest = let none = ap length (after_refused (suc fuel) before at number place e) in omega arith

  module _ (p : Position) where
    pub children_refused : (number place : ℕ) → child_at s p ≡ refused number place → children_from s p ≡ []
    unfolding child_at children_from
    children_refused number place e = after_refused (length s) _ p.offset number place e

    -- one block, and the position after it
    pub children_more : (c : Child) → child_at s p ≡ answer c → (next : Position) → next.offset ≡ p.offset + c.entry.size
        → bytes_of s next.before ≡ c.last → children_from s p ≡ c.entry ∷ children_from s next
    unfolding child_at children_from
    children_more c e next onward last =
        after_fuel (length s) (suc (length s)) _ p.offset (omega arith) (omega arith)
        ∙ after_more (length s) _ p.offset c e
        ∙ ap₂ (λ (n : ℕ) (b : List ℕ). c.entry ∷ children_after s (length s) b n) (sym onward) (sym last)

  -- there are at most as many as bytes
  pub children_few : (p : Position) → length (children_from s p) ≤ length s
  unfolding children_from
  children_few p = after_few (length s) (bytes_of s p.before) p.offset
