-- Laws of opening a block: the ways out of its tests, and what is known of a block that passed them.
-- Assumes nothing.
use Rattle.outcome.specs.Fault.{number, said}
use mathlib.Core.Path.{◌≡◌, refl, sym, ap, ◌∙◌, subst}
use mathlib.Core.Bool.{Bool, true, false, ◌&&◌}
use mathlib.Core.List.{List, []}
use Prim.Native.Nat.{ℕ, ◌≤◌, ◌<◌}
use native.Mathlib.Omega.{arith}
use lib.Dec.{leb, ltb, eqb}
use lib.ListN.{length, replicate, length-replicate}
use borrow.Author.Tests.{le-leb, lt-leb, lt-ltb, le-ltb, eq-eqb, ne_eqb, leb-true, ltb-true}
use Rattle.output_list.specs.OutputList.{has_place}
use Rattle.outcome.specs.Outcome.{Outcome, answer, refused}
use Rattle.outcome.proofs.OutcomeLaws.{answer_injective, kept, broken, kept⁻¹, bind_answer, bind_refused, bind⁻¹, map_refused⁻¹}
use Rattle.lists.proofs.ListsLaws.{both⁻¹}
use Rattle.framing.specs.declared.Frame.{Frame}
use Rattle.framing.specs.Frame.{sound_frame_at}
use Rattle.block.specs.Block.{Block, block_in, block_at}
use Rattle.block.specs.Answers.{tallied}
use Rattle.block.specs.declared.Tallied.{Tallied}
use Rattle.block.proofs.BlockLaws.{BlockRead, block⇒BlockRead}
use Rattle.framing.proofs.FrameLaws.{frame_bounds}
use Rattle.search.specs.declared.opening.Named.{Named}
use Rattle.search.specs.Search.{Walked, fitting_block, named_block, open_block}
use Rattle.search.specs.Steps.{frame_of, FrameWithin}

-- ---- the frame of a block

-- what a block's tests report tells its frame
pub frame_tallied : (o : Outcome Block) (f : Frame) (n : ℕ) → tallied o ≡ answer (record { frame = f; records = n }) → frame_of o ≡ answer f
unfolding tallied frame_of
frame_tallied o f n e =
    let all = bind⁻¹ o _ _ e in
    bind_answer o _ all.0 all.1 ∙ ap (λ (t : Tallied). answer t.frame) (answer_injective _ _ all.2)

pub frame_untallied : (o : Outcome Block) (number place : ℕ) → tallied o ≡ refused number place → frame_of o ≡ refused number place
unfolding tallied frame_of
frame_untallied o number place e = bind_refused o _ number place (map_refused⁻¹ o _ number place e)

pub frame_refused : (o : Outcome Block) (number place : ℕ) → o ≡ refused number place → frame_of o ≡ refused number place
unfolding frame_of
frame_refused o number place e = bind_refused o _ number place e

pub frame_within : (file : List ℕ) (at : ℕ) (f : Frame) → sound_frame_at file at ≡ answer f → FrameWithin file f
frame_within file at f e = let bounds = frame_bounds file at f e in record { body = bounds.0; end = bounds.1 }

-- the refusal for a wrong offset, size or level
abbrev pub misfit : Named → Outcome Frame
misfit n = refused (number n.refusal.fault) n.refusal.place

-- ---- size and level

module _ (file : List ℕ) (n : Named) (f : Frame) where
  abbrev fits : Bool
  fits = eqb f.size n.size && (leb n.least f.level && leb f.level n.most)

  unfit : fits ≡ false → misfit n ≡ frame_of (fitting_block file n f)
  unfolding fitting_block
  unfit e = sym (frame_refused _ _ _ (broken fits _ _ (block_in file f) e))

  pub fitting_size : (f.size ≡ n.size → ⊥) → misfit n ≡ frame_of (fitting_block file n f)
  fitting_size h = unfit (rw (ne_eqb f.size n.size h))

  pub fitting_low : f.size ≡ n.size → f.level < n.least → misfit n ≡ frame_of (fitting_block file n f)
  fitting_low h low = unfit (rw (eq-eqb f.size n.size h, lt-leb n.least f.level low))

  pub fitting_high : f.size ≡ n.size → n.least ≤ f.level → n.most < f.level → misfit n ≡ frame_of (fitting_block file n f)
  fitting_high h low high = unfit (rw (eq-eqb f.size n.size h, le-leb n.least f.level low, lt-leb f.level n.most high))

  -- size and level fit
  module _ (same : f.size ≡ n.size) (low : n.least ≤ f.level) (high : f.level ≤ n.most) where
    fit : fitting_block file n f ≡ block_in file f
    unfolding fitting_block
    fit =
        let yes : fits ≡ true = rw (eq-eqb f.size n.size same, le-leb n.least f.level low, le-leb f.level n.most high) in
        kept fits _ _ (block_in file f) yes

    pub fitting_unsound : (number place : ℕ) → tallied (block_in file f) ≡ refused number place → refused number place ≡ frame_of (fitting_block file n f)
    fitting_unsound number place e = sym (ap frame_of fit ∙ frame_untallied (block_in file f) number place e)

    pub fitting_sound : (g : Frame) (records : ℕ) → tallied (block_in file f) ≡ answer (record { frame = g; records = records })
        → answer g ≡ frame_of (fitting_block file n f)
    fitting_sound g records e = sym (ap frame_of fit ∙ frame_tallied (block_in file f) g records e)

-- ---- offset and frame

module _ (file : List ℕ) (from : ℕ) (n : Named) where
  abbrev lies : Bool
  lies = leb from n.offset && ltb n.offset (length file)

  outside : lies ≡ false → misfit n ≡ frame_of (named_block file from n)
  unfolding named_block
  outside e = sym (frame_refused _ _ _ (broken lies _ _ _ e))

  pub named_before : n.offset < from → misfit n ≡ frame_of (named_block file from n)
  named_before h = outside (rw (lt-leb from n.offset h))

  pub named_after : from ≤ n.offset → length file ≤ n.offset → misfit n ≡ frame_of (named_block file from n)
  named_after low h = outside (rw (le-leb from n.offset low, le-ltb n.offset (length file) h))

  -- the offset lies where blocks may begin
  module _ (low : from ≤ n.offset) (high : n.offset < length file) where
    inside : lies ≡ true
    inside = rw (le-leb from n.offset low, lt-ltb n.offset (length file) high)

    pub named_unsound : (number place : ℕ) → sound_frame_at file n.offset ≡ refused number place → refused number place ≡ frame_of (named_block file from n)
    unfolding named_block
    named_unsound number place e =
        sym (frame_refused _ number place (kept lies _ _ _ inside ∙ bind_refused (sound_frame_at file n.offset) (fitting_block file n) number place e))

    pub named_sound : (f : Frame) (o : Outcome Frame) → sound_frame_at file n.offset ≡ answer f → o ≡ frame_of (fitting_block file n f)
        → o ≡ frame_of (named_block file from n)
    unfolding named_block
    named_sound f o e is = is ∙ sym (ap frame_of (kept lies _ _ _ inside ∙ bind_answer (sound_frame_at file n.offset) (fitting_block file n) f e))

-- ---- the opened list

module _ (file opened : List ℕ) (from : ℕ) (n : Named) (used : ℕ) where
  pub open_full : (r : Bool) → r ≡ has_place opened used → r ≡ false → (s : Walked) → used ≡ length s.opened
      → refused 26 0 ≡ frame_of (open_block file (length opened) from n s)
  unfolding has_place open_block
  open_full r is full s many =
      sym
      (frame_refused _ 26 0
      (broken (ltb (length s.opened) (length opened)) 26 0 _ (ap (λ (k : ℕ). ltb k (length opened)) (sym many) ∙ sym is ∙ full)))

  pub open_placed : (r : Bool) → r ≡ has_place opened used → r ≡ true → (o : Outcome Frame) → o ≡ frame_of (named_block file from n)
      → (s : Walked) → used ≡ length s.opened → o ≡ frame_of (open_block file (length opened) from n s)
  unfolding has_place open_block
  open_placed r is room o named s many =
      named
      ∙ sym
      (ap frame_of
      (kept (ltb (length s.opened) (length opened)) 26 0 (named_block file from n) (ap (λ (k : ℕ). ltb k (length opened)) (sym many) ∙ sym is ∙ room)))

-- ---- a block that was opened

module _ (file : List ℕ) (places from : ℕ) (n : Named) where
  -- what is known of a block with this frame, where `used` blocks were opened before
  pub record IsOpened (used : ℕ) (f : Frame) : Type 0 where
    pub block : Block
    pub frame : block.frame ≡ f
    pub fits : used < places
    pub within : FrameWithin file f
    pub least_level : n.least ≤ f.level
    pub most_level : f.level ≤ n.most
    pub inside : block_in file f ≡ answer block
    pub again : (s : Walked) → used ≡ length s.opened → open_block file places from n s ≡ answer block

  open_named : (s : Walked) → length s.opened < places → open_block file places from n s ≡ named_block file from n
  unfolding open_block
  open_named s h = kept (ltb (length s.opened) places) 26 0 _ (lt-ltb (length s.opened) places h)

  opened⇒IsOpened : (s : Walked) (b : Block) → open_block file places from n s ≡ answer b → IsOpened (length s.opened) b.frame
  unfolding open_block named_block fitting_block block_at
  opened⇒IsOpened s b e =
      let room = kept⁻¹ (ltb (length s.opened) places) 26 0 _ b e in
      let lies = kept⁻¹ (leb from n.offset && ltb n.offset (length file)) _ _ _ b room.1 in
      let framed = bind⁻¹ (sound_frame_at file n.offset) _ b lies.1 in
      let g = framed.0 in
      let fit = kept⁻¹ (eqb g.size n.size && (leb n.least g.level && leb g.level n.most)) _ _ _ b framed.2 in
      let levels = both⁻¹ (leb n.least g.level) (leb g.level n.most) (both⁻¹ (eqb g.size n.size) _ fit.0).1 in
      is g (ltb-true (length s.opened) places room.0) framed.1 (leb-true n.least g.level levels.0) (leb-true g.level n.most levels.1)
      (block⇒BlockRead file n.offset b (bind_answer (sound_frame_at file n.offset) (block_in file) g framed.1 ∙ fit.1)) room.1
    where
      is : (g : Frame) → length s.opened < places → sound_frame_at file n.offset ≡ answer g → n.least ≤ g.level → g.level ≤ n.most
          → BlockRead file n.offset b → named_block file from n ≡ answer b → IsOpened (length s.opened) b.frame
      is g fits sound low high read named =
          let same : g ≡ b.frame = answer_injective g b.frame (sym sound ∙ read.sound) in
          record {
            block = b;
            frame = refl;
            fits = fits;
            within = frame_within file n.offset b.frame read.sound;
            least_level = subst (λ (h : Frame). n.least ≤ h.level) same low;
            most_level = subst (λ (h : Frame). h.level ≤ n.most) same high;
            inside = read.inside;
            again = λ t many. open_named t (omega arith) ∙ named;
          }

  frame⇒IsOpened : (s : Walked) (f : Frame) → answer f ≡ frame_of (open_block file places from n s) → IsOpened (length s.opened) f
  unfolding frame_of
  frame⇒IsOpened s f e =
      let all = bind⁻¹ (open_block file places from n s) (λ b. answer b.frame) f (sym e) in
      subst (IsOpened (length s.opened)) (answer_injective all.0.frame f all.2) (opened⇒IsOpened s all.0 all.1)

  -- what an opening says after `used` blocks, whatever was opened and found
  pub said⇒IsOpened : (used : ℕ) (f : Frame) → ((s : Walked) → used ≡ length s.opened → answer f ≡ frame_of (open_block file places from n s))
      → IsOpened used f
  said⇒IsOpened used f said =
      subst (λ (k : ℕ). IsOpened k f) (length-replicate used 0) (frame⇒IsOpened some f (said some (sym (length-replicate used 0))))
    where
      some : Walked
      some = record { opened = replicate used 0; matches = [] }

  pub said⇒refused : (number place : ℕ) (s : Walked) → refused number place ≡ frame_of (open_block file places from n s)
      → open_block file places from n s ≡ refused number place
  unfolding frame_of
  said⇒refused number place s e = map_refused⁻¹ (open_block file places from n s) (λ b. b.frame) number place (sym e)
