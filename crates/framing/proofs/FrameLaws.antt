-- Laws of numbers and frames at an offset.
-- Assumes nothing.
use Rattle.uleb128.specs.Number.{reading_said}
use Rattle.uleb128.specs.declared.NumberFault.{NumberFault}
use Rattle.uleb128.specs.declared.Number.{Number}
use Rattle.uleb128.specs.declared.NumberFault.TheVariants.{CutOff, TooWide, NotShortest}
use Rattle.framing.specs.Answers.{number_said}
use mathlib.Core.Path.{◌≡◌, refl, sym, ap, ◌∙◌, subst⁻¹}
use mathlib.Core.Bool.{true, false}
use mathlib.Core.List.{List, []}
use Prim.Native.Nat.{ℕ, ◌+◌, ◌-◌, ◌^◌, ◌≤◌, ◌<◌}
use native.Mathlib.Nat.{add-zero}
use native.Mathlib.Omega.{arith}
use lib.Dec.{leb}
use lib.ListN.{length, take, drop, get_or, drop_of_length-le, length-drop}
use lib.Seq.{get_or-drop}
use borrow.Author.Tests.{le-leb, lt-leb, leb-true}
use Rattle.uleb128.specs.Number.{Reading, number, cut_off, reading, continuing}
use Rattle.uleb128.specs.Number.{refused as badNumber}
use Rattle.uleb128.proofs.NumberLaws.{number_used, number_lt, reading-cut, reading-first}
use Rattle.std.specs.Prelude.{Result, Err, Ok}
use Rattle.std.specs.Result.{IsErrAnd}
use Rattle.std.proofs.lemmas.Result.{err_from_is_err_and}
use Rattle.outcome.specs.Outcome.{answer, refused}
use Rattle.items.specs.declared.Step.{Step}
use Rattle.outcome.proofs.OutcomeLaws.{answer_injective, refused_not_answer, kept, broken, kept⁻¹, bind_answer, bind_refused, bind⁻¹}
use Rattle.outcome.proofs.ResultLaws.{fault_on}
use Rattle.part.proofs.PartLaws.{lent_drop}
use Rattle.framing.specs.declared.Frame.{Frame}
use Rattle.framing.specs.Frame.{read_as, number_at, framed, frame_at, crc_right, sound_frame_at}

-- ---- numbers

-- why none could be read
pub number_fault : (cut place at : ℕ) (r : Result (Step ℕ) NumberFault) (f : NumberFault) → IsErrAnd r (λ x. x ≡ f)
    → number_said cut place r ≡ read_as cut place at (reading_said (Err f))
unfolding number_said read_as reading_said
number_fault cut place at r f h = let p = err_from_is_err_and r h in rw (p.1, p.2) (same f)
  where
    same : (g : NumberFault) → number_said cut place (Err g) ≡ read_as cut place at (reading_said (Err g))
    same CutOff = refl
    same TooWide = refl
    same NotShortest = refl

-- the number at an offset is what reading the rest, which is lent, finds
pub number_lent : (cut place : ℕ) (s : List ℕ) (at : ℕ) (r : Reading) → r ≡ reading (take (length s - at) (drop at s)) → read_as cut place at r ≡ number_at cut place s at
unfolding number_at
number_lent cut place s at r e = ap (read_as cut place at) (e ∙ ap reading (lent_drop s at))

-- the number at an offset is what reading the rest finds
pub number_found : (cut place : ℕ) (s : List ℕ) (at : ℕ) (n : Result Number NumberFault) → reading_said n ≡ reading (take (length s - at) (drop at s))
    → read_as cut place at (reading_said n) ≡ number_at cut place s at
number_found cut place s at n e = number_lent cut place s at (reading_said n) e

-- a value that was read
pub value_read : (s : List ℕ) (n : Result Number NumberFault) (value used : ℕ) → n ≡ Ok (record { value = value; used = used }) → reading_said n ≡ reading s
    → reading s ≡ number value used
unfolding reading_said
value_read s n value used told e = sym e ∙ ap reading_said told

pub value_used : (s : List ℕ) (n : Result Number NumberFault) (value used : ℕ) → n ≡ Ok (record { value = value; used = used }) → reading_said n ≡ reading s
    → used ≤ length s
value_used s n value used told e = (number_used s value used (value_read s n value used told e)).2

-- past the end every number is cut off
pub number_past : (cut place : ℕ) (s : List ℕ) (at : ℕ) → length s ≤ at → number_at cut place s at ≡ refused cut place
unfolding number_at read_as continuing
number_past cut place s at h =
    ap (λ (l : List ℕ). read_as cut place at (reading l)) (drop_of_length-le s h)
    ∙ ap (read_as cut place at) (reading-cut [] 0 (omega arith) (omega arith) refl)

-- a byte below 80 hex is a number
pub number_of_byte : (cut place : ℕ) (s : List ℕ) (at value next : ℕ) → at < length s → value < 128 → value ≡ get_or s at 0 → next ≡ at + 1
    → number_at cut place s at ≡ answer (record { item = value; next = next })
unfolding number_at read_as
number_of_byte cut place s at value next h low e f =
    let first : get_or (drop at s) 0 0 ≡ get_or s at 0 = get_or-drop at s 0 0 ∙ ap (λ (k : ℕ). get_or s k 0) (add-zero at) in
    let read = reading-first (drop at s) (rw length-drop (omega arith)) (rw (first, ← e) low) in
    rw (e, f) (ap (read_as cut place at) (read ∙ ap (λ (v : ℕ). number v 1) first))

-- a number at an offset, taken apart: what reading the rest finds
pub number_read : (cut place : ℕ) (s : List ℕ) (at : ℕ) (n : Step ℕ) → number_at cut place s at ≡ answer n
    → (used : ℕ) × (reading (drop at s) ≡ number n.item used) × (n.next ≡ at + used)
unfolding number_at read_as
number_read cut place s at n e = go (reading (drop at s)) refl e
  where
    go : (r : Reading) → reading (drop at s) ≡ r → read_as cut place at r ≡ answer n → (used : ℕ) × (reading (drop at s) ≡ number n.item used) × (n.next ≡ at + used)
    go (number value used) p q =
        let same = answer_injective (record { item = value; next = at + used }) n q in
        (used, p ∙ ap (λ (m : Step ℕ). number m.item used) same, sym (ap (λ (m : Step ℕ). m.next) same))
    go cut_off p q = absurd (refused_not_answer n cut place q)
    go (badNumber k) p q = absurd (refused_not_answer n k place q)

-- a number takes at least one byte, all within s, and its value is below 2 ^ 63
pub record Numbered (s : List ℕ) (at : ℕ) (n : Step ℕ) : Type 0 where
  pub forward : at < n.next
  pub within : n.next ≤ length s
  pub short : n.next ≤ at + 9
  pub small : n.item < 2 ^ 63

pub numbered : (cut place : ℕ) (s : List ℕ) (at : ℕ) (n : Step ℕ) → number_at cut place s at ≡ answer n → Numbered s at n
numbered cut place s at n e =
    let r = number_read cut place s at n e in
    let used = number_used (drop at s) n.item r.0 r.1 in
    let inside : r.0 ≤ length s - at = simp length-drop at used.2 in
    let ends = r.2 in
    let more = used.0 in
    let most = used.1 in
    record {
      forward = omega arith;
      within = omega arith;
      short = omega arith;
      small = number_lt (drop at s) n.item r.0 r.1;
    }

-- ---- frames

module _ (file : List ℕ) (at : ℕ) (L : Step ℕ) where
  pub framed_empty : L.item < 1 → framed file at L ≡ refused 13 at
  unfolding framed
  framed_empty h = broken (leb 1 L.item) 13 at _ (lt-leb 1 L.item h)

  pub framed_long : 1 ≤ L.item → length file < L.next + L.item + 8 → framed file at L ≡ refused 10 at
  unfolding framed
  framed_long some h = kept (leb 1 L.item) 13 at _ (le-leb 1 L.item some) ∙ broken (leb (L.next + L.item + 8) (length file)) 10 at _ (lt-leb _ _ h)

  -- the frame of L bytes
  abbrev pub frame_of : Frame
  frame_of =
      record {
        start = at;
        size = L.next + L.item + 8 - at;
        level = get_or file L.next 0;
        body = L.next;
        end = L.next + L.item;
      }

  pub framed_found : 1 ≤ L.item → L.next + L.item + 8 ≤ length file → framed file at L ≡ answer frame_of
  unfolding framed
  framed_found some h = kept (leb 1 L.item) 13 at _ (le-leb 1 L.item some) ∙ kept (leb (L.next + L.item + 8) (length file)) 10 at _ (le-leb _ _ h)

  pub framed⁻¹ : (f : Frame) → framed file at L ≡ answer f → (1 ≤ L.item) × (L.next + L.item + 8 ≤ length file) × (f ≡ frame_of)
  unfolding framed
  framed⁻¹ f e =
      let some = kept⁻¹ (leb 1 L.item) 13 at _ f e in
      let long = kept⁻¹ (leb (L.next + L.item + 8) (length file)) 10 at _ f some.1 in
      (leb-true _ _ some.0, leb-true _ _ long.0, sym (answer_injective frame_of f long.1))

-- where the parts of a frame lie
pub record Framed (file : List ℕ) (at : ℕ) (f : Frame) : Type 0 where
  pub starts : f.start ≡ at
  pub number : at < f.body
  pub some : f.body < f.end
  pub sized : f.end + 8 ≡ at + f.size
  pub within : at + f.size ≤ length file
  pub leveled : f.level ≡ get_or file f.body 0

pub frame⇒Framed : (file : List ℕ) (at : ℕ) (f : Frame) → frame_at file at ≡ answer f → Framed file at f
unfolding frame_at
frame⇒Framed file at f e =
    let first = bind⁻¹ (number_at 10 at file at) (framed file at) f e in
    let L = first.0 in
    let n = numbered 10 at file at L first.1 in
    let all = framed⁻¹ file at L f first.2 in
    subst⁻¹ (Framed file at) all.2 (laid L n all.0 all.1)
  where
    laid : (L : Step ℕ) → Numbered file at L → 1 ≤ L.item → L.next + L.item + 8 ≤ length file → Framed file at (frame_of file at L)
    laid L n some long =
        record {
          starts = refl;
          number = n.forward;
          some = omega arith;
          sized = omega arith;
          within = omega arith;
          leveled = refl;
        }

-- ---- the CRC

pub sound_frame : (file : List ℕ) (at : ℕ) (f : Frame) → frame_at file at ≡ answer f → crc_right file f.body f.end ≡ true → sound_frame_at file at ≡ answer f
unfolding sound_frame_at
sound_frame file at f e right = bind_answer (frame_at file at) _ f e ∙ kept (crc_right file f.body f.end) 14 at _ right

pub no_frame : (file : List ℕ) (at n p : ℕ) → frame_at file at ≡ refused n p → sound_frame_at file at ≡ refused n p
unfolding sound_frame_at
no_frame file at n p e = bind_refused (frame_at file at) _ n p e

pub unsound_frame : (file : List ℕ) (at : ℕ) (f : Frame) → frame_at file at ≡ answer f → crc_right file f.body f.end ≡ false → sound_frame_at file at ≡ refused 14 at
unfolding sound_frame_at
unsound_frame file at f e wrong = bind_answer (frame_at file at) _ f e ∙ broken (crc_right file f.body f.end) 14 at _ wrong

pub sound_frame⁻¹ : (file : List ℕ) (at : ℕ) (f : Frame) → sound_frame_at file at ≡ answer f → (frame_at file at ≡ answer f) × (crc_right file f.body f.end ≡ true)
unfolding sound_frame_at
sound_frame⁻¹ file at f e =
    let first = bind⁻¹ (frame_at file at) _ f e in
    let g = first.0 in
    let right = kept⁻¹ (crc_right file g.body g.end) 14 at (answer g) f first.2 in
    let same = answer_injective g f right.1 in
    (first.1 ∙ ap answer same, ap (λ (h : Frame). crc_right file h.body h.end) (sym same) ∙ right.0)

pub frame_bounds : (file : List ℕ) (at : ℕ) (f : Frame) → sound_frame_at file at ≡ answer f → (f.body < f.end) × (f.end ≤ length file)
frame_bounds file at f e =
    let l = frame⇒Framed file at f (sound_frame⁻¹ file at f e).0 in
    let sized = l.sized in
    let within = l.within in
    (l.some, omega arith)

pub frame_start : (file : List ℕ) (at : ℕ) (f : Frame) → sound_frame_at file at ≡ answer f → f.start ≡ at
frame_start file at f e = (frame⇒Framed file at f (sound_frame⁻¹ file at f e).0).starts

-- ---- what the proofs of the code take: the cases of a frame, and the ways on after a result

pub ruleset framed_cases = (framed_empty, framed_long, framed_found)

pub ruleset chain = (bind_answer, bind_refused, fault_on)

pub ruleset sound_cases = (sound_frame, unsound_frame, no_frame, fault_on)
