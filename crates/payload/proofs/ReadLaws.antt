-- The steps through a payload that was read: the place of a refusal does not matter, and where records and keys stand.
-- Assumes nothing.
use mathlib.Core.Path.{◌≡◌, sym, ap, ◌∙◌, subst}
use mathlib.Core.Bool.{true}
use mathlib.Core.List.{List, map, Memᴰ}
use Prim.Native.Nat.{ℕ, ◌+◌, ◌-◌, ◌≤◌, ◌<◌}
use native.Mathlib.Omega.{arith}
use lib.Dec.{ltb}
use lib.ListN.{length, take}
use borrow.Author.Tests.{ltb-true}
use Rattle.outcome.specs.Outcome.{Outcome, answer}
use Rattle.items.specs.Items.{items_from}
use Rattle.items.specs.declared.Step.{Step}
use Rattle.part.specs.Part.{part}
use Rattle.outcome.proofs.OutcomeLaws.{answer_injective, kept⁻¹, bind_answer, bind⁻¹}
use Rattle.part.proofs.PartLaws.{part-take}
use Rattle.items.proofs.ItemsLaws.{Row, row_end, row_more}
use Rattle.lists.proofs.ListsLaws.{AscendingIn, ascending_wider}
use Rattle.framing.specs.Frame.{read_as, number_at}
use Rattle.items.proofs.RunLaws.{ReadFrom, row_member}
use Rattle.payload.specs.Payload.{Text, Entry, text_at, entry_at, entry_sized, payload_at, rising}
use Rattle.payload.specs.Answers.{text_in}
use Rattle.framing.proofs.FrameLaws.{numbered, number_read}
use Rattle.payload.proofs.PayloadLaws.{text⇒Placed, entry⇒Entered, EntryRead, entry⁻¹, text_found, text⁻¹}

-- ---- what is answered does not depend on the place that a refusal would have

pub number_any_place : (cut place c p : ℕ) (s : List ℕ) (at : ℕ) (n : Step ℕ) → number_at cut place s at ≡ answer n → number_at c p s at ≡ answer n
unfolding number_at read_as
number_any_place cut place c p s at n e =
    let r = number_read cut place s at n e in
    ap (read_as c p at) r.1 ∙ ap (λ (k : ℕ). answer (record { item = n.item; next = k })) (sym r.2)

pub text_any_place : (place p : ℕ) (s : List ℕ) (at : ℕ) (x : Step Text) → text_at place s at ≡ answer x → text_at p s at ≡ answer x
text_any_place place p s at x e =
    let r = text⁻¹ place s at x e in
    text_found p s at r.0 (number_any_place 15 place 15 p s at r.0 r.1) r.2 ∙ ap answer r.3

pub entry_any_place : (place p : ℕ) (s : List ℕ) (at : ℕ) (x : Step Entry) → entry_at place s at ≡ answer x → entry_at p s at ≡ answer x
unfolding entry_at entry_sized
entry_any_place place p s at x e = again (entry⁻¹ place s at x e)
  where
    again : EntryRead place s at x → entry_at p s at ≡ answer x
    again r =
        bind_answer (text_at p s at) _ r.key (text_any_place place p s at r.key r.key_read)
        ∙ bind_answer (number_at 15 p s r.key.next) _ r.offset (number_any_place 15 place 15 p s r.key.next r.offset r.offset_read)
        ∙ bind_answer (number_at 15 p s r.offset.next) _ r.size (number_any_place 15 place 15 p s r.offset.next r.size r.size_read)
        ∙ ap answer r.entry_is

-- ---- where a byte string stands

-- after `from`, at most up to `end`, and with the bytes that stand there
pub record Stands (s : List ℕ) (from end : ℕ) (t : Text) : Type 0 where
  pub after : from < t.at
  pub before : t.at + length t.bytes ≤ end
  pub bytes_are : part s t.at (length t.bytes) ≡ t.bytes

pub stands_wider : (s : List ℕ) (from end low high : ℕ) (t : Text) → low ≤ from → end ≤ high → Stands s from end t → Stands s low high t
stands_wider s from end low high t a b h = let after = h.after in let before = h.before in record { after = omega arith; before = omega arith; bytes_are = h.bytes_are }

-- in what comes before an end, and so in the whole
pub stands_take : (file : List ℕ) (cut from end : ℕ) (t : Text) → end ≤ cut → Stands (take cut file) from end t → Stands file from end t
stands_take file cut from end t h p =
    let before = p.before in
    record { after = p.after; before = before; bytes_are = sym (part-take file cut t.at (length t.bytes) (omega arith)) ∙ p.bytes_are }

pub text_stands : (place : ℕ) (s : List ℕ) (at : ℕ) (x : Step Text) → text_at place s at ≡ answer x → Stands s at x.next x.item
unfolding text_in
text_stands place s at x e =
    let p = text⇒Placed place s at x e in
    let long = p.long in
    let ends = p.ends in
    record {
      after = p.forward;
      before = omega arith;
      bytes_are = ap (part s x.item.at) long ∙ sym (ap (λ (t : Text). t.bytes) p.item_is);
    }

pub key_stands : (place : ℕ) (s : List ℕ) (at : ℕ) (x : Step Entry) → entry_at place s at ≡ answer x → Stands s at x.next x.item.key
key_stands place s at x e = go (entry⁻¹ place s at x e)
  where
    go : EntryRead place s at x → Stands s at x.next x.item.key
    go r =
        let n = (numbered 15 place s r.key.next r.offset r.offset_read).forward in
        let m = (numbered 15 place s r.offset.next r.size r.size_read).forward in
        subst (λ (y : Step Entry). Stands s at y.next y.item.key) r.entry_is
        (stands_wider s at r.key.next at r.size.next r.key.item (omega arith) (omega arith) (text_stands place s at r.key r.key_read))

-- ---- a payload that was read

-- steps through s whose items each have a byte string that stands within the step
module _ {A : Type 0} (step : ℕ → Outcome (Step A)) (text_of : A → Text) (s : List ℕ) (stands : (at : ℕ) (x : Step A) → step at ≡ answer x → Stands s at x.next (text_of x.item))
    (within : (at : ℕ) (x : Step A) → step at ≡ answer x → x.next ≤ length s) where
  pub steps_forward : (at : ℕ) (x : Step A) → step at ≡ answer x → at < x.next
  steps_forward at x e = let p = stands at x e in let after = p.after in let before = p.before in omega arith

  -- the byte strings stand at ascending offsets
  pub row-ascending : (at : ℕ) (xs : List A) → Row step (length s) at xs → at ≤ length s → AscendingIn (at + 1) (length s + 1) (map (λ x. (text_of x).at) xs)
  unfolding AscendingIn
  row-ascending at xs (row_end h) inside = omega arith
  row-ascending at xs (row_more x more h e r) inside =
      let p = stands at x e in
      let after = p.after in
      let before = p.before in
      let rest = row-ascending x.next more r (within at x e) in
      (omega arith, ascending_wider (x.next + 1) (length s + 1) ((text_of x.item).at + 1) (length s + 1) (map (λ y. (text_of y).at) more) (omega arith) (omega arith) rest)

  -- each stands after the first offset and before the end
  pub row_stands : (at : ℕ) (xs : List A) → Row step (length s) at xs → (x : A) → Memᴰ x xs → Stands s at (length s) (text_of x)
  row_stands at xs r x m = go (row_member step (length s) steps_forward at xs r x m)
    where
      go : ReadFrom step (length s) at x → Stands s at (length s) (text_of x)
      go q =
          subst (λ (y : A). Stands s at (length s) (text_of y)) q.is_item
          (stands_wider s q.read_at q.read.next at (length s) (text_of q.read.item) q.after (within q.read_at q.read q.stepped) (stands q.read_at q.read q.stepped))

-- what is known of the items of a payload that was read
pub record Filled {A : Type 0} (step : ℕ → Outcome (Step A)) (text_of : A → Text) (end at : ℕ) (xs : List A) : Type 0 where
  pub some : at < end
  pub items : items_from step end (end - at) at ≡ answer xs
  pub sorted : rising (map (λ x. (text_of x).bytes) xs) ≡ true

pub payload⁻¹ : {A : Type 0} (step : ℕ → Outcome (Step A)) (text_of : A → Text) (unsorted place end at : ℕ) (xs : List A) → payload_at step text_of unsorted place end at ≡ answer xs
    → Filled step text_of end at xs
unfolding payload_at
payload⁻¹ {A} step text_of unsorted place end at xs e =
    let some = kept⁻¹ (ltb at end) 15 place _ xs e in
    let items = bind⁻¹ (items_from step end (end - at) at) _ xs some.1 in
    go items.0 (ltb-true at end some.0) items.1 (kept⁻¹ _ unsorted place (answer items.0) xs items.2)
  where
    go : (ys : List A) → at < end → items_from step end (end - at) at ≡ answer ys → (rising (map (λ x. (text_of x).bytes) ys) ≡ true) × (answer ys ≡ answer xs) → Filled step text_of end at xs
    go ys some items sorted =
        subst (Filled step text_of end at) (answer_injective ys xs sorted.1) (record { some = some; items = items; sorted = sorted.0 })

-- and stays within
pub text_within : (place : ℕ) (s : List ℕ) (at : ℕ) (x : Step Text) → text_at place s at ≡ answer x → x.next ≤ length s
text_within place s at x e = (text⇒Placed place s at x e).within

pub entry_within : (place : ℕ) (s : List ℕ) (at : ℕ) (x : Step Entry) → entry_at place s at ≡ answer x → x.next ≤ length s
entry_within place s at x e = (entry⇒Entered place s at x e).within

-- a step goes forward
pub text_forward : (place : ℕ) (s : List ℕ) (at : ℕ) (x : Step Text) → text_at place s at ≡ answer x → at < x.next
text_forward place s at x e = let p = text⇒Placed place s at x e in let f = p.forward in let ends = p.ends in omega arith

pub entry_forward : (place : ℕ) (s : List ℕ) (at : ℕ) (x : Step Entry) → entry_at place s at ≡ answer x → at < x.next
entry_forward place s at x e = (entry⇒Entered place s at x e).forward
