-- Laws of a byte string that lies in another at an offset.
-- Assumes nothing.
use mathlib.Core.Path.{◌≡◌, sym, ap, ◌∙◌}
use mathlib.Core.List.{List, [], ◌∷◌, ◌++◌, append_assoc, append-nil}
use Prim.Native.Nat.{ℕ, ◌+◌, ◌-◌, ◌≤◌}
use native.Mathlib.Omega.{arith}
use lib.ListN.{length, take, drop, get_or, length-append}
use lib.Seq.{take-append_seam, take-append-add, drop_at, get_or_at}
use Rattle.part.specs.Part.{part}

-- what a byte string holds at an offset, with what comes before and after it
pub record Lies (s : List ℕ) (at : ℕ) (a : List ℕ) : Type 0 where
  pub before : List ℕ
  pub after : List ℕ
  pub whole : s ≡ before ++ (a ++ after)
  pub starts : at ≡ length before

pub lies : (s x a y : List ℕ) (at : ℕ) → s ≡ x ++ (a ++ y) → at ≡ length x → Lies s at a
lies s x a y at e h = record { before = x; after = y; whole = e; starts = h }

-- up to the end
pub lies_last : (s x a : List ℕ) (at : ℕ) → s ≡ x ++ a → at ≡ length x → Lies s at a
lies_last s x a at e h = record { before = x; after = []; whole = e ∙ ap (λ (l : List ℕ). x ++ l) (sym (append-nil a)); starts = h }

module _ (s : List ℕ) (at : ℕ) where
  pub lies_within : (a : List ℕ) → Lies s at a → at + length a ≤ length s
  lies_within a l =
      let starts = l.starts in
      let long = ap length l.whole ∙ length-append l.before (a ++ l.after) in
      let parts = length-append a l.after in
      omega arith

  -- what it holds from there on
  pub lies_drop : (a : List ℕ) (l : Lies s at a) → drop at s ≡ a ++ l.after
  lies_drop a l = ap (drop at) l.whole ∙ drop_at l.before (a ++ l.after) at (sym l.starts)

  pub lies_part : (a : List ℕ) → Lies s at a → part s at (length a) ≡ a
  unfolding part
  lies_part a l = ap (take (length a)) (lies_drop a l) ∙ take-append_seam a l.after

  -- its first part, and what comes after that
  pub lies_front : (a b : List ℕ) → Lies s at (a ++ b) → Lies s at a
  lies_front a b l =
      record {
        before = l.before;
        after = b ++ l.after;
        whole = l.whole ∙ ap (λ (z : List ℕ). l.before ++ z) (append_assoc a b l.after);
        starts = l.starts;
      }

  pub lies_back : (a b : List ℕ) → Lies s at (a ++ b) → Lies s (at + length a) b
  lies_back a b l =
      record {
        before = l.before ++ a;
        after = l.after;
        whole = l.whole ∙ ap (λ (z : List ℕ). l.before ++ z) (append_assoc a b l.after) ∙ sym (append_assoc l.before a (b ++ l.after));
        starts = rw (length-append l.before a, l.starts);
      }

  -- its first element
  pub lies_first : (b : ℕ) (a : List ℕ) → Lies s at (b ∷ a) → get_or s at 0 ≡ b
  lies_first b a l = ap (λ (z : List ℕ). get_or z at 0) l.whole ∙ get_or_at l.before b (a ++ l.after) 0 at (sym l.starts)

  -- in what comes before an end
  pub lies_take : (a : List ℕ) (end : ℕ) → at + length a ≤ end → Lies s at a → Lies (take end s) at a
  lies_take a end h l =
      record {
        before = l.before;
        after = take (end - (at + length a)) l.after;
        whole = ap (take end) (l.whole ∙ sym (append_assoc l.before a l.after)) ∙ cut ∙ append_assoc l.before a _;
        starts = l.starts;
      }
    where
      sum : end ≡ length (l.before ++ a) + (end - (at + length a))
      sum = rw (length-append l.before a, ← l.starts) (omega arith)

      cut : take end ((l.before ++ a) ++ l.after) ≡ (l.before ++ a) ++ take (end - (at + length a)) l.after
      cut = ap (λ (n : ℕ). take n ((l.before ++ a) ++ l.after)) sum ∙ take-append-add (l.before ++ a) l.after (end - (at + length a))

-- in a part that lies in a whole
pub lies_in : (s : List ℕ) (at : ℕ) (a : List ℕ) (i : ℕ) (b : List ℕ) → Lies s at a → Lies a i b → Lies s (at + i) b
lies_in s at a i b l m =
    record {
      before = l.before ++ m.before;
      after = m.after ++ l.after;
      whole = l.whole ∙ ap (λ (z : List ℕ). l.before ++ (z ++ l.after)) m.whole ∙ simp append_assoc;
      starts = rw (length-append l.before m.before, l.starts, m.starts);
    }
