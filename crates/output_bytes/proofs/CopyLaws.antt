-- Laws of copying a part of a lent output within it.
-- Assumes nothing.
use mathlib.Core.Path.{◌≡◌, refl, sym, ap}
use mathlib.Core.Bool.{Bool, true, false, cond}
use mathlib.Core.List.{List, [], ◌∷◌, ◌++◌}
use Prim.Native.Nat.{ℕ, zero, suc, ◌+◌, ◌-◌, ◌≤◌, ◌<◌}
use native.Mathlib.Nat.{add-zero, add-suc}
use native.Mathlib.Omega.{arith}
use lib.Dec.{leb}
use lib.ListN.{length, take, drop, get_or, set, length-take, length-drop, take-append-drop, length-set, drop_of_length-le, get_or-append}
use lib.Seq.{length-take-le, take-suc, drop-cons, drop-drop, append_snoc, set_at, get_or-take}
use borrow.Author.Tests.{le-leb, lt-leb, leb-true, leb-false}
use Rattle.part.specs.Part.{part}
use Rattle.part.proofs.PartLaws.{length_part, part_rest, get_d_part}
use Rattle.output_bytes.specs.OutputBytes.{bytes_fit, stored, copies, copied}
use Rattle.output_bytes.proofs.OutputBytesLaws.{fits_some, fits_none, stored_some}

-- what stands there already
pub stored_same : (o : List ℕ) (at n : ℕ) → stored o at (part o at n) ≡ o
unfolding stored bytes_fit part
stored_same o at n = go (leb (at + length (take n (drop at o))) (length o))
  where
    front : (k : ℕ) (l : List ℕ) → take k l ++ drop (length (take k l)) l ≡ l
    front zero l = refl
    front (suc k) [] = refl
    front (suc k) (x ∷ l) = ap (λ (r : List ℕ). x ∷ r) (front k l)

    go : (b : Bool) → cond b (take at o ++ (take n (drop at o) ++ drop (at + length (take n (drop at o))) o)) o ≡ o
    go true = rw (← drop-drop (length (take n (drop at o))) at o, front n (drop at o), take-append-drop at o)
    go false = refl

-- ---- what `copy` answers

pub copies_some : (o : List ℕ) (from n at : ℕ) → from ≤ at → at + n ≤ length o → copies o from n at ≡ true
unfolding copies
copies_some o from n at h k = rw (le-leb from at h) (fits_some o at (part o from n) (rw (length_part o from n (omega arith)) k))

pub copied_some : (o : List ℕ) (from n at : ℕ) → from ≤ at → at + n ≤ length o → copied o from n at ≡ stored o at (part o from n)
unfolding copied
copied_some o from n at h k = rw (copies_some o from n at h k)

copies_false : (o : List ℕ) (from n at : ℕ) → copies o from n at ≡ false → (false ≡ copies o from n at) × (o ≡ copied o from n at)
unfolding copied
copies_false o from n at e = (sym e, rw e)

-- the part begins after its place
pub copy_late : (o : List ℕ) (from n at : ℕ) → at < from → (false ≡ copies o from n at) × (o ≡ copied o from n at)
unfolding copies
copy_late o from n at h = copies_false o from n at (rw (lt-leb from at h))

-- its place lies after the output
pub copy_past : (o : List ℕ) (from n at : ℕ) → from ≤ at → length o < at → (false ≡ copies o from n at) × (o ≡ copied o from n at)
unfolding copies
copy_past o from n at h k = copies_false o from n at (rw (le-leb from at h) (fits_none o at (part o from n) (omega arith)))

-- the copy doesn't fit
pub copy_none : (o : List ℕ) (from n at : ℕ) → from < at → length o < at + n → (false ≡ copies o from n at) × (o ≡ copied o from n at)
unfolding copies
copy_none o from n at h k = copies_false o from n at (rw (le-leb from at (omega arith)) (fits_none o at (part o from n) (go (leb (from + n) (length o)) refl)))
  where
    go : (b : Bool) → leb (from + n) (length o) ≡ b → length o < at + length (part o from n)
    go true e = let l = leb-true (from + n) (length o) e in rw (length_part o from n l) k
    go false e =
        let l = leb-false (from + n) (length o) e in
        rw (part_rest o from n (omega arith), length-drop from o) (omega arith)

-- the part is there already
pub copy_same : (o : List ℕ) (from n at : ℕ) → at ≡ from → at ≤ length o → (true ≡ copies o from n at) × (o ≡ copied o from n at)
unfolding copied copies part
copy_same o from n at e h =
    let fits : copies o from n at ≡ true = rw (le-leb from at (omega arith)) (fits_some o at (part o from n) (go e)) in
    (sym fits, rw fits (rw e (sym (stored_same o from n))))
  where
    go : at ≡ from → at + length (part o from n) ≤ length o
    go e = rw (length-take n (drop from o), length-drop from o) (omega arith)

-- ---- copying from the last byte down

-- `output` is what `old` has become with the bytes from `left` on of a part of n bytes stored, each where it belongs from `at` on
pub record Copying (old : List ℕ) (from n at : ℕ) (output : List ℕ) (left : ℕ) : Type 0 where
  pub before : from ≤ at
  pub enough : at + n ≤ length old
  pub within : left ≤ n
  pub long : length output ≡ length old
  pub holds : output ≡ take (at + left) old ++ (drop left (part old from n) ++ drop (at + n) old)

module _ (old : List ℕ) (from n at : ℕ) where
  pub copying_none : from ≤ at → at + n ≤ length old → Copying old from n at old n
  copying_none h k =
      let none = drop_of_length-le (part old from n) {i = n} (omega (arith, length_part old from n (omega arith))) in
      record { before = h; enough = k; within = omega arith; long = refl; holds = rw (none, take-append-drop (at + n) old) }

  module _ (output : List ℕ) where
    -- what isn't reached yet is as it was
    copying_before : (left : ℕ) → Copying old from n at output left → (i : ℕ) → i < at + left → get_or output i 0 ≡ get_or old i 0
    copying_before left c i l =
        let enough = c.enough in
        let within = c.within in
        rw (
          c.holds,
          get_or-append (take (at + left) old) (drop left (part old from n) ++ drop (at + n) old) 0 i (rw (length-take-le (at + left) old (omega arith)) l),
          get_or-take (at + left) old i 0 l,
        )

    -- the byte before those that are stored
    copying_one : (k : ℕ) → Copying old from n at output (suc k) → Copying old from n at (set output (at + k) (get_or (part old from n) k 0)) k
    copying_one k c =
        let enough = c.enough in
        let within = c.within in
        let before = c.before in
        let rest : List ℕ = drop (suc k) (part old from n) ++ drop (at + n) old in
        record {
          before = before;
          enough = enough;
          within = omega arith;
          long = simp length-set c.long;
          holds = rw (
            c.holds,
            add-suc at k,
            take-suc old (at + k) 0 (omega arith),
            append_snoc (take (at + k) old) (get_or old (at + k) 0) rest,
            set_at (take (at + k) old) (get_or old (at + k) 0) rest (get_or (part old from n) k 0) (at + k) (length-take-le (at + k) old (omega arith)),
            drop-cons (part old from n) k 0 (rw (length_part old from n (omega arith)) within),
          );
        }

    -- each byte of the part is read before the output changes there
    pub copying_more : (left : ℕ) → Copying old from n at output left → 0 < left
        → Copying old from n at (set output (at + (left - 1)) (get_or output (from + (left - 1)) 0)) (left - 1)
    copying_more zero c l = absurd (omega arith)
    copying_more (suc k) c l =
        let within = c.within in
        let before = c.before in
        rw (one, copying_before (suc k) c (from + k) (omega arith), ← get_d_part old from n k within) (copying_one k c)
      where
        one : suc k - 1 ≡ k
        one = omega arith

    pub copy_all : (left : ℕ) → Copying old from n at output left → left ≤ 0 → (true ≡ copies old from n at) × (output ≡ copied old from n at)
    copy_all zero c l =
        let before = c.before in
        let enough = c.enough in (
          sym (copies_some old from n at before enough),
          rw (
            copied_some old from n at before enough,
            stored_some old at (part old from n) (rw (length_part old from n (omega arith)) enough),
            length_part old from n (omega arith),
          )
              (rw (add-zero at) at c.holds),
        )
    copy_all (suc left) c l = absurd (omega arith)
