-- The laws of `copies` and `first_copy`: how many records hold a byte string, and which of them is the first.
-- Assumes nothing.
use Prim.Native.Nat.{ℕ, suc, ◌≤◌, ◌<◌}
use native.Mathlib.Omega.{arith}
use mathlib.Core.Path.{◌≡◌, refl, sym, ap, ◌∙◌}
use mathlib.Core.Bool.{Bool, true, false}
use mathlib.Core.Logic.{◌⊎◌, inl, inr}
use mathlib.Core.List.Memᴰ
use mathlib.Core.List.{List, [], ◌∷◌, map, Memᴰ}
use lib.ListN.{length, length-map}
use Rattle.lists.specs.Lists.{keep}
use Rattle.lists.proofs.ListsLaws.{Ascending, below_member, keep_first, keep_later, keep_member}
use Rattle.lists.proofs.RisingLaws.{some_member}
use Rattle.lists.proofs.CountLaws.{keep_map, keep_none, count_member}
use Rattle.payload.specs.Payload.{Text}
use Rattle.byte_string.specs.Order.{same}
use Rattle.differences.specs.Differences.{strings, copies, first_copy}
use Rattle.byte_string.proofs.SameLaws.{same_eq, eq_same, same_not, not_same}

-- ---- how many there are

pub copies_nil : (x : List ℕ) → copies [] x ≡ 0
unfolding copies keep
copies_nil x = refl

pub copies_here : (r : Text) (rs : List Text) (x : List ℕ) → same r.bytes x ≡ true → copies (r ∷ rs) x ≡ suc (copies rs x)
unfolding copies
copies_here r rs x e = ap length (keep_first (λ (q : Text). same q.bytes x) r rs e)

pub copies_passed : (r : Text) (rs : List Text) (x : List ℕ) → same r.bytes x ≡ false → copies (r ∷ rs) x ≡ copies rs x
unfolding copies
copies_passed r rs x e = ap length (keep_later (λ (q : Text). same q.bytes x) r rs e)

pub copies_none : (rs : List Text) (x : List ℕ) → ((r : Text) → Memᴰ r rs → r.bytes ≡ x → ⊥) → copies rs x ≡ 0
unfolding copies
copies_none rs x h = ap length (keep_none (λ (r : Text). same r.bytes x) rs (λ r m. same_not r.bytes x (h r m)))

-- ---- one of them

pub copies_member : (rs : List Text) (x : List ℕ) → 0 < copies rs x → (r : Text) × Memᴰ r rs × (r.bytes ≡ x)
unfolding copies
copies_member rs x h =
    let one = some_member (keep (λ (r : Text). same r.bytes x) rs) h in
    let held = keep_member (λ (r : Text). same r.bytes x) rs one.0 one.1 in
    (one.0, held.0, same_eq one.0.bytes x held.1)

pub member_copies : (rs : List Text) (x : List ℕ) (r : Text) → Memᴰ r rs → r.bytes ≡ x → 0 < copies rs x
unfolding copies
member_copies rs x r m e = count_member (λ (q : Text). same q.bytes x) rs r m (eq_same r.bytes x e)

-- ---- the first of them

pub first_here : (r : Text) (rs : List Text) (x : List ℕ) → same r.bytes x ≡ true → first_copy (r ∷ rs) x ≡ r.at
unfolding first_copy
first_here r rs x e = rw e

pub first_passed : (r : Text) (rs : List Text) (x : List ℕ) → same r.bytes x ≡ false → first_copy (r ∷ rs) x ≡ first_copy rs x
unfolding first_copy
first_passed r rs x e = rw e

pub first_copy_lem : (rs : List Text) (x : List ℕ) → 0 < copies rs x → (r : Text) × Memᴰ r rs × (r.bytes ≡ x) × (r.at ≡ first_copy rs x)
first_copy_lem [] x h = absurd (let e = copies_nil x in omega arith)
first_copy_lem (q ∷ rs) x h = go (same q.bytes x) refl (first_copy_lem rs x)
  where
    go : (b : Bool) → same q.bytes x ≡ b → (0 < copies rs x → (r : Text) × Memᴰ r rs × (r.bytes ≡ x) × (r.at ≡ first_copy rs x))
        → (r : Text) × Memᴰ r (q ∷ rs) × (r.bytes ≡ x) × (r.at ≡ first_copy (q ∷ rs) x)
    go true e rest = (q, Memᴰ.head refl, same_eq q.bytes x e, sym (first_here q rs x e))
    go false e rest =
        let fewer = copies_passed q rs x e in
        let r = rest (omega arith) in
        (r.0, Memᴰ.tail r.1, r.2, r.3 ∙ sym (first_passed q rs x e))

-- where offsets ascend, no copy stands before the first
pub first_lowest : (rs : List Text) (x : List ℕ) → Ascending (map (λ r. r.at) rs) → (r : Text) → Memᴰ r rs → r.bytes ≡ x → first_copy rs x ≤ r.at
unfolding Ascending
first_lowest [] x rise r m e = absurd (Memᴰ.not-nil m)
first_lowest (q ∷ rs) x rise r m e = go (same q.bytes x) refl (Memᴰ.cases_cons m) (first_lowest rs x rise.1 r)
  where
    go : (b : Bool) → same q.bytes x ≡ b → (r ≡ q) ⊎ Memᴰ r rs → (Memᴰ r rs → r.bytes ≡ x → first_copy rs x ≤ r.at)
        → first_copy (q ∷ rs) x ≤ r.at
    go true s (inl own) rest = let here = first_here q rs x s in let equal = ap (λ (t : Text). t.at) own in omega arith
    go true s (inr later) rest =
        let here = first_here q rs x s in
        let below = below_member (λ (t : Text). t.at) q.at rs rise.0 r later in
        omega arith
    go false s (inl own) rest = absurd (not_same q.bytes x s (sym (ap (λ (t : Text). t.bytes) own) ∙ e))
    go false s (inr later) rest = let passed = first_passed q rs x s in let least = rest later e in omega arith

-- ---- by the byte strings alone

copies_by_strings : (rs : List Text) (x : List ℕ) → copies rs x ≡ length (keep (λ y. same y x) (strings rs))
unfolding copies strings
copies_by_strings rs x =
    sym (length-map (keep (λ (r : Text). same r.bytes x) rs) (λ (r : Text). r.bytes))
    ∙ ap length (keep_map (λ (y : List ℕ). same y x) (λ (r : Text). r.bytes) rs)

pub copies-strings : (rs qs : List Text) (x : List ℕ) → strings rs ≡ strings qs → copies rs x ≡ copies qs x
copies-strings rs qs x e =
    copies_by_strings rs x
    ∙ ap (λ (l : List (List ℕ)). length (keep (λ y. same y x) l)) e
    ∙ sym (copies_by_strings qs x)
