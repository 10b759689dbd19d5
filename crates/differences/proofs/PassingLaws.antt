-- What is left of records that rise when the leading copies of a byte string are passed: the records above it, with all their copies.
-- Assumes nothing.
use Prim.Native.Nat.{ℕ, suc}
use mathlib.Core.Path.{◌≡◌, refl, sym, ap, ◌∙◌, subst}
use mathlib.Core.Bool.{Bool, true, false}
use mathlib.Core.Logic.{◌⊎◌, inl, inr}
use mathlib.Core.List.Memᴰ
use mathlib.Core.List.{List, [], ◌∷◌, Memᴰ}
use lib.ListN.{drop}
use Rattle.byte_string.specs.Order.{less, at_most}
use Rattle.byte_string.specs.Rising.{rising}
use Rattle.byte_string.proofs.OrderLaws.{at_most_refl, less-at_most_trans}
use Rattle.payload.specs.Payload.{Text}
use Rattle.byte_string.specs.Order.{same}
use Rattle.differences.specs.Differences.{strings, copies, first_copy}
use Rattle.differences.specs.Merge.{leading}
use Rattle.byte_string.proofs.SameLaws.{same_eq, same_not, not_same}
use Rattle.differences.proofs.CopyLaws.{copies_nil, copies_here, copies_passed, copies_none, first_passed}
use Rattle.differences.proofs.StrictLaws.{less_not_eq, rising_rest, rising_least, at_most-less}
use Rattle.differences.proofs.MergeLaws.{leading_end, leading_passed, leading_more}

-- ---- records that rise

pub records_rest : (r : Text) (rs : List Text) → rising (strings (r ∷ rs)) ≡ true → rising (strings rs) ≡ true
unfolding strings
records_rest r rs h = rising_rest r.bytes (strings rs) h

-- the first is at most each
pub records_least : (r : Text) (rs : List Text) → rising (strings (r ∷ rs)) ≡ true → (q : Text) → Memᴰ q (r ∷ rs)
    → at_most r.bytes q.bytes ≡ true
unfolding strings
records_least r rs h q m = go (Memᴰ.cases_cons m)
  where
    go : (q ≡ r) ⊎ Memᴰ q rs → at_most r.bytes q.bytes ≡ true
    go (inl own) = subst (λ (t : Text). at_most r.bytes t.bytes ≡ true) (sym own) (at_most_refl r.bytes)
    go (inr later) = rising_least r.bytes (strings rs) h q.bytes (Memᴰ.map (λ (t : Text). t.bytes) later)

-- ---- passing the leading copies of z

module _ (z : List ℕ) where
  pub passing_here : (r : Text) (rs : List Text) → same r.bytes z ≡ true → drop (leading z (r ∷ rs)) (r ∷ rs) ≡ drop (leading z rs) rs
  passing_here r rs e = ap (λ (n : ℕ). drop n (r ∷ rs)) (leading_more z r rs e)

  pub passing_none : (r : Text) (rs : List Text) → same r.bytes z ≡ false → drop (leading z (r ∷ rs)) (r ∷ rs) ≡ r ∷ rs
  passing_none r rs e = ap (λ (n : ℕ). drop n (r ∷ rs)) (leading_passed z r rs e)

  passing_nil : drop {A = Text} (leading z []) [] ≡ []
  passing_nil = ap (λ (n : ℕ). drop {A = Text} n []) (leading_end z)

  -- other byte strings keep their copies
  pub passing_copies : (rs : List Text) (x : List ℕ) → (z ≡ x → ⊥) → copies (drop (leading z rs) rs) x ≡ copies rs x
  passing_copies [] x h = ap (λ (l : List Text). copies l x) passing_nil
  passing_copies (r ∷ rs) x h = go (same r.bytes z) refl (passing_copies rs x h)
    where
      go : (b : Bool) → same r.bytes z ≡ b → copies (drop (leading z rs) rs) x ≡ copies rs x
          → copies (drop (leading z (r ∷ rs)) (r ∷ rs)) x ≡ copies (r ∷ rs) x
      go true e rest =
          ap (λ (l : List Text). copies l x) (passing_here r rs e) ∙ rest
          ∙ sym (copies_passed r rs x (same_not r.bytes x (λ s. h (sym (same_eq r.bytes z e) ∙ s))))
      go false e rest = ap (λ (l : List Text). copies l x) (passing_none r rs e)

  pub passing_first : (rs : List Text) (x : List ℕ) → (z ≡ x → ⊥) → first_copy (drop (leading z rs) rs) x ≡ first_copy rs x
  passing_first [] x h = ap (λ (l : List Text). first_copy l x) passing_nil
  passing_first (r ∷ rs) x h = go (same r.bytes z) refl (passing_first rs x h)
    where
      go : (b : Bool) → same r.bytes z ≡ b → first_copy (drop (leading z rs) rs) x ≡ first_copy rs x
          → first_copy (drop (leading z (r ∷ rs)) (r ∷ rs)) x ≡ first_copy (r ∷ rs) x
      go true e rest =
          ap (λ (l : List Text). first_copy l x) (passing_here r rs e) ∙ rest
          ∙ sym (first_passed r rs x (same_not r.bytes x (λ s. h (sym (same_eq r.bytes z e) ∙ s))))
      go false e rest = ap (λ (l : List Text). first_copy l x) (passing_none r rs e)

  pub passing_rises : (rs : List Text) → rising (strings rs) ≡ true → rising (strings (drop (leading z rs) rs)) ≡ true
  passing_rises [] h = ap (λ (l : List Text). rising (strings l)) passing_nil ∙ h
  passing_rises (r ∷ rs) h = go (same r.bytes z) refl (passing_rises rs (records_rest r rs h))
    where
      go : (b : Bool) → same r.bytes z ≡ b → rising (strings (drop (leading z rs) rs)) ≡ true
          → rising (strings (drop (leading z (r ∷ rs)) (r ∷ rs))) ≡ true
      go true e rest = ap (λ (l : List Text). rising (strings l)) (passing_here r rs e) ∙ rest
      go false e rest = ap (λ (l : List Text). rising (strings l)) (passing_none r rs e) ∙ h

  -- where the first is above z, each is
  above : (r : Text) (rs : List Text) → rising (strings (r ∷ rs)) ≡ true → at_most z r.bytes ≡ true → same r.bytes z ≡ false
      → (q : Text) → Memᴰ q (r ∷ rs) → less z q.bytes ≡ true
  above r rs h low e q m =
      less-at_most_trans z r.bytes q.bytes (at_most-less z r.bytes low (λ s. not_same r.bytes z e (sym s))) (records_least r rs h q m)

  -- what is left is above z
  pub passing_above : (rs : List Text) → rising (strings rs) ≡ true → ((q : Text) → Memᴰ q rs → at_most z q.bytes ≡ true)
      → (q : Text) → Memᴰ q (drop (leading z rs) rs) → less z q.bytes ≡ true
  passing_above [] h low q m = absurd (Memᴰ.not-nil (subst (Memᴰ q) passing_nil m))
  passing_above (r ∷ rs) h low q m =
      go (same r.bytes z) refl (passing_above rs (records_rest r rs h) (λ (t : Text) (i : Memᴰ t rs). low t (Memᴰ.tail i)) q)
    where
      go : (b : Bool) → same r.bytes z ≡ b → (Memᴰ q (drop (leading z rs) rs) → less z q.bytes ≡ true) → less z q.bytes ≡ true
      go true e rest = rest (subst (Memᴰ q) (passing_here r rs e) m)
      go false e rest = above r rs h (low r (Memᴰ.head refl)) e q (subst (Memᴰ q) (passing_none r rs e) m)

  -- the leading copies are all
  pub leading_all : (rs : List Text) → rising (strings rs) ≡ true → ((q : Text) → Memᴰ q rs → at_most z q.bytes ≡ true) → leading z rs ≡ copies rs z
  leading_all [] h low = leading_end z ∙ sym (copies_nil z)
  leading_all (r ∷ rs) h low =
      go (same r.bytes z) refl (leading_all rs (records_rest r rs h) (λ (t : Text) (i : Memᴰ t rs). low t (Memᴰ.tail i)))
    where
      go : (b : Bool) → same r.bytes z ≡ b → leading z rs ≡ copies rs z → leading z (r ∷ rs) ≡ copies (r ∷ rs) z
      go true e rest = leading_more z r rs e ∙ ap suc rest ∙ sym (copies_here r rs z e)
      go false e rest =
          leading_passed z r rs e
          ∙ sym (copies_none (r ∷ rs) z (λ q m s. less_not_eq z q.bytes (above r rs h (low r (Memᴰ.head refl)) e q m) (sym s)))
