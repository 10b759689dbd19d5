-- Laws of bytes from one to another: the test says what the relation says.
-- Assumes nothing.
use Prim.Native.Nat.{ℕ}
use mathlib.Core.Path.{◌≡◌, refl}
use mathlib.Core.Bool.{true, and-eq-true_iff, Bool, false}
use lib.Dec.{leb}
use borrow.Author.Tests.{leb-true, le-leb}
use Rattle.byte_range.specs.Range.{In, within}

pub within⇒in : (low high b : ℕ) → within low high b ≡ true → In low high b
within⇒in low high b e =
    let both = (and-eq-true_iff (leb low b) (leb b high)).0 e in
    record { least = leb-true low b both.0; most = leb-true b high both.1 }

pub in⇒within : (low high b : ℕ) → In low high b → within low high b ≡ true
in⇒within low high b i = rw (le-leb low b i.least, le-leb b high i.most)

pub not_in⇒not_within : (low high b : ℕ) → (In low high b → ⊥) → within low high b ≡ false
not_in⇒not_within low high b n = go (within low high b) refl
  where
    go : (t : Bool) → within low high b ≡ t → within low high b ≡ false
    go true e = absurd (n (within⇒in low high b e))
    go false e = e
