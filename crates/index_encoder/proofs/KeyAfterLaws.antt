-- Laws of the key that is made for a data block.
-- Assumes nothing.
use mathlib.Core.Path.{◌≡◌, refl, sym, ap, ◌∙◌}
use mathlib.Core.Logic.{◌⊎◌, inl, inr}
use mathlib.Core.Option.{some}
use Prim.Native.Nat.{ℕ, ◌+◌, ◌≤◌}
use mathlib.Core.List.{List}
use native.Mathlib.Omega.{arith}
use lib.ListN.{length, take, drop}
use lib.Seq.{take-take, take_all}
use borrow.Author.Tests.{eq-eqb, ne_eqb}
use Rattle.byte_string.specs.Order.{agreeing}
use Rattle.byte_string.proofs.AgreeingLaws.{agreeing-length_right}
use Rattle.part.specs.Part.{part}
use Rattle.part.specs.declared.Part.{Part}
use Rattle.part.proofs.PartLaws.{length_part}
use Rattle.layout.specs.File.{key_length, key_for}
use Rattle.index_encoder.specs.Children.{bytes_of, Within}

module _ (s : List ℕ) (before first : Part) (held : Within s before) (inside : Within s first) {c : ℕ}
    (agree : c ≡ agreeing (bytes_of s before) (bytes_of s first)) where
  abbrev Key : Part → Type 0
  Key key = (bytes_of s key ≡ key_for (some (bytes_of s before)) (bytes_of s first)) × ((key.offset ≡ first.offset) × (key.length ≤ first.length))

  -- a part from the start of the first record on
  front : (n : ℕ) → n ≤ first.length → part s first.offset n ≡ take n (bytes_of s first)
  unfolding bytes_of part
  front n h = sym (take-take n first.length (drop first.offset s) h)

  few : c ≤ first.length
  unfolding bytes_of Within
  few = let most = agreeing-length_right (bytes_of s before) (bytes_of s first) in let long = length_part s first.offset first.length inside in omega arith

  before_long : length (bytes_of s before) ≡ before.length
  unfolding bytes_of Within
  before_long = length_part s before.offset before.length held

  -- all of the record before agrees
  all : c ≡ before.length → key_for (some (bytes_of s before)) (bytes_of s first) ≡ take c (bytes_of s first)
  unfolding key_for key_length
  all e = rw (eq-eqb _ _ (sym agree ∙ e ∙ sym before_long)) (ap (λ (n : ℕ). take n (bytes_of s first)) (sym agree))

  pub key_all : c ≡ before.length → Key (record { offset = first.offset; length = c })
  unfolding bytes_of
  key_all e = (front c few ∙ sym (all e), (refl, few))

  module _ (less : c ≡ before.length → ⊥) where
    more : key_for (some (bytes_of s before)) (bytes_of s first) ≡ take (c + 1) (bytes_of s first)
    unfolding key_for key_length
    more = rw (ne_eqb _ _ (λ e. less (agree ∙ e ∙ before_long))) (ap (λ (n : ℕ). take (n + 1) (bytes_of s first)) (sym agree))

    -- all of the first record agrees
    pub key_whole : c ≡ first.length → Key first
    unfolding bytes_of Within
    key_whole e = (
      sym (more ∙ take_all (c + 1) (bytes_of s first) (let long = length_part s first.offset first.length inside in omega arith)),
      (refl, omega arith),
    )

    -- they part within the first record
    pub key_parted : (c ≡ first.length → ⊥) → Key (record { offset = first.offset; length = c + 1 })
    unfolding bytes_of
    key_parted n = let least : c + 1 ≤ first.length = below few n in (front (c + 1) least ∙ sym more, (refl, least))
      where
        below : {a b : ℕ} → a ≤ b → (a ≡ b → ⊥) → a + 1 ≤ b
        below h d = omega arith

  -- all of one of them agrees
  pub key_agreeing : (c ≡ before.length) ⊎ ((c ≡ before.length → ⊥) × (c ≡ first.length)) → Key (record { offset = first.offset; length = c })
  key_agreeing (inl e) = key_all e
  key_agreeing (inr e) = rw e.1 (key_whole e.0 e.1)
