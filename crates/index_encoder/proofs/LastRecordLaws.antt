-- Laws of the last record of a data block.
-- Assumes nothing.
use mathlib.Core.Path.{◌≡◌, refl, sym}
use mathlib.Core.List.{List}
use Prim.Native.Nat.{ℕ, ◌+◌, ◌≤◌, ◌<◌}
use native.Mathlib.Omega.{arith}
use lib.ListN.{length}
use Rattle.lists.specs.Groups.{last_or}
use Rattle.outcome.specs.Outcome.{answer, refused}
use Rattle.items.proofs.GoingLaws.{Going, going_start, going_end, going_refused, going_more}
use Rattle.part.specs.declared.Part.{Part}
use Rattle.payload.specs.Payload.{text_at}
use Rattle.payload.specs.Answers.{text_in}
use Rattle.payload.proofs.PayloadLaws.{text⇒Placed}
use Rattle.index_encoder.specs.Children.{bytes_of, Within, last_text, last_from}
use Rattle.index_encoder.proofs.StoredLaws.{by_order}

module _ (s : List ℕ) (first : Part) where
  abbrev whole : List ℕ
  whole = last_from s (first.offset + first.length) (bytes_of s first)

  -- the texts up to `at` are passed, and `last` is their last
  pub record Passing (last : Part) (at : ℕ) : Type 0 where
    pub going : Going last_text (text_at 0 s) (length s) whole at (bytes_of s last)
    pub within : Within s last

  pub passing_start : Within s first → Passing first (first.offset + first.length)
  unfolding last_from
  passing_start h = record { going = going_start last_text (text_at 0 s) (length s) whole _ (bytes_of s first) refl; within = h }

  module _ (last : Part) (at : ℕ) (p : Passing last at) where
    -- none follows: the texts end there, or the next can't be read
    pub passing_refused : (number place : ℕ) → text_at 0 s at ≡ refused number place
        → (bytes_of s last ≡ last_from s (first.offset + first.length) (bytes_of s first)) × Within s last
    unfolding last_text last_or
    passing_refused number place e = (
      by_order at (length s)
          (λ before. sym (going_refused last_text (text_at 0 s) (length s) whole at (bytes_of s last) before p.going number place e))
          (λ end. sym (going_end last_text (text_at 0 s) (length s) whole at (bytes_of s last) p.going end)),
      p.within,
    )

    module _ (next : Part) (e : text_at 0 s at ≡ answer (record { item = text_in s next.offset next.length; next = next.offset + next.length })) where
      pub passing_forward : (at < next.offset + next.length) × (next.offset + next.length ≤ length s) × (at < length s)
      unfolding text_in
      passing_forward =
          let placed = text⇒Placed 0 s at _ e in
          let a : at < next.offset = placed.forward in
          let within : next.offset + next.length ≤ length s = placed.within in
          (omega arith, within, omega arith)

      pub passing_more : Passing next (next.offset + next.length)
      unfolding last_text last_or text_in bytes_of Within
      passing_more =
          record {
            going = going_more last_text (text_at 0 s) (length s) whole at (bytes_of s last) passing_forward.2 p.going _ e passing_forward.0 (bytes_of s next)
                (λ more. refl);
            within = passing_forward.1;
          }
