-- The numbers that blocks are refused with: 10 to 16, and 21.
-- Assumes nothing.
use mathlib.Core.Path.{◌≡◌, refl}
use mathlib.Core.Logic.{◌⊎◌, inl, inr}
use mathlib.Core.Bool.{true}
use mathlib.Core.List.{List}
use Prim.Native.Nat.{ℕ, ◌≤◌}
use lib.Dec.{leb}
use borrow.Author.Tests.{leb-true}
use Rattle.framing.specs.declared.Frame.{Frame}
use Rattle.framing.specs.Frame.{sound_frame_at}
use Rattle.block.specs.Block.{block_in, blocks_at}
use Rattle.outcome.proofs.RefusalLaws.{Refuses}
use Rattle.block.proofs.RefusalLaws.{frame_refuses, inside_refuses, blocks_refuses}

abbrev pub BlockNumber : ℕ → Type 0
BlockNumber n = ((10 ≤ n) × (n ≤ 16)) ⊎ (n ≡ 21)

between : (n : ℕ) → leb 10 n ≡ true → leb n 16 ≡ true → BlockNumber n
between n low high = inl (leb-true 10 n low, leb-true n 16 high)

-- a frame
pub frame_numbers : (file : List ℕ) (at : ℕ) → Refuses BlockNumber (sound_frame_at file at)
frame_numbers =
    frame_refuses BlockNumber (between 10 refl refl) (between 11 refl refl) (between 12 refl refl) (between 13 refl refl)
    (between 14 refl refl) (between 15 refl refl) (between 16 refl refl) (inr refl)

-- its payload
pub inside_numbers : (file : List ℕ) (f : Frame) → Refuses BlockNumber (block_in file f)
inside_numbers =
    inside_refuses BlockNumber (between 10 refl refl) (between 11 refl refl) (between 12 refl refl) (between 13 refl refl)
    (between 14 refl refl) (between 15 refl refl) (between 16 refl refl) (inr refl)

-- all blocks from an offset on
pub blocks_numbers : (file : List ℕ) (at : ℕ) → Refuses BlockNumber (blocks_at file at)
blocks_numbers =
    blocks_refuses BlockNumber (between 10 refl refl) (between 11 refl refl) (between 12 refl refl) (between 13 refl refl)
    (between 14 refl refl) (between 15 refl refl) (between 16 refl refl) (inr refl)
