-- A store: bytes, and the offset of a file where they go. What a file holds after stores that arrive in order.
use Rattle.std.specs.Prelude.{ℕ, zero, suc, ◌+◌, List, [], ◌∷◌, ◌++◌, length, take, drop}
use Rattle.output_list.specs.OutputList.{padded}

pub record Store : Type 0 where
  pub offset : ℕ
  pub bytes : List ℕ

-- bytes over those of a file from `at` on; where the file is shorter, zeros up to there
unfoldable pub overwritten : (file : List ℕ) (at : ℕ) (bytes : List ℕ) → List ℕ
overwritten file at [] = file
overwritten file at (b ∷ bs) = take at (padded at file) ++ ((b ∷ bs) ++ drop (at + length (b ∷ bs)) file)

-- a store carried out on a file
unfoldable pub carry_out : (file : List ℕ) → Store → List ℕ
carry_out file s = overwritten file s.offset s.bytes

-- stores carried out one after the other
unfoldable pub carry_out_all : (file : List ℕ) → List Store → List ℕ
carry_out_all file [] = file
carry_out_all file (s ∷ ss) = carry_out_all (carry_out file s) ss

-- what has arrived at a cut: so many whole stores, and so many bytes of the next
unfoldable pub cut : (whole bytes : ℕ) → List Store → List Store
cut whole bytes [] = []
cut zero bytes (s ∷ ss) = record { offset = s.offset; bytes = take bytes s.bytes } ∷ []
cut (suc whole) bytes (s ∷ ss) = s ∷ cut whole bytes ss
