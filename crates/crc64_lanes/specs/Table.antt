-- The table of the CRC-64 register: 256 numbers, of which entry k is k taken through eight one-bit steps.
use Rattle.std.specs.Prelude.{Bool, true, ◌&&◌, List, [], ◌∷◌, ℕ, suc, eqb, length}
use Rattle.crc64_register.specs.Crc64.{bit_steps}

-- the test passes at each entry of the list and its place, counted from i
unfoldable pub every : (ℕ → ℕ → Bool) → ℕ → List ℕ → Bool
every test i [] = true
every test i (x ∷ xs) = test i x && every test (suc i) xs

-- x is the entry k
unfoldable pub is_entry : ℕ → ℕ → Bool
is_entry k x = eqb x (bit_steps 8 k)

-- the list is the table
unfoldable pub is_table : List ℕ → Bool
is_table t = eqb (length t) 256 && every is_entry 0 t
