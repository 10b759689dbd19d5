-- Bytes from one to another, both included, as a relation and as a test.
use Rattle.std.specs.Prelude.{ℕ, ◌≤◌, Bool, ◌&&◌, leb}

-- a byte from `low` to `high`
pub record In (low high byte : ℕ) : Type 0 where
  pub least : low ≤ byte
  pub most : byte ≤ high

-- whether it is one
abbrev pub within : (low high byte : ℕ) → Bool
within low high byte = leb low byte && leb byte high
