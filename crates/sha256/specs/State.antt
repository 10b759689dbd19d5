-- A hash that is being computed piece by piece: what each step makes of a state, of any state.
use Rattle.std.specs.Prelude.{ℕ, ◌+◌, ◌-◌, ◌*◌, ◌/◌, ◌%◌, ◌^◌, List, [], ◌++◌, length, take, drop, replicate}
use Rattle.sha256.specs.declared.State.{State}
use Rattle.sha256_block.specs.Compression.{over}
use Rattle.sha256.specs.Sha256.{initial, digest, padding}

-- nothing absorbed yet
unfoldable pub begun : State
begun = record { hash = initial; partial = replicate 64 0; count = 0 }

-- the bytes that are kept until a block is full
unfoldable pub pending : State → List ℕ
pending s = take (s.count % 64) s.partial

-- what is left of a byte string after its whole blocks
unfoldable pub remainder : List ℕ → List ℕ
remainder s = drop (length s / 64 * 64) s

-- the state after a piece more: whole blocks go into the hash value, the remainder is kept, with zeros after
unfoldable pub absorbed : State → List ℕ → State
absorbed s piece =
    let all = pending s ++ piece in
    let kept = remainder all in
    record {
      hash = over s.hash all;
      partial = kept ++ replicate (64 - length kept) 0;
      count = (s.count + length piece) % 2 ^ 64;
    }

-- the digest that a state gives
unfoldable pub finished : State → List ℕ
finished s = digest (over s.hash (pending s ++ padding s.count))

-- s is the state after pieces that make up the message, absorbed one after the other
pub data Holds : List ℕ → State → Type 0 where
  none : Holds [] begun
  more : {m : List ℕ} {s : State} → Holds m s → (piece : List ℕ) → Holds (m ++ piece) (absorbed s piece)
