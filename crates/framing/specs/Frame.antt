-- The frame of a block: a number L, then L bytes (the level byte and the payload), then the CRC of those L bytes.
use Rattle.std.specs.Prelude.{ℕ, ◌+◌, ◌-◌, Bool, List, leb, eqb, length, drop, get_or}
use Rattle.uleb128.specs.Number.{Reading, number, cut_off, reading}
use Rattle.uleb128.specs.Number.{refused as badNumber}
use Rattle.endian.specs.FixedWidth.{little_endian}
use Rattle.crc64.specs.Crc64.{crc64}
use Rattle.outcome.specs.Outcome.{Outcome, answer, refused, ◌>>=◌, ◌>>◌, must}
use Rattle.items.specs.declared.Step.{Step}
use Rattle.part.specs.Part.{part}
use Rattle.framing.specs.declared.Frame.{Frame}

-- level 0 is data, 1 to 63 index; both are ordinary, and higher levels are reserved
unfoldable pub is_data : ℕ → Bool
is_data level = eqb level 0

unfoldable pub is_ordinary : ℕ → Bool
is_ordinary level = leb level 63

-- a number that was read, as a step: its value, and where it ends
unfoldable pub read_as : (cut place at : ℕ) → Reading → Outcome (Step ℕ)
read_as cut place at (number value used) = answer (record { item = value; next = at + used })
read_as cut place at cut_off = refused cut place
read_as cut place at (badNumber n) = refused n place

-- The number at `at` in s, which ends with s. A number that is cut off gets the refusal `cut`; refusals have this place.
unfoldable pub number_at : (cut place : ℕ) (s : List ℕ) (at : ℕ) → Outcome (Step ℕ)
number_at cut place s at = read_as cut place at (reading (drop at s))

-- The frame at an offset whose number L has been read: 13, 10. `body` is where the L bytes begin and `end` where they end; `size`
-- is the full size.
unfoldable pub framed : List ℕ → ℕ → Step ℕ → Outcome Frame
framed file at L = do
  must (leb 1 L.item) 13 at
  must (leb (L.next + L.item + 8) (length file)) 10 at
  answer
      (record {
        start = at;
        size = L.next + L.item + 8 - at;
        level = get_or file L.next 0;
        body = L.next;
        end = L.next + L.item;
      })

-- the frame at an offset, apart from its CRC: the number (10, 11, 12), 13, 10
unfoldable pub frame_at : List ℕ → ℕ → Outcome Frame
frame_at file at = number_at 10 at file at >>= framed file at

-- the CRC after the bytes from `body` to `end` is theirs
unfoldable pub crc_right : List ℕ → (body end : ℕ) → Bool
crc_right file body end = eqb (little_endian (part file end 8)) (crc64 (part file body (end - body)))

-- the frame at an offset with its CRC (14)
unfoldable pub sound_frame_at : List ℕ → ℕ → Outcome Frame
sound_frame_at file at = do
  f ← frame_at file at
  must (crc_right file f.body f.end) 14 at
  answer f
