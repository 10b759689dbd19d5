-- The payload of a block that is laid, and its first text.
-- Assumes nothing.
use mathlib.Core.Path.{◌≡◌, ap, ◌∙◌, subst}
use mathlib.Core.List.{List, [], ◌∷◌, ◌++◌, flat_map, append_assoc}
use Prim.Native.Nat.{ℕ, ◌+◌, ◌^◌, ◌<◌}
use native.Mathlib.Omega.{arith}
use lib.ListN.{length, take, length-append}
use Rattle.endian.specs.FixedWidth.{little_bytes}
use Rattle.uleb128.specs.Encoding.{encoding}
use Rattle.crc64.specs.Crc64.{crc64}
use Rattle.outcome.specs.Outcome.{answer}
use Rattle.items.specs.declared.Step.{Step}
use Rattle.payload.specs.Payload.{Text, text_at}
use Rattle.layout.specs.Blocks.{text_bytes, block_bytes}
use Rattle.layout.specs.Index.{IndexEntry, entry_bytes, first_key}
use Rattle.layout.specs.Placed.{placed_text, placed_frame}
use Rattle.layout.proofs.LiesLaws.{Lies, lies_front, lies_back, lies_take}
use Rattle.layout.proofs.ReadBackLaws.{body_lies, text_back, length_text}

-- the payload lies between the level byte and the end of the frame, also in what comes before that end
pub payload_lies : (s : List ℕ) (at level : ℕ) (payload : List ℕ) → Lies s at (block_bytes level payload)
    → Lies (take (placed_frame level at (length payload)).end s) ((placed_frame level at (length payload)).body + 1) payload
unfolding placed_frame
payload_lies s at level payload l =
    let body = at + length (encoding (length payload + 1)) in
    let held = lies_front s body (level ∷ payload) (little_bytes 8 (crc64 (level ∷ payload))) (body_lies s at level payload l) in
    lies_take s (body + 1) payload (body + (length payload + 1)) (omega arith) (lies_back s body (level ∷ []) payload held)

-- the first text, as a step
unfoldable pub first_text : (level at payload : ℕ) → List ℕ → Step Text
first_text level at payload key =
    let from = (placed_frame level at payload).body + 1 in
    record { item = placed_text from key; next = from + length (text_bytes key) }

module _ (s : List ℕ) (at level : ℕ) (payload key rest : List ℕ) (begins : payload ≡ text_bytes key ++ rest) (small : length payload + 1 < 2 ^ 63)
    (l : Lies s at (block_bytes level payload)) where
  pub first_back : (place : ℕ)
      → text_at place (take (placed_frame level at (length payload)).end s) ((placed_frame level at (length payload)).body + 1)
      ≡ answer (first_text level at (length payload) key)
  unfolding first_text
  first_back place =
      let long = ap length begins ∙ length-append (text_bytes key) rest in
      let text = length_text key in
      text_back place _ _ key (omega arith)
      (lies_front _ _ (text_bytes key) rest (subst (Lies _ _) begins (payload_lies s at level payload l)))

-- an index block begins with its first key
pub entries_begin : (es : List IndexEntry) → 0 < length es → (rest : List ℕ) × (flat_map entry_bytes es ≡ text_bytes (first_key es) ++ rest)
unfolding flat_map entry_bytes first_key
entries_begin [] h = absurd (omega arith)
entries_begin (e ∷ es) h = ((encoding e.offset ++ encoding e.size) ++ flat_map entry_bytes es, append_assoc (text_bytes e.key) _ _)
