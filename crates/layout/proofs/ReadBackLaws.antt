-- What is laid is read back: numbers, texts, entries and frames.
-- Assumes nothing.
use mathlib.Core.Path.{◌≡◌, sym, ap, ap₂, ◌∙◌}
use mathlib.Core.List.{List, ◌∷◌, ◌++◌}
use Prim.Native.Nat.{ℕ, ◌+◌, ◌-◌, ◌^◌, ◌<◌}
use native.Mathlib.Nat.{mod-eq_of_lt}
use native.Mathlib.Omega.{arith}
use lib.ListN.{length, length-append}
use borrow.Author.Tests.{eq-eqb}
use Rattle.byte_string.specs.Order.{AreBytes}
use Rattle.endian.specs.FixedWidth.{little_endian, little_bytes}
use Rattle.endian.proofs.FixedWidthLaws.{little_bytes-length, little_endian-little_bytes}
use Rattle.uleb128.specs.Encoding.{encoding}
use Rattle.uleb128.specs.Number.{reading}
use Rattle.uleb128.proofs.EncodingLaws.{encoding_some, encoding_reads}
use Rattle.crc64.specs.Crc64.{crc64}
use Rattle.crc64.proofs.Crc64Laws.{crc64_lt}
use Rattle.outcome.specs.Outcome.{answer}
use Rattle.outcome.proofs.OutcomeLaws.{bind_answer}
use Rattle.items.specs.declared.Step.{Step}
use Rattle.part.specs.Part.{part}
use Rattle.framing.specs.Frame.{read_as, number_at, frame_at, framed, crc_right, sound_frame_at}
use Rattle.framing.proofs.FrameLaws.{framed_found, sound_frame}
use Rattle.payload.specs.Payload.{text_at, entry_at, entry_sized}
use Rattle.payload.specs.Answers.{text_in}
use Rattle.payload.proofs.PayloadLaws.{text_found, entry_read}
use Rattle.layout.specs.Blocks.{text_bytes, block_bytes, block_size}
use Rattle.layout.specs.Index.{IndexEntry, entry_bytes}
use Rattle.layout.specs.Placed.{placed_text, placed_frame}
use Rattle.layout.proofs.LiesLaws.{Lies, lies_within, lies_drop, lies_part, lies_front, lies_back, lies_first}

-- ---- lengths

pub length_text : (t : List ℕ) → length (text_bytes t) ≡ length (encoding (length t)) + length t
unfolding text_bytes
length_text t = length-append (encoding (length t)) t

pub length_entry : (e : IndexEntry) → length (entry_bytes e) ≡ length (text_bytes e.key) + length (encoding e.offset) + length (encoding e.size)
unfolding entry_bytes
length_entry e = rw (length-append (text_bytes e.key), length-append (encoding e.offset)) (omega arith)

pub length_block : (level : ℕ) (payload : List ℕ) → length (block_bytes level payload) ≡ block_size (length payload)
unfolding block_bytes block_size
length_block level payload =
    rw (length-append (encoding (length payload + 1)), length-append (level ∷ payload), little_bytes-length 8 (crc64 (level ∷ payload))) (omega arith)

-- a text and an entry take at least a byte
pub text_some : (t : List ℕ) → 0 < length (text_bytes t)
text_some t = let long = length_text t in let some = encoding_some (length t) in omega arith

pub entry_some : (e : IndexEntry) → 0 < length (entry_bytes e)
entry_some e = let long = length_entry e in let some = text_some e.key in omega arith

-- ---- numbers and texts

pub number_back : (cut place : ℕ) (s : List ℕ) (at n : ℕ) → n < 2 ^ 63 → Lies s at (encoding n)
    → number_at cut place s at ≡ answer (record { item = n; next = at + length (encoding n) })
unfolding number_at read_as
number_back cut place s at n small l =
    ap (λ (z : List ℕ). read_as cut place at (reading z)) (lies_drop s at (encoding n) l) ∙ ap (read_as cut place at) (encoding_reads n l.after small)

pub text_back : (place : ℕ) (s : List ℕ) (at : ℕ) (t : List ℕ) → length t < 2 ^ 63 → Lies s at (text_bytes t)
    → text_at place s at ≡ answer (record { item = placed_text at t; next = at + length (text_bytes t) })
unfolding text_bytes placed_text text_in
text_back place s at t small l =
    let number = lies_front s at (encoding (length t)) t l in
    let bytes = lies_back s at (encoding (length t)) t l in
    let next = at + length (encoding (length t)) in
    text_found place s at (record { item = length t; next = next }) (number_back 15 place s at (length t) small number) (lies_within s next t bytes)
    ∙ ap₂ (λ (b : List ℕ) (n : ℕ). answer (record { item = record { at = next; bytes = b }; next = n })) (lies_part s next t bytes)
    (let long = length-append (encoding (length t)) t in omega arith)

-- ---- entries

pub entry_back : (place : ℕ) (s : List ℕ) (at : ℕ) (e : IndexEntry) → length e.key < 2 ^ 63 → e.offset < 2 ^ 63 → e.size < 2 ^ 63
    → Lies s at (entry_bytes e)
    → entry_at place s at
    ≡ answer (record { item = record { key = placed_text at e.key; offset = e.offset; size = e.size }; next = at + length (entry_bytes e) })
unfolding entry_bytes entry_sized
entry_back place s at e small offset size l =
    let key = text_bytes e.key in
    let numbers = lies_back s at key _ l in
    let second = at + length key in
    let third = second + length (encoding e.offset) in
    entry_read place s at (record { item = placed_text at e.key; next = second }) (record { item = e.offset; next = third })
    (text_back place s at e.key small (lies_front s at key _ l))
    (number_back 15 place s second e.offset offset (lies_front s second (encoding e.offset) _ numbers))
    ∙ bind_answer (number_at 15 place s third) _ _ (number_back 15 place s third e.size size (lies_back s second (encoding e.offset) _ numbers))
    ∙ ap (λ (n : ℕ). answer (record { item = record { key = placed_text at e.key; offset = e.offset; size = e.size }; next = n }))
    (let long = length_entry e in omega arith)

-- ---- frames

module _ (s : List ℕ) (at level : ℕ) (payload : List ℕ) (l : Lies s at (block_bytes level payload)) where
  -- where the level byte stands, and the payload after it
  pub body_lies : Lies s (at + length (encoding (length payload + 1))) ((level ∷ payload) ++ little_bytes 8 (crc64 (level ∷ payload)))
  unfolding block_bytes
  body_lies = lies_back s at (encoding (length payload + 1)) _ l

  pub frame_back : length payload + 1 < 2 ^ 63 → frame_at s at ≡ answer (placed_frame level at (length payload))
  unfolding frame_at placed_frame block_bytes block_size
  frame_back small =
      let E = encoding (length payload + 1) in
      let body = at + length E in
      let L : Step ℕ = record { item = length payload + 1; next = body } in
      let inside = lies_within s body _ body_lies in
      let long = length-append (level ∷ payload) (little_bytes 8 (crc64 (level ∷ payload))) in
      let eight = little_bytes-length 8 (crc64 (level ∷ payload)) in
      bind_answer (number_at 10 at s at) (framed s at) L (number_back 10 at s at (length payload + 1) small (lies_front s at E _ l))
      ∙ framed_found s at L (omega arith) (omega arith)
      ∙ ap₂ (λ (size lv : ℕ). answer (record { start = at; size = size; level = lv; body = body; end = body + (length payload + 1) }))
      (omega arith) (lies_first s body level _ body_lies)

  pub sound_frame_back : length payload + 1 < 2 ^ 63 → AreBytes (level ∷ payload) → sound_frame_at s at ≡ answer (placed_frame level at (length payload))
  unfolding placed_frame crc_right
  sound_frame_back small bytes =
      sound_frame s at (placed_frame level at (length payload)) (frame_back small)
      (eq-eqb _ _ (ap little_endian sum ∙ little_endian-little_bytes 8 crc ∙ mod-eq_of_lt (crc64_lt (level ∷ payload) bytes) ∙ ap crc64 (sym held)))
    where
      body : ℕ
      body = at + length (encoding (length payload + 1))

      crc : ℕ
      crc = crc64 (level ∷ payload)

      held : part s body (body + (length payload + 1) - body) ≡ level ∷ payload
      held = ap (part s body) (omega arith) ∙ lies_part s body (level ∷ payload) (lies_front s body (level ∷ payload) (little_bytes 8 crc) body_lies)

      sum : part s (body + (length payload + 1)) 8 ≡ little_bytes 8 crc
      sum =
          ap₂ (part s) (omega arith) (sym (little_bytes-length 8 crc))
          ∙ lies_part s (body + length (level ∷ payload)) (little_bytes 8 crc) (lies_back s body (level ∷ payload) (little_bytes 8 crc) body_lies)
