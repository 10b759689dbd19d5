-- Laws of putting a record into the open block: what fits, and what stands after each step.
-- Assumes nothing.
use mathlib.Core.Path.{◌≡◌, sym, ap, ◌∙◌}
use mathlib.Core.List.{List, ◌∷◌, ◌++◌, append_assoc}
use Prim.Native.Nat.{ℕ, ◌+◌, ◌-◌, ◌≤◌}
use native.Mathlib.Omega.{arith}
use lib.ListN.{length, take, drop, length-append}
use Rattle.part.specs.Part.{part}
use Rattle.part.proofs.PartLaws.{length_part}
use Rattle.endian.specs.FixedWidth.{little_bytes}
use Rattle.endian.proofs.FixedWidthLaws.{little_bytes-length}
use Rattle.uleb128.specs.Encoding.{encoding}
use Rattle.uleb128.proofs.EncodingLaws.{encoding_grows}
use Rattle.crc64.specs.Crc64.{register_start, register, crc_of, crc64}
use Rattle.crc64.proofs.Crc64Laws.{crc64-append}
use Rattle.output_bytes.specs.OutputBytes.{stored, stored_length, copied}
use Rattle.output_bytes.proofs.OutputBytesLaws.{length-stored, stored-append, stored_prepend, stored-after, stored_whole, part-stored}
use Rattle.output_bytes.proofs.CopyLaws.{copied_some}
use Rattle.layout.specs.Blocks.{text_bytes, block_bytes, block_size}
use Rattle.layout.proofs.ReadBackLaws.{length_text}

-- the parts of a block one after the other: number, level byte and old payload, new record, CRC
block_parts : (known text crc : List ℕ) (value : ℕ) → value ≡ length (known ++ text) + 1 → crc ≡ little_bytes 8 (crc64 (0 ∷ (known ++ text)))
    → ((encoding value ++ (0 ∷ known)) ++ text) ++ crc ≡ block_bytes 0 (known ++ text)
unfolding block_bytes
block_parts known text crc value l e =
    rw (
      l,
      e,
      append_assoc (encoding (length (known ++ text) + 1)) (0 ∷ known) text,
      append_assoc (encoding (length (known ++ text) + 1)) ((0 ∷ known) ++ text) (little_bytes 8 (crc64 (0 ∷ (known ++ text)))),
    )

module _ (o : List ℕ) (start payload : ℕ) (s : List ℕ) (fits : start + block_size (payload + length (text_bytes s)) ≤ length o) where
  module _ {number : ℕ} (en : number ≡ length (encoding (length s))) where
    -- the length of the record with its number
    abbrev text : ℕ
    text = number + length s

    text_long : text ≡ length (text_bytes s)
    text_long = ap (λ (n : ℕ). n + length s) en ∙ sym (length_text s)

    -- what fits, before the width of the block's number is known
    pub room_text : start + (payload + text) + 9 ≤ length o
    unfolding block_size
    room_text = let long = text_long in omega arith

    module _ (value : ℕ) {width : ℕ} (ew : width ≡ length (encoding value)) (ev : value ≡ payload + text + 1) where
      pub room_block : start + width + (payload + text) + 9 ≤ length o
      unfolding block_size
      room_block =
          let long = text_long in
          let same = ew ∙ ap (λ (n : ℕ). length (encoding n)) (ev ∙ ap (λ (n : ℕ). payload + n + 1) long) in
          omega arith

      module _ {old : ℕ} (eo : old ≡ length (encoding (payload + 1))) where
        -- the number only grows
        pub old_less : old ≤ width
        old_less = let grows = encoding_grows (payload + 1) value (omega arith) in omega arith

        -- level byte and payload, as they stand
        abbrev body : List ℕ
        body = part o (start + old) (payload + 1)

        body_long : length body ≡ payload + 1
        body_long = let room = room_block in let less = old_less in length_part o (start + old) (payload + 1) (omega arith)

        abbrev front : List ℕ
        front = encoding value ++ body

        front_long : length front ≡ width + (payload + 1)
        front_long = let long = length-append (encoding value) body in let tail = body_long in omega arith

        module _ (from to again : ℕ) {o1 o2 : List ℕ} (e1 : o1 ≡ copied o from (payload + 1) to) (e2 : o2 ≡ stored o1 start (encoding again))
            (ef : from ≡ start + old) (et : to ≡ start + width) (ea : again ≡ value) where
          -- the payload moved, and the number before it
          put_front : o2 ≡ stored o start front
          put_front =
              let room = room_block in
              let less = old_less in
              let tail = body_long in
              let moved : o1 ≡ stored o (start + length (encoding value)) body =
              e1 ∙ copied_some o from (payload + 1) to (omega arith) (omega arith) ∙ ap (λ (n : ℕ). stored o n (part o from (payload + 1))) (omega arith)
              ∙ ap (λ (n : ℕ). stored o (start + length (encoding value)) (part o n (payload + 1))) ef in
              e2 ∙ ap (λ (n : ℕ). stored o1 start (encoding n)) ea ∙ ap (λ z. stored z start (encoding value)) moved
              ∙ stored_prepend o start (encoding value) body (omega arith)

          long_2 : length o2 ≡ length o
          long_2 = ap length put_front ∙ length-stored o start front

          module _ (at : ℕ) {put : ℕ} (ep : put ≡ stored_length o2 at (encoding (length s))) (ek : at ≡ start + width + 1 + payload) where
            -- all bytes of the record's number
            pub number_put : put ≡ number
            number_put =
                let room = room_block in
                let long = long_2 in
                stored_whole o2 at (encoding (length s)) (omega arith) ep ∙ sym en

            module _ {o3 o4 : List ℕ} (e3 : o3 ≡ stored o2 at (encoding (length s))) (e4 : o4 ≡ stored o3 (at + put) s) where
              -- the record behind them
              put_text : o4 ≡ stored o start (front ++ text_bytes s)
              unfolding text_bytes
              put_text =
                  let room = room_block in
                  let long = front_long in
                  let same = number_put in
                  let sum = length-append front (encoding (length s)) in
                  let one : o3 ≡ stored o start (front ++ encoding (length s)) =
                  stored-after o start front (encoding (length s)) (omega arith) put_front (omega arith) e3 in
                  stored-after o start (front ++ encoding (length s)) s (omega arith) one (omega arith) e4
                  ∙ ap (stored o start) (append_assoc front (encoding (length s)) s)

              module _ (end before : ℕ) {more : ℕ} (em : more ≡ register before (take (end - at) (drop at o4))) (ee : end ≡ at + text) where
                -- the lent part is the record
                lent_text : take (end - at) (drop at o4) ≡ text_bytes s
                lent_text =
                    let room = room_block in
                    let long = front_long in
                    let counted = text_long in
                    let here : at ≡ start + length front = omega arith in
                    let sum : end - at ≡ length (text_bytes s) = omega arith in
                    let same : o4 ≡ stored (stored o start front) (start + length front) (text_bytes s) =
                    put_text ∙ sym (stored-append o start front (text_bytes s) (omega arith)) in
                    rw (sum, here, same)
                    (part-stored (stored o start front) (start + length front) (text_bytes s) (omega (arith, length-stored o start front)))

                pub put-register : more ≡ register before (text_bytes s)
                put-register = em ∙ ap (register before) lent_text

                module _ {crc o5 : List ℕ} (ec : crc ≡ little_bytes 8 (crc_of more)) (e5 : o5 ≡ stored o4 end crc) where
                  -- the CRC of all, and the whole block
                  pub put_block : (known : List ℕ) → length known ≡ payload → part o (start + length (encoding (payload + 1))) (payload + 1) ≡ 0 ∷ known
                      → before ≡ register register_start (0 ∷ known) → o5 ≡ stored o start (block_bytes 0 (known ++ text_bytes s))
                  put_block known long stands gone =
                      let room = room_block in
                      let wide = front_long in
                      let counted = text_long in
                      let all = length-append front (text_bytes s) in
                      let eight : length crc ≡ 8 = ap length ec ∙ little_bytes-length 8 (crc_of more) in
                      let held : body ≡ 0 ∷ known = ap (λ (n : ℕ). part o (start + n) (payload + 1)) eo ∙ stands in
                      let sum : crc ≡ little_bytes 8 (crc64 (0 ∷ (known ++ text_bytes s))) =
                      ec ∙ ap (λ (r : ℕ). little_bytes 8 (crc_of r)) (put-register ∙ ap (λ (r : ℕ). register r (text_bytes s)) gone)
                      ∙ ap (little_bytes 8) (sym (crc64-append (0 ∷ known) (text_bytes s))) in
                      let longer : value ≡ length (known ++ text_bytes s) + 1 = rw (length-append known (text_bytes s)) (omega arith) in
                      stored-after o start (front ++ text_bytes s) crc (omega arith) put_text (omega arith) e5
                      ∙ ap (λ (l : List ℕ). stored o start (((encoding value ++ l) ++ text_bytes s) ++ crc)) held
                      ∙ ap (stored o start) (block_parts known (text_bytes s) crc value longer sum)
