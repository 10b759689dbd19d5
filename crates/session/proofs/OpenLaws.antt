-- The open block in an output: where its level byte and payload stand, and the output with a longer one in its place.
-- Assumes nothing.
use mathlib.Core.Path.{◌≡◌, sym, ap, ◌∙◌}
use mathlib.Core.List.{List, [], ◌∷◌, ◌++◌, flat_map, append_assoc, append-nil}
use Prim.Native.Nat.{ℕ, zero, suc, ◌+◌, ◌-◌, ◌≤◌, ◌<◌}
use native.Mathlib.Omega.{arith}
use lib.ListN.{length, take, drop, length-append}
use lib.Seq.{take-append_seam, drop-append-add}
use Rattle.lists.proofs.ListsLaws.{flat_map_append}
use Rattle.part.specs.Part.{part}
use Rattle.output_list.specs.OutputList.{padded, zeros}
use Rattle.output_list.proofs.OutputListLaws.{zeros-replicate, padded-append, length-padded}
use Rattle.output_bytes.specs.OutputBytes.{stored}
use Rattle.output_bytes.proofs.OutputBytesLaws.{stored_some, drop-zeros}
use Rattle.uleb128.specs.Encoding.{encoding, encoding_with}
use Rattle.uleb128.proofs.EncodingLaws.{encoding_grows}
use Rattle.layout.specs.Blocks.{text_bytes, block_bytes, block_size, records_bytes, data_bytes}
use Rattle.layout.specs.File.{unfinished_header}
use Rattle.layout.proofs.HeaderBackLaws.{length_unfinished}
use Rattle.layout.proofs.LiesLaws.{lies, lies_part, lies_front}
use Rattle.layout.proofs.ReadBackLaws.{length_block, body_lies}
use Rattle.file_encoder.specs.Begun.{begun_file}
use Rattle.session_value.specs.Stage.{Draft, begun, open_block, draft_blocks}
use Rattle.session_value.specs.Steps.{add_open}
use Rattle.session_value.specs.Held.{session_of}
use Rattle.session_value.proofs.DraftLaws.{blocks_add_open, records_bytes_snoc}

-- bytes stored over the last of what stands, no shorter than that
stored_longer : (room : ℕ) (x y s : List ℕ) → length y ≤ length s → length x + length s ≤ room → stored (padded room (x ++ y)) (length x) s ≡ padded room (x ++ s)
stored_longer room x y s h k =
    let xy = length-append x y in
    rw (
      stored_some (padded room (x ++ y)) (length x) s (rw (length-padded room (x ++ y) (omega arith)) k),
      padded-append room (x ++ y),
      padded-append room (x ++ s),
      append_assoc x y (zeros (room - length (x ++ y))),
      take-append_seam x (y ++ zeros (room - length (x ++ y))),
      drop-append-add x (y ++ zeros (room - length (x ++ y))) (length s),
      append_assoc x s (zeros (room - length (x ++ s))),
    ) (ap (λ (l : List ℕ). x ++ (s ++ l)) behind)
  where
    behind : drop (length s) (y ++ zeros (room - length (x ++ y))) ≡ zeros (room - length (x ++ s))
    behind =
        let xy = length-append x y in
        let xs = length-append x s in
        ap (λ (n : ℕ). drop n (y ++ zeros (room - length (x ++ y)))) (let sum : length s ≡ length y + (length s - length y) = omega arith in sum)
        ∙ drop-append-add y (zeros (room - length (x ++ y))) (length s - length y)
        ∙ drop-zeros (length s - length y) (room - length (x ++ y))
        ∙ ap zeros (let same : room - length (x ++ y) - (length s - length y) ≡ room - length (x ++ s) = omega arith in same)

first_zero : (n : ℕ) → 0 < n → take 1 (zeros n) ≡ 0 ∷ []
first_zero zero h = absurd (omega arith)
first_zero (suc n) h = ap (take 1) (zeros-replicate (suc n))

-- a block with one record more is no shorter
shorter : (rs : List (List ℕ)) (r : List ℕ) → length (flat_map data_bytes (open_block rs)) ≤ length (block_bytes 0 (records_bytes rs ++ text_bytes r))
unfolding open_block flat_map data_bytes block_size
shorter [] r = omega arith
shorter (x ∷ xs) r =
    let p = records_bytes (x ∷ xs) in
    let old = ap length (append-nil (block_bytes 0 p)) ∙ length_block 0 p in
    let new = length_block 0 (p ++ text_bytes r) in
    let sum = length-append p (text_bytes r) in
    let grows = encoding_grows (length p + 1) (length (p ++ text_bytes r) + 1) (omega arith) in
    omega arith

-- ---- the open block of a draft

module _ (d : Draft) (output : List ℕ) (stands : output ≡ begun_file (length output) d.metadata (draft_blocks d)) where
  -- what stands before it
  abbrev X : List ℕ
  X = unfinished_header d.metadata ++ flat_map data_bytes d.closed

  abbrev start : ℕ
  start = (session_of (begun d)).start

  abbrev payload : List ℕ
  payload = records_bytes d.current

  pub start_is : length X ≡ (session_of (begun d)).start
  unfolding session_of
  start_is = length-append (unfinished_header d.metadata) (flat_map data_bytes d.closed)
      ∙ ap (λ (n : ℕ). n + length (flat_map data_bytes d.closed)) (length_unfinished d.metadata)

  parts : output ≡ padded (length output) (X ++ flat_map data_bytes (open_block d.current))
  unfolding begun_file draft_blocks
  parts =
      stands
      ∙ ap (λ (l : List ℕ). padded (length output) (unfinished_header d.metadata ++ l)) (flat_map_append data_bytes d.closed (open_block d.current))
      ∙ ap (padded (length output)) (sym (append_assoc (unfinished_header d.metadata) (flat_map data_bytes d.closed) (flat_map data_bytes (open_block d.current))))

  -- of a block that isn't begun the level byte is a zero behind what stands
  zeros_behind : start + 10 ≤ length output → output ≡ padded (length output) (X ++ []) → part output (start + 1) 1 ≡ 0 ∷ []
  unfolding part
  zeros_behind h e =
      let k = length output - length (X ++ []) in
      let none = append-nil X in
      let long = start_is in
      let same = ap length none in
      ap (λ (o : List ℕ). take 1 (drop (start + 1) o)) (e ∙ padded-append (length output) (X ++ []) ∙ ap (λ (l : List ℕ). l ++ zeros k) none)
      ∙ ap (λ (n : ℕ). take 1 (drop (n + 1) (X ++ zeros k))) (sym start_is)
      ∙ ap (take 1) (drop-append-add X (zeros k) 1 ∙ drop-zeros 1 k)
      ∙ first_zero (k - 1) (omega arith)

  -- its level byte and its payload
  pub body_stands : start + 10 ≤ length output
      → part output (start + length (encoding (length (records_bytes d.current) + 1))) (length (records_bytes d.current) + 1)
      ≡ 0 ∷ records_bytes d.current
  unfolding open_block records_bytes flat_map encoding encoding_with data_bytes
  body_stands h = go d.current parts
    where
      go : (rs : List (List ℕ)) → output ≡ padded (length output) (X ++ flat_map data_bytes (open_block rs))
          → part output (start + length (encoding (length (records_bytes rs) + 1))) (length (records_bytes rs) + 1) ≡ 0 ∷ records_bytes rs
      go [] e = zeros_behind h e
      go (r ∷ rs) e =
          let all = flat_map data_bytes (open_block (r ∷ rs)) in
          let l = lies output X (data_bytes (r ∷ rs)) (zeros (length output - length (X ++ all))) start
          (e ∙ padded-append (length output) (X ++ all) ∙ append_assoc X all _ ∙ ap (λ (z : List ℕ). X ++ (z ++ zeros (length output - length (X ++ all)))) (append-nil (data_bytes (r ∷ rs))))
          (sym start_is) in
          ap (part output (start + length (encoding (length (records_bytes (r ∷ rs)) + 1)))) (let sum : length (records_bytes (r ∷ rs)) + 1 ≡ length (0 ∷ records_bytes (r ∷ rs)) = omega arith in sum)
          ∙ lies_part output _ (0 ∷ records_bytes (r ∷ rs)) (lies_front output _ (0 ∷ records_bytes (r ∷ rs)) _ (body_lies output start 0 (records_bytes (r ∷ rs)) l))

  -- the output with one record more in it
  pub open_longer : (r : List ℕ) → start + block_size (length (records_bytes d.current) + length (text_bytes r)) ≤ length output
      → stored output start (block_bytes 0 (records_bytes d.current ++ text_bytes r)) ≡ begun_file (length output) d.metadata (draft_blocks (add_open d r))
  unfolding begun_file add_open data_bytes flat_map
  open_longer r h =
      let Z = block_bytes 0 (records_bytes d.current ++ text_bytes r) in
      let Y = flat_map data_bytes (open_block d.current) in
      let long : length Z ≡ block_size (length (records_bytes d.current) + length (text_bytes r)) =
      length_block 0 (records_bytes d.current ++ text_bytes r) ∙ ap block_size (length-append (records_bytes d.current) (text_bytes r)) in
      let at = start_is in
      ap (λ (o : List ℕ). stored o start Z) parts ∙ ap (λ (n : ℕ). stored (padded (length output) (X ++ Y)) n Z) (sym start_is)
      ∙ stored_longer (length output) X Y Z (shorter d.current r) (omega arith)
      ∙ ap (padded (length output)) (append_assoc (unfinished_header d.metadata) (flat_map data_bytes d.closed) Z
      ∙ ap (λ (l : List ℕ). unfinished_header d.metadata ++ l) last)
    where
      last : flat_map data_bytes d.closed ++ block_bytes 0 (records_bytes d.current ++ text_bytes r) ≡ flat_map data_bytes (draft_blocks (add_open d r))
      last =
          ap (λ (l : List ℕ). flat_map data_bytes d.closed ++ block_bytes 0 l) (sym (records_bytes_snoc d.current r))
          ∙ ap (λ (l : List ℕ). flat_map data_bytes d.closed ++ l) (sym (append-nil (data_bytes (d.current ++ (r ∷ [])))))
          ∙ sym (flat_map_append data_bytes d.closed ((d.current ++ (r ∷ [])) ∷ [])) ∙ ap (flat_map data_bytes) (sym (blocks_add_open d r))
