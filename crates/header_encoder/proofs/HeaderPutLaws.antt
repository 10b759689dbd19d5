-- Laws of putting a header: its parts side by side, and those that are put over others.
-- Assumes nothing.
use mathlib.Core.Path.{◌≡◌, refl, sym, ap, ◌∙◌}
use mathlib.Core.Bool.{true, false}
use mathlib.Core.List.{List, [], ◌++◌, append_assoc, append-nil}
use Prim.Native.Nat.{ℕ, ◌+◌, ◌-◌, ◌≤◌, ◌<◌}
use native.Mathlib.Omega.{arith}
use lib.ListN.{length, replicate, take, drop, length-append}
use lib.Seq.{take_at, drop_at}
use Rattle.endian.specs.FixedWidth.{little_bytes}
use Rattle.endian.proofs.FixedWidthLaws.{little_bytes-length}
use Rattle.crc64.specs.Crc64.{crc64}
use Rattle.header.specs.Header.{magic, unfinished_magic, codec_none}
use Rattle.output_bytes.specs.OutputBytes.{bytes_fit, stored}
use Rattle.output_bytes.proofs.OutputBytesLaws.{stored-after, stored-over, fits_some, put_none}
use Rattle.layout.specs.File.{header_data, header_bytes, unfinished_header, blocks_start}
use Rattle.layout.proofs.HeaderBackLaws.{length-header_data, length_unfinished}

unfinished_long : (metadata : List ℕ) → length (unfinished_header metadata) ≡ 104 + length metadata
unfolding blocks_start
unfinished_long metadata = length_unfinished metadata

-- ---- the parts of a header

-- what is put over later: root offset, root length, total length and hash
abbrev fields : (root rootsize total : ℕ) (hash : List ℕ) → List ℕ
fields root rootsize total hash = little_bytes 8 root ++ (little_bytes 8 rootsize ++ (little_bytes 8 total ++ hash))

-- what stays: codec, metadata length and metadata
abbrev kept : (metadata : List ℕ) → List ℕ
kept metadata = codec_none ++ (little_bytes 8 (length metadata) ++ metadata)

-- magic, length, fields, what stays and CRC side by side, and what follows
abbrev joined : (m e f k c rest : List ℕ) → List ℕ
joined m e f k c rest = m ++ (e ++ (f ++ (k ++ (c ++ rest))))

regroup : (m e f k c rest : List ℕ) → (m ++ (e ++ ((f ++ k) ++ c))) ++ rest ≡ joined m e f k c rest
regroup m e f k c rest = simp append_assoc refl

data_parts : (metadata : List ℕ) (root rootsize total : ℕ) (hash : List ℕ)
    → header_data metadata root rootsize total hash ≡ fields root rootsize total hash ++ kept metadata
unfolding header_data
data_parts metadata root rootsize total hash = sym (simp append_assoc refl)

no_fields : fields 0 0 0 (replicate 32 0) ≡ replicate 56 0
unfolding little_bytes
no_fields = refl

unfinished_parts : (metadata rest : List ℕ)
    → unfinished_header metadata ++ rest ≡ joined unfinished_magic (little_bytes 8 (80 + length metadata)) (replicate 56 0) (kept metadata) (replicate 8 0) rest
unfolding unfinished_header
unfinished_parts metadata rest =
    rw (length-header_data metadata 0 0 0 (replicate 32 0) refl, data_parts metadata 0 0 0 (replicate 32 0), no_fields)
    (regroup unfinished_magic (little_bytes 8 (80 + length metadata)) (replicate 56 0) (kept metadata) (replicate 8 0) rest)

finished_parts : (metadata : List ℕ) (root rootsize total : ℕ) (hash rest : List ℕ) → length hash ≡ 32
    → header_bytes (header_data metadata root rootsize total hash) ++ rest
    ≡ joined magic (little_bytes 8 (80 + length metadata)) (fields root rootsize total hash) (kept metadata)
    (little_bytes 8 (crc64 (fields root rootsize total hash ++ kept metadata))) rest
unfolding header_bytes
finished_parts metadata root rootsize total hash rest long =
    rw (length-header_data metadata root rootsize total hash long, data_parts metadata root rootsize total hash)
    (regroup magic (little_bytes 8 (80 + length metadata)) (fields root rootsize total hash) (kept metadata)
    (little_bytes 8 (crc64 (fields root rootsize total hash ++ kept metadata))) rest)

-- ---- what `begin_header` answers

pub begin_full : (o metadata : List ℕ) → length o < 104 + length metadata
    → (false ≡ bytes_fit o 0 (unfinished_header metadata)) × (o ≡ stored o 0 (unfinished_header metadata))
begin_full o metadata k = put_none o 0 (unfinished_header metadata) (rw (unfinished_long metadata) (omega arith))

-- magic, length, zeros, codec, metadata length, metadata and zeros one after the other
pub begin_stored : (o metadata : List ℕ) → 104 + length metadata ≤ length o → {e l : List ℕ} → e ≡ little_bytes 8 (80 + length metadata)
    → l ≡ little_bytes 8 (length metadata) → {o1 o2 o3 o4 o5 o6 o7 : List ℕ} → o1 ≡ stored o 0 unfinished_magic → o2 ≡ stored o1 8 e
    → o3 ≡ stored o2 16 (replicate 56 0) → o4 ≡ stored o3 72 codec_none → o5 ≡ stored o4 88 l → o6 ≡ stored o5 96 metadata
    → o7 ≡ stored o6 (96 + length metadata) (replicate 8 0)
    → (true ≡ bytes_fit o 0 (unfinished_header metadata)) × (o7 ≡ stored o 0 (unfinished_header metadata))
unfolding unfinished_magic codec_none
begin_stored o metadata h {e} {l} ee el e1 e2 e3 e4 e5 e6 e7 =
    let m = unfinished_magic in
    let z = replicate {A = ℕ} 56 0 in
    let k = codec_none in
    let le : length e ≡ 8 = ap length ee ∙ little_bytes-length 8 (80 + length metadata) in
    let ll : length l ≡ 8 = ap length el ∙ little_bytes-length 8 (length metadata) in
    let me = length-append m e in
    let mez = length-append (m ++ e) z in
    let mezk = length-append (m ++ e ++ z) k in
    let mezkl = length-append (m ++ e ++ z ++ k) l in
    let all = length-append (m ++ e ++ z ++ k ++ l) metadata in
    let f2 = stored-after o 0 m e (omega arith) e1 (omega arith) e2 in
    let f3 = stored-after o 0 (m ++ e) z (omega arith) f2 (omega arith) e3 in
    let f4 = stored-after o 0 (m ++ e ++ z) k (omega arith) f3 (omega arith) e4 in
    let f5 = stored-after o 0 (m ++ e ++ z ++ k) l (omega arith) f4 (omega arith) e5 in
    let f6 = stored-after o 0 (m ++ e ++ z ++ k ++ l) metadata (omega arith) f5 (omega arith) e6 in
    let f7 = stored-after o 0 (m ++ e ++ z ++ k ++ l ++ metadata) (replicate 8 0) (omega arith) f6 (omega arith) e7 in (
      sym (fits_some o 0 (unfinished_header metadata) (rw (unfinished_long metadata) (omega arith))),
      f7 ∙ ap (stored o 0) (side_by_side m e z k l metadata (replicate 8 0) ∙ same),
    )
  where
    side_by_side : (a b c d e f g : List ℕ) → a ++ b ++ c ++ d ++ e ++ f ++ g ≡ joined a b c (d ++ (e ++ f)) g []
    side_by_side a b c d e f g = simp (append_assoc, append-nil) refl

    same : joined unfinished_magic e (replicate 56 0) (codec_none ++ (l ++ metadata)) (replicate 8 0) [] ≡ unfinished_header metadata
    same = rw (ee, el) (sym (unfinished_parts metadata []) ∙ append-nil (unfinished_header metadata))

-- ---- what `complete_header` leaves

-- the header of an unfinished file lies within a file that begins with it
pub unfinished_within : {o : List ℕ} (metadata rest : List ℕ) → o ≡ unfinished_header metadata ++ rest → 104 + length metadata ≤ length o
unfinished_within metadata rest e =
    let a = ap length e ∙ length-append (unfinished_header metadata) rest in let b = unfinished_long metadata in omega arith

-- the fields one after the other
fields_stored : (o : List ℕ) (root rootsize total : ℕ) (hash : List ℕ) → length hash ≡ 32 → 72 ≤ length o → {a b c : List ℕ}
    → a ≡ little_bytes 8 root → b ≡ little_bytes 8 rootsize → c ≡ little_bytes 8 total
    → {o1 o2 o3 o4 : List ℕ} → o1 ≡ stored o 16 a → o2 ≡ stored o1 24 b → o3 ≡ stored o2 32 c → o4 ≡ stored o3 40 hash
    → o4 ≡ stored o 16 (fields root rootsize total hash)
fields_stored o root rootsize total hash long h {a} {b} {c} ea eb ec e1 e2 e3 e4 =
    let la : length a ≡ 8 = ap length ea ∙ little_bytes-length 8 root in
    let lb : length b ≡ 8 = ap length eb ∙ little_bytes-length 8 rootsize in
    let lc : length c ≡ 8 = ap length ec ∙ little_bytes-length 8 total in
    let ab = length-append a b in
    let abc = length-append (a ++ b) c in
    let f2 = stored-after o 16 a b (omega arith) e1 (omega arith) e2 in
    let f3 = stored-after o 16 (a ++ b) c (omega arith) f2 (omega arith) e3 in
    let f4 = stored-after o 16 (a ++ b ++ c) hash (omega arith) f3 (omega arith) e4 in
    f4 ∙ ap (stored o 16) (side_by_side a b c hash ∙ rw (ea, eb, ec))
  where
    side_by_side : (a b c d : List ℕ) → a ++ b ++ c ++ d ≡ a ++ (b ++ (c ++ d))
    side_by_side a b c d = simp append_assoc refl

length_fields : (root rootsize total : ℕ) (hash : List ℕ) → length hash ≡ 32 → length (fields root rootsize total hash) ≡ 56
length_fields root rootsize total hash long =
    rw (
      length-append (little_bytes 8 root),
      little_bytes-length 8 root,
      length-append (little_bytes 8 rootsize),
      little_bytes-length 8 rootsize,
      length-append (little_bytes 8 total) hash,
      little_bytes-length 8 total,
      long,
    )

length_kept : (metadata : List ℕ) → length (kept metadata) ≡ 24 + length metadata
unfolding codec_none
length_kept metadata = rw (length-append (little_bytes 8 (length metadata)) metadata, little_bytes-length 8 (length metadata)) (omega arith)

-- parts of a header put over those of their length
module _ (m e : List ℕ) (lm : length m ≡ 8) (le : length e ≡ 8) (k c rest : List ℕ) where
  opening : length (m ++ e) ≡ 16
  opening = rw (length-append m e, lm, le)

  fields_over : (f g : List ℕ) → length f ≡ length g → stored (joined m e f k c rest) 16 g ≡ joined m e g k c rest
  fields_over f g same =
      ap (λ z. stored z 16 g) (sym (append_assoc m e (f ++ (k ++ (c ++ rest)))))
      ∙ stored-over (m ++ e) f (k ++ (c ++ rest)) g 16 opening same ∙ append_assoc m e (g ++ (k ++ (c ++ rest)))

  magic-over : (f n : List ℕ) → length m ≡ length n → stored (joined m e f k c rest) 0 n ≡ joined n e f k c rest
  magic-over f n same = stored-over [] m (e ++ (f ++ (k ++ (c ++ rest)))) n 0 refl same

  -- the header data, whose CRC follows
  data_part_lem : (f : List ℕ) (n : ℕ) → length f + length k ≡ n → take n (drop 16 (joined m e f k c rest)) ≡ f ++ k
  data_part_lem f n long =
      ap (λ z. take n (drop 16 z)) (regrouped m e f k c rest) ∙ ap (take n) (drop_at (m ++ e) ((f ++ k) ++ (c ++ rest)) 16 opening)
      ∙ take_at (f ++ k) (c ++ rest) n (length-append f k ∙ long)
    where
      regrouped : (m e f k c rest : List ℕ) → joined m e f k c rest ≡ (m ++ e) ++ ((f ++ k) ++ (c ++ rest))
      regrouped m e f k c rest = sym (simp append_assoc refl)

  crc_over : (f d : List ℕ) (at : ℕ) → 16 + (length f + length k) ≡ at → length c ≡ length d → stored (joined m e f k c rest) at d ≡ joined m e f k d rest
  crc_over f d at long same =
      ap (λ z. stored z at d) (regrouped m e f k c rest) ∙ stored-over (m ++ e ++ (f ++ k)) c rest d at before same ∙ sym (regrouped m e f k d rest)
    where
      before : length (m ++ e ++ (f ++ k)) ≡ at
      before = rw (length-append (m ++ e) (f ++ k), opening, length-append f k) long

      regrouped : (m e f k c rest : List ℕ) → joined m e f k c rest ≡ (m ++ e ++ (f ++ k)) ++ (c ++ rest)
      regrouped m e f k c rest = sym (simp append_assoc refl)

-- fields, CRC and magic, put over those of the unfinished file
pub complete_stored : (known rest : List ℕ) (metadata root rootsize total : ℕ) (hash : List ℕ) → length hash ≡ 32 → {o a b c d : List ℕ}
    → a ≡ little_bytes 8 root → b ≡ little_bytes 8 rootsize → c ≡ little_bytes 8 total
    → {o1 o2 o3 o4 o5 o6 : List ℕ} → o1 ≡ stored o 16 a → o2 ≡ stored o1 24 b → o3 ≡ stored o2 32 c → o4 ≡ stored o3 40 hash
    → d ≡ little_bytes 8 (crc64 (take (96 + metadata - 16) (drop 16 o4))) → o5 ≡ stored o4 (96 + metadata) d → o6 ≡ stored o5 0 magic
    → length known ≡ metadata → o ≡ unfinished_header known ++ rest → o6 ≡ header_bytes (header_data known root rootsize total hash) ++ rest
unfolding magic unfinished_magic
complete_stored known rest metadata root rootsize total hash long {o} {d = d} ea eb ec {o4 = o4} {o5 = o5} e1 e2 e3 e4 ed e5 e6 el is =
    let e = little_bytes 8 (80 + length known) in
    let le : length e ≡ 8 = little_bytes-length 8 (80 + length known) in
    let f = fields root rootsize total hash in
    let k = kept known in
    let lf : length f ≡ 56 = length_fields root rootsize total hash long in
    let lk : length k ≡ 24 + length known = length_kept known in
    let within = unfinished_within known rest is in
    let is4 : o4 ≡ joined unfinished_magic e f k (replicate 8 0) rest =
    fields_stored o root rootsize total hash long (omega arith) ea eb ec e1 e2 e3 e4 ∙ ap (λ z. stored z 16 f) (is ∙ unfinished_parts known rest)
    ∙ fields_over unfinished_magic e refl le k (replicate 8 0) rest (replicate 56 0) f (sym lf) in
    let crc : d ≡ little_bytes 8 (crc64 (f ++ k)) =
    ed ∙ ap (λ z. little_bytes 8 (crc64 (take (96 + metadata - 16) (drop 16 z)))) is4
    ∙ ap (λ z. little_bytes 8 (crc64 z)) (data_part_lem unfinished_magic e refl le k (replicate 8 0) rest f (96 + metadata - 16) (omega arith)) in
    let ld : length d ≡ 8 = ap length crc ∙ little_bytes-length 8 (crc64 (f ++ k)) in
    let is5 : o5 ≡ joined unfinished_magic e f k d rest =
    e5 ∙ ap (λ z. stored z (96 + metadata) d) is4
    ∙ crc_over unfinished_magic e refl le k (replicate 8 0) rest f d (96 + metadata) (omega arith) (sym ld) in
    e6 ∙ ap (λ z. stored z 0 magic) is5 ∙ magic-over unfinished_magic e refl le k d rest f magic refl ∙ ap (λ z. joined magic e f k z rest) crc
    ∙ sym (finished_parts known root rootsize total hash rest long)
