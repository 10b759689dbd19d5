-- What a span says of the records that were met: the first and the last of them, by their bytes.
-- Assumes nothing.
use mathlib.Core.Path.{◌≡◌, refl, sym, ◌∙◌, subst}
use mathlib.Core.List.{List, [], ◌∷◌, ◌++◌, append-nil, Memᴰ}
use Prim.Native.Nat.{ℕ, ◌<◌}
use native.Mathlib.Omega.{arith}
use lib.ListN.{length}
use lib.Seq.{append_snoc}
use Rattle.outcome.specs.Outcome.{answer}
use Rattle.part.specs.Part.{part}
use Rattle.payload.specs.Payload.{Text}
use Rattle.block.specs.Block.{Block, block_at}
use Rattle.block.proofs.HeldLaws.{record_in_block, data_some}
use Rattle.check_walk.specs.declared.keys.Span.{Span}
use Rattle.check_walk.specs.Lookup.{no_part, bytes_in, records_in}
use Rattle.std.specs.Prelude.{None}
use Rattle.check_walk.specs.Keys.{no_span, span_joined, span_one, span_over, first_of}
use Rattle.check_walk.proofs.LookupLaws.{records_again}
use Rattle.check_walk.proofs.KeyLaws.{joined_none, joined_some}

-- the bytes of the last record; where there is none, those of the last one before
unfoldable pub last_bytes : List ℕ → List Text → List ℕ
last_bytes d [] = d
last_bytes d (r ∷ rs) = last_bytes r.bytes rs

pub last_bytes_append : (d : List ℕ) (xs ys : List Text) → last_bytes d (xs ++ ys) ≡ last_bytes (last_bytes d xs) ys
unfolding last_bytes
last_bytes_append d [] ys = refl
last_bytes_append d (x ∷ xs) ys = last_bytes_append x.bytes xs ys

-- the span of these records, where d is the last record before them
unfoldable pub Spans : (file d : List ℕ) → Span → List Text → Type 0
Spans file d s [] = (s.first ≡ None) × (bytes_in file s.last ≡ d)
Spans file d s (r ∷ rs) = (s.first ≡ None → ⊥) × (bytes_in file (first_of s) ≡ r.bytes) × (bytes_in file s.last ≡ last_bytes d (r ∷ rs))

pub spans_last : (file d : List ℕ) (s : Span) (rs : List Text) → Spans file d s rs → bytes_in file s.last ≡ last_bytes d rs
unfolding Spans last_bytes
spans_last file d s [] h = h.1
spans_last file d s (r ∷ rs) h = h.2

pub spans_joined : (file d : List ℕ) (a b : Span) (xs ys : List Text) → Spans file d a xs → Spans file (last_bytes d xs) b ys
    → Spans file d (span_joined a b) (xs ++ ys)
unfolding Spans last_bytes first_of
spans_joined file d a b [] ys h k = subst (λ (s : Span). Spans file d s ys) (sym (joined_none a b h.0)) k
spans_joined file d a b (x ∷ xs) ys h k =
    subst (λ (s : Span). Spans file d s (x ∷ (xs ++ ys))) (sym (joined_some a b h.0))
    (h.0, h.1, spans_last file (last_bytes x.bytes xs) b ys k ∙ sym (last_bytes_append x.bytes xs ys))

-- a record that stands in the file
abbrev pub Placed : (file : List ℕ) (r : Text) → Type 0
Placed file r = part file r.at (length r.bytes) ≡ r.bytes

spans_one : (file d : List ℕ) (y : Text) → Placed file y → Spans file d (span_one y) (y ∷ [])
unfolding Spans last_bytes span_one first_of bytes_in
spans_one file d y p = (λ z. cc, p, p)

spans_over : (file d : List ℕ) (s : Span) (xs ys : List Text) → Spans file d s xs → ((y : Text) → Memᴰ y ys → Placed file y)
    → Spans file d (span_over ys s) (xs ++ ys)
unfolding span_over
spans_over file d s xs [] h placed = subst (Spans file d s) (sym (append-nil xs)) h
spans_over file d s xs (y ∷ ys) h placed =
    subst (Spans file d (span_over ys (span_joined s (span_one y)))) (append_snoc xs y ys)
    (spans_over file d (span_joined s (span_one y)) (xs ++ (y ∷ [])) ys (spans_joined file d s (span_one y) xs (y ∷ []) h (spans_one file (last_bytes d xs) y (placed y (Memᴰ.head refl)))) (λ z m. placed z (Memᴰ.tail m)))

-- the last record before does not matter to the span of some records
pub spans_any : (file c d : List ℕ) (s : Span) (rs : List Text) → 0 < length rs → Spans file c s rs → Spans file d s rs
unfolding Spans last_bytes
spans_any file c d s [] some h = absurd (omega arith)
spans_any file c d s (r ∷ rs) some h = h

-- the span of a data block
pub block_spans : (file : List ℕ) (at : ℕ) (b : Block) → block_at file at ≡ answer b → b.frame.level ≡ 0 → (d : List ℕ)
    → Spans file d (span_over (records_in file at) no_span) b.records
unfolding Spans no_span no_part bytes_in part
block_spans file at b read level d =
    spans_any file [] d (span_over (records_in file at) no_span) b.records (data_some file at b read level)
    (subst (λ (rs : List Text). Spans file [] (span_over rs no_span) b.records) (sym (records_again file at b read level))
    (spans_over file [] no_span [] b.records (refl, refl) (λ r m. (record_in_block file at b read r m).bytes_are)))
