-- What is laid is bytes, where the records and the metadata are.
-- Assumes nothing.
use mathlib.Core.Path.{◌≡◌, refl, sym, subst}
use mathlib.Core.Logic.{◌⊎◌, inl, inr}
use mathlib.Core.List.Memᴰ
use mathlib.Core.List.{List, [], ◌∷◌, ◌++◌, flat_map, Memᴰ}
use Prim.Native.Nat.{ℕ, ◌+◌, ◌^◌, ◌<◌}
use native.Mathlib.Omega.{arith}
use lib.ListN.{length}
use Rattle.lists.specs.Groups.{first_or}
use Rattle.byte_string.specs.Order.{AreBytes}
use Rattle.byte_string.proofs.BytesLaws.{bytes_append, bytes_left, bytes_right}
use Rattle.endian.specs.FixedWidth.{little_bytes}
use Rattle.endian.proofs.FixedWidthLaws.{little_bytes_bytes, big_bytes_bytes}
use Rattle.uleb128.specs.Encoding.{encoding}
use Rattle.uleb128.proofs.EncodingLaws.{encoding_bytes}
use Rattle.crc64.specs.Crc64.{crc64}
use Rattle.sha256_block.specs.declared.Words.{Words}
use Rattle.sha256.specs.Sha256.{sha256, digest}
use Rattle.header.specs.Header.{magic}
use Rattle.layout.specs.Blocks.{text_bytes, block_bytes, records_bytes}
use Rattle.layout.specs.Index.{IndexEntry, entry_bytes}
use Rattle.layout.specs.File.{header_bytes}

-- ---- lists joined

pub flat_map_bytes : {A : Type 0} (f : A → List ℕ) (xs : List A) → ((x : A) → Memᴰ x xs → AreBytes (f x)) → AreBytes (flat_map f xs)
unfolding flat_map AreBytes
flat_map_bytes f [] h = tt
flat_map_bytes f (x ∷ xs) h = bytes_append (f x) (flat_map f xs) (h x (Memᴰ.head refl)) (flat_map_bytes f xs (λ y m. h y (Memᴰ.tail m)))

pub member_bytes : {A : Type 0} (f : A → List ℕ) (xs : List A) → AreBytes (flat_map f xs) → (x : A) → Memᴰ x xs → AreBytes (f x)
unfolding flat_map
member_bytes f [] h x m = absurd (Memᴰ.not-nil m)
member_bytes {A} f (y ∷ xs) h x m = go (Memᴰ.cases_cons m) (member_bytes f xs (bytes_right (f y) (flat_map f xs) h) x)
  where
    go : (x ≡ y) ⊎ Memᴰ x xs → (Memᴰ x xs → AreBytes (f x)) → AreBytes (f x)
    go (inl same) rest = subst (λ (z : A). AreBytes (f z)) (sym same) (bytes_left (f y) (flat_map f xs) h)
    go (inr inside) rest = rest inside

-- ---- records

pub record_bytes : (rs : List (List ℕ)) → AreBytes (records_bytes rs) → (r : List ℕ) → Memᴰ r rs → AreBytes r
unfolding records_bytes text_bytes
record_bytes rs h r m = bytes_right (encoding (length r)) r (member_bytes text_bytes rs h r m)

pub first_record_bytes : (rs : List (List ℕ)) → AreBytes (records_bytes rs) → AreBytes (first_or [] rs)
unfolding first_or AreBytes
first_record_bytes [] h = tt
first_record_bytes (r ∷ rs) h = record_bytes (r ∷ rs) h r (Memᴰ.head refl)

-- ---- entries and blocks

pub text_bytes_lem : (t : List ℕ) → length t < 2 ^ 64 → AreBytes t → AreBytes (text_bytes t)
unfolding text_bytes
text_bytes_lem t small h = bytes_append (encoding (length t)) t (encoding_bytes (length t) small) h

pub entry_bytes_lem : (e : IndexEntry) → length e.key < 2 ^ 64 → e.offset < 2 ^ 64 → e.size < 2 ^ 64 → AreBytes e.key → AreBytes (entry_bytes e)
unfolding entry_bytes
entry_bytes_lem e small offset size h =
    bytes_append (text_bytes e.key) (encoding e.offset ++ encoding e.size) (text_bytes_lem e.key small h)
    (bytes_append (encoding e.offset) (encoding e.size) (encoding_bytes e.offset offset) (encoding_bytes e.size size))

byte_first : (b : ℕ) (s : List ℕ) → b < 256 → AreBytes s → AreBytes (b ∷ s)
unfolding AreBytes
byte_first b s low h = (low, h)

pub block_bytes_lem : (level : ℕ) (payload : List ℕ) → level < 256 → length payload + 1 < 2 ^ 64 → AreBytes payload → AreBytes (block_bytes level payload)
unfolding block_bytes
block_bytes_lem level payload low small h =
    bytes_append (encoding (length payload + 1)) ((level ∷ payload) ++ little_bytes 8 (crc64 (level ∷ payload))) (encoding_bytes (length payload + 1) small)
    (bytes_append (level ∷ payload) (little_bytes 8 (crc64 (level ∷ payload))) (byte_first level payload low h) (little_bytes_bytes 8 (crc64 (level ∷ payload))))

-- ---- the header

magic_bytes : AreBytes magic
unfolding magic AreBytes
magic_bytes = omega arith

digest_bytes : (w : Words) → AreBytes (digest w)
unfolding digest
digest_bytes w = search (bytes_append, big_bytes_bytes) depth 12

pub sha256_bytes : (s : List ℕ) → AreBytes (sha256 s)
unfolding sha256
sha256_bytes s = digest_bytes _

pub header_bytes_lem : (headerdata : List ℕ) → AreBytes headerdata → AreBytes (header_bytes headerdata)
unfolding header_bytes
header_bytes_lem headerdata h =
    bytes_append magic (little_bytes 8 (length headerdata) ++ (headerdata ++ little_bytes 8 (crc64 headerdata))) magic_bytes
    (bytes_append (little_bytes 8 (length headerdata)) (headerdata ++ little_bytes 8 (crc64 headerdata)) (little_bytes_bytes 8 (length headerdata))
    (bytes_append headerdata (little_bytes 8 (crc64 headerdata)) h (little_bytes_bytes 8 (crc64 headerdata))))
