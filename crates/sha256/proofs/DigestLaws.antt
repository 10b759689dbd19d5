-- Laws of the digest: its bytes are those of the eight words, one word after the other.
-- Assumes nothing.
use Rattle.std.proofs.Common.{◌≡◌, ℕ, zero, suc, ◌+◌, ◌-◌, ◌*◌, ◌<◌, ◌≤◌, List, [], ◌∷◌, ◌++◌, length, get_or, take, sym, refl, ap, ◌∙◌, add-one, append_assoc, append-nil, arith, take_all}
use Rattle.std.proofs.lemmas.Slice.{take-put_mid}
use borrow.Rule.Slice.PartMut.{put_mid}
use Rattle.endian.specs.FixedWidth.{big_bytes, little_bytes}
use Rattle.endian.proofs.FixedWidthLaws.{big_bytes-length}
use Rattle.sha256_block.specs.declared.Words.{Words}
use Rattle.sha256.specs.Sha256.{digest}

-- the bytes of words, one word after the other
unfoldable pub word_bytes : List ℕ → List ℕ
word_bytes [] = []
word_bytes (w ∷ ws) = big_bytes 4 w ++ word_bytes ws

-- the bytes of one word more
pub word_bytes_more : (ws : List ℕ) (i : ℕ) → i < length ws → word_bytes (take (i + 1) ws) ≡ word_bytes (take i ws) ++ big_bytes 4 (get_or ws i 0)
unfolding word_bytes
word_bytes_more [] i h = absurd (omega arith)
word_bytes_more (w ∷ ws) zero h = append-nil (big_bytes 4 w)
word_bytes_more (w ∷ ws) (suc i) h =
    let more = rw (add-one i) at (word_bytes_more ws i (omega arith)) in
    rw (add-one (suc i)) (ap (λ (l : List ℕ). big_bytes 4 w ++ l) more ∙ sym (append_assoc (big_bytes 4 w) (word_bytes (take i ws)) (big_bytes 4 (get_or ws i 0))))

-- copied after those of the earlier words
pub word_bytes_copied : (out ws bytes : List ℕ) (i : ℕ) → i < length ws → 4 * i ≤ length out → take (4 * i) out ≡ word_bytes (take i ws)
    → bytes ≡ big_bytes 4 (get_or ws i 0)
    → take (4 * (i + 1)) (put_mid (4 * i) (4 * i + 4 - 4 * i) out bytes) ≡ word_bytes (take (i + 1) ws)
word_bytes_copied out ws bytes i h room before e =
    let long : length bytes ≡ 4 = ap length e ∙ big_bytes-length 4 _ in
    let all = take-put_mid (4 * i) (4 * i + 4 - 4 * i) out bytes (4 * (i + 1)) (omega arith) room in
    all ∙ rw (before, e) (sym (word_bytes_more ws i h))

-- the words of a hash value as a list
abbrev pub listed : Words → List ℕ
listed hash = hash.a ∷ hash.b ∷ hash.c ∷ hash.d ∷ hash.e ∷ hash.f ∷ hash.g ∷ hash.h ∷ []

-- their bytes are the digest
word_bytes_digest : (hash : Words) → word_bytes (take 8 (listed hash)) ≡ digest hash
unfolding word_bytes digest big_bytes little_bytes
word_bytes_digest hash = refl

-- all 32 bytes
pub word_bytes_all : (out : List ℕ) (hash : Words) → length out ≡ 32 → take 32 out ≡ word_bytes (take 8 (listed hash)) → out ≡ digest hash
word_bytes_all out hash e all = sym (take_all 32 out (omega arith)) ∙ all ∙ word_bytes_digest hash

pub digest-length : (hash : Words) → length (digest hash) ≡ 32
unfolding digest big_bytes little_bytes
digest-length hash = refl
