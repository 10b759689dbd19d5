-- Laws of sessions as the code makes them.
-- Assumes nothing.
use mathlib.Core.Path.{◌≡◌, refl, sym, ap, ◌∙◌}
use mathlib.Core.Bool.{Bool, true, false, ◌&&◌, false≢true}
use Prim.Native.Nat.{ℕ, ◌+◌, ◌-◌, ◌≤◌, ◌<◌}
use native.Mathlib.Omega.{arith}
use lib.Dec.{leb, eqb}
use lib.ListN.{length}
use borrow.Author.Tests.{le-leb, lt-leb, leb-true, eq-eqb, ne_eqb}
use Rattle.std.specs.Prelude.{Option, None}
use Rattle.std.specs.Bool.{then_some}
use Rattle.uleb128.specs.Encoding.{encoding}
use Rattle.encoder.proofs.PutLaws.{block_size_some}
use Rattle.layout.specs.Blocks.{block_size}
use Rattle.layout.specs.File.{file_fits}
use Rattle.session_value.specs.declared.Session.{Session}
use Rattle.session_value.specs.Values.{is_begun, closed_session, unfull_session, text_size, framed_size, added_session}
use mathlib.Core.List.{[], ◌∷◌}
use Rattle.crc64.specs.Crc64.{register_start, register}

-- ---- whether a session is begun

-- one test after the other
pub begun_asked : (s : Session) (room : ℕ) {a b c : Bool} → a ≡ (eqb s.stage 1 && file_fits room s.next) → b ≡ (a && leb s.payload s.next)
    → c ≡ (b && leb s.records s.next) → (c && leb s.count 65535) ≡ is_begun s room
unfolding is_begun
begun_asked s room e f g = rw (g, f, e) (four (eqb s.stage 1 && file_fits room s.next) (leb s.payload s.next) (leb s.records s.next) (leb s.count 65535))
  where
    four : (a b c d : Bool) → (((a && b) && c) && d) ≡ (a && ((b && c) && d))
    four true b c d = refl
    four false b c d = refl

-- the tests one by one
pub not_stage : (s : Session) (room : ℕ) → (s.stage ≡ 1 → ⊥) → false ≡ is_begun s room
unfolding is_begun
not_stage s room h = rw (ne_eqb s.stage 1 h)

module _ (s : Session) (room most : ℕ) (limit : (end : ℕ) → file_fits room end ≡ leb end most) where
  pub not_room : s.stage ≡ 1 → most < s.next → false ≡ is_begun s room
  unfolding is_begun
  not_room a h = rw (eq-eqb s.stage 1 a, limit s.next, lt-leb s.next most h)

  module _ (a : s.stage ≡ 1) (b : s.next ≤ most) where
    rest_is : is_begun s room ≡ ((leb s.payload s.next && leb s.records s.next) && leb s.count 65535)
    unfolding is_begun
    rest_is = rw (eq-eqb s.stage 1 a, limit s.next, le-leb s.next most b)

    pub not_payload : s.next < s.payload → false ≡ is_begun s room
    not_payload h = sym (rest_is ∙ rw (lt-leb s.payload s.next h))

    pub not_records : s.payload ≤ s.next → s.next < s.records → false ≡ is_begun s room
    not_records c h = sym (rest_is ∙ rw (le-leb s.payload s.next c, lt-leb s.records s.next h))

    pub begun_last : s.payload ≤ s.next → s.records ≤ s.next → leb s.count 65535 ≡ is_begun s room
    begun_last c d = sym (rest_is ∙ rw (le-leb s.payload s.next c, le-leb s.records s.next d))

-- what a session that is begun says
pub begun⁻¹ : (s : Session) (room : ℕ) → is_begun s room ≡ true → (file_fits room s.next ≡ true) × (s.records ≤ s.next) × (s.count ≤ 65535)
unfolding is_begun
begun⁻¹ s room e =
    go (eqb s.stage 1) (file_fits room s.next) (leb s.payload s.next) (leb s.records s.next) (leb s.count 65535) refl refl refl e
  where
    go : (a b c d f : Bool) → file_fits room s.next ≡ b → leb s.records s.next ≡ d → leb s.count 65535 ≡ f
        → ((a && b) && ((c && d) && f)) ≡ true → (file_fits room s.next ≡ true) × (s.records ≤ s.next) × (s.count ≤ 65535)
    go true true true true true p q r e = (p, leb-true s.records s.next q, leb-true s.count 65535 r)
    go true true true true false p q r e = absurd (false≢true e)
    go true true true false f p q r e = absurd (false≢true e)
    go true true false d f p q r e = absurd (false≢true e)
    go true false c d f p q r e = absurd (false≢true e)
    go false b c d f p q r e = absurd (false≢true e)

-- ---- the size of a block with one record more

module _ (s : Session) (n room most : ℕ) (limit : (end : ℕ) → file_fits room end ≡ leb end most) where
  pub size_over : most < s.payload + n → None ≡ framed_size s n room
  unfolding framed_size text_size
  size_over h =
      let some = block_size_some (s.payload + (length (encoding n) + n)) in
      rw (
        limit (s.start + block_size (s.payload + (length (encoding n) + n))),
        lt-leb (s.start + block_size (s.payload + (length (encoding n) + n))) most (omega arith),
      )

  pub size_is : (payload : ℕ) {size : Option ℕ} → payload ≡ s.payload + length (encoding n) + n
      → size ≡ then_some (leb (s.start + block_size payload) most) (block_size payload) → size ≡ framed_size s n room
  unfolding framed_size text_size
  size_is payload e f =
      let whole = s.payload + (length (encoding n) + n) in
      let same : payload ≡ whole = omega arith in
      f ∙ ap (λ (p : ℕ). then_some (leb (s.start + block_size p) most) (block_size p)) same
      ∙ ap (λ (b : Bool). then_some b (block_size whole)) (sym (limit (s.start + block_size whole)))

-- ---- a full block

module _ (s : Session) where
  pub full : s.perblock ≤ s.count → closed_session s ≡ unfull_session s
  unfolding unfull_session
  full h = rw (le-leb s.perblock s.count h)

  pub not_full : s.count < s.perblock → s ≡ unfull_session s
  unfolding unfull_session
  not_full h = rw (lt-leb s.perblock s.count h)

-- ---- sessions, number by number

pub closed_is : (s : Session) {begin crc : ℕ} → begin ≡ register_start → crc ≡ register begin (0 ∷ [])
    → ◌≡◌ {A = Session}
    (record {
      records = s.records;
      last = s.last;
      next = s.next;
      stage = s.stage;
      blocks = s.blocks;
      perblock = s.perblock;
      perindex = s.perindex;
      start = s.next;
      count = 0;
      payload = 0;
      crc = crc;
    })
    (closed_session s)
unfolding closed_session
closed_is s e f = rw (f, e)

-- ---- one record more

-- a block is longer than the bytes in it
pub size_least : (payload n size : ℕ) → block_size (payload + text_size n) ≤ size → payload + length (encoding n) + n + 9 ≤ size
unfolding block_size text_size
size_least payload n size h = omega arith

pub added_is : (s : Session) (n size crc : ℕ) {number records last next count payload : ℕ} → number ≡ length (encoding n)
    → records ≡ s.records + 1 → last ≡ s.start + size - 8 - n → next ≡ s.start + size → count ≡ s.count + 1 → payload ≡ s.payload + number + n
    → ◌≡◌ {A = Session}
    (record {
      records = records;
      last = last;
      next = next;
      stage = s.stage;
      blocks = s.blocks;
      perblock = s.perblock;
      perindex = s.perindex;
      start = s.start;
      count = count;
      payload = payload;
      crc = crc;
    })
    (added_session s n size crc)
unfolding added_session text_size
added_is s n size crc {number} {payload = payload} e f g h i j =
    rw (f, g, h, i, let sum : payload ≡ s.payload + (length (encoding n) + n) = omega arith in sum)
