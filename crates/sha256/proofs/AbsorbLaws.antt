-- Laws of one piece more: what `absorb` makes of a state, where the piece fills no block and where it does.
-- Assumes nothing.
use Rattle.std.proofs.Common.{◌≡◌, ℕ, ◌+◌, ◌-◌, ◌*◌, ◌/◌, ◌%◌, ◌^◌, ◌<◌, ◌≤◌, List, [], ◌++◌, length, take, drop, replicate, sym, ap, ◌∙◌, ap₂, append_assoc, append-nil, zero-add, arith, length-append, take-append-drop, drop_of_length-le, length-take-le}
use Rattle.sha256_block.specs.declared.Words.{Words}
use Rattle.sha256_block.specs.Compression.{over}
use Rattle.sha256_block.proofs.BlockLaws.{over_short}
use Rattle.sha256.specs.declared.State.{State}
use Rattle.sha256.specs.State.{pending, remainder, absorbed}
use Rattle.sha256.proofs.FillLaws.{zeroed}
use Rattle.sha256.proofs.StateLaws.{remainder_short, remainder-append, over_remainder}

-- states are equal field by field
same : (h k : Words) (p q : List ℕ) (m n : ℕ) → h ≡ k → p ≡ q → m ≡ n
    → ◌≡◌ {A = State} (record { hash = h; partial = p; count = m }) (record { hash = k; partial = q; count = n })
same h k p q m n eh ep en = cc

pub pending-length : (s : State) → length s.partial ≡ 64 → length (pending s) ≡ s.count % 64
unfolding pending
pending-length s full = length-take-le (s.count % 64) s.partial (omega arith)

-- A piece that fills no block is kept.
pub absorbed_short : (s : State) (piece partial : List ℕ) (count : ℕ) → length s.partial ≡ 64 → length piece < 64 - s.count % 64
    → partial ≡ take (s.count % 64) s.partial ++ zeroed (s.count % 64) piece
    → count ≡ (s.count + length piece) % 2 ^ 64
    → ◌≡◌ {A = State} (record { hash = s.hash; partial = partial; count = count }) (absorbed s piece)
unfolding absorbed pending
absorbed_short s piece partial count full short ep ec =
    let all : List ℕ = pending s ++ piece in
    let front = pending-length s full in
    let long : length all ≡ s.count % 64 + length piece = length-append (pending s) piece ∙ (omega arith) in
    let kept = remainder all in
    let zeros : List ℕ = replicate (64 - (s.count % 64 + length piece)) 0 in
    same s.hash (over s.hash all) partial (kept ++ replicate (64 - length kept) 0) count ((s.count + length piece) % 2 ^ 64)
    (sym (over_short s.hash all (omega arith)))
    (rw (remainder_short all (omega arith), long) (ep ∙ sym (append_assoc (pending s) piece zeros)))
    ec

-- A full block in front

remainder_full : (s : List ℕ) → length s ≡ 64 → remainder s ≡ []
unfolding remainder
remainder_full s e = rw e (drop_of_length-le s {i = 64} (omega arith))

over_full : (hash : Words) (s t : List ℕ) → length s ≡ 64 → over hash (s ++ t) ≡ over (over hash s) t
over_full hash s t e = over_remainder hash s t ∙ (rw (remainder_full s e))

remainder-after : (s t : List ℕ) → length s ≡ 64 → remainder (s ++ t) ≡ remainder t
remainder-after s t e = sym (remainder-append s t) ∙ (rw (remainder_full s e))

-- the bytes that were kept, and as many of the piece as fill the block
module _ (front piece : List ℕ) (fill : ℕ) (kept : length front ≡ fill) (few : fill ≤ 64) (enough : 64 - fill ≤ length piece) where
  full_zeros : front ++ zeroed fill (take (64 - fill) piece) ≡ front ++ take (64 - fill) piece
  full_zeros =
      let taken = length-take-le (64 - fill) piece enough in
      let no-zeros : 64 - (fill + length (take (64 - fill) piece)) ≡ 0 = omega arith in
      rw (no-zeros, append-nil)

  full_length : length (front ++ take (64 - fill) piece) ≡ 64
  full_length = rw (length-append, length-take-le (64 - fill) piece enough) (omega arith)

  full_rest : front ++ piece ≡ front ++ take (64 - fill) piece ++ drop (64 - fill) piece
  full_rest = rw append_assoc (ap (λ (l : List ℕ). front ++ l) (sym (take-append-drop (64 - fill) piece)))

-- a block, then the rest as far as it fills blocks
absorbed_block : (s : State) (piece block rest tail partial : List ℕ) (mid hash : Words) (count : ℕ)
    → pending s ++ piece ≡ block ++ rest → length block ≡ 64 → tail ≡ remainder rest
    → mid ≡ over s.hash block → hash ≡ over mid rest
    → partial ≡ tail ++ replicate (64 - length tail) 0 → count ≡ (s.count + length piece) % 2 ^ 64
    → ◌≡◌ {A = State} (record { hash = hash; partial = partial; count = count }) (absorbed s piece)
unfolding absorbed
absorbed_block s piece block rest tail partial mid hash count all size et em eh ep ec =
    let kept = remainder (pending s ++ piece) in
    same hash (over s.hash (pending s ++ piece)) partial (kept ++ replicate (64 - length kept) 0) count ((s.count + length piece) % 2 ^ 64)
    (eh ∙ ap (λ (w : Words). over w rest) em ∙ sym (over_full s.hash block rest size) ∙ ap (over s.hash) (sym all))
    (ep ∙ ap (λ (l : List ℕ). l ++ replicate (64 - length l) 0) (et ∙ sym (remainder-after block rest size) ∙ ap remainder (sym all)))
    ec

-- A piece that fills a block: `block` is what `filled` makes of the front, `rest` is the piece after it, `tail` what is left of that.
pub absorbed_long : (s : State) (piece block rest tail partial : List ℕ) (mid hash : Words) (count : ℕ)
    → length s.partial ≡ 64 → 64 - s.count % 64 ≤ length piece
    → block ≡ take (s.count % 64) s.partial ++ zeroed (s.count % 64) (take (64 - s.count % 64) piece)
    → rest ≡ drop (64 - s.count % 64) piece
    → tail ≡ drop (length rest / 64 * 64) rest
    → mid ≡ over s.hash block → hash ≡ over mid rest
    → partial ≡ zeroed 0 tail → count ≡ (s.count + length piece) % 2 ^ 64
    → ◌≡◌ {A = State} (record { hash = hash; partial = partial; count = count }) (absorbed s piece)
unfolding pending remainder
absorbed_long s piece block rest tail partial mid hash count full long eb er et em eh ep ec =
    let fill = s.count % 64 in
    let front = pending-length s full in
    let whole : block ≡ pending s ++ take (64 - fill) piece = eb ∙ full_zeros (pending s) piece fill front (omega arith) long in
    absorbed_block s piece block rest tail partial mid hash count
    (full_rest (pending s) piece fill front (omega arith) long ∙ sym (ap₂ ◌++◌ whole er))
    (ap length whole ∙ full_length (pending s) piece fill front (omega arith) long)
    et
    em
    eh
    (rw zero-add at ep)
    ec
