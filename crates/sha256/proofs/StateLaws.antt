-- Laws of a hash that is computed piece by piece. `Holds⇒sha256` is the one that a caller needs.
-- Assumes nothing.
use Rattle.std.proofs.Common.{◌≡◌, ℕ, ◌+◌, ◌-◌, ◌*◌, ◌/◌, ◌%◌, ◌^◌, ◌<◌, List, [], ◌++◌, length, drop, replicate, sym, refl, ap, ◌∙◌, mod-eq_of_lt, arith, length-append, length-drop, drop-drop, take_at}
use native.Mathlib.Nat.{div-eq_of_lt}
use lib.Seq.{drop-append-le}
use Rattle.sha256_block.specs.declared.Words.{Words}
use Rattle.sha256_block.specs.Compression.{over}
use Rattle.sha256_block.proofs.BlockLaws.{over-append, over_short}
use Rattle.sha256.specs.declared.State.{State}
use Rattle.sha256.specs.Sha256.{initial, digest, padding, sha256}
use Rattle.sha256.specs.State.{begun, pending, remainder, absorbed, finished, Holds, none, more}
use Rattle.sha256.proofs.DigestLaws.{digest-length}

-- What is left after the whole blocks

pub remainder-length : (s : List ℕ) → length (remainder s) ≡ length s % 64
unfolding remainder
remainder-length s =
    let rest = length-drop (length s / 64 * 64) s in
    omega arith

pub remainder_short : (s : List ℕ) → length s < 64 → remainder s ≡ s
unfolding remainder
remainder_short s h = rw (div-eq_of_lt h)

-- only what is left of the front matters
pub remainder-append : (s t : List ℕ) → remainder (remainder s ++ t) ≡ remainder (s ++ t)
unfolding remainder
remainder-append s t =
    let whole = length s / 64 * 64 in
    let rest = length-drop whole s in
    let both = length-append (drop whole s) t in
    let all = length-append s t in
    let places : whole + length (drop whole s ++ t) / 64 * 64 ≡ length (s ++ t) / 64 * 64 = omega arith in
    ap (drop (length (drop whole s ++ t) / 64 * 64)) (sym (drop-append-le whole s t (omega arith)))
    ∙ drop-drop (length (drop whole s ++ t) / 64 * 64) whole (s ++ t)
    ∙ ap (λ (n : ℕ). drop n (s ++ t)) places

-- the hash value after a byte string and another
pub over_remainder : (hash : Words) (s t : List ℕ) → over hash (s ++ t) ≡ over (over hash s) (remainder s ++ t)
unfolding remainder
over_remainder hash s t = over-append hash s t

-- The state that holds a message

-- its hash value is over the whole blocks, its pending bytes are the others, and it counts modulo 2 ^ 64
pub record Held (m : List ℕ) (s : State) : Type 0 where
  pub hash : s.hash ≡ over initial m
  pub rest : pending s ≡ remainder m
  pub count : s.count ≡ length m % 2 ^ 64

-- a piece after the pending bytes is a piece after the message
pub over_Held : (m : List ℕ) (s : State) → Held m s → (piece : List ℕ) → over s.hash (pending s ++ piece) ≡ over initial (m ++ piece)
over_Held m s h piece =
    ap (λ (w : Words). over w (pending s ++ piece)) h.hash
    ∙ ap (λ (l : List ℕ). over (over initial m) (l ++ piece)) h.rest
    ∙ sym (over_remainder initial m piece)

begun_Held : Held [] begun
unfolding begun pending remainder
begun_Held = record { hash = sym (over_short initial [] (omega arith)); rest = refl; count = refl }

absorbed_Held : (m : List ℕ) (s : State) → Held m s → (piece : List ℕ) → Held (m ++ piece) (absorbed s piece)
unfolding absorbed pending
absorbed_Held m s h piece =
    let kept = remainder (pending s ++ piece) in
    let rest : kept ≡ remainder (m ++ piece) = rw h.rest (remainder-append m piece) in
    let all = length-append m piece in
    let many = remainder-length (m ++ piece) in
    let count = h.count in
    let long : length kept ≡ (absorbed s piece).count % 64 = ap length rest ∙ (omega arith) in
    record {
      hash = over_Held m s h piece;
      rest = take_at kept (replicate (64 - length kept) 0) ((absorbed s piece).count % 64) long ∙ rest;
      count = omega arith;
    }

pub Holds⇒Held : (m : List ℕ) (s : State) → Holds m s → Held m s
Holds⇒Held m s none = begun_Held
Holds⇒Held m s (more {m = front} {s = before} h piece) = absorbed_Held front before (Holds⇒Held front before h) piece

-- The whole: a state that holds a message, whatever the pieces were, gives the hash of the message.
pub Holds⇒sha256 : (m : List ℕ) (s : State) → Holds m s → length m < 2 ^ 61 → finished s ≡ sha256 m
unfolding finished sha256
Holds⇒sha256 m s h short =
    let held = Holds⇒Held m s h in
    let count : s.count ≡ length m = held.count ∙ mod-eq_of_lt (omega arith) in
    ap digest (ap (λ (n : ℕ). over s.hash (pending s ++ padding n)) count ∙ over_Held m s held (padding (length m)))

pub sha256-length : (m : List ℕ) → length (sha256 m) ≡ 32
unfolding sha256
sha256-length m = digest-length (over initial (m ++ padding (length m)))
