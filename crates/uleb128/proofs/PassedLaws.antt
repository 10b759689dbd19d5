-- What the loop of `read_number` knows after the n bytes that it has passed, and the answer that each way out gives.
-- Assumes nothing.
use mathlib.Core.Path.{◌≡◌, refl, sym, ap, ◌∙◌}
use mathlib.Core.Bool.{false, ◌&&◌}
use mathlib.Core.List.{List}
use Prim.Native.Nat.{ℕ, ◌+◌, ◌-◌, ◌*◌, ◌%◌, ◌^◌, ◌≤◌, ◌<◌}
use native.Mathlib.Nat.{pow-succ', pow-le-pow_right, mul-le-mul_right, mul_comm, add-mul}
use native.Mathlib.Numerals.{add-one}
use native.Mathlib.Omega.{arith}
use lib.Dec.{ltb, eqb}
use lib.ListN.{length, take, drop, get_or}
use Rattle.uleb128.specs.Number.{number, cut_off, refused, reading, continuing, sevens}
use Rattle.uleb128.proofs.NumberLaws.{passed_none, passed_more, passed_ends, passed_all, sevens_more, reading_wide, reading-cut, reading_long}
use Rattle.uleb128.proofs.NumberLaws.{reading_number, shortest}

-- a digit below 128 on top of a value below the scale
pub digit_fits : (value scale digit : ℕ) → value < scale → digit < 128 → value + digit * scale < 128 * scale
digit_fits value scale digit h d =
    let top : (digit + 1) * scale ≤ 128 * scale = mul-le-mul_right scale (omega arith) in
    omega (arith, add-mul digit 1 scale)

-- the scale of at most eight digits
pub scale_small : (n : ℕ) → n ≤ 8 → 128 ^ n ≤ 2 ^ 56
scale_small n h = pow-le-pow_right {n = 128} (omega arith) {i = n} {j = 8} h

pub scale_more : (n : ℕ) → 128 ^ n * 128 ≡ 128 ^ (n + 1)
scale_more n = rw (add-one n, pow-succ' 128 n) (mul_comm (128 ^ n) 128)

pub record Passed (s : List ℕ) (value scale n : ℕ) : Type 0 where
  pub within : n ≤ length s
  pub few : n ≤ 8
  pub high : continuing s ≡ n + continuing (drop n s)
  pub scaled : scale ≡ 128 ^ n
  pub sum : value ≡ sevens (take n s)
  pub below : value < scale
  pub small : scale ≤ 2 ^ 56

pub passed_start : (s : List ℕ) → Passed s 0 1 0
unfolding sevens
passed_start s =
    record {
      within = omega arith;
      few = omega arith;
      high = passed_none s;
      scaled = refl;
      sum = refl;
      below = omega arith;
      small = omega arith;
    }

module _ (s : List ℕ) (value scale n : ℕ) (p : Passed s value scale n) where
  -- the byte here goes on
  pub passed_step : n < length s → 128 ≤ get_or s n 0 → get_or s n 0 < 256 → (n ≡ 8 → ⊥) → Passed s (value + (get_or s n 0 - 128) * scale) (scale * 128) (n + 1)
  passed_step here high byte room =
      let b = get_or s n 0 in
      let low : b % 128 ≡ b - 128 = omega arith in
      let few : n + 1 ≤ 8 = omega arith in
      let scaled : scale * 128 ≡ 128 ^ (n + 1) = ap (λ (k : ℕ). k * 128) p.scaled ∙ scale_more n in
      let below = digit_fits value scale (b - 128) p.below (omega arith) in
      let small = scale_small (n + 1) few in
      record {
        within = omega arith;
        few = few;
        high = passed_more s n here high p.high;
        scaled = scaled;
        sum =
            ap (λ (v : ℕ). v + (b - 128) * scale) p.sum
            ∙ ap (λ (d : ℕ). sevens (take n s) + d * scale) (sym low)
            ∙ ap (λ (k : ℕ). sevens (take n s) + b % 128 * k) p.scaled
            ∙ sym (sevens_more s n here);
        below = omega arith;
        small = omega arith;
      }

  -- the byte here is the last
  pub passed_value : n < length s → get_or s n 0 < 128 → (0 < n → get_or s n 0 ≡ 0 → ⊥) → reading s ≡ number (value + get_or s n 0 * scale) (n + 1)
  passed_value here low last =
      let b = get_or s n 0 in
      let enough : (ltb 0 n && eqb b 0) ≡ false = shortest s n last in
      let same : b % 128 ≡ b = omega arith in
      let sum : sevens (take (n + 1) s) ≡ value + b * scale =
      sevens_more s n here
      ∙ ap (λ (d : ℕ). sevens (take n s) + d * 128 ^ n) same
      ∙ ap (λ (k : ℕ). sevens (take n s) + b * k) (sym p.scaled)
      ∙ ap (λ (v : ℕ). v + b * scale) (sym p.sum) in
      reading_number s n (omega arith) here enough (passed_ends s n here low p.high) ∙ ap (λ (v : ℕ). number v (n + 1)) sum

  pub passed_long : n < length s → 0 < n → get_or s n 0 ≡ 0 → reading s ≡ refused 12
  passed_long here more last = reading_long s n (omega arith) here more last (passed_ends s n here (omega arith) p.high)

  -- the ninth byte goes on too
  pub passed_wide : n < length s → 128 ≤ get_or s n 0 → n ≡ 8 → reading s ≡ refused 11
  passed_wide here high last =
      let more = passed_more s n here high p.high in
      reading_wide s (continuing s) (omega arith) refl

  pub passed_cut : length s ≤ n → reading s ≡ cut_off
  passed_cut end = reading-cut s n (omega arith) end (passed_all s n end p.high)

-- what the proof of `read_number` takes
pub ruleset passed_rules = (passed_start, passed_value, passed_wide, passed_cut)
