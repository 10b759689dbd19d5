-- The table of the CRC-64 register: from the test of the whole to the rule at each entry, to a step.
-- Assumes nothing.
use mathlib.Core.Path.{◌≡◌, sym, ap, ◌∙◌}
use mathlib.Core.Bool.{Bool, true, and-eq-true_iff}
use mathlib.Core.List.{List, [], ◌∷◌}
use Prim.Native.Nat.{ℕ, zero, suc, ◌+◌, ◌/◌, ◌%◌, ◌<◌}
use native.Mathlib.Nat.{add-suc, add-zero, le_of_suc-le-suc, mod-lt, not-suc-le-zero, suc-add, zero-add}
use native.Mathlib.Omega.{arith}
use borrow.Author.Tests.{eqb-true}
use lib.Bits.{bit_xor}
use lib.Dec.{eqb, lit<}
use lib.ListN.{length, get_or}
use Rattle.crc64_register.specs.Crc64.{bit_steps}
use Rattle.crc64_lanes.specs.Table.{every, is_entry, is_table}
use Rattle.crc64_register.proofs.LinearLaws.{bit_steps_split}

-- ---- from the test to the rule

-- a test that passes at every entry, counted from i, passes at each
every_from : (test : ℕ → ℕ → Bool) (xs : List ℕ) (i : ℕ) → every test i xs ≡ true → (k : ℕ) → k < length xs → test (i + k) (get_or xs k 0) ≡ true
unfolding every
every_from test [] i e k h = absurd (not-suc-le-zero h)
every_from test (x ∷ xs) i e zero h = rw (add-zero i) ((and-eq-true_iff (test i x) (every test (suc i) xs)).0 e).0
every_from test (x ∷ xs) i e (suc k) h =
    let place : i + suc k ≡ suc i + k = add-suc i k ∙ sym (suc-add i k) in
    rw place (every_from test xs (suc i) ((and-eq-true_iff (test i x) (every test (suc i) xs)).0 e).1 k (le_of_suc-le-suc h))

pub every_at : (test : ℕ → ℕ → Bool) (xs : List ℕ) → every test 0 xs ≡ true → (k : ℕ) → k < length xs → test k (get_or xs k 0) ≡ true
every_at test xs e k h = ap (λ (m : ℕ). test m (get_or xs k 0)) (sym (zero-add k)) ∙ every_from test xs 0 e k h

-- each entry of the table is its place taken through eight one-bit steps
pub table_at : (t : List ℕ) → is_table t ≡ true → (k : ℕ) → k < 256 → get_or t k 0 ≡ bit_steps 8 k
unfolding is_table is_entry
table_at t right k h =
    let parts = (and-eq-true_iff (eqb (length t) 256) (every is_entry 0 t)).0 right in
    let long : length t ≡ 256 = eqb-true (length t) 256 parts.0 in
    eqb-true (get_or t k 0) (bit_steps 8 k) (every_at is_entry t parts.1 k (omega arith))

-- ---- a step

-- eight bits leave by one entry
pub table_step : (t : List ℕ) → is_table t ≡ true → (r : ℕ) → bit_xor (get_or t (r % 256) 0) (r / 256) ≡ bit_steps 8 r
table_step t right r = ap (λ (x : ℕ). bit_xor x (r / 256)) (table_at t right (r % 256) (mod-lt r (lit< tt))) ∙ bit_steps_split 8 r
