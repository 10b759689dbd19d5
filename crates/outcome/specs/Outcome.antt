-- An answer, or a refusal: its number (docs/FORMAT.md has the table), and its place.
use Rattle.std.specs.Prelude.{ℕ, Bool, true, false, List}
use Rattle.output_list.specs.OutputList.{padded, zeros}

pub data Outcome (A : Type 0) : Type 0 where
  answer : A → Outcome A
  refused : (number place : ℕ) → Outcome A

infixl 20 ◌>>=◌ ◌>>◌
-- go on with the answer; a refusal stays
unfoldable pub ◌>>=◌ : {A B : Type 0} → Outcome A → (A → Outcome B) → Outcome B
answer a >>= next = next a
refused number place >>= next = refused number place

unfoldable pub ◌>>◌ : {A B : Type 0} → Outcome A → Outcome B → Outcome B
answer a >> next = next
refused number place >> next = refused number place

-- a rule: where the test fails, the refusal with this number and place
unfoldable pub must : Bool → ℕ → ℕ → Outcome (Unit {0})
must true number place = answer tt
must false number place = refused number place

-- What a public function reports. Without a refusal number and place are 0; after one every count is 0 and every list is zeros.

unfoldable pub number_of : {A : Type 0} → Outcome A → ℕ
number_of (answer a) = 0
number_of (refused number place) = number

unfoldable pub place_of : {A : Type 0} → Outcome A → ℕ
place_of (answer a) = 0
place_of (refused number place) = place

unfoldable pub count_of : {A : Type 0} → (A → ℕ) → Outcome A → ℕ
count_of count (answer a) = count a
count_of count (refused number place) = 0

-- a lent list of `room` places
unfoldable pub list_of : {A : Type 0} → (A → List ℕ) → ℕ → Outcome A → List ℕ
list_of numbers room (answer a) = padded room (numbers a)
list_of numbers room (refused number place) = zeros room
