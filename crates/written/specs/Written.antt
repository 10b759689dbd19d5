-- What a function that fills a lent output answers and leaves there, by the bytes that it writes or its refusal.
use Rattle.std.specs.Prelude.{ℕ, List, length}
use Rattle.outcome.specs.Outcome.{Outcome, number_of, place_of, count_of, list_of}
use Rattle.written.specs.declared.Written.{Written}

-- the answer: the refusal, or how many bytes were written
unfoldable pub written_answer : Outcome (List ℕ) → Written
written_answer o = record { number = number_of o; place = place_of o; length = count_of length o }

-- the output then: the bytes and zeros after them; after a refusal zeros
unfoldable pub written_output : (room : ℕ) → Outcome (List ℕ) → List ℕ
written_output room o = list_of (λ bytes. bytes) room o
