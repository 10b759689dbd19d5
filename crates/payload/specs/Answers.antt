-- What the answers of this crate's functions say, in the terms of the definitions. A refusal gets the place that the caller knows.
use Rattle.std.specs.Prelude.{ℕ, ◌≡◌, ◌+◌, ◌<◌, ◌≤◌, List, length, Result, Ok, Err}
use Rattle.outcome.specs.Outcome.{Outcome, answer, refused, ◌>>=◌}
use Rattle.outcome.specs.declared.Fault.{Fault}
use Rattle.outcome.specs.Fault.{number}
use Rattle.items.specs.declared.Step.{Step}
use Rattle.part.specs.Part.{part}
use Rattle.part.specs.declared.Part.{Part}
use Rattle.payload.specs.declared.Entry.{Entry as Found}
use Rattle.payload.specs.Payload.{Text, Entry}

-- the byte string of this length at an offset of s
unfoldable pub text_in : List ℕ → (at length : ℕ) → Text
text_in s at length = record { at = at; bytes = part s at length }

unfoldable pub text_said : ℕ → List ℕ → Result Part Fault → Outcome (Step Text)
text_said place s (Ok p) = answer (record { item = text_in s p.offset p.length; next = p.offset + p.length })
text_said place s (Err fault) = refused (number fault) place

-- the entry that was found in s
unfoldable pub entry_in : List ℕ → Found → Entry
entry_in s e = record { key = text_in s e.key.offset e.key.length; offset = e.offset; size = e.size }

unfoldable pub entry_said : ℕ → List ℕ → Result (Step Found) Fault → Outcome (Step Entry)
entry_said place s (Ok e) = answer (record { item = entry_in s e.item; next = e.next })
entry_said place s (Err fault) = refused (number fault) place

-- the key that an answer names lies within s
unfoldable pub KeyWithin : List ℕ → Result (Step Found) Fault → Type 0
KeyWithin s (Ok e) = e.item.key.offset + e.item.key.length ≤ length s
KeyWithin s (Err fault) = Unit {0}

-- what a pass over the items of a payload reports: how many there are
unfoldable pub counted : {A : Type 0} → Outcome (List A) → Outcome ℕ
counted o = o >>= λ xs. answer (length xs)

-- an item that stands at an offset of s: its byte string lies within s, and the next item begins after it, within s
pub record Standing {A : Type 0} (step_at : ℕ → List ℕ → ℕ → Outcome (Step A)) (text_of : A → Text) (s : List ℕ) (at : ℕ) (p : Step Part) : Type 0 where
  pub item : A
  pub read : (place : ℕ) → step_at place s at ≡ answer (record { item = item; next = p.next })
  pub text : text_of item ≡ text_in s p.item.offset p.item.length
  pub inside : p.item.offset + p.item.length ≤ length s
  pub forward : at < p.next
  pub within : p.next ≤ length s

-- what reading an item at an offset of s reports: the part that its byte string is and where the next item begins, or why none stands there
unfoldable pub ItemRead : {A : Type 0} (step_at : ℕ → List ℕ → ℕ → Outcome (Step A)) (text_of : A → Text) (s : List ℕ) (at : ℕ) → Result (Step Part) Fault → Type 0
ItemRead step_at text_of s at (Ok p) = Standing step_at text_of s at p
ItemRead step_at text_of s at (Err fault) = (place : ℕ) → step_at place s at ≡ refused (number fault) place
