-- The records that match a query.
use Rattle.std.specs.Prelude.{ℕ, ◌-◌, List, length}
use Rattle.lists.specs.Lists.{keep}
use Rattle.items.specs.Items.{sound_from}
use Rattle.payload.specs.Payload.{Text, text_at}
use Rattle.query.specs.Query.{Query, matches}

-- the records that match, in file order, each as often as stored
unfoldable pub matching : Query → List Text → List Text
matching q rs = keep (λ r. matches q r.bytes) rs

-- the records that can be read from an offset to the end of s
unfoldable pub records_from : (place : ℕ) (s : List ℕ) (from : ℕ) → List Text
records_from place s from = sound_from (text_at place s) (length s) (length s - from) from
