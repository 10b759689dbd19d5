-- The metadata rule, as a relation and as a test.
use Rattle.std.specs.Prelude.{ℕ, ◌-◌, ◌≡◌, Bool, ◌&&◌, List, eqb, length, get_or}
use Rattle.utf8.specs.Utf8.{Utf8, is_utf8}
use Rattle.json_grammar.specs.Grammar.{Derives, object}
use Rattle.json_grammar.specs.Recogniser.{is_object}

-- The metadata are UTF-8 and one JSON object, in which objects and arrays are nested at most 64 deep, itself among them. The first byte is
-- `{` and the last `}`.
pub record Metadata (m : List ℕ) : Type 0 where
  pub opens : get_or m 0 0 ≡ 0x7b
  pub closes : get_or m (length m - 1) 0 ≡ 0x7d
  pub text : Utf8 m
  pub derived : Derives object 64 m

-- whether they are
unfoldable pub is_metadata : List ℕ → Bool
is_metadata m = eqb (get_or m 0 0) 0x7b && (eqb (get_or m (length m - 1) 0) 0x7d && (is_utf8 m && is_object 64 m))
