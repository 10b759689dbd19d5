-- What the answers of the code say, in the terms of the recogniser.
use Rattle.std.specs.Prelude.{ℕ, List, Some, None}
use Rattle.std.specs.Prelude.{Option as Given}
use Rattle.std.specs.Borrow.{Bor}
use Rattle.std.proofs.Math.Option.{Option, none, some}
use Rattle.json_text.specs.declared.value.Kind.{Kind}
use Rattle.json_text.specs.declared.value.Kind.TheVariants.{Object, Array}
use Rattle.json_grammar.specs.Recogniser.{chars_end, name_end, member_over, value_end, object_end, array_end}

-- what is left after a text, or that there is none
abbrev pub left : Given (Bor (List ℕ)) → Option (List ℕ)
left None = none
left (Some s) = some s.now

-- where a string ends that goes on after a text
abbrev pub chars_after : Given (Bor (List ℕ)) → Option (List ℕ)
chars_after None = none
chars_after (Some s) = chars_end 0 s.now

-- the name of an item and its separator; a value of an array has none
abbrev pub name_of : Kind → List ℕ → Option (List ℕ)
name_of Object = name_end
name_of Array = some

-- a member or a value
abbrev pub item_of : Kind → (depth : ℕ) → List ℕ → Option (List ℕ)
item_of Object depth = member_over (value_end depth)
item_of Array depth = value_end depth

-- an object or an array
abbrev pub container_of : Kind → (depth : ℕ) → List ℕ → Option (List ℕ)
container_of Object = object_end
container_of Array = array_end

-- the characters that a container stands between
abbrev pub opening_of : Kind → ℕ
opening_of Object = 0x7b
opening_of Array = 0x5b

abbrev pub closing_of : Kind → ℕ
closing_of Object = 0x7d
closing_of Array = 0x5d
