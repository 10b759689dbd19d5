-- The number of a fault, and what a result of the code says: the answer, or the refusal with its number and place.
use Rattle.std.specs.Prelude.{ℕ, Result, Ok, Err}
use Rattle.outcome.specs.Outcome.{Outcome, answer, refused}
use Rattle.outcome.specs.declared.Fault.{Fault}
use Rattle.outcome.specs.declared.Fault.TheVariants.{FileTooLong, Unfinished, Magic, HeaderCutOff, HeaderCrc, HeaderLengths, Codec, FileLength, Metadata}
use Rattle.outcome.specs.declared.Fault.TheVariants.{BlockCutOff, NumberTooWide, NumberNotShortest, EmptyBlock, BlockCrc, Payload, RecordOrder}
use Rattle.outcome.specs.declared.Fault.TheVariants.{Root, WorkRoom, EntryTarget, NamedOnce, KeyOrder, WalkOrder, BlockOrder, Key, Hash}
use Rattle.outcome.specs.declared.Fault.TheVariants.{OpenedRoom, ResultRoom, Input, InputOrder, Counts, OutputRoom, Dump, Name, NumberLength, DifferenceRoom}
use Rattle.outcome.specs.declared.Refusal.{Refusal}

-- docs/FORMAT.md has the table
unfoldable pub number : Fault → ℕ
number FileTooLong = 1
number Unfinished = 2
number Magic = 3
number HeaderCutOff = 4
number HeaderCrc = 5
number HeaderLengths = 6
number Codec = 7
number FileLength = 8
number Metadata = 9
number BlockCutOff = 10
number NumberTooWide = 11
number NumberNotShortest = 12
number EmptyBlock = 13
number BlockCrc = 14
number Payload = 15
number RecordOrder = 16
number Root = 17
number WorkRoom = 18
number EntryTarget = 19
number NamedOnce = 20
number KeyOrder = 21
number WalkOrder = 22
number BlockOrder = 23
number Key = 24
number Hash = 25
number OpenedRoom = 26
number ResultRoom = 27
number Input = 28
number InputOrder = 29
number Counts = 30
number OutputRoom = 31
number Dump = 32
number Name = 33
number NumberLength = 34
number DifferenceRoom = 35

-- a fault without a place of its own
unfoldable pub at_front : Fault → Refusal
at_front fault = record { fault = fault; place = 0 }

-- what a result says, where the caller knows the place of a fault
unfoldable pub said_at : {A : Type 0} (place : ℕ) → Result A Fault → Outcome A
said_at place (Ok a) = answer a
said_at place (Err fault) = refused (number fault) place

-- what a result says
unfoldable pub said : {A : Type 0} → Result A Refusal → Outcome A
said (Ok a) = answer a
said (Err r) = refused (number r.fault) r.place
