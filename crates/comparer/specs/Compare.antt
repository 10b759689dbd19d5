-- Comparing two files: the check of the first, that of the second, and 35; then what differs.
use Rattle.std.specs.Prelude.{ℕ, List, leb, ℤ, pos, length}
use Rattle.outcome.specs.Outcome.{Outcome, answer, refused, ◌>>=◌, ◌>>◌, must, number_of, place_of, count_of, list_of}
use Rattle.block.specs.Block.{Block}
use Rattle.block.specs.Survey.{records_of}
use Rattle.checker.specs.Check.{check_of}
use Rattle.differences.specs.Differences.{Difference, differences, numbers_of, room_for, sum_of}
use Rattle.comparer.specs.declared.Compared.{Compared}

-- 35 exactly if the list has fewer than five places for each difference
unfoldable pub listed_in : (room : ℕ) → List Difference → Outcome (List Difference)
listed_in room ds = do
  must (leb (room_for (length ds)) room) 35 0
  answer ds

-- with a work list of so many places for each check, and a list of so much room
unfoldable pub compare_of : (first second : List ℕ) (places room : ℕ) → Outcome (List Difference)
compare_of first second places room = do
  xs ← check_of first places
  ys ← check_of second places
  listed_in room (differences (records_of xs) (records_of ys))

-- which file is refused: 1, 2, or 0 for none
unfoldable pub refused_file : (first second : Outcome (List Block)) → ℕ
refused_file (refused number place) second = 1
refused_file (answer xs) (refused number place) = 2
refused_file (answer xs) (answer ys) = 0

unfoldable pub sum_in : Outcome (List Difference) → ℤ
sum_in (answer ds) = sum_of ds
sum_in (refused number place) = pos 0

-- what is answered
unfoldable pub answered : (which : ℕ) → Outcome (List Difference) → Compared
answered which o = record { number = number_of o; place = place_of o; which = which; differences = count_of length o; sum = sum_in o }

-- what `compare_files` answers, and what its list holds
unfoldable pub compare_answer : (first second : List ℕ) (places room : ℕ) → Compared
compare_answer first second places room = answered (refused_file (check_of first places) (check_of second places)) (compare_of first second places room)

unfoldable pub compare_list : (first second : List ℕ) (places room : ℕ) → List ℕ
compare_list first second places room = list_of numbers_of room (compare_of first second places room)
