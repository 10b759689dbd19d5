-- `find` meets its contract: what the binary search says of words whose starts rise.
use Prim.Native.Nat.{◌%◌, ◌^◌}
use borrow.Author.Rules.{rules}
use Rattle.std.proofs.lemmas.List.Sorted.{answers_always}
use Rattle.check_names.proofs.SearchLaws.{located}
use Rattle.check_names.proofs.starts.find.Goals as goal

pub returns-clause-located : goal.returns-clause-located
returns-clause-located c =
    rw c.ok.ensures.value
    (located c.args.work.now c.args.start c.binary_search_by_key.result (c.binary_search_by_key.ensures.position (λ word. word % 2 ^ 30)
    (answers_always _ _ _ (λ f word r later k. search rules))))
