-- `read` meets its contract: over a list that was cleared. Assumes nothing.
use mathlib.Core.Path.{ap, ◌∙◌}
use Prim.Native.Nat.{ℕ}
use Rattle.outcome.specs.Fault.{said}
use Rattle.query.specs.Asked.{asked}
use Rattle.reader.specs.Read.{read_of, read_answer, read_list}
use Rattle.reader.proofs.ReadLaws.{told_count, told_fault, still_zeros, still_long}
use Rattle.reader.proofs.read.Goals as goal

pub read_file-requires : goal.read_file-requires
read_file-requires c = still_zeros c.args.results.now _ c.clear.ensures

pub returns-in-Ok-clause-value : goal.returns-in-Ok-clause-value
unfolding said
returns-in-Ok-clause-value c =
    told_count _ _ c.in-Ok.ensures.value
    ∙ ap (λ (n : ℕ). read_answer (read_of c.args.file.now (asked c.args.query) n)) (still_long c.args.results.now _ c.clear.ensures)

pub returns-in-Ok-clause-results_after : goal.returns-in-Ok-clause-results_after
returns-in-Ok-clause-results_after c =
    c.in-Ok.ensures.results_after
    ∙ ap (λ (n : ℕ). read_list n (read_of c.args.file.now (asked c.args.query) n)) (still_long c.args.results.now _ c.clear.ensures)

pub returns-in-Err-clause-value : goal.returns-in-Err-clause-value
unfolding said
returns-in-Err-clause-value c =
    c.into.ensures
    ∙ (told_fault 0 _ _ c.in-Err.ensures.value).0
    ∙ ap (λ (n : ℕ). read_answer (read_of c.args.file.now (asked c.args.query) n)) (still_long c.args.results.now _ c.clear.ensures)

pub returns-in-Err-clause-results_after : goal.returns-in-Err-clause-results_after
returns-in-Err-clause-results_after c =
    c.in-Err.ensures.results_after
    ∙ ap (λ (n : ℕ). read_list n (read_of c.args.file.now (asked c.args.query) n)) (still_long c.args.results.now _ c.clear.ensures)
