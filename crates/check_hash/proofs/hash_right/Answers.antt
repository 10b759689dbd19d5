-- `hash_right` meets its contract: the state holds the payloads, so its digest is their hash. Assumes nothing.
use mathlib.Core.Path.{◌∙◌}
use borrow.Author.Tests.{lt-leb}
use Rattle.block.specs.Laid.{laid_from}
use Rattle.tree.specs.Stages.{payloads}
use Rattle.check_hash.proofs.HashLaws.{holds_hash, hash_missing, hash_compared}
use Rattle.check_hash.proofs.hash_right.Goals as goal

pub returns-else-file-ge-HASH_AT : goal.returns-else-file-ge-HASH_AT
returns-else-file-ge-HASH_AT c =
    lt-leb _ _ c.if-file-ge-HASH_AT.false
    ∙ hash_missing c.args.file.now (payloads c.args.file.now (laid_from c.args.file.now c.args.from)) c.if-file-ge-HASH_AT.false

pub returns-then-file-ge-HASH_AT : goal.returns-then-file-ge-HASH_AT
returns-then-file-ge-HASH_AT c =
    c.begins.ensures
    ∙ hash_compared c.args.file.now _ _ _ (c.finish-digest.ensures ∙ holds_hash c.args.file.now c.args.from c.requires _ c.hashed.ensures)
    c.compare.ensures
