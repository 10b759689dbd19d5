-- `bench_sha256` meets its contract: the state absorbed all bytes at once. Assumes nothing.
use mathlib.Core.Path.{◌∙◌}
use native.Mathlib.Omega.{arith}
use Rattle.bench_exports.proofs.DigestLaws.{digest_start_long, finished_at_once}
use Rattle.bench_exports.proofs.bench_sha256.Goals as goal

pub returns-then-bytes-gt-LONGEST : goal.returns-then-bytes-gt-LONGEST
returns-then-bytes-gt-LONGEST c =
    digest_start_long c.args.bytes.now (omega arith)

pub returns : goal.returns
returns c =
    c.le64_at.ensures ∙ finished_at_once c.args.bytes.now (omega arith) _ c.begin-begun.ensures _ c.absorb-state.ensures _ c.finish-digest.ensures
