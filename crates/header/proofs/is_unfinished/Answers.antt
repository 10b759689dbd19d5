-- `is_unfinished` meets its contract: std's comparison with the front is that of the definition. Assumes nothing.
use mathlib.Core.Path.{◌∙◌}
use Rattle.header.specs.Header.{unfinished_magic}
use Rattle.header.proofs.RuleLaws.{starts}
use Rattle.header.proofs.is_unfinished.Goals as goal

pub returns : goal.returns
unfolding unfinished_magic
returns c = c.starts_with.ensures.value ∙ starts unfinished_magic c.args.file.now
