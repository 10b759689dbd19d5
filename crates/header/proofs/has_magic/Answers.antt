-- `has_magic` meets its contract: std's comparison with the front is that of the definition. Assumes nothing.
use mathlib.Core.Path.{◌∙◌}
use Rattle.header.specs.Header.{magic}
use Rattle.header.proofs.RuleLaws.{starts}
use Rattle.header.proofs.has_magic.Goals as goal

pub returns : goal.returns
unfolding magic
returns c = c.starts_with.ensures.value ∙ starts magic c.args.file.now
