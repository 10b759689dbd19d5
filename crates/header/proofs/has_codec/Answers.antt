-- `has_codec` meets its contract: std's comparison with the front is that of the definition. Assumes nothing.
use mathlib.Core.Path.{◌∙◌}
use Rattle.header.specs.Header.{codec_none}
use Rattle.header.proofs.RuleLaws.{starts}
use Rattle.header.proofs.has_codec.Goals as goal

pub returns : goal.returns
unfolding codec_none
returns c = c.starts_with.ensures.value ∙ starts codec_none c.args.rest.now
