-- The code's form of Ch is the standard's on words.
use Rattle.std.proofs.Common.{rules}
use Rattle.sha256_block.proofs.ChooseLaws.{Ch_choose}
use Rattle.sha256_block.proofs.word.ch.Goals as goal

pub returns : goal.returns
returns c = Ch_choose c.args.x c.args.y c.args.z (search rules) (search rules) (search rules)
