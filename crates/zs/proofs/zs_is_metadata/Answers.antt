-- `zs_is_metadata` meets its contract: that of `is_metadata`, and what the relation says of its answer. Assumes nothing.
use mathlib.Core.Path.{sym, ◌∙◌}
use Rattle.header.proofs.MetadataLaws.{is_metadata⇒Metadata, Metadata⇒is_metadata}
use Rattle.zs.proofs.zs_is_metadata.Goals as goal

pub returns : goal.returns
returns c =
    record {
      value = c.is_metadata.ensures;
      variant = (
        (λ yes. is_metadata⇒Metadata c.args.bytes.now (sym c.is_metadata.ensures ∙ yes)),
        (λ rule. c.is_metadata.ensures ∙ Metadata⇒is_metadata c.args.bytes.now rule),
      );
    }
