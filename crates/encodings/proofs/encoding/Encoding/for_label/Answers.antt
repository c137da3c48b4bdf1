use Rattle.std.proofs.Common.{◌∙◌, ap, map}
use Rattle.std.specs.Char.{to_ascii_lowercase}
use Rattle.encodings.specs.Labels.{encoding_of, labelled}
use Rattle.encodings.specs.declared.labels.TheConstants.{LABELS}
use Rattle.encodings.proofs.Words.{trimmed_is}
use Rattle.encodings.proofs.encoding.Encoding.for_label.Goals as goal

pub returns : goal.returns
unfolding encoding_of labelled
returns c =
    c.find.ensures ∙ ap (λ t. labelled (λ row. row.0.now) (λ row. row.1) LABELS (map to_ascii_lowercase t)) (trimmed_is c.args.label.now c.trim_ascii.result.now c.trim_ascii.ensures.value)
