use Rattle.std.proofs.Common.{refl}
use Rattle.encodings.specs.Labels.{labelled}
use Rattle.encodings.proofs.encoding.Encoding.labels.Goals as goal

pub returns : goal.returns
unfolding labelled
returns c = λ label. refl
