use Rattle.standard_agreement.proofs.Fragments.{fragment_built}
use Rattle.standard_agreement.proofs.plain_fragments_are_built.Goals as goal

pub returns : goal.returns
returns c = fragment_built
