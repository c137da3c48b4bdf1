use Rattle.encodings.proofs.Declares.{meta_declares}
use Rattle.encodings.proofs.laws.the_first_meta_declares.Goals as goal

pub returns : goal.returns
returns c = meta_declares
