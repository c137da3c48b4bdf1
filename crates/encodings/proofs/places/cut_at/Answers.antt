use Rattle.encodings.proofs.Parts.{cut_found, cut_nowhere}
use Rattle.encodings.proofs.places.cut_at.Goals as goal

pub returns-in-Some : goal.returns-in-Some
returns-in-Some c = cut_found c.args.byte c.args.bytes.now _ _ _ _ c.split.ensures.front c.split.ensures.rest c.in-Some.ensures.cases.0

pub returns-in-None : goal.returns-in-None
returns-in-None c = cut_nowhere c.args.byte c.args.bytes.now _ c.split.ensures.rest c.in-None.ensures.cases
