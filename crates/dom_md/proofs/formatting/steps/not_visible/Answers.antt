use Rattle.dom_md.proofs.SpacedLemmas.{marks-turned}
use Rattle.dom_md.proofs.formatting.steps.not_visible.Goals as goal

pub returns : goal.returns
returns c = marks-turned c.args.v c.at_most.result c.fits-v.0 c.fits-v.1 c.at_most.ensures
