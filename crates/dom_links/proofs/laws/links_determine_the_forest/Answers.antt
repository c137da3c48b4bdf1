use Rattle.dom_links.proofs.forest.Chains.{forest_of-arena}
use Rattle.dom_links.proofs.laws.links_determine_the_forest.Goals as goal

pub returns : goal.returns
returns c = forest_of-arena
