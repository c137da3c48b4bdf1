use Rattle.dom_sanitize.proofs.CleanLemmas.{nothing_appears}
use Rattle.dom_sanitize.proofs.laws.nothing_new_appears.Goals as goal

pub returns : goal.returns
returns c = λ allow old new was good cleaned. nothing_appears allow old new was (c.trees_of_a_forest.ensures old was) good (c.trees_of_a_forest.ensures new good) cleaned
