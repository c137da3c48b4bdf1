use Rattle.dom_sanitize.proofs.CleanLemmas.{are_allowed}
use Rattle.dom_sanitize.proofs.laws.what_is_left_is_allowed.Goals as goal

pub returns : goal.returns
returns c = λ allow old new good cleaned. are_allowed allow old new good (c.trees_of_a_forest.ensures new good) cleaned
