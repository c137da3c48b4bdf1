use Rattle.dom_sanitize.proofs.OneClean.{stays_clean}
use Rattle.dom_sanitize.proofs.laws.cleaning_twice_is_once.Goals as goal

pub returns : goal.returns
returns c = λ allow old new good cleaned. stays_clean allow old new good (c.trees_of_a_forest.ensures new good) (c.lines_of_a_forest.ensures new good) cleaned
