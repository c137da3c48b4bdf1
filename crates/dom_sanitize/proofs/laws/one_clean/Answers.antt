use Rattle.dom_sanitize.proofs.OneClean.{one_clean}
use Rattle.dom_sanitize.proofs.laws.one_clean.Goals as goal

pub returns : goal.returns
returns c = λ allow forest good a b is so one two. one_clean allow forest a b good (c.trees_of_a_forest.ensures forest good) is so one two
