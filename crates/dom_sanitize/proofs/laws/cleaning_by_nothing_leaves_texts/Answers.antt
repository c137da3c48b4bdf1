use Rattle.dom_sanitize.proofs.TextLemmas.{texts_alone}
use Rattle.dom_sanitize.proofs.laws.cleaning_by_nothing_leaves_texts.Goals as goal

pub returns : goal.returns
returns c = λ allow old new good cleaned none. texts_alone allow old new good (c.trees_of_a_forest.ensures new good) cleaned none
