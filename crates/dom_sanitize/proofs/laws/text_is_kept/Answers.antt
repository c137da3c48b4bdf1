use Rattle.dom_sanitize.proofs.TextLemmas.{text_kept}
use Rattle.dom_sanitize.proofs.laws.text_is_kept.Goals as goal

pub returns : goal.returns
returns c = λ allow old new was good cleaned. text_kept allow old new was (c.trees_of_a_forest.ensures old was) good (c.trees_of_a_forest.ensures new good) cleaned
