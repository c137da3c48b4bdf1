use Rattle.dom_mini.proofs.OnwardLemmas.{found_led}
use Rattle.dom_mini.proofs.laws.found_exactly.Goals as goal

pub returns : goal.returns
returns c minis forest x found good known h =
    found_led forest (c.lines_of_a_forest.ensures forest good) (c.trees_of_a_forest.ensures forest good) minis x found known h
