use Rattle.dom_links.proofs.copies.CopiedForests.{all_may}
use Rattle.dom_links.proofs.copies.CopiedTrees.{are_copies}
use Rattle.dom_links.proofs.laws.copies_of_a_forest.Goals as goal

pub returns : goal.returns
returns c = λ source ns forest good fine may. are_copies source ns forest good fine (all_may source ns may)
