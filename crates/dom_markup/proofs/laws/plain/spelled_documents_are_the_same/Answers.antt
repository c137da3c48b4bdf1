use Rattle.std.proofs.Common.{subst}
use Rattle.dom_trees.specs.SameTree.{SameTree}
use Rattle.dom_markup.specs.Numbered.{document_of}
use Rattle.dom_markup.specs.ValueTrees.{ValueTrees}
use Rattle.dom_markup.proofs.laws.plain.spelled_documents_are_the_same.Goals as goal

pub returns : goal.returns
returns c = λ text forest trees spelled spells.
    subst (λ (values : ValueTrees). SameTree forest 0 (document_of values) 0) (c.one_reading.ensures text spelled.trees trees spelled.spelled spells) spelled.same
