use Rattle.std.proofs.Common.{length, sym, ap, ◌∙◌}
use Rattle.dom_links.specs.Copies.{copied}
use Rattle.dom_links.specs.Trees.{trees}
use Rattle.dom_trees.specs.SameTree.{tree_shape}
use Rattle.dom_links.proofs.copies.CopiedForests.{all_may}
use Rattle.dom_trees.proofs.CopiedTrees.{copies_known, same_shown}
use Rattle.dom_trees.proofs.laws.copies_are_the_same_trees.Goals as goal

pub returns : goal.returns
returns c = λ source ns forest good fine may.
    let law = c.copies_of_a_forest.ensures source ns forest good fine may in
    record {
      known = all_may source ns may;
      other_known = copies_known source (copied source ns forest) (trees source ns) (length forest.content) law.same_data;
      same = same_shown source (copied source ns forest) (trees source ns) (length forest.content) law.same_data ∙ ap (tree_shape (copied source ns forest)) (sym law.same_trees);
    }
