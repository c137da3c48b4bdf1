use Rattle.std.proofs.Common.{refl, ◌∙◌, ap}
use Rattle.dom_links.specs.Trees.{upward}
use Rattle.dom_links.proofs.forest.Depth.{parent_inside, upward-none}
use Rattle.dom_links.proofs.walks.DownUp.{after_or_before, below_or_above}
use Rattle.dom_links.proofs.walks.Later.{Begins, begins, Follows, follows, ancestors-parent, tree_at}
use Rattle.dom_links.proofs.forest.Nodes.{children_past, siblings_past}
use Rattle.dom_links.proofs.forest.Grown.{new_parentless}
use Rattle.dom_links.proofs.laws.lines_of_a_forest.Goals as goal

pub returns : goal.returns
returns c = λ forest good. record {
  up = λ n p is. ancestors-parent forest n p good is (parent_inside forest n p good is);
  top = λ n is. ap (upward forest) is ∙ upward-none forest;
  beside = λ rev n. Follows.rest (follows forest rev n _ good refl);
  beside_known = λ rev n. Follows.within (follows forest rev n _ good refl);
  below = λ rev n. Begins.all (begins forest rev n _ good refl);
  below_known = λ rev n. Begins.within (begins forest rev n _ good refl);
  unknown_alone = λ n past. (new_parentless forest n good.once past, siblings_past forest n good.once past, children_past forest n good.once past);
  row_trees = λ n known. tree_at forest n good known;
  below_above = λ n m. below_or_above forest good n m;
  after_before = λ n m. after_or_before forest n m good;
  together = λ rev n m is. Follows.same_parent (follows forest rev n _ good refl) m is;
}
