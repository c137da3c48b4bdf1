use Rattle.std.proofs.Common.{◌≡◌, drop}
use Rattle.dom_links.specs.Forest.{forest_of}
use Rattle.dom_selectors.specs.MiniSyntax.{texts_of}
use Rattle.dom_mini.specs.Traversals.{child_by_names}
use Rattle.dom_mini.proofs.traversal.Traversal.find_descendant_element.Given as goal

abbrev pub invariant-loop-name : goal.invariant-loop-name
invariant-loop-name l = child_by_names (forest_of l.nodes) l.at (texts_of (drop l.name-index l.path)) ≡ child_by_names (forest_of l.nodes) l.fn.id (texts_of l.path)
