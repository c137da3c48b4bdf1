use Rattle.std.proofs.Common.{◌≡◌}
use Rattle.std.specs.List.{list_all}
use Rattle.dom_nodes.specs.Kinds.{is_text}
use Rattle.dom_links.specs.Forest.{children_of}
use Rattle.dom_trees.specs.Views.{node_is}
use Rattle.dom_md.proofs.serializer.nodes.holds_texts.Given as goal

-- the children that are left decide
abbrev pub invariant-loop-child : goal.invariant-loop-child
invariant-loop-child l =
    list_all (λ child. node_is is_text l.node.tree.now child) l.child-iterator ≡ list_all (λ child. node_is is_text l.node.tree.now child) (children_of l.node.tree.now l.node.id)
