-- Fragments: nodes that were parsed or copied, placed below an element `html`.
use Rattle.std.specs.Prelude.{ℕ, ◌≡◌, ◌<◌, ◌==◌, ◌||◌, ◌⊎◌, Bool, not, List, [], ◌∷◌, codes, filter, length, if◌then◌else◌}
use Rattle.dom_nodes.specs.Kinds.{is_doctype, is_top}
use Rattle.dom_nodes.specs.declared.fault.EditFault.{EditFault}
use Rattle.dom_nodes.specs.declared.fault.MarkupFaultKind.{MarkupFaultKind}
use Rattle.dom_nodes.specs.declared.fault.MarkupFaultKind.TheVariants.{TooManyNodes}
use Rattle.dom_links.specs.Copies.{FragmentCause, fragment_of}
use Rattle.dom_links.specs.Forest.{Forest, children_of}
use Rattle.dom_trees.specs.NewNodes.{html_root_element}
use Rattle.dom_trees.specs.Views.{has_local_name, node_is}
use Rattle.dom_markup.specs.Markup.{Spells}
use Rattle.dom_markup.specs.Numbered.{document_of}
use Rattle.dom_markup.specs.FaultKinds.{IsLimitFault}
use Rattle.dom_markup.specs.Refusals.{BeginsTooManyNodes, IsFaultAt, Refused}
use Rattle.dom_markup.specs.ValueTrees.{ValueTrees}

-- the children of the root, without doctypes
abbrev pub top_nodes : Forest → List ℕ
top_nodes read = filter (λ n. not (node_is is_doctype read n)) (children_of read 0)

-- A fragment node, its child `html`, and below that the root's children without doctypes. New node ids follow each other.
abbrev pub fragment_read : Forest → Forest
fragment_read read = fragment_of html_root_element read (top_nodes read)

-- the tree is the fragment that the grammar reads the text as
abbrev pub IsFragmentOf : List ℕ → Forest → Type 0
IsFragmentOf text forest = (trees : ValueTrees) × Spells text trees × (forest ≡ fragment_read (document_of trees))

-- what a fault says about a text that was parsed as a fragment
abbrev pub FragmentRefused : List ℕ → MarkupFaultKind → Type 0
FragmentRefused text TooManyNodes =
    BeginsTooManyNodes text ⊎ ((trees : ValueTrees) × Spells text trees × (4294967295 < length (fragment_read (document_of trees)).content))
FragmentRefused text kind = Refused text kind

-- What a fault says about the byte at which it is reported: the same as for a document, or a limit at the end of the text.
abbrev pub IsFragmentFaultAt : List ℕ → ℕ → MarkupFaultKind → Type 0
IsFragmentFaultAt text at kind = IsFaultAt text at kind ⊎ ((at ≡ length text) × IsLimitFault kind)

-- the fragment of this node is a copy of the whole tree: the node is the root, or an element named `html`
abbrev pub is_whole : Forest → ℕ → Bool
is_whole forest n = n == 0 || has_local_name forest n (codes "html")

-- the nodes that a node's fragment copies: the children of a document or fragment, and otherwise the node itself
abbrev pub fragment_roots : Forest → ℕ → List ℕ
fragment_roots forest n = if node_is is_top forest n then children_of forest n else n ∷ []

-- the tree that `to_fragment` returns for a node
abbrev pub node_fragment : Forest → ℕ → Forest
node_fragment forest n = if is_whole forest n then forest else fragment_of html_root_element forest (fragment_roots forest n)

-- why the fragment of a node can't be made
abbrev pub NodeFragmentCause : Forest → ℕ → EditFault → Type 0
NodeFragmentCause forest n fault = FragmentCause html_root_element forest (fragment_roots forest n) fault
