-- The nodes that can be on the left of a combinator.
use Rattle.std.specs.Prelude.{ℕ, Bool, true, false, Option, List}
use Rattle.dom_links.specs.ListMoves.{element_at}
use Rattle.dom_links.specs.Forest.{Forest, parent, siblings}
use Rattle.dom_links.specs.Lists.{before}
use Rattle.dom_links.specs.Trees.{ancestors}
use Rattle.dom_links.specs.Walk.{later}
use Rattle.dom_selectors.specs.declared.syntax.Combinator.{Combinator}
use Rattle.dom_selectors.specs.declared.syntax.Combinator.TheVariants.{Descendant, Child, Adjacent, Sibling}

-- the siblings before a node, the nearest first
abbrev pub earlier : Forest → ℕ → List ℕ
earlier forest n = later forest true n

-- the next node to the left: the parent, or the previous sibling
abbrev pub left_of : Forest → Combinator → ℕ → Option ℕ
left_of forest Descendant n = parent forest n
left_of forest Child n = parent forest n
left_of forest Adjacent n = before (siblings forest n) n
left_of forest Sibling n = before (siblings forest n) n

-- all nodes to the left, the nearest first: the ancestors, or the previous siblings
abbrev pub line : Forest → Combinator → ℕ → List ℕ
line forest Descendant n = ancestors forest n
line forest Child n = ancestors forest n
line forest Adjacent n = earlier forest n
line forest Sibling n = earlier forest n

-- no node farther to the left can be related by the combinator
abbrev pub ends_at : Forest → Combinator → ℕ → Bool
ends_at forest Descendant n = false
ends_at forest Child n = true
ends_at forest Adjacent n = element_at forest n
ends_at forest Sibling n = false
