-- Iterators over the nodes that a selector matches.
use Rattle.std.specs.Prelude.{ℕ, ◌≡◌, true, List, [], ◌∷◌, ◌++◌, IfOk, Option, MatchOption, Result}
use Rattle.std.specs.Global.{Vec}
use Rattle.std.specs.Iterator.{Drains}
use Rattle.std.specs.Borrow.{Bor}
use Rattle.dom_links.specs.Forest.{Forest}
use Rattle.dom_trees.specs.declared.node_ref.NodeRef.{NodeRef}
use Rattle.dom_selectors.specs.Syntax.{SelectorList}
use Rattle.dom_select.specs.Meaning.{MatchesNode}
use Rattle.dom_links.specs.ListMoves.{element_at}
use Rattle.dom_select.specs.Selected.{FiltersTo, Selected, walks_below}

-- the node is an element that the selector matches
abbrev pub IsMatch : SelectorList → Forest → ℕ → Type 0
IsMatch selector forest n = (element_at forest n ≡ true) × MatchesNode selector forest n

-- the nodes that are still to be visited, their tree, and the selector
pub record Matches : Type 0 where
  pub left : List ℕ
  pub tree : Bor Forest
  pub selector : SelectorList

-- the ids that are still to be returned: the elements among the unvisited nodes that the selector matches
abbrev pub ToCome : Matches → List ℕ → Type 0
ToCome walk ids = FiltersTo (IsMatch walk.selector walk.tree.now) walk.left ids

-- the iterator returns what the selector selects below the roots
abbrev pub SelectsBelow : Matches → Forest → List ℕ → SelectorList → Type 0
SelectsBelow walk forest roots selector = (ids : List ℕ) → ToCome walk ids → Selected forest roots selector ids

-- on success, the iterator visits all nodes below the roots
abbrev pub WalksAll : {T E : Type 0} → Result T E → (T → Matches) → Forest → List ℕ → Type 0
WalksAll result view forest roots = IfOk result (λ it. (view it).left ≡ walks_below forest roots)

-- on success, the iterator returns all that the selector selects below the roots
abbrev pub SelectsAll : {T E : Type 0} → Result T E → (T → Matches) → Forest → List ℕ → SelectorList → Type 0
SelectsAll result view forest roots selector = IfOk result (λ it. SelectsBelow (view it) forest roots selector)

-- The contract of a call that filters the items of an iterator: it returns those for which the statement holds.
abbrev pub FiltersItems : {I E : Type 0} → Result (Vec ℕ) E → (I → Option ℕ → I → Type 0) → I → (ℕ → Type 0) → Type 0
FiltersItems result gives items P = IfOk result (λ matched. (ns : List ℕ) × Drains gives items ns × FiltersTo P ns matched.items)

-- the node is the first unvisited element that the selector matches, and the nodes after it are left
pub record IsFirstMatch (before : Matches) (node : NodeRef) (later : Matches) : Type 0 where
  pub tree : node.tree ≡ before.tree
  pub meant : IsMatch before.selector before.tree.now node.id
  pub passed : List ℕ
  pub stands : before.left ≡ passed ++ node.id ∷ later.left
  pub none_before : FiltersTo (IsMatch before.selector before.tree.now) passed []

-- a call of `next` returns the first match and leaves the nodes after it, or returns `None` if there is no match left
pub record GivesMatch (before : Matches) (given : Option NodeRef) (later : Matches) : Type 0 where
  pub tree : later.tree ≡ before.tree
  pub selector : later.selector ≡ before.selector
  pub first : MatchOption given (ToCome before [] × (later.left ≡ [])) (λ node. IsFirstMatch before node later)
