-- What selectors select below nodes, and which nodes they match.
use Rattle.std.specs.Prelude.{ℕ, ◌≡◌, ◌≢◌, ◌⊎◌, List, [], ◌∷◌, ◌++◌, Option, MatchOption, chars}
use Rattle.std.specs.Borrow.{Bor}
use Rattle.dom_links.specs.Forest.{Forest}
use Rattle.dom_links.specs.Lists.{without}
use Rattle.dom_trees.specs.declared.node_ref.NodeRef.{NodeRef}
use Rattle.dom_trees.specs.Views.{refs_to}
use Rattle.dom_selectors.specs.Grammar.{StandsFor, StandsForNothing}
use Rattle.dom_selectors.specs.Syntax.{SelectorList}
use Rattle.dom_select.specs.ByText.{ByText}
use Rattle.dom_select.specs.Descendants.{IsMatch, Matches, ToCome}
use Rattle.dom_select.specs.Meaning.{MatchesNode}
use Rattle.dom_select.specs.Selected.{FiltersTo, Selected, walks_below}
use Rattle.dom_selection.specs.Selections.{ids_of}

-- The found nodes are those that the relation allows for the forest and the ids of the nodes, in
-- the tree of the nodes. Without nodes, nothing is found.
abbrev pub AreFound : (Forest → List ℕ → List ℕ → Type 0) → List NodeRef → List NodeRef → Type 0
AreFound Decided [] found = found ≡ []
AreFound Decided (node ∷ nodes) found = (ids : List ℕ) × Decided node.tree.now (ids_of (node ∷ nodes)) ids × (found ≡ refs_to node.tree ids)

-- The selector selects exactly these nodes below the nodes.
abbrev pub Selects : SelectorList → List NodeRef → List NodeRef → Type 0
Selects selector nodes found = AreFound (λ forest ns ids. Selected forest ns selector ids) nodes found

-- The nodes that the iterator will return are those that the selector selects below the nodes.
abbrev pub WillSelect : SelectorList → List NodeRef → Matches → Type 0
WillSelect selector nodes walk = (ids : List ℕ) → ToCome walk ids → Selects selector nodes (refs_to walk.tree ids)

-- The first id of which P is true, alone; none if P is true of none.
abbrev pub PicksFirst : (ℕ → Type 0) → List ℕ → List ℕ → Type 0
PicksFirst P ns [] = FiltersTo P ns []
PicksFirst P ns (n ∷ more) = (more ≡ []) × P n × (passed : List ℕ) × (later : List ℕ) × (ns ≡ passed ++ n ∷ later) × FiltersTo P passed []

-- The first of the nodes that the selector selects below the nodes, alone; none if it selects none.
abbrev pub SelectsFirst : SelectorList → List NodeRef → List NodeRef → Type 0
SelectsFirst selector nodes found = AreFound (λ forest ns ids. PicksFirst (IsMatch selector forest) (walks_below forest ns) ids) nodes found

-- Those of the nodes that match the selector.
abbrev pub Keeps : SelectorList → List NodeRef → List NodeRef → Type 0
Keeps selector nodes found = AreFound (λ forest ns ids. FiltersTo (MatchesNode selector forest) ns ids) nodes found

-- The nodes, then the nodes that the selector selects below the root and that aren't among them.
abbrev pub Adds : SelectorList → List NodeRef → List NodeRef → Type 0
Adds selector nodes found = AreFound (λ forest ns ids. (more : List ℕ) × Selected forest (0 ∷ []) selector more × (ids ≡ ns ++ without ns more)) nodes found

-- At least one of the nodes matches the selector.
abbrev pub MatchesSomeNode : SelectorList → List NodeRef → Type 0
MatchesSomeNode selector [] = ⊥
MatchesSomeNode selector (node ∷ nodes) = MatchesNode selector node.tree.now node.id ⊎ MatchesSomeNode selector nodes

-- The selector selects exactly these nodes below the root of a tree with this forest.
abbrev pub SelectsIn : SelectorList → Forest → List NodeRef → Type 0
SelectsIn selector forest found = (tree : Bor Forest) × (tree.now ≡ forest) × Selects selector (refs_to tree (0 ∷ [])) found

-- The first of the nodes that the selector selects below the root of a tree with this forest.
abbrev pub SelectsFirstIn : SelectorList → Forest → List NodeRef → Type 0
SelectsFirstIn selector forest found = (tree : Bor Forest) × (tree.now ≡ forest) × SelectsFirst selector (refs_to tree (0 ∷ [])) found

-- The text is that of a selector with this result.
abbrev pub GivesByText : {A : Type 0} → List ℕ → (SelectorList → A → Type 0) → A → Type 0
GivesByText text Gives found = ByText text (λ selector. Gives selector found)

-- The result of the selector that the text is; none if the text is no selector.
abbrev pub TriesText : {A : Type 0} → List ℕ → (SelectorList → A → Type 0) → Option A → Type 0
TriesText text Gives found = MatchOption found (StandsForNothing (chars text)) (GivesByText text Gives)

-- If the text is a selector, it selects no node below the nodes.
abbrev pub SelectsNothing : List ℕ → List NodeRef → Type 0
SelectsNothing text nodes = (selector : SelectorList) → StandsFor (chars text) selector → Selects selector nodes []

-- If the text is a selector, it selects no node below the root of a tree with this forest.
abbrev pub SelectsNothingIn : List ℕ → Forest → Type 0
SelectsNothingIn text forest = (selector : SelectorList) → StandsFor (chars text) selector → SelectsIn selector forest []

-- What the selector in the text selects; none if it selects nothing or the text is no selector.
abbrev pub SelectsSome : List ℕ → List NodeRef → Option (List NodeRef) → Type 0
SelectsSome text nodes found = MatchOption found (SelectsNothing text nodes) (λ some. (some ≢ []) × ByText text (λ selector. Selects selector nodes some))

-- What the selector in the text selects below the root of a tree with this forest; none if it
-- selects nothing or the text is no selector.
abbrev pub SelectsSomeIn : List ℕ → Forest → Option (List NodeRef) → Type 0
SelectsSomeIn text forest found = MatchOption found (SelectsNothingIn text forest) (λ some. (some ≢ []) × ByText text (λ selector. SelectsIn selector forest some))
