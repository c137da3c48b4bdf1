-- Which nodes the script lines select.
use Rattle.std.specs.Prelude.{ℕ, ◌≡◌, List, [], ◌∷◌, ◌++◌, None, reverse, take}
use Rattle.std.specs.List.{flat_map}
use Rattle.dom_links.specs.Forest.{Forest}
use Rattle.dom_links.specs.Lists.{without}
use Rattle.dom_selectors.specs.Syntax.{SelectorList}
use Rattle.dom_select.specs.Meaning.{MatchesNode}
use Rattle.dom_select.specs.Selected.{FiltersTo, Selected, first_occurrences}
use Rattle.dom_selection.specs.Selections.{child_elements, element_after, element_before, elements_above, parent_node}
use Rattle.dom_script.specs.declared.script.Navigation.{Navigation}
use Rattle.dom_script.specs.declared.script.Navigation.TheVariants.{Parent, Children, Ancestors, Next, Prev, First, Last}
use Rattle.dom_script.specs.declared.script.QueryKind.{QueryKind}
use Rattle.dom_script.specs.declared.script.QueryKind.TheVariants.{Select, Find, Filter, Add}

-- The selection, then what the selector selects below the root that isn't in it. An empty selection
-- stays empty.
abbrev pub Added : Forest → List ℕ → SelectorList → List ℕ → Type 0
Added forest [] selector selected = selected ≡ []
Added forest (n ∷ ns) selector selected =
    (more : List ℕ) × Selected forest (0 ∷ []) selector more × (selected ≡ (n ∷ ns) ++ without (n ∷ ns) more)

-- What a selector selects, depending on the kind of the line and on the selection. The root has the
-- id 0.
abbrev pub QueryResult : Forest → List ℕ → QueryKind → SelectorList → List ℕ → Type 0
QueryResult forest selection Select selector selected = Selected forest (0 ∷ []) selector selected
QueryResult forest selection Find selector selected = Selected forest selection selector selected
QueryResult forest selection Filter selector selected = FiltersTo (MatchesNode selector forest) selection selected
QueryResult forest selection Add selector selected = Added forest selection selector selected

-- The nodes to which a step leads from each of the nodes, one after another, each once.
abbrev pub traversed : (Forest → ℕ → List ℕ) → Forest → List ℕ → List ℕ
traversed step forest ns = first_occurrences [] (flat_map (step forest) ns)

-- The nodes in this direction from the selection.
abbrev pub navigated : Navigation → Forest → List ℕ → List ℕ
navigated Parent forest selection = traversed parent_node forest selection
navigated Children forest selection = traversed child_elements forest selection
navigated Ancestors forest selection = traversed (elements_above None) forest selection
navigated Next forest selection = traversed element_after forest selection
navigated Prev forest selection = traversed element_before forest selection
navigated First forest selection = take 1 selection
navigated Last forest selection = take 1 (reverse selection)
