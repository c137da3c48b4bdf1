-- The meaning of selectors: which nodes they match. This is Selectors Level 4 for the supported syntax.
use Rattle.std.specs.Prelude.{◌≡◌, ◌↔◌, ◌<◌, length, ℕ, List, [], ◌∷◌, Some, true, ◌⊎◌}
use Rattle.dom_links.specs.Forest.{Forest, parent}
use Rattle.dom_links.specs.Lists.{is_member}
use Rattle.dom_links.specs.Trees.{ancestors}
use Rattle.dom_selectors.specs.declared.syntax.Combinator.{Combinator}
use Rattle.dom_selectors.specs.declared.syntax.Combinator.TheVariants.{Descendant, Child, Adjacent, Sibling}
use Rattle.dom_selectors.specs.declared.syntax.Part.{Part}
use Rattle.dom_links.specs.ListMoves.{element_at}
use Rattle.dom_select.specs.Leftward.{earlier}
use Rattle.dom_select.specs.Parts.{EachHolds}
use Rattle.dom_selectors.specs.Syntax.{CompoundSelector, compound, NestedLists, no_lists, nested, NestedList, is_list, not_list, has_list, SelectorList, no_selectors, alternative, Steps, no_steps, step}

-- `n` is a node of the forest, and each simple selector matches it
unfoldable pub PartsHold : List Part → Forest → ℕ → Type 0
PartsHold parts forest n = (n < length forest.content) × EachHolds parts forest n

-- `n` is an element of this type
abbrev pub HasType : List ℕ → Forest → ℕ → Type 0
HasType name forest n = PartsHold (Part.«Type» name ∷ []) forest n

-- the compound selector is a type selector and nothing else
abbrev pub IsTypeAlone : List ℕ → CompoundSelector → Type 0
IsTypeAlone name c = c ≡ compound (Part.«Type» name ∷ []) no_lists

-- `w` is in the list, and no element comes before it
abbrev pub ComesFirst : Forest → ℕ → List ℕ → Type 0
ComesFirst forest w [] = ⊥
ComesFirst forest w (v ∷ vs) = (w ≡ v) ⊎ ((element_at forest v ≡ true → ⊥) × ComesFirst forest w vs)

-- The combinator relates `w` on its left to `n` on its right: `w` is an ancestor of `n`; its parent; a previous sibling with no
-- element between the two; or a previous sibling.
unfoldable pub CombinatorHolds : Forest → Combinator → ℕ → ℕ → Type 0
CombinatorHolds forest Descendant w n = is_member w (ancestors forest n) ≡ true
CombinatorHolds forest Child w n = parent forest n ≡ Some w
CombinatorHolds forest Adjacent w n = ComesFirst forest w (earlier forest n)
CombinatorHolds forest Sibling w n = is_member w (earlier forest n) ≡ true

-- beside `+` or `~` there has to be an element, with one exception: the node that is matched, or the anchor of `:has`
abbrev pub MayBeOperand : Forest → ℕ → Combinator → ℕ → Type 0
MayBeOperand forest exempt Descendant n = Unit {0}
MayBeOperand forest exempt Child n = Unit {0}
MayBeOperand forest exempt Adjacent n = (n ≡ exempt) ⊎ (element_at forest n ≡ true)
MayBeOperand forest exempt Sibling n = (n ≡ exempt) ⊎ (element_at forest n ≡ true)

abbrev pub IsJoined : Forest → ℕ → Combinator → ℕ → ℕ → Type 0
IsJoined forest exempt k w n = CombinatorHolds forest k w n × MayBeOperand forest exempt k w × MayBeOperand forest exempt k n

-- There are nodes from `w` to `n`, one for each step, such that each combinator relates a node to the one before it, and each
-- node passes the test of its step.
abbrev pub Leads : List (Combinator × (ℕ → Type 0)) → Forest → ℕ → ℕ → ℕ → Type 0
Leads [] forest exempt w n = w ≡ n
Leads (s ∷ more) forest exempt w n = (v : ℕ) × IsJoined forest exempt s.0 w v × s.1 v × Leads more forest exempt v n

abbrev mutual
  -- the compound selector matches `n`: `n` is a node, and each simple selector and each nested list matches it
  pub Holds : CompoundSelector → Forest → ℕ → Type 0
  Holds (compound parts lists) forest n = PartsHold parts forest n × ListsHold lists forest n

  pub ListsHold : NestedLists → Forest → ℕ → Type 0
  ListsHold no_lists forest n = Unit {0}
  ListsHold (nested list more) forest n = ListHolds list forest n × ListsHold more forest n

  pub ListHolds : NestedList → Forest → ℕ → Type 0
  ListHolds (is_list list) forest n = MatchesNode list forest n
  ListHolds (not_list list) forest n = MatchesNode list forest n → ⊥
  ListHolds (has_list list) forest n = HasHolds list forest n

  -- The selector list matches `n`. For one of its selectors there are nodes, one for each compound selector and the last of them
  -- `n`, such that each compound selector matches its node and the combinators relate the nodes.
  pub MatchesNode : SelectorList → Forest → ℕ → Type 0
  MatchesNode no_selectors forest n = ⊥
  MatchesNode (alternative lead first rest more) forest n =
      ((w : ℕ) × Holds first forest w × Leads (tests_of rest forest) forest n w n) ⊎ MatchesNode more forest n

  -- `:has` matches `n`. For one of its selectors there are nodes, one for each compound selector, such that each compound
  -- selector matches its node, the leading combinator relates `n` to the first, the other combinators relate the nodes, and the
  -- last node is an element.
  pub HasHolds : SelectorList → Forest → ℕ → Type 0
  HasHolds no_selectors forest n = ⊥
  HasHolds (alternative lead first rest more) forest n =
      ((w : ℕ) × (y : ℕ) × IsJoined forest n lead n w × Holds first forest w × Leads (tests_of rest forest) forest n w y × (element_at forest y ≡ true)) ⊎ HasHolds more forest n

  -- the combinator of each step, and the nodes that its compound selector matches
  pub tests_of : Steps → Forest → List (Combinator × (ℕ → Type 0))
  tests_of no_steps forest = []
  tests_of (step k c more) forest = (k, λ n. Holds c forest n) ∷ tests_of more forest

-- there are nodes for the compound selectors of the steps, from `w` on, the last of them `n`
abbrev pub StepsMatch : Steps → Forest → ℕ → ℕ → ℕ → Type 0
StepsMatch steps forest exempt w n = Leads (tests_of steps forest) forest exempt w n

-- there are a first node that passes `first`, and nodes for the steps, the last of them `n`
abbrev pub ChainMatches : (ℕ → Type 0) → Steps → Forest → ℕ → ℕ → Type 0
ChainMatches first steps forest exempt n = (w : ℕ) × first w × StepsMatch steps forest exempt w n

-- the relative selector matches some element, with `x` as the anchor
abbrev pub RelativeMatches : Combinator → CompoundSelector → Steps → Forest → ℕ → Type 0
RelativeMatches lead first rest forest x =
    (w : ℕ) × (y : ℕ) × IsJoined forest x lead x w × Holds first forest w × StepsMatch rest forest x w y × (element_at forest y ≡ true)

-- the selector list matches exactly the elements of this type
abbrev pub MeansType : List ℕ → SelectorList → Type 0
MeansType name list = (forest : Forest) (n : ℕ) → MatchesNode list forest n ↔ HasType name forest n
