-- Which nodes a path of mini selectors reaches: the meaning of a relative selector, with mini selectors as compound selectors.
use Rattle.std.specs.Prelude.{◌≡◌, ◌<◌, ℕ, List, [], ◌∷◌, false, true, length, map}
use Rattle.std.specs.Borrow.{Bor}
use Rattle.dom_links.specs.Forest.{Forest}
use Rattle.dom_links.specs.Lists.{is_member, IsDistinct}
use Rattle.dom_links.specs.Trees.{trees, walk}
use Rattle.dom_links.specs.Walk.{later}
use Rattle.dom_trees.specs.declared.node_ref.NodeRef.{NodeRef}
use Rattle.dom_trees.specs.Views.{refs_to}
use Rattle.dom_selectors.specs.declared.syntax.Combinator.{Combinator}
use Rattle.dom_selectors.specs.MiniGrammar.{SpellsMini, SpellsPath}
use Rattle.dom_selectors.specs.MiniSyntax.{Mini, combinator_of, named}
use Rattle.dom_select.specs.Meaning.{Leads}
use Rattle.dom_select.specs.MiniNodes.{mini_holds}
use Rattle.dom_select.specs.Selected.{FiltersTo}

-- the combinator of each mini selector, and the nodes that it matches
abbrev pub steps_of_path : List Mini → Forest → List (Combinator × (ℕ → Type 0))
steps_of_path [] forest = []
steps_of_path (mini ∷ minis) forest = (combinator_of mini, λ n. mini_holds mini forest n ≡ true) ∷ steps_of_path minis forest

-- There are nodes from `x` to `n` such that each combinator relates a node to the one before it, and each mini selector matches
-- its node.
abbrev pub PathLeads : List Mini → Forest → ℕ → ℕ → Type 0
PathLeads minis forest x n = Leads (steps_of_path minis forest) forest x x n

-- a node, its descendants, its later siblings and their descendants, in document order
abbrev pub onward : Forest → ℕ → List ℕ
onward forest n = walk (trees forest (n ∷ later forest false n))

-- the nodes that the path reaches from `x`, each once, in document order; none if the forest has no node `x`
abbrev pub IsFound : List Mini → Forest → ℕ → List ℕ → Type 0
IsFound minis forest x found = FiltersTo (λ n. (x < length forest.content) × PathLeads minis forest x n) (onward forest x) found

-- the nodes that a path of names reaches from `x`, where each name is that of a descendant of the element before
abbrev pub IsFoundByNames : List (List ℕ) → Forest → ℕ → List ℕ → Type 0
IsFoundByNames names forest x found = IsFound (map named names) forest x found

-- the nodes are exactly those that the path reaches from `x`, each once
pub record AreLedTo (minis : List Mini) (forest : Forest) (x : ℕ) (found : List ℕ) : Type 0 where
  pub led : (n : ℕ) → is_member n found ≡ true → PathLeads minis forest x n
  pub all : (n : ℕ) → PathLeads minis forest x n → is_member n found ≡ true
  pub once : IsDistinct found

-- references to the nodes that the names reach
abbrev pub AreRefsByNames : List (List ℕ) → Bor Forest → ℕ → List NodeRef → Type 0
AreRefsByNames names tree x found = (ids : List ℕ) × IsFoundByNames names tree.now x ids × (found ≡ refs_to tree ids)

-- references to the nodes that a path in a text reaches
pub record AreRefsFound (path : List ℕ) (tree : Bor Forest) (n : ℕ) (found : List NodeRef) : Type 0 where
  pub minis : List Mini
  pub rest : List ℕ
  pub spelled : SpellsPath minis path rest
  pub ids : List ℕ
  pub led : IsFound minis tree.now n ids
  pub are : found ≡ refs_to tree ids

-- the text starts with a mini selector, which matches the node
pub record MiniTextHolds (text : List ℕ) (forest : Forest) (n : ℕ) : Type 0 where
  pub mini : Mini
  pub rest : List ℕ
  pub spelled : SpellsMini mini text rest
  pub holds : mini_holds mini forest n ≡ true
