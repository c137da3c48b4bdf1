-- The search for an element that nests too deep finds one where there is one.
use Rattle.std.proofs.Common.{◌≡◌, ℕ, zero, suc, ◌<◌, ◌≤◌, Bool, true, false, List, [], ◌∷◌, ◌++◌, length, Option, Some, None, ◌⊎◌, Result, Ok, Err, IfOk, refl, sym, ◌∙◌, ap, subst, append_assoc, append-nil, arith, inl, inr}
use Rattle.std.specs.Prelude.{◌+◌, ◌-◌, ◌&&◌, ◌||◌, if◌then◌else◌, nat_lt, not, slice_get}
use Rattle.std.proofs.lemmas.Bool.{cases_Bool}
use Rattle.dom_nodes.specs.declared.node_data.NodeData.{NodeData}
use Rattle.dom_nodes.specs.declared.node_data.NodeData.TheVariants.{Document, Fragment, Element}
use Rattle.dom_nodes.specs.Elements.{Element as Parts}
use Rattle.dom_links.specs.Edges.{child_edges, edges}
use Rattle.dom_links.specs.Forest.{Forest, children_of}
use Rattle.dom_links.specs.ListMoves.{element_at}
use Rattle.dom_links.specs.Trees.{NoTrees, Tree, Trees, contents_list, trees, trees_to}
use Rattle.dom_links.specs.declared.edges.Edge.{Edge}
use Rattle.dom_links.specs.declared.edges.Edge.TheVariants.{Close}
use Rattle.page_trees.specs.DeepEdges.{all_nodes, goes_deep}
use Rattle.page_trees.specs.declared.fault.PageFault.{PageFault}
use Rattle.page_trees.specs.Depth.{fragment_at, may_nest, nest_to, nests_to}

-- ---- Bools

four : (may contents children later rest : Bool) →
    (not may || (not contents || (not children || (not later || rest)))) ≡ (not ((may && (contents && children)) && later) || rest)
four true true true later rest = refl
four true true false later rest = refl
four true false children later rest = refl
four false contents children later rest = refl

two : (children later rest : Bool) → (not children || (not later || rest)) ≡ (not (children && later) || rest)
two true later rest = refl
two false later rest = refl

-- ---- the steps of a node

regrouped : (contents children later rest : List Edge) (close : Edge) →
    ((contents ++ (children ++ close ∷ [])) ++ later) ++ rest ≡ contents ++ (children ++ close ∷ (later ++ rest))
regrouped contents children later rest close =
    append_assoc (contents ++ (children ++ close ∷ [])) later rest
    ∙ (append_assoc contents (children ++ close ∷ []) (later ++ rest)
    ∙ ap (λ es. contents ++ es) (append_assoc children (close ∷ []) (later ++ rest)))

regrouped_two : (children later rest : List Edge) (close : Edge) →
    ((children ++ close ∷ []) ++ later) ++ rest ≡ children ++ close ∷ (later ++ rest)
regrouped_two children later rest close =
    append_assoc (children ++ close ∷ []) later rest ∙ append_assoc children (close ∷ []) (later ++ rest)

-- whatever follows, the search along the steps of these trees finds an element that nests too deep if there is one
abbrev Finds : Forest → (most above : ℕ) → (spare : Bool) → Trees → Type 0
Finds forest most above spare ts = (rest : List Edge) →
    goes_deep forest most above (edges all_nodes forest spare ts ++ rest) ≡ (not (nest_to forest most above spare ts) || goes_deep forest most above rest)

module _ (forest : Forest) (most above : ℕ) (spare : Bool) (n : ℕ) (contents children later : Trees) where
  abbrev steps : Bool → Trees → List Edge
  steps marked ts = edges all_nodes forest marked ts

  element_deep : (element : Parts) → slice_get forest.content n ≡ Some (Element element) → Finds forest most (above + 1) false contents → Finds forest most (above + 1) false children →
      Finds forest most above spare later → Finds forest most above spare (Tree n contents children later)
  element_deep element e in_contents in_children in_later rest = rw e (
      let more = steps spare later ++ rest in
      let back : above + 1 - 1 ≡ above = omega arith in
      let closed : goes_deep forest most (above + 1) (Close n ∷ more) ≡ (not (nest_to forest most above spare later) || goes_deep forest most above rest) =
      rw e (ap (λ k. goes_deep forest most k more) back ∙ in_later rest) in
      let below : goes_deep forest most (above + 1) (steps false children ++ Close n ∷ more)
      ≡ (not (nest_to forest most (above + 1) false children) || (not (nest_to forest most above spare later) || goes_deep forest most above rest)) =
      in_children (Close n ∷ more) ∙ ap (λ b. not (nest_to forest most (above + 1) false children) || b) closed in
      let held : goes_deep forest most (above + 1) (steps false contents ++ (steps false children ++ Close n ∷ more))
      ≡ (not (nest_to forest most (above + 1) false contents) || (not (nest_to forest most (above + 1) false children) || (not (nest_to forest most above spare later) || goes_deep forest most above rest))) =
      in_contents (steps false children ++ Close n ∷ more) ∙ ap (λ b. not (nest_to forest most (above + 1) false contents) || b) below in
      ap (λ b. not (may_nest most above spare) || b) (ap (goes_deep forest most (above + 1)) (regrouped (steps false contents) (steps false children) (steps spare later) rest (Close n)) ∙ held)
      ∙ four (may_nest most above spare) (nest_to forest most (above + 1) false contents) (nest_to forest most (above + 1) false children)
      (nest_to forest most above spare later) (goes_deep forest most above rest))

  fragment_deep : slice_get forest.content n ≡ Some Fragment → Finds forest most above true children →
      Finds forest most above spare later → Finds forest most above spare (Tree n contents children later)
  fragment_deep e in_children in_later rest = rw e (
      let more = steps spare later ++ rest in
      let closed : goes_deep forest most above (Close n ∷ more) ≡ (not (nest_to forest most above spare later) || goes_deep forest most above rest) = rw e (in_later rest) in
      ap (goes_deep forest most above) (regrouped_two (steps true children) (steps spare later) rest (Close n))
      ∙ (in_children (Close n ∷ more)
      ∙ (ap (λ b. not (nest_to forest most above true children) || b) closed
      ∙ two (nest_to forest most above true children) (nest_to forest most above spare later) (goes_deep forest most above rest))))

  node_deep : (o : Option NodeData) → slice_get forest.content n ≡ o → Finds forest most (above + 1) false contents → Finds forest most (above + 1) false children →
      Finds forest most above true children → Finds forest most above spare later → Finds forest most above spare (Tree n contents children later)
  node_deep None e in_contents in_children in_fragment in_later rest = rw e (in_later rest)
  node_deep (Some Document) e in_contents in_children in_fragment in_later rest = rw e (in_later rest)
  node_deep (Some (Element element)) e in_contents in_children in_fragment in_later rest = element_deep element e in_contents in_children in_later rest
  node_deep (Some Fragment) e in_contents in_children in_fragment in_later rest = fragment_deep e in_fragment in_later rest
  node_deep (Some other) e in_contents in_children in_fragment in_later rest = rw e (in_later rest)

-- the search along the steps of trees
deep_in : (forest : Forest) (most above : ℕ) (spare : Bool) (ts : Trees) → Finds forest most above spare ts
deep_in forest most above spare NoTrees rest = refl
deep_in forest most above spare (Tree n contents children later) rest = node_deep forest most above spare n contents children later (slice_get forest.content n) refl
    (deep_in forest most (above + 1) false contents) (deep_in forest most (above + 1) false children) (deep_in forest most above true children) (deep_in forest most above spare later) rest

-- the search through the whole tree
deep_tree : (forest tree : Forest) (most n : ℕ) (es : List Edge) (deep : Bool) → forest ≡ tree → n ≡ 0 →
    es ≡ child_edges all_nodes forest n → deep ≡ goes_deep forest most 0 es → deep ≡ not (nests_to most tree)
deep_tree forest tree most n es deep same root steps is = subst (λ (t : Forest). deep ≡ not (nests_to most t)) same (
    is ∙ (ap (goes_deep forest most 0) (steps ∙ ap (child_edges all_nodes forest) root ∙ sym (append-nil _))
    ∙ (deep_in forest most 0 (fragment_at forest 0) (trees forest (children_of forest 0)) [] ∙ or_false _)))
  where
    or_false : (b : Bool) → (b || false) ≡ b
    or_false true = refl
    or_false false = refl

pub deep_told : (r : Result Bool PageFault) (forest tree : Forest) (most n : ℕ) (es : List Edge) → forest ≡ tree → n ≡ 0 → es ≡ child_edges all_nodes forest n →
    IfOk r (λ deep. deep ≡ goes_deep forest most 0 es) → IfOk r (λ deep. deep ≡ not (nests_to most tree))
deep_told (Ok deep) forest tree most n es same root steps is = deep_tree forest tree most n es deep same root steps is
deep_told (Err fault) forest tree most n es same root steps is = tt

-- ---- no more elements nest than there are nodes

less : (most above : ℕ) → above < most → nat_lt above most ≡ true
less most above h = grind arith

few_here : (forest : Forest) (most above : ℕ) (spare : Bool) (n : ℕ) (contents children later : Trees) → above < most → nest_to forest most (above + 1) false contents ≡ true →
    nest_to forest most (above + 1) false children ≡ true → nest_to forest most above true children ≡ true → nest_to forest most above spare later ≡ true →
    nest_to forest most above spare (Tree n contents children later) ≡ true
few_here forest most above spare n contents children later few held below inside after = at (cases_Bool (element_at forest n)) (cases_Bool (fragment_at forest n))
  where
    at : (element_at forest n ≡ true) ⊎ (element_at forest n ≡ false) → (fragment_at forest n ≡ true) ⊎ (fragment_at forest n ≡ false) → nest_to forest most above spare (Tree n contents children later) ≡ true
    at (inl t) fragment = rw (t, less most above few, held, below) after
    at (inr f) (inl t) = rw (f, t, inside) after
    at (inr f) (inr g) = rw (f, g) after

few_nest : (forest : Forest) (fuel most above : ℕ) (spare : Bool) (ns : List ℕ) → above + fuel ≤ most → nest_to forest most above spare (trees_to forest fuel ns) ≡ true
few_nest forest fuel most above spare [] few = refl
few_nest forest zero most above spare (n ∷ ns) few = refl
few_nest forest (suc fuel) most above spare (n ∷ ns) few =
    few_here forest most above spare n (trees_to forest fuel (contents_list forest n)) (trees_to forest fuel (children_of forest n)) (trees_to forest (suc fuel) ns) (omega (arith, few))
    (few_nest forest fuel most (above + 1) false (contents_list forest n) (omega (arith, few)))
    (few_nest forest fuel most (above + 1) false (children_of forest n) (omega (arith, few)))
    (few_nest forest fuel most above true (children_of forest n) (omega (arith, few)))
    (few_nest forest (suc fuel) most above spare ns few)

few_nodes : (forest : Forest) (most : ℕ) → length forest.content ≤ most → nests_to most forest ≡ true
unfolding trees
few_nodes forest most few = few_nest forest (length forest.content) most 0 (fragment_at forest 0) (children_of forest 0) (omega (arith, few))

pub few_told : (forest : Forest) (most limit n : ℕ) → limit ≡ most → n ≡ length forest.content → n ≤ limit → nests_to most forest ≡ true
few_told forest most limit n is long few = few_nodes forest most (omega (arith, is, long, few))
