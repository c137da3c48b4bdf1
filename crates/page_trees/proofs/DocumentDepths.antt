-- A tree nests no deeper than the Document for which it stands.
use Rattle.std.proofs.Common.{◌≡◌, ℕ, zero, suc, ◌<◌, ◌≤◌, ◌+◌, ◌-◌, Bool, true, false, List, [], ◌∷◌, Option, Some, None, Result, Ok, Err, IfOk, refl, sym, ◌∙◌, ap, subst, arith}
use Rattle.std.specs.Prelude.{◌&&◌, length, max, option_and_then, slice_get}
use Rattle.std.specs.Option.{option_map_or}
use Rattle.std.proofs.lemmas.Bool.{and_parts, lt-ltb, ltb-true}
use Rattle.dom_nodes.specs.Kinds.{contents_named, is_element, is_fragment}
use Rattle.dom_nodes.specs.declared.node_data.NodeData.{NodeData}
use Rattle.dom_nodes.specs.declared.node_data.NodeData.TheVariants.{Element, Fragment}
use Rattle.dom_links.specs.Forest.{Forest, children_of}
use Rattle.dom_links.specs.ListMoves.{element_at}
use Rattle.dom_links.specs.Sound.{IsForest, contents_at}
use Rattle.dom_links.specs.Trees.{NoTrees, Tree, Trees, contents_list, trees, trees_to}
use Rattle.standard_tokens.specs.Tokens.{Token}
use Rattle.standard_trees.specs.Building.{Building}
use Rattle.standard_trees.specs.Parsing.{Document, document_of}
use Rattle.standard_order.specs.Beginnings.{Beginning}
use Rattle.standard_trees.specs.TreeStore.{ElementNode, Kind, Trees as Nodes, comment_tree, doctype_tree, element_tree, no_trees, text_tree}
use Rattle.page_trees.specs.Depth.{NestsWithin, fragment_at, nest_to}
use Rattle.page_trees.specs.DocumentTrees.{AreTrees, Begins, held_in}
use Rattle.page_trees.specs.PagesRead.{HasBuilt, IsRead}
use Rattle.page_trees.specs.SameNodes.{IsKind}
use Rattle.page_trees.specs.StandardDepth.{IsWithinDepth, nest_within}
use Rattle.page_trees.specs.StandardDocuments.{FinishesText, IsStandardTree}
use Rattle.page_trees.specs.declared.fault.PageFault.{PageFault}
use Rattle.page_trees.specs.declared.growing.BuiltTree.{BuiltTree}
use Rattle.page_trees.specs.declared.reading.PageReader.{PageReader}

-- a node that is no element, and no fragment
plain_fits : (f : Forest) (most above : ℕ) (spare : Bool) (n : ℕ) (contents children later : Trees) → element_at f n ≡ false → fragment_at f n ≡ false →
    nest_to f most above spare later ≡ true → nest_to f most above spare (Tree n contents children later) ≡ true
plain_fits f most above spare n contents children later element fragment fits = rw (element, fragment) fits

fragment_fits : (f : Forest) (most above : ℕ) (spare : Bool) (n : ℕ) (contents children later : Trees) → element_at f n ≡ false → fragment_at f n ≡ true →
    nest_to f most above true children ≡ true → nest_to f most above spare later ≡ true → nest_to f most above spare (Tree n contents children later) ≡ true
fragment_fits f most above spare n contents children later element fragment inside fits = rw (element, fragment, inside) fits

element_fits : (f : Forest) (most above : ℕ) (spare : Bool) (n : ℕ) (contents children later : Trees) → element_at f n ≡ true → above < most →
    nest_to f most (above + 1) false contents ≡ true → nest_to f most (above + 1) false children ≡ true → nest_to f most above spare later ≡ true →
    nest_to f most above spare (Tree n contents children later) ≡ true
element_fits f most above spare n contents children later element low held inside fits = rw (element, lt-ltb above most low, held, inside) fits

-- the first node of a list, and then the others
listed_fits : (f : Forest) (most above : ℕ) (spare : Bool) (n : ℕ) (ns others : List ℕ) → ns ≡ n ∷ others → ((fuel : ℕ) →
    nest_to f most above spare (Tree n (trees_to f fuel (contents_list f n)) (trees_to f fuel (children_of f n)) (trees_to f (suc fuel) others)) ≡ true) →
    (fuel : ℕ) → nest_to f most above spare (trees_to f fuel ns) ≡ true
listed_fits f most above spare n ns others e fits zero = rw e refl
listed_fits f most above spare n ns others e fits (suc fuel) = rw e (fits fuel)

none_fits : (f : Forest) (most above : ℕ) (spare : Bool) (ns : List ℕ) → ns ≡ [] → (fuel : ℕ) → nest_to f most above spare (trees_to f fuel ns) ≡ true
none_fits f most above spare ns e fuel = rw e refl

-- a text, a comment or a doctype
other_fits : (f : Forest) (most above : ℕ) (spare : Bool) (n : ℕ) (ns others : List ℕ) (kind : Kind) → Begins f ns n others kind →
    ((content : NodeData) → IsKind kind content → (is_element content ≡ false) × (is_fragment content ≡ false)) →
    ((fuel : ℕ) → nest_to f most above spare (trees_to f fuel others) ≡ true) → (fuel : ℕ) → nest_to f most above spare (trees_to f fuel ns) ≡ true
other_fits f most above spare n ns others kind begins plain fits = listed_fits f most above spare n ns others begins.first (λ fuel.
    plain_fits f most above spare n (trees_to f fuel (contents_list f n)) (trees_to f fuel (children_of f n)) (trees_to f (suc fuel) others)
    (ap (λ o. option_map_or is_element o false) begins.got ∙ (plain begins.content begins.is).0)
    (ap (λ o. option_map_or is_fragment o false) begins.got ∙ (plain begins.content begins.is).1)
    (fits (suc fuel)))

-- what an element holds as its contents
held_fits : (f : Forest) (most above : ℕ) (n : ℕ) (contents : Option ℕ) → IsForest f → contents_at f n ≡ contents →
    ((fuel : ℕ) → nest_to f most above true (trees_to f fuel (held_in f contents)) ≡ true) → (fuel : ℕ) → nest_to f most above false (trees_to f fuel (contents_list f n)) ≡ true
held_fits f most above n None good holds fits fuel = rw holds refl
held_fits f most above n (Some c) good holds fits zero = rw holds refl
held_fits f most above n (Some c) good holds fits (suc fuel) = rw holds (
    fragment_fits f most above false c (trees_to f fuel (contents_list f c)) (trees_to f fuel (children_of f c)) NoTrees (no_element (slice_get f.content c) (good.contents_known n c holds).1)
    (good.contents_known n c holds).1 (fits fuel) refl)
  where
    no_element : (o : Option NodeData) → option_map_or is_fragment o false ≡ true → option_map_or is_element o false ≡ false
    no_element None h = refl
    no_element (Some Fragment) h = refl
    no_element (Some (Element element)) h = cc
    no_element (Some other) h = refl

module _ (f : Forest) (good : IsForest f) (most : ℕ) where
  node_fits : (k above : ℕ) (spare : Bool) (n : ℕ) (ns others : List ℕ) (contents : Option ℕ) (kind : Kind) → Begins f ns n others kind →
      ((content : NodeData) → IsKind kind content → (is_element content ≡ true) × (contents_named content ≡ contents)) → above < most →
      ((fuel : ℕ) → nest_to f most (above + 1) true (trees_to f fuel (held_in f contents)) ≡ true) → ((fuel : ℕ) → nest_to f most (above + 1) false (trees_to f fuel (children_of f n)) ≡ true) →
      ((fuel : ℕ) → nest_to f most above spare (trees_to f fuel others) ≡ true) → (fuel : ℕ) → nest_to f most above spare (trees_to f fuel ns) ≡ true
  node_fits k above spare n ns others contents kind begins named low held inside after = listed_fits f most above spare n ns others begins.first (λ fuel.
      let facts = named begins.content begins.is in
      element_fits f most above spare n (trees_to f fuel (contents_list f n)) (trees_to f fuel (children_of f n)) (trees_to f (suc fuel) others)
      (ap (λ o. option_map_or is_element o false) begins.got ∙ facts.0) low
      (held_fits f most (above + 1) n contents good (ap (λ o. option_and_then contents_named o) begins.got ∙ facts.1) held fuel)
      (inside fuel) (after (suc fuel)))

  -- the nodes of these trees nest no deeper than the trees
  fits : (ts : Nodes) (k above : ℕ) (spare : Bool) (ns : List ℕ) → AreTrees f ns ts → nest_within k ts ≡ true → above + k ≤ most → (fuel : ℕ) → nest_to f most above spare (trees_to f fuel ns) ≡ true
  fits no_trees k above spare ns are within room fuel = none_fits f most above spare ns are fuel
  fits (doctype_tree d later) k above spare ns (n, others, begins, rest) within room fuel =
      other_fits f most above spare n ns others _ begins (λ content is. rw is (refl, refl)) (fits later k above spare others rest within room) fuel
  fits (text_tree text later) k above spare ns (n, others, begins, rest) within room fuel =
      other_fits f most above spare n ns others _ begins (λ content is. rw is (refl, refl)) (fits later k above spare others rest within room) fuel
  fits (comment_tree text later) k above spare ns (n, others, begins, rest) within room fuel =
      other_fits f most above spare n ns others _ begins (λ content is. rw is (refl, refl)) (fits later k above spare others rest within room) fuel
  fits (element_tree space name attrs held children later) k above spare ns (n, others, contents, begins, in_contents, in_children, rest) within room fuel =
      let low = ltb-true 0 k (and_parts _ _ within).0 in
      let parts : (nest_within (k - 1) held ≡ true) × ((nest_within (k - 1) children && nest_within k later) ≡ true) = and_parts _ _ (and_parts _ _ within).1 in
      let more : (nest_within (k - 1) children ≡ true) × (nest_within k later ≡ true) = and_parts _ _ parts.1 in
      let deeper : above + 1 + (k - 1) ≤ most = omega (arith, low, room) in
      node_fits k above spare n ns others contents (ElementNode space name attrs contents) begins (λ content is. rw is.1 (refl, refl)) (omega (arith, low, room))
      (fits held (k - 1) (above + 1) true (held_in f contents) in_contents parts.0 deeper)
      (fits children (k - 1) (above + 1) false (children_of f n) in_children more.0 deeper)
      (fits later k above spare others rest more.1 room) fuel

-- the whole tree
pub document_fits : (max_depth : Option ℕ) (f : Forest) (d : Document) → IsForest f → AreTrees f (children_of f 0) d.children → IsWithinDepth max_depth d → NestsWithin max_depth f
unfolding trees
document_fits None f d good are within = tt
document_fits (Some most) f d good are within = fits f good (max most 3) d.children (max most 3) 0 (fragment_at f 0) (children_of f 0) are within (omega arith) (length f.content)

-- a tree that nests no deeper than the limit is the one that is finished
pub limited_same : (r : Result BuiltTree PageFault) (reader : PageReader) (built : BuiltTree) → IsForest built.tree →
    (NestsWithin reader.options.max_depth built.tree → IfOk r (λ limited. limited ≡ built)) →
    ((beginning : Beginning) (text : List ℕ) → HasBuilt beginning text reader → (depth : ℕ) (all : List Token) (end : Building) → IsRead depth beginning text all end →
    IsStandardTree beginning text end built.tree built.quirks_mode) →
    IfOk r (FinishesText reader)
limited_same (Err fault) reader built good same read = tt
limited_same (Ok limited) reader built good same read = λ beginning text has depth all end is_read within.
    let is = read beginning text has depth all end is_read in
    let e : limited ≡ built = same (document_fits reader.options.max_depth built.tree (document_of end) good is.tree.document.trees within) in
    subst (λ (b : BuiltTree). IsStandardTree beginning text end b.tree b.quirks_mode) (sym e) is
