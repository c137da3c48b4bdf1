-- The nodes of a read document are its rows.
use Rattle.std.proofs.Common.{◌≡◌, ℕ, zero, suc, ◌+◌, ◌<◌, ◌≤◌, true, false, Bool, List, [], ◌∷◌, ◌++◌, length, get_or, Option, Some, None, refl, sym, ap, ◌∙◌, subst, arith, drop, take, slice_get, length-drop, ◌-◌, inl, inr, add-zero}
use Rattle.std.specs.Prelude.{◌⊎◌, ◌==◌}
use Rattle.std.specs.Option.{option_and_then, option_map, option_map_or}
use Rattle.std.proofs.lemmas.Bool.{cases_lt, eq-eqb, eqb-true, true≢false}
use Rattle.std.proofs.lemmas.List.{length-map, take_all}
use Rattle.std.proofs.lemmas.Option.{slice_get_past, slice_get-map}
use Rattle.dom_nodes.specs.declared.node_data.NodeData.{NodeData}
use Rattle.dom_nodes.specs.declared.node_data.TreeNode.{TreeNode}
use Rattle.dom_links.specs.Forest.{Forest, children_of, contents_of, forest_of, owner_from, parent}
use Rattle.dom_links.specs.Lists.{names, is_member}
use Rattle.dom_links.specs.Sound.{IsSoundArena}
use Rattle.dom_markup.specs.Numbered.{Row, children_among, document_of, rows_from, rows_of}
use Rattle.dom_markup.specs.ValueTrees.{ValueTrees}
use Rattle.dom_markup.proofs.plain.PlainRows.{contents_in, document_rows}
use Rattle.dom_markup.proofs.rows.DocumentSound.{document_sound}
use Rattle.dom_markup.proofs.rows.RowsForest.{parent_at, parent_from, row_at, stands-children}
use Rattle.calm_pages.specs.Scopes.{next_scope, scope_at, scope_below}
use Rattle.calm_pages.specs.declared.nesting.Scope.{Scope}
use Rattle.calm_pages.proofs.ScopeLemmas.{all_fit, fits_next, fits_none}

cases_Option : (o : Option ℕ) → (o ≡ None) ⊎ ((p : ℕ) × (o ≡ Some p))
cases_Option None = inl refl
cases_Option (Some p) = inr (p, refl)

-- who has a parent stands among its children
record Owned (i : ℕ) (lists : List (List ℕ)) (n q : ℕ) : Type 0 where
  place : ℕ
  is : q ≡ i + place
  within : place < length lists
  stands : is_member n (get_or lists place []) ≡ true

owned : (i : ℕ) (lists : List (List ℕ)) (n q : ℕ) → owner_from i lists n ≡ Some q → Owned i lists n q
owned i [] n q e = absurd (cc)
owned i (ns ∷ rest) n q e = by_test (is_member n ns) refl (owned (i + 1) rest n q)
  where
    by_test : (t : Bool) → is_member n ns ≡ t → (owner_from (i + 1) rest n ≡ Some q → Owned (i + 1) rest n q) → Owned i (ns ∷ rest) n q
    by_test true t more =
        let here : Some i ≡ Some q = rw t at e in
        let same : i ≡ q = cc in
        record { place = 0; is = sym same ∙ sym (add-zero i); within = omega arith; stands = t }
    by_test false t more =
        let there : owner_from (i + 1) rest n ≡ Some q = rw t at e in
        let found = more there in
        let place = found.is in
        let within = found.within in
        record { place = suc found.place; is = omega (arith, place); within = omega (arith, within); stands = found.stands }

names_some : (o : Option ℕ) (q : ℕ) → names o q ≡ true → o ≡ Some q
names_some None q h = absurd (true≢false (sym h))
names_some (Some p) q h = ap Some (eqb-true p q h)

content_length : (trees : ValueTrees) → length (document_of trees).content ≡ length (rows_of trees)
unfolding document_of
content_length trees = length-map (rows_of trees) (λ row. row.content)

-- a parent in the document is that of the row
parent_of_row : (trees : ValueTrees) (n q : ℕ) (row : Row) → slice_get (rows_of trees) n ≡ Some row → parent (document_of trees) n ≡ Some q → row.parent ≡ Some q
parent_of_row trees n q row is e =
    let found = owned 0 (document_of trees).children n q e in
    let place = found.is in
    let within = found.within in
    let each : length (document_of trees).children ≡ length (document_of trees).content = (document_sound trees).once.children_each in
    let many : length (document_of trees).content ≡ length (rows_of trees) = content_length trees in
    let low : q < length (rows_of trees) = omega (arith, place, within, each, many) in
    let zero-place : q ≡ found.place = omega (arith, place) in
    let stands : is_member n (children_of (document_of trees) q) ≡ true = subst (λ (k : ℕ). is_member n (children_of (document_of trees) k) ≡ true) (sym zero-place) found.stands in
    let among : children_of (document_of trees) q ≡ children_among 0 (rows_of trees) q = (document_rows trees).children q (omega arith) (omega (arith, low)) in
    let zero-n : 0 + n ≡ n = omega arith in
    let at : parent_from 0 (rows_of trees) n ≡ row.parent = ap (parent_from 0 (rows_of trees)) (sym zero-n) ∙ parent_at 0 n (rows_of trees) row is in
    names_some row.parent q (ap (λ o. names o q) (sym at) ∙ (sym (stands-children 0 (rows_of trees) q n) ∙ (ap (is_member n) (sym among) ∙ stands)))

-- a row names a parent among the rows, which the node has too
node_of_row : (trees : ValueTrees) (n p : ℕ) (row : Row) → slice_get (rows_of trees) n ≡ Some row → row.parent ≡ Some p → p < length (rows_of trees) → parent (document_of trees) n ≡ Some p
node_of_row trees n p row is e low =
    let among : children_of (document_of trees) p ≡ children_among 0 (rows_of trees) p = (document_rows trees).children p (omega arith) (omega (arith, low)) in
    let zero-n : 0 + n ≡ n = omega arith in
    let at : parent_from 0 (rows_of trees) n ≡ Some p = ap (parent_from 0 (rows_of trees)) (sym zero-n) ∙ (parent_at 0 n (rows_of trees) row is ∙ e) in
    let stands : is_member n (children_of (document_of trees) p) ≡ true = ap (is_member n) among ∙ (stands-children 0 (rows_of trees) p n ∙ (ap (λ o. names o p) at ∙ eq-eqb p p refl)) in
    ((document_sound trees).once.in_children p n stands).1

no_some : (p : ℕ) → None ≡ Some p → ⊥
no_some p e = cc

-- the scope of a node is that of its row
same_scope : (trees : ValueTrees) (scopes : List Scope) (n : ℕ) (row : Row) (content : NodeData) → slice_get (rows_of trees) n ≡ Some row → length scopes ≤ length (rows_of trees) →
    next_scope scopes (parent (document_of trees) n) content ≡ next_scope scopes row.parent content
same_scope trees scopes n row content is few = elim (cases_Option (parent (document_of trees) n)) [
  | inr some ↦ ap (λ o. next_scope scopes o content) (some.1 ∙ sym (parent_of_row trees n some.0 row is some.1))
  | inl none ↦ elim (cases_Option row.parent) [
    | inl nothing ↦ ap (λ o. next_scope scopes o content) (none ∙ sym nothing)
    | inr some ↦ elim (cases_lt some.0 (length (rows_of trees))) [
      | inl low ↦ absurd (no_some some.0 (sym none ∙ node_of_row trees n some.0 row is some.1 low))
      | inr high ↦
          let past : slice_get scopes some.0 ≡ None = slice_get_past scopes some.0 (omega (arith, high, few)) in
          ap (λ o. next_scope scopes o content) none ∙ sym (ap (λ o. next_scope scopes o content) some.1 ∙ ap (option_and_then (λ scope. scope_below (scope_at (some.0 + 1 == length scopes) scope) content)) past)
    ]
  ]
]

-- the nodes of an arena that is the document's
pub record IsRead (nodes : List TreeNode) (trees : ValueTrees) : Type 0 where
  pub sound : IsSoundArena nodes
  pub same : forest_of nodes ≡ document_of trees

pub length-nodes : (nodes : List TreeNode) (trees : ValueTrees) → IsRead nodes trees → length nodes ≡ length (rows_of trees)
length-nodes nodes trees read =
    let count : length (contents_of nodes) ≡ length nodes = length-map nodes (λ node. node.content) in
    sym count ∙ (ap length read.sound.arena.links.contents ∙ (ap (λ (f : Forest). length f.content) read.same ∙ content_length trees))

node_scope : (nodes : List TreeNode) (trees : ValueTrees) → IsRead nodes trees → (scopes : List Scope) (n : ℕ) (node : TreeNode) (row : Row) →
    slice_get nodes n ≡ Some node → n < length nodes → slice_get (rows_of trees) n ≡ Some row → length scopes ≤ length (rows_of trees) →
    next_scope scopes node.parent node.content ≡ next_scope scopes row.parent row.content
node_scope nodes trees read scopes n node row at low is few =
    let links = read.sound.arena.links in
    let parents : node.parent ≡ parent (document_of trees) n =
    sym (ap (option_and_then (λ (x : TreeNode). x.parent)) at) ∙ (links.parents n low ∙ ap (λ (f : Forest). parent f n) read.same) in
    let zero-n : 0 + n ≡ n = omega arith in
    let many = length-nodes nodes trees read in
    let of_node : slice_get (contents_of nodes) n ≡ Some node.content = slice_get-map (λ (x : TreeNode). x.content) nodes n ∙ ap (option_map (λ (x : TreeNode). x.content)) at in
    let of_row : slice_get (contents_in (rows_of trees)) n ≡ Some row.content = slice_get-map (λ (x : Row). x.content) (rows_of trees) n ∙ ap (option_map (λ (x : Row). x.content)) is in
    let of_document : slice_get (document_of trees).content n ≡ slice_get (contents_in (rows_of trees)) n =
    ap (slice_get (document_of trees).content) (sym zero-n) ∙ (document_rows trees).content n (omega (arith, low, many)) in
    let contents : Some node.content ≡ Some row.content =
    sym of_node ∙ (ap (λ (cs : List NodeData). slice_get cs n) (links.contents ∙ ap (λ (f : Forest). f.content) read.same) ∙ (of_document ∙ of_row)) in
    let content : node.content ≡ row.content = cc in
    ap (λ o. next_scope scopes o node.content) parents
    ∙ (same_scope trees scopes n row node.content is few ∙ ap (next_scope scopes row.parent) content)

-- the next of the nodes below the root decides, and then those after it
pub node_next : (nodes : List TreeNode) (trees : ValueTrees) → IsRead nodes trees → (scopes : List Scope) (i : ℕ) (node : TreeNode) →
    slice_get nodes (suc i) ≡ Some node → suc i < length nodes → length scopes ≡ suc i → (made : Option Scope) → made ≡ next_scope scopes node.parent node.content →
    all_fit scopes (drop i (rows_from 0 1 trees)) ≡ option_map_or (λ s. all_fit (scopes ++ s ∷ []) (drop (suc i) (rows_from 0 1 trees))) made false
node_next nodes trees read scopes i node at low long made is =
    let many = length-nodes nodes trees read in
    let found = row_at (rows_from 0 1 trees) i (omega (arith, low, many)) in
    fits_next scopes (rows_from 0 1 trees) i found.0 found.1
    ∙ ap (λ o. option_map_or (λ s. all_fit (scopes ++ s ∷ []) (drop (suc i) (rows_from 0 1 trees))) o false)
    (sym (node_scope nodes trees read scopes (suc i) node found.0 at low found.1 (omega (arith, long, low, many))) ∙ sym is)

get_at : {X : Type 0} (xs : List X) (i : ℕ) (d : X) → i < length xs → slice_get xs i ≡ Some (get_or xs i d)
get_at [] i d h = absurd (omega arith)
get_at (x ∷ xs) zero d h = refl
get_at (x ∷ xs) (suc i) d h = get_at xs i d (omega arith)

-- a node below the root
pub record IsBelow (nodes : List TreeNode) (i : ℕ) (node : TreeNode) : Type 0 where
  pub at : slice_get nodes (suc i) ≡ Some node
  pub low : suc i < length nodes

behind_first : (nodes : List TreeNode) (i : ℕ) (node : TreeNode) → i < length (drop 1 nodes) → node ≡ get_or (drop 1 nodes) i node → IsBelow nodes i node
behind_first [] i node h e = absurd (omega arith)
behind_first (first ∷ rest) i node h e = record { at = get_at rest i node h ∙ ap Some (sym e); low = omega (arith, h) }

whole_rest : (nodes : List TreeNode) → take (length nodes - 1) (drop 1 nodes) ≡ drop 1 nodes
whole_rest nodes = take_all (length nodes - 1) (drop 1 nodes) (omega (arith, length-drop 1 nodes))

pub node_below : (nodes : List TreeNode) (i : ℕ) (node : TreeNode) → i < length (take (length nodes - 1) (drop 1 nodes)) → node ≡ get_or (take (length nodes - 1) (drop 1 nodes)) i node → IsBelow nodes i node
node_below nodes i node h e =
    behind_first nodes i node (subst (λ (xs : List TreeNode). i < length xs) (whole_rest nodes) h) (e ∙ ap (λ (xs : List TreeNode). get_or xs i node) (whole_rest nodes))

-- past the last node nothing is left
pub nodes_none : (nodes : List TreeNode) (trees : ValueTrees) → IsRead nodes trees → (scopes : List Scope) (i : ℕ) → length (take (length nodes - 1) (drop 1 nodes)) ≤ i →
    all_fit scopes (drop i (rows_from 0 1 trees)) ≡ true
nodes_none nodes trees read scopes i h =
    let many = length-nodes nodes trees read in
    let count : length (take (length nodes - 1) (drop 1 nodes)) ≡ length (drop 1 nodes) = ap length (whole_rest nodes) in
    fits_none scopes (rows_from 0 1 trees) i (omega (arith, h, many, count, length-drop 1 nodes))
