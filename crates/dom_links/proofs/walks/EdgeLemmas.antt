-- The entries of a traversal and their edges.
use Rattle.std.proofs.Common.{◌≡◌, ℕ, zero, suc, ◌<◌, ◌≤◌, Bool, true, false, List, [], ◌∷◌, ◌++◌, length, Option, Some, None, refl, sym, ◌∙◌, ap, subst, append_assoc, append-nil, slice_get, inl, inr, arith}
use Rattle.std.specs.Prelude.{◌==◌, if◌then◌else◌}
use Rattle.std.proofs.lemmas.Bool.{cases_Bool, eqb-true}
use Rattle.std.proofs.lemmas.List.{reverse-append}
use Rattle.std.proofs.lemmas.Option.{slice_get_past, slice_get_within}
use Rattle.dom_nodes.specs.Kinds.{contents_named}
use Rattle.dom_nodes.specs.declared.node_data.NodeData.{NodeData}
use Rattle.dom_nodes.specs.declared.node_data.TreeNode.{TreeNode}
use Rattle.dom_links.specs.Forest.{Forest, children_of}
use Rattle.dom_links.specs.Sound.{IsForest}
use Rattle.dom_links.specs.Trees.{Tree, contents_list, trees, trees_to}
use Rattle.dom_links.specs.Walk.{IsNodeOf, later, row_on}
use Rattle.dom_links.proofs.forest.Depth.{trees-none, trees-some}
use Rattle.dom_links.proofs.forest.Nodes.{children_past, siblings_past}
use Rattle.dom_links.proofs.forest.Places.{cases_Option}
use Rattle.dom_links.proofs.walks.Later.{begins, follows, tree_at}
use Rattle.dom_links.specs.Edges.{Descending, child_edges, content_edges, edges, edges_ahead, entry_edges, inner_edges, roots, row_edges}
use Rattle.dom_links.specs.declared.edges.Edge.{Edge}
use Rattle.dom_links.specs.declared.edges.Edge.TheVariants.{Open, Close}
use Rattle.dom_links.specs.declared.edges.Entered.TheVariants.{All}
use Rattle.dom_links.specs.declared.edges.Entry.{Entry}

pub no_row : (d : Descending) (forest : Forest) (marked alone : Bool) (first : Option ℕ) → first ≡ None → row_edges d forest marked alone first ≡ []
no_row d forest marked true first none = rw (none, trees-none forest) refl
no_row d forest marked false first none = rw (none, trees-none forest) refl

pub pushed : (d : Descending) (forest : Forest) (old new : List Entry) (entry : Entry) → new ≡ old ++ entry ∷ [] → edges_ahead d forest new ≡ entry_edges d forest entry ++ edges_ahead d forest old
pushed d forest old new entry is = ap (edges_ahead d forest) is ∙ rw (reverse-append old (entry ∷ [])) refl

-- what was pushed where nothing was ahead
pub only : (d : Descending) (forest : Forest) (old : List Entry) (new es : List Edge) → old ≡ [] → new ≡ es ++ edges_ahead d forest old → new ≡ es
only d forest old new es empty is = is ∙ (ap (λ o. es ++ edges_ahead d forest o) empty ∙ append-nil es)

module _ (d : Descending) (forest : Forest) (good : IsForest forest) (n : ℕ) where
  -- ---- the children of a node

  children-row : (node : TreeNode) → IsNodeOf forest n node → (marked : Bool) → row_edges d forest marked false node.first_child ≡ edges d forest marked (trees forest (children_of forest n))
  children-row node is marked = ap (λ ns. edges d forest marked (trees forest ns)) (sym (begins forest false n node.first_child good is.first_is).all)

  pub children-known : (node : TreeNode) → IsNodeOf forest n node → row_edges d forest (d.mark node.content) false node.first_child ≡ child_edges d forest n
  children-known node is = rw is.content_is (children-row node is (d.mark node.content))

  pub children-unknown : length forest.content ≤ n → child_edges d forest n ≡ []
  children-unknown past = rw (children_past forest n good.once past, trees-none forest) refl

  pub children-pushed : (node : TreeNode) → IsNodeOf forest n node → (old one new : List Edge) → one ≡ Close n ∷ old → new ≡ row_edges d forest (d.mark node.content) false node.first_child ++ one →
      new ≡ inner_edges d forest n node.content ++ old
  children-pushed node is old one new first second =
      let children = edges d forest (d.mark node.content) (trees forest (children_of forest n)) in
      second ∙ (ap (λ es. es ++ one) (children-row node is (d.mark node.content)) ∙ (ap (λ es. children ++ es) first ∙ sym (append_assoc children (Close n ∷ []) old)))

  -- ---- what is entered

  pub all-pushed : (content : NodeData) → slice_get forest.content n ≡ Some content → d.inside content ≡ All → (old one new : List Edge) → one ≡ inner_edges d forest n content ++ old → new ≡ row_edges d forest false true (contents_named content) ++ one →
      new ≡ content_edges d forest n content ++ old
  all-pushed content read all old one new first second =
      let contents = edges d forest false (trees forest (contents_list forest n)) in
      let inner = inner_edges d forest n content in
      let row : row_edges d forest false true (contents_named content) ≡ contents = elim (cases_Option (contents_named content)) [
        | inl none ↦ rw (read, none) refl
        | inr (c, some) ↦ rw (read, some) refl
      ] in
      let whole : content_edges d forest n content ≡ contents ++ inner = rw all refl in
      second ∙ (ap (λ es. es ++ one) row ∙ (ap (λ es. contents ++ es) first ∙ (sym (append_assoc contents inner old) ∙ ap (λ es. es ++ old) (sym whole))))

  -- ---- opening a node

  row-tree : (content : NodeData) (marked alone : Bool) (next : Option ℕ) → slice_get forest.content n ≡ Some content → roots forest alone (Some n) ≡ n ∷ row_on forest false next →
      trees forest (n ∷ row_on forest false next) ≡ Tree n (trees forest (contents_list forest n)) (trees forest (children_of forest n)) (trees forest (row_on forest false next)) →
      row_edges d forest marked alone (Some n) ≡ Open n marked ∷ (content_edges d forest n content ++ row_edges d forest marked false next)
  row-tree content marked alone next read row tree = ap (λ ns. edges d forest marked (trees forest ns)) row ∙ (ap (edges d forest marked) tree ∙ rw read refl)

  pub opened : (node : TreeNode) → IsNodeOf forest n node → (marked alone : Bool) (next : Option ℕ) → next ≡ (if alone then None else node.next_sibling) → (old one new : List Edge) →
      one ≡ row_edges d forest marked false next ++ old → new ≡ content_edges d forest n node.content ++ one → Open n marked ∷ new ≡ row_edges d forest marked alone (Some n) ++ old
  opened node is marked alone next chosen old one new first second =
      let inside = content_edges d forest n node.content in
      let row = row_edges d forest marked false next in
      ap (λ es. Open n marked ∷ es) (second ∙ (ap (λ es. inside ++ es) first ∙ sym (append_assoc inside row old))) ∙ ap (λ es. es ++ old) (sym (here alone chosen))
    where
      known : n < length forest.content
      known = slice_get_within forest.content n node.content is.content_is

      here : (alone : Bool) → next ≡ (if alone then None else node.next_sibling) → row_edges d forest marked alone (Some n) ≡ Open n marked ∷ (content_edges d forest n node.content ++ row_edges d forest marked false next)
      here true none =
          let tree = trees-some forest n [] good (λ m s. elim (cases_Bool (n == m)) [
            | inl t ↦ subst (λ (k : ℕ). k < length forest.content) (eqb-true n m t) known
            | inr f ↦ (let no = rw f at s in absurd (cc))
          ]) in
          let empty : row_on forest false next ≡ [] = ap (row_on forest false) none in
          row-tree node.content marked true next is.content_is (ap (λ ns. n ∷ ns) (sym empty)) (rw empty tree)
      here false same =
          let rest : later forest false n ≡ row_on forest false next = (follows forest false n node.next_sibling good is.next_is).rest ∙ ap (row_on forest false) (sym same) in
          row-tree node.content marked false next is.content_is (ap (λ ns. n ∷ ns) rest) (subst (λ ns. trees forest (n ∷ ns) ≡ Tree n (trees forest (contents_list forest n)) (trees forest (children_of forest n)) (trees forest ns)) rest (tree_at forest n good known))

-- the edges of an unknown number
pub unknown-row : (d : Descending) (forest : Forest) → IsForest forest → (n : ℕ) (marked alone : Bool) → length forest.content ≤ n → row_edges d forest marked alone (Some n) ≡ Open n marked ∷ []
unfolding trees
unknown-row d forest good n marked alone past = here alone
  where
    by_fuel : (most : ℕ) → zero < most → edges d forest marked (trees_to forest most (n ∷ [])) ≡ Open n marked ∷ []
    by_fuel zero some = absurd (omega (arith, some))
    by_fuel (suc most) some = rw (slice_get_past forest.content n past) refl

    here : (alone : Bool) → row_edges d forest marked alone (Some n) ≡ Open n marked ∷ []
    here true = by_fuel (length forest.content) good.rooted
    here false =
        let none : later forest false n ≡ [] = rw (siblings_past forest n good.once past) refl in
        ap (λ ns. edges d forest marked (trees forest (n ∷ ns))) none ∙ by_fuel (length forest.content) good.rooted
