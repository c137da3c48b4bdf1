-- The document of any trees is a forest.
use Rattle.std.proofs.Common.{◌≡◌, ℕ, ◌+◌, ◌<◌, Bool, true, false, List, [], ◌∷◌, ◌++◌, length, Some, None, refl, sym, ap, ◌∙◌, subst, arith, add-zero, slice_get}
use Rattle.std.specs.Option.{option_map_or}
use Rattle.std.proofs.lemmas.Bool.{true≢false}
use Rattle.dom_nodes.specs.declared.node_data.NodeData.{NodeData}
use Rattle.dom_nodes.specs.declared.node_data.NodeData.TheVariants.{Document, Fragment, Doctype, Text, Comment}
use Rattle.dom_nodes.specs.Kinds.{contents_named, is_fragment, is_top, children_allowed}
use Rattle.dom_links.specs.Forest.{Forest}
use Rattle.dom_links.specs.Sound.{IsForest, children_allowed_at}
use Rattle.dom_markup.specs.Names.{is_template}
use Rattle.dom_markup.specs.Numbered.{Row, document_of, read_element, rows_from, rows_of, size}
use Rattle.dom_markup.specs.ValueTrees.{ValueTrees}
use Rattle.dom_markup.specs.ValueTrees.ValueTrees.{no_trees, text_node, comment_node, doctype_node, element_node}
use Rattle.dom_markup.proofs.plain.PlainRows.{HasRows, child_row, document_rows, first_content, fragment_row, parts_of, rows-size, rows_after, rows_back, skip_two}
use Rattle.dom_markup.proofs.rows.RowsForest.{AreInOrder, IsInOrder, contents_of_rows}
use Rattle.dom_markup.proofs.rows.RowsSound.{rows_forest}

-- a row that is no element with contents, below one that may have children
plain_row : (forest : Forest) (p n : ℕ) (content : NodeData) → p < n → children_allowed_at forest p ≡ true → is_top content ≡ false → contents_named content ≡ None → IsInOrder forest.content n (child_row p content)
plain_row forest p n content low parents_allow top none = record {
  below = λ q e. (let is : p ≡ q = cc in (omega (arith, is, low), subst (λ (k : ℕ). children_allowed_at forest k ≡ true) is parents_allow));
  top = λ t. absurd (true≢false (sym t ∙ top));
  holds = λ c e. absurd (none_some c (sym none ∙ e));
}
  where
    none_some : (c : ℕ) → None ≡ Some c → ⊥
    none_some c e = cc

in_order-append : (content : List NodeData) (n m : ℕ) (xs ys : List Row) → n + length xs ≡ m → AreInOrder content n xs → AreInOrder content m ys → AreInOrder content n (xs ++ ys)
in_order-append content n m [] ys sum a b = subst (λ (k : ℕ). AreInOrder content k ys) (sym (sym (add-zero n) ∙ sum)) b
in_order-append content n m (x ∷ xs) ys sum a b = (a.0, in_order-append content (n + 1) m xs ys (omega (arith, sum)) a.1 b)

trees_in_order : (forest : Forest) (p n : ℕ) (trees : ValueTrees) → p < n → children_allowed_at forest p ≡ true → HasRows forest n (rows_from p n trees) → AreInOrder forest.content n (rows_from p n trees)
trees_in_order forest p n no_trees low parents_allow has = tt
trees_in_order forest p n (text_node contents later) low parents_allow has =
    (plain_row forest p n (Text contents) low parents_allow refl refl, trees_in_order forest p (n + 1) later (omega (arith, low)) parents_allow (rows_after forest p n (Text contents) (rows_from p (n + 1) later) low has))
trees_in_order forest p n (comment_node contents later) low parents_allow has =
    (plain_row forest p n (Comment contents) low parents_allow refl refl, trees_in_order forest p (n + 1) later (omega (arith, low)) parents_allow (rows_after forest p n (Comment contents) (rows_from p (n + 1) later) low has))
trees_in_order forest p n (doctype_node name public system later) low parents_allow has =
    (plain_row forest p n (Doctype name public system) low parents_allow refl refl, trees_in_order forest p (n + 1) later (omega (arith, low)) parents_allow (rows_after forest p n (Doctype name public system) (rows_from p (n + 1) later) low has))
trees_in_order forest p n (element_node name attributes children later) low parents_allow has =
    by_name (is_template name) refl (trees_in_order forest (n + 1) (n + 2) children) (trees_in_order forest p (n + 2 + size children) later) (trees_in_order forest n (n + 1) children) (trees_in_order forest p (n + 1 + size children) later)
  where
    by_name : (t : Bool) → is_template name ≡ t →
        (n + 1 < n + 2 → children_allowed_at forest (n + 1) ≡ true → HasRows forest (n + 2) (rows_from (n + 1) (n + 2) children) → AreInOrder forest.content (n + 2) (rows_from (n + 1) (n + 2) children)) →
        (p < n + 2 + size children → children_allowed_at forest p ≡ true → HasRows forest (n + 2 + size children) (rows_from p (n + 2 + size children) later) → AreInOrder forest.content (n + 2 + size children) (rows_from p (n + 2 + size children) later)) →
        (n < n + 1 → children_allowed_at forest n ≡ true → HasRows forest (n + 1) (rows_from n (n + 1) children) → AreInOrder forest.content (n + 1) (rows_from n (n + 1) children)) →
        (p < n + 1 + size children → children_allowed_at forest p ≡ true → HasRows forest (n + 1 + size children) (rows_from p (n + 1 + size children) later) → AreInOrder forest.content (n + 1 + size children) (rows_from p (n + 1 + size children) later)) →
        AreInOrder forest.content n (rows_from p n (element_node name attributes children later))
    by_name false t a b c d =
        let first = rows_from n (n + 1) children in
        let rest = rows_from p (n + 1 + size children) later in
        let content = read_element name attributes None in
        let whole : HasRows forest n (child_row p content ∷ (first ++ rest)) = rw t at has in
        let parts = parts_of forest p n (n + 1) children later low (omega arith) (rows_after forest p n content (first ++ rest) low whole) in
        let here : children_allowed_at forest n ≡ true = ap (λ o. option_map_or children_allowed o false) (first_content forest n (child_row p content) (first ++ rest) whole) in
        rw t (
          plain_row forest p n content low parents_allow refl refl,
          in_order-append forest.content (n + 1) (n + 1 + size children) first rest (omega (arith, rows-size n (n + 1) children)) (c (omega arith) here parts.inner) (d (omega (arith, low)) parents_allow parts.outer),
        )
    by_name true t a b c d =
        let first = rows_from (n + 1) (n + 2) children in
        let rest = rows_from p (n + 2 + size children) later in
        let content = read_element name attributes (Some (n + 1)) in
        let whole : HasRows forest n (child_row p content ∷ (fragment_row ∷ (first ++ rest))) = rw t at has in
        let after : HasRows forest (n + 2) (first ++ rest) = rows_back forest n (n + 2) (child_row p content ∷ fragment_row ∷ []) (first ++ rest) (omega arith) whole (λ q under. skip_two p n q content [] (omega (arith, under, low))) in
        let parts = parts_of forest p (n + 1) (n + 2) children later (omega (arith, low)) (omega arith) after in
        let fragment : slice_get forest.content (n + 1) ≡ Some Fragment = whole.content 1 (omega arith) in
        let here : children_allowed_at forest (n + 1) ≡ true = ap (λ o. option_map_or children_allowed o false) fragment in
        let many : n + 1 + 1 ≡ n + 2 = omega arith in
        let inner = in_order-append forest.content (n + 2) (n + 2 + size children) first rest (omega (arith, rows-size (n + 1) (n + 2) children)) (a (omega arith) here parts.inner) (b (omega (arith, low)) parents_allow parts.outer) in
        rw t (
          record {
            below = λ q e. (let is : p ≡ q = cc in (omega (arith, is, low), subst (λ (k : ℕ). children_allowed_at forest k ≡ true) is parents_allow));
            top = λ e. absurd (true≢false (sym e));
            holds = λ k e. (let is : n + 1 ≡ k = cc in (sym is, subst (λ (k : ℕ). option_map_or is_fragment (slice_get forest.content k) false ≡ true) is (ap (λ o. option_map_or is_fragment o false) fragment)));
          },
          (
            record {
              below = λ q e. absurd (none_some q e);
              top = λ e. refl;
              holds = λ k e. absurd (none_some k e);
            },
            subst (λ (k : ℕ). AreInOrder forest.content k (first ++ rest)) (sym many) inner,
          ),
        )
      where
        none_some : (q : ℕ) → None ≡ Some q → ⊥
        none_some q e = cc

rows_in_order : (trees : ValueTrees) → AreInOrder (contents_of_rows (rows_of trees)) 0 (rows_of trees)
unfolding document_of
rows_in_order trees =
    let forest = document_of trees in
    let root : Row = record { parent = None; content = Document } in
    let after : HasRows forest 1 (rows_from 0 1 trees) = rows_back forest 0 1 (root ∷ []) (rows_from 0 1 trees) refl (document_rows trees) (λ q low. refl) in (
      record {
        below = λ q e. absurd (none_some q e);
        top = λ e. refl;
        holds = λ k e. absurd (none_some k e);
      },
      trees_in_order forest 0 1 trees (omega arith) refl after,
    )
  where
    none_some : (q : ℕ) → None ≡ Some q → ⊥
    none_some q e = cc

pub document_sound : (trees : ValueTrees) → IsForest (document_of trees)
unfolding document_of
document_sound trees = rows_forest (rows_of trees) (omega arith) (rows_in_order trees)
