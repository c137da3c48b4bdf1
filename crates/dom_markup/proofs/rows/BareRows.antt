-- A read document has no doctype with identifiers where its trees have none.
use Rattle.std.proofs.Common.{◌≡◌, ℕ, suc, ◌+◌, Bool, true, false, List, [], ◌∷◌, ◌++◌, length, Some, None, refl, sym, ap, ◌∙◌, slice_get}
use Rattle.std.proofs.lemmas.Option.{slice_get_within}
use Rattle.dom_nodes.specs.declared.node_data.NodeData.TheVariants.{Doctype, Text, Comment}
use Rattle.dom_markup.specs.Names.{is_template}
use Rattle.dom_markup.specs.Numbered.{Row, document_of, read_element, rows_from, size}
use Rattle.dom_markup.specs.Plain.{HaveNoIdentifiers}
use Rattle.dom_markup.specs.ReadingBack.{LacksIdentifiers}
use Rattle.dom_markup.specs.ValueTrees.{ValueTrees}
use Rattle.dom_markup.specs.ValueTrees.ValueTrees.{no_trees, text_node, comment_node, doctype_node, element_node}
use Rattle.dom_markup.proofs.plain.PlainRows.{child_row, contents_back, contents_front, contents_in, fragment_row}

-- no doctype among the rows has an identifier
abbrev pub AreBare : List Row → Type 0
AreBare rows = (k : ℕ) (name public system : List ℕ) → slice_get (contents_in rows) k ≡ Some (Doctype name public system) → (public ≡ []) × (system ≡ [])

bare_tail : (row : Row) (rows : List Row) → AreBare (row ∷ rows) → AreBare rows
bare_tail row rows bare = λ k. bare (suc k)

length_contents : (rows : List Row) → length (contents_in rows) ≡ length rows
length_contents [] = refl
length_contents (row ∷ rows) = ap suc (length_contents rows)

bare_front : (xs ys : List Row) → AreBare (xs ++ ys) → AreBare xs
bare_front xs ys bare = λ k name public system is.
    bare k name public system (contents_front xs ys k (rw (sym (length_contents xs)) (slice_get_within _ k _ is)) ∙ is)

bare_back : (xs ys : List Row) → AreBare (xs ++ ys) → AreBare ys
bare_back xs ys bare = λ k name public system is. bare (length xs + k) name public system (contents_back xs ys k ∙ is)

bare_trees : (p n : ℕ) (trees : ValueTrees) → AreBare (rows_from p n trees) → HaveNoIdentifiers trees
bare_trees p n no_trees bare = tt
bare_trees p n (text_node contents later) bare = bare_trees p (n + 1) later (bare_tail (child_row p (Text contents)) _ bare)
bare_trees p n (comment_node contents later) bare = bare_trees p (n + 1) later (bare_tail (child_row p (Comment contents)) _ bare)
bare_trees p n (doctype_node name public system later) bare =
    let here = bare 0 name public system refl in (here.0, here.1, bare_trees p (n + 1) later (bare_tail (child_row p (Doctype name public system)) _ bare))
bare_trees p n (element_node name attributes children later) bare =
    by_name (is_template name) refl (bare_trees (n + 1) (n + 2) children) (bare_trees p (n + 2 + size children) later) (bare_trees n (n + 1) children) (bare_trees p (n + 1 + size children) later)
  where
    by_name : (t : Bool) → is_template name ≡ t →
        (AreBare (rows_from (n + 1) (n + 2) children) → HaveNoIdentifiers children) → (AreBare (rows_from p (n + 2 + size children) later) → HaveNoIdentifiers later) →
        (AreBare (rows_from n (n + 1) children) → HaveNoIdentifiers children) → (AreBare (rows_from p (n + 1 + size children) later) → HaveNoIdentifiers later) →
        HaveNoIdentifiers children × HaveNoIdentifiers later
    by_name true t a b c d =
        let first = rows_from (n + 1) (n + 2) children in
        let rest = rows_from p (n + 2 + size children) later in
        let row = child_row p (read_element name attributes (Some (n + 1))) in
        let whole : AreBare (row ∷ (fragment_row ∷ (first ++ rest))) = rw t at bare in
        let inner = bare_tail fragment_row (first ++ rest) (bare_tail row (fragment_row ∷ (first ++ rest)) whole) in
        (a (bare_front first rest inner), b (bare_back first rest inner))
    by_name false t a b c d =
        let first = rows_from n (n + 1) children in
        let rest = rows_from p (n + 1 + size children) later in
        let row = child_row p (read_element name attributes None) in
        let whole : AreBare (row ∷ (first ++ rest)) = rw t at bare in
        let inner = bare_tail row (first ++ rest) whole in
        (c (bare_front first rest inner), d (bare_back first rest inner))

pub bare_document : (trees : ValueTrees) → LacksIdentifiers (document_of trees) → HaveNoIdentifiers trees
unfolding document_of
bare_document trees bare = bare_trees 0 1 trees (λ k. bare (suc k))
