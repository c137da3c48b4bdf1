-- Nodes that stand for one list of trees are the same trees.
use Rattle.std.proofs.Common.{◌≡◌, ℕ, ◌<◌, Bool, true, false, List, [], ◌∷◌, length, Option, Some, None, refl, sym, ap, ◌∙◌, subst, map, slice_get, if◌then◌else◌}
use Rattle.std.specs.Option.{option_map, option_map_or}
use Rattle.std.proofs.lemmas.Bool.{true≢false, eq-eqb}
use Rattle.std.proofs.lemmas.Bool.Decides.{when_true, when_false}
use Rattle.std.proofs.lemmas.Option.{slice_get_within}
use Rattle.dom_nodes.specs.Kinds.{is_fragment}
use Rattle.dom_nodes.specs.declared.name.Attr.{Attr}
use Rattle.dom_nodes.specs.declared.node_data.NodeData.{NodeData}
use Rattle.dom_nodes.specs.declared.node_data.NodeData.TheVariants.{Document, Fragment, Doctype, Text, Comment, Element as AnElement, ProcessingInstruction}
use Rattle.dom_links.specs.Lists.{is_member}
use Rattle.dom_links.specs.Forest.{Forest, children_of}
use Rattle.dom_links.specs.Sound.{IsForest, children_allowed_at}
use Rattle.dom_links.specs.Trees.{contents_list, trees}
use Rattle.dom_links.specs.Laws.{AreTrees}
use Rattle.dom_trees.specs.SameTree.{SameTree, TreeShape, compared, nothing, tree_shape, shape_of_tree, without_prefix}
use Rattle.dom_markup.specs.Names.{is_template}
use Rattle.dom_markup.specs.Numbered.{document_of, read_attr, read_element}
use Rattle.dom_markup.specs.Plain.{IsElement, IsPlain, Represents, StandForAttributes, html_element}
use Rattle.dom_markup.specs.ValueTrees.{Attribute, ValueTrees}
use Rattle.dom_markup.specs.ValueTrees.ValueTrees.{no_trees, text_node, comment_node, doctype_node, element_node}
use Rattle.dom_markup.proofs.rows.DocumentSound.{document_sound}
use Rattle.dom_markup.proofs.plain.PlainRows.{document-represents, document-root}
use Rattle.dom_markup.proofs.plain.PlainForest.{contents_are, contents_none, known_all, known_more}

-- what nodes that stand for the trees show
abbrev pub shown_values : ValueTrees → TreeShape
shown_values no_trees = nothing
shown_values (text_node contents later) = shape_of_tree (Some (Text contents)) nothing nothing (shown_values later)
shown_values (comment_node contents later) = shape_of_tree (Some (Comment contents)) nothing nothing (shown_values later)
shown_values (doctype_node name public system later) = shape_of_tree (Some (Doctype name public system)) nothing nothing (shown_values later)
shown_values (element_node name attributes children later) =
    if is_template name then shape_of_tree (Some (compared (read_element name attributes None))) (shape_of_tree (Some Fragment) nothing (shown_values children) nothing) nothing (shown_values later)
    else shape_of_tree (Some (compared (read_element name attributes None))) nothing (shown_values children) (shown_values later)

-- a node that may have no children has none
no_children : (forest : Forest) → IsForest forest → (n : ℕ) → children_allowed_at forest n ≡ false → children_of forest n ≡ []
no_children forest good n bare = go (children_of forest n) refl
  where
    go : (ns : List ℕ) → children_of forest n ≡ ns → children_of forest n ≡ []
    go [] is = is
    go (k ∷ ks) is =
        let stands : is_member k (children_of forest n) ≡ true = ap (is_member k) is ∙ (rw (eq-eqb k k refl) refl) in
        absurd (true≢false (sym (good.parents_allow n k (good.once.in_children n k stands).1) ∙ bare))

-- what a node shows, and those after it
tree_shape-node : (forest : Forest) → AreTrees forest → (ns others : List ℕ) (n : ℕ) (content : NodeData) → ns ≡ n ∷ others → ((m : ℕ) → is_member m ns ≡ true → m < length forest.content) → slice_get forest.content n ≡ Some content →
    tree_shape forest (trees forest ns) ≡ shape_of_tree (Some (compared content)) (tree_shape forest (trees forest (contents_list forest n))) (tree_shape forest (trees forest (children_of forest n))) (tree_shape forest (trees forest others))
tree_shape-node forest are ns others n content is known read =
    let unfolded = are.a_tree n others (subst (λ (l : List ℕ). (m : ℕ) → is_member m l ≡ true → m < length forest.content) is known) in
    ap (λ l. tree_shape forest (trees forest l)) is ∙ (ap (tree_shape forest) unfolded
    ∙ ap (λ o. shape_of_tree (option_map compared o) (tree_shape forest (trees forest (contents_list forest n))) (tree_shape forest (trees forest (children_of forest n))) (tree_shape forest (trees forest others))) read)

tree_shape-none : (forest : Forest) → AreTrees forest → (ns : List ℕ) → ns ≡ [] → tree_shape forest (trees forest ns) ≡ nothing
tree_shape-none forest are ns none = ap (λ l. tree_shape forest (trees forest l)) none ∙ ap (tree_shape forest) are.no_trees

-- a node that holds nothing
tree_shape-leaf : (forest : Forest) → IsForest forest → AreTrees forest → (ns others : List ℕ) (n : ℕ) (content : NodeData) → ns ≡ n ∷ others → ((m : ℕ) → is_member m ns ≡ true → m < length forest.content) → slice_get forest.content n ≡ Some content →
    children_allowed_at forest n ≡ false → contents_list forest n ≡ [] → tree_shape forest (trees forest ns) ≡ shape_of_tree (Some (compared content)) nothing nothing (tree_shape forest (trees forest others))
tree_shape-leaf forest good are ns others n content is known read bare empty =
    tree_shape-node forest are ns others n content is known read
    ∙ (ap (λ s. shape_of_tree (Some (compared content)) s (tree_shape forest (trees forest (children_of forest n))) (tree_shape forest (trees forest others))) (tree_shape-none forest are (contents_list forest n) empty)
    ∙ ap (λ s. shape_of_tree (Some (compared content)) nothing s (tree_shape forest (trees forest others))) (tree_shape-none forest are (children_of forest n) (no_children forest good n bare)))

-- a fragment alone
tree_shape-fragment : (forest : Forest) → AreTrees forest → (c : ℕ) → option_map_or is_fragment (slice_get forest.content c) false ≡ true →
    tree_shape forest (trees forest (c ∷ [])) ≡ shape_of_tree (Some Fragment) nothing (tree_shape forest (trees forest (children_of forest c))) nothing
tree_shape-fragment forest are c is = by_content (slice_get forest.content c) refl
  where
    whole : slice_get forest.content c ≡ Some Fragment → tree_shape forest (trees forest (c ∷ [])) ≡ shape_of_tree (Some Fragment) nothing (tree_shape forest (trees forest (children_of forest c))) nothing
    whole read =
        let empty : contents_list forest c ≡ [] = rw read refl in
        tree_shape-node forest are (c ∷ []) [] c Fragment refl (known_more forest (c ∷ []) [] c refl (slice_get_within _ c Fragment read) (λ m s. absurd (true≢false (sym s)))) read
        ∙ (ap (λ s. shape_of_tree (Some Fragment) s (tree_shape forest (trees forest (children_of forest c))) (tree_shape forest (trees forest []))) (tree_shape-none forest are (contents_list forest c) empty)
        ∙ ap (λ s. shape_of_tree (Some Fragment) nothing (tree_shape forest (trees forest (children_of forest c))) s) (tree_shape-none forest are [] refl))

    other : (content : NodeData) → is_fragment content ≡ false → slice_get forest.content c ≡ Some content → ⊥
    other content differs read = true≢false (sym is ∙ ap (λ o. option_map_or is_fragment o false) read ∙ differs)

    by_content : (o : Option NodeData) → slice_get forest.content c ≡ o → tree_shape forest (trees forest (c ∷ [])) ≡ shape_of_tree (Some Fragment) nothing (tree_shape forest (trees forest (children_of forest c))) nothing
    by_content None read = absurd (true≢false (sym is ∙ ap (λ o. option_map_or is_fragment o false) read))
    by_content (Some Fragment) read = whole read
    by_content (Some Document) read = absurd (other Document refl read)
    by_content (Some (Doctype a b d)) read = absurd (other (Doctype a b d) refl read)
    by_content (Some (Text a)) read = absurd (other (Text a) refl read)
    by_content (Some (Comment a)) read = absurd (other (Comment a) refl read)
    by_content (Some (AnElement a)) read = absurd (other (AnElement a) refl read)
    by_content (Some (ProcessingInstruction a b)) read = absurd (other (ProcessingInstruction a b) refl read)

-- attributes that stand for others are compared equal to them
one_attr : (attr : Attr) (attribute : Attribute) → attr.name.ns ≡ (read_attr attribute).name.ns → attr.name.local ≡ attribute.name → attr.value ≡ attribute.value → without_prefix attr ≡ without_prefix (read_attr attribute)
one_attr attr attribute ns local value = rw (ns, local, value) refl

all_attrs : (attrs : List Attr) (attributes : List Attribute) → StandForAttributes attrs attributes → map without_prefix attrs ≡ map without_prefix (map read_attr attributes)
all_attrs [] [] stand = refl
all_attrs [] (attribute ∷ attributes) stand = absurd stand
all_attrs (attr ∷ attrs) [] stand = absurd stand
all_attrs (attr ∷ attrs) (attribute ∷ attributes) stand =
    ap (λ a. a ∷ map without_prefix attrs) (one_attr attr attribute stand.0 stand.1 stand.2) ∙ ap (λ (as' : List Attr). without_prefix (read_attr attribute) ∷ as') (all_attrs attrs attributes stand.3)

element_compared : (name : List ℕ) (attrs : List Attr) (attributes : List Attribute) (contents : Option ℕ) (flag : Bool) → StandForAttributes attrs attributes →
    compared (html_element name attrs contents flag) ≡ compared (read_element name attributes None)
element_compared name attrs attributes contents flag stand = ap (λ (as' : List Attr). html_element name as' None false) (all_attrs attrs attributes stand)

-- what is below an element
below-tree_shape : (forest : Forest) → IsForest forest → AreTrees forest → (n : ℕ) (name : List ℕ) (attributes : List Attribute) (below others : List ℕ) (children : TreeShape) → (is : IsElement forest n name attributes below) →
    tree_shape forest (trees forest below) ≡ children → (root : Option NodeData) (later : TreeShape) →
    shape_of_tree root (tree_shape forest (trees forest (contents_list forest n))) (tree_shape forest (trees forest (children_of forest n))) later
    ≡ (if is_template name then shape_of_tree root (shape_of_tree (Some Fragment) nothing children nothing) nothing later else shape_of_tree root nothing children later)
below-tree_shape forest good are n name attributes below others children is same root later = by_name (is_template name) is.contents refl refl
  where
    by_name : (t : Bool) (contents : Option ℕ) → is_template name ≡ t → is.contents ≡ contents →
        shape_of_tree root (tree_shape forest (trees forest (contents_list forest n))) (tree_shape forest (trees forest (children_of forest n))) later
        ≡ (if t then shape_of_tree root (shape_of_tree (Some Fragment) nothing children nothing) nothing later else shape_of_tree root nothing children later)
    by_name true None t some = absurd (rw some at (when_true _ _ t is.holds))
    by_name true (Some c) t some =
        let holds : (children_of forest n ≡ []) × (below ≡ children_of forest c) = rw some at (when_true _ _ t is.holds) in
        let list : contents_list forest n ≡ c ∷ [] = contents_are forest n name is.attrs is.contents is.flag is.read c some in
        let named = good.contents_known n c (rw (is.read, some) refl) in
        let inner : tree_shape forest (trees forest (contents_list forest n)) ≡ shape_of_tree (Some Fragment) nothing children nothing =
        ap (λ l. tree_shape forest (trees forest l)) list ∙ (tree_shape-fragment forest are c named.1 ∙ ap (λ s. shape_of_tree (Some Fragment) nothing s nothing) (ap (λ l. tree_shape forest (trees forest l)) (sym holds.1) ∙ same)) in
        ap (λ s. shape_of_tree root s (tree_shape forest (trees forest (children_of forest n))) later) inner
        ∙ ap (λ s. shape_of_tree root (shape_of_tree (Some Fragment) nothing children nothing) s later) (tree_shape-none forest are (children_of forest n) holds.0)
    by_name false contents t some =
        let holds = when_false _ _ t is.holds in
        let list : contents_list forest n ≡ [] = contents_none forest n name is.attrs is.contents is.flag is.read holds.0 in
        ap (λ s. shape_of_tree root s (tree_shape forest (trees forest (children_of forest n))) later) (tree_shape-none forest are (contents_list forest n) list)
        ∙ ap (λ s. shape_of_tree root nothing s later) (ap (λ l. tree_shape forest (trees forest l)) (sym holds.1) ∙ same)

pub represented-tree_shape : (forest : Forest) → IsForest forest → AreTrees forest → (ns : List ℕ) (values : ValueTrees) → Represents forest ns values → tree_shape forest (trees forest ns) ≡ shown_values values
represented-tree_shape forest good are ns no_trees r = tree_shape-none forest are ns r
represented-tree_shape forest good are ns (text_node contents later) r =
    tree_shape-leaf forest good are ns r.1 r.0 (Text contents) r.2 (known_all forest ns (text_node contents later) r) r.3 (rw r.3 refl) (rw r.3 refl)
    ∙ ap (shape_of_tree (Some (Text contents)) nothing nothing) (represented-tree_shape forest good are r.1 later r.4)
represented-tree_shape forest good are ns (comment_node contents later) r =
    tree_shape-leaf forest good are ns r.1 r.0 (Comment contents) r.2 (known_all forest ns (comment_node contents later) r) r.3 (rw r.3 refl) (rw r.3 refl)
    ∙ ap (shape_of_tree (Some (Comment contents)) nothing nothing) (represented-tree_shape forest good are r.1 later r.4)
represented-tree_shape forest good are ns (doctype_node name public system later) r =
    tree_shape-leaf forest good are ns r.1 r.0 (Doctype name public system) r.2 (known_all forest ns (doctype_node name public system later) r) r.3 (rw r.3 refl) (rw r.3 refl)
    ∙ ap (shape_of_tree (Some (Doctype name public system)) nothing nothing) (represented-tree_shape forest good are r.1 later r.4)
represented-tree_shape forest good are ns (element_node name attributes children later) r =
    tree_shape-node forest are ns r.1 r.0 (html_element name r.4.attrs r.4.contents r.4.flag) r.3 (known_all forest ns (element_node name attributes children later) r) r.4.read
    ∙ (ap (λ e. shape_of_tree (Some e) (tree_shape forest (trees forest (contents_list forest r.0))) (tree_shape forest (trees forest (children_of forest r.0))) (tree_shape forest (trees forest r.1))) (element_compared name r.4.attrs attributes r.4.contents r.4.flag r.4.named)
    ∙ (ap (shape_of_tree (Some (compared (read_element name attributes None))) (tree_shape forest (trees forest (contents_list forest r.0))) (tree_shape forest (trees forest (children_of forest r.0)))) (represented-tree_shape forest good are r.1 later r.6)
    ∙ below-tree_shape forest good are r.0 name attributes r.2 r.1 (shown_values children) r.4 (represented-tree_shape forest good are r.2 children r.5) (Some (compared (read_element name attributes None))) (shown_values later)))

-- a document and what is below it
pub document-tree_shape : (forest : Forest) → IsForest forest → AreTrees forest → slice_get forest.content 0 ≡ Some Document → (values : ValueTrees) → Represents forest (children_of forest 0) values →
    tree_shape forest (trees forest (0 ∷ [])) ≡ shape_of_tree (Some Document) nothing (shown_values values) nothing
document-tree_shape forest good are root values r =
    let empty : contents_list forest 0 ≡ [] = rw root refl in
    tree_shape-node forest are (0 ∷ []) [] 0 Document refl (known_more forest (0 ∷ []) [] 0 refl good.rooted (λ m s. absurd (true≢false (sym s)))) root
    ∙ (ap (λ s. shape_of_tree (Some Document) s (tree_shape forest (trees forest (children_of forest 0))) (tree_shape forest (trees forest []))) (tree_shape-none forest are (contents_list forest 0) empty)
    ∙ (ap (λ s. shape_of_tree (Some Document) nothing s (tree_shape forest (trees forest []))) (represented-tree_shape forest good are (children_of forest 0) values r)
    ∙ ap (λ s. shape_of_tree (Some Document) nothing (shown_values values) s) (tree_shape-none forest are [] refl)))

-- documents that stand for the same trees
pub documents_same : (one other : Forest) → IsForest one → IsForest other → AreTrees one → AreTrees other → slice_get one.content 0 ≡ Some Document → slice_get other.content 0 ≡ Some Document →
    (values : ValueTrees) → Represents one (children_of one 0) values → Represents other (children_of other 0) values → SameTree one 0 other 0
documents_same one other good fine are also root base values r s = record {
  known = good.rooted;
  other_known = fine.rooted;
  same = document-tree_shape one good are root values r ∙ sym (document-tree_shape other fine also base values s);
}

-- a plain document is the document of the trees that its HTML spells
pub plain_same : (forest : Forest) → IsForest forest → AreTrees forest → ((trees : ValueTrees) → AreTrees (document_of trees)) → (plain : IsPlain forest) → SameTree forest 0 (document_of plain.trees) 0
plain_same forest good are trees_are plain =
    documents_same forest (document_of plain.trees) good (document_sound plain.trees) are (trees_are plain.trees) plain.root (document-root plain.trees) plain.trees plain.below (document-represents plain.trees)
