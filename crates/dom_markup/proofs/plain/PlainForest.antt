-- The HTML of nodes that stand for trees is that of the trees.
use Rattle.std.proofs.Common.{◌≡◌, ℕ, ◌<◌, Bool, true, false, List, [], ◌∷◌, ◌++◌, length, Option, Some, None, refl, sym, ap, ◌∙◌, subst, append-nil, append_assoc, map, slice_get, inl, inr}
use Rattle.std.specs.Prelude.{◌==◌, if◌then◌else◌}
use Rattle.std.proofs.lemmas.Bool.{cases_Bool, eqb-true, true≢false}
use Rattle.std.proofs.lemmas.Bool.Decides.{when_true, when_false}
use Rattle.std.proofs.lemmas.Option.{slice_get_within}
use Rattle.std.proofs.lemmas.Slice.Eq.{bytes_eq-Decides}
use Rattle.std.specs.Option.{option_map_or}
use Rattle.std.specs.Prelude.{codes}
use Rattle.dom_nodes.specs.Kinds.{is_fragment}
use Rattle.dom_nodes.specs.declared.node_data.NodeData.{NodeData}
use Rattle.dom_nodes.specs.declared.node_data.NodeData.TheVariants.{Document, Fragment, Doctype, Text, Comment, Element as AnElement, ProcessingInstruction}
use Rattle.dom_links.specs.Lists.{is_member}
use Rattle.dom_links.specs.Forest.{Forest, children_of}
use Rattle.dom_links.specs.Sound.{IsForest}
use Rattle.dom_links.specs.Trees.{contents_list, trees}
use Rattle.dom_links.specs.Laws.{AreTrees}
use Rattle.dom_nodes.specs.Words.{is_among}
use Rattle.dom_markup.specs.Names.{is_template, void_names, raw_names}
use Rattle.dom_markup.specs.Escaping.{escaped_text}
use Rattle.std.specs.List.{flat_map}
use Rattle.dom_nodes.specs.declared.name.Attr.{Attr}
use Rattle.dom_nodes.specs.declared.name.Namespace.TheVariants.{None as NoNamespace}
use Rattle.dom_markup.specs.Numbered.{read_attr}
use Rattle.dom_markup.specs.Html.{attr_text, end_tag, html_of, inner_html_of, is_kept, keeps_texts, node_text, trees_text}
use Rattle.dom_markup.specs.ValueTrees.{Attribute, ValueTrees}
use Rattle.dom_markup.specs.ValueTrees.ValueTrees.{no_trees, text_node, comment_node, doctype_node, element_node}
use Rattle.dom_markup.specs.Markup.{Spells}
use Rattle.dom_markup.proofs.plain.PlainText.{plain_spells}
use Rattle.dom_markup.specs.Plain.{IsPlain, start_text, text_of_trees, html_element, IsElement, Represents, StandForAttributes}

-- a node of the forest, and others after it
pub known_more : (forest : Forest) (ns others : List ℕ) (n : ℕ) → ns ≡ n ∷ others → n < length forest.content →
    ((m : ℕ) → is_member m others ≡ true → m < length forest.content) → (m : ℕ) → is_member m ns ≡ true → m < length forest.content
known_more forest ns others n is here later m stands = go (rw is at stands)
  where
    go : is_member m (n ∷ others) ≡ true → m < length forest.content
    go s = elim (cases_Bool (n == m)) [
      | inl t ↦ subst (λ (k : ℕ). k < length forest.content) (eqb-true n m t) here
      | inr f ↦ later m (rw f at s)
    ]

-- nodes that stand for trees are the forest's
pub known_all : (forest : Forest) (ns : List ℕ) (trees : ValueTrees) → Represents forest ns trees → (m : ℕ) → is_member m ns ≡ true → m < length forest.content
known_all forest ns no_trees r m s = absurd (true≢false (sym s ∙ ap (is_member m) r))
known_all forest ns (text_node contents later) r m s = known_more forest ns r.1 r.0 r.2 (slice_get_within _ r.0 _ r.3) (known_all forest r.1 later r.4) m s
known_all forest ns (comment_node contents later) r m s = known_more forest ns r.1 r.0 r.2 (slice_get_within _ r.0 _ r.3) (known_all forest r.1 later r.4) m s
known_all forest ns (doctype_node name public system later) r m s = known_more forest ns r.1 r.0 r.2 (slice_get_within _ r.0 _ r.3) (known_all forest r.1 later r.4) m s
known_all forest ns (element_node name attributes children later) r m s = known_more forest ns r.1 r.0 r.3 (slice_get_within _ r.0 _ r.4.read) (known_all forest r.1 later r.6) m s

-- the text of a node and of those after it
node-text : (forest : Forest) → AreTrees forest → (raw : Bool) (ns others : List ℕ) (n : ℕ) (content : NodeData) → ns ≡ n ∷ others → ((m : ℕ) → is_member m ns ≡ true → m < length forest.content) → slice_get forest.content n ≡ Some content →
    trees_text forest raw (trees forest ns) ≡ node_text content raw (trees_text forest false (trees forest (contents_list forest n))) (trees_text forest (keeps_texts content) (trees forest (children_of forest n))) ++ trees_text forest raw (trees forest others)
node-text forest are raw ns others n content is known read =
    let unfolded = are.a_tree n others (subst (λ (l : List ℕ). (m : ℕ) → is_member m l ≡ true → m < length forest.content) is known) in
    ap (λ l. trees_text forest raw (trees forest l)) is ∙ (ap (trees_text forest raw) unfolded
    ∙ ap (λ o. option_map_or (λ content. node_text content raw (trees_text forest false (trees forest (contents_list forest n))) (trees_text forest (keeps_texts content) (trees forest (children_of forest n)))) o [] ++ trees_text forest raw (trees forest others)) read)

-- the text of a fragment alone is that of its children
fragment-text : (forest : Forest) → AreTrees forest → (c : ℕ) → option_map_or is_fragment (slice_get forest.content c) false ≡ true → trees_text forest false (trees forest (c ∷ [])) ≡ trees_text forest false (trees forest (children_of forest c))
fragment-text forest are c is = by_content (slice_get forest.content c) refl
  where
    known : (content : NodeData) → slice_get forest.content c ≡ Some content → (m : ℕ) → is_member m (c ∷ []) ≡ true → m < length forest.content
    known content read = known_more forest (c ∷ []) [] c refl (slice_get_within _ c content read) (λ m s. absurd (true≢false (sym s)))

    by_content : (o : Option NodeData) → slice_get forest.content c ≡ o → trees_text forest false (trees forest (c ∷ [])) ≡ trees_text forest false (trees forest (children_of forest c))
    by_content (Some Fragment) read = node-text forest are false (c ∷ []) [] c Fragment refl (known Fragment read) read ∙ (ap (λ t. trees_text forest false (trees forest (children_of forest c)) ++ trees_text forest false t) are.no_trees ∙ append-nil _)
    by_content None read = absurd (true≢false (sym is ∙ ap (λ o. option_map_or is_fragment o false) read))
    by_content (Some Document) read = absurd (true≢false (sym is ∙ ap (λ o. option_map_or is_fragment o false) read))
    by_content (Some (Doctype a b d)) read = absurd (true≢false (sym is ∙ ap (λ o. option_map_or is_fragment o false) read))
    by_content (Some (Text a)) read = absurd (true≢false (sym is ∙ ap (λ o. option_map_or is_fragment o false) read))
    by_content (Some (Comment a)) read = absurd (true≢false (sym is ∙ ap (λ o. option_map_or is_fragment o false) read))
    by_content (Some (AnElement a)) read = absurd (true≢false (sym is ∙ ap (λ o. option_map_or is_fragment o false) read))
    by_content (Some (ProcessingInstruction a b)) read = absurd (true≢false (sym is ∙ ap (λ o. option_map_or is_fragment o false) read))

template_not_raw : (name : List ℕ) → is_template name ≡ true → is_among name raw_names ≡ false
unfolding raw_names
template_not_raw name is = ap (λ n. is_among n raw_names) (sym ((bytes_eq-Decides (codes "template") name).0 is))

pub contents_are : (forest : Forest) (n : ℕ) (name : List ℕ) (attrs : List Attr) (contents : Option ℕ) (flag : Bool) → slice_get forest.content n ≡ Some (html_element name attrs contents flag) →
    (c : ℕ) → contents ≡ Some c → contents_list forest n ≡ c ∷ []
contents_are forest n name attrs contents flag read c some = rw (read, some) refl

pub contents_none : (forest : Forest) (n : ℕ) (name : List ℕ) (attrs : List Attr) (contents : Option ℕ) (flag : Bool) → slice_get forest.content n ≡ Some (html_element name attrs contents flag) →
    contents ≡ None → contents_list forest n ≡ []
contents_none forest n name attrs contents flag read none = rw (read, none) refl

-- what is written in an element is the text of what is below it
inside-text : (forest : Forest) → IsForest forest → AreTrees forest → (n : ℕ) (name : List ℕ) (attributes : List Attribute) (below : List ℕ) (children : ValueTrees) → IsElement forest n name attributes below →
    ((raw : Bool) → trees_text forest raw (trees forest below) ≡ text_of_trees raw children) →
    trees_text forest false (trees forest (contents_list forest n)) ++ (trees_text forest (is_among name raw_names) (trees forest (children_of forest n)) ++ end_tag name) ≡ text_of_trees (is_among name raw_names) children ++ end_tag name
inside-text forest good are n name attributes below children is text = by_name (is_template name) is.contents refl refl
  where
    empty : (raw : Bool) (ns : List ℕ) → ns ≡ [] → trees_text forest raw (trees forest ns) ≡ []
    empty raw ns none = ap (λ l. trees_text forest raw (trees forest l)) none ∙ ap (trees_text forest raw) are.no_trees

    by_name : (t : Bool) (contents : Option ℕ) → is_template name ≡ t → is.contents ≡ contents →
        trees_text forest false (trees forest (contents_list forest n)) ++ (trees_text forest (is_among name raw_names) (trees forest (children_of forest n)) ++ end_tag name) ≡ text_of_trees (is_among name raw_names) children ++ end_tag name
    by_name true None t some = absurd (rw some at (when_true _ _ t is.holds))
    by_name true (Some c) t some =
        let holds : (children_of forest n ≡ []) × (below ≡ children_of forest c) = rw some at (when_true _ _ t is.holds) in
        let list : contents_list forest n ≡ c ∷ [] = contents_are forest n name is.attrs is.contents is.flag is.read c some in
        let named = good.contents_known n c (rw (is.read, some) refl) in
        let inner : trees_text forest false (trees forest (contents_list forest n)) ≡ text_of_trees false children =
        ap (λ l. trees_text forest false (trees forest l)) list ∙ (fragment-text forest are c named.1 ∙ (ap (λ l. trees_text forest false (trees forest l)) (sym holds.1) ∙ text false)) in
        let raw = template_not_raw name t in
        ap (λ x. x ++ (trees_text forest (is_among name raw_names) (trees forest (children_of forest n)) ++ end_tag name)) inner
        ∙ (ap (λ x. text_of_trees false children ++ (x ++ end_tag name)) (empty (is_among name raw_names) (children_of forest n) holds.0)
        ∙ ap (λ r. text_of_trees r children ++ end_tag name) (sym raw))
    by_name false contents t some =
        let holds = when_false _ _ t is.holds in
        let list : contents_list forest n ≡ [] = contents_none forest n name is.attrs is.contents is.flag is.read holds.0 in
        ap (λ x. x ++ (trees_text forest (is_among name raw_names) (trees forest (children_of forest n)) ++ end_tag name)) (empty false (contents_list forest n) list)
        ∙ ap (λ x. x ++ end_tag name) (ap (λ l. trees_text forest (is_among name raw_names) (trees forest l)) (sym holds.1) ∙ text (is_among name raw_names))

-- attributes that stand for others are written as they are
attr-text : (attr : Attr) (attribute : Attribute) → attr.name.ns ≡ NoNamespace → attr.name.local ≡ attribute.name → attr.value ≡ attribute.value → attr_text attr ≡ attr_text (read_attr attribute)
attr-text attr attribute ns local value = rw (ns, local, value) refl

attrs-text : (attrs : List Attr) (attributes : List Attribute) → StandForAttributes attrs attributes → flat_map attr_text attrs ≡ flat_map attr_text (map read_attr attributes)
attrs-text [] [] stand = refl
attrs-text [] (attribute ∷ attributes) stand = absurd stand
attrs-text (attr ∷ attrs) [] stand = absurd stand
attrs-text (attr ∷ attrs) (attribute ∷ attributes) stand =
    ap (λ t. t ++ flat_map attr_text attrs) (attr-text attr attribute stand.0 stand.1 stand.2) ∙ ap (λ t. attr_text (read_attr attribute) ++ t) (attrs-text attrs attributes stand.3)

pub represented-text : (forest : Forest) → IsForest forest → AreTrees forest → (raw : Bool) (ns : List ℕ) (values : ValueTrees) → Represents forest ns values → trees_text forest raw (trees forest ns) ≡ text_of_trees raw values
represented-text forest good are raw ns no_trees r = ap (λ l. trees_text forest raw (trees forest l)) r ∙ ap (trees_text forest raw) are.no_trees
represented-text forest good are raw ns (text_node contents later) r =
    let shown = if raw then contents else escaped_text contents in
    node-text forest are raw ns r.1 r.0 _ r.2 (known_all forest ns (text_node contents later) r) r.3
    ∙ (ap (λ x. x ++ trees_text forest raw (trees forest r.1)) (append-nil shown) ∙ ap (λ x. shown ++ x) (represented-text forest good are raw r.1 later r.4))
represented-text forest good are raw ns (comment_node contents later) r =
    node-text forest are raw ns r.1 r.0 _ r.2 (known_all forest ns (comment_node contents later) r) r.3
    ∙ (ap (λ x. x ++ trees_text forest raw (trees forest r.1)) (append-nil (codes "<!--" ++ (contents ++ codes "-->")))
    ∙ (ap (λ x. codes "<!--" ++ x) (append_assoc contents (codes "-->") (trees_text forest raw (trees forest r.1))) ∙ ap (λ x. codes "<!--" ++ (contents ++ (codes "-->" ++ x))) (represented-text forest good are raw r.1 later r.4)))
represented-text forest good are raw ns (doctype_node name public system later) r =
    node-text forest are raw ns r.1 r.0 _ r.2 (known_all forest ns (doctype_node name public system later) r) r.3
    ∙ (ap (λ x. x ++ trees_text forest raw (trees forest r.1)) (append-nil (codes "<!DOCTYPE " ++ (name ++ codes ">")))
    ∙ (ap (λ x. codes "<!DOCTYPE " ++ x) (append_assoc name (codes ">") (trees_text forest raw (trees forest r.1))) ∙ ap (λ x. codes "<!DOCTYPE " ++ (name ++ (codes ">" ++ x))) (represented-text forest good are raw r.1 later r.4)))
represented-text forest good are raw ns (element_node name attributes children later) r =
    let tag = start_text name attributes in
    let behind = trees_text forest raw (trees forest r.1) in
    let written : List ℕ → List ℕ = λ x. if is_among name void_names then [] else x in
    let inner = trees_text forest false (trees forest (contents_list forest r.0)) ++ (trees_text forest (is_among name raw_names) (trees forest (children_of forest r.0)) ++ end_tag name) in
    node-text forest are raw ns r.1 r.0 _ r.3 (known_all forest ns (element_node name attributes children later) r) r.4.read
    ∙ (ap (λ x. ((codes "<" ++ (name ++ (x ++ codes ">"))) ++ written inner) ++ behind) (attrs-text r.4.attrs attributes r.4.named)
    ∙ (ap (λ x. (tag ++ written x) ++ behind) (inside-text forest good are r.0 name attributes r.2 children r.4 (λ raw. represented-text forest good are raw r.2 children r.5))
    ∙ (append_assoc tag (written (text_of_trees (is_among name raw_names) children ++ end_tag name)) behind
    ∙ ap (λ x. tag ++ (written (text_of_trees (is_among name raw_names) children ++ end_tag name) ++ x)) (represented-text forest good are raw r.1 later r.6))))

-- the HTML of a document is that of the trees below its root
pub document-text : (forest : Forest) → IsForest forest → AreTrees forest → slice_get forest.content 0 ≡ Some Document → (values : ValueTrees) → Represents forest (children_of forest 0) values → html_of forest 0 ≡ text_of_trees false values
unfolding html_of
document-text forest good are root values r =
    let known : (m : ℕ) → is_member m (0 ∷ []) ≡ true → m < length forest.content = known_more forest (0 ∷ []) [] 0 refl good.rooted (λ m s. absurd (true≢false (sym s))) in
    node-text forest are (is_kept forest 0) (0 ∷ []) [] 0 Document refl known root
    ∙ (ap (λ t. trees_text forest false (trees forest (children_of forest 0)) ++ trees_text forest (is_kept forest 0) t) are.no_trees
    ∙ (append-nil _ ∙ represented-text forest good are false (children_of forest 0) values r))

pub plain_document_spells : (forest : Forest) → IsForest forest → AreTrees forest → (plain : IsPlain forest) → Spells (html_of forest 0) plain.trees
plain_document_spells forest good are plain =
    subst (λ (t : List ℕ). Spells t plain.trees) (sym (document-text forest good are plain.root plain.trees plain.below)) (plain_spells plain.trees plain.plain)

-- the HTML of a document's children is that of the document
inside-text-same : (forest : Forest) → IsForest forest → AreTrees forest → slice_get forest.content 0 ≡ Some Document → (values : ValueTrees) → Represents forest (children_of forest 0) values → inner_html_of forest 0 ≡ text_of_trees false values
unfolding inner_html_of
inside-text-same forest good are root values r = rw root (represented-text forest good are false (children_of forest 0) values r)

pub plain_document_inside_spells : (forest : Forest) → IsForest forest → AreTrees forest → (plain : IsPlain forest) → Spells (inner_html_of forest 0) plain.trees
plain_document_inside_spells forest good are plain =
    subst (λ (t : List ℕ). Spells t plain.trees) (sym (inside-text-same forest good are plain.root plain.trees plain.below)) (plain_spells plain.trees plain.plain)
