-- A forest whose nodes are those of the definition has the shape of a page where the definition's tree has it.
use Rattle.std.proofs.Common.{◌≡◌, ℕ, suc, zero, ◌≤◌, ◌==◌, ◌&&◌, ◌||◌, Bool, true, false, not, List, [], ◌∷◌, filter, refl, sym, ap, ◌∙◌, length, cond, codes, None, arith, inl, inr, true≢false}
use Rattle.std.specs.Prelude.{encode_utf8_all, slice_get}
use Rattle.std.specs.Char.{encode_utf8}
use Rattle.std.specs.Option.{option_and_then, option_map, option_map_or}
use Rattle.std.specs.Str.{bytes_eq}
use Rattle.std.proofs.lemmas.Bool.{cases_lt, or_cases}
use Rattle.std.proofs.lemmas.Slice.Eq.{bytes_eq-Decides}
use Rattle.dom_nodes.specs.Attrs.{element_of}
use Rattle.dom_nodes.specs.Kinds.{is_comment, is_doctype, is_element, is_top}
use Rattle.dom_nodes.specs.Names.{same_namespace}
use Rattle.dom_nodes.specs.declared.name.Namespace.TheVariants.{Html as HtmlNamespace}
use Rattle.dom_nodes.specs.declared.node_data.NodeData.{NodeData}
use Rattle.dom_nodes.specs.declared.node_data.NodeData.TheVariants.{Comment, Doctype, Document, Element, Fragment, ProcessingInstruction, Text}
use Rattle.dom_links.specs.Forest.{Forest, children_of}
use Rattle.dom_trees.specs.Views.{node_is}
use Rattle.standard_trees.specs.GrowingTree.{GrowingTree}
use Rattle.standard_trees.specs.TreeStore.{CommentNode, ContentsNode, DoctypeNode, DocumentNode, ElementNode, Html, Kind, MathMl, Node, Svg, TextNode, node_at}
use Rattle.standard_order.specs.PageShape.{are_page_parts, child_elements, has_page_parts, is_body_or_frameset, is_comment_kind, is_doctype_kind, is_element_kind}
use Rattle.standard_order.specs.PageShape.{is_html_at, is_html_kind, is_page_of, is_page_top, uncommented}
use Rattle.page_trees.specs.SameNodes.{AreNodes, IsKind}
use Rattle.page_trees.specs.Shape.{IsPage, are_parts, besides_comments, elements_of, has_parts, is_contents, is_html, is_top as is_whole_top}
use Rattle.page_trees.proofs.KeptElements.{past_kind}
use Rattle.page_trees.proofs.StandingNodes.{children_is, kind_is, same_length}

-- ---- the data of a node

no_comment_top : (c : NodeData) → is_top c ≡ true → is_comment c ≡ false
no_comment_top Document e = refl
no_comment_top Fragment e = refl
no_comment_top (Doctype name public_id system_id) e = refl
no_comment_top (Text text) e = refl
no_comment_top (Comment text) e = sym e
no_comment_top (Element element) e = refl
no_comment_top (ProcessingInstruction name text) e = refl

no_doctype_top : (c : NodeData) → is_top c ≡ true → is_doctype c ≡ false
no_doctype_top Document e = refl
no_doctype_top Fragment e = refl
no_doctype_top (Doctype name public_id system_id) e = sym e
no_doctype_top (Text text) e = refl
no_doctype_top (Comment text) e = refl
no_doctype_top (Element element) e = refl
no_doctype_top (ProcessingInstruction name text) e = refl

no_element_top : (c : NodeData) → is_top c ≡ true → is_element c ≡ false
no_element_top Document e = refl
no_element_top Fragment e = refl
no_element_top (Doctype name public_id system_id) e = refl
no_element_top (Text text) e = refl
no_element_top (Comment text) e = refl
no_element_top (Element element) e = sym e
no_element_top (ProcessingInstruction name text) e = refl

comment_data : (kind : Kind) (c : NodeData) → IsKind kind c → is_comment c ≡ is_comment_kind kind
comment_data DocumentNode c is = no_comment_top c is
comment_data ContentsNode c is = ap is_comment is
comment_data (DoctypeNode d) c is = ap is_comment is
comment_data (TextNode text) c is = ap is_comment is
comment_data (CommentNode text) c is = ap is_comment is
comment_data (ElementNode space name attrs contents) c is = ap is_comment is.1

doctype_data : (kind : Kind) (c : NodeData) → IsKind kind c → is_doctype c ≡ is_doctype_kind kind
doctype_data DocumentNode c is = no_doctype_top c is
doctype_data ContentsNode c is = ap is_doctype is
doctype_data (DoctypeNode d) c is = ap is_doctype is
doctype_data (TextNode text) c is = ap is_doctype is
doctype_data (CommentNode text) c is = ap is_doctype is
doctype_data (ElementNode space name attrs contents) c is = ap is_doctype is.1

element_data : (kind : Kind) (c : NodeData) → IsKind kind c → is_element c ≡ is_element_kind kind
element_data DocumentNode c is = no_element_top c is
element_data ContentsNode c is = ap is_element is
element_data (DoctypeNode d) c is = ap is_element is
element_data (TextNode text) c is = ap is_element is
element_data (CommentNode text) c is = ap is_element is
element_data (ElementNode space name attrs contents) c is = ap is_element is.1

-- an HTML element with that name
abbrev is_html_data : List ℕ → NodeData → Bool
is_html_data name c = option_map_or (λ known. same_namespace known.ns HtmlNamespace && bytes_eq known.local name) (option_map (λ element. element.name) (element_of c)) false

html_data : (name : List ℕ) (kind : Kind) (c : NodeData) → bytes_eq (encode_utf8_all name) name ≡ true → IsKind kind c → is_html_kind name kind ≡ true → is_html_data name c ≡ true
html_data name (ElementNode Html local attrs contents) c plain is h =
    ap (is_html_data name) is.1 ∙ ap (λ (word : List ℕ). bytes_eq (encode_utf8_all word) name) ((bytes_eq-Decides local name).0 h) ∙ plain
html_data name (ElementNode Svg local attrs contents) c plain is h = absurd (true≢false (sym h))
html_data name (ElementNode MathMl local attrs contents) c plain is h = absurd (true≢false (sym h))
html_data name (TextNode text) c plain is h = absurd (true≢false (sym h))
html_data name (CommentNode text) c plain is h = absurd (true≢false (sym h))
html_data name (DoctypeNode d) c plain is h = absurd (true≢false (sym h))
html_data name DocumentNode c plain is h = absurd (true≢false (sym h))
html_data name ContentsNode c plain is h = absurd (true≢false (sym h))

-- ---- the tests of a node

got_past : (cs : List NodeData) (n : ℕ) → length cs ≤ n → slice_get cs n ≡ None
got_past [] n h = refl
got_past (c ∷ cs) zero h = absurd (omega (arith, h))
got_past (c ∷ cs) (suc n) h = got_past cs n (omega (arith, h))

-- tests that agree where a node is, and that no other number passes
agreed : (test : NodeData → Bool) (same : Kind → Bool) (nodes : List Node) (f : Forest) → AreNodes nodes f → ((kind : Kind) (c : NodeData) → IsKind kind c → test c ≡ same kind) →
    same ContentsNode ≡ false → (n : ℕ) → node_is test f n ≡ same (node_at nodes n).kind
agreed test same nodes f are agree none n = elim (cases_lt n (length f.content)) [
  | inl known ↦ (let found = kind_is nodes f n are known in ap (λ o. option_map_or test o false) found.1 ∙ agree (node_at nodes n).kind found.0 found.2)
  | inr past ↦ ap (λ o. option_map_or test o false) (got_past f.content n past) ∙ sym (ap same (past_kind nodes n (omega (arith, past, same_length nodes f are))) ∙ none)
]

html_agreed : (name : List ℕ) (nodes : List Node) (f : Forest) (n : ℕ) → bytes_eq (encode_utf8_all name) name ≡ true → AreNodes nodes f → is_html_at nodes name n ≡ true → is_html f n name ≡ true
html_agreed name nodes f n plain are h = elim (cases_lt n (length f.content)) [
  | inl known ↦ (let found = kind_is nodes f n are known in
      ap (λ o. option_map_or (λ known. same_namespace known.ns HtmlNamespace && bytes_eq known.local name) (option_map (λ element. element.name) (option_and_then element_of o)) false) found.1
      ∙ html_data name (node_at nodes n).kind found.0 plain found.2 h)
  | inr past ↦ absurd (true≢false (sym h ∙ ap (is_html_kind name) (past_kind nodes n (omega (arith, past, same_length nodes f are)))))
]

kept_alike : (p q : ℕ → Bool) (ns : List ℕ) → ((n : ℕ) → p n ≡ q n) → filter p ns ≡ filter q ns
kept_alike p q [] same = refl
kept_alike p q (n ∷ ns) same = ap (λ b. cond b (n ∷ filter p ns) (filter p ns)) (same n) ∙ ap (λ ms. cond (q n) (n ∷ ms) ms) (kept_alike p q ns same)

uncommented_is : (nodes : List Node) (f : Forest) (n : ℕ) → AreNodes nodes f → uncommented nodes n ≡ besides_comments f n
uncommented_is nodes f n are =
    ap (filter (λ child. not (is_comment_kind (node_at nodes child).kind))) (children_is nodes f are n)
    ∙ kept_alike _ _ (children_of f n) (λ child. ap not (sym (agreed is_comment is_comment_kind nodes f are comment_data refl child)))

elements_are : (nodes : List Node) (f : Forest) (n : ℕ) → AreNodes nodes f → child_elements nodes n ≡ elements_of f n
elements_are nodes f n are =
    ap (filter (λ child. is_element_kind (node_at nodes child).kind)) (children_is nodes f are n)
    ∙ kept_alike _ _ (children_of f n) (λ child. sym (agreed is_element is_element_kind nodes f are element_data refl child))

-- ---- the shape

both : (a b : Bool) → (a && b) ≡ true → (a ≡ true) × (b ≡ true)
both true b h = (refl, h)
both false b h = absurd (true≢false (sym h))

joined : (a b : Bool) → a ≡ true → b ≡ true → (a && b) ≡ true
joined a b one two = ap (λ x. x && b) one ∙ two

either_one : (a b : Bool) → a ≡ true → (a || b) ≡ true
either_one a b one = ap (λ x. x || b) one

either_two : (a b : Bool) → b ≡ true → (a || b) ≡ true
either_two true b two = refl
either_two false b two = two

body_plain : bytes_eq (encode_utf8_all (codes "body")) (codes "body") ≡ true
unfolding encode_utf8
body_plain = refl

frameset_plain : bytes_eq (encode_utf8_all (codes "frameset")) (codes "frameset") ≡ true
unfolding encode_utf8
frameset_plain = refl

head_plain : bytes_eq (encode_utf8_all (codes "head")) (codes "head") ≡ true
unfolding encode_utf8
head_plain = refl

html_plain : bytes_eq (encode_utf8_all (codes "html")) (codes "html") ≡ true
unfolding encode_utf8
html_plain = refl

contents_shape : (nodes : List Node) (f : Forest) (n : ℕ) (others : List ℕ) → AreNodes nodes f → is_body_or_frameset nodes n others ≡ true → is_contents f n others ≡ true
contents_shape nodes f n others are h = elim (or_cases (is_html_at nodes (codes "body") n && length others == 0) (is_html_at nodes (codes "frameset") n) h) [
  | inl body ↦ (let two = both (is_html_at nodes (codes "body") n) (length others == 0) body in
      either_one (is_html f n (codes "body") && length others == 0) (is_html f n (codes "frameset"))
      (joined (is_html f n (codes "body")) (length others == 0) (html_agreed (codes "body") nodes f n body_plain are two.0) two.1))
  | inr frames ↦ either_two (is_html f n (codes "body") && length others == 0) (is_html f n (codes "frameset")) (html_agreed (codes "frameset") nodes f n frameset_plain are frames)
]

parts_shape : (nodes : List Node) (f : Forest) (ns : List ℕ) → AreNodes nodes f → are_page_parts nodes ns ≡ true → are_parts f ns ≡ true
parts_shape nodes f [] are h = absurd (true≢false (sym h))
parts_shape nodes f (head ∷ []) are h = absurd (true≢false (sym h))
parts_shape nodes f (head ∷ contents ∷ others) are h =
    let two = both (is_html_at nodes (codes "head") head) (is_body_or_frameset nodes contents others) h in
    joined (is_html f head (codes "head")) (is_contents f contents others) (html_agreed (codes "head") nodes f head head_plain are two.0) (contents_shape nodes f contents others are two.1)

html_shape : (nodes : List Node) (f : Forest) (n : ℕ) → AreNodes nodes f → has_page_parts nodes n ≡ true → has_parts f n ≡ true
html_shape nodes f n are h =
    let two = both (is_html_at nodes (codes "html") n) (are_page_parts nodes (child_elements nodes n)) h in
    joined (is_html f n (codes "html")) (are_parts f (elements_of f n)) (html_agreed (codes "html") nodes f n html_plain are two.0)
    (ap (are_parts f) (sym (elements_are nodes f n are)) ∙ parts_shape nodes f (child_elements nodes n) are two.1)

top_shape : (nodes : List Node) (f : Forest) (ns : List ℕ) → AreNodes nodes f → is_page_top nodes ns ≡ true → is_whole_top f ns ≡ true
top_shape nodes f [] are h = absurd (true≢false (sym h))
top_shape nodes f (html ∷ []) are h = html_shape nodes f html are h
top_shape nodes f (doctype ∷ html ∷ []) are h =
    let two = both (is_doctype_kind (node_at nodes doctype).kind) (has_page_parts nodes html) h in
    joined (node_is is_doctype f doctype) (has_parts f html) (agreed is_doctype is_doctype_kind nodes f are doctype_data refl doctype ∙ two.0) (html_shape nodes f html are two.1)
top_shape nodes f (one ∷ two ∷ three ∷ others) are h = absurd (true≢false (sym h))

pub page_shape : (t : GrowingTree) (f : Forest) → AreNodes t.nodes f → is_page_of t ≡ true → IsPage f
page_shape t f are h = ap (is_whole_top f) (sym (uncommented_is t.nodes f 0 are)) ∙ top_shape t.nodes f (uncommented t.nodes 0) are h
