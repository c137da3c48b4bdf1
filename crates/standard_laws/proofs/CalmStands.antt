-- The document of a calm page stands for the Document as which the HTML Standard parses the page.
use Rattle.std.specs.Prelude.{◌≡◌, ◌≢◌, ℕ, zero, suc, Bool, true, false, not, ◌&&◌, ◌+◌, List, [], ◌∷◌, ◌++◌, None, Option, Some, codes, encode_utf8_all, flat_map, is_none, map, refl, slice_get, if◌then◌else◌}
use Rattle.std.specs.List.{list_all}
use Rattle.std.specs.Str.{IsUtf8, chars}
use Rattle.std.specs.Cmp.Derive.{both_true}
use Rattle.std.proofs.lemmas.Bool.{and_parts, true≢false}
use Rattle.std.proofs.lemmas.Option.{same_Some}
use Rattle.std.proofs.lemmas.Str.{encodes-chars}
use mathlib.Core.Path.{◌∙◌, sym, ap, subst}
use Rattle.dom_nodes.specs.declared.name.Attr.{Attr}
use Rattle.dom_nodes.specs.declared.name.Namespace.{Namespace}
use Rattle.dom_nodes.specs.declared.name.Namespace.TheVariants.{None as NoNamespace}
use Rattle.dom_nodes.specs.declared.node_data.NodeData.{NodeData}
use Rattle.dom_nodes.specs.declared.node_data.NodeData.TheVariants.{Comment, Doctype, Element, Fragment, Text}
use Rattle.dom_links.specs.Forest.{Forest, children_of as ids_below}
use Rattle.dom_trees.specs.declared.quirks.QuirksMode.{QuirksMode}
use Rattle.dom_markup.specs.Names.{is_template}
use Rattle.dom_markup.specs.Numbered.{Row, document_of, read_attr, read_element, rows_from, rows_of, size}
use Rattle.dom_markup.specs.Plain.{ArePlain, IsElement, IsPlainTrees, Represents, StandForAttributes, html_element}
use Rattle.dom_markup.specs.ValueTrees.{Attribute, ValueTrees}
use Rattle.dom_markup.specs.ValueTrees.ValueTrees.{no_trees, text_node, comment_node, doctype_node, element_node}
use Rattle.dom_markup.proofs.plain.PlainRows.{contents_in, document-represents}
use Rattle.calm_pages.specs.Calm.{IsCalmDocument, IsCalmPage, admits, are_calm, bars, behind, behind_text, inside, may_hold_comment, may_hold_text, top}
use Rattle.calm_pages.specs.declared.nesting.Scope.{Scope}
use Rattle.page_trees.specs.DocumentTrees.{AreTrees, IsDocumentTree}
use Rattle.page_trees.specs.ElementKinds.{kind_of, may_hold, named_kinds, names_of}
use Rattle.page_trees.specs.SameNodes.{attr_for, element_for}
use Rattle.page_trees.specs.declared.element_kinds.ElementCategory.{ElementCategory}
use Rattle.page_trees.specs.declared.element_kinds.ElementCategory.TheVariants.{Body, Head, Html, Other}
use Rattle.standard_trees.specs.Laws.{DocumentsAreParsedOneWay}
use Rattle.standard_trees.specs.TreeStore.{Html as HtmlSpace, NoSpace}
use Rattle.standard_agreement.specs.PlainPages.{no_quirks}
use Rattle.standard_laws.specs.CalmTrees.{attrs_of, nodes_of}
use Rattle.standard_laws.specs.SpelledParsing.{CalmPagesAreDocuments}
use Rattle.standard_laws.proofs.CalmDocuments.{body_kind, calm_parts, head_kind, html_kind}
use Rattle.standard_laws.proofs.CalmPageSpelled.{CalmSpelled, among_kinds, calm_pages_parsed, page_plain, page_spelled}
use Rattle.standard_laws.proofs.CalmPlain.{inner_behind}
use Rattle.standard_laws.proofs.CalmReadable.{AreUtf8, HaveUtf8Names, whole}
use Rattle.standard_laws.proofs.CalmTokens.{Known, body_name, head_name, held, html_name, inner_inside, known_name}
use Rattle.standard_laws.proofs.CategoryPlaces.{is_inner}
use Rattle.standard_laws.proofs.NameChars.{of_each}

-- ---- nodes without prefixes

abbrev lacks_prefix : NodeData → Bool
lacks_prefix (Element element) = list_all (λ a. is_none a.name.prefix) element.attrs
lacks_prefix _ = true

attrs_lack : (attributes : List Attribute) → list_all (λ a. is_none a.name.prefix) (map read_attr attributes) ≡ true
attrs_lack [] = refl
attrs_lack (a ∷ attributes) = attrs_lack attributes

rows_lack : (p n : ℕ) (t : ValueTrees) → list_all lacks_prefix (contents_in (rows_from p n t)) ≡ true
rows_lack p n no_trees = refl
rows_lack p n (text_node contents later) = rows_lack p (n + 1) later
rows_lack p n (comment_node contents later) = rows_lack p (n + 1) later
rows_lack p n (doctype_node name public system later) = rows_lack p (n + 1) later
rows_lack p n (element_node name attributes children later) =
    by_name (is_template name) (rows_lack (n + 1) (n + 2) children) (rows_lack p (n + 2 + size children) later) (rows_lack n (n + 1) children) (rows_lack p (n + 1 + size children) later)
  where
    both : (xs ys : List Row) → list_all lacks_prefix (contents_in xs) ≡ true → list_all lacks_prefix (contents_in ys) ≡ true → list_all lacks_prefix (contents_in (xs ++ ys)) ≡ true
    both [] ys h k = k
    both (x ∷ xs) ys h k = let parts : (lacks_prefix x.content ≡ true) × (list_all lacks_prefix (contents_in xs) ≡ true) = and_parts (lacks_prefix x.content) (list_all lacks_prefix (contents_in xs)) h in both_true parts.0 (both xs ys parts.1 k)

    by_name : (x : Bool) → list_all lacks_prefix (contents_in (rows_from (n + 1) (n + 2) children)) ≡ true → list_all lacks_prefix (contents_in (rows_from p (n + 2 + size children) later)) ≡ true →
        list_all lacks_prefix (contents_in (rows_from n (n + 1) children)) ≡ true → list_all lacks_prefix (contents_in (rows_from p (n + 1 + size children) later)) ≡ true →
        list_all lacks_prefix (contents_in (if x then record { parent = Some p; content = read_element name attributes (Some (n + 1)) } ∷ (record { parent = None; content = Fragment } ∷ (rows_from (n + 1) (n + 2) children ++ rows_from p (n + 2 + size children) later))
        else record { parent = Some p; content = read_element name attributes None } ∷ (rows_from n (n + 1) children ++ rows_from p (n + 1 + size children) later))) ≡ true
    by_name true a b c d = both_true (attrs_lack attributes) (both (rows_from (n + 1) (n + 2) children) (rows_from p (n + 2 + size children) later) a b)
    by_name false a b c d = both_true (attrs_lack attributes) (both (rows_from n (n + 1) children) (rows_from p (n + 1 + size children) later) c d)

get_lacks : (contents : List NodeData) (n : ℕ) (content : NodeData) → list_all lacks_prefix contents ≡ true → slice_get contents n ≡ Some content → lacks_prefix content ≡ true
get_lacks [] n content h got = cc
get_lacks (c ∷ contents) zero content h got = subst (λ x. lacks_prefix x ≡ true) (same_Some c content got) (and_parts (lacks_prefix c) (list_all lacks_prefix contents) h).0
get_lacks (c ∷ contents) (suc n) content h got = get_lacks contents n content (and_parts (lacks_prefix c) (list_all lacks_prefix contents) h).1 got

abbrev LacksPrefixes : Forest → Type 0
LacksPrefixes forest = (n : ℕ) (content : NodeData) → slice_get forest.content n ≡ Some content → lacks_prefix content ≡ true

document_lacks : (t : ValueTrees) → LacksPrefixes (document_of t)
unfolding document_of
document_lacks t n content got = get_lacks (contents_in (rows_of t)) n content (rows_lack 0 1 t) got

-- ---- trees in UTF-8 without templates

abbrev AreValued : List Attribute → Type 0
AreValued [] = Unit {0}
AreValued (a ∷ later) = (IsUtf8 a.name × IsUtf8 a.value) × AreValued later

record IsNamed (name : List ℕ) : Type 0 where
  same : encode_utf8_all name ≡ name
  plain : is_template name ≡ false

abbrev AreSound : ValueTrees → Type 0
AreSound no_trees = Unit {0}
AreSound (text_node contents later) = IsUtf8 contents × AreSound later
AreSound (comment_node contents later) = IsUtf8 contents × AreSound later
AreSound (doctype_node name public system later) = (encode_utf8_all name ≡ name) × (public ≡ []) × (system ≡ []) × AreSound later
AreSound (element_node name attributes children later) = IsNamed name × AreValued attributes × AreSound children × AreSound later

valued : (attributes : List Attribute) → ArePlain attributes → HaveUtf8Names attributes → AreValued attributes
valued [] plain names = tt
valued (a ∷ later) plain names = ((names.0, plain.1), valued later plain.3 names.1)

-- no name of a category is that of a template
no_templates : list_all (λ name. not (is_template name)) (flat_map names_of named_kinds) ≡ true
unfolding names_of
no_templates = refl

from_not : (x : Bool) → not x ≡ true → x ≡ false
from_not true k = absurd (true≢false (sym k))
from_not false k = refl

encoded : (name : List ℕ) → Known name → encode_utf8_all name ≡ name
encoded name known = ap encode_utf8_all (sym known.ascii) ∙ encodes-chars name known.utf8

named_so : (name : List ℕ) → kind_of name ≢ Other → IsNamed name
unfolding kind_of
named_so name h = record {
  same = encoded name (known_name name h);
  plain = from_not (is_template name) (of_each (λ n. not (is_template n)) name (flat_map names_of named_kinds) no_templates (among_kinds name named_kinds h));
}

sound_trees : (scope : Scope) (t : ValueTrees) → is_inner scope.parent ≡ true → IsPlainTrees false t → AreUtf8 t → are_calm scope t ≡ true → AreSound t
sound_trees scope no_trees i p u c = tt
sound_trees scope (text_node contents later) i p u c =
    (p.1, sound_trees (behind scope) later (inner_behind scope.parent i) p.3 u (and_parts (may_hold_text scope.parent contents) (are_calm (behind scope) later) c).1)
sound_trees scope (comment_node contents later) i p u c =
    (u.0, sound_trees (behind scope) later (inner_behind scope.parent i) p.1 u.1 (and_parts (may_hold_comment scope.parent contents) (are_calm (behind scope) later) c).1)
sound_trees scope (doctype_node name public system later) i p u c = absurd (true≢false (sym p.0))
sound_trees scope (element_node name attributes children later) i p u c =
    let kind : ElementCategory = kind_of name in
    let g : ((admits scope kind && are_calm (inside scope kind) children) ≡ true) × (are_calm (behind scope) later ≡ true) = and_parts (admits scope kind && are_calm (inside scope kind) children) (are_calm (behind scope) later) c in
    let k : (admits scope kind ≡ true) × (are_calm (inside scope kind) children ≡ true) = and_parts (admits scope kind) (are_calm (inside scope kind) children) g.0 in
    let may : may_hold scope.parent kind ≡ true = (and_parts (may_hold scope.parent kind) (not (bars scope kind)) k.0).0 in
    (named_so name (held scope.parent kind i may), valued attributes p.2 u.0, sound_trees (inside scope kind) children (inner_inside scope kind i may) p.5 u.1 k.1, sound_trees (behind scope) later (inner_behind scope.parent i) p.6 u.2 g.1)

body_sound : (attributes : List Attribute) (body : ValueTrees) → are_calm (inside top Html) (element_node (codes "body") attributes body no_trees) ≡ true →
    IsPlainTrees false (element_node (codes "body") attributes body no_trees) → AreUtf8 (element_node (codes "body") attributes body no_trees) → AreSound (element_node (codes "body") attributes body no_trees)
body_sound attributes body c p u =
    let inner : are_calm (inside (inside top Html) Body) body ≡ true = (calm_parts (inside top Html) (codes "body") Body attributes body no_trees body_kind c).0 in
    (record { same = encoded (codes "body") body_name; plain = refl }, valued attributes p.2 u.0, sound_trees (inside (inside top Html) Body) body refl p.5 u.1 inner, tt)

rest_sound : (space : List ℕ) (attributes : List Attribute) (body : ValueTrees) → are_calm (inside top Html) (behind_text space (element_node (codes "body") attributes body no_trees)) ≡ true →
    IsPlainTrees false (behind_text space (element_node (codes "body") attributes body no_trees)) → AreUtf8 (behind_text space (element_node (codes "body") attributes body no_trees)) →
    AreSound (behind_text space (element_node (codes "body") attributes body no_trees))
rest_sound [] attributes body c p u = body_sound attributes body c p u
rest_sound (b ∷ space) attributes body c p u =
    let e : ValueTrees = element_node (codes "body") attributes body no_trees in
    (p.1, body_sound attributes body (and_parts (may_hold_text Html (b ∷ space)) (are_calm (inside top Html) e) c).1 p.3 u)

whole_sound : (html head_attributes body_attributes : List Attribute) (head : ValueTrees) (space : List ℕ) (body : ValueTrees) → are_calm top (whole html head_attributes body_attributes head space body) ≡ true →
    IsPlainTrees true (whole html head_attributes body_attributes head space body) → AreUtf8 (whole html head_attributes body_attributes head space body) → AreSound (whole html head_attributes body_attributes head space body)
whole_sound html head_attributes body_attributes head space body c p u =
    let rest : ValueTrees = behind_text space (element_node (codes "body") body_attributes body no_trees) in
    let inner : ValueTrees = element_node (codes "head") head_attributes head rest in
    let outer : (are_calm (inside top Html) inner ≡ true) × (are_calm top no_trees ≡ true) = calm_parts top (codes "html") Html html inner no_trees html_kind c in
    let parts : (are_calm (inside (inside top Html) Head) head ≡ true) × (are_calm (inside top Html) rest ≡ true) = calm_parts (inside top Html) (codes "head") Head head_attributes head rest head_kind outer.0 in (
      encoded (codes "html") html_name,
      refl,
      refl,
      (
        record { same = encoded (codes "html") html_name; plain = refl },
        valued html p.4.2 u.0,
        (
          record { same = encoded (codes "head") head_name; plain = refl },
          valued head_attributes p.4.5.2 u.1.0,
          sound_trees (inside (inside top Html) Head) head refl p.4.5.5 u.1.1 parts.0,
          rest_sound space body_attributes body parts.1 p.4.5.6 u.1.2,
        ),
        tt,
      ),
    )

document_sound : (t : ValueTrees) → IsCalmDocument t → IsPlainTrees true t → AreUtf8 t → AreSound t
document_sound t d p u =
    subst AreSound (sym d.is)
    (whole_sound d.html_attributes d.head_attributes d.body_attributes d.head d.space d.body (ap (are_calm top) (sym d.is) ∙ d.calm) (subst (IsPlainTrees true) d.is p) (subst AreUtf8 d.is u))

-- ---- the nodes stand for the trees

attr_is : (a : Attr) (b : Attribute) → a.name.ns ≡ NoNamespace → a.name.local ≡ b.name → a.value ≡ b.value → is_none a.name.prefix ≡ true → IsUtf8 b.name → IsUtf8 b.value →
    a ≡ attr_for (record { space = NoSpace; name = chars b.name; value = chars b.value })
attr_is a b ns local value prefix name_utf8 value_utf8 =
    by_prefix a.name.prefix refl prefix
  where
    with : Option (List ℕ) → Namespace → List ℕ → List ℕ → Attr
    with prefix ns local value = record { name = record { prefix = prefix; ns = ns; local = local }; value = value }

    by_prefix : (x : Option (List ℕ)) → a.name.prefix ≡ x → is_none x ≡ true → with a.name.prefix a.name.ns a.name.local a.value ≡ with None NoNamespace (encode_utf8_all (chars b.name)) (encode_utf8_all (chars b.value))
    by_prefix None e h =
        ap (λ x. with x a.name.ns a.name.local a.value) e ∙ ap (λ x. with None x a.name.local a.value) ns ∙ ap (λ x. with None NoNamespace x a.value) (local ∙ sym (encodes-chars b.name name_utf8))
        ∙ ap (with None NoNamespace (encode_utf8_all (chars b.name))) (value ∙ sym (encodes-chars b.value value_utf8))
    by_prefix (Some x) e h = absurd (true≢false (sym h))

attrs_are : (attrs : List Attr) (attributes : List Attribute) → StandForAttributes attrs attributes → list_all (λ a. is_none a.name.prefix) attrs ≡ true → AreValued attributes → attrs ≡ map attr_for (attrs_of attributes)
attrs_are [] [] named lacks utf8 = refl
attrs_are [] (b ∷ attributes) named lacks utf8 = absurd named
attrs_are (a ∷ attrs) [] named lacks utf8 = absurd named
attrs_are (a ∷ attrs) (b ∷ attributes) named lacks utf8 =
    let parts : (is_none a.name.prefix ≡ true) × (list_all (λ x. is_none x.name.prefix) attrs ≡ true) = and_parts (is_none a.name.prefix) (list_all (λ x. is_none x.name.prefix) attrs) lacks in
    ap (λ x. x ∷ attrs) (attr_is a b named.0 named.1 named.2 parts.0 utf8.0.0 utf8.0.1) ∙ ap (λ xs. attr_for (record { space = NoSpace; name = chars b.name; value = chars b.value }) ∷ xs) (attrs_are attrs attributes named.3 parts.1 utf8.1)

-- an element that is no template
record Holds (f : Forest) (n : ℕ) (name : List ℕ) (attributes : List Attribute) (below : List ℕ) : Type 0 where
  content : NodeData
  got : slice_get f.content n ≡ Some content
  is : (flag : Bool) × (content ≡ element_for flag HtmlSpace name (attrs_of attributes) None)
  children : below ≡ ids_below f n

holds : (f : Forest) → LacksPrefixes f → (n : ℕ) (name : List ℕ) (attributes : List Attribute) (below : List ℕ) → IsNamed name → AreValued attributes → IsElement f n name attributes below → Holds f n name attributes below
holds f lacks n name attributes below named utf8 e =
    let h : (e.contents ≡ None) × (below ≡ ids_below f n) = rw named.plain at e.holds in
    let attrs : e.attrs ≡ map attr_for (attrs_of attributes) = attrs_are e.attrs attributes e.named (lacks n (html_element name e.attrs e.contents e.flag) e.read) utf8 in
    record {
      content = html_element name e.attrs e.contents e.flag;
      got = e.read;
      is = (
        e.flag,
        ap (λ m. html_element m e.attrs e.contents e.flag) (sym named.same) ∙ ap (λ x. html_element (encode_utf8_all name) x e.contents e.flag) attrs
            ∙ ap (λ x. html_element (encode_utf8_all name) (map attr_for (attrs_of attributes)) x e.flag) h.0,
      );
      children = h.1;
    }

stand : (f : Forest) → LacksPrefixes f → (ns : List ℕ) (t : ValueTrees) → AreSound t → Represents f ns t → AreTrees f ns (nodes_of t)
stand f lacks ns no_trees sound r = r
stand f lacks ns (text_node contents later) sound (n, others, is, got, rest) = (
  n,
  others,
  record { first = is; content = Text contents; got = got; is = ap Text (sym (encodes-chars contents sound.0)) },
  stand f lacks others later sound.1 rest,
)
stand f lacks ns (comment_node contents later) sound (n, others, is, got, rest) = (
  n,
  others,
  record { first = is; content = Comment contents; got = got; is = ap Comment (sym (encodes-chars contents sound.0)) },
  stand f lacks others later sound.1 rest,
)
stand f lacks ns (doctype_node name public system later) sound (n, others, is, got, rest) = (
  n,
  others,
  record {
    first = is;
    content = Doctype name public system;
    got = got;
    is = ap (λ x. Doctype x public system) (sym sound.0) ∙ ap (λ x. Doctype (encode_utf8_all name) x system) sound.1 ∙ ap (Doctype (encode_utf8_all name) []) sound.2;
  },
  stand f lacks others later sound.3 rest,
)
stand f lacks ns (element_node name attributes children later) sound (n, others, below, is, e, inner, rest) =
    let h : Holds f n name attributes below = holds f lacks n name attributes below sound.0 sound.1 e in (
      n,
      others,
      None,
      record { first = is; content = h.content; got = h.got; is = h.is },
      refl,
      stand f lacks (ids_below f n) children sound.2 (subst (λ (ms : List ℕ). Represents f ms children) h.children inner),
      stand f lacks others later sound.3 rest,
    )

document_stands : (text : List ℕ) (t : ValueTrees) → IsUtf8 text → IsCalmPage text t → IsDocumentTree (document_of t) QuirksMode.NoQuirks (no_quirks (nodes_of t))
document_stands text t utf8 page =
    let plain : IsPlainTrees true t = page_plain text t utf8 page in
    let s : CalmSpelled text t = page_spelled text t utf8 page plain in
    record { trees = stand (document_of t) (document_lacks t) (ids_below (document_of t) 0) t (document_sound t page.document plain s.utf8) (document-represents t); mode = refl }

pub calm_pages_documents : DocumentsAreParsedOneWay → CalmPagesAreDocuments
calm_pages_documents once text t utf8 page scripting =
    record { document = no_quirks (nodes_of t); parsed = (calm_pages_parsed once text t utf8 page).parsed scripting; is = document_stands text t utf8 page }
