-- Merging the attributes of a later tag into an element is a step of the definition.
use Rattle.std.proofs.Common.{◌≡◌, ℕ, suc, zero, ◌+◌, ◌≤◌, ◌⊎◌, ◌&&◌, ◌||◌, Bool, true, false, List, [], ◌∷◌, ◌++◌, map, reverse, refl, sym, ap, subst, ◌∙◌, append_assoc, codes, Option, Some, None, arith, inl, inr, true≢false}
use Rattle.std.specs.Prelude.{IfSome, get_or, slice_get}
use Rattle.std.specs.Option.{option_map, option_map_or}
use Rattle.std.specs.Str.{bytes_eq}
use Rattle.std.proofs.lemmas.Bool.Decides.{eqb_tells}
use Rattle.std.proofs.lemmas.List.Elements.{All-weaker}
use Rattle.std.proofs.lemmas.Slice.Eq.{bytes_eq-Decides}
use Rattle.dom_nodes.specs.Attrs.{attrs_in as own_attrs}
use Rattle.dom_nodes.specs.declared.name.Attr.{Attr}
use Rattle.dom_nodes.specs.declared.node_data.NodeData.{NodeData}
use Rattle.dom_nodes.specs.declared.node_data.NodeData.TheVariants.{Comment, Doctype, Document, Element, Fragment, ProcessingInstruction, Text}
use Rattle.dom_links.specs.Contents.{changed_at as changed}
use Rattle.dom_links.specs.Forest.{Forest}
use Rattle.dom_links.specs.Lists.{map_from}
use Rattle.dom_trees.specs.Views.{node_attrs}
use Rattle.page_tokens.specs.declared.attribute.TagAttr.{TagAttr}
use Rattle.standard_trees.specs.GrowingTree.{FormAt, FormOfContext, FormPointer as StandardForm, GrowingTree, NoForm, has_value, is_among, is_html_point, merged, merged_into}
use Rattle.standard_trees.specs.GrowingTree.{is_named as is_of_kind, is_one as is_one_of, with_attrs as with_merged}
use Rattle.standard_trees.specs.NameLists.{html_encodings, html_points}
use Rattle.standard_trees.specs.TreeStore.{CommentNode, ContentsNode, DoctypeNode, DocumentNode, ElementNode, Kind, Node, NodeAttr, TextNode, attrs_in, changed_at, contents_in, is_document, key_in, local_in, node_at}
use Rattle.page_trees.specs.Foreign.{attr_in}
use Rattle.page_trees.specs.LateAttrs.{AreNamesOf, absent_in}
use Rattle.page_trees.specs.LateMerges.{AddsTo, KnowsAt, MayMerge}
use Rattle.page_trees.specs.SameNodes.{AreHosts, AreKinds, AreNodes, IsChildless, IsKind, attr_for, name_for}
use Rattle.page_trees.specs.Stands.{AllStand, Builds, EntryStands, IsFormNamed, IsHeadNamed, IsOfKind, TakeAttrs, TakesAttrs, late_names}
use Rattle.page_trees.specs.TreeState.{Late, TreeState, added_to, completed, late_at, with_attrs}
use Rattle.page_trees.specs.declared.formatting.Entry.{Entry}
use Rattle.page_trees.specs.declared.stack.ElementNamespace.{ElementNamespace}
use Rattle.page_trees.specs.declared.stack.Open.{Open}
use Rattle.page_trees.proofs.KeptElements.{added_is}
use Rattle.page_trees.proofs.MergedAttrs.{added_by, merged_alike, pick}
use Rattle.page_trees.proofs.NumberedNames.{still_numbered}
use Rattle.page_trees.proofs.StoreLemmas.{kind_at, kinds, lists}

-- ---- one element

key_merged : (new : List NodeAttr) (kind : Kind) → key_in (with_merged new kind) ≡ key_in kind
key_merged new (ElementNode space name attrs contents) = refl
key_merged new (TextNode text) = refl
key_merged new (CommentNode text) = refl
key_merged new (DoctypeNode doctype) = refl
key_merged new DocumentNode = refl
key_merged new ContentsNode = refl

contents_merged : (new : List NodeAttr) (kind : Kind) → contents_in (with_merged new kind) ≡ contents_in kind
contents_merged new (ElementNode space name attrs contents) = refl
contents_merged new (TextNode text) = refl
contents_merged new (CommentNode text) = refl
contents_merged new (DoctypeNode doctype) = refl
contents_merged new DocumentNode = refl
contents_merged new ContentsNode = refl

document_merged : (new : List NodeAttr) (kind : Kind) → is_document (with_merged new kind) ≡ is_document kind
document_merged new (ElementNode space name attrs contents) = refl
document_merged new (TextNode text) = refl
document_merged new (CommentNode text) = refl
document_merged new (DoctypeNode doctype) = refl
document_merged new DocumentNode = refl
document_merged new ContentsNode = refl

attrs_merged : (new : List NodeAttr) (kind : Kind) → is_of_kind late_names kind ≡ true → attrs_in (with_merged new kind) ≡ merged (attrs_in kind) new
attrs_merged new (ElementNode space name attrs contents) named = refl
attrs_merged new (TextNode text) named = absurd (true≢false (sym named))
attrs_merged new (CommentNode text) named = absurd (true≢false (sym named))
attrs_merged new (DoctypeNode doctype) named = absurd (true≢false (sym named))
attrs_merged new DocumentNode named = absurd (true≢false (sym named))
attrs_merged new ContentsNode named = absurd (true≢false (sym named))

no_annotation : (key : List ℕ) → is_among key late_names ≡ true → is_among key (codes "math annotation-xml" ∷ []) ≡ false
no_annotation key h = by (bytes_eq key (codes "html")) (bytes_eq key (codes "body")) refl refl h
  where
    by : (b c : Bool) → bytes_eq key (codes "html") ≡ b → bytes_eq key (codes "body") ≡ c → (b || (c || false)) ≡ true → is_among key (codes "math annotation-xml" ∷ []) ≡ false
    by true c e f is = ap (λ k. is_among k (codes "math annotation-xml" ∷ [])) ((bytes_eq-Decides key (codes "html")).0 e)
    by false true e f is = ap (λ k. is_among k (codes "math annotation-xml" ∷ [])) ((bytes_eq-Decides key (codes "body")).0 f)
    by false false e f is = absurd (true≢false (sym is))

point_merged : (new : List NodeAttr) (kind : Kind) → is_of_kind late_names kind ≡ true → is_html_point kind ≡ is_html_point (with_merged new kind)
point_merged new kind named =
    let key : List ℕ = key_in kind in
    let none : is_among key (codes "math annotation-xml" ∷ []) ≡ false = no_annotation key named in
    let with_html : List NodeAttr → Bool = λ attrs. has_value (codes "encoding") html_encodings attrs in
    ap (λ b. is_among key html_points || (b && with_html (attrs_in kind))) none
    ∙ sym (ap (λ (k : List ℕ). is_among k html_points || (is_among k (codes "math annotation-xml" ∷ []) && with_html (attrs_in (with_merged new kind)))) (key_merged new kind)
    ∙ ap (λ b. is_among key html_points || (b && with_html (attrs_in (with_merged new kind)))) none)

-- an element stays as it is, or gets more attributes
abbrev IsMerged : List NodeAttr → Kind → Kind → Type 0
IsMerged new old kind = (kind ≡ old) ⊎ ((is_of_kind late_names old ≡ true) × (kind ≡ with_merged new old))

still_named : (names : List (List ℕ)) (new : List NodeAttr) (old kind : Kind) → IsMerged new old kind → is_of_kind names kind ≡ is_of_kind names old
still_named names new old kind (inl e) = ap (is_of_kind names) e
still_named names new old kind (inr h) = ap (is_of_kind names) h.1 ∙ ap (λ key. is_among key names) (key_merged new old)

local_merged : (new : List NodeAttr) (kind : Kind) → local_in (with_merged new kind) ≡ local_in kind
local_merged new (ElementNode space name attrs contents) = refl
local_merged new (TextNode text) = refl
local_merged new (CommentNode text) = refl
local_merged new (DoctypeNode doctype) = refl
local_merged new DocumentNode = refl
local_merged new ContentsNode = refl

still_spelled : (new : List NodeAttr) (old kind : Kind) → IsMerged new old kind → local_in kind ≡ local_in old
still_spelled new old kind (inl e) = ap local_in e
still_spelled new old kind (inr h) = ap local_in h.1 ∙ local_merged new old

still_holds : (new : List NodeAttr) (old kind : Kind) → IsMerged new old kind → contents_in kind ≡ contents_in old
still_holds new old kind (inl e) = ap contents_in e
still_holds new old kind (inr h) = ap contents_in h.1 ∙ contents_merged new old

still_document : (new : List NodeAttr) (old kind : Kind) → IsMerged new old kind → is_document kind ≡ is_document old
still_document new old kind (inl e) = ap is_document e
still_document new old kind (inr h) = ap is_document h.1 ∙ document_merged new old

still_stands : (new : List NodeAttr) (o : Open) (old kind : Kind) → IsMerged new old kind → IsOfKind o old → IsOfKind o kind
still_stands new o old kind (inl e) s = subst (IsOfKind o) (sym e) s
still_stands new o old kind (inr h) s = subst (IsOfKind o) (sym h.1) (record {
  written = s.written;
  attrs = merged s.attrs new;
  contents = s.contents;
  tag = s.tag;
  name = s.name;
  kind = ap (with_merged new) s.kind;
  point = s.point ∙ point_merged new old h.0;
  plain = s.plain;
})

-- ---- all nodes

abbrev merge_at : List NodeAttr → ℕ → List Node → List Node
merge_at new n nodes = changed_at (λ node. record node { kind = with_merged new node.kind }) nodes n

kind_here : (new : List NodeAttr) (nodes : List Node) (n : ℕ) → (node_at (merge_at new n nodes) n).kind ≡ with_merged new (node_at nodes n).kind
kind_here new [] n = refl
kind_here new (node ∷ nodes) zero = refl
kind_here new (node ∷ nodes) (suc n) = kind_here new nodes n

kind_there : (new : List NodeAttr) (nodes : List Node) (n m : ℕ) → (n ≡ m → ⊥) → (node_at (merge_at new n nodes) m).kind ≡ (node_at nodes m).kind
kind_there new [] n m apart = refl
kind_there new (node ∷ nodes) zero zero apart = absurd (apart refl)
kind_there new (node ∷ nodes) zero (suc m) apart = refl
kind_there new (node ∷ nodes) (suc n) zero apart = refl
kind_there new (node ∷ nodes) (suc n) (suc m) apart = kind_there new nodes n m (λ e. apart (ap suc e))

kinds_merged : (new : List NodeAttr) (nodes : List Node) (n : ℕ) → kinds (merge_at new n nodes) ≡ changed n (with_merged new) (kinds nodes)
kinds_merged new [] n = refl
kinds_merged new (node ∷ nodes) zero = refl
kinds_merged new (node ∷ nodes) (suc n) = ap (λ (ks : List Kind). node.kind ∷ ks) (kinds_merged new nodes n)

lists_merged : (new : List NodeAttr) (nodes : List Node) (n : ℕ) → lists (merge_at new n nodes) ≡ lists nodes
lists_merged new [] n = refl
lists_merged new (node ∷ nodes) zero = refl
lists_merged new (node ∷ nodes) (suc n) = ap (λ (ls : List (List ℕ)). node.children ∷ ls) (lists_merged new nodes n)

hosts_merged : (new : List NodeAttr) (nodes : List Node) (n : ℕ) → AreHosts nodes → AreHosts (merge_at new n nodes)
hosts_merged new [] n h = tt
hosts_merged new (node ∷ nodes) zero h = (subst (λ (o : Option ℕ). IsChildless o node.children) (sym (contents_merged new node.kind)) h.0, h.1)
hosts_merged new (node ∷ nodes) (suc n) h = (h.0, hosts_merged new nodes n h.1)

each_merged : (new : List NodeAttr) (nodes : List Node) (n : ℕ) → is_of_kind late_names (node_at nodes n).kind ≡ true → (m : ℕ) →
    IsMerged new (node_at nodes m).kind (node_at (merge_at new n nodes) m).kind
each_merged new nodes n named m = elim (eqb_tells n m) [
  | inl is ↦ subst (λ (k : ℕ). IsMerged new (node_at nodes k).kind (node_at (merge_at new n nodes) k).kind) is.1 (inr (named, kind_here new nodes n))
  | inr is ↦ inl (kind_there new nodes n m is.1)
]

all_merged : (new : List NodeAttr) (nodes : List Node) (n : ℕ) → is_of_kind late_names (node_at nodes n).kind ≡ true → (os : List Open) → AllStand nodes os → AllStand (merge_at new n nodes) os
all_merged new nodes n named [] s = tt
all_merged new nodes n named (o ∷ os) s =
    (still_stands new o (node_at nodes o.id).kind (node_at (merge_at new n nodes) o.id).kind (each_merged new nodes n named o.id) s.0, all_merged new nodes n named os s.1)

entry_merged : (new : List NodeAttr) (nodes : List Node) (n : ℕ) → is_of_kind late_names (node_at nodes n).kind ≡ true → (e : Entry) → EntryStands nodes e → EntryStands (merge_at new n nodes) e
entry_merged new nodes n named Entry.Marker s = tt
entry_merged new nodes n named (Entry.Element o) s =
    (still_stands new o (node_at nodes o.id).kind (node_at (merge_at new n nodes) o.id).kind (each_merged new nodes n named o.id) s.0, s.1)

form_merged : (new : List NodeAttr) (nodes : List Node) (n : ℕ) → is_of_kind late_names (node_at nodes n).kind ≡ true → (form : StandardForm) → IsFormNamed nodes form → IsFormNamed (merge_at new n nodes) form
form_merged new nodes n named NoForm is = tt
form_merged new nodes n named FormOfContext is = tt
form_merged new nodes n named (FormAt m) is =
    still_named (codes "form" ∷ []) new (node_at nodes m).kind (node_at (merge_at new n nodes) m).kind (each_merged new nodes n named m) ∙ is

head_merged : (new : List NodeAttr) (nodes : List Node) (n : ℕ) → is_of_kind late_names (node_at nodes n).kind ≡ true → (head : Option ℕ) → IsHeadNamed nodes head → IsHeadNamed (merge_at new n nodes) head
head_merged new nodes n named None is = tt
head_merged new nodes n named (Some m) is = (
  still_named (codes "head" ∷ []) new (node_at nodes m).kind (node_at (merge_at new n nodes) m).kind (each_merged new nodes n named m) ∙ is.0,
  still_holds new (node_at nodes m).kind (node_at (merge_at new n nodes) m).kind (each_merged new nodes n named m) ∙ is.1,
)

-- ---- the data of the nodes

abbrev dressed : List Late → ℕ → NodeData → NodeData
dressed late n content = with_attrs (added_to late n) content

abbrev with_others : List Attr → NodeData → NodeData
with_others attrs (Element e) = Element (record e { attrs = attrs })
with_others attrs content = content

kind_dressed : (old later own : List Attr) (new : List NodeAttr) (kind : Kind) (content : NodeData) → own_attrs content ≡ own →
    ((attrs : List NodeAttr) → map attr_for attrs ≡ own ++ old → map attr_for (merged attrs new) ≡ own ++ later) → IsKind kind (with_attrs old content) →
    IsKind (with_merged new kind) (with_attrs later content)
kind_dressed old later own new (ElementNode space name attrs contents) (Element e) has grown is =
    let was : e.attrs ++ old ≡ map attr_for attrs = ap own_attrs is.1 in
    let now : map attr_for (merged attrs new) ≡ e.attrs ++ later =
    grown attrs (sym was ∙ ap (λ (xs : List Attr). xs ++ old) has) ∙ ap (λ (xs : List Attr). xs ++ later) (sym has) in (
      is.0,
      ap (with_others (e.attrs ++ later)) is.1 ∙ ap (λ (xs : List Attr). Element (record {
        name = name_for space name;
        attrs = xs;
        template_contents = contents;
        mathml_annotation_xml_integration_point = is.0;
      })) (sym now),
    )
kind_dressed old later own new (ElementNode space name attrs contents) Document has grown is = (let clash = is.1 in absurd (cc))
kind_dressed old later own new (ElementNode space name attrs contents) Fragment has grown is = (let clash = is.1 in absurd (cc))
kind_dressed old later own new (ElementNode space name attrs contents) (Doctype a b c) has grown is = (let clash = is.1 in absurd (cc))
kind_dressed old later own new (ElementNode space name attrs contents) (Text a) has grown is = (let clash = is.1 in absurd (cc))
kind_dressed old later own new (ElementNode space name attrs contents) (Comment a) has grown is = (let clash = is.1 in absurd (cc))
kind_dressed old later own new (ElementNode space name attrs contents) (ProcessingInstruction a b) has grown is = (let clash = is.1 in absurd (cc))
kind_dressed old later own new (TextNode text) (Element e) has grown is = absurd (cc)
kind_dressed old later own new (TextNode text) content has grown is = is
kind_dressed old later own new (CommentNode text) (Element e) has grown is = absurd (cc)
kind_dressed old later own new (CommentNode text) content has grown is = is
kind_dressed old later own new (DoctypeNode doctype) (Element e) has grown is = absurd (cc)
kind_dressed old later own new (DoctypeNode doctype) content has grown is = is
kind_dressed old later own new DocumentNode (Element e) has grown is = absurd (true≢false (sym is))
kind_dressed old later own new DocumentNode content has grown is = is
kind_dressed old later own new ContentsNode (Element e) has grown is = absurd (cc)
kind_dressed old later own new ContentsNode content has grown is = is

past_same : (late later : List Late) (i : ℕ) → ((m : ℕ) → i ≤ m → added_to later m ≡ added_to late m) → (cs : List NodeData) →
    map_from i (dressed later) cs ≡ map_from i (dressed late) cs
past_same late later i same [] = refl
past_same late later i same (c ∷ cs) =
    ap (λ (attrs : List Attr). with_attrs attrs c ∷ map_from (i + 1) (dressed later) cs) (same i (omega arith))
    ∙ ap (λ (rest : List NodeData). dressed late i c ∷ rest) (past_same late later (i + 1) (λ m h. same m (omega (arith, h))) cs)

kinds_dressed : (late later : List Late) (new : List NodeAttr) (own : List Attr) (n : ℕ) → ((m : ℕ) → (n ≡ m → ⊥) → added_to later m ≡ added_to late m) →
    ((attrs : List NodeAttr) → map attr_for attrs ≡ own ++ added_to late n → map attr_for (merged attrs new) ≡ own ++ added_to later n) →
    (i k : ℕ) → i + k ≡ n → (ks : List Kind) (cs : List NodeData) → option_map_or own_attrs (slice_get cs k) [] ≡ own →
    AreKinds ks (map_from i (dressed late) cs) → AreKinds (changed k (with_merged new) ks) (map_from i (dressed later) cs)
kinds_dressed late later new own n others grown i k at [] [] has are = tt
kinds_dressed late later new own n others grown i k at [] (c ∷ cs) has are = absurd are
kinds_dressed late later new own n others grown i k at (kind ∷ ks) [] has are = absurd are
kinds_dressed late later new own n others grown i zero at (kind ∷ ks) (c ∷ cs) has are =
    let here : i ≡ n = omega (arith, at) in (
      kind_dressed (added_to late i) (added_to later i) own new kind c has
          (λ attrs e. grown attrs (e ∙ ap (λ (j : ℕ). own ++ added_to late j) here) ∙ sym (ap (λ (j : ℕ). own ++ added_to later j) here)) are.0,
      subst (AreKinds ks) (sym (past_same late later (i + 1) (λ m h. others m (λ e. absurd (omega (arith, at, h, e)))) cs)) are.1,
    )
kinds_dressed late later new own n others grown i (suc k) at (kind ∷ ks) (c ∷ cs) has are = (
  subst (λ (attrs : List Attr). IsKind kind (with_attrs attrs c)) (sym (others i (λ e. absurd (omega (arith, at, e))))) are.0,
  kinds_dressed late later new own n others grown (i + 1) k (omega (arith, at)) ks cs has are.1,
)

kind_attrs : (kind : Kind) (content : NodeData) (added : List Attr) → is_of_kind late_names kind ≡ true → IsKind kind (with_attrs added content) →
    map attr_for (attrs_in kind) ≡ own_attrs content ++ added
kind_attrs (ElementNode space name attrs contents) (Element e) added named is = sym (ap own_attrs is.1)
kind_attrs (ElementNode space name attrs contents) Document added named is = (let clash = is.1 in absurd (cc))
kind_attrs (ElementNode space name attrs contents) Fragment added named is = (let clash = is.1 in absurd (cc))
kind_attrs (ElementNode space name attrs contents) (Doctype a b c) added named is = (let clash = is.1 in absurd (cc))
kind_attrs (ElementNode space name attrs contents) (Text a) added named is = (let clash = is.1 in absurd (cc))
kind_attrs (ElementNode space name attrs contents) (Comment a) added named is = (let clash = is.1 in absurd (cc))
kind_attrs (ElementNode space name attrs contents) (ProcessingInstruction a b) added named is = (let clash = is.1 in absurd (cc))
kind_attrs (TextNode text) content added named is = absurd (true≢false (sym named))
kind_attrs (CommentNode text) content added named is = absurd (true≢false (sym named))
kind_attrs (DoctypeNode doctype) content added named is = absurd (true≢false (sym named))
kind_attrs DocumentNode content added named is = absurd (true≢false (sym named))
kind_attrs ContentsNode content added named is = absurd (true≢false (sym named))

attrs_there : (late : List Late) (i k n : ℕ) → i + k ≡ n → (ks : List Kind) (cs : List NodeData) → is_of_kind late_names (get_or ks k ContentsNode) ≡ true →
    AreKinds ks (map_from i (dressed late) cs) → map attr_for (attrs_in (get_or ks k ContentsNode)) ≡ option_map_or own_attrs (slice_get cs k) [] ++ added_to late n
attrs_there late i k n at [] [] named are = absurd (true≢false (sym named))
attrs_there late i k n at [] (c ∷ cs) named are = absurd are
attrs_there late i k n at (kind ∷ ks) [] named are = absurd are
attrs_there late i zero n at (kind ∷ ks) (c ∷ cs) named are =
    let here : i ≡ n = omega (arith, at) in
    kind_attrs kind c (added_to late i) named are.0 ∙ ap (λ (j : ℕ). own_attrs c ++ added_to late j) here
attrs_there late i (suc k) n at (kind ∷ ks) (c ∷ cs) named are = attrs_there late (i + 1) k n (omega (arith, at)) ks cs named are.1

-- the attributes of an element are its own and those of later tags
attrs_are : (late : List Late) (nodes : List Node) (f : Forest) (n : ℕ) → AreNodes nodes (completed late f) → is_of_kind late_names (node_at nodes n).kind ≡ true →
    map attr_for (attrs_in (node_at nodes n).kind) ≡ node_attrs f n ++ added_to late n
unfolding completed
attrs_are late nodes f n are named =
    ap (λ (kind : Kind). map attr_for (attrs_in kind)) (kind_at nodes n)
    ∙ attrs_there late 0 n n (omega arith) (kinds nodes) f.content (ap (is_of_kind late_names) (sym (kind_at nodes n)) ∙ named) are.kinds

-- the names that are kept are those
pub knows_at : (s : TreeState) (t : GrowingTree) (n : ℕ) → Builds s t → is_one_of t late_names n ≡ true → KnowsAt (node_attrs s.forest n) n s.late
knows_at s t n b named = by (late_at s.late n) refl (b.late n)
  where
    by : (o : Option Late) → late_at s.late n ≡ o → IfSome o (TakesAttrs (node_at t.nodes n).kind) → IfSome o (λ (one : Late). AreNamesOf one.names (node_attrs s.forest n ++ one.added))
    by None e is = tt
    by (Some one) e is =
        subst (AreNamesOf one.names) (attrs_are s.late t.nodes s.forest n b.nodes named
        ∙ ap (λ (attrs : List Attr). node_attrs s.forest n ++ attrs) (added_is s.late n ∙ ap added_by e)) is.known

-- ---- the state

added_there : (own : List Attr) (given : List TagAttr) (n : ℕ) (late later : List Late) → AddsTo own n given late later → (m : ℕ) → (n ≡ m → ⊥) → added_to later m ≡ added_to late m
added_there own given n late later adds m apart = elim (eqb_tells n m) [
  | inl is ↦ absurd (apart is.1)
  | inr is ↦ added_is later m ∙ ap added_by (adds.others m ∙ ap (λ b. pick b (Some adds.late) (late_at late m)) is.0) ∙ sym (added_is late m)
]

late_here : (own : List Attr) (given : List TagAttr) (n : ℕ) (late later : List Late) → (adds : AddsTo own n given late later) → late_at later n ≡ Some adds.late
late_here own given n late later adds = elim (eqb_tells n n) [
  | inl is ↦ adds.others n ∙ ap (λ b. pick b (Some adds.late) (late_at late n)) is.0
  | inr is ↦ absurd (is.1 refl)
]

takes_merged : (new : List NodeAttr) (nodes : List Node) (n : ℕ) (own : List Attr) (given : List TagAttr) (late later : List Late) → (adds : AddsTo own n given late later) →
    is_of_kind late_names (node_at nodes n).kind ≡ true → map attr_for (merged (attrs_in (node_at nodes n).kind) new) ≡ own ++ adds.late.added → TakeAttrs nodes late →
    TakeAttrs (merge_at new n nodes) later
takes_merged new nodes n own given late later adds named are takes m = elim (eqb_tells n m) [
  | inl is ↦ subst (λ (k : ℕ). IfSome (late_at later k) (TakesAttrs (node_at (merge_at new n nodes) k).kind)) is.1 here
  | inr is ↦
      subst (λ (o : Option Late). IfSome o (TakesAttrs (node_at (merge_at new n nodes) m).kind))
      (sym (adds.others m ∙ ap (λ b. pick b (Some adds.late) (late_at late m)) is.0))
      (subst (λ (kind : Kind). IfSome (late_at late m) (TakesAttrs kind)) (sym (kind_there new nodes n m is.1)) (takes m))
]
  where
    taken : TakesAttrs (with_merged new (node_at nodes n).kind) adds.late
    taken = record {
      named = ap (λ key. is_among key late_names) (key_merged new (node_at nodes n).kind) ∙ named;
      known = subst (AreNamesOf adds.late.names) (sym (ap (map attr_for) (attrs_merged new (node_at nodes n).kind named) ∙ are)) adds.known;
    }

    here : IfSome (late_at later n) (TakesAttrs (node_at (merge_at new n nodes) n).kind)
    here =
        subst (λ (o : Option Late). IfSome o (TakesAttrs (node_at (merge_at new n nodes) n).kind)) (sym (late_here own given n late later adds))
        (subst (λ (kind : Kind). TakesAttrs kind adds.late) (sym (kind_here new nodes n)) taken)

nodes_merged : (new : List NodeAttr) (nodes : List Node) (f : Forest) (n : ℕ) (given : List TagAttr) (late later : List Late) → AddsTo (node_attrs f n) n given late later →
    is_of_kind late_names (node_at nodes n).kind ≡ true →
    ((attrs : List NodeAttr) → map attr_for attrs ≡ node_attrs f n ++ added_to late n → map attr_for (merged attrs new) ≡ node_attrs f n ++ added_to later n) →
    AreNodes nodes (completed late f) → AreNodes (merge_at new n nodes) (completed later f)
unfolding completed
nodes_merged new nodes f n given late later adds named grown are = record {
  root = by (node_at nodes 0).kind (node_at (merge_at new n nodes) 0).kind (each_merged new nodes n named 0) are.root;
  kinds = subst (λ (ks : List Kind). AreKinds ks (map_from 0 (dressed later) f.content)) (sym (kinds_merged new nodes n))
      (kinds_dressed late later new (node_attrs f n) n (added_there (node_attrs f n) given n late later adds) grown 0 n (omega arith) (kinds nodes) f.content refl are.kinds);
  children = lists_merged new nodes n ∙ are.children;
  hosts = hosts_merged new nodes n are.hosts;
}
  where
    by : (old kind : Kind) → IsMerged new old kind → old ≡ DocumentNode → kind ≡ DocumentNode
    by old kind (inl e) root = e ∙ root
    by old kind (inr h) root = h.1 ∙ ap (with_merged new) root

pub merged_built : (s : TreeState) (t : GrowingTree) (n : ℕ) (new : List NodeAttr) (given : List TagAttr) (later : List Late) → Builds s t → is_one_of t late_names n ≡ true →
    map (attr_in ElementNamespace.Html) given ≡ map attr_for new → AddsTo (node_attrs s.forest n) n given s.late later →
    Builds (record s { late = later }) (merged_into (Some n) new t)
merged_built s t n new given later b named same adds =
    let own : List Attr = node_attrs s.forest n in
    let before : List Attr = own ++ added_to s.late n in
    let joined : before ++ absent_in before given ≡ own ++ adds.late.added =
    append_assoc own (added_to s.late n) (absent_in before given) ∙ ap (λ (xs : List Attr). own ++ xs) (sym adds.added) in
    let now : added_to later n ≡ adds.late.added = added_is later n ∙ ap added_by (late_here own given n s.late later adds) in
    let grown : (attrs : List NodeAttr) → map attr_for attrs ≡ before → map attr_for (merged attrs new) ≡ own ++ adds.late.added =
    λ attrs e. merged_alike before attrs new given e same ∙ joined in
    record {
      nodes = nodes_merged new t.nodes s.forest n given s.late later adds named (λ attrs e. grown attrs e ∙ ap (λ (xs : List Attr). own ++ xs) (sym now)) b.nodes;
      stack = record { ids = b.stack.ids; nodes = all_merged new t.nodes n named (reverse s.stack) b.stack.nodes };
      numbered = still_numbered s.numbers t.nodes (merge_at new n t.nodes) s.stack b.stack.nodes (λ o stands.
          still_spelled new (node_at t.nodes o.id).kind (node_at (merge_at new n t.nodes) o.id).kind (each_merged new t.nodes n named o.id)) b.numbered;
      listed = record {
        list = b.listed.list;
        elements = All-weaker (EntryStands t.nodes) (EntryStands (merge_at new n t.nodes)) (entry_merged new t.nodes n named) s.formatting b.listed.elements;
      };
      head = b.head;
      head_named = head_merged new t.nodes n named t.head b.head_named;
      form = b.form;
      form_named = form_merged new t.nodes n named t.form b.form_named;
      context = b.context;
      late = takes_merged new t.nodes n own given s.late later adds named
          (grown (attrs_in (node_at t.nodes n).kind) (attrs_are s.late t.nodes s.forest n b.nodes named)) b.late;
      lone = λ m is. b.lone m (sym (still_document new (node_at t.nodes m).kind (node_at (merge_at new n t.nodes) m).kind (each_merged new t.nodes n named m)) ∙ is);
    }

-- the same of the element at an index of the stack
pub merged_step : (s : TreeState) (t : GrowingTree) (o : Open) (r : Option Open) (attrs : List NodeAttr) (given : List TagAttr) (later : List Late) → Builds s t → Some o ≡ r →
    map (attr_in ElementNamespace.Html) given ≡ map attr_for attrs → MayMerge t (option_map (λ (p : Open). p.id) r) →
    (KnowsAt (node_attrs s.forest o.id) o.id s.late → AddsTo (node_attrs s.forest o.id) o.id given s.late later) →
    Builds (record s { late = later }) (merged_into (option_map (λ (p : Open). p.id) r) attrs t)
merged_step s t o r attrs given later b got same may adds =
    subst (λ (q : Option Open). MayMerge t (option_map (λ (p : Open). p.id) q) → Builds (record s { late = later }) (merged_into (option_map (λ (p : Open). p.id) q) attrs t)) got
    (λ named. merged_built s t o.id attrs given later b named same (adds (knows_at s t o.id b named))) may
