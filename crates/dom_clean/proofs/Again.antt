-- What is left of any tree is left as it is when it is cleaned again.
use Rattle.std.proofs.Common.{◌≡◌, ◌≢◌, ℕ, zero, suc, ◌+◌, ◌-◌, ◌≤◌, Bool, true, false, ◌&&◌, not, cond, List, [], ◌∷◌, length, Option, Some, None, refl, sym, ap, ◌∙◌, subst, arith, slice_get}
use Rattle.std.specs.Prelude.{◌<◌, codes, find, nat_lt, unwrap_or}
use Rattle.std.specs.List.{list_all}
use Rattle.std.specs.Option.{option_and_then, option_map_or}
use Rattle.std.proofs.lemmas.Bool.{and_parts, not-true}
use Rattle.std.proofs.lemmas.Bool.Decides.{when_false}
use Rattle.std.proofs.lemmas.List.{length-map}
use Rattle.dom_nodes.specs.Elements.{Element}
use Rattle.dom_nodes.specs.Words.{is_among}
use Rattle.dom_nodes.specs.declared.name.Attr.{Attr}
use Rattle.dom_nodes.specs.declared.name.Namespace.TheVariants.{Html}
use Rattle.dom_nodes.specs.declared.node_data.NodeData.{NodeData}
use Rattle.dom_nodes.specs.declared.node_data.NodeData.TheVariants.{Element as AnElement, Text}
use Rattle.dom_links.specs.Forest.{Forest, children_of}
use Rattle.dom_links.specs.Trees.{Trees, Tree, contents_list, trees, trees_to}
use Rattle.dom_trees.specs.Views.{child_named, has_local_name}
use Rattle.dom_markup.specs.Html.{is_html}
use Rattle.dom_markup.specs.Names.{is_template, void_names}
use Rattle.dom_markup.specs.Numbered.{document_of, rows_of, size}
use Rattle.dom_markup.specs.Plain.{Represents, html_element}
use Rattle.dom_markup.specs.ValueTrees.{Attribute, ValueTrees}
use Rattle.dom_markup.specs.ValueTrees.ValueTrees.{no_trees, text_node, comment_node, doctype_node, element_node}
use Rattle.dom_markup.proofs.plain.PlainRows.{document-represents, document_rows, rows-size}
use Rattle.page_trees.specs.ElementKinds.{kind_of}
use Rattle.calm_pages.specs.Calm.{IsCalmPage, admits, are_calm, behind, behind_text, inside, may_hold_text}
use Rattle.dom_sanitize.specs.Written.{followed_by, joined}
use Rattle.dom_clean.specs.Again.{CleansOnce, IsLeftBy}
use Rattle.dom_clean.specs.Cleaned.{body_of, cleaned, cleaned_below, cleaned_body, held_by, in_body, left_of}
use Rattle.dom_clean.specs.Fates.{cleaned_attrs, element_fate, fate_of, is_dropped, may_stay, place_below, spellable, text_fate}
use Rattle.dom_clean.specs.Joined.{AreTidy, IsWritable}
use Rattle.dom_clean.specs.Laws.{left_below, page_around, page_of}
use Rattle.dom_clean.specs.Policy.{Policy, is_sound, keepable_names, may_keep}
use Rattle.dom_clean.specs.Written.{text_of}
use Rattle.dom_clean.specs.declared.fates.Fate.{Fate}
use Rattle.dom_clean.specs.declared.fates.Fate.TheVariants.{Stays, Unwrapped, Vanishes}
use Rattle.dom_clean.specs.declared.fates.Place.{Place}
use Rattle.dom_clean.proofs.AgainAttrs.{attrs-again}
use Rattle.dom_clean.proofs.AgainCalm.{calm-later, held-stays, twice-behind, void-stays}
use Rattle.dom_clean.proofs.AgainTrees.{AreSettledTrees, IsKept, cleaned_settled, settled_joined}
use Rattle.dom_clean.proofs.AgainValues.{spellable_stays}
use Rattle.dom_clean.proofs.CalmJoined.{calm_joined}
use Rattle.dom_clean.proofs.Left.{cleans}
use Rattle.dom_clean.proofs.Names.{among_passes}
use Rattle.dom_clean.proofs.Pages.{safe_text}
use Rattle.dom_clean.proofs.SoundNames.{passes}
use Rattle.dom_clean.proofs.Tidy.{cleaned_tidy, tidy_joined}

-- ---- nodes

-- no template can be kept
no_template : list_all (λ name. not (is_template name)) keepable_names ≡ true
unfolding keepable_names
no_template = refl

kept_template : (policy : Policy) (name : List ℕ) → is_sound policy ≡ true → is_among name policy.elements ≡ true → is_template name ≡ false
kept_template policy name sound named =
    let may : may_keep name ≡ true = among_passes may_keep policy.elements name (passes policy sound).elements named in
    not-true (is_template name) (among_passes (λ n. not (is_template n)) keepable_names name no_template may)

front-stays : (text : List ℕ) (rest : ValueTrees) → text ≢ [] → followed_by (behind_text text no_trees) rest ≡ text_node text rest
front-stays [] rest some = absurd (some refl)
front-stays (b ∷ text) rest some = refl

-- an element as it is read, that is no template
abbrev read_again : List ℕ → List Attr → Bool → Element
read_again name attrs flag = record {
  name = record { prefix = None; ns = Html; local = name };
  attrs = attrs;
  template_contents = None;
  mathml_annotation_xml_integration_point = flag;
}

module _ (policy : Policy) (sound : is_sound policy ≡ true) (forest : Forest) where
  -- what is left of a node whose children are these
  abbrev left_at : Place → Trees → NodeData → ValueTrees
  left_at place children content =
      let fate = fate_of policy place content in
      left_of policy fate content (cleaned policy forest (place_below fate place content) children)

  first-again : (place : Place) (n : ℕ) (contents children later : Trees) (content : NodeData) → slice_get forest.content n ≡ Some content →
      cleaned policy forest place (Tree n contents children later) ≡ followed_by (left_at place children content) (cleaned policy forest place later)
  first-again place n contents children later content is =
      ap (λ (found : Option NodeData). followed_by (option_map_or (left_at place children) found no_trees) (cleaned policy forest place later)) is

  text-again : (place : Place) (text : List ℕ) (children : Trees) (rest : ValueTrees) → text ≢ [] → IsWritable text → may_hold_text place.scope.parent text ≡ true →
      followed_by (left_at place children (Text text)) rest ≡ text_node text rest
  text-again place text children rest some is holds =
      let same : spellable text ≡ text = spellable_stays text is in
      let fate : text_fate place text ≡ Stays = ap (λ t. cond (may_hold_text place.scope.parent t) Stays Vanishes) same ∙ ap (λ b. cond b Stays Vanishes) holds in
      ap (λ (f : Fate). followed_by (left_of policy f (Text text) (cleaned policy forest (place_below f place (Text text)) children)) rest) fate
      ∙ ap (λ t. followed_by (behind_text t no_trees) rest) same
      ∙ front-stays text rest some

  element-stays : (place : Place) (e : Element) → is_html e.name.ns ≡ true → e.template_contents ≡ None → IsKept policy e.name.local → admits place.scope (kind_of e.name.local) ≡ true → nat_lt 0 place.left ≡ true →
      element_fate policy place e ≡ Stays
  element-stays place e html none is may deep =
      let seen = is.seen in
      let undropped = is.undropped in
      let named = is.named in
      let dropped : is_dropped policy e ≡ false = rw (none, seen, undropped) refl in
      let stay : may_stay policy place e ≡ true = rw (html, named, may, deep) refl in
      ap (λ b. cond b Vanishes (cond (may_stay policy place e) Stays Unwrapped)) dropped ∙ ap (λ b. cond b Stays Unwrapped) stay

  element-again : (place : Place) (e : Element) (attributes : List Attribute) (kids : Trees) (children rest : ValueTrees) →
      element_fate policy place e ≡ Stays → cleaned_attrs policy e ≡ attributes →
      (is_among e.name.local void_names ≡ true → children ≡ no_trees) → held_by (kind_of e.name.local) children ≡ children →
      cleaned policy forest (place_below Stays place (AnElement e)) kids ≡ children →
      followed_by (left_at place kids (AnElement e)) rest ≡ element_node e.name.local attributes children rest
  element-again place e attributes kids children rest fate same void held inner =
      let name = e.name.local in
      let below = cleaned policy forest (place_below Stays place (AnElement e)) kids in
      ap (λ (f : Fate). followed_by (left_of policy f (AnElement e) (cleaned policy forest (place_below f place (AnElement e)) kids)) rest) fate
      ∙ ap (λ (a : List Attribute). element_node name a (cond (is_among name void_names) no_trees (held_by (kind_of name) below)) rest) same
      ∙ ap (λ (ts : ValueTrees). element_node name attributes ts rest)
      (void-stays (is_among name void_names) (held_by (kind_of name) below) children void (ap (held_by (kind_of name)) inner ∙ held))

  -- nodes that stand for trees which are calm and settled
  pub trees-again : (place : Place) (ts : ValueTrees) (ns : List ℕ) (most : ℕ) → behind place.scope ≡ place.scope → AreTidy ts → are_calm place.scope ts ≡ true → AreSettledTrees policy place.left ts →
      Represents forest ns ts → size ts ≤ most → cleaned policy forest place (trees_to forest most ns) ≡ ts
  trees-again place no_trees ns most still tidy calm settled r few = ap (λ (l : List ℕ). cleaned policy forest place (trees_to forest most l)) r
  trees-again place (text_node c later) ns zero still tidy calm settled r few = absurd (omega (arith, few))
  trees-again place (text_node c later) ns (suc most) still tidy calm settled (n, others, is, read, rest) few =
      let h = and_parts (may_hold_text place.scope.parent c) (are_calm (behind place.scope) later) calm in
      let kids = trees_to forest most (children_of forest n) in
      let more = trees_to forest (suc most) others in
      ap (λ (l : List ℕ). cleaned policy forest place (trees_to forest (suc most) l)) is
      ∙ first-again place n (trees_to forest most (contents_list forest n)) kids more (Text c) read
      ∙ text-again place c kids (cleaned policy forest place more) tidy.0 tidy.1 h.0
      ∙ ap (text_node c) (trees-again place later others (suc most) still tidy.2 (ap (λ s. are_calm s later) (sym still) ∙ h.1) settled rest (omega (arith, few)))
  trees-again place (comment_node c later) ns most still tidy calm settled r few = absurd tidy
  trees-again place (doctype_node n u s later) ns most still tidy calm settled r few = absurd tidy
  trees-again place (element_node name attributes children later) ns zero still tidy calm settled r few = by_name (is_template name) few
    where
      by_name : (t : Bool) → cond t 2 1 + size children + size later ≤ 0 → cleaned policy forest place (trees_to forest zero ns) ≡ element_node name attributes children later
      by_name true many = absurd (omega (arith, many))
      by_name false many = absurd (omega (arith, many))
  trees-again place (element_node name attributes children later) ns (suc most) still tidy calm settled (n, others, below, is, element, inner, rest) few =
      let kind = kind_of name in
      let kept = settled.0 in
      let plain : is_template name ≡ false = kept_template policy name sound kept.named in
      let many : 1 + size children + size later ≤ suc most = subst (λ (t : Bool). cond t 2 1 + size children + size later ≤ suc most) plain few in
      let none : (element.contents ≡ None) × (below ≡ children_of forest n) = when_false _ _ plain element.holds in
      let read : slice_get forest.content n ≡ Some (html_element name element.attrs None element.flag) = element.read ∙ ap (λ c. Some (html_element name element.attrs c element.flag)) none.0 in
      let e = read_again name element.attrs element.flag in
      let h = and_parts (admits place.scope kind && are_calm (inside place.scope kind) children) (are_calm (behind place.scope) later) calm in
      let k = and_parts (admits place.scope kind) (are_calm (inside place.scope kind) children) h.0 in
      let kids = trees_to forest most (children_of forest n) in
      let more = trees_to forest (suc most) others in
      let under : cleaned policy forest (place_below Stays place (AnElement e)) kids ≡ children =
      trees-again (place_below Stays place (AnElement e)) children (children_of forest n) most (twice-behind (inside place.scope kind)) tidy.3 (calm-later place.scope kind children k.1) settled.3
      (subst (λ (l : List ℕ). Represents forest l children) none.1 inner) (omega (arith, many)) in
      ap (λ (l : List ℕ). cleaned policy forest place (trees_to forest (suc most) l)) is
      ∙ first-again place n (trees_to forest most (contents_list forest n)) kids more (AnElement e) read
      ∙ element-again place e attributes kids children (cleaned policy forest place more) (element-stays place e refl refl kept k.0 settled.1)
      (attrs-again policy e attributes sound element.named tidy.1 settled.2) tidy.2 (held-stays place.scope kind children tidy.3 k.1) under
      ∙ ap (element_node name attributes children) (trees-again place later others (suc most) still tidy.4 (ap (λ s. are_calm s later) (sym still) ∙ h.1) settled.4 rest (omega (arith, many)))

-- ---- the page

-- what stands in the body of such a page, whose number is 5
record IsBody (forest : Forest) (body : ValueTrees) : Type 0 where
  is : body_of forest ≡ 5
  below : Represents forest (children_of forest 5) body

-- the number of the second node of a list
abbrev second : List ℕ → ℕ
second (n ∷ m ∷ ns) = m
second _ = 0

page_body : (forest : Forest) (body : ValueTrees) → Represents forest (children_of forest 0) (page_of body) → second (children_of forest 0) ≡ 2 → second (children_of forest 2) ≡ 5 → IsBody forest body
page_body forest body (n, _, tops, doctype_is, (m, _, below, tops2, html_is, (h, _, under_head, parts, head_is, _, (d, _, under_body, parts2, body_is, inner, parts3)), tops3)) two five =
    let all : children_of forest 0 ≡ n ∷ m ∷ [] = tops ∙ ap (λ (ns : List ℕ). n ∷ ns) (tops2 ∙ ap (λ (ns : List ℕ). m ∷ ns) tops3) in
    let held : children_of forest m ≡ h ∷ d ∷ [] = sym html_is.holds.1 ∙ parts ∙ ap (λ (ns : List ℕ). h ∷ ns) (parts2 ∙ ap (λ (ns : List ℕ). d ∷ ns) parts3) in
    let html_at : m ≡ 2 = sym (ap second all) ∙ two in
    let body_at : d ≡ 5 = sym (ap second held) ∙ ap (λ k. second (children_of forest k)) html_at ∙ five in
    let html : child_named forest 0 (codes "html") ≡ Some m = ap (find (λ child. has_local_name forest child (codes "html"))) all ∙ rw (doctype_is, html_is.read) refl in
    let found : child_named forest m (codes "body") ≡ Some d = ap (find (λ child. has_local_name forest child (codes "body"))) held ∙ rw (head_is.read, body_is.read) refl in
    record {
      is = ap (λ o. unwrap_or (option_and_then (λ at. child_named forest at (codes "body")) o) 0) html ∙ ap (λ o. unwrap_or o 0) found ∙ body_at;
      below = subst (λ (k : ℕ). Represents forest (children_of forest k) body) body_at (subst (λ (ns : List ℕ). Represents forest ns body) body_is.holds.1 inner);
    }

body_is : (body : ValueTrees) → IsBody (document_of (page_of body)) body
body_is body =
    let page = page_of body in
    let rows = document_rows page in
    let low : 2 < 0 + length (rows_of page) = omega arith in
    page_body (document_of page) body (document-represents page) (ap second (rows.children 0 (omega arith) (omega (arith, low)))) (ap second (rows.children 2 (omega arith) low))

content_count : (ts : ValueTrees) → length (document_of ts).content ≡ suc (size ts)
unfolding document_of
content_count ts = length-map (rows_of ts) (λ row. row.content) ∙ ap suc (rows-size 0 1 ts)

body_few : (body : ValueTrees) → size body ≤ length (document_of (page_of body)).content
body_few body =
    let count = content_count (page_of body) in
    let long : size (page_of body) ≡ 1 + (1 + (1 + (1 + 0 + 0) + (1 + size body + 0)) + 0) = refl in
    omega (arith, count, long)

-- ---- the law

-- trees that are calm and settled
body-again : (policy : Policy) (body : ValueTrees) → is_sound policy ≡ true → AreTidy body → are_calm (in_body policy).scope body ≡ true → AreSettledTrees policy policy.depth body →
    cleaned_below policy (document_of (page_of body)) 5 ≡ body
unfolding trees
body-again policy body sound tidy calm settled =
    let forest = document_of (page_of body) in
    trees-again policy sound forest (in_body policy) body (children_of forest 5) (length forest.content) refl tidy calm settled (body_is body).below (body_few body)

pub cleans_once : (policy : Policy) → is_sound policy ≡ true → CleansOnce policy
cleans_once policy sound forest n =
    let ts = cleaned_below policy forest n in
    let below = trees forest (children_of forest n) in
    let tidy : AreTidy ts = cleaned_tidy policy forest sound (in_body policy) below in
    let calm = (cleans policy forest (in_body policy) below refl).calm in
    body-again policy (joined ts) sound (tidy_joined ts tidy) (calm_joined (in_body policy).scope ts tidy refl calm) (settled_joined policy policy.depth ts (cleaned_settled policy forest (in_body policy) below))

-- ---- texts

-- the text that is written when the text of what was left is cleaned again
abbrev pub text_again : Policy → Forest → ℕ → List ℕ
text_again policy forest n = text_of (cleaned_below policy (document_of (page_of (left_below policy forest n))) 5)

pub text_stays : (policy : Policy) → is_sound policy ≡ true → (text : List ℕ) → (left : IsLeftBy policy text) → text_again policy left.0 left.1 ≡ text
text_stays policy sound text (forest, n, is) =
    ap text_of (cleans_once policy sound forest n) ∙ sym (safe_text policy sound forest n text is).is

-- the page around such a text is calm
pub page_read : (policy : Policy) → is_sound policy ≡ true → (text : List ℕ) → (left : IsLeftBy policy text) → IsCalmPage (page_around text) (page_of (left_below policy left.0 left.1))
page_read policy sound text (forest, n, is) = (safe_text policy sound forest n text is).page

-- and what was left is the contents of its body
pub body_again : (policy : Policy) (body : ValueTrees) → cleaned_body policy (document_of (page_of body)) ≡ cleaned_below policy (document_of (page_of body)) 5
body_again policy body = ap (cleaned_below policy (document_of (page_of body))) (body_is body).is
