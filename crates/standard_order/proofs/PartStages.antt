-- A head, a body or a frameset that is put into `html`; and what the parts that are known say of the whole tree.
use Rattle.std.specs.Prelude.{◌≡◌, ◌&&◌, ◌||◌, ◌==◌, refl, ℕ, Bool, true, false, not, List, [], ◌∷◌, bytes_eq, codes, cond, filter}
use Rattle.std.specs.Prelude.{length, map}
use Rattle.std.specs.List.{list_all, list_any}
use mathlib.Core.Path.{◌∙◌, sym, ap, subst}
use Rattle.standard_trees.specs.TreeStore.{CommentNode, ContentsNode, DoctypeNode, DocumentNode, ElementNode, Html, Kind, MathMl, Node, Svg}
use Rattle.standard_trees.specs.TreeStore.{TextNode, node_at}
use Rattle.standard_trees.specs.GrowingTree.{GrowingTree}
use Rattle.standard_order.specs.PageShape.{are_page_parts, child_elements, is_body_or_frameset, is_element_kind, is_html_at, is_html_kind}
use Rattle.standard_order.specs.PageTops.{roots_have_parts}
use Rattle.standard_order.proofs.StandingStacks.{both, never}
use Rattle.standard_order.proofs.NodeTags.{BodyC, CaptionC, CellC, Cls, FramesetC, GroupC, HeadC, HtmlC, PlainC, RowC, TableC, TemplateC, Tag, class_at, classes, is_element}
use Rattle.standard_order.proofs.NodeTags.{is_there, kind_class, name_class, none_past, tag_at, tag_of, tag_there, tags, tags_put, there}
use Rattle.standard_order.proofs.NodeKids.{AllThere, counted, kids}
use Rattle.standard_order.proofs.NodeTops.{Rooted, are_tops, is_counted, is_doctype, is_root, tops}
use Rattle.standard_order.proofs.TreeTops.{name_element}
use Rattle.standard_order.proofs.PartKids.{Bald, Bodied, Emptied, Framed, Headed, Parts, fits, is_body, is_frameset, is_head, parts_in}
use Rattle.standard_order.proofs.Chains.{chain, context, has_body, is_deep, is_inner, is_plain, is_template, on}
use Rattle.standard_order.proofs.PartTrees.{Nodes}
use Rattle.standard_order.proofs.PartPlaces.{class_among, names_have}
use Rattle.standard_order.proofs.PartTables.{deep_inner}
use Rattle.standard_order.proofs.PartScopes.{tabular_deep}

-- ---- elements and names

element_same : (kind : Kind) → is_element_kind kind ≡ is_element (kind_class kind)
element_same (ElementNode Html name attrs contents) = sym (name_element name)
element_same (ElementNode Svg name attrs contents) = refl
element_same (ElementNode MathMl name attrs contents) = refl
element_same (TextNode text) = refl
element_same (CommentNode text) = refl
element_same (DoctypeNode d) = refl
element_same DocumentNode = refl
element_same ContentsNode = refl

elements_counted : (nodes : List Node) (ns : List ℕ) → AllThere (tags nodes) ns →
    filter (λ child. is_element_kind (node_at nodes child).kind) ns ≡ counted is_element (tags nodes) ns
elements_counted nodes [] h = refl
elements_counted nodes (n ∷ ns) h =
    let two : (is_there (class_at (tags nodes) n) ≡ true) × AllThere (tags nodes) ns = both (is_there (class_at (tags nodes) n)) _ h in
    ap (λ q. cond (is_element_kind (node_at nodes n).kind) (n ∷ q) q) (elements_counted nodes ns two.1)
    ∙ ap (λ x. cond x (n ∷ counted is_element (tags nodes) ns) (counted is_element (tags nodes) ns))
    (element_same (node_at nodes n).kind ∙ ap (λ u. is_element u.cls) (sym (tag_there nodes n two.0)))

-- one name has the class
kind_is : (test : Cls → Bool) (one : List ℕ) → names_have test (one ∷ []) classes ≡ true → test PlainC ≡ false → (kind : Kind) →
    is_element (kind_class kind) ≡ true → test (kind_class kind) ≡ true → is_html_kind one kind ≡ true
kind_is test one all off (ElementNode Html name attrs contents) e h = by (bytes_eq name one) (class_among test (one ∷ []) classes all name h)
  where
    by : (x : Bool) → x || false ≡ true → x ≡ true
    by true k = refl
    by false k = never k
kind_is test one all off (ElementNode Svg name attrs contents) e h = never (sym off ∙ h)
kind_is test one all off (ElementNode MathMl name attrs contents) e h = never (sym off ∙ h)
kind_is test one all off (TextNode text) e h = never e
kind_is test one all off (CommentNode text) e h = never e
kind_is test one all off (DoctypeNode d) e h = never e
kind_is test one all off DocumentNode e h = never e
kind_is test one all off ContentsNode e h = never e

html_at : (test : Cls → Bool) (one : List ℕ) → names_have test (one ∷ []) classes ≡ true → test PlainC ≡ false → (nodes : List Node) (n : ℕ) →
    is_element (class_at (tags nodes) n) ≡ true → test (class_at (tags nodes) n) ≡ true → is_html_at nodes one n ≡ true
html_at test one all off nodes n e h =
    let same : tag_at (tags nodes) n ≡ tag_of (node_at nodes n).kind = tag_there nodes n (there is_element refl (class_at (tags nodes) n) e) in
    kind_is test one all off (node_at nodes n).kind (subst (λ u. is_element u.cls ≡ true) same e) (subst (λ u. test u.cls ≡ true) same h)

head_element : (c : Cls) → is_head c ≡ true → is_element c ≡ true
head_element HeadC h = refl
head_element _ h = never h

body_element : (c : Cls) → is_body c ≡ true → is_element c ≡ true
body_element BodyC h = refl
body_element _ h = never h

frameset_element : (c : Cls) → is_frameset c ≡ true → is_element c ≡ true
frameset_element FramesetC h = refl
frameset_element _ h = never h

-- ---- the parts of a page

abbrev pub is_whole : Parts → Bool
is_whole Bald = false
is_whole Headed = false
is_whole Bodied = true
is_whole Emptied = false
is_whole Framed = true

either : (x : Bool) {y : Bool} → y ≡ true → x || y ≡ true
either true h = refl
either false h = h

parts_test : (parts : Parts) (nodes : List Node) (ns : List ℕ) → is_whole parts ≡ true → fits parts (map (class_at (tags nodes)) ns) ≡ true →
    are_page_parts nodes ns ≡ true
parts_test Bald nodes ns w h = never w
parts_test Headed nodes ns w h = never w
parts_test Emptied nodes ns w h = never w
parts_test Bodied nodes [] w h = never h
parts_test Bodied nodes (n ∷ []) w h = never h
parts_test Bodied nodes (n ∷ m ∷ []) w h =
    let two : (is_head (class_at (tags nodes) n) ≡ true) × (is_body (class_at (tags nodes) m) ≡ true) =
    both (is_head (class_at (tags nodes) n)) (is_body (class_at (tags nodes) m)) h in
    ap (λ x. x && is_body_or_frameset nodes m []) (html_at is_head (codes "head") refl refl nodes n (head_element _ two.0) two.0)
    ∙ ap (λ x. (x && true) || is_html_at nodes (codes "frameset") m) (html_at is_body (codes "body") refl refl nodes m (body_element _ two.1) two.1)
parts_test Bodied nodes (n ∷ m ∷ k ∷ ns) w h = never h
parts_test Framed nodes [] w h = never h
parts_test Framed nodes (n ∷ []) w h = never h
parts_test Framed nodes (n ∷ m ∷ ns) w h =
    let two : (is_head (class_at (tags nodes) n) ≡ true) × (is_frameset (class_at (tags nodes) m) ≡ true) =
    both (is_head (class_at (tags nodes) n)) (is_frameset (class_at (tags nodes) m)) h in
    ap (λ x. x && is_body_or_frameset nodes m ns) (html_at is_head (codes "head") refl refl nodes n (head_element _ two.0) two.0)
    ∙ either (is_html_at nodes (codes "body") m && (length ns == 0))
    (html_at is_frameset (codes "frameset") refl refl nodes m (frameset_element _ two.1) two.1)

-- the only element in the Document is `html`
abbrev pub Lone : List Tag → ℕ → Bool
Lone ts n = not (is_element (class_at ts n)) || is_root (class_at ts n)

doctype_lone : (c : Cls) → is_doctype c ≡ true → not (is_element c) || is_root c ≡ true
doctype_lone Rattle.standard_order.proofs.NodeTags.DoctypeC h = refl
doctype_lone _ h = never h

uncounted_lone : (c : Cls) → is_counted c ≡ false → not (is_element c) || is_root c ≡ true
uncounted_lone Rattle.standard_order.proofs.NodeTags.CommentC h = refl
uncounted_lone c h = cut c h
  where
    cut : (c : Cls) → is_counted c ≡ false → not (is_element c) || is_root c ≡ true
    cut Rattle.standard_order.proofs.NodeTags.CommentC k = refl
    cut _ k = never (sym k)

lone_tops : (ts : List Tag) (ns : List ℕ) → are_tops Rooted (map (class_at ts) ns) ≡ true → list_all (Lone ts) ns ≡ true
lone_tops ts [] h = never h
lone_tops ts (n ∷ []) h = ap (λ x. x && true) (either (not (is_element (class_at ts n))) h)
lone_tops ts (n ∷ m ∷ []) h =
    let two : (is_doctype (class_at ts n) ≡ true) × (is_root (class_at ts m) ≡ true) = both (is_doctype (class_at ts n)) (is_root (class_at ts m)) h in
    ap (λ x. x && (Lone ts m && true)) (doctype_lone (class_at ts n) two.0) ∙ ap (λ x. x && true) (either (not (is_element (class_at ts m))) two.1)
lone_tops ts (n ∷ m ∷ k ∷ ns) h = never h

lone_kids : (ts : List Tag) (ns : List ℕ) → list_all (Lone ts) (counted is_counted ts ns) ≡ true → list_all (Lone ts) ns ≡ true
lone_kids ts [] h = refl
lone_kids ts (n ∷ ns) h = by (is_counted (class_at ts n)) refl h (λ k. lone_kids ts ns k)
  where
    by : (x : Bool) → is_counted (class_at ts n) ≡ x → list_all (Lone ts) (cond x (n ∷ counted is_counted ts ns) (counted is_counted ts ns)) ≡ true →
        (list_all (Lone ts) (counted is_counted ts ns) ≡ true → list_all (Lone ts) ns ≡ true) → Lone ts n && list_all (Lone ts) ns ≡ true
    by true e k go = ap (λ x. x && list_all (Lone ts) ns) (both (Lone ts n) (list_all (Lone ts) (counted is_counted ts ns)) k).0
        ∙ go (both (Lone ts n) (list_all (Lone ts) (counted is_counted ts ns)) k).1
    by false e k go = ap (λ x. x && list_all (Lone ts) ns) (uncounted_lone (class_at ts n) e) ∙ go k

pub whole_parts : (r : ℕ) (parts : Parts) (t : GrowingTree) → is_whole parts ≡ true → Nodes r parts t.nodes → roots_have_parts t ≡ true
whole_parts r parts t w h =
    each (kids t.nodes 0) (lone_kids (tags t.nodes) (kids t.nodes 0) (lone_tops (tags t.nodes) (tops t.nodes) h.top.form)) h.top.valid
  where
    whole : are_page_parts t.nodes (child_elements t.nodes r) ≡ true
    whole = ap (are_page_parts t.nodes) (elements_counted t.nodes (kids t.nodes r) h.frame.valid) ∙ parts_test parts t.nodes (parts_in t.nodes r) w h.frame.form

    one : (n : ℕ) → Lone (tags t.nodes) n ≡ true → is_there (class_at (tags t.nodes) n) ≡ true →
        not (is_element_kind (node_at t.nodes n).kind) || are_page_parts t.nodes (child_elements t.nodes n) ≡ true
    one n lone is =
        ap (λ x. not x || are_page_parts t.nodes (child_elements t.nodes n)) (element_same (node_at t.nodes n).kind ∙ ap (λ u. is_element u.cls) (sym (tag_there t.nodes n is)))
        ∙ by (is_element (class_at (tags t.nodes) n)) (is_root (class_at (tags t.nodes) n)) refl lone
      where
        by : (x y : Bool) → is_root (class_at (tags t.nodes) n) ≡ y → not x || y ≡ true → not x || are_page_parts t.nodes (child_elements t.nodes n) ≡ true
        by false y e k = refl
        by true true e k = subst (λ j. are_page_parts t.nodes (child_elements t.nodes j) ≡ true) (sym (h.unique n e)) whole
        by true false e k = never k

    each : (ns : List ℕ) → list_all (Lone (tags t.nodes)) ns ≡ true → AllThere (tags t.nodes) ns →
        list_all (λ n. not (is_element_kind (node_at t.nodes n).kind) || are_page_parts t.nodes (child_elements t.nodes n)) ns ≡ true
    each [] a b = refl
    each (n ∷ ns) a b =
        let lones : (Lone (tags t.nodes) n ≡ true) × (list_all (Lone (tags t.nodes)) ns ≡ true) = both (Lone (tags t.nodes) n) (list_all (Lone (tags t.nodes)) ns) a in
        let theres : (is_there (class_at (tags t.nodes) n) ≡ true) × AllThere (tags t.nodes) ns =
        both (is_there (class_at (tags t.nodes) n)) (list_all (λ j. is_there (class_at (tags t.nodes) j)) ns) b in
        ap (λ x. x && list_all (λ j. not (is_element_kind (node_at t.nodes j).kind) || are_page_parts t.nodes (child_elements t.nodes j)) ns) (one n lones.0 theres.0)
        ∙ each ns lones.1 theres.1

-- where no template is open, a body is
pub no_template_body : (cs : List Cls) → chain cs ≡ true → is_inner (context cs) ≡ true → list_any is_template cs ≡ false → has_body cs ≡ true
no_template_body [] h i t = never h
no_template_body (c ∷ []) h i t = never (sym (out c h) ∙ i)
  where
    out : (c : Cls) → is_root c ≡ true → is_inner (elim (is_plain c) as (λ _. Cls) [ true ↦ Rattle.standard_order.proofs.NodeTags.NoC | false ↦ c ]) ≡ false
    out HtmlC k = refl
    out _ k = never k
no_template_body (c ∷ d ∷ ds) h i t = by c (both (on c d) (chain (d ∷ ds)) h).0 i t (λ deep k. no_template_body (d ∷ ds) rest (deep_inner (d ∷ ds) rest deep) k)
  where
    rest : chain (d ∷ ds) ≡ true
    rest = (both (on c d) (chain (d ∷ ds)) h).1

    by : (c : Cls) → on c d ≡ true → is_inner (elim (is_plain c) as (λ _. Cls) [ true ↦ context (d ∷ ds) | false ↦ c ]) ≡ true →
        is_template c || list_any is_template (d ∷ ds) ≡ false → (is_deep d ≡ true → list_any is_template (d ∷ ds) ≡ false → has_body (d ∷ ds) ≡ true) →
        is_body c || has_body (d ∷ ds) ≡ true
    by BodyC o j k go = refl
    by TemplateC o j k go = never (sym k)
    by PlainC o j k go = go o k
    by TableC o j k go = go (tabular_deep TableC d refl o) k
    by GroupC o j k go = go (tabular_deep GroupC d refl o) k
    by RowC o j k go = go (tabular_deep RowC d refl o) k
    by CellC o j k go = go (tabular_deep CellC d refl o) k
    by CaptionC o j k go = go (tabular_deep CaptionC d refl o) k
    by _ o j k go = never j
