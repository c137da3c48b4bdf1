-- The attributes of later tags change neither the links of a forest nor the kinds of its nodes, so that an edit of the forest without
-- them is the same edit of the forest with them.
use Rattle.std.proofs.Common.{◌≡◌, ℕ, suc, zero, ◌<◌, ◌+◌, ◌==◌, ◌&&◌, ◌||◌, Bool, true, false, not, List, [], ◌∷◌, ◌++◌, refl, sym, ap, ◌∙◌, length, Option, Some, None, arith, inl, inr, subst, if◌then◌else◌}
use Rattle.std.specs.Prelude.{option_and_then, slice_get}
use Rattle.std.specs.Option.{option_map_or, unwrap_or}
use Rattle.std.proofs.lemmas.List.{append-nil}
use Rattle.dom_nodes.specs.Kinds.{children_allowed, contents_named, is_element, is_fragment, is_text, is_top}
use Rattle.dom_nodes.specs.declared.name.Attr.{Attr}
use Rattle.dom_nodes.specs.declared.name.NameParts.{NameParts}
use Rattle.dom_nodes.specs.declared.node_data.NodeData.{NodeData}
use Rattle.dom_nodes.specs.declared.node_data.NodeData.TheVariants.{Element, Fragment, Text}
use Rattle.dom_links.specs.AddedTexts.{lengthened, text_before, with_more, with_node_at, with_text_at}
use Rattle.dom_links.specs.Contents.{KeepsKind, SameKind, changed_at, with_content}
use Rattle.dom_links.specs.Forest.{Forest, StandsOnce, parent}
use Rattle.dom_links.specs.Growth.{with_lone_template, with_node}
use Rattle.dom_links.specs.ListMoves.{element_at}
use Rattle.dom_links.specs.Lists.{map_from}
use Rattle.dom_links.specs.Moves.{before_gap, detach, moved_to}
use Rattle.dom_links.specs.SetTexts.{is_text_at}
use Rattle.dom_links.specs.Sound.{IsForest, IsHostAncestor, IsOpenGap, IsParentOrHost, children_allowed_at, contents_at, one_step, stays, then_step}
use Rattle.dom_links.specs.declared.gap.InsertionPoint.{InsertionPoint}
use Rattle.dom_links.specs.declared.gap.InsertionPoint.TheVariants.{After as after_node, Before as before_node, EndOf as end_of, FrontOf as front_of}
use Rattle.dom_trees.specs.TreeUnderConstruction.{with_new_element}
use Rattle.dom_trees.specs.declared.tree.growing.ElementFlags.{ElementFlags}
use Rattle.page_trees.specs.Insertions.{with_element_at}
use Rattle.page_trees.specs.Placing.{foster_place_of, fosters, inner, is_a_table, is_a_template, place_of, point_of}
use Rattle.page_trees.specs.TreeState.{Late, added_to, completed, with_attrs}
use Rattle.page_trees.specs.declared.growing.placing.Place.{Place}
use Rattle.page_trees.specs.declared.growing.placing.Place.TheVariants.{EndOf, Table}
use Rattle.page_trees.specs.declared.stack.Open.{Open}

-- ---- one node

same_kind : (content : NodeData) → SameKind content content
same_kind content = record { top = refl; fragment = refl; parents_allow = refl; contents = refl }

late_kind : (attrs : List Attr) → KeepsKind (with_attrs attrs)
late_kind attrs (Element element) = record { top = refl; fragment = refl; parents_allow = refl; contents = refl }
late_kind attrs content = same_kind content

late_text : (attrs : List Attr) (content : NodeData) → is_text (with_attrs attrs content) ≡ is_text content
late_text attrs (Element element) = refl
late_text attrs content = refl

late_element : (attrs : List Attr) (content : NodeData) → is_element (with_attrs attrs content) ≡ is_element content
late_element attrs (Element element) = refl
late_element attrs content = refl

pub no_attrs : (content : NodeData) → with_attrs [] content ≡ content
no_attrs (Element element) =
    ap (λ (attrs : List Attr). Element (record {
      name = element.name;
      attrs = attrs;
      template_contents = element.template_contents;
      mathml_annotation_xml_integration_point = element.mathml_annotation_xml_integration_point;
    })) (append-nil element.attrs)
no_attrs content = refl

late_longer : (attrs : List Attr) (more : List ℕ) (content : NodeData) → with_attrs attrs (lengthened more content) ≡ lengthened more (with_attrs attrs content)
late_longer attrs more (Text text) = refl
late_longer attrs more (Element element) = refl
late_longer attrs more content = refl

-- ---- all nodes

abbrev dressed : List Late → ℕ → NodeData → NodeData
dressed late n content = with_attrs (added_to late n) content

link_late : (field : NodeData → Option ℕ) (late : List Late) (i : ℕ) (cs : List NodeData) (n : ℕ) → ((attrs : List Attr) (c : NodeData) → field (with_attrs attrs c) ≡ field c) →
    option_and_then field (slice_get (map_from i (dressed late) cs) n) ≡ option_and_then field (slice_get cs n)
link_late field late i [] n same = refl
link_late field late i (c ∷ cs) zero same = same (added_to late i) c
link_late field late i (c ∷ cs) (suc n) same = link_late field late (i + 1) cs n same

test_late : (test : NodeData → Bool) (late : List Late) (i : ℕ) (cs : List NodeData) (n : ℕ) → ((attrs : List Attr) (c : NodeData) → test (with_attrs attrs c) ≡ test c) →
    option_map_or test (slice_get (map_from i (dressed late) cs) n) false ≡ option_map_or test (slice_get cs n) false
test_late test late i [] n same = refl
test_late test late i (c ∷ cs) zero same = same (added_to late i) c
test_late test late i (c ∷ cs) (suc n) same = test_late test late (i + 1) cs n same

length_late : (late : List Late) (i : ℕ) (cs : List NodeData) → length (map_from i (dressed late) cs) ≡ length cs
length_late late i [] = refl
length_late late i (c ∷ cs) = ap suc (length_late late (i + 1) cs)

push_late : (late : List Late) (i : ℕ) (cs : List NodeData) (c : NodeData) (k : ℕ) → i + length cs ≡ k → map_from i (dressed late) (cs ++ c ∷ []) ≡ map_from i (dressed late) cs ++ dressed late k c ∷ []
push_late late i [] c k e = ap (λ (n : ℕ). dressed late n c ∷ []) (omega (arith, e))
push_late late i (d ∷ cs) c k e = ap (λ (rest : List NodeData). dressed late i d ∷ rest) (push_late late (i + 1) cs c k (omega (arith, e)))

pub late_long : (late : List Late) (f : Forest) → length (completed late f).content ≡ length f.content
unfolding completed
late_long late f = length_late late 0 f.content

pub late_contents : (late : List Late) (f : Forest) (n : ℕ) → contents_at (completed late f) n ≡ contents_at f n
unfolding completed
late_contents late f n = link_late contents_named late 0 f.content n (λ attrs c. (late_kind attrs c).contents)

pub late_elements : (late : List Late) (f : Forest) (n : ℕ) → element_at (completed late f) n ≡ element_at f n
unfolding completed
late_elements late f n = test_late is_element late 0 f.content n late_element

pub late_allowed : (late : List Late) (f : Forest) (n : ℕ) → children_allowed_at (completed late f) n ≡ children_allowed_at f n
unfolding completed
late_allowed late f n = test_late children_allowed late 0 f.content n (λ attrs c. (late_kind attrs c).parents_allow)

late_stays : (late : List Late) (f : Forest) (n : ℕ) → stays (completed late f) n ≡ stays f n
unfolding completed
late_stays late f n = ap (λ t. (n == 0) || t) (test_late is_top late 0 f.content n (λ attrs c. (late_kind attrs c).top))

late_texts : (late : List Late) (f : Forest) (n : ℕ) → is_text_at (completed late f) n ≡ is_text_at f n
unfolding completed
late_texts late f n = test_late is_text late 0 f.content n late_text

-- ---- a forest

late_once : (late : List Late) (f : Forest) → StandsOnce f → StandsOnce (completed late f)
unfolding completed
late_once late f once =
    let same : length (completed late f).content ≡ length f.content = length_late late 0 f.content in
    record {
      children_each = once.children_each ∙ sym same;
      runs_each = once.runs_each ∙ sym same;
      placed = λ n known. once.placed n (subst (λ (k : ℕ). n < k) same known);
      in_children = λ p n stands. (let facts = once.in_children p n stands in (subst (λ (k : ℕ). n < k) (sym same) facts.0, facts.1));
      in_run = λ m n stands. (let facts = once.in_run m n stands in (subst (λ (k : ℕ). n < k) (sym same) facts.0, facts.1, facts.2));
      children_once = once.children_once;
      run_once = once.run_once;
      no_run = once.no_run;
    }

late_step : (late : List Late) (f : Forest) (m n : ℕ) → IsParentOrHost (completed late f) m n → IsParentOrHost f m n
unfolding completed
late_step late f m n (inl up) = inl up
late_step late f m n (inr held) = inr (sym (late_contents late f m) ∙ held)

late_reaches : (late : List Late) (f : Forest) (m n : ℕ) → IsHostAncestor (completed late f) m n → IsHostAncestor f m n
late_reaches late f m n (one_step _ _ step) = one_step m n (late_step late f m n step)
late_reaches late f m n (then_step _ k _ way step) = then_step m k n (late_reaches late f m k way) (late_step late f k n step)

pub late_forest : (late : List Late) (f : Forest) → IsForest f → IsForest (completed late f)
unfolding completed
late_forest late f good =
    let same : length (completed late f).content ≡ length f.content = length_late late 0 f.content in
    record {
      once = late_once late f good.once;
      rooted = subst (λ (k : ℕ). 0 < k) (sym same) good.rooted;
      alone = λ n known stands. good.alone n (subst (λ (k : ℕ). n < k) same known) (sym (late_stays late f n) ∙ stands);
      parents_allow = λ p n up. late_allowed late f p ∙ good.parents_allow p n up;
      contents_known = λ n c held. (let facts = good.contents_known n c (sym (late_contents late f n) ∙ held) in
          (facts.0, test_late is_fragment late 0 f.content c (λ attrs content. (late_kind attrs content).fragment) ∙ facts.1));
      contents_once = λ m n c held too. good.contents_once m n c (sym (late_contents late f m) ∙ held) (sym (late_contents late f n) ∙ too);
      acyclic = λ n way. good.acyclic n (late_reaches late f n n way);
    }

pub late_open : (late : List Late) (f : Forest) (gap : InsertionPoint) → IsOpenGap gap f → IsOpenGap gap (completed late f)
late_open late f (end_of t) open_here = (subst (λ (k : ℕ). t < k) (sym (late_long late f)) open_here.0, late_allowed late f t ∙ open_here.1)
late_open late f (front_of t) open_here = (subst (λ (k : ℕ). t < k) (sym (late_long late f)) open_here.0, late_allowed late f t ∙ open_here.1)
late_open late f (before_node t) open_here = (subst (λ (k : ℕ). t < k) (sym (late_long late f)) open_here.0, ap not (late_stays late f t) ∙ open_here.1)
late_open late f (after_node t) open_here = (subst (λ (k : ℕ). t < k) (sym (late_long late f)) open_here.0, ap not (late_stays late f t) ∙ open_here.1)

-- ---- the appropriate place

late_inner : (late : List Late) (f : Forest) (n : ℕ) → inner (completed late f) n ≡ inner f n
late_inner late f n = ap (λ (o : Option ℕ). unwrap_or o n) (late_contents late f n)

late_foster : (late : List Late) (f : Forest) (os : List Open) → foster_place_of (completed late f) os ≡ foster_place_of f os
late_foster late f [] = refl
late_foster late f (o ∷ []) = ap (λ (k : ℕ). EndOf (if is_a_template o then k else o.id)) (late_inner late f o.id)
late_foster late f (o ∷ outer ∷ others) =
    ap (λ (k : ℕ). (let place : Place = if is_a_template o then EndOf k else if is_a_table o then Table o.id outer.id else foster_place_of (completed late f) (outer ∷ others) in place))
    (late_inner late f o.id)
    ∙ ap (λ (rest : Place). (let place : Place = if is_a_template o then EndOf (inner f o.id) else if is_a_table o then Table o.id outer.id else rest in place))
    (late_foster late f (outer ∷ others))

late_place : (late : List Late) (f : Forest) (foster : Bool) (os : List Open) → place_of (completed late f) foster os ≡ place_of f foster os
late_place late f foster [] = refl
late_place late f foster (o ∷ others) = by (foster && fosters o)
  where
    by : (b : Bool) → (let place : Place = if b then foster_place_of (completed late f) (o ∷ others) else EndOf (inner (completed late f) o.id) in place)
        ≡ (if b then foster_place_of f (o ∷ others) else EndOf (inner f o.id))
    by true = late_foster late f (o ∷ others)
    by false = ap EndOf (late_inner late f o.id)

late_point : (late : List Late) (f : Forest) (place : Place) → point_of (completed late f) place ≡ point_of f place
unfolding completed
late_point late f (EndOf n) = refl
late_point late f (Table table other) =
    ap (λ (k : ℕ). (let gap : InsertionPoint = elim (parent f table) [ Some _ ↦ before_node table | None ↦ end_of k ] in gap)) (late_inner late f other)

pub late_spot : (late : List Late) (f : Forest) (foster : Bool) (os : List Open) → point_of (completed late f) (place_of (completed late f) foster os) ≡ point_of f (place_of f foster os)
late_spot late f foster os = late_point late f (place_of (completed late f) foster os) ∙ ap (point_of f) (late_place late f foster os)

-- ---- edits

pub late_moved : (late : List Late) (moved : List ℕ) (gap : InsertionPoint) (f : Forest) → completed late (moved_to moved gap f) ≡ moved_to moved gap (completed late f)
unfolding completed
late_moved late moved (end_of t) f = refl
late_moved late moved (front_of t) f = refl
late_moved late moved (before_node t) f = refl
late_moved late moved (after_node t) f = refl

pub late_cut : (late : List Late) (moved : List ℕ) (f : Forest) → completed late (detach moved f) ≡ detach moved (completed late f)
unfolding completed
late_cut late moved f = refl

-- a node that no later tag is for
pub late_node : (late : List Late) (content : NodeData) (f : Forest) → added_to late (length f.content) ≡ [] → completed late (with_node content f) ≡ with_node content (completed late f)
unfolding completed
late_node late content f none =
    let whole : List NodeData → ℕ → Forest = λ contents n. record { content = contents; children = f.children ++ [] ∷ []; runs = f.runs ++ (n ∷ []) ∷ [] } in
    let same : map_from 0 (dressed late) (f.content ++ content ∷ []) ≡ map_from 0 (dressed late) f.content ++ content ∷ [] =
    push_late late 0 f.content content (length f.content) (omega arith)
    ∙ ap (λ (c : NodeData). map_from 0 (dressed late) f.content ++ c ∷ []) (ap (λ (attrs : List Attr). with_attrs attrs content) none ∙ no_attrs content) in
    ap (λ (contents : List NodeData). whole contents (length f.content)) same
    ∙ ap (whole (map_from 0 (dressed late) f.content ++ content ∷ [])) (sym (length_late late 0 f.content))

pub late_node_at : (late : List Late) (gap : InsertionPoint) (content : NodeData) (f : Forest) → added_to late (length f.content) ≡ [] →
    completed late (with_node_at gap content f) ≡ with_node_at gap content (completed late f)
late_node_at late gap content f none =
    late_moved late (length f.content ∷ []) gap (with_node content f) ∙ ap (moved_to (length f.content ∷ []) gap) (late_node late content f none)
    ∙ ap (λ (n : ℕ). moved_to (n ∷ []) gap (with_node content (completed late f))) (sym (late_long late f))

-- the contents of a template get no attributes
late_template : (late : List Late) (f : Forest) → completed late (with_node Fragment f) ≡ with_node Fragment (completed late f)
unfolding completed
late_template late f =
    let whole : List NodeData → ℕ → Forest = λ contents n. record { content = contents; children = f.children ++ [] ∷ []; runs = f.runs ++ (n ∷ []) ∷ [] } in
    ap (λ (contents : List NodeData). whole contents (length f.content)) (push_late late 0 f.content Fragment (length f.content) (omega arith))
    ∙ ap (whole (map_from 0 (dressed late) f.content ++ Fragment ∷ [])) (sym (length_late late 0 f.content))

late_made : (late : List Late) (name : NameParts) (attrs : List Attr) (flags : ElementFlags) (f : Forest) → added_to late (length f.content) ≡ [] →
    completed late (with_new_element name attrs flags f) ≡ with_new_element name attrs flags (completed late f)
late_made late name attrs flags f none = by flags.template
  where
    content : Bool → ℕ → NodeData
    content b n = Element (record {
      name = name;
      attrs = attrs;
      template_contents = if b then Some (n + 1) else None;
      mathml_annotation_xml_integration_point = flags.mathml_annotation_xml_integration_point;
    })

    long : length f.content ≡ length (completed late f).content
    long = sym (late_long late f)

    by : (b : Bool) → completed late (if b then with_lone_template (content b (length f.content)) f else with_node (content b (length f.content)) f)
        ≡ (if b then with_lone_template (content b (length (completed late f).content)) (completed late f) else with_node (content b (length (completed late f).content)) (completed late f))
    by true =
        late_template late (with_node (content true (length f.content)) f) ∙ ap (with_node Fragment) (late_node late (content true (length f.content)) f none)
        ∙ ap (λ (n : ℕ). with_lone_template (content true n) (completed late f)) long
    by false = late_node late (content false (length f.content)) f none

pub late_element_at : (late : List Late) (gap : InsertionPoint) (name : NameParts) (attrs : List Attr) (flags : ElementFlags) (f : Forest) → added_to late (length f.content) ≡ [] →
    completed late (with_element_at gap name attrs flags f) ≡ with_element_at gap name attrs flags (completed late f)
late_element_at late gap name attrs flags f none =
    late_moved late (length f.content ∷ []) gap (with_new_element name attrs flags f) ∙ ap (moved_to (length f.content ∷ []) gap) (late_made late name attrs flags f none)
    ∙ ap (λ (n : ℕ). moved_to (n ∷ []) gap (with_new_element name attrs flags (completed late f))) (sym (late_long late f))

-- a text that grows
grown_late : (late : List Late) (more : List ℕ) (i : ℕ) (cs : List NodeData) (n : ℕ) → map_from i (dressed late) (changed_at n (lengthened more) cs) ≡ changed_at n (lengthened more) (map_from i (dressed late) cs)
grown_late late more i [] n = refl
grown_late late more i (c ∷ cs) zero = ap (λ (d : NodeData). d ∷ map_from (i + 1) (dressed late) cs) (late_longer (added_to late i) more c)
grown_late late more i (c ∷ cs) (suc n) = ap (λ (rest : List NodeData). dressed late i c ∷ rest) (grown_late late more (i + 1) cs n)

late_grown : (late : List Late) (more : List ℕ) (n : ℕ) (f : Forest) → completed late (with_content n (lengthened more) f) ≡ with_content n (lengthened more) (completed late f)
unfolding completed
late_grown late more n f = ap (λ (contents : List NodeData). record f { content = contents }) (grown_late late more 0 f.content n)

late_gap : (late : List Late) (gap : InsertionPoint) (f : Forest) → before_gap gap (completed late f) ≡ before_gap gap f
unfolding completed
late_gap late (end_of t) f = refl
late_gap late (front_of t) f = refl
late_gap late (before_node t) f = refl
late_gap late (after_node t) f = refl

late_before : (late : List Late) (gap : InsertionPoint) (f : Forest) → text_before gap (completed late f) ≡ text_before gap f
late_before late gap f = ap (option_and_then (λ (n : ℕ). if is_text_at (completed late f) n then Some n else None)) (late_gap late gap f) ∙ by (before_gap gap f)
  where
    by : (o : Option ℕ) → option_and_then (λ (n : ℕ). if is_text_at (completed late f) n then Some n else None) o ≡ option_and_then (λ (n : ℕ). if is_text_at f n then Some n else None) o
    by None = refl
    by (Some n) = ap (λ (b : Bool). (let o : Option ℕ = if b then Some n else None in o)) (late_texts late f n)

pub late_text_at : (late : List Late) (gap : InsertionPoint) (text : List ℕ) (f : Forest) → added_to late (length f.content) ≡ [] →
    completed late (with_text_at gap text f) ≡ with_text_at gap text (completed late f)
late_text_at late gap text f none = by (text_before gap f) ∙ ap (λ (o : Option ℕ). with_more o gap text (completed late f)) (sym (late_before late gap f))
  where
    by : (o : Option ℕ) → completed late (with_more o gap text f) ≡ with_more o gap text (completed late f)
    by None = late_node_at late gap (Text text) f none
    by (Some n) = late_grown late text n f
