-- A copy of a formatting element is the element that the definition inserts for the same token.
use Rattle.std.proofs.Common.{◌≡◌, ℕ, suc, zero, ◌+◌, ◌&&◌, ◌||◌, Bool, true, false, not, List, [], ◌∷◌, ◌++◌, refl, sym, ap, ◌∙◌, length, Option, Some, None, arith, subst, codes, true≢false}
use Rattle.std.specs.Prelude.{IfSome, cond, slice_get}
use Rattle.std.specs.Option.{option_map_or}
use Rattle.dom_nodes.specs.Kinds.{contents_named, is_element}
use Rattle.dom_nodes.specs.declared.name.Attr.{Attr}
use Rattle.dom_nodes.specs.declared.node_data.NodeData.{NodeData}
use Rattle.dom_nodes.specs.declared.node_data.NodeData.TheVariants.{Document, Doctype, Text, Comment, Fragment, Element, ProcessingInstruction}
use Rattle.dom_links.specs.Forest.{Forest}
use Rattle.dom_links.specs.Growth.{with_node}
use Rattle.dom_links.specs.ListMoves.{element_at}
use Rattle.dom_links.specs.Lists.{map_from}
use Rattle.dom_links.specs.Moves.{moved_to}
use Rattle.dom_links.specs.Sound.{IsForest, IsOpenGap}
use Rattle.dom_links.specs.declared.gap.InsertionPoint.{InsertionPoint}
use Rattle.standard_trees.specs.Formatting.{attrs_of, local_of}
use Rattle.standard_trees.specs.GrowingTree.{GrowingTree, inserted_at, is_among, is_html_point, is_template, kind_of}
use Rattle.standard_trees.specs.NameLists.{html_points}
use Rattle.standard_trees.specs.TreeStore.{ElementNode, Html, Kind, Node, Place, Space, local_in, node_at, space_in}
use Rattle.page_trees.specs.Elements.{IsElement}
use Rattle.page_trees.specs.Insertions.{MakesNext, copied}
use Rattle.page_trees.specs.Insertions.{with_copy as copy_made, with_copy_at as with_copied_at}
use Rattle.page_trees.specs.NameNumbers.{IsNumbered}
use Rattle.page_trees.specs.Names.{html_rows, rare_rows}
use Rattle.page_trees.specs.Reopening.{copy_open}
use Rattle.page_trees.specs.SameNodes.{AreNodes, IsPointOf, copy_of, with_copy_at, with_kind_at}
use Rattle.page_trees.specs.Sets.{is_in_mathml, is_one, is_one_in, key_for, local_for, space_of}
use Rattle.page_trees.specs.Stands.{Builds, EntryStands, IsOfKind, StandsFor, TakeAttrs, TakesAttrs, formatting_names, late_names}
use Rattle.page_trees.specs.TreeState.{Late, TreeState, added_to, completed, late_at, with_attrs}
use Rattle.page_trees.specs.declared.formatting.Entry.{Entry}
use Rattle.page_trees.specs.declared.name.Name.{Name}
use Rattle.page_trees.specs.declared.stack.ElementNamespace.{ElementNamespace}
use Rattle.page_trees.specs.declared.stack.Open.{Open}
use Rattle.page_trees.proofs.ActionsOnNodes.{created_kind}
use Rattle.page_trees.proofs.BuiltNodes.{built_pushed, inserted_is, made_kind, no_later}
use Rattle.page_trees.proofs.KeptElements.{Keeps, added_is, built_grown, keeps_kind_at}
use Rattle.page_trees.proofs.LateNodes.{late_elements, late_forest, late_long, late_moved, late_node, late_open, no_attrs}
use Rattle.page_trees.proofs.NamesAgree.{for_all}
use Rattle.page_trees.proofs.StandingEdits.{alone_good, copy_more, copy_stands, put_stands}
use Rattle.page_trees.proofs.StandingNames.{are_known, key_agrees, kind_agrees}
use Rattle.page_trees.proofs.StandingNodes.{same_length}
use Rattle.page_trees.proofs.StandingPlaces.{template_known}

-- ---- formatting elements are HTML elements, and neither templates nor those of later tags

never_both : (a b : Bool) → not (a && b) ≡ true → a ≡ true → b ≡ false
never_both true true h e = absurd (true≢false (sym h))
never_both true false h e = refl
never_both false b h e = absurd (true≢false (sym e))

never : (b : Bool) → not b ≡ true → b ≡ true → ⊥
never true h e = true≢false (sym h)
never false h e = true≢false (sym e)

pub formatting_html : (o : Open) → is_one formatting_names o ≡ true → o.ns ≡ ElementNamespace.Html
unfolding html_rows rare_rows
formatting_html o is = by o.ns refl
  where
    by : (ns : ElementNamespace) → o.ns ≡ ns → ns ≡ ElementNamespace.Html
    by ElementNamespace.Html e = refl
    by ElementNamespace.Svg e =
        absurd (never (is_one_in formatting_names ElementNamespace.Svg o.name) (for_all (λ n. not (is_one_in formatting_names ElementNamespace.Svg n)) refl o.name)
        (ap (λ (ns : ElementNamespace). is_one_in formatting_names ns o.name) (sym e) ∙ is))
    by ElementNamespace.MathMl e =
        absurd (never (is_one_in formatting_names ElementNamespace.MathMl o.name) (for_all (λ n. not (is_one_in formatting_names ElementNamespace.MathMl n)) refl o.name)
        (ap (λ (ns : ElementNamespace). is_one_in formatting_names ns o.name) (sym e) ∙ is))

in_html : (o : Open) (names : List (List ℕ)) → is_one formatting_names o ≡ true → is_one names o ≡ is_one_in names ElementNamespace.Html o.name
in_html o names is = ap (λ (ns : ElementNamespace). is_one_in names ns o.name) (formatting_html o is)

pub no_template : (o : Open) → is_one formatting_names o ≡ true → is_one (codes "template" ∷ []) o ≡ false
unfolding html_rows rare_rows
no_template o is =
    in_html o (codes "template" ∷ []) is
    ∙ never_both (is_one_in formatting_names ElementNamespace.Html o.name) (is_one_in (codes "template" ∷ []) ElementNamespace.Html o.name)
    (for_all (λ n. not (is_one_in formatting_names ElementNamespace.Html n && is_one_in (codes "template" ∷ []) ElementNamespace.Html n)) refl o.name)
    (sym (in_html o formatting_names is) ∙ is)

pub no_table : (o : Open) → is_one formatting_names o ≡ true → is_one (codes "table" ∷ []) o ≡ false
unfolding html_rows rare_rows
no_table o is =
    in_html o (codes "table" ∷ []) is
    ∙ never_both (is_one_in formatting_names ElementNamespace.Html o.name) (is_one_in (codes "table" ∷ []) ElementNamespace.Html o.name)
    (for_all (λ n. not (is_one_in formatting_names ElementNamespace.Html n && is_one_in (codes "table" ∷ []) ElementNamespace.Html n)) refl o.name)
    (sym (in_html o formatting_names is) ∙ is)

not_late : (o : Open) → is_one formatting_names o ≡ true → is_one late_names o ≡ false
unfolding html_rows rare_rows
not_late o is =
    in_html o late_names is
    ∙ never_both (is_one_in formatting_names ElementNamespace.Html o.name) (is_one_in late_names ElementNamespace.Html o.name)
    (for_all (λ n. not (is_one_in formatting_names ElementNamespace.Html n && is_one_in late_names ElementNamespace.Html n)) refl o.name)
    (sym (in_html o formatting_names is) ∙ is)

late_known : are_known late_names ≡ true
unfolding html_rows rare_rows
late_known = refl

pub none_later : (nodes : List Node) (late : List Late) (o : Open) → TakeAttrs nodes late → StandsFor nodes o → is_one formatting_names o ≡ true → added_to late o.id ≡ []
none_later nodes late o takes stands is = added_is late o.id ∙ by (late_at late o.id) (takes o.id)
  where
    by : (one : Option Late) → IfSome one (TakesAttrs (node_at nodes o.id).kind) → option_map_or (λ (one : Late). one.added) one [] ≡ []
    by None k = refl
    by (Some one) k = absurd (true≢false (sym k.named ∙ sym (kind_agrees late_names late_known o (node_at nodes o.id).kind stands) ∙ not_late o is))

-- ---- the kind of the copy

pub copy_is_html : (o : Open) (kind : Kind) → IsOfKind o kind → is_one formatting_names o ≡ true → space_in kind ≡ Html
copy_is_html o kind s is = ap space_in s.kind ∙ ap space_of (formatting_html o is)

or_none : (b : Bool) → (b || false) ≡ b
or_none true = refl
or_none false = refl

pub copy_no_template : (o : Open) (kind : Kind) → IsOfKind o kind → is_one formatting_names o ≡ true → is_template Html (local_in kind) ≡ false
copy_no_template o kind s is =
    let html : o.ns ≡ ElementNamespace.Html = formatting_html o is in
    let written : local_in kind ≡ s.written = ap local_in s.kind ∙ ap (λ (ns : ElementNamespace). local_for ns s.written) html in
    ap (is_template Html) written ∙ sym (or_none (is_template Html s.written))
    ∙ ap (λ (ns : ElementNamespace). is_among (key_for ns s.written) (codes "template" ∷ [])) (sym html)
    ∙ sym (key_agrees (codes "template" ∷ []) template_known o.ns s.written s.tag)
    ∙ ap (is_one_in (codes "template" ∷ []) o.ns) (sym s.name) ∙ no_template o is

-- what is created is the copy
pub made_copy : (o : Open) (t : GrowingTree) → StandsFor t.nodes o → is_one formatting_names o ≡ true →
    created_kind Html (local_of t o.id) (attrs_of t o.id) (length t.nodes) ≡ copy_of (kind_of t o.id)
made_copy o t s is =
    ap (λ (b : Bool). ElementNode Html (local_of t o.id) (attrs_of t o.id) (cond b (Some (suc (length t.nodes))) None)) (copy_no_template o (kind_of t o.id) s is)
    ∙ ap (λ (space : Space). ElementNode space (local_of t o.id) (attrs_of t o.id) None) (sym (copy_is_html o (kind_of t o.id) s is))

html_point : (kind other : Kind) → kind ≡ other → is_html_point (copy_of other) ≡ is_html_point other → is_html_point (copy_of kind) ≡ is_html_point kind
html_point kind other e same = ap (λ k. is_html_point (copy_of k)) e ∙ same ∙ ap is_html_point (sym e)

no_mathml : (ns : ElementNamespace) (a b : Bool) → ns ≡ ElementNamespace.Html → (is_in_mathml ns && a) ≡ (is_in_mathml ns && b)
no_mathml ns a b e = ap (λ (n : ElementNamespace). is_in_mathml n && a) e ∙ sym (ap (λ (n : ElementNamespace). is_in_mathml n && b) e)

pub copy_stands_for : (o : Open) (kind : Kind) (id : ℕ) → IsOfKind o kind → is_one formatting_names o ≡ true → IsOfKind (copy_open o id) (copy_of kind)
copy_stands_for o kind id s is = record {
  written = s.written;
  attrs = s.attrs;
  contents = None;
  tag = s.tag;
  name = s.name;
  kind = ap copy_of s.kind;
  point = ap (λ b. is_one html_points o || b) (no_mathml o.ns false o.holds_html (formatting_html o is)) ∙ s.point
      ∙ sym (html_point kind (ElementNode (space_of o.ns) (local_for o.ns s.written) s.attrs s.contents) s.kind refl);
  plain = λ e. refl;
}

-- ---- the forest with the attributes of later tags

late_got : (late : List Late) (i n k : ℕ) (cs : List NodeData) (c : NodeData) → i + n ≡ k → slice_get cs n ≡ Some c → added_to late k ≡ [] →
    slice_get (map_from i (λ (m : ℕ) (node : NodeData). with_attrs (added_to late m) node) cs) n ≡ Some c
late_got late i n k [] c e got none = cc
late_got late i zero k (d ∷ cs) c e got none =
    let same : i ≡ k = omega (arith, e) in
    let one : d ≡ c = cc in
    ap (λ (m : ℕ). Some (with_attrs (added_to late m) d)) same ∙ ap (λ (attrs : List Attr). Some (with_attrs attrs d)) none ∙ ap (λ (x : NodeData). Some x) (no_attrs d ∙ one)
late_got late i (suc n) k (d ∷ cs) c e got none = late_got late (i + 1) n k cs c (omega (arith, e)) got none

pub late_found : (late : List Late) (f : Forest) (n : ℕ) (c : NodeData) → slice_get f.content n ≡ Some c → added_to late n ≡ [] → slice_get (completed late f).content n ≡ Some c
unfolding completed
late_found late f n c got none = late_got late 0 n n f.content c (omega arith) got none

pub copy_is : (f : Forest) (n : ℕ) (c : NodeData) → slice_get f.content n ≡ Some c → copy_made n f ≡ with_node (copied c) f
copy_is f n c got = ap (λ (o : Option NodeData). option_map_or (λ content. with_node (copied content) f) o f) got

pub late_copy_at : (late : List Late) (gap : InsertionPoint) (n : ℕ) (f : Forest) (c : NodeData) → slice_get f.content n ≡ Some c → added_to late n ≡ [] → added_to late (length f.content) ≡ [] →
    completed late (with_copied_at gap n f) ≡ with_copied_at gap n (completed late f)
late_copy_at late gap n f c got none next =
    late_moved late (length f.content ∷ []) gap (copy_made n f)
    ∙ ap (moved_to (length f.content ∷ []) gap) (ap (completed late) (copy_is f n c got) ∙ late_node late (copied c) f next ∙ sym (copy_is (completed late f) n c (late_found late f n c got none)))
    ∙ ap (λ (m : ℕ). moved_to (m ∷ []) gap (copy_made n (completed late f))) (sym (late_long late f))

pub no_contents : (c : NodeData) → is_element c ≡ true → contents_named (copied c) ≡ None
no_contents Document h = cc
no_contents Fragment h = cc
no_contents (Doctype name public_id system_id) h = cc
no_contents (Text text) h = cc
no_contents (Comment text) h = cc
no_contents (Element element) h = refl
no_contents (ProcessingInstruction name text) h = cc

copy_put : (nodes : List Node) (f : Forest) (n : ℕ) (c : NodeData) (gap : InsertionPoint) (spot : Place) → IsForest f → AreNodes nodes f → element_at f n ≡ true → slice_get f.content n ≡ Some c →
    IsOpenGap gap f → IsPointOf nodes gap spot → AreNodes (with_copy_at n spot nodes) (with_copied_at gap n f)
copy_put nodes f n c gap spot good are element got opens at =
    let is : is_element c ≡ true = ap (λ (o : Option NodeData). option_map_or is_element o false) (sym got) ∙ element in
    let after : IsForest (copy_made n f) = subst IsForest (sym (copy_is f n c got)) (alone_good f (copied c) good (no_contents c is)) in
    let more = copy_more f n element in
    put_stands nodes f (copy_made n f) (copy_of (node_at nodes n).kind) gap spot after are (copy_stands nodes f n are element) (omega (arith, more)) opens.0 at

pub there : (cs : List NodeData) (n : ℕ) → option_map_or is_element (slice_get cs n) false ≡ true → (c : NodeData) × (slice_get cs n ≡ Some c)
there [] n h = absurd (true≢false (sym h))
there (c ∷ cs) zero h = (c, refl)
there (c ∷ cs) (suc n) h = there cs n h

-- ---- the step

-- an element is inserted for the token of a formatting element
pub inserted_copy : (o : Open) (spot : Place) (t : GrowingTree) → StandsFor t.nodes o → is_one formatting_names o ≡ true → inserted_at spot Html (local_of t o.id) (attrs_of t o.id) t
    ≡ record t { nodes = with_kind_at (copy_of (kind_of t o.id)) spot t.nodes; stack = length t.nodes ∷ t.stack }
inserted_copy o spot t stands is =
    inserted_is spot Html (local_of t o.id) (attrs_of t o.id) t
    ∙ ap (λ (k : Kind). record t { nodes = with_kind_at k spot t.nodes; stack = length t.nodes ∷ t.stack }) (made_copy o t stands is)

-- its name is in `Name`
pub formatting_numbered : (numbers : List (List ℕ × ℕ)) (o : Open) (kind : Kind) → is_one formatting_names o ≡ true → IsNumbered numbers o kind
formatting_numbered numbers o kind is other = absurd (true≢false (sym is ∙ ap (is_one_in formatting_names o.ns) other
    ∙ ap (λ (ns : ElementNamespace). is_one_in formatting_names ns Name.Other) (formatting_html o is)))

-- the copy is opened, and the elements stay
pub record IsStacked (s : TreeState) (t : GrowingTree) (nodes : List Node) (copy : Open) : Type 0 where
  pub built : Builds s (record t { nodes = nodes; stack = length t.nodes ∷ t.stack })
  pub id : copy.id ≡ length t.nodes
  pub stands : EntryStands nodes (Entry.Element copy)
  pub keeps : Keeps t.nodes nodes

pub copy_stacked : (s : TreeState) (t : GrowingTree) (h : Forest) (gap : InsertionPoint) (spot : Place) (o copy : Open) (stack : List Open) → Builds s t → IsForest s.forest → IsElement s.forest o.id →
    IsOpenGap gap s.forest → IsPointOf t.nodes gap spot → StandsFor t.nodes o → is_one formatting_names o ≡ true → MakesNext copy.id s.forest h (with_copied_at gap o.id s.forest) →
    copy ≡ copy_open o copy.id → stack ≡ s.stack ++ copy ∷ [] → IsStacked (record s { forest = h; stack = stack }) t (with_kind_at (copy_of (kind_of t o.id)) spot t.nodes) copy
copy_stacked s t h gap spot o copy stack b good element opens at stands is next shape pushed_is =
    let f : Forest = completed s.late s.forest in
    let kind : Kind = copy_of (kind_of t o.id) in
    let nodes : List Node = with_kind_at kind spot t.nodes in
    let one = there s.forest.content o.id element in
    let none : added_to s.late o.id ≡ [] = none_later t.nodes s.late o b.late stands is in
    let kept : Keeps t.nodes nodes = keeps_kind_at kind spot t.nodes refl in
    let grown : Builds (record s { forest = h }) (record t { nodes = nodes }) =
    built_grown s t h nodes b kept
    (subst (AreNodes nodes) (sym (ap (completed s.late) next.forest ∙ late_copy_at s.late gap o.id s.forest one.0 one.1 none (no_later s t b)))
    (copy_put t.nodes f o.id one.0 gap spot (late_forest s.late s.forest good) b.nodes (late_elements s.late s.forest o.id ∙ element) (late_found s.late s.forest o.id one.0 one.1 none)
    (late_open s.late s.forest gap opens) at)) in
    let id : copy.id ≡ length t.nodes = next.number ∙ sym (same_length t.nodes f b.nodes ∙ late_long s.late s.forest) in
    let it : copy ≡ copy_open o (length t.nodes) = shape ∙ ap (copy_open o) id in
    let stands_now : StandsFor nodes (copy_open o (length t.nodes)) =
    subst (IsOfKind (copy_open o (length t.nodes))) (sym (made_kind kind spot t.nodes)) (copy_stands_for o (kind_of t o.id) (length t.nodes) stands is) in
    let entry : EntryStands nodes (Entry.Element copy) = subst (λ (p : Open). EntryStands nodes (Entry.Element p)) (sym it) (stands_now, is) in
    record {
      built = built_pushed (record s { forest = h }) (record t { nodes = nodes }) copy stack grown entry.0
          (subst (λ (p : Open). IsNumbered s.numbers p (node_at nodes p.id).kind) (sym it) (formatting_numbered s.numbers (copy_open o (length t.nodes)) (node_at nodes (length t.nodes)).kind is))
          pushed_is (length t.nodes) id;
      id = id;
      stands = entry;
      keeps = kept;
    }
