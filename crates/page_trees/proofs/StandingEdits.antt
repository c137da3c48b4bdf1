-- What the edits of tree construction make of the nodes of a forest, and of those of the definition.
use Rattle.std.proofs.Common.{◌≡◌, ℕ, suc, zero, ◌<◌, ◌+◌, Bool, true, false, List, [], ◌∷◌, ◌++◌, map, refl, sym, ap, ◌∙◌, length, Option, Some, None, arith, inl, inr, subst}
use Rattle.std.proofs.Common.{Result, Ok, Err, IfOk}
use Rattle.std.specs.Prelude.{MatchResult, OnOk, chars, get_or, if◌then◌else◌, slice_get, string_bytes, ◌||◌, nat_eq}
use Rattle.std.specs.Option.{option_map_or}
use Rattle.std.specs.Str.{IsUtf8}
use Rattle.std.proofs.lemmas.Str.{encodes-chars}
use Rattle.dom_nodes.specs.declared.fault.EditFault.{EditFault}
use Rattle.std.proofs.lemmas.Bool.{cases_Bool, cases_eq, eq-eqb, ne_eqb, or_right, true≢false}
use Rattle.std.proofs.lemmas.List.{ext_get_or, get_or_past, length-map, length_push}
use Rattle.dom_nodes.specs.declared.name.Attr.{Attr}
use Rattle.dom_nodes.specs.declared.name.NameParts.{NameParts}
use Rattle.dom_nodes.specs.Kinds.{contents_named, is_element, is_top}
use Rattle.dom_nodes.specs.declared.node_data.NodeData.{NodeData}
use Rattle.dom_nodes.specs.declared.node_data.NodeData.TheVariants.{Comment, Doctype, Document, Element, Fragment, ProcessingInstruction, Text}
use Rattle.dom_links.specs.Contents.{changed_at as changed}
use Rattle.dom_links.specs.Forest.{Forest, children_of, parent}
use Rattle.dom_links.specs.AddedTexts.{with_node_at, with_text_at as text_at}
use Rattle.dom_links.specs.Growth.{with_child, with_lone_template, with_node}
use Rattle.dom_links.specs.ListMoves.{element_at, reparented}
use Rattle.dom_links.specs.Lists.{is_member, map_from, without}
use Rattle.dom_links.specs.Moves.{children_with, moved_to, put as place_at}
use Rattle.dom_links.specs.Sound.{IsForest, IsOpenGap, contents_at, target}
use Rattle.dom_links.specs.declared.gap.InsertionPoint.{InsertionPoint}
use Rattle.dom_links.specs.declared.gap.InsertionPoint.TheVariants.{EndOf as TheEndOf}
use Rattle.dom_links.proofs.forest.Grown.{children-more, forest-more, new_parentless, parent-more, within}
use Rattle.dom_links.proofs.forest.Appends.{detach-alone, new_alone}
use Rattle.dom_links.proofs.forest.Templates.{lone_template_kept}
use Rattle.dom_links.proofs.forest.Neighbours.{without_one-none}
use Rattle.dom_links.proofs.forest.Places.{children_mapped, get_or-map_all, length-map_from}
use Rattle.dom_trees.specs.Edits.{Edits, Makes, appending, removing}
use Rattle.dom_trees.specs.TreeUnderConstruction.{adding_text, flagged_element, making_element, with_new_element}
use Rattle.dom_trees.specs.declared.tree.growing.ElementFlags.{ElementFlags}
use Rattle.standard_trees.specs.TreeStore.{ContentsNode, DocumentNode, DoctypeNode, CommentNode, ElementNode, EndOf, Kind, Node, Place, TextNode}
use Rattle.standard_trees.specs.TreeStore.{changed_at, contents_in, leaf, node_at, put_at, removed}
use Rattle.page_tokens.specs.declared.token.Tag.{Tag}
use Rattle.page_trees.specs.Elements.{IsCopy, IsRooted, limit_of}
use Rattle.page_trees.specs.Foreign.{attr_in, element_name_in, is_html_annotation}
use Rattle.page_trees.specs.Placing.{is_template_named}
use Rattle.page_trees.specs.declared.fault.PageFault.{PageFault}
use Rattle.page_trees.specs.declared.name.Name.{Name}
use Rattle.page_trees.specs.declared.stack.ElementNamespace.{ElementNamespace}
use Rattle.page_trees.specs.Insertions.{MakesNext, copied, flags_for, with_copy as copy_made, with_copy_around as copied_around, with_copy_at as with_copied_at}
use Rattle.page_trees.specs.Insertions.{with_copy_inside as copied_inside, with_element_at, with_tag_at}
use Rattle.page_trees.specs.SameNodes.{AreKinds, AreNodes, Changes, ChangesAt, IsKind, IsPointOf, copy_of, with_copy, with_copy_around, with_copy_at, with_copy_inside}
use Rattle.page_trees.specs.SameNodes.{with_kind, with_kind_at, with_text_at, wrapped_by}
use Rattle.page_trees.proofs.MadeNodes.{forest_copied, root_opens}
use Rattle.page_trees.proofs.StandingNodes.{children_is, contents_is, hosts_changed, kind_is, nodes_cut, nodes_moved, plain_made, point_made, same_length, template_made, text_stands}
use Rattle.page_trees.proofs.StoreLemmas.{kind_from, kinds, kinds_kept, lists, lists_changed, new_node, old_node, with_children}

-- ---- a new node is put at a place

pub put_stands : (nodes : List Node) (f g : Forest) (kind : Kind) (gap : InsertionPoint) (spot : Place) → IsForest g → AreNodes nodes f → AreNodes (with_kind kind nodes) g →
    length f.content < length g.content → target gap < length f.content → IsPointOf nodes gap spot → AreNodes (with_kind_at kind spot nodes) (moved_to (length f.content ∷ []) gap g)
put_stands nodes f g kind gap spot good are made more there at =
    let long = same_length nodes f are in
    subst (λ (k : ℕ). AreNodes (put_at k spot (with_kind kind nodes)) (moved_to (length f.content ∷ []) gap g)) (sym long)
    (nodes_moved (with_kind kind nodes) g (length f.content) gap spot good made (point_made nodes kind gap spot (omega (arith, there, long)) at) more (λ e. absurd (omega (arith, there, e))))

-- ---- elements

pub element_stands : (nodes : List Node) (f : Forest) (kind : Kind) (name : NameParts) (attrs : List Attr) (flags : ElementFlags) → AreNodes nodes f → IsKind kind (flagged_element name attrs flags f) →
    AreNodes (with_kind kind nodes) (with_new_element name attrs flags f)
element_stands nodes f kind name attrs flags are is = by flags.template refl
  where
    content : NodeData
    content = flagged_element name attrs flags f

    by : (b : Bool) → flags.template ≡ b → AreNodes (with_kind kind nodes) (with_new_element name attrs flags f)
    by true e =
        let holds : contents_named content ≡ Some (length f.content + 1) = ap (λ (t : Bool). if t then Some (length f.content + 1) else None) e in
        subst (λ (t : Bool). AreNodes (with_kind kind nodes) (if t then with_lone_template content f else with_node content f)) (sym e)
        (template_made nodes f kind content (length f.content + 1) are is holds)
    by false e =
        let plain : contents_named content ≡ None = ap (λ (t : Bool). if t then Some (length f.content + 1) else None) e in
        subst (λ (t : Bool). AreNodes (with_kind kind nodes) (if t then with_lone_template content f else with_node content f)) (sym e)
        (plain_made nodes f kind content are is plain)

pub element_more : (f : Forest) (name : NameParts) (attrs : List Attr) (flags : ElementFlags) → length f.content < length (with_new_element name attrs flags f).content
element_more f name attrs flags = by flags.template
  where
    content : NodeData
    content = flagged_element name attrs flags f

    by : (b : Bool) → length f.content < length (let g : Forest = if b then with_lone_template content f else with_node content f in g).content
    by true = (let one = length_push f.content content in let two = length_push (f.content ++ content ∷ []) Fragment in omega (arith, one, two))
    by false = (let one = length_push f.content content in omega (arith, one))

-- ---- copies

top_no_element : (content : NodeData) → is_top content ≡ true → is_element content ≡ true → ⊥
top_no_element Document e h = cc
top_no_element Fragment e h = cc
top_no_element (Doctype name public_id system_id) e h = cc
top_no_element (Text text) e h = cc
top_no_element (Comment text) e h = cc
top_no_element (Element element) e h = cc
top_no_element (ProcessingInstruction name text) e h = cc

copy_kind : (kind : Kind) (content : NodeData) → IsKind kind content → is_element content ≡ true → IsKind (copy_of kind) (copied content)
copy_kind DocumentNode content is h = absurd (top_no_element content is h)
copy_kind ContentsNode content is h = absurd (true≢false (sym h ∙ ap is_element is))
copy_kind (DoctypeNode d) content is h = absurd (true≢false (sym h ∙ ap is_element is))
copy_kind (TextNode text) content is h = absurd (true≢false (sym h ∙ ap is_element is))
copy_kind (CommentNode text) content is h = absurd (true≢false (sym h ∙ ap is_element is))
copy_kind (ElementNode space name attrs contents) content is h = (false, ap copied is.1)

copied_plain : (content : NodeData) → is_element content ≡ true → contents_named (copied content) ≡ None
copied_plain Document h = cc
copied_plain Fragment h = cc
copied_plain (Doctype name public_id system_id) h = cc
copied_plain (Text text) h = cc
copied_plain (Comment text) h = cc
copied_plain (Element element) h = refl
copied_plain (ProcessingInstruction name text) h = cc

element_there : (f : Forest) (n : ℕ) → element_at f n ≡ true → n < length f.content
element_there f n h = within is_element f.content n h

pub copy_stands : (nodes : List Node) (f : Forest) (n : ℕ) → AreNodes nodes f → element_at f n ≡ true → AreNodes (with_copy n nodes) (copy_made n f)
copy_stands nodes f n are h =
    let found = kind_is nodes f n are (element_there f n h) in
    let element : is_element found.0 ≡ true = ap (λ (o : Option NodeData). option_map_or is_element o false) (sym found.1) ∙ h in
    subst (AreNodes (with_copy n nodes)) (sym (ap (λ (o : Option NodeData). option_map_or (λ content. with_node (copied content) f) o f) found.1))
    (plain_made nodes f (copy_of (node_at nodes n).kind) (copied found.0) are (copy_kind (node_at nodes n).kind found.0 found.2 element) (copied_plain found.0 element))

pub copy_more : (f : Forest) (n : ℕ) → element_at f n ≡ true → length (copy_made n f).content ≡ length f.content + 1
copy_more f n h = by (slice_get f.content n) refl
  where
    by : (o : Option NodeData) → slice_get f.content n ≡ o → length (copy_made n f).content ≡ length f.content + 1
    by None e = absurd (true≢false (sym h ∙ ap (λ (o : Option NodeData). option_map_or is_element o false) e))
    by (Some content) e = ap (λ (o : Option NodeData). (let g : Forest = option_map_or (λ c. with_node (copied c) f) o f in length g.content)) e ∙ length_push f.content (copied content)

-- the copy is the last node, and has no contents
copy_plain : (nodes : List Node) (n : ℕ) → contents_in (node_at (with_copy n nodes) (length nodes)).kind ≡ None
copy_plain nodes n = ap (λ (node : Node). contents_in node.kind) (new_node nodes (leaf (copy_of (node_at nodes n).kind)))

pub around_stands : (nodes : List Node) (f : Forest) (n x : ℕ) → IsForest (copy_made n f) → AreNodes nodes f → element_at f n ≡ true → x < length f.content →
    AreNodes (with_copy_around n x nodes) (copied_around n x f)
around_stands nodes f n x good are h known =
    let long = same_length nodes f are in
    let more = copy_more f n h in
    nodes_moved (with_copy n nodes) (copy_made n f) x (TheEndOf (length f.content)) (EndOf (length nodes)) good (copy_stands nodes f n are h)
    (ap TheEndOf (sym long), copy_plain nodes n) (omega (arith, known, more)) (λ e. absurd (omega (arith, known, e)))

-- ---- the children of an element in a copy

same_without : (moved ns : List ℕ) → ((n : ℕ) → is_member n ns ≡ true → is_member n moved ≡ false) → without moved ns ≡ ns
same_without moved [] apart = refl
same_without moved (n ∷ ns) apart =
    ap (λ b. if b then without moved ns else n ∷ without moved ns) (apart n (ap (λ b. b || is_member n ns) (eq-eqb n n refl)))
    ∙ ap (λ rest. n ∷ rest) (same_without moved ns (λ m h. apart m (or_right (nat_eq n m) (is_member m ns) h)))

none_without : (moved ns : List ℕ) → ((n : ℕ) → is_member n ns ≡ true → is_member n moved ≡ true) → without moved ns ≡ []
none_without moved [] all = refl
none_without moved (n ∷ ns) all =
    ap (λ b. if b then without moved ns else n ∷ without moved ns) (all n (ap (λ b. b || is_member n ns) (eq-eqb n n refl)))
    ∙ none_without moved ns (λ m h. all m (or_right (nat_eq n m) (is_member m ns) h))

changed_there : (g : List ℕ → List ℕ) (ls : List (List ℕ)) (q : ℕ) → q < length ls → get_or (changed q g ls) q [] ≡ g (get_or ls q [])
changed_there g [] q h = absurd (omega (arith, h))
changed_there g (ns ∷ ls) zero h = refl
changed_there g (ns ∷ ls) (suc q) h = changed_there g ls q (omega (arith, h))

changed_apart : (g : List ℕ → List ℕ) (ls : List (List ℕ)) (p q : ℕ) → (p ≡ q → ⊥) → get_or (changed p g ls) q [] ≡ get_or ls q []
changed_apart g [] p q apart = refl
changed_apart g (ns ∷ ls) zero zero apart = absurd (apart refl)
changed_apart g (ns ∷ ls) zero (suc q) apart = refl
changed_apart g (ns ∷ ls) (suc p) zero apart = refl
changed_apart g (ns ∷ ls) (suc p) (suc q) apart = changed_apart g ls p q (λ e. apart (ap suc e))

length_changed : (g : List ℕ → List ℕ) (ls : List (List ℕ)) (p : ℕ) → length (changed p g ls) ≡ length ls
length_changed g [] p = refl
length_changed g (ns ∷ ls) zero = refl
length_changed g (ns ∷ ls) (suc p) = ap suc (length_changed g ls p)

-- the lists after both moves
record AreApart (ls : List (List ℕ)) (p y : ℕ) : Type 0 where
  pub here : p < length ls
  pub there : y < length ls
  pub other : p ≡ y → ⊥
  pub empty : get_or ls y [] ≡ []
  pub nowhere : (q : ℕ) → is_member y (get_or ls q []) ≡ false
  pub disjoint : (q n : ℕ) → (q ≡ p → ⊥) → is_member n (get_or ls q []) ≡ true → is_member n (get_or ls p []) ≡ false

abbrev first_move : List (List ℕ) → ℕ → ℕ → List (List ℕ)
first_move ls p y = map_from 0 (children_with (TheEndOf y) (get_or ls p [])) (map (without (get_or ls p [])) ls)

abbrev both_moves : List (List ℕ) → ℕ → ℕ → List (List ℕ)
both_moves ls p y = map_from 0 (children_with (TheEndOf p) (y ∷ [])) (map (without (y ∷ [])) (first_move ls p y))

first_at : (ls : List (List ℕ)) (p y q : ℕ) → q < length ls → get_or (first_move ls p y) q [] ≡ children_with (TheEndOf y) (get_or ls p []) q (without (get_or ls p []) (get_or ls q []))
first_at ls p y q h =
    let moved : List ℕ = get_or ls p [] in
    get_or-map_all (children_with (TheEndOf y) moved) (map (without moved) ls) q (subst (λ (k : ℕ). q < k) (sym (length-map ls (without moved))) h)
    ∙ ap (children_with (TheEndOf y) moved q) (children_mapped (without moved) ls q refl)

first_long : (ls : List (List ℕ)) (p y : ℕ) → length (first_move ls p y) ≡ length ls
first_long ls p y = length-map_from 0 (children_with (TheEndOf y) (get_or ls p [])) (map (without (get_or ls p [])) ls) ∙ length-map ls (without (get_or ls p []))

both_at : (ls : List (List ℕ)) (p y q : ℕ) → q < length ls → get_or (both_moves ls p y) q [] ≡ children_with (TheEndOf p) (y ∷ []) q (without (y ∷ []) (get_or (first_move ls p y) q []))
both_at ls p y q h =
    let long = first_long ls p y in
    let more = length-map (first_move ls p y) (without (y ∷ [])) in
    get_or-map_all (children_with (TheEndOf p) (y ∷ [])) (map (without (y ∷ [])) (first_move ls p y)) q (omega (arith, h, long, more))
    ∙ ap (children_with (TheEndOf p) (y ∷ []) q) (children_mapped (without (y ∷ [])) (first_move ls p y) q refl)

at_parent : (ls : List (List ℕ)) (p y : ℕ) → AreApart ls p y → get_or (both_moves ls p y) p [] ≡ y ∷ []
at_parent ls p y a =
    let moved : List ℕ = get_or ls p [] in
    let first : get_or (first_move ls p y) p [] ≡ [] =
    first_at ls p y p a.here ∙ ap (λ b. if b then without moved moved ++ moved else without moved moved) (ne_eqb p y a.other) ∙ none_without moved moved (λ n h. h) in
    both_at ls p y p a.here ∙ ap (λ (ns : List ℕ). children_with (TheEndOf p) (y ∷ []) p (without (y ∷ []) ns)) first ∙ ap (λ b. if b then y ∷ [] else []) (eq-eqb p p refl)

at_copy : (ls : List (List ℕ)) (p y : ℕ) → AreApart ls p y → get_or (both_moves ls p y) y [] ≡ get_or ls p []
at_copy ls p y a =
    let moved : List ℕ = get_or ls p [] in
    let first : get_or (first_move ls p y) y [] ≡ moved =
    first_at ls p y y a.there ∙ ap (λ b. if b then without moved (get_or ls y []) ++ moved else without moved (get_or ls y [])) (eq-eqb y y refl) ∙ ap (λ (ns : List ℕ). without moved ns ++ moved) a.empty in
    both_at ls p y y a.there ∙ ap (λ (ns : List ℕ). children_with (TheEndOf p) (y ∷ []) y (without (y ∷ []) ns)) first
    ∙ ap (λ b. if b then without (y ∷ []) moved ++ y ∷ [] else without (y ∷ []) moved) (ne_eqb y p (λ e. a.other (sym e))) ∙ without_one-none moved y (a.nowhere p)

at_others : (ls : List (List ℕ)) (p y q : ℕ) → AreApart ls p y → q < length ls → (q ≡ p → ⊥) → (q ≡ y → ⊥) → get_or (both_moves ls p y) q [] ≡ get_or ls q []
at_others ls p y q a h no_parent no_copy =
    let moved : List ℕ = get_or ls p [] in
    let ns : List ℕ = get_or ls q [] in
    let first : get_or (first_move ls p y) q [] ≡ ns =
    first_at ls p y q h ∙ ap (λ b. if b then without moved ns ++ moved else without moved ns) (ne_eqb q y no_copy) ∙ same_without moved ns (λ n at. a.disjoint q n no_parent at) in
    both_at ls p y q h ∙ ap (λ (ks : List ℕ). children_with (TheEndOf p) (y ∷ []) q (without (y ∷ []) ks)) first
    ∙ ap (λ b. if b then without (y ∷ []) ns ++ y ∷ [] else without (y ∷ []) ns) (ne_eqb q p no_parent) ∙ without_one-none ns y (a.nowhere q)

abbrev wrapped_lists : List (List ℕ) → ℕ → ℕ → List (List ℕ)
wrapped_lists ls p y = changed p (λ _. y ∷ []) (changed y (λ _. get_or ls p []) ls)

both_are : (ls : List (List ℕ)) (p y : ℕ) → AreApart ls p y → wrapped_lists ls p y ≡ both_moves ls p y
both_are ls p y a =
    let once : List (List ℕ) = changed y (λ _. get_or ls p []) ls in
    let long : length once ≡ length ls = length_changed (λ _. get_or ls p []) ls y in
    let all : length (wrapped_lists ls p y) ≡ length ls = length_changed (λ _. y ∷ []) once p ∙ long in
    let same : length (both_moves ls p y) ≡ length ls =
    length-map_from 0 (children_with (TheEndOf p) (y ∷ [])) (map (without (y ∷ [])) (first_move ls p y)) ∙ length-map (first_move ls p y) (without (y ∷ [])) ∙ first_long ls p y in
    ext_get_or [] (wrapped_lists ls p y) (both_moves ls p y) (all ∙ sym same) (λ q h. each q (omega (arith, h, all)))
  where
    each : (q : ℕ) → q < length ls → get_or (wrapped_lists ls p y) q [] ≡ get_or (both_moves ls p y) q []
    each q inside =
        let once : List (List ℕ) = changed y (λ _. get_or ls p []) ls in
        let long : length once ≡ length ls = length_changed (λ _. get_or ls p []) ls y in
        elim (cases_eq q p) [
          | inl e ↦ subst (λ (k : ℕ). get_or (wrapped_lists ls p y) k [] ≡ get_or (both_moves ls p y) k []) (sym e)
              (changed_there (λ _. y ∷ []) once p (let here = a.here in omega (arith, here, long)) ∙ sym (at_parent ls p y a))
          | inr no_parent ↦ (elim (cases_eq q y) [
            | inl e ↦ subst (λ (k : ℕ). get_or (wrapped_lists ls p y) k [] ≡ get_or (both_moves ls p y) k []) (sym e)
                (changed_apart (λ _. y ∷ []) once p y a.other ∙ changed_there (λ _. get_or ls p []) ls y a.there ∙ sym (at_copy ls p y a))
            | inr no_copy ↦ changed_apart (λ _. y ∷ []) once p q (λ e. no_parent (sym e)) ∙ changed_apart (λ _. get_or ls p []) ls y q (λ e. no_copy (sym e))
                ∙ sym (at_others ls p y q a inside no_parent no_copy)
          ])
        ]

apart_lists : (g : Forest) (p y : ℕ) → IsForest g → p < length g.content → y < length g.content → (p ≡ y → ⊥) → parent g y ≡ None → children_of g y ≡ [] → AreApart g.children p y
apart_lists g p y good here there other free empty = record {
  here = subst (λ (k : ℕ). p < k) (sym good.once.children_each) here;
  there = subst (λ (k : ℕ). y < k) (sym good.once.children_each) there;
  other = other;
  empty = empty;
  nowhere = λ q. elim (cases_Bool (is_member y (children_of g q))) [
    | inr out ↦ out
    | inl at ↦ (let up = (good.once.in_children q y at).1 in cc)
  ];
  disjoint = λ q n apart at. elim (cases_Bool (is_member n (children_of g p))) [
    | inr out ↦ out
    | inl both ↦ (let one = (good.once.in_children q n at).1 in let two = (good.once.in_children p n both).1 in let same : q ≡ p = cc in absurd (apart same))
  ];
}

pub wrapped_stands : (nodes : List Node) (g : Forest) (p y : ℕ) → IsForest g → AreNodes nodes g → p < length g.content → y < length g.content → (p ≡ y → ⊥) → parent g y ≡ None → children_of g y ≡ [] →
    contents_in (node_at nodes p).kind ≡ None → contents_in (node_at nodes y).kind ≡ None → AreNodes (wrapped_by p y nodes) (moved_to (y ∷ []) (TheEndOf p) (reparented p (Some y) g))
wrapped_stands nodes g p y good are here there other free empty plain bare =
    let children : List ℕ = (node_at nodes p).children in
    let taken : List Node = changed_at (with_children (λ _. children)) nodes y in
    let same : kinds (wrapped_by p y nodes) ≡ kinds nodes = kinds_kept (λ _. y ∷ []) taken p ∙ kinds_kept (λ _. children) nodes y in
    record {
      root = kind_from (wrapped_by p y nodes) nodes 0 same ∙ are.root;
      kinds = subst (λ (ks : List Kind). AreKinds ks g.content) (sym same) are.kinds;
      children = lists_changed (λ _. y ∷ []) taken p ∙ ap (changed p (λ _. y ∷ [])) (lists_changed (λ _. children) nodes y
          ∙ ap (λ (ns : List ℕ). changed y (λ _. ns) (lists nodes)) (children_is nodes g are p) ∙ ap (changed y (λ _. children_of g p)) are.children)
          ∙ both_are g.children p y (apart_lists g p y good here there other free empty);
      hosts = hosts_changed (λ _. y ∷ []) taken p (hosts_changed (λ _. children) nodes y are.hosts bare)
          (ap contents_in (kind_from taken nodes p (kinds_kept (λ _. children) nodes y)) ∙ plain);
    }

-- a new copy has no parent and no children
copy_free : (f : Forest) (n : ℕ) → IsForest f → element_at f n ≡ true → (parent (copy_made n f) (length f.content) ≡ None) × (children_of (copy_made n f) (length f.content) ≡ [])
copy_free f n good h = by (slice_get f.content n) refl
  where
    by : (o : Option NodeData) → slice_get f.content n ≡ o → (parent (copy_made n f) (length f.content) ≡ None) × (children_of (copy_made n f) (length f.content) ≡ [])
    by None e = absurd (true≢false (sym h ∙ ap (λ (o : Option NodeData). option_map_or is_element o false) e))
    by (Some content) e =
        let is : copy_made n f ≡ with_node (copied content) f = ap (λ (o : Option NodeData). option_map_or (λ c. with_node (copied c) f) o f) e in
        let long = good.once.children_each in (
          ap (λ (g : Forest). parent g (length f.content)) is ∙ parent-more (copied content) f (length f.content) ∙ new_parentless f (length f.content) good.once (omega arith),
          ap (λ (g : Forest). children_of g (length f.content)) is ∙ children-more (copied content) f (length f.content) ∙ get_or_past f.children (length f.content) [] (omega (arith, long)),
        )

pub inside_stands : (nodes : List Node) (f : Forest) (n p : ℕ) → IsForest f → IsForest (copy_made n f) → AreNodes nodes f → element_at f n ≡ true → p < length f.content → contents_at f p ≡ None →
    AreNodes (with_copy_inside n p nodes) (copied_inside n p f)
inside_stands nodes f n p good after are h known plain =
    let long = same_length nodes f are in
    let more = copy_more f n h in
    let free = copy_free f n good h in
    let kind : Kind = copy_of (node_at nodes n).kind in
    let inside : p < length nodes = omega (arith, known, long) in
    let here : contents_in (node_at (with_copy n nodes) p).kind ≡ None =
    ap (λ (node : Node). contents_in node.kind) (old_node nodes (leaf kind) p inside) ∙ contents_is nodes f are p ∙ plain in
    subst (λ (k : ℕ). AreNodes (wrapped_by p k (with_copy n nodes)) (copied_inside n p f)) (sym long)
    (wrapped_stands (with_copy n nodes) (copy_made n f) p (length f.content) after (copy_stands nodes f n are h) (omega (arith, known, more)) (omega (arith, more)) (λ e. absurd (omega (arith, known, e)))
    free.0 free.1 here (subst (λ (k : ℕ). contents_in (node_at (with_copy n nodes) k).kind ≡ None) long (copy_plain nodes n)))

-- ---- the calls

pub alone_good : (f : Forest) (content : NodeData) → IsForest f → contents_named content ≡ None → IsForest (with_node content f)
alone_good f content good plain = forest-more content f good (λ c named. (let none : None ≡ Some c = sym plain ∙ named in cc))

pub cut_changes : (r : Result (Unit {0}) EditFault) (v : Unit {0}) (f g : Forest) (x : ℕ) → r ≡ Ok v → Edits r f g (removing x) → Changes f g (removed x)
cut_changes r v f g x is edits nodes are =
    let done = subst (λ (k : Result (Unit {0}) EditFault). Edits k f g (removing x)) is edits in
    subst (AreNodes (removed x nodes)) (sym done.ok) (nodes_cut nodes f x are)

pub text_forest : (r : Result (Unit {0}) PageFault) (call : Result (Unit {0}) EditFault) (f g : Forest) (gap : InsertionPoint) (text : List ℕ) →
    MatchResult r (λ _. call ≡ Ok tt) (λ fault. call ≡ Err (limit_of fault)) → Edits call f g (adding_text gap text) → OnOk r (g ≡ text_at gap text f)
text_forest (Err fault) call f g gap text is edits = tt
text_forest (Ok done) call f g gap text is edits = (subst (λ (k : Result (Unit {0}) EditFault). Edits k f g (adding_text gap text)) is edits).ok

pub text_changes : (r : Result (Unit {0}) PageFault) (f g : Forest) (gap : InsertionPoint) (text : List ℕ) → IsForest f → IsOpenGap gap f → IsUtf8 text → OnOk r (g ≡ text_at gap text f) →
    OnOk r (ChangesAt gap f g (with_text_at (chars text)))
text_changes (Err fault) f g gap text good opens valid e = tt
text_changes (Ok done) f g gap text good opens valid e =
    λ nodes spot are at. subst (AreNodes (with_text_at (chars text) spot nodes)) (sym e) (text_stands nodes f gap spot text (chars text) good (alone_good f (Text text) good refl) are at opens (encodes-chars text valid))

-- what was made is put at a place
pub put_forest : (f g h k : Forest) (id : ℕ) (gap : InsertionPoint) → h ≡ moved_to (id ∷ []) gap g → id ≡ length f.content → g ≡ k → h ≡ moved_to (length f.content ∷ []) gap k
put_forest f g h k id gap e number made = e ∙ ap (λ (n : ℕ). moved_to (n ∷ []) gap g) number ∙ ap (moved_to (length f.content ∷ []) gap) made

pub node_changes : (f h : Forest) (gap : InsertionPoint) (kind : Kind) (content : NodeData) → IsForest f → contents_named content ≡ None → IsKind kind content → IsOpenGap gap f →
    h ≡ with_node_at gap content f → ChangesAt gap f h (with_kind_at kind)
node_changes f h gap kind content good plain is opens e nodes spot are at =
    let more = length_push f.content content in
    subst (AreNodes (with_kind_at kind spot nodes)) (sym e)
    (put_stands nodes f (with_node content f) kind gap spot (alone_good f content good plain) are (plain_made nodes f kind content are is plain) (omega (arith, more)) opens.0 at)

pub comment_changes : (f h : Forest) (gap : InsertionPoint) (text : List ℕ) → IsForest f → IsUtf8 text → IsOpenGap gap f → h ≡ with_node_at gap (Comment text) f →
    ChangesAt gap f h (with_kind_at (CommentNode (chars text)))
comment_changes f h gap text good valid opens e = node_changes f h gap (CommentNode (chars text)) (Comment text) good refl (ap Comment (sym (encodes-chars text valid))) opens e

-- a child of a node: made, and put at its end
pub child_forest : (f : Forest) (t : ℕ) (content : NodeData) → IsForest f → contents_named content ≡ None → with_child t content f ≡ with_node_at (TheEndOf t) content f
child_forest f t content good plain =
    ap (place_at (TheEndOf t) (length f.content ∷ [])) (sym (detach-alone (with_node content f) (length f.content) (alone_good f content good plain).once (new_alone content f good.once)))

pub child_next : (r : Result ℕ PageFault) (call : Result ℕ EditFault) (f g : Forest) (t : ℕ) (content : NodeData) → MatchResult r (λ n. call ≡ Ok n) (λ fault. call ≡ Err (limit_of fault)) →
    Makes call f g (appending t content) → IsForest f → contents_named content ≡ None → IfOk r (λ id. MakesNext id f g (with_node_at (TheEndOf t) content f))
child_next (Err fault) call f g t content is makes good plain = tt
child_next (Ok n) call f g t content is makes good plain =
    let done = subst (λ (k : Result ℕ EditFault). Makes k f g (appending t content)) is makes in
    record { number = done.number; forest = done.ok ∙ child_forest f t content good plain }

pub doctype_changes : (f h : Forest) (name public_id system_id : List ℕ) (kind : Kind) → IsForest f → IsRooted f → IsKind kind (Doctype name public_id system_id) →
    h ≡ with_node_at (TheEndOf 0) (Doctype name public_id system_id) f → Changes f h (with_kind_at kind (EndOf 0))
doctype_changes f h name public_id system_id kind good rooted is e nodes are =
    node_changes f h (TheEndOf 0) kind (Doctype name public_id system_id) good refl is (good.rooted, root_opens f rooted) e nodes (EndOf 0) are (refl, ap contents_in are.root)

pub element_forest : (r : Result ℕ PageFault) (call : Result ℕ EditFault) (f g : Forest) (name : NameParts) (attrs : List Attr) (flags : ElementFlags) →
    MatchResult r (λ n. call ≡ Ok n) (λ fault. call ≡ Err (limit_of fault)) → Makes call f g (making_element name attrs flags) → OnOk r (g ≡ with_new_element name attrs flags f)
element_forest (Err fault) call f g name attrs flags is makes = tt
element_forest (Ok n) call f g name attrs flags is makes = (subst (λ (k : Result ℕ EditFault). Makes k f g (making_element name attrs flags)) is makes).ok

-- without template contents
pub plain_element : (name : NameParts) (attrs : List Attr) (flags : ElementFlags) (f : Forest) → flags.template ≡ false →
    with_new_element name attrs flags f ≡ with_node (Element (record { name = name; attrs = attrs; template_contents = None; mathml_annotation_xml_integration_point = flags.mathml_annotation_xml_integration_point })) f
plain_element name attrs flags f e = ap (λ (b : Bool). (let g : Forest = if b then with_lone_template (content b) f else with_node (content b) f in g)) e
  where
    content : Bool → NodeData
    content b = Element (record {
      name = name;
      attrs = attrs;
      template_contents = if b then Some (length f.content + 1) else None;
      mathml_annotation_xml_integration_point = flags.mathml_annotation_xml_integration_point;
    })

pub element_good : (f : Forest) (name : NameParts) (attrs : List Attr) (flags : ElementFlags) → IsForest f → IsForest (with_new_element name attrs flags f)
element_good f name attrs flags good = by flags.template
  where
    content : Bool → NodeData
    content b = Element (record {
      name = name;
      attrs = attrs;
      template_contents = if b then Some (length f.content + 1) else None;
      mathml_annotation_xml_integration_point = flags.mathml_annotation_xml_integration_point;
    })

    by : (b : Bool) → IsForest (if b then with_lone_template (content b) f else with_node (content b) f)
    by true = lone_template_kept f (content true) good refl refl
    by false = alone_good f (content false) good refl

pub element_changes : (f h : Forest) (gap : InsertionPoint) (name : NameParts) (attrs : List Attr) (flags : ElementFlags) (kind : Kind) → IsForest f → IsOpenGap gap f → IsKind kind (flagged_element name attrs flags f) →
    h ≡ with_element_at gap name attrs flags f → ChangesAt gap f h (with_kind_at kind)
element_changes f h gap name attrs flags kind good opens is e nodes spot are at =
    subst (AreNodes (with_kind_at kind spot nodes)) (sym e)
    (put_stands nodes f (with_new_element name attrs flags f) kind gap spot (element_good f name attrs flags good) are (element_stands nodes f kind name attrs flags are is) (element_more f name attrs flags) opens.0 at)

-- the element of a tag
pub tag_next : (f g : Forest) (gap : InsertionPoint) (ns : ElementNamespace) (name : Name) (tag : Tag) (id : ℕ) (written : NameParts) (attrs : List Attr) (flags : ElementFlags) →
    MakesNext id f g (with_element_at gap written attrs flags f) → written ≡ element_name_in ns name (string_bytes tag.name) → attrs ≡ map (attr_in ns) tag.attrs.items →
    flags.template ≡ is_template_named ns name → flags.mathml_annotation_xml_integration_point ≡ is_html_annotation ns name tag.attrs.items → MakesNext id f g (with_tag_at gap ns name tag f)
tag_next f g gap ns name tag id written attrs flags made w a t m =
    let with_flags : Bool → Bool → Forest = λ one other. with_element_at gap written attrs (record { template = one; mathml_annotation_xml_integration_point = other }) f in
    record {
      number = made.number;
      forest = made.forest ∙ ap (λ one. with_flags one flags.mathml_annotation_xml_integration_point) t ∙ ap (with_flags (is_template_named ns name)) m
          ∙ ap (λ (parts : NameParts). with_element_at gap parts attrs (flags_for ns name tag) f) w ∙ ap (λ (given : List Attr). with_element_at gap (element_name_in ns name (string_bytes tag.name)) given (flags_for ns name tag) f) a;
    }

-- ---- the calls that copy

pub copy_next : (f g h : Forest) (n id : ℕ) (gap : InsertionPoint) → IsCopy f g id → g ≡ copy_made n f → h ≡ moved_to (id ∷ []) gap g → MakesNext id f h (with_copied_at gap n f)
copy_next f g h n id gap copy made e = record { number = copy.number; forest = put_forest f g h (copy_made n f) id gap e copy.number made }

pub copy_changes : (f g h : Forest) (n id : ℕ) (gap : InsertionPoint) → IsForest f → IsCopy f g id → g ≡ copy_made n f → element_at f n ≡ true → IsOpenGap gap f → h ≡ moved_to (id ∷ []) gap g →
    ChangesAt gap f h (with_copy_at n)
copy_changes f g h n id gap good copy made element opens e nodes spot are at =
    let after = subst IsForest made (forest_copied f g id good copy) in
    let more = copy_more f n element in
    subst (AreNodes (with_copy_at n spot nodes)) (sym (put_forest f g h (copy_made n f) id gap e copy.number made))
    (put_stands nodes f (copy_made n f) (copy_of (node_at nodes n).kind) gap spot after are (copy_stands nodes f n are element) (omega (arith, more)) opens.0 at)

around_forest : (f g h : Forest) (n id x : ℕ) → IsCopy f g id → g ≡ copy_made n f → h ≡ moved_to (x ∷ []) (TheEndOf id) g → h ≡ copied_around n x f
around_forest f g h n id x copy made e = e ∙ ap (λ (k : ℕ). moved_to (x ∷ []) (TheEndOf k) g) copy.number ∙ ap (moved_to (x ∷ []) (TheEndOf (length f.content))) made

pub around_next : (f g h : Forest) (n id x : ℕ) → IsCopy f g id → g ≡ copy_made n f → h ≡ moved_to (x ∷ []) (TheEndOf id) g → MakesNext id f h (copied_around n x f)
around_next f g h n id x copy made e = record { number = copy.number; forest = around_forest f g h n id x copy made e }

pub around_changes : (f g h : Forest) (n id x : ℕ) → IsForest f → IsCopy f g id → g ≡ copy_made n f → element_at f n ≡ true → element_at f x ≡ true → h ≡ moved_to (x ∷ []) (TheEndOf id) g →
    Changes f h (with_copy_around n x)
around_changes f g h n id x good copy made element moved e nodes are =
    subst (AreNodes (with_copy_around n x nodes)) (sym (around_forest f g h n id x copy made e))
    (around_stands nodes f n x (subst IsForest made (forest_copied f g id good copy)) are element (element_there f x moved))

inside_forest : (f g h k : Forest) (n id p : ℕ) → IsCopy f g id → g ≡ copy_made n f → h ≡ reparented p (Some id) g → k ≡ moved_to (id ∷ []) (TheEndOf p) h → k ≡ copied_inside n p f
inside_forest f g h k n id p copy made one two =
    two ∙ ap (moved_to (id ∷ []) (TheEndOf p)) (one ∙ ap (reparented p (Some id)) made)
    ∙ ap (λ (i : ℕ). moved_to (i ∷ []) (TheEndOf p) (reparented p (Some i) (copy_made n f))) copy.number

pub inside_next : (f g h k : Forest) (n id p : ℕ) → IsCopy f g id → g ≡ copy_made n f → h ≡ reparented p (Some id) g → k ≡ moved_to (id ∷ []) (TheEndOf p) h → MakesNext id f k (copied_inside n p f)
inside_next f g h k n id p copy made one two = record { number = copy.number; forest = inside_forest f g h k n id p copy made one two }

pub inside_changes : (f g h k : Forest) (n id p : ℕ) → IsForest f → IsCopy f g id → g ≡ copy_made n f → element_at f n ≡ true → element_at f p ≡ true → contents_at f p ≡ None →
    h ≡ reparented p (Some id) g → k ≡ moved_to (id ∷ []) (TheEndOf p) h → Changes f k (with_copy_inside n p)
inside_changes f g h k n id p good copy made element parent plain one two nodes are =
    subst (AreNodes (with_copy_inside n p nodes)) (sym (inside_forest f g h k n id p copy made one two))
    (inside_stands nodes f n p good (subst IsForest made (forest_copied f g id good copy)) are element (element_there f p parent) plain)

-- ---- the call that makes the doctype

pub doctype_forest : (r : Result ℕ PageFault) (call : Result ℕ EditFault) (f g : Forest) (t n : ℕ) (content : NodeData) → MatchResult r (λ m. call ≡ Ok m) (λ fault. call ≡ Err (limit_of fault)) →
    Makes call f g (appending t content) → IsForest f → contents_named content ≡ None → r ≡ Ok n → t ≡ 0 → g ≡ with_node_at (TheEndOf 0) content f
doctype_forest r call f g t n content is makes good plain was root =
    let next = subst (λ (k : Result ℕ PageFault). IfOk k (λ id. MakesNext id f g (with_node_at (TheEndOf t) content f))) was (child_next r call f g t content is makes good plain) in
    next.forest ∙ ap (λ (k : ℕ). with_node_at (TheEndOf k) content f) root
