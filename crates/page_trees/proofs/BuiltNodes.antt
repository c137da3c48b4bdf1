-- What is made in the tree, or cut out of it, is a step of the definition.
use Rattle.std.proofs.Common.{◌≡◌, ℕ, suc, zero, ◌+◌, ◌&&◌, ◌||◌, Bool, true, false, List, [], ◌∷◌, ◌++◌, map, reverse, refl, sym, ap, ◌∙◌, length, Option, Some, None, arith, subst, codes, cond, true≢false, if◌then◌else◌}
use Rattle.std.specs.Prelude.{encode_utf8_all, get_or, slice_index_or, string_bytes}
use Rattle.std.specs.Borrow.{Bor}
use Rattle.std.specs.Option.{option_map}
use Rattle.std.proofs.lemmas.List.{reverse-append}
use Rattle.std.specs.Str.{bytes_eq}
use Rattle.dom_nodes.specs.Kinds.{contents_named}
use Rattle.dom_nodes.specs.declared.name.Attr.{Attr}
use Rattle.dom_nodes.specs.declared.node_data.NodeData.{NodeData}
use Rattle.dom_nodes.specs.declared.node_data.NodeData.TheVariants.{Comment, Doctype, Element}
use Rattle.dom_links.specs.AddedTexts.{with_node_at}
use Rattle.dom_links.specs.Forest.{Forest}
use Rattle.dom_links.specs.Moves.{detach}
use Rattle.dom_links.specs.Sound.{IsForest, IsOpenGap}
use Rattle.dom_links.specs.declared.gap.InsertionPoint.{InsertionPoint}
use Rattle.dom_links.specs.declared.gap.InsertionPoint.TheVariants.{EndOf as TheEndOf}
use Rattle.page_tokens.specs.declared.token.Tag.{Tag}
use Rattle.standard_tokens.specs.Tokens.{Doctype as DoctypeToken}
use Rattle.standard_trees.specs.GrowingTree.{GrowingTree, created, created_at, fresh, inserted_at, is_among, is_template, pushed, put}
use Rattle.standard_trees.specs.GrowingTree.{with_comment}
use Rattle.standard_trees.specs.GrowingTree.{lower}
use Rattle.standard_trees.specs.NameLists.{html_points, svg_names}
use Rattle.standard_trees.specs.TreeStore.{CommentNode, ContentsNode, DoctypeNode, ElementNode, EndOf, Kind, Node, NodeAttr, Place, Space, contents_in, is_document, leaf, node_at, removed, local_in}
use Rattle.page_trees.specs.Elements.{IsRooted}
use Rattle.page_trees.specs.Foreign.{attr_in, element_name_in, is_html_annotation, local_name_in, namespace_in}
use Rattle.page_trees.specs.Insertions.{MakesNext, element_for_tag, flags_for, open_for_tag, with_tag_at}
use Rattle.page_trees.specs.NameNumbers.{IsNumbered, number_in}
use Rattle.page_trees.specs.Names.{html_rows, rare_rows}
use Rattle.page_trees.specs.Placing.{is_template_named}
use Rattle.page_trees.specs.SameNodes.{AreNodes, IsKind, IsPointOf, element_for, namespace_for, part_for, with_kind, with_kind_at}
use Rattle.page_trees.specs.Sets.{is_in_mathml, is_one_in, key_for, local_for, space_of}
use Rattle.page_trees.specs.Stands.{AllStand, Builds, IsOfKind, IsTagOf, StandsFor, cut, IsTagName}
use Rattle.page_trees.specs.TreeState.{TreeState, added_to, completed}
use Rattle.page_trees.specs.declared.name.Name.{Name}
use Rattle.page_trees.specs.declared.stack.ElementNamespace.{ElementNamespace}
use Rattle.page_trees.specs.declared.stack.Open.{Open}
use Rattle.page_trees.proofs.ActionsOnNodes.{created_kind}
use Rattle.page_trees.proofs.BuiltStacks.{built_on}
use Rattle.page_trees.proofs.KeptElements.{built_grown, keeps_cut, keeps_kind_at, none_added}
use Rattle.page_trees.proofs.LateNodes.{late_cut, late_element_at, late_forest, late_long, late_node_at, late_open}
use Rattle.page_trees.proofs.MadeNodes.{root_opens}
use Rattle.page_trees.proofs.NumberedNames.{one_more_numbered}
use Rattle.page_trees.proofs.StandingEdits.{element_changes, node_changes}
use Rattle.page_trees.proofs.StandingNames.{are_known, key_agrees, lower_adjusted}
use Rattle.page_trees.proofs.StandingNodes.{nodes_cut, same_length}
use Rattle.page_trees.proofs.StandingPlaces.{template_known}
use Rattle.page_trees.proofs.StoreLemmas.{kind_at, kinds, kinds_more, kinds_put}

-- ---- comments and doctypes

pub no_later : (s : TreeState) (t : GrowingTree) → Builds s t → added_to s.late (length s.forest.content) ≡ []
no_later s t b =
    let long = same_length t.nodes (completed s.late s.forest) b.nodes in
    let same = late_long s.late s.forest in
    none_added t.nodes s.late (length s.forest.content) b.late (omega (arith, long, same))

node_built : (s : TreeState) (t : GrowingTree) (h : Forest) (gap : InsertionPoint) (spot : Place) (kind : Kind) (content : NodeData) → Builds s t → IsForest s.forest → contents_named content ≡ None → is_document kind ≡ false →
    IsKind kind content → IsOpenGap gap s.forest → IsPointOf t.nodes gap spot → h ≡ with_node_at gap content s.forest → Builds (record s { forest = h }) (record t { nodes = with_kind_at kind spot t.nodes })
node_built s t h gap spot kind content b good plain inner is opens at e =
    built_grown s t h (with_kind_at kind spot t.nodes) b (keeps_kind_at kind spot t.nodes inner)
    (node_changes (completed s.late s.forest) (completed s.late h) gap kind content (late_forest s.late s.forest good) plain is (late_open s.late s.forest gap opens)
    (ap (completed s.late) e ∙ late_node_at s.late gap content s.forest (no_later s t b)) t.nodes spot b.nodes at)

pub comment_built : (s : TreeState) (t : GrowingTree) (h : Forest) (gap : InsertionPoint) (spot : Place) (text cs : List ℕ) → Builds s t → IsForest s.forest → IsOpenGap gap s.forest →
    IsPointOf t.nodes gap spot → text ≡ encode_utf8_all cs → h ≡ with_node_at gap (Comment text) s.forest → Builds (record s { forest = h }) (with_comment cs spot t)
comment_built s t h gap spot text cs b good opens at spelt e = node_built s t h gap spot (CommentNode cs) (Comment text) b good refl refl (ap Comment spelt) opens at e

-- the end of the Document
pub root_point : (s : TreeState) (t : GrowingTree) → Builds s t → IsPointOf t.nodes (TheEndOf 0) (EndOf 0)
root_point s t b = (refl, ap contents_in b.nodes.root)

pub root_open : (f : Forest) → IsForest f → IsRooted f → IsOpenGap (TheEndOf 0) f
root_open f good rooted = (good.rooted, root_opens f rooted)

pub top_comment_built : (s : TreeState) (t : GrowingTree) (h : Forest) (n : ℕ) (text cs : List ℕ) → Builds s t → IsForest s.forest → IsRooted s.forest → n ≡ 0 → text ≡ encode_utf8_all cs →
    h ≡ with_node_at (TheEndOf n) (Comment text) s.forest → Builds (record s { forest = h }) (with_comment cs (EndOf 0) t)
top_comment_built s t h n text cs b good rooted root spelt e =
    comment_built s t h (TheEndOf 0) (EndOf 0) text cs b good (root_open s.forest good rooted) (root_point s t b) spelt
    (e ∙ ap (λ (k : ℕ). with_node_at (TheEndOf k) (Comment text) s.forest) root)

pub doctype_built : (s : TreeState) (t : GrowingTree) (h : Forest) (name public_id system_id : List ℕ) (d : DoctypeToken) → Builds s t → IsForest s.forest → IsRooted s.forest →
    name ≡ part_for d.name → public_id ≡ part_for d.public_id → system_id ≡ part_for d.system_id → h ≡ with_node_at (TheEndOf 0) (Doctype name public_id system_id) s.forest →
    Builds (record s { forest = h }) (created_at (EndOf 0) (DoctypeNode d) t)
doctype_built s t h name public_id system_id d b good rooted n p i e =
    node_built s t h (TheEndOf 0) (EndOf 0) (DoctypeNode d) (Doctype name public_id system_id) b good refl refl
    (ap (λ (x : List ℕ). Doctype x public_id system_id) n ∙ ap (λ (x : List ℕ). Doctype (part_for d.name) x system_id) p ∙ ap (Doctype (part_for d.name) (part_for d.public_id)) i)
    (root_open s.forest good rooted) (root_point s t b) e

now_at : (parts : List (Bor (List ℕ))) (i : ℕ) (x : Bor (List ℕ)) → (slice_index_or parts i x).now ≡ slice_index_or (map (λ (part : Bor (List ℕ)). part.now) parts) i x.now
now_at [] zero x = refl
now_at [] (suc i) x = refl
now_at (part ∷ parts) zero x = refl
now_at (part ∷ parts) (suc i) x = now_at parts i x

-- one of the parts of a doctype
pub part_at : (parts : List (Bor (List ℕ))) (ts : List (List ℕ)) (i : ℕ) (x : Bor (List ℕ)) → map (λ (part : Bor (List ℕ)). part.now) parts ≡ ts →
    (slice_index_or parts i x).now ≡ slice_index_or ts i x.now
part_at parts ts i x are = now_at parts i x ∙ ap (λ (ns : List (List ℕ)). slice_index_or ns i x.now) are

-- an element is cut out
pub cut_built : (s : TreeState) (t : GrowingTree) (h : Forest) (o : Open) (r : Option Open) → Builds s t → Some o ≡ r → h ≡ detach (o.id ∷ []) s.forest →
    Builds (record s { forest = h }) (cut (option_map (λ (p : Open). p.id) r) t)
cut_built s t h o r b got e =
    subst (λ (q : Option Open). Builds (record s { forest = h }) (cut (option_map (λ (p : Open). p.id) q) t)) got
    (built_grown s t h (removed o.id t.nodes) b (keeps_cut o.id t.nodes)
    (subst (AreNodes (removed o.id t.nodes)) (sym (ap (completed s.late) e ∙ late_cut s.late (o.id ∷ []) s.forest)) (nodes_cut t.nodes (completed s.late s.forest) o.id b.nodes)))

pub none_cut : (s : TreeState) (t : GrowingTree) (r : Option Open) → Builds s t → None ≡ r → Builds s (cut (option_map (λ (p : Open). p.id) r) t)
none_cut s t r b got = subst (λ (q : Option Open). Builds s (cut (option_map (λ (p : Open). p.id) q) t)) got b

-- ---- elements

-- what is inserted, as one step
pub inserted_is : (spot : Place) (space : Space) (name : List ℕ) (attrs : List NodeAttr) (t : GrowingTree) →
    inserted_at spot space name attrs t ≡ record t { nodes = with_kind_at (created_kind space name attrs (length t.nodes)) spot t.nodes; stack = length t.nodes ∷ t.stack }
inserted_is spot space name attrs t = by (is_template space name)
  where
    by : (b : Bool) → pushed (fresh t) (put (fresh t) spot (elim b [
      | true ↦ created ContentsNode (created (ElementNode space name attrs (Some (suc (fresh t)))) t)
      | false ↦ created (ElementNode space name attrs None) t
    ])) ≡ record t { nodes = with_kind_at (ElementNode space name attrs (cond b (Some (suc (length t.nodes))) None)) spot t.nodes; stack = length t.nodes ∷ t.stack }
    by true = refl
    by false = refl

-- the node that was made
last_kind : (ks more : List Kind) (kind : Kind) (n : ℕ) → length ks ≡ n → get_or (ks ++ kind ∷ more) n ContentsNode ≡ kind
last_kind [] more kind zero e = refl
last_kind [] more kind (suc n) e = absurd (omega (arith, e))
last_kind (k ∷ ks) more kind zero e = absurd (omega (arith, e))
last_kind (k ∷ ks) more kind (suc n) e = last_kind ks more kind n (omega (arith, e))

length_kinds : (nodes : List Node) → length (kinds nodes) ≡ length nodes
length_kinds [] = refl
length_kinds (node ∷ nodes) = ap suc (length_kinds nodes)

kinds_with : (kind : Kind) (nodes : List Node) → get_or (kinds (with_kind kind nodes)) (length nodes) ContentsNode ≡ kind
kinds_with kind nodes = by (contents_in kind)
  where
    one : get_or (kinds (nodes ++ leaf kind ∷ [])) (length nodes) ContentsNode ≡ kind
    one = ap (λ (ks : List Kind). get_or ks (length nodes) ContentsNode) (kinds_more nodes kind) ∙ last_kind (kinds nodes) [] kind (length nodes) (length_kinds nodes)

    joined : (ks : List Kind) → (ks ++ kind ∷ []) ++ ContentsNode ∷ [] ≡ ks ++ kind ∷ ContentsNode ∷ []
    joined [] = refl
    joined (k ∷ ks) = ap (λ (rest : List Kind). k ∷ rest) (joined ks)

    by : (o : Option ℕ) → get_or (kinds (elim o [ None ↦ nodes ++ leaf kind ∷ [] | Some contents ↦ (nodes ++ leaf kind ∷ []) ++ leaf ContentsNode ∷ [] ])) (length nodes) ContentsNode ≡ kind
    by None = one
    by (Some c) =
        ap (λ (ks : List Kind). get_or ks (length nodes) ContentsNode)
        (kinds_more (nodes ++ leaf kind ∷ []) ContentsNode ∙ ap (λ (ks : List Kind). ks ++ ContentsNode ∷ []) (kinds_more nodes kind) ∙ joined (kinds nodes))
        ∙ last_kind (kinds nodes) (ContentsNode ∷ []) kind (length nodes) (length_kinds nodes)

pub made_kind : (kind : Kind) (spot : Place) (nodes : List Node) → (node_at (with_kind_at kind spot nodes) (length nodes)).kind ≡ kind
made_kind kind spot nodes =
    kind_at (with_kind_at kind spot nodes) (length nodes) ∙ ap (λ (ks : List Kind). get_or ks (length nodes) ContentsNode) (kinds_put (length nodes) spot (with_kind kind nodes))
    ∙ kinds_with kind nodes

-- a template is one in both
template_is : (ns : ElementNamespace) (local : List ℕ) → is_among (key_for ns local) (codes "template" ∷ []) ≡ is_template (space_of ns) (local_for ns local)
template_is ElementNamespace.Html local = by (bytes_eq local (codes "template"))
  where
    by : (b : Bool) → (b || false) ≡ b
    by true = refl
    by false = refl
template_is ElementNamespace.Svg local = refl
template_is ElementNamespace.MathMl local = refl

same_template : (ns : ElementNamespace) (name : Name) (tag : Tag) (written : List ℕ) (attrs : List NodeAttr) → IsTagOf ns name tag written attrs → is_template_named ns name ≡ is_template (space_of ns) (local_for ns written)
same_template ns name tag written attrs is =
    ap (is_template_named ns) is.known ∙ key_agrees (codes "template" ∷ []) template_known ns written is.tag_name ∙ template_is ns written

spaces : (ns : ElementNamespace) → namespace_in ns ≡ namespace_for (space_of ns)
spaces ElementNamespace.Html = refl
spaces ElementNamespace.Svg = refl
spaces ElementNamespace.MathMl = refl

tag_kind : (ns : ElementNamespace) (name : Name) (tag : Tag) (written : List ℕ) (attrs : List NodeAttr) (f : Forest) (n : ℕ) → IsTagOf ns name tag written attrs → n ≡ length f.content →
    IsKind (created_kind (space_of ns) (local_for ns written) attrs n) (element_for_tag ns name tag f)
tag_kind ns name tag written attrs f n is long =
    let flag : Bool = is_html_annotation ns name tag.attrs.items in
    let local : List ℕ = local_name_in ns name (string_bytes tag.name) in
    let given : List Attr = map (attr_in ns) tag.attrs.items in
    let contents : Bool → Option ℕ = λ b. if b then Some (length f.content + 1) else None in (
      flag,
      ap (λ space. Element (record { name = record { prefix = None; ns = space; local = local }; attrs = given; template_contents = contents (is_template_named ns name); mathml_annotation_xml_integration_point = flag })) (spaces ns)
          ∙ ap (λ (word : List ℕ). Element (record { name = record { prefix = None; ns = namespace_for (space_of ns); local = word }; attrs = given; template_contents = contents (is_template_named ns name); mathml_annotation_xml_integration_point = flag })) is.local
          ∙ ap (λ (own : List Attr). Element (record {
            name = record { prefix = None; ns = namespace_for (space_of ns); local = encode_utf8_all (local_for ns written) };
            attrs = own;
            template_contents = contents (is_template_named ns name);
            mathml_annotation_xml_integration_point = flag;
          })) is.same_attrs
          ∙ ap (λ (o : Option ℕ). element_for flag (space_of ns) (local_for ns written) attrs o) (ap contents (same_template ns name tag written attrs is) ∙ by (is_template (space_of ns) (local_for ns written))),
    )
  where
    by : (b : Bool) → (if b then Some (length f.content + 1) else None) ≡ cond b (Some (suc n)) None
    by true = ap (λ (k : ℕ). Some k) (omega (arith, long))
    by false = refl

html_points_known : are_known html_points ≡ true
unfolding html_rows rare_rows
html_points_known = refl

tag_stands : (ns : ElementNamespace) (name : Name) (tag : Tag) (written : List ℕ) (attrs : List NodeAttr) (id n number : ℕ) → IsTagOf ns name tag written attrs →
    IsOfKind (record (open_for_tag ns name tag id) { number = number }) (created_kind (space_of ns) (local_for ns written) attrs n)
tag_stands ns name tag written attrs id n number is = record {
  written = written;
  attrs = attrs;
  contents = cond (is_template (space_of ns) (local_for ns written)) (Some (suc n)) None;
  tag = is.tag_name;
  name = is.known;
  kind = refl;
  point = ap (λ b. b || (is_in_mathml ns && is_html_annotation ns name tag.attrs.items))
      (ap (is_one_in html_points ns) is.known ∙ key_agrees html_points html_points_known ns written is.tag_name)
      ∙ ap (λ b. is_among (key_for ns written) html_points || b) is.point;
  plain = λ e. by (is_template (space_of ns) (local_for ns written)) (sym (same_template ns name tag written attrs is) ∙ e);
}
  where
    by : (b : Bool) → b ≡ false → cond b (Some (suc n)) None ≡ None
    by true e = absurd (true≢false e)
    by false e = refl

-- an element is pushed onto the stack
pub built_pushed : (s : TreeState) (t : GrowingTree) (o : Open) (stack : List Open) → Builds s t → StandsFor t.nodes o → IsNumbered s.numbers o (node_at t.nodes o.id).kind →
    stack ≡ s.stack ++ o ∷ [] → (n : ℕ) → o.id ≡ n → Builds (record s { stack = stack }) (record t { stack = n ∷ t.stack })
built_pushed s t o stack b stands numbered e n id =
    let turned : reverse stack ≡ o ∷ reverse s.stack = ap (λ (os : List Open). reverse os) e ∙ reverse-append s.stack (o ∷ []) in
    built_on s t stack (n ∷ t.stack) b (record {
      ids = ap (λ (k : ℕ). k ∷ t.stack) (sym id) ∙ ap (λ (ns : List ℕ). o.id ∷ ns) b.stack.ids ∙ ap (λ (os : List Open). map (λ p. p.id) os) (sym turned);
      nodes = subst (AllStand t.nodes) (sym turned) (stands, b.stack.nodes);
    }) (one_more_numbered s.numbers t.nodes s.stack stack o e numbered b.numbered)

-- the name of its tag, in lower case
written_in : (ns : ElementNamespace) (written : List ℕ) → IsTagName written → lower (local_for ns written) ≡ written
written_in ElementNamespace.Html written tag = tag.lower_case
written_in ElementNamespace.Svg written tag = lower_adjusted svg_names written tag.lower_case
written_in ElementNamespace.MathMl written tag = tag.lower_case

pub element_built : (s : TreeState) (t : GrowingTree) (h : Forest) (gap : InsertionPoint) (spot : Place) (ns : ElementNamespace) (name : Name) (tag : Tag) (written : List ℕ) (attrs : List NodeAttr)
    (made o : Open) (number : ℕ) (stack : List Open) → Builds s t → IsForest s.forest → IsOpenGap gap s.forest → IsPointOf t.nodes gap spot → IsTagOf ns name tag written attrs →
    (name ≡ Name.Other → number_in s.numbers (string_bytes tag.name) ≡ Some number) →
    MakesNext made.id s.forest h (with_tag_at gap ns name tag s.forest) → made ≡ open_for_tag ns name tag made.id → o ≡ record made { number = number } → stack ≡ s.stack ++ o ∷ [] →
    Builds (record s { forest = h; stack = stack }) (inserted_at spot (space_of ns) (local_for ns written) attrs t)
element_built s t h gap spot ns name tag written attrs made o number stack b good opens at is known next shape numbered pushed_is =
    let f : Forest = completed s.late s.forest in
    let kind : Kind = created_kind (space_of ns) (local_for ns written) attrs (length t.nodes) in
    let nodes : List Node = with_kind_at kind spot t.nodes in
    let long = same_length t.nodes f b.nodes in
    let same = late_long s.late s.forest in
    let grown : Builds (record s { forest = h }) (record t { nodes = nodes }) =
    built_grown s t h nodes b (keeps_kind_at kind spot t.nodes refl)
    (element_changes f (completed s.late h) gap (element_name_in ns name (string_bytes tag.name)) (map (attr_in ns) tag.attrs.items) (flags_for ns name tag) kind
    (late_forest s.late s.forest good) (late_open s.late s.forest gap opens) (tag_kind ns name tag written attrs f (length t.nodes) is long)
    (ap (completed s.late) next.forest ∙ late_element_at s.late gap (element_name_in ns name (string_bytes tag.name)) (map (attr_in ns) tag.attrs.items) (flags_for ns name tag) s.forest (no_later s t b))
    t.nodes spot b.nodes at) in
    let id : made.id ≡ length t.nodes = next.number ∙ sym (long ∙ same) in
    let it : o ≡ record (open_for_tag ns name tag (length t.nodes)) { number = number } =
    numbered ∙ ap (λ (p : Open). record p { number = number }) (shape ∙ ap (open_for_tag ns name tag) id) in
    let stands : StandsFor nodes (record (open_for_tag ns name tag (length t.nodes)) { number = number }) =
    subst (IsOfKind (record (open_for_tag ns name tag (length t.nodes)) { number = number })) (sym (made_kind kind spot t.nodes)) (tag_stands ns name tag written attrs (length t.nodes) (length t.nodes) number is) in
    let spelt : name ≡ Name.Other → encode_utf8_all (lower (local_in (node_at nodes (length t.nodes)).kind)) ≡ string_bytes tag.name = λ other.
    ap (λ (k : Kind). encode_utf8_all (lower (local_in k))) (made_kind kind spot t.nodes) ∙ ap encode_utf8_all (written_in ns written is.tag_name) ∙ sym (is.spelt other) in
    let has : IsNumbered s.numbers (record (open_for_tag ns name tag (length t.nodes)) { number = number }) (node_at nodes (length t.nodes)).kind =
    λ other. ap (number_in s.numbers) (spelt other) ∙ known other in
    subst (Builds (record s { forest = h; stack = stack })) (sym (inserted_is spot (space_of ns) (local_for ns written) attrs t))
    (built_pushed (record s { forest = h }) (record t { nodes = nodes }) o stack grown
    (subst (λ (p : Open). StandsFor nodes p) (sym it) stands) (subst (λ (p : Open). IsNumbered s.numbers p (node_at nodes p.id).kind) (sym it) has) pushed_is (length t.nodes) (ap (λ (p : Open). p.id) it))
