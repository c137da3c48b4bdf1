-- What the adoption agency algorithm does to the nodes: an element is moved, and a copy of the formatting element takes the children of another.
use Rattle.std.proofs.Common.{◌≡◌, ℕ, ◌+◌, ◌&&◌, Bool, true, false, List, [], ◌∷◌, ◌++◌, map, reverse, refl, sym, ap, ◌∙◌, length, Option, Some, None, subst, arith, take, drop, inl}
use Rattle.std.specs.Prelude.{All, slice_get}
use Rattle.std.specs.Option.{option_map_or}
use Rattle.std.proofs.lemmas.List.{reverse-append, take-append-drop}
use Rattle.std.proofs.lemmas.Option.{get_or_from_slice_get, none-some, slice_get_within}
use Rattle.dom_nodes.specs.Kinds.{is_element}
use Rattle.dom_nodes.specs.declared.node_data.NodeData.{NodeData}
use Rattle.dom_links.specs.Forest.{Forest, children_of}
use Rattle.dom_links.specs.ListMoves.{reparented}
use Rattle.dom_links.specs.Moves.{moved_to}
use Rattle.dom_links.specs.Sound.{AtOrBelow, IsForest, contents_at, target}
use Rattle.dom_links.specs.declared.gap.InsertionPoint.{InsertionPoint}
use Rattle.dom_links.specs.declared.gap.InsertionPoint.TheVariants.{EndOf as TheEndOf}
use Rattle.standard_trees.specs.GrowingTree.{GrowingTree, foster_place, in_contents, kind_of, place, place_in, put, top, with_stack}
use Rattle.standard_trees.specs.GrowingTree.{is_named as is_of_kind}
use Rattle.standard_trees.specs.GrowingTree.{is_one as is_one_of}
use Rattle.standard_trees.specs.NameLists.{fostering_names}
use Rattle.standard_trees.specs.TreeStore.{EndOf, Node, Place, node_at, put_at}
use Rattle.page_trees.specs.Adopting.{ArePassed, PutsBelow, ids_of}
use Rattle.page_trees.specs.Elements.{AreOpen, IsElement, IsInOrder, LiesIn}
use Rattle.page_trees.specs.Insertions.{MakesNext, copied}
use Rattle.page_trees.specs.Insertions.{with_copy as copy_made, with_copy_around as copied_around, with_copy_inside as copied_inside}
use Rattle.page_trees.specs.Placing.{place_of, point_of}
use Rattle.page_trees.specs.Reopening.{copy_open}
use Rattle.page_trees.specs.SameNodes.{AreNodes, IsPointOf, copy_of, with_copy, with_copy_around, with_copy_inside, with_kind_at, wrapped_by}
use Rattle.page_trees.specs.Stands.{AllStand, Builds, EntryStands, IsOfKind, IsStackOf, StandsFor}
use Rattle.page_trees.specs.TreeState.{Late, TreeState, added_to, completed}
use Rattle.page_trees.specs.declared.formatting.Entry.{Entry}
use Rattle.page_trees.specs.declared.stack.Open.{Open}
use Rattle.page_trees.proofs.AgencyPlaces.{agency_place}
use Rattle.page_trees.proofs.BuiltNodes.{made_kind, no_later}
use Rattle.page_trees.proofs.BuiltPlaces.{spot_point}
use Rattle.page_trees.proofs.BuiltStacks.{built_on}
use Rattle.page_trees.proofs.NumberedNames.{front_numbered}
use Rattle.page_trees.proofs.CopiedElements.{copy_is, copy_stands_for, late_found, no_contents, none_later, there}
use Rattle.page_trees.proofs.KeptElements.{Keeps, built_grown, keeps_both, keeps_kind, keeps_put, keeps_same}
use Rattle.page_trees.proofs.LateNodes.{late_contents, late_elements, late_forest, late_long, late_moved, late_node}
use Rattle.page_trees.proofs.MadeNodes.{element_known}
use Rattle.page_trees.proofs.StackOrder.{none_before, open_at}
use Rattle.page_trees.proofs.StandingEdits.{alone_good, around_stands, inside_stands}
use Rattle.page_trees.proofs.StandingNodes.{nodes_moved, same_length}
use Rattle.page_trees.proofs.StoreLemmas.{kind_from, kinds, kinds_kept, kinds_put}

-- ---- the forest with the attributes of later tags

late_reparented : (late : List Late) (p q : ℕ) (g : Forest) → completed late (reparented p (Some q) g) ≡ reparented p (Some q) (completed late g)
unfolding completed
late_reparented late p q g = late_moved late (children_of g p) (TheEndOf q) g

late_inside : (late : List Late) (n p : ℕ) (f : Forest) (c : NodeData) → slice_get f.content n ≡ Some c → added_to late n ≡ [] → added_to late (length f.content) ≡ [] →
    completed late (copied_inside n p f) ≡ copied_inside n p (completed late f)
late_inside late n p f c got none next =
    late_moved late (length f.content ∷ []) (TheEndOf p) (reparented p (Some (length f.content)) (copy_made n f))
    ∙ ap (moved_to (length f.content ∷ []) (TheEndOf p)) (late_reparented late p (length f.content) (copy_made n f)
    ∙ ap (reparented p (Some (length f.content))) (ap (completed late) (copy_is f n c got) ∙ late_node late (copied c) f next ∙ sym (copy_is (completed late f) n c (late_found late f n c got none))))
    ∙ ap (λ (m : ℕ). moved_to (m ∷ []) (TheEndOf p) (reparented p (Some m) (copy_made n (completed late f)))) (sym (late_long late f))

-- ---- a copy that takes the children of an element

kinds_wrapped : (x y : ℕ) (nodes : List Node) → kinds (wrapped_by x y nodes) ≡ kinds nodes
kinds_wrapped x y nodes =
    let children : List ℕ = (node_at nodes x).children in
    kinds_kept (λ _. y ∷ []) _ x ∙ kinds_kept (λ _. children) nodes y

pub record IsCopied (s : TreeState) (t : GrowingTree) (nodes : List Node) (copy : Open) : Type 0 where
  pub built : Builds s (record t { nodes = nodes })
  pub id : copy.id ≡ length t.nodes
  pub stands : EntryStands nodes (Entry.Element copy)
  pub keeps : Keeps t.nodes nodes

pub inside_built : (s : TreeState) (t : GrowingTree) (h : Forest) (o copy : Open) (p : ℕ) → Builds s t → IsForest s.forest → IsElement s.forest o.id → IsElement s.forest p → contents_at s.forest p ≡ None →
    EntryStands t.nodes (Entry.Element o) → MakesNext copy.id s.forest h (copied_inside o.id p s.forest) → copy ≡ copy_open o copy.id →
    IsCopied (record s { forest = h }) t (with_copy_inside o.id p t.nodes) copy
inside_built s t h o copy p b good element parent plain entry next shape =
    let f : Forest = completed s.late s.forest in
    let nodes : List Node = with_copy_inside o.id p t.nodes in
    let one = there s.forest.content o.id element in
    let none : added_to s.late o.id ≡ [] = none_later t.nodes s.late o b.late entry.0 entry.1 in
    let got = late_found s.late s.forest o.id one.0 one.1 none in
    let is_there : IsElement f o.id = late_elements s.late s.forest o.id ∙ element in
    let after : IsForest (copy_made o.id f) =
    subst IsForest (sym (copy_is f o.id one.0 got)) (alone_good f (copied one.0) (late_forest s.late s.forest good) (no_contents one.0 (element_is f o.id one.0 got is_there))) in
    let known = element_known f p (late_elements s.late s.forest p ∙ parent) in
    let are : AreNodes nodes (completed s.late h) =
    subst (AreNodes nodes) (sym (ap (completed s.late) next.forest ∙ late_inside s.late o.id p s.forest one.0 one.1 none (no_later s t b)))
    (inside_stands t.nodes f o.id p (late_forest s.late s.forest good) after b.nodes is_there known (late_contents s.late s.forest p ∙ plain)) in
    let same : kinds nodes ≡ kinds (with_copy o.id t.nodes) = kinds_wrapped p (length t.nodes) (with_copy o.id t.nodes) in
    let kept : Keeps t.nodes nodes = keeps_both t.nodes (with_copy o.id t.nodes) nodes (keeps_kind (copy_of (kind_of t o.id)) t.nodes refl) (keeps_same (with_copy o.id t.nodes) nodes same) in
    let id : copy.id ≡ length t.nodes = next.number ∙ sym (same_length t.nodes f b.nodes ∙ late_long s.late s.forest) in
    let it : copy ≡ copy_open o (length t.nodes) = shape ∙ ap (copy_open o) id in
    let made : (node_at nodes (length t.nodes)).kind ≡ copy_of (kind_of t o.id) =
    kind_from nodes (with_kind_at (copy_of (kind_of t o.id)) (EndOf 0) t.nodes) (length t.nodes) (same ∙ sym (kinds_put (length t.nodes) (EndOf 0) (with_copy o.id t.nodes)))
    ∙ made_kind (copy_of (kind_of t o.id)) (EndOf 0) t.nodes in
    let stands : StandsFor nodes (copy_open o (length t.nodes)) =
    subst (IsOfKind (copy_open o (length t.nodes))) (sym made) (copy_stands_for o (kind_of t o.id) (length t.nodes) entry.0 entry.1) in
    record {
      built = built_grown s t h nodes b kept are;
      id = id;
      stands = subst (λ (q : Open). EntryStands nodes (Entry.Element q)) (sym it) (stands, entry.1);
      keeps = kept;
    }
  where
    element_is : (g : Forest) (n : ℕ) (c : NodeData) → slice_get g.content n ≡ Some c → IsElement g n → is_element c ≡ true
    element_is g n c got is = ap (λ (o : Option NodeData). option_map_or is_element o false) (sym got) ∙ is

-- ---- a copy that takes an element

late_around : (late : List Late) (n x : ℕ) (f : Forest) (c : NodeData) → slice_get f.content n ≡ Some c → added_to late n ≡ [] → added_to late (length f.content) ≡ [] →
    completed late (copied_around n x f) ≡ copied_around n x (completed late f)
late_around late n x f c got none next =
    late_moved late (x ∷ []) (TheEndOf (length f.content)) (copy_made n f)
    ∙ ap (moved_to (x ∷ []) (TheEndOf (length f.content)))
    (ap (completed late) (copy_is f n c got) ∙ late_node late (copied c) f next ∙ sym (copy_is (completed late f) n c (late_found late f n c got none)))
    ∙ ap (λ (m : ℕ). moved_to (x ∷ []) (TheEndOf m) (copy_made n (completed late f))) (sym (late_long late f))

pub around_built : (s : TreeState) (t : GrowingTree) (h : Forest) (o copy : Open) (x : ℕ) → Builds s t → IsForest s.forest → IsElement s.forest o.id → IsElement s.forest x →
    EntryStands t.nodes (Entry.Element o) → MakesNext copy.id s.forest h (copied_around o.id x s.forest) → copy ≡ copy_open o copy.id →
    IsCopied (record s { forest = h }) t (with_copy_around o.id x t.nodes) copy
around_built s t h o copy x b good element moved entry next shape =
    let f : Forest = completed s.late s.forest in
    let nodes : List Node = with_copy_around o.id x t.nodes in
    let one = there s.forest.content o.id element in
    let none : added_to s.late o.id ≡ [] = none_later t.nodes s.late o b.late entry.0 entry.1 in
    let got = late_found s.late s.forest o.id one.0 one.1 none in
    let is_there : IsElement f o.id = late_elements s.late s.forest o.id ∙ element in
    let after : IsForest (copy_made o.id f) =
    subst IsForest (sym (copy_is f o.id one.0 got)) (alone_good f (copied one.0) (late_forest s.late s.forest good) (no_contents one.0 (element_is f o.id one.0 got is_there))) in
    let known = element_known f x (late_elements s.late s.forest x ∙ moved) in
    let are : AreNodes nodes (completed s.late h) =
    subst (AreNodes nodes) (sym (ap (completed s.late) next.forest ∙ late_around s.late o.id x s.forest one.0 one.1 none (no_later s t b)))
    (around_stands t.nodes f o.id x after b.nodes is_there known) in
    let same : kinds nodes ≡ kinds (with_copy o.id t.nodes) = kinds_put x (EndOf (length t.nodes)) (with_copy o.id t.nodes) in
    let kept : Keeps t.nodes nodes = keeps_both t.nodes (with_copy o.id t.nodes) nodes (keeps_kind (copy_of (kind_of t o.id)) t.nodes refl) (keeps_same (with_copy o.id t.nodes) nodes same) in
    let id : copy.id ≡ length t.nodes = next.number ∙ sym (same_length t.nodes f b.nodes ∙ late_long s.late s.forest) in
    let it : copy ≡ copy_open o (length t.nodes) = shape ∙ ap (copy_open o) id in
    let made : (node_at nodes (length t.nodes)).kind ≡ copy_of (kind_of t o.id) =
    kind_from nodes (with_kind_at (copy_of (kind_of t o.id)) (EndOf 0) t.nodes) (length t.nodes) (same ∙ sym (kinds_put (length t.nodes) (EndOf 0) (with_copy o.id t.nodes)))
    ∙ made_kind (copy_of (kind_of t o.id)) (EndOf 0) t.nodes in
    let stands : StandsFor nodes (copy_open o (length t.nodes)) =
    subst (IsOfKind (copy_open o (length t.nodes))) (sym made) (copy_stands_for o (kind_of t o.id) (length t.nodes) entry.0 entry.1) in
    record {
      built = built_grown s t h nodes b kept are;
      id = id;
      stands = subst (λ (q : Open). EntryStands nodes (Entry.Element q)) (sym it) (stands, entry.1);
      keeps = kept;
    }
  where
    element_is : (g : Forest) (n : ℕ) (c : NodeData) → slice_get g.content n ≡ Some c → IsElement g n → is_element c ≡ true
    element_is g n c got is = ap (λ (o : Option NodeData). option_map_or is_element o false) (sym got) ∙ is

-- ---- the last node is moved below the common ancestor

no_foster : (b c : Bool) → c ≡ false → (x y : Place) → (let spot : Place = elim (b && c) [ true ↦ x | false ↦ y ] in spot) ≡ y
no_foster true c e x y = ap (λ z. (let spot : Place = elim z [ true ↦ x | false ↦ y ] in spot)) e
no_foster false c e x y = refl

-- the place below the elements that were opened before
pub place_below : (t : GrowingTree) (above below : List ℕ) → t.stack ≡ above ++ below → ArePassed t above → is_one_of t fostering_names 0 ≡ false → place (with_stack t below) ≡ place_in t (top below)
place_below t above [] is passed plain =
    ap (in_contents t) (no_foster t.fostering (is_one_of t fostering_names 0) plain (foster_place (with_stack t []) []) (EndOf 0) ∙ sym (no_foster t.fostering (is_one_of t fostering_names 0) plain (foster_place t t.stack) (EndOf 0)))
place_below t above (n ∷ below) is passed plain = agency_place t above n below is passed

pub ids_joined : (xs ys : List Open) → ids_of (xs ++ ys) ≡ ids_of ys ++ ids_of xs
ids_joined xs ys = ap (λ (os : List Open). map (λ o. o.id) os) (reverse-append xs ys) ∙ joined (reverse ys) (reverse xs)
  where
    joined : (os ps : List Open) → map (λ o. o.id) (os ++ ps) ≡ map (λ o. o.id) os ++ map (λ o. o.id) ps
    joined [] ps = refl
    joined (o ∷ os) ps = ap (λ (ns : List ℕ). o.id ∷ ns) (joined os ps)

stand_below : (nodes : List Node) (xs ys : List Open) → AllStand nodes (reverse (xs ++ ys)) → AllStand nodes (reverse xs)
stand_below nodes xs ys all = later (reverse ys) (reverse xs) (subst (AllStand nodes) (reverse-append xs ys) all)
  where
    later : (os ps : List Open) → AllStand nodes (os ++ ps) → AllStand nodes ps
    later [] ps all = all
    later (o ∷ os) ps all = later os ps all.1

pub moved_built : (s : TreeState) (t : GrowingTree) (h : Forest) (foster : Bool) (gap : InsertionPoint) (n : ℕ) (last : Open) → Builds s t → IsForest s.forest → IsElement s.forest last.id →
    t.fostering ≡ foster → ArePassed t (ids_of (drop n s.stack)) → All (λ o. AtOrBelow s.forest last.id o.id → ⊥) (take n s.stack) → LiesIn s.forest (take n s.stack) (target gap) →
    gap ≡ point_of s.forest (place_of s.forest foster (reverse (take n s.stack))) → h ≡ moved_to (last.id ∷ []) gap s.forest →
    Builds (record s { forest = h }) (put last.id (place_in t (top (ids_of (take n s.stack)))) t)
moved_built s t h foster gap n last b good element fosters passed none lies at e =
    let f : Forest = completed s.late s.forest in
    let low : List Open = take n s.stack in
    let split : low ++ drop n s.stack ≡ s.stack = take-append-drop n s.stack in
    let here : IsStackOf (with_stack t (ids_of low)) low = record { ids = refl; nodes = stand_below t.nodes low (drop n s.stack) (subst (λ (os : List Open). AllStand t.nodes (reverse os)) (sym split) b.stack.nodes) } in
    let point : IsPointOf t.nodes gap (place (with_stack t (ids_of low))) = spot_point (record s { stack = low }) (with_stack t (ids_of low)) foster gap (built_on s t low (ids_of low) b here (front_numbered s.numbers t.nodes s.stack n b.numbered)) good fosters at in
    let stack : t.stack ≡ ids_of (drop n s.stack) ++ ids_of low = b.stack.ids ∙ ap ids_of (sym split) ∙ ids_joined low (drop n s.stack) in
    let spot : Place = place_in t (top (ids_of low)) in
    let now : IsPointOf t.nodes gap spot = subst (IsPointOf t.nodes gap) (place_below t (ids_of (drop n s.stack)) (ids_of low) stack passed (ap (is_of_kind fostering_names) b.nodes.root)) point in
    let known = element_known s.forest last.id element in
    let long = late_long s.late s.forest in
    built_grown s t h (put_at last.id spot t.nodes) b (keeps_put last.id spot t.nodes)
    (subst (AreNodes (put_at last.id spot t.nodes)) (sym (ap (completed s.late) e ∙ late_moved s.late (last.id ∷ []) gap s.forest))
    (nodes_moved t.nodes f last.id gap spot (late_forest s.late s.forest good) b.nodes now (omega (arith, known, long)) (λ same. lies last.id element none (inl same))))

pub puts_below : (view old : TreeState) (h : Forest) (gap : InsertionPoint) (n : ℕ) (foster : Bool) (last : Open) → view ≡ old → IsForest view.forest → AreOpen view.forest view.stack →
    IsInOrder view.forest view.stack → Some last ≡ slice_get view.stack (n + 1) → LiesIn view.forest (take n view.stack) (target gap) →
    gap ≡ point_of view.forest (place_of view.forest foster (reverse (take n view.stack))) → h ≡ moved_to (last.id ∷ []) gap view.forest → PutsBelow n foster old (record view { forest = h })
puts_below view old h gap n foster last same good are order got lies at e other there t passed fosters b =
    let both : Some last ≡ Some other = got ∙ ap (λ (s : TreeState). slice_get s.stack (n + 1)) same ∙ there in
    let one : last ≡ other = cc in
    let here = slice_get_within view.stack (n + 1) last (sym got) in
    let is = get_or_from_slice_get view.stack (n + 1) last last (sym got) in
    let element : IsElement view.forest last.id = subst (λ (o : Open). IsElement view.forest o.id) is (open_at view.forest view.stack (n + 1) last are here) in
    let none = subst (λ (o : Open). All (λ (p : Open). AtOrBelow view.forest o.id p.id → ⊥) (take n view.stack)) is (none_before view.forest view.stack n (n + 1) last (omega arith) here order) in
    subst (λ (s : TreeState). Builds (record view { forest = h }) (put other.id (place_in t (top (ids_of (take n s.stack)))) t)) same
    (subst (λ (o : Open). Builds (record view { forest = h }) (put o.id (place_in t (top (ids_of (take n view.stack)))) t)) one
    (moved_built view t h foster gap n last (subst (λ (s : TreeState). Builds s t) (sym same) b) good element fosters (subst (λ (s : TreeState). ArePassed t (ids_of (drop n s.stack))) (sym same) passed) none lies at e))

pub none_below : (old view : TreeState) (n : ℕ) (foster : Bool) → view ≡ old → None ≡ slice_get view.stack (n + 1) → PutsBelow n foster old old
none_below old view n foster same none other there t passed fosters b =
    absurd (none-some other (none ∙ ap (λ (s : TreeState). slice_get s.stack (n + 1)) same ∙ there))
