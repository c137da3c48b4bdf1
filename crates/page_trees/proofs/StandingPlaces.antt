-- The appropriate place for a node is the definition's place.
use Rattle.std.proofs.Common.{◌≡◌, ℕ, Bool, true, false, ◌&&◌, List, [], ◌∷◌, map, reverse, refl, sym, ap, ◌∙◌, codes, length, subst, if◌then◌else◌}
use Rattle.std.specs.Option.{unwrap_or}
use Rattle.std.specs.Option.{option_map_or}
use Rattle.std.specs.Prelude.{None, Option, Some, nat_le, option_and_then, slice_get}
use Rattle.dom_nodes.specs.Kinds.{contents_named, is_fragment}
use Rattle.dom_nodes.specs.declared.node_data.NodeData.{NodeData}
use Rattle.dom_nodes.specs.declared.node_data.NodeData.TheVariants.{Fragment}
use Rattle.dom_links.specs.Forest.{Forest, parent}
use Rattle.dom_links.specs.Sound.{IsForest}
use Rattle.dom_links.specs.declared.gap.InsertionPoint.{InsertionPoint}
use Rattle.dom_links.specs.declared.gap.InsertionPoint.TheVariants.{Before as TheBefore, EndOf as TheEndOf}
use Rattle.standard_trees.specs.GrowingTree.{GrowingTree, current, foster_place, in_contents, is_among, is_one as is_one_of, kind_of, place, top}
use Rattle.standard_trees.specs.NameLists.{fostering_names}
use Rattle.standard_trees.specs.TreeStore.{Before, EndOf, Node, Place, contents_in, key_in, parent_of}
use Rattle.page_trees.specs.Names.{html_rows, rare_rows}
use Rattle.page_trees.specs.Placing.{foster_place_of, fosters, inner, is_a_table, is_a_template, place_of, place_outside, place_within, point_of}
use Rattle.page_trees.specs.SameNodes.{AreNodes, IsPointOf}
use Rattle.page_trees.specs.Stands.{AllStand, IsStackOf, StandsFor, point_at}
use Rattle.page_trees.specs.declared.growing.placing.Placing.{Placing}
use Rattle.page_trees.specs.declared.growing.placing.Place.TheVariants.{EndOf as AtEnd, Table}
use Rattle.page_trees.specs.declared.stack.Open.{Open}
use Rattle.page_trees.proofs.StandingNames.{are_known, one_agrees}
use Rattle.page_trees.proofs.StandingNodes.{contents_is, parent_free}
use Rattle.page_trees.proofs.StandingParents.{parent_is}

-- ---- places

inside_is : (t : GrowingTree) (forest : Forest) → AreNodes t.nodes forest → (n : ℕ) → point_of forest (AtEnd (inner forest n)) ≡ point_at (in_contents t (EndOf n))
inside_is t forest are n = ap (λ (c : Option ℕ). TheEndOf (unwrap_or c n)) (sym (contents_is t.nodes forest are n))

plain_is : (t : GrowingTree) (o : Open) → StandsFor t.nodes o → is_a_template o ≡ false → TheEndOf o.id ≡ point_at (in_contents t (EndOf o.id))
plain_is t o s e = ap (λ (c : Option ℕ). TheEndOf (unwrap_or c o.id)) (sym (ap contents_in s.kind ∙ s.plain e))

lone_is : (t : GrowingTree) (forest : Forest) → AreNodes t.nodes forest → (o : Open) → StandsFor t.nodes o → (b : Bool) → is_a_template o ≡ b →
    point_of forest (AtEnd (if b then inner forest o.id else o.id)) ≡ point_at (in_contents t (EndOf o.id))
lone_is t forest are o s true e = inside_is t forest are o.id
lone_is t forest are o s false e = plain_is t o s e

abbrev beside : ℕ → ℕ → Option ℕ → Place
beside x y (Some p) = Before p x
beside x y None = EndOf y

beside_is : (t : GrowingTree) (forest : Forest) → AreNodes t.nodes forest → (x y : ℕ) (r : Option ℕ) → parent forest x ≡ r →
    (elim r [ Some _ ↦ TheBefore x | None ↦ TheEndOf (inner forest y) ]) ≡ point_at (in_contents t (beside x y r))
beside_is t forest are x y (Some p) e =
    ap (λ (c : Option ℕ). point_at (elim c [ Some k ↦ EndOf k | None ↦ Before p x ])) (sym (parent_free t.nodes x p are.hosts (sym (parent_is t.nodes forest are x) ∙ e)))
beside_is t forest are x y None e = inside_is t forest are y

table_is : (t : GrowingTree) (forest : Forest) → AreNodes t.nodes forest → (x y : ℕ) →
    point_of forest (Table x y) ≡ point_at (in_contents t (beside x y (parent_of t.nodes x)))
table_is t forest are x y =
    beside_is t forest are x y (parent forest x) refl ∙ ap (λ r. point_at (in_contents t (beside x y r))) (parent_is t.nodes forest are x)

abbrev chosen : Bool → Bool → Place → Place → Place → Place
chosen true b x y z = x
chosen false true x y z = y
chosen false false x y z = z

chosen_is : (t : GrowingTree) (forest : Forest) → AreNodes t.nodes forest → (a b : Bool) (o m : Open) (os : List Open) →
    point_of forest (foster_place_of forest (m ∷ os)) ≡ point_at (in_contents t (foster_place t (map (λ o. o.id) (m ∷ os)))) →
    point_of forest (if a then AtEnd (inner forest o.id) else if b then Table o.id m.id else foster_place_of forest (m ∷ os))
    ≡ point_at (in_contents t (chosen a b (EndOf o.id) (beside o.id m.id (parent_of t.nodes o.id)) (foster_place t (map (λ o. o.id) (m ∷ os)))))
chosen_is t forest are true b o m os others = inside_is t forest are o.id
chosen_is t forest are false true o m os others = table_is t forest are o.id m.id
chosen_is t forest are false false o m os others = others

by_parent : (x y : ℕ) (r : Option ℕ) → beside x y r ≡ (elim r [ Some p ↦ Before p x | None ↦ EndOf y ])
by_parent x y (Some p) = refl
by_parent x y None = refl

as_chosen : (t : GrowingTree) (a b : Bool) (x y : ℕ) (ns : List ℕ) →
    chosen a b (EndOf x) (beside x y (parent_of t.nodes x)) (foster_place t (y ∷ ns))
    ≡ (elim a [ true ↦ EndOf x | false ↦ elim b [ true ↦ elim (parent_of t.nodes x) [ Some p ↦ Before p x | None ↦ EndOf y ] | false ↦ foster_place t (y ∷ ns) ] ])
as_chosen t true b x y ns = refl
as_chosen t false true x y ns = by_parent x y (parent_of t.nodes x)
as_chosen t false false x y ns = refl

pub template_known : are_known (codes "template" ∷ []) ≡ true
unfolding html_rows rare_rows
template_known = refl

table_known : are_known (codes "table" ∷ []) ≡ true
unfolding html_rows rare_rows
table_known = refl

fostering_known : are_known fostering_names ≡ true
unfolding html_rows rare_rows
fostering_known = refl

at_root : (t : GrowingTree) (forest : Forest) → AreNodes t.nodes forest → TheEndOf 0 ≡ point_at (in_contents t (EndOf 0))
at_root t forest are = ap (λ kind. TheEndOf (unwrap_or (contents_in kind) 0)) (sym are.root)

foster_is : (t : GrowingTree) (forest : Forest) → AreNodes t.nodes forest → (os : List Open) → AllStand t.nodes os →
    point_of forest (foster_place_of forest os) ≡ point_at (in_contents t (foster_place t (map (λ o. o.id) os)))
foster_is t forest are [] s = at_root t forest are
foster_is t forest are (o ∷ []) s = lone_is t forest are o s.0 (is_a_template o) refl
foster_is t forest are (o ∷ m ∷ os) s =
    chosen_is t forest are (is_a_template o) (is_a_table o) o m os (foster_is t forest are (m ∷ os) s.1)
    ∙ ap (λ spot. point_at (in_contents t spot)) (
    ap (λ a. chosen a (is_a_table o) (EndOf o.id) (beside o.id m.id (parent_of t.nodes o.id)) (foster_place t (map (λ o. o.id) (m ∷ os))))
    (one_agrees (codes "template" ∷ []) template_known t o s.0)
    ∙ ap (λ b. chosen (is_one_of t (codes "template" ∷ []) o.id) b (EndOf o.id) (beside o.id m.id (parent_of t.nodes o.id)) (foster_place t (map (λ o. o.id) (m ∷ os))))
    (one_agrees (codes "table" ∷ []) table_known t o s.0)
    ∙ as_chosen t (is_one_of t (codes "template" ∷ []) o.id) (is_one_of t (codes "table" ∷ []) o.id) o.id m.id (map (λ o. o.id) os))

and_false : (b c : Bool) → c ≡ false → (b && c) ≡ false
and_false true c e = e
and_false false c e = refl

-- the appropriate place, on a stack of these numbers
abbrev spot_on : GrowingTree → Bool → List ℕ → Place
spot_on t foster ns = in_contents t (elim (foster && is_one_of t fostering_names (top ns)) [ true ↦ foster_place t ns | false ↦ EndOf (top ns) ])

spot_is : (t : GrowingTree) (forest : Forest) → AreNodes t.nodes forest → (foster : Bool) (os : List Open) → AllStand t.nodes os →
    point_of forest (place_of forest foster os) ≡ point_at (spot_on t foster (map (λ o. o.id) os))
spot_is t forest are foster [] s =
    at_root t forest are
    ∙ ap (λ b. point_at (in_contents t (elim b [ true ↦ foster_place t [] | false ↦ EndOf 0 ])))
    (sym (and_false foster (is_one_of t fostering_names 0) (ap (λ kind. is_among (key_in kind) fostering_names) are.root)))
spot_is t forest are foster (o ∷ os) s =
    by_test (foster && fosters o) (foster_is t forest are (o ∷ os) s) (inside_is t forest are o.id)
    ∙ ap (λ b. point_at (in_contents t (elim (foster && b) [ true ↦ foster_place t (map (λ o. o.id) (o ∷ os)) | false ↦ EndOf o.id ])))
    (one_agrees fostering_names fostering_known t o s.0)
  where
    by_test : (b : Bool) → point_of forest (foster_place_of forest (o ∷ os)) ≡ point_at (in_contents t (foster_place t (map (λ o. o.id) (o ∷ os)))) →
        point_of forest (AtEnd (inner forest o.id)) ≡ point_at (in_contents t (EndOf o.id)) →
        point_of forest (if b then foster_place_of forest (o ∷ os) else AtEnd (inner forest o.id))
        ≡ point_at (in_contents t (elim b [ true ↦ foster_place t (map (λ o. o.id) (o ∷ os)) | false ↦ EndOf o.id ]))
    by_test true fostered plain = fostered
    by_test false fostered plain = plain

pub place_agrees : (t : GrowingTree) (forest : Forest) (placing : Placing) (elements : List Open) → AreNodes t.nodes forest → IsStackOf t elements →
    t.fostering ≡ placing.foster → nat_le placing.max_depth (length elements) ≡ false →
    point_of forest (place_within forest placing elements) ≡ point_at (place t)
place_agrees t forest placing elements are s fostering shallow =
    ap (λ b. point_of forest (if b then place_outside forest (place_of forest placing.foster (reverse elements)) else place_of forest placing.foster (reverse elements))) shallow
    ∙ spot_is t forest are placing.foster (reverse elements) s.nodes
    ∙ ap (λ b. point_at (spot_on t b (map (λ o. o.id) (reverse elements)))) (sym fostering)
    ∙ ap (λ ns. point_at (spot_on t t.fostering ns)) (sym s.ids)

-- ---- the place is a point

-- beside a child of its parent, or at the end of a node
abbrev IsSpot : List Node → Place → Type 0
IsSpot nodes (EndOf p) = Unit {0}
IsSpot nodes (Before p m) = parent_of nodes m ≡ Some p

beside_spot : (t : GrowingTree) (x y : ℕ) (r : Option ℕ) → parent_of t.nodes x ≡ r → IsSpot t.nodes (beside x y r)
beside_spot t x y (Some p) e = e
beside_spot t x y None e = tt

chosen_spot : (nodes : List Node) (a b : Bool) (x y z : Place) → IsSpot nodes x → IsSpot nodes y → IsSpot nodes z → IsSpot nodes (chosen a b x y z)
chosen_spot nodes true b x y z one two three = one
chosen_spot nodes false true x y z one two three = two
chosen_spot nodes false false x y z one two three = three

foster_spot : (t : GrowingTree) (ns : List ℕ) → IsSpot t.nodes (foster_place t ns)
foster_spot t [] = tt
foster_spot t (n ∷ []) = tt
foster_spot t (n ∷ m ∷ ns) =
    let a : Bool = is_one_of t (codes "template" ∷ []) n in
    let b : Bool = is_one_of t (codes "table" ∷ []) n in
    subst (IsSpot t.nodes) (as_chosen t a b n m ns)
    (chosen_spot t.nodes a b (EndOf n) (beside n m (parent_of t.nodes n)) (foster_place t (m ∷ ns)) tt (beside_spot t n m (parent_of t.nodes n) refl) (foster_spot t (m ∷ ns)))

fragment_plain : (o : Option NodeData) → option_map_or is_fragment o false ≡ true → option_and_then contents_named o ≡ None
fragment_plain (Some Fragment) e = refl
fragment_plain _ e = cc

-- the contents of a template have none
inner_plain : (t : GrowingTree) (forest : Forest) → IsForest forest → AreNodes t.nodes forest → (p : ℕ) (o : Option ℕ) → contents_in (kind_of t p) ≡ o → contents_in (kind_of t (unwrap_or o p)) ≡ None
inner_plain t forest good are p None e = e
inner_plain t forest good are p (Some k) e =
    contents_is t.nodes forest are k ∙ fragment_plain (slice_get forest.content k) (good.contents_known p k (sym (contents_is t.nodes forest are p) ∙ e)).1

spot_point : (t : GrowingTree) (forest : Forest) (gap : InsertionPoint) (spot : Place) → IsForest forest → AreNodes t.nodes forest → IsSpot t.nodes spot → gap ≡ point_at (in_contents t spot) →
    IsPointOf t.nodes gap (in_contents t spot)
spot_point t forest gap (EndOf p) good are is e = (e, inner_plain t forest good are p (contents_in (kind_of t p)) refl)
spot_point t forest gap (Before p m) good are is e =
    let plain : contents_in (kind_of t p) ≡ None = parent_free t.nodes m p are.hosts is in
    let at : in_contents t (Before p m) ≡ Before p m = ap (λ (o : Option ℕ). elim o [ Some k ↦ EndOf k | None ↦ Before p m ]) plain in
    subst (IsPointOf t.nodes gap) (sym at) (e ∙ ap point_at at, is)

by_fostering : (t : GrowingTree) (b : Bool) → IsSpot t.nodes (elim b [ true ↦ foster_place t t.stack | false ↦ EndOf (current t) ])
by_fostering t true = foster_spot t t.stack
by_fostering t false = tt

pub place_point : (t : GrowingTree) (forest : Forest) (gap : InsertionPoint) → IsForest forest → AreNodes t.nodes forest → gap ≡ point_at (place t) → IsPointOf t.nodes gap (place t)
place_point t forest gap good are e =
    let fosters : Bool = t.fostering && is_one_of t fostering_names (current t) in
    spot_point t forest gap (elim fosters [ true ↦ foster_place t t.stack | false ↦ EndOf (current t) ]) good are (by_fostering t fosters) e

-- the same without a limit on depth
pub spot_agrees : (t : GrowingTree) (forest : Forest) (foster : Bool) (elements : List Open) → AreNodes t.nodes forest → IsStackOf t elements → t.fostering ≡ foster →
    point_of forest (place_of forest foster (reverse elements)) ≡ point_at (place t)
spot_agrees t forest foster elements are s fostering =
    spot_is t forest are foster (reverse elements) s.nodes
    ∙ ap (λ b. point_at (spot_on t b (map (λ o. o.id) (reverse elements)))) (sym fostering)
    ∙ ap (λ ns. point_at (spot_on t t.fostering ns)) (sym s.ids)
