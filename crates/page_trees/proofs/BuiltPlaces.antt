-- The insertion point for a node is the place of the definition.
use Rattle.std.proofs.Common.{◌≡◌, ℕ, ◌<◌, Bool, true, false, reverse, refl, sym, ap, ◌∙◌, length, Option, Some, None, subst, if◌then◌else◌}
use Rattle.std.specs.Prelude.{nat_le}
use Rattle.std.specs.Option.{option_map_or}
use Rattle.std.proofs.lemmas.Bool.{lt-leb}
use Rattle.dom_links.specs.Forest.{Forest}
use Rattle.dom_links.specs.Sound.{IsForest}
use Rattle.dom_links.specs.declared.gap.InsertionPoint.{InsertionPoint}
use Rattle.dom_links.specs.declared.gap.InsertionPoint.TheVariants.{EndOf as TheEndOf}
use Rattle.standard_trees.specs.GrowingTree.{GrowingTree, place}
use Rattle.standard_trees.specs.TreeStore.{EndOf, Place}
use Rattle.page_trees.specs.Placing.{place_of, place_outside, place_within, point_of}
use Rattle.page_trees.specs.SameNodes.{IsPointOf}
use Rattle.page_trees.specs.Stands.{Builds, IsHeadNamed, place_for}
use Rattle.page_trees.specs.TreeState.{TreeState, completed}
use Rattle.page_trees.specs.declared.growing.placing.Placing.{Placing}
use Rattle.page_trees.proofs.LateNodes.{late_forest, late_spot}
use Rattle.page_trees.proofs.StandingPlaces.{place_point, spot_agrees}

not_deep : (max n : ℕ) → n < max → nat_le max n ≡ false
not_deep max n less = lt-leb max n less

pub spot_point : (s : TreeState) (t : GrowingTree) (foster : Bool) (gap : InsertionPoint) → Builds s t → IsForest s.forest → t.fostering ≡ foster →
    gap ≡ point_of s.forest (place_of s.forest foster (reverse s.stack)) → IsPointOf t.nodes gap (place t)
spot_point s t foster gap b good fosters e =
    let f : Forest = completed s.late s.forest in
    place_point t f gap (late_forest s.late s.forest good) b.nodes
    (e ∙ sym (late_spot s.late s.forest foster (reverse s.stack)) ∙ spot_agrees t f foster s.stack b.nodes b.stack fosters)

-- no element goes into the head, or there is none
pub wide_point : (s : TreeState) (t : GrowingTree) (placing : Placing) (gap : InsertionPoint) → Builds s t → IsForest s.forest → t.fostering ≡ placing.foster →
    (placing.in_head ≡ true → s.head ≡ None) → gap ≡ point_of s.forest (place_of s.forest placing.foster (reverse s.stack)) → IsPointOf t.nodes gap (place_for placing t)
wide_point s t placing gap b good fosters plain e = subst (IsPointOf t.nodes gap) (by placing.in_head refl) (spot_point s t placing.foster gap b good fosters e)
  where
    by : (c : Bool) → placing.in_head ≡ c → place t ≡ (if c then option_map_or EndOf t.head (place t) else place t)
    by false in_head = refl
    by true in_head = sym (ap (λ (head : Option ℕ). option_map_or EndOf head (place t)) (b.head ∙ plain in_head))

pub gap_point : (s : TreeState) (t : GrowingTree) (placing : Placing) (gap : InsertionPoint) → Builds s t → IsForest s.forest → length s.stack < placing.max_depth → t.fostering ≡ placing.foster →
    (placing.in_head ≡ true → s.head ≡ None) → gap ≡ point_of s.forest (place_within s.forest placing s.stack) → IsPointOf t.nodes gap (place_for placing t)
gap_point s t placing gap b good shallow fosters plain e =
    wide_point s t placing gap b good fosters plain (
    e ∙ ap (λ c. point_of s.forest (if c then place_outside s.forest (place_of s.forest placing.foster (reverse s.stack)) else place_of s.forest placing.foster (reverse s.stack)))
    (not_deep placing.max_depth (length s.stack) shallow))

pub head_point : (s : TreeState) (t : GrowingTree) (placing : Placing) (n : ℕ) → Builds s t → s.head ≡ Some n → placing.in_head ≡ true → IsPointOf t.nodes (TheEndOf n) (place_for placing t)
head_point s t placing n b head in_head =
    let set : t.head ≡ Some n = b.head ∙ head in
    let named : IsHeadNamed t.nodes (Some n) = subst (IsHeadNamed t.nodes) set b.head_named in
    let at : place_for placing t ≡ EndOf n =
    ap (λ (c : Bool). (let spot : Place = if c then option_map_or EndOf t.head (place t) else place t in spot)) in_head ∙ ap (λ (h : Option ℕ). option_map_or EndOf h (place t)) set in
    subst (IsPointOf t.nodes (TheEndOf n)) (sym at) (refl, named.1)
