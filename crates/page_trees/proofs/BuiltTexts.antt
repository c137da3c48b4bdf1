-- Characters that are inserted are a step of the definition.
use Rattle.std.proofs.Common.{◌≡◌, ℕ, suc, zero, ◌<◌, ◌-◌, ◌&&◌, Bool, true, false, List, [], ◌∷◌, map, refl, sym, ap, ◌∙◌, length, Option, Some, None, arith, if◌then◌else◌, subst, true≢false}
use Rattle.std.specs.Prelude.{encode_utf8_all, slice_get, unwrap_or}
use Rattle.std.specs.Option.{option_map_or}
use Rattle.dom_nodes.specs.declared.node_data.NodeData.TheVariants.{Text}
use Rattle.dom_links.specs.AddedTexts.{with_text_at as text_at}
use Rattle.dom_links.specs.Forest.{Forest}
use Rattle.dom_links.specs.Sound.{IsForest, IsOpenGap}
use Rattle.dom_links.specs.declared.gap.InsertionPoint.{InsertionPoint}
use Rattle.standard_trees.specs.GrowingTree.{GrowingTree, current, foster_place, in_contents, kind_of, place, place_is_document, text_behind, with_chars}
use Rattle.standard_trees.specs.GrowingTree.{is_one as is_one_of}
use Rattle.standard_trees.specs.NameLists.{fostering_names}
use Rattle.standard_trees.specs.TreeStore.{Before, ContentsNode, EndOf, Kind, Node, Place, contents_in, is_document, is_member, node_at, node_before}
use Rattle.page_trees.specs.TextPlaces.{is_in_root, is_zero}
use Rattle.page_trees.specs.SameNodes.{AreNodes, IsPointOf, with_text_at}
use Rattle.page_trees.specs.Stands.{AllStand, Builds, IsCurrent, StandsFor, place_for}
use Rattle.page_trees.specs.TreeState.{TreeState, completed}
use Rattle.page_trees.specs.declared.growing.placing.Placing.{Placing}
use Rattle.page_trees.specs.declared.stack.Open.{Open}
use Rattle.page_trees.proofs.BuiltNodes.{no_later}
use Rattle.page_trees.proofs.BuiltStacks.{current_node, not_zero, nothing_current}
use Rattle.page_trees.proofs.CharacterRuns.{AreLow, TakesTexts, chars_are}
use Rattle.page_trees.proofs.KeptElements.{built_grown, keeps_text_at}
use Rattle.page_trees.proofs.LateNodes.{late_forest, late_open, late_text_at}
use Rattle.page_trees.proofs.StandingEdits.{alone_good}
use Rattle.page_trees.proofs.StandingNodes.{contents_is, parent_at, same_length, text_stands}
use Rattle.page_trees.proofs.StandingParents.{parent_is}
use Rattle.page_trees.proofs.TextRuns.{IsThere}

-- ---- numbers of nodes

element_there : (nodes : List Node) (o : Open) → StandsFor nodes o → o.id < length nodes
element_there nodes o s = by (node_at nodes o.id).kind refl
  where
    low : (nodes : List Node) (n : ℕ) → ((node_at nodes n).kind ≡ ContentsNode → ⊥) → n < length nodes
    low [] n other = absurd (other refl)
    low (node ∷ nodes) zero other = omega arith
    low (node ∷ nodes) (suc n) other = (let less = low nodes n other in omega (arith, less))

    by : (kind : Kind) → (node_at nodes o.id).kind ≡ kind → o.id < length nodes
    by kind e = low nodes o.id (λ none. (let is = sym none ∙ s.kind in cc))

all_there : (nodes : List Node) (os : List Open) → AllStand nodes os → AreLow (length nodes) (map (λ o. o.id) os)
all_there nodes [] s = tt
all_there nodes (o ∷ os) s = (element_there nodes o s.0, all_there nodes os s.1)

child_there : (nodes : List Node) (p m : ℕ) → is_member m (node_at nodes p).children ≡ true → p < length nodes
child_there [] p m h = absurd (true≢false (sym h))
child_there (node ∷ nodes) zero m h = omega arith
child_there (node ∷ nodes) (suc p) m h = (let less = child_there nodes p m h in omega (arith, less))

point_there : (nodes : List Node) (f : Forest) (gap : InsertionPoint) (spot : Place) → AreNodes nodes f → IsOpenGap gap f → IsPointOf nodes gap spot → IsThere nodes spot
point_there nodes f gap (EndOf p) are opens at =
    let long = same_length nodes f are in
    let low = (subst (λ (g : InsertionPoint). IsOpenGap g f) at.0 opens).0 in
    omega (arith, long, low)
point_there nodes f gap (Before p m) are opens at =
    let long = same_length nodes f are in
    let low = (subst (λ (g : InsertionPoint). IsOpenGap g f) at.0 opens).0 in
    let found = parent_at m 0 p nodes at.1 in
    let same : p ≡ found.place = (let is = found.is in omega (arith, is)) in
    let child : is_member m (node_at nodes p).children ≡ true = ap (λ (k : ℕ). is_member m (node_at nodes k).children) same ∙ found.at in
    (child_there nodes p m child, omega (arith, long, low), child)

-- ---- characters

pub text_built : (s : TreeState) (t : GrowingTree) (h : Forest) (gap : InsertionPoint) (text : List ℕ) (c : ℕ) (cs : List ℕ) → Builds s t → IsForest s.forest → IsOpenGap gap s.forest →
    IsPointOf t.nodes gap (place t) → place_is_document t (place t) ≡ false → text ≡ encode_utf8_all (c ∷ cs) → h ≡ text_at gap text s.forest →
    Builds (record s { forest = h }) (with_chars (c ∷ cs) t)
text_built s t h gap text c cs b good opens at inside spelt e =
    let f : Forest = completed s.late s.forest in
    let sound = late_forest s.late s.forest good in
    let opened = late_open s.late s.forest gap opens in
    let spot : Place = place t in
    let nodes : List Node = with_text_at (c ∷ cs) spot t.nodes in
    let are : AreNodes nodes (completed s.late h) =
    subst (AreNodes nodes) (sym (ap (completed s.late) e ∙ late_text_at s.late gap text s.forest (no_later s t b)))
    (text_stands t.nodes f gap spot text (c ∷ cs) sound (alone_good f (Text text) sound refl) b.nodes at opened (sym spelt)) in
    let takes : TakesTexts t spot = record {
      low = subst (AreLow (length t.nodes)) (sym b.stack.ids) (all_there t.nodes _ b.stack.nodes);
      there = point_there t.nodes f gap spot b.nodes opened at;
      at = refl;
      inside = inside;
    } in
    subst (Builds (record s { forest = h })) (sym (chars_are t spot c cs takes)) (built_grown s t h nodes b (keeps_text_at (c ∷ cs) spot t.nodes) are)

-- the root alone is a Document
only_root : (s : TreeState) (t : GrowingTree) → Builds s t → (n : ℕ) → is_document (kind_of t n) ≡ is_zero n
only_root s t b zero = ap is_document b.nodes.root
only_root s t b (suc n) = by (is_document (kind_of t (suc n))) refl
  where
    by : (c : Bool) → is_document (kind_of t (suc n)) ≡ c → c ≡ is_zero (suc n)
    by true e = absurd (let none = b.lone (suc n) e in omega (arith, none))
    by false e = sym (not_zero (suc n) n (omega arith))

-- the place is in the Document where the insertion point is among the root's children
pub root_is : (s : TreeState) (t : GrowingTree) (gap : InsertionPoint) (spot : Place) → Builds s t → IsPointOf t.nodes gap spot → place_is_document t spot ≡ is_in_root s.forest gap
unfolding completed
root_is s t gap (EndOf p) b at = only_root s t b p ∙ sym (ap (is_in_root s.forest) at.0)
root_is s t gap (Before p m) b at =
    only_root s t b p ∙ sym (ap (is_in_root s.forest) at.0 ∙ ap (λ (o : Option ℕ). option_map_or is_zero o false) (parent_is t.nodes (completed s.late s.forest) b.nodes m ∙ at.1))

-- characters are not inserted into the Document
pub document_stays : (t : GrowingTree) (cs : List ℕ) → place_is_document t (place t) ≡ true → with_chars cs t ≡ t
document_stays t [] e = refl
document_stays t (c ∷ cs) e =
    ap (λ (b : Bool). with_chars cs (elim b [ true ↦ t | false ↦ text_behind (node_before t.nodes (place t)) (place t) c t ])) e ∙ document_stays t cs e

-- elements do not go into a head that is closed
pub in_place : (placing : Placing) (t : GrowingTree) (gap : InsertionPoint) → placing.in_head ≡ false → IsPointOf t.nodes gap (place_for placing t) → IsPointOf t.nodes gap (place t)
in_place placing t gap outside at = subst (λ (b : Bool). IsPointOf t.nodes gap (if b then option_map_or EndOf t.head (place t) else place t)) outside at

pub document_built : (s : TreeState) (t : GrowingTree) (cs : List ℕ) → Builds s t → place_is_document t (place t) ≡ true → Builds s (with_chars cs t)
document_built s t cs b e = subst (Builds s) (sym (document_stays t cs e)) b

-- ---- where an element is open, and foster parenting is not enabled, the place is in no Document

pub inside_element : (s : TreeState) (t : GrowingTree) → Builds s t → IsForest s.forest → (t.stack ≡ [] → ⊥) → t.fostering ≡ false → place_is_document t (place t) ≡ false
inside_element s t b good some plain =
    ap (λ (c : Bool). place_is_document t (in_contents t (elim (c && is_one_of t fostering_names (current t)) [ true ↦ foster_place t t.stack | false ↦ EndOf (current t) ]))) plain
    ∙ by_contents (contents_in (kind_of t (current t))) refl
  where
    by_document : (n : ℕ) (c : Bool) → is_document (kind_of t n) ≡ c → (n ≡ 0 → ⊥) → c ≡ false
    by_document n true e other = absurd (other (b.lone n e))
    by_document n false e other = refl

    by_current : (r : Option Open) → r ≡ slice_get s.stack (length s.stack - 1) → IsCurrent r (kind_of t (current t)) → is_document (kind_of t (current t)) ≡ false
    by_current None e is = absurd (some (nothing_current s t b e))
    by_current (Some o) e is = ap is_document is.kind

    by_contents : (o : Option ℕ) → contents_in (kind_of t (current t)) ≡ o → is_document (kind_of t (unwrap_or o (current t))) ≡ false
    by_contents None e = by_current (slice_get s.stack (length s.stack - 1)) refl (current_node s t b)
    by_contents (Some k) e =
        let sound = late_forest s.late s.forest good in
        let other = (sound.contents_known (current t) k (sym (contents_is t.nodes (completed s.late s.forest) b.nodes (current t)) ∙ e)).0 in
        by_document k (is_document (kind_of t k)) refl other
