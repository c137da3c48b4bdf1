-- Ways between nodes, after the edits that tree construction makes.
use Rattle.std.proofs.Common.{ℕ, ◌≡◌, ◌<◌, ◌⊎◌, zero, suc, true, false, List, [], ◌∷◌, ◌++◌, Option, Some, None, Result, Ok, Err, refl, sym, ap, ◌∙◌, subst, arith, inl, inr, length}
use Rattle.std.specs.Prelude.{IfOk, MatchResult, slice_get, option_and_then}
use Rattle.std.proofs.lemmas.Bool.{cases_Bool, cond-false}
use Rattle.std.proofs.lemmas.List.{length_push}
use Rattle.dom_nodes.specs.Kinds.{contents_named, is_fragment, is_top}
use Rattle.dom_nodes.specs.declared.fault.EditFault.{EditFault}
use Rattle.dom_nodes.specs.declared.node_data.NodeData.{NodeData}
use Rattle.dom_nodes.specs.Elements.{Element}
use Rattle.dom_nodes.specs.declared.node_data.NodeData.TheVariants.{Element as AnElement, Fragment, Text}
use Rattle.dom_links.specs.AddedTexts.{lengthened, text_before, with_more}
use Rattle.dom_links.specs.Contents.{KeepsKind, changed_at, with_content}
use Rattle.dom_links.specs.Forest.{Forest, StandsOnce, children_of, parent, siblings}
use Rattle.dom_links.specs.Growth.{HasFreeContents, with_child, with_node}
use Rattle.dom_links.specs.ListMoves.{AreNodes, reparented}
use Rattle.dom_links.specs.Lists.{is_member}
use Rattle.dom_links.specs.Moves.{detach, moved_to, owner_at, put}
use Rattle.dom_links.specs.declared.gap.InsertionPoint.{InsertionPoint}
use Rattle.dom_links.specs.declared.gap.InsertionPoint.TheVariants.{After as after_node, Before as before_node, EndOf as end_of, FrontOf as front_of}
use Rattle.dom_links.specs.Sound.{AtOrBelow, IsForest, IsHostAncestor, IsOpenGap, IsParentOrHost, children_allowed_at, contents_at, one_step, stays, target, then_step}
use Rattle.dom_links.proofs.forest.Appends.{detach-alone, new_alone}
use Rattle.dom_links.proofs.forest.Climbs.{fragment_is_top, no_way, one_above}
use Rattle.dom_links.proofs.forest.Depth.{child_step, step_inside}
use Rattle.dom_links.proofs.forest.Grown.{contents-more, forest-more, parent-more}
use Rattle.dom_links.proofs.forest.Neighbours.{around}
use Rattle.dom_links.proofs.forest.Places.{siblings_once}
use Rattle.dom_links.proofs.moves.Acyclicity.{further, onward}
use Rattle.dom_links.proofs.moves.BlockCuts.{once-cut_list}
use Rattle.dom_links.proofs.moves.BlockFills.{FilledList, parent-put_in, parent-put_out}
use Rattle.dom_links.proofs.moves.BlockGaps.{put-after, put-before, put-end_of, put-front_of}
use Rattle.dom_links.proofs.moves.BlockKept.{alone-cut_list, children_are}
use Rattle.dom_links.proofs.moves.Cuts.{no_other, parent-detach}
use Rattle.dom_links.proofs.texts.AddingTexts.{keeps_longer as kind_longer}
use Rattle.dom_links.specs.declared.gap.MovedNodes.TheVariants.{Node}
use Rattle.dom_trees.specs.Edits.{Edits, Makes, MayMove, appending}
use Rattle.dom_trees.specs.TreeUnderConstruction.{adding_text}
use Rattle.std.specs.Option.{option_map_or, unwrap_or}
use Rattle.page_trees.specs.Elements.{Grows, IsAround, IsCopy, IsElement, IsFresh, IsInside, IsMade, IsNew, IsRooted, limit_of}
use Rattle.page_trees.specs.declared.fault.PageFault.{PageFault}
use Rattle.page_trees.proofs.MadeNodes.{Keeps, element_opens, end_opens, copy_is_new, copy_put, element_known, forest_copied, from_new, keeps_contents, keeps_on, keeps_put, keeps_same, keeps_text, known_new, made_put, moves_new, none_above, not_root, one_allowed, one_of, element_no_top}

-- ---- what grows

grows_of : (f g : Forest) → Keeps f g → ((m n : ℕ) → m < length f.content → n < length f.content → IsHostAncestor g m n → IsHostAncestor f m n) → Grows f g
grows_of f g keeps ways = record {
  elements = keeps.elements;
  same = keeps.same;
  root = keeps.root;
  ways = λ m n one other way. ways m n (element_known f m one) (element_known f n other) way;
}

pub grows_same : (f g : Forest) → g ≡ f → Grows f g
grows_same f g e = grows_of f g (keeps_same f g e) (λ m n one other way. subst (λ (h : Forest). IsHostAncestor h m n) e way)

-- a way of steps that were there was there
ways_back : (f g : Forest) → ((m n : ℕ) → IsParentOrHost g m n → IsParentOrHost f m n) → (m n : ℕ) → IsHostAncestor g m n → IsHostAncestor f m n
ways_back f g back _ _ (one_step m n step) = one_step m n (back m n step)
ways_back f g back _ _ (then_step m k n way step) = then_step m k n (ways_back f g back m k way) (back k n step)

-- ---- nodes that are made

step_node : (content : NodeData) (f : Forest) (m n : ℕ) → m < length f.content → IsParentOrHost (with_node content f) m n → IsParentOrHost f m n
step_node content f m n known (inl p) = inl (sym (parent-more content f n) ∙ p)
step_node content f m n known (inr held) = elim (contents-more content f m n held) [
  | inl old ↦ inr old
  | inr new ↦ (let e = new.0 in absurd (omega (arith, known, e)))
]

-- a step from a node that was there is an old one
step_new : (f g : Forest) (id m n : ℕ) → IsNew f g id → m < length f.content → IsParentOrHost g m n → IsParentOrHost f m n
step_new f g id m n new known step = elim new.made [
  | inl plain ↦ step_node new.content f m n known (subst (λ (h : Forest). IsParentOrHost h m n) plain.1 step)
  | inr holds ↦ (let long = length_push f.content new.content in
      step_node new.content f m n known (step_node Fragment (with_node new.content f) m n (omega (arith, long, known)) (subst (λ (h : Forest). IsParentOrHost h m n) holds.1 step)))
]

way_inside : (f : Forest) → IsForest f → (m n : ℕ) → IsHostAncestor f m n → n < length f.content
way_inside f good _ _ (one_step m n step) = step_inside f m n good step
way_inside f good _ _ (then_step m k n way step) = step_inside f k n good step

way_new : (f g : Forest) (id : ℕ) → IsForest f → IsNew f g id → (m n : ℕ) → IsHostAncestor g m n → m < length f.content → IsHostAncestor f m n
way_new f g id good new _ _ (one_step m n step) known = one_step m n (step_new f g id m n new known step)
way_new f g id good new _ _ (then_step m k n way step) known =
    let before = way_new f g id good new m k way known in
    then_step m k n before (step_new f g id k n new (way_inside f good m k before) step)

at_new : (f g : Forest) (id : ℕ) → IsForest f → IsNew f g id → (m n : ℕ) → AtOrBelow g m n → m < length f.content → AtOrBelow f m n
at_new f g id good new m n (inl e) known = inl e
at_new f g id good new m n (inr way) known = inr (way_new f g id good new m n way known)

-- no node that was there is below the new one
none_below : (f g : Forest) (id n : ℕ) → IsForest f → IsNew f g id → n < length f.content → AtOrBelow g id n → ⊥
none_below f g id n good new known (inl e) = (let number = new.number in absurd (omega (arith, known, number, e)))
none_below f g id n good new known (inr way) = (let far = from_new f g id n good new way in absurd (omega (arith, known, far)))

-- and none is above it, where it has no contents
none_over : (f g : Forest) (id m : ℕ) → IsForest f → IsCopy f g id → m < length f.content → AtOrBelow g m id → ⊥
none_over f g id m good copy known (inl e) = (let number = copy.number in absurd (omega (arith, known, number, e)))
none_over f g id m good copy known (inr way) = no_way g m id (λ k step. none_above f g id k good copy step) way

-- ---- moves

-- it is at or above one of those
abbrev pub Onto : Forest → (ℕ → Type 0) → ℕ → Type 0
Onto f From m = (o : ℕ) × From o × AtOrBelow f m o

-- it is at or below one of those
abbrev pub Beyond : Forest → (ℕ → Type 0) → ℕ → Type 0
Beyond f Into n = (x : ℕ) × Into x × AtOrBelow f x n

-- a step after the move is an old one, or one of the new ones
abbrev pub Steps : Forest → Forest → (ℕ → Type 0) → (ℕ → Type 0) → Type 0
Steps f h From Into = (m n : ℕ) → IsParentOrHost h m n → IsParentOrHost f m n ⊎ (From m × Into n)

-- a way after it is an old one, or goes over a new step
pub ways_into : (f h : Forest) (From Into : ℕ → Type 0) → Steps f h From Into → (m n : ℕ) → IsHostAncestor h m n → IsHostAncestor f m n ⊎ (Onto f From m × Beyond f Into n)
ways_into f h From Into steps _ _ (one_step m n step) = elim (steps m n step) [
  | inl old ↦ inl (one_step m n old)
  | inr new ↦ inr ((m, new.0, inl refl), (n, new.1, inl refl))
]
ways_into f h From Into steps _ _ (then_step m k n way step) = elim (ways_into f h From Into steps m k way) [
  | inl old ↦ (elim (steps k n step) [
    | inl plain ↦ inl (then_step m k n old plain)
    | inr new ↦ inr ((k, new.0, inr old), (n, new.1, inl refl))
  ])
  | inr both ↦ (elim (steps k n step) [
    | inl plain ↦ inr (both.0, (both.1.0, both.1.1, inr (further f both.1.0 k n both.1.2 plain)))
    | inr new ↦ inr (both.0, (n, new.1, inl refl))
  ])
]

filled_steps : (f filled : Forest) (moved : List ℕ) (owner : Option ℕ) (front back : List ℕ) → StandsOnce (detach moved f) → filled.content ≡ f.content → FilledList (detach moved f) filled moved owner front back →
    Steps f filled (λ m. owner ≡ Some m) (λ n. is_member n moved ≡ true)
filled_steps f filled moved owner front back once same fill m n (inr held) = inl (inr (ap (λ (cs : List NodeData). option_and_then contents_named (slice_get cs m)) (sym same) ∙ held))
filled_steps f filled moved owner front back once same fill m n (inl p) = elim (cases_Bool (is_member n moved)) [
  | inl t ↦ inr (sym (parent-put_in (detach moved f) filled moved owner front back n once fill t) ∙ p, t)
  | inr g ↦ inl (inl (sym (parent-put_out (detach moved f) filled moved owner front back n fill g ∙ parent-detach moved f n ∙ cond-false (is_member n moved) None (parent f n) g) ∙ p))
]

-- the same where they are put into the list of a node that is not one of them
beside_steps : (f filled : Forest) (moved : List ℕ) (t : ℕ) → StandsOnce f → AreNodes f moved → is_member t moved ≡ false → (front back : List ℕ) → filled.content ≡ f.content →
    FilledList (detach moved f) filled moved (parent (detach moved f) t) front back → Steps f filled (λ m. parent f t ≡ Some m) (λ n. is_member n moved ≡ true)
beside_steps f filled moved t once are out front back same fill =
    let above : parent (detach moved f) t ≡ parent f t = parent-detach moved f t ∙ cond-false (is_member t moved) None (parent f t) out in
    subst (λ (o : Option ℕ). Steps f filled (λ m. o ≡ Some m) (λ n. is_member n moved ≡ true)) above
    (filled_steps f filled moved (parent (detach moved f) t) front back (once-cut_list f moved once are) same fill)

-- a step after a move is an old one, or goes to what was moved from what it then lies in
moved_steps : (f : Forest) (gap : InsertionPoint) (moved : List ℕ) → StandsOnce f → AreNodes f moved → is_member (target gap) moved ≡ false → target gap < length f.content →
    Steps f (moved_to moved gap f) (λ m. owner_at gap f ≡ Some m) (λ n. is_member n moved ≡ true)
moved_steps f (end_of t) moved once are out known =
    filled_steps f (moved_to moved (end_of t) f) moved (Some t) (children_of (detach moved f) t) [] (once-cut_list f moved once are) refl
    (put-end_of (detach moved f) moved t (once-cut_list f moved once are) (alone-cut_list f moved once are) known)
moved_steps f (front_of t) moved once are out known =
    filled_steps f (moved_to moved (front_of t) f) moved (Some t) [] (children_of (detach moved f) t) (once-cut_list f moved once are) refl
    (put-front_of (detach moved f) moved t (once-cut_list f moved once are) (alone-cut_list f moved once are) known)
moved_steps f (before_node t) moved once are out known =
    let now = once-cut_list f moved once are in
    let parts = around t (siblings (detach moved f) t) (siblings_once (detach moved f) t now) (now.placed t known) in
    beside_steps f _ moved t once are out parts.front (t ∷ parts.back) refl (put-before (detach moved f) moved t now (alone-cut_list f moved once are) out known parts)
moved_steps f (after_node t) moved once are out known =
    let now = once-cut_list f moved once are in
    let parts = around t (siblings (detach moved f) t) (siblings_once (detach moved f) t now) (now.placed t known) in
    beside_steps f _ moved t once are out (parts.front ++ t ∷ []) parts.back refl (put-after (detach moved f) moved t now (alone-cut_list f moved once are) out known parts)

one_node : (f : Forest) (x : ℕ) → x < length f.content → AreNodes f (x ∷ [])
one_node f x known = record { once = (refl, tt); known = λ n s. subst (λ (k : ℕ). k < length f.content) (one_of x n s) known }

-- the same of one node that was moved
pub node_steps : (f h : Forest) (gap : InsertionPoint) (x : ℕ) → IsForest f → x < length f.content → target gap < length f.content → (x ≡ target gap → ⊥) → h ≡ moved_to (x ∷ []) gap f →
    Steps f h (λ m. owner_at gap f ≡ Some m) (λ n. x ≡ n)
node_steps f h gap x good known there apart e m n step =
    elim (moved_steps f gap (x ∷ []) good.once (one_node f x known) (no_other (target gap) x apart) there m n (subst (λ (k : Forest). IsParentOrHost k m n) e step)) [
      | inl old ↦ inl old
      | inr new ↦ inr (new.0, one_of x n new.1)
    ]

-- who is above what a node at the gap lies in is above the gap's node
pub owner_target : (f : Forest) (gap : InsertionPoint) (o m : ℕ) → owner_at gap f ≡ Some o → AtOrBelow f m o → AtOrBelow f m (target gap)
owner_target f (end_of t) o m is at = (let e : o ≡ t = cc in subst (AtOrBelow f m) e at)
owner_target f (front_of t) o m is at = (let e : o ≡ t = cc in subst (AtOrBelow f m) e at)
owner_target f (before_node t) o m is at = inr (further f m o t at (inl is))
owner_target f (after_node t) o m is at = inr (further f m o t at (inl is))

-- ---- a new node is put at a gap

-- the steps then: the node was apart from the gap's
put_steps : (f g h : Forest) (id : ℕ) (gap : InsertionPoint) → IsForest g → IsNew f g id → IsOpenGap gap f → h ≡ moved_to (id ∷ []) gap g → Steps g h (λ m. owner_at gap g ≡ Some m) (λ n. id ≡ n)
put_steps f g h id gap after new opens e =
    let known = known_new f g id new in
    let there = opens.0 in
    let number = new.number in
    node_steps g h gap id after known.1 (omega (arith, known.0, there)) (λ same. absurd (omega (arith, number, there, same))) e

pub grows_put : (f g h : Forest) (id : ℕ) (gap : InsertionPoint) → IsForest f → IsForest g → IsNew f g id → IsOpenGap gap f → h ≡ moved_to (id ∷ []) gap g → Grows f h
grows_put f g h id gap good after new opens e =
    grows_of f h (keeps_put f g h id new (ap (λ (k : Forest). k.content) e)) (λ m n one other way.
    elim (ways_into g h (λ k. owner_at gap g ≡ Some k) (λ k. id ≡ k) (put_steps f g h id gap after new opens e) m n way) [
      | inl old ↦ way_new f g id good new m n old one
      | inr both ↦ absurd (none_below f g id n good new other (subst (λ (k : ℕ). AtOrBelow g k n) (sym both.1.1) both.1.2))
    ])

-- no node that was there is below it then
pub leaf_put : (f g h : Forest) (id : ℕ) (gap : InsertionPoint) → IsForest f → IsForest g → IsNew f g id → IsOpenGap gap f → h ≡ moved_to (id ∷ []) gap g → (n : ℕ) → IsElement f n → AtOrBelow h id n → ⊥
leaf_put f g h id gap good after new opens e n element (inl same) = none_below f g id n good new (element_known f n element) (inl same)
leaf_put f g h id gap good after new opens e n element (inr way) =
    elim (ways_into g h (λ k. owner_at gap g ≡ Some k) (λ k. id ≡ k) (put_steps f g h id gap after new opens e) id n way) [
      | inl old ↦ none_below f g id n good new (element_known f n element) (inr old)
      | inr both ↦ none_below f g id n good new (element_known f n element) (subst (λ (k : ℕ). AtOrBelow g k n) (sym both.1.1) both.1.2)
    ]

pub fresh_made : (f g h : Forest) (id : ℕ) (gap : InsertionPoint) → IsForest f → IsForest g → IsMade f g id → IsOpenGap gap f → h ≡ moved_to (id ∷ []) gap g → IsFresh f h id
fresh_made f g h id gap good after made opens e = record {
  element = made_put f g h id made (ap (λ (k : Forest). k.content) e);
  below = leaf_put f g h id gap good after made.node opens e;
}

pub fresh_copy : (f g h : Forest) (id : ℕ) (gap : InsertionPoint) → IsForest f → IsCopy f g id → IsOpenGap gap f → h ≡ moved_to (id ∷ []) gap g → IsFresh f h id
fresh_copy f g h id gap good copy opens e = record {
  element = copy_put f g h id copy (ap (λ (k : Forest). k.content) e);
  below = leaf_put f g h id gap good (forest_copied f g id good copy) (copy_is_new f g id copy) opens e;
}

-- ---- an element is put into a copy

around_steps : (f g h : Forest) (id x : ℕ) → IsForest f → IsElement f x → IsCopy f g id → h ≡ moved_to (x ∷ []) (end_of id) g → Steps g h (λ m. Some id ≡ Some m) (λ n. x ≡ n)
around_steps f g h id x good element copy e =
    let new = copy_is_new f g id copy in
    let known = known_new f g id new in
    let there = element_known f x element in
    let number = copy.number in
    node_steps g h (end_of id) x (forest_copied f g id good copy) (omega (arith, known.0, there)) known.1 (λ same. absurd (omega (arith, number, there, same))) e

-- no node that was there is above the copy
no_onto : (f g : Forest) (id m : ℕ) → IsForest f → IsCopy f g id → m < length f.content → Onto g (λ o. Some id ≡ Some o) m → ⊥
no_onto f g id m good copy known at =
    let e : at.0 ≡ id = (let some = at.1 in cc) in
    none_over f g id m good copy known (subst (AtOrBelow g m) e at.2)

-- who is below the copy is at or below what was put into it
below_copy : (f g h : Forest) (id : ℕ) (Into : ℕ → Type 0) → IsForest f → IsCopy f g id → Steps g h (λ m. Some id ≡ Some m) Into → (n : ℕ) → n < length f.content → AtOrBelow h id n → Beyond g Into n
below_copy f g h id Into good copy steps n known (inl same) = absurd (none_below f g id n good (copy_is_new f g id copy) known (inl same))
below_copy f g h id Into good copy steps n known (inr way) =
    elim (ways_into g h (λ k. Some id ≡ Some k) Into steps id n way) [
      | inl old ↦ absurd (none_below f g id n good (copy_is_new f g id copy) known (inr old))
      | inr both ↦ both.1
    ]

-- and who was there is not above it
above_copy : (f g h : Forest) (id : ℕ) (Into : ℕ → Type 0) → IsForest f → IsCopy f g id → Steps g h (λ m. Some id ≡ Some m) Into → (m : ℕ) → m < length f.content → AtOrBelow h m id → ⊥
above_copy f g h id Into good copy steps m known (inl same) = none_over f g id m good copy known (inl same)
above_copy f g h id Into good copy steps m known (inr way) =
    elim (ways_into g h (λ k. Some id ≡ Some k) Into steps m id way) [
      | inl old ↦ none_over f g id m good copy known (inr old)
      | inr both ↦ no_onto f g id m good copy known both.0
    ]

pub grows_around : (f g h : Forest) (id x : ℕ) → IsForest f → IsElement f x → IsCopy f g id → h ≡ moved_to (x ∷ []) (end_of id) g → Grows f h
grows_around f g h id x good element copy e =
    let new = copy_is_new f g id copy in
    grows_of f h (keeps_put f g h id new (ap (λ (k : Forest). k.content) e)) (λ m n one other way.
    elim (ways_into g h (λ k. Some id ≡ Some k) (λ k. x ≡ k) (around_steps f g h id x good element copy e) m n way) [
      | inl old ↦ way_new f g id good new m n old one
      | inr both ↦ absurd (no_onto f g id m good copy one both.0)
    ])

pub is_around : (f g h : Forest) (id x : ℕ) → IsForest f → IsElement f x → IsCopy f g id → h ≡ moved_to (x ∷ []) (end_of id) g → IsAround f h id x
is_around f g h id x good element copy e =
    let steps = around_steps f g h id x good element copy e in
    record {
      element = copy_put f g h id copy (ap (λ (k : Forest). k.content) e);
      below = λ n other at. (
          let (o, is, under) = below_copy f g h id (λ k. x ≡ k) good copy steps n (element_known f n other) at in
          at_new f g id good (copy_is_new f g id copy) x n (subst (λ (k : ℕ). AtOrBelow g k n) (sym is) under) (element_known f x element)
          );
      above = λ m other at. above_copy f g h id (λ k. x ≡ k) good copy steps m (element_known f m other) at;
    }

-- ---- the children of an element are put into a copy

-- the element's children are in the copy, and it is in nothing yet
record Middle (f h : Forest) (id p : ℕ) : Type 0 where
  pub ways : (m n : ℕ) → m < length f.content → IsHostAncestor h m n → IsHostAncestor f m n
  pub below : (n : ℕ) → n < length f.content → AtOrBelow h id n → IsHostAncestor f p n
  pub above : (m : ℕ) → m < length f.content → AtOrBelow h m id → ⊥

middle_steps : (f g h : Forest) (id p : ℕ) → IsForest f → IsCopy f g id → h ≡ reparented p (Some id) g → Steps g h (λ m. Some id ≡ Some m) (λ n. is_member n (children_of g p) ≡ true)
middle_steps f g h id p good copy e m n step =
    let after = forest_copied f g id good copy in
    let out : is_member id (children_of g p) ≡ false = elim (cases_Bool (is_member id (children_of g p))) [
      | inr out ↦ out
      | inl s ↦ absurd (none_above f g id p good copy (child_step g p id after s))
    ] in
    moved_steps g (end_of id) (children_of g p) after.once (children_are g p after.once) out (known_new f g id (copy_is_new f g id copy)).1 m n
    (subst (λ (k : Forest). IsParentOrHost k m n) e step)

-- who is at or below a child of p is below p
below_child : (g : Forest) (p n : ℕ) → IsForest g → Beyond g (λ x. is_member x (children_of g p) ≡ true) n → IsHostAncestor g p n
below_child g p n good (x, s, inl e) = subst (IsHostAncestor g p) e (one_step p x (child_step g p x good s))
below_child g p n good (x, s, inr way) = onward g p x n (one_step p x (child_step g p x good s)) way

middle : (f g h : Forest) (id p : ℕ) → IsForest f → IsElement f p → IsCopy f g id → h ≡ reparented p (Some id) g → Middle f h id p
middle f g h id p good element copy e =
    let steps = middle_steps f g h id p good copy e in
    let new = copy_is_new f g id copy in
    record {
      ways = λ m n known way. elim (ways_into g h (λ k. Some id ≡ Some k) (λ k. is_member k (children_of g p) ≡ true) steps m n way) [
        | inl old ↦ way_new f g id good new m n old known
        | inr both ↦ absurd (no_onto f g id m good copy known both.0)
      ];
      below = λ n known at.
          way_new f g id good new p n
          (below_child g p n (forest_copied f g id good copy) (below_copy f g h id (λ k. is_member k (children_of g p) ≡ true) good copy steps n known at))
          (element_known f p element);
      above = λ m known at. above_copy f g h id (λ k. is_member k (children_of g p) ≡ true) good copy steps m known at;
    }

-- then the copy may be put into the element
pub copy_goes_back : (f g h : Forest) (id p : ℕ) → IsForest f → IsElement f p → IsCopy f g id → h ≡ reparented p (Some id) g → MayMove (end_of p) (Node id) h
copy_goes_back f g h id p good element copy e =
    let new = copy_is_new f g id copy in
    let same : h.content ≡ g.content = ap (λ (k : Forest). k.content) e in
    let inside = (keeps_put f g h id new same).elements p element in
    let known = element_known f p element in
    let made = copy_put f g h id copy same in
    record {
      known = element_known h id made;
      list = one_allowed h (end_of p) id (end_opens h p (element_opens h p inside)) (record {
        moves = ap (λ (k : Forest). stays k id) e ∙ moves_new f g id good new;
        apart = λ is. (let number = copy.number in absurd (omega (arith, known, number, is)));
        free = λ way. good.acyclic p ((middle f g h id p good element copy e).below p known (inr way));
      });
    }

-- the copy is put into the element
inside_steps : (f g h k : Forest) (id p : ℕ) → IsForest f → IsForest h → IsElement f p → IsCopy f g id → h ≡ reparented p (Some id) g → k ≡ moved_to (id ∷ []) (end_of p) h → Steps h k (λ m. Some p ≡ Some m) (λ n. id ≡ n)
inside_steps f g h k id p good after element copy e e' =
    let known = known_new f g id (copy_is_new f g id copy) in
    let long = ap (λ (j : Forest). length j.content) e in
    let there = element_known f p element in
    let number = copy.number in
    node_steps h k (end_of p) id after (omega (arith, known.1, long)) (omega (arith, known.0, long, there)) (λ same. absurd (omega (arith, number, there, same))) e'

-- who is above the element was so before
onto_element : (f h : Forest) (id p m : ℕ) → Middle f h id p → m < length f.content → Onto h (λ o. Some p ≡ Some o) m → AtOrBelow f m p
onto_element f h id p m mid known (o, is, inl e) = (let same : o ≡ p = cc in inl (e ∙ same))
onto_element f h id p m mid known (o, is, inr way) = (let same : o ≡ p = cc in inr (mid.ways m p known (subst (IsHostAncestor h m) same way)))

way_down : (f : Forest) (m p n : ℕ) → AtOrBelow f m p → IsHostAncestor f p n → IsHostAncestor f m n
way_down f m p n (inl e) way = subst (λ (k : ℕ). IsHostAncestor f k n) (sym e) way
way_down f m p n (inr above) way = onward f m p n above way

pub grows_inside : (f g h k : Forest) (id p : ℕ) → IsForest f → IsForest h → IsElement f p → IsCopy f g id → h ≡ reparented p (Some id) g → k ≡ moved_to (id ∷ []) (end_of p) h → Grows f k
grows_inside f g h k id p good after element copy e e' =
    let mid = middle f g h id p good element copy e in
    let first = keeps_put f g h id (copy_is_new f g id copy) (ap (λ (j : Forest). j.content) e) in
    grows_of f k (keeps_on f h k first (keeps_contents h k (ap (λ (j : Forest). j.content) e'))) (λ m n one other way.
    elim (ways_into h k (λ o. Some p ≡ Some o) (λ x. id ≡ x) (inside_steps f g h k id p good after element copy e e') m n way) [
      | inl old ↦ mid.ways m n one old
      | inr both ↦ way_down f m p n (onto_element f h id p m mid one both.0) (mid.below n other (subst (λ (j : ℕ). AtOrBelow h j n) (sym both.1.1) both.1.2))
    ])

pub is_inside : (f g h k : Forest) (id p : ℕ) → IsForest f → IsForest h → IsElement f p → IsCopy f g id → h ≡ reparented p (Some id) g → k ≡ moved_to (id ∷ []) (end_of p) h → IsInside f k id p
is_inside f g h k id p good after element copy e e' = record {
  element = (keeps_contents h k (ap (λ (j : Forest). j.content) e')).elements id (copy_put f g h id copy (ap (λ (j : Forest). j.content) e));
  below = λ n other at. under n (element_known f n other) at;
  above = λ m other at. over m (element_known f m other) at;
}
  where
    under : (n : ℕ) → n < length f.content → AtOrBelow k id n → IsHostAncestor f p n
    under n known (inl same) = absurd (none_below f g id n good (copy_is_new f g id copy) known (inl same))
    under n known (inr way) =
        elim (ways_into h k (λ o. Some p ≡ Some o) (λ x. id ≡ x) (inside_steps f g h k id p good after element copy e e') id n way) [
          | inl old ↦ (middle f g h id p good element copy e).below n known (inr old)
          | inr both ↦ (middle f g h id p good element copy e).below n known (subst (λ (j : ℕ). AtOrBelow h j n) (sym both.1.1) both.1.2)
        ]

    over : (m : ℕ) → m < length f.content → AtOrBelow k m id → AtOrBelow f m p
    over m known (inl same) = absurd (none_over f g id m good copy known (inl same))
    over m known (inr way) =
        elim (ways_into h k (λ o. Some p ≡ Some o) (λ x. id ≡ x) (inside_steps f g h k id p good after element copy e e') m id way) [
          | inl old ↦ absurd ((middle f g h id p good element copy e).above m known (inr old))
          | inr both ↦ onto_element f h id p m (middle f g h id p good element copy e) known both.0
        ]

-- ---- texts, doctypes, and what is detached

named_changed : (change : NodeData → NodeData) → KeepsKind change → (cs : List NodeData) (x n : ℕ) → option_and_then contents_named (slice_get (changed_at x change cs) n) ≡ option_and_then contents_named (slice_get cs n)
named_changed change kind [] x n = refl
named_changed change kind (y ∷ cs) zero zero = (kind y).contents
named_changed change kind (y ∷ cs) zero (suc n) = refl
named_changed change kind (y ∷ cs) (suc x) zero = refl
named_changed change kind (y ∷ cs) (suc x) (suc n) = named_changed change kind cs x n

step_changed : (f : Forest) (x : ℕ) (change : NodeData → NodeData) → KeepsKind change → (m n : ℕ) → IsParentOrHost (with_content x change f) m n → IsParentOrHost f m n
step_changed f x change kind m n (inl p) = inl p
step_changed f x change kind m n (inr held) = inr (sym (named_changed change kind f.content x m) ∙ held)

grows_changed : (f g : Forest) (x : ℕ) (change : NodeData → NodeData) → KeepsKind change → Keeps f g → g ≡ with_content x change f → Grows f g
grows_changed f g x change kind keeps e = grows_of f g keeps (λ m n one other way.
    ways_back f (with_content x change f) (step_changed f x change kind) m n (subst (λ (h : Forest). IsHostAncestor h m n) e way))

-- a text
grows_more : (f g : Forest) (before : Option ℕ) (gap : InsertionPoint) (text : List ℕ) → IsForest f → IsOpenGap gap f → Keeps f g → g ≡ with_more before gap text f → Grows f g
grows_more f g None gap text good opens keeps e =
    let free : HasFreeContents f (Text text) = λ c named. (let none : None ≡ Some c = named in cc) in
    grows_put f (with_node (Text text) f) g (length f.content) gap good (forest-more (Text text) f good free) (record { content = Text text; number = refl; movable = refl; made = inl (refl, refl) }) opens e
grows_more f g (Some n) gap text good opens keeps e = grows_changed f g n (lengthened text) (kind_longer text) keeps e

pub text_call : (r : Result Unit EditFault) (f g : Forest) (gap : InsertionPoint) (text : List ℕ) → IsForest f → IsOpenGap gap f → Edits r f g (adding_text gap text) → Grows f g
text_call (Ok done) f g gap text good opens edits = grows_more f g (text_before gap f) gap text good opens (keeps_text f g gap text edits.ok) edits.ok
text_call (Err fault) f g gap text good opens edits = grows_same f g edits.err

-- a node without contents that stands alone is a forest's
forest_alone : (f : Forest) (content : NodeData) → IsForest f → contents_named content ≡ None → IsForest (with_node content f)
forest_alone f content good plain = forest-more content f good (λ c named. (let none : None ≡ Some c = sym plain ∙ named in cc))

-- to make it as the last child of another is to make it and to put it there
child_put : (f : Forest) (t : ℕ) (content : NodeData) → IsForest f → contents_named content ≡ None → with_child t content f ≡ moved_to (length f.content ∷ []) (end_of t) (with_node content f)
child_put f t content good plain =
    ap (put (end_of t) (length f.content ∷ [])) (sym (detach-alone (with_node content f) (length f.content) (forest_alone f content good plain).once (new_alone content f good.once)))

pub grows_child : (f g : Forest) (t : ℕ) (content : NodeData) → IsForest f → IsOpenGap (end_of t) f → contents_named content ≡ None → is_top content ≡ false → g ≡ with_child t content f → Grows f g
grows_child f g t content good opens plain low e =
    let new : IsNew f (with_node content f) (length f.content) = record { content = content; number = refl; movable = low; made = inl (plain, refl) } in
    grows_put f (with_node content f) g (length f.content) (end_of t) good (forest_alone f content good plain) new opens (e ∙ child_put f t content good plain)

-- a node without contents that is made as the last child of another
pub child_call : (r : Result ℕ PageFault) (call : Result ℕ EditFault) (f g : Forest) (t : ℕ) (content : NodeData) → MatchResult r (λ n. call ≡ Ok n) (λ fault. call ≡ Err (limit_of fault)) → Makes call f g (appending t content) →
    IsForest f → children_allowed_at f t ≡ true → contents_named content ≡ None → is_top content ≡ false → Grows f g
child_call (Ok n) call f g t content is makes good opens plain low =
    let done = subst (λ (k : Result ℕ EditFault). Makes k f g (appending t content)) is makes in
    grows_child f g t content good (end_opens f t opens) plain low done.ok
child_call (Err fault) call f g t content is makes good opens plain low =
    let done = subst (λ (k : Result ℕ EditFault). Makes k f g (appending t content)) is makes in
    grows_same f g done.err

-- an element is no other's then
pub fresh_call : (r : Result ℕ PageFault) (call : Result ℕ EditFault) (f g : Forest) (t : ℕ) (element : Element) → MatchResult r (λ n. call ≡ Ok n) (λ fault. call ≡ Err (limit_of fault)) → Makes call f g (appending t (AnElement element)) →
    IsForest f → IsOpenGap (end_of t) f → element.template_contents ≡ None → IfOk r (IsFresh f g)
fresh_call (Ok n) call f g t element is makes good opens plain =
    let content = AnElement element in
    let done = subst (λ (k : Result ℕ EditFault). Makes k f g (appending t content)) is makes in
    let new : IsNew f (with_node content f) n = record { content = content; number = done.number; movable = refl; made = inl (plain, refl) } in
    fresh_made f (with_node content f) g n (end_of t) good (forest_alone f content good plain) (record { node = new; element = refl }) opens
    (done.ok ∙ child_put f t content good plain ∙ ap (λ (k : ℕ). moved_to (k ∷ []) (end_of t) (with_node content f)) (sym done.number))
fresh_call (Err fault) call f g t element is makes good opens plain = tt

step_cut : (f : Forest) (moved : List ℕ) (m n : ℕ) → IsParentOrHost (detach moved f) m n → IsParentOrHost f m n
step_cut f moved m n (inr held) = inr held
step_cut f moved m n (inl p) = elim (cases_Bool (is_member n moved)) [
  | inr g ↦ inl (sym (parent-detach moved f n ∙ cond-false (is_member n moved) None (parent f n) g) ∙ p)
  | inl t ↦ (let none : parent (detach moved f) n ≡ None = parent-detach moved f n ∙ rw t refl in cc)
]

pub grows_cut : (f g : Forest) (x : ℕ) → g ≡ detach (x ∷ []) f → Grows f g
grows_cut f g x e = grows_of f g (keeps_contents f g (ap (λ (h : Forest). h.content) e)) (λ m n one other way.
    ways_back f (detach (x ∷ []) f) (step_cut f (x ∷ [])) m n (subst (λ (h : Forest). IsHostAncestor h m n) e way))

-- ---- places

-- an element that is or holds the contents of another is or holds that one
pub at_host : (f : Forest) (x c host : ℕ) → IsForest f → IsElement f x → contents_at f host ≡ Some c → AtOrBelow f x c → AtOrBelow f x host
at_host f x c host good element held at = up at (good.contents_known host c held).1
  where
    last_step : (n : ℕ) → IsHostAncestor f x n → n ≡ c → AtOrBelow f x host
    last_step _ (one_step _ n step) e = inl (one_above f x host c good (step_inside f host c good (inr held)) (subst (IsParentOrHost f x) e step) (inr held))
    last_step _ (then_step _ k n way step) e =
        inr (subst (IsHostAncestor f x) (one_above f k host c good (step_inside f host c good (inr held)) (subst (IsParentOrHost f k) e step) (inr held)) way)

    up : AtOrBelow f x c → option_map_or is_fragment (slice_get f.content c) false ≡ true → AtOrBelow f x host
    up (inr way) fragment = last_step c way refl
    up (inl e) fragment = (let no = element_no_top (slice_get f.content c) (subst (IsElement f) e element) in let top = fragment_is_top (slice_get f.content c) fragment in cc)

-- the same of an element that may hold contents
pub contents_or : (f : Forest) (id r x : ℕ) (o : Option ℕ) → IsForest f → contents_at f id ≡ o → r ≡ unwrap_or o id → IsElement f x → AtOrBelow f x r → AtOrBelow f x id
contents_or f id r x None good held is element at = subst (AtOrBelow f x) is at
contents_or f id r x (Some c) good held is element at = at_host f x c id good element held (subst (AtOrBelow f x) is at)

-- no element is or holds the root
pub not_over_root : (f : Forest) (x : ℕ) → IsForest f → IsRooted f → IsElement f x → AtOrBelow f x 0 → ⊥
not_over_root f x good rooted element (inl e) = not_root f x rooted element e
not_over_root f x good rooted element (inr way) = no_way f x 0 (λ m step. none m step) way
  where
    none : (m : ℕ) → IsParentOrHost f m 0 → ⊥
    none m (inl p) = (let no = (good.alone 0 good.rooted refl).0 in cc)
    none m (inr held) = (good.contents_known m 0 held).0 refl
