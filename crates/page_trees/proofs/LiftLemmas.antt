-- The moves that make a tree nest less deep.
use Rattle.std.proofs.Common.{◌≡◌, ℕ, ◌<◌, Bool, true, false, List, [], ◌∷◌, ◌++◌, length, Option, Some, None, ◌⊎◌, refl, sym, ◌∙◌, ap, subst, append-nil, append_assoc, arith, inl, inr}
use Rattle.std.specs.Prelude.{◌==◌, ◌||◌, is_some, not}
use Rattle.std.proofs.lemmas.Bool.{cases_Bool, cases_lt, eqb-true}
use Rattle.std.proofs.lemmas.List.{get_or_past}
use Rattle.dom_links.specs.Lists.{IsDistinct, is_member, put_after, without}
use Rattle.dom_links.specs.Forest.{Forest, children_of, parent}
use Rattle.dom_links.specs.ListMoves.{element_at}
use Rattle.dom_links.specs.Moves.{children_with, detach, moved_to}
use Rattle.dom_links.specs.Sound.{IsForest, IsHostAncestor, MayPlace, one_step, stays, then_step}
use Rattle.dom_links.specs.declared.gap.InsertionPoint.TheVariants.{After}
use Rattle.dom_links.specs.declared.gap.MovedNodes.TheVariants.{Node}
use Rattle.dom_links.proofs.forest.Depth.{here_stands, step_inside}
use Rattle.dom_links.proofs.forest.Neighbours.{is_member-append, without-append, without_one-none}
use Rattle.dom_links.proofs.forest.Places.{get_or-map_all, length-map_from}
use Rattle.dom_links.proofs.moves.BlockGaps.{after_absent_list}
use Rattle.dom_links.proofs.moves.BlockKept.{children_move}
use Rattle.dom_links.proofs.moves.Cuts.{children-detach}
use Rattle.dom_links.proofs.moves.Stripping.{only_here}
use Rattle.dom_trees.specs.Edits.{MayMove}
use Rattle.page_trees.specs.Lifts.{IsInsideOf, Lifts, all_lifted, has_no_element, lifts}

-- ---- steps after steps

pub lifts_on : (b c a : Forest) → Lifts b a → Lifts c b → Lifts c a
lifts_on b c _ all_lifted more = more
lifts_on b c _ (lifts a element n child inside last later) more = lifts a element n child inside last (lifts_on b c _ later more)

pub lifts_same : (a b : Forest) → b ≡ a → Lifts b a
lifts_same a b e = subst (Lifts b) e all_lifted

-- ---- what is moved

stands_between : (before behind : List ℕ) (c : ℕ) → is_member c (before ++ c ∷ behind) ≡ true
stands_between before behind c = is_member-append before (c ∷ behind) c ∙ (ap (λ b. is_member c before || b) (here_stands c behind) ∙ or_true (is_member c before))
  where
    or_true : (b : Bool) → (b || true) ≡ true
    or_true true = refl
    or_true false = refl

pub member_of : (f : Forest) (n c : ℕ) (before behind : List ℕ) → children_of f n ≡ before ++ c ∷ behind → is_member c (children_of f n) ≡ true
member_of f n c before behind e = ap (is_member c) e ∙ stands_between before behind c

-- the element contains the children of what is inside it
way_down : (f : Forest) (x n c : ℕ) → IsForest f → IsInsideOf f x n → is_member c (children_of f n) ≡ true → IsHostAncestor f x c
way_down f x n c good (inl e) s = one_step x c (inl (subst (λ (k : ℕ). parent f c ≡ Some k) e (good.once.in_children n c s).1))
way_down f x n c good (inr held) s = then_step x n c (one_step x n (inr held)) (inl (good.once.in_children n c s).1)

along : (f : Forest) (a b c : ℕ) → IsHostAncestor f a b → IsHostAncestor f b c → IsHostAncestor f a c
along f a _ _ one (one_step b c step) = then_step a b c one step
along f a _ _ one (then_step b k c way step) = then_step a k c (along f a b k one way) step

-- such a child may become the next sibling of the element
pub may_lift : (f : Forest) (x n c : ℕ) → IsForest f → stays f x ≡ false → IsInsideOf f x n → is_member c (children_of f n) ≡ true → x < length f.content → MayMove (After x) (Node c) f
may_lift f x n c good free inside s known =
    let way = way_down f x n c good inside s in
    record {
      known = (good.once.in_children n c s).0;
      list = record {
        target_known = known;
        open_here = rw free refl;
        may = λ k t. (let is : c ≡ k = one_of c k t in subst (λ (j : ℕ). MayPlace f x j) is (record {
          moves = children_move f n good c s;
          apart = λ e. good.acyclic x (subst (IsHostAncestor f x) e way);
          free = λ back. good.acyclic x (along f x c x way back);
        }));
      };
    }
  where
    one_of : (x n : ℕ) → is_member n (x ∷ []) ≡ true → x ≡ n
    one_of x n s = elim (cases_Bool (x == n)) [ inl t ↦ eqb-true x n t | inr f ↦ (let no = rw f at s in cc) ]

-- a node with a parent may have siblings
beside_parent : (f : Forest) (x q : ℕ) → IsForest f → parent f x ≡ Some q → stays f x ≡ false
beside_parent f x q good is = elim (cases_Bool (stays f x)) [
  | inr free ↦ free
  | inl top ↦ (let none = (good.alone x (step_inside f q x good (inl is)) top).0 in cc)
]

children_behind : (f : Forest) (x q : ℕ) (cs : List ℕ) → children_of (moved_to cs (After x) f) q ≡ put_after x cs (without cs (children_of f q))
children_behind f x q cs = elim (cases_lt q (length (detach cs f).children)) [
  | inl h ↦ get_or-map_all (children_with (After x) cs) (detach cs f).children q h ∙ ap (put_after x cs) (children-detach cs f q)
  | inr past ↦ (let none : children_of (detach cs f) q ≡ [] = get_or_past (detach cs f).children q [] past in
      let long = length-map_from 0 (children_with (After x) cs) (detach cs f).children in
      get_or_past ((moved_to cs (After x) f).children) q [] (omega (arith, long)) ∙ sym (ap (put_after x cs) (sym (children-detach cs f q) ∙ none)))
]

outside : (f : Forest) (x n : ℕ) → IsForest f → IsInsideOf f x n → is_member x (children_of f n) ≡ false
outside f x n good inside = elim (cases_Bool (is_member x (children_of f n))) [
  | inr out ↦ out
  | inl s ↦ absurd (good.acyclic x (way_down f x n x good inside s))
]

-- the other children are left
pub left_behind : (f : Forest) (x n c : ℕ) (before behind : List ℕ) → IsForest f → IsInsideOf f x n → children_of f n ≡ before ++ c ∷ behind →
    children_of (moved_to (c ∷ []) (After x) f) n ≡ before ++ behind
left_behind f x n c before behind good inside e =
    let once : IsDistinct (before ++ c ∷ behind) = subst (λ (ns : List ℕ). IsDistinct ns) e (good.once.children_once n) in
    let apart = only_here before behind c once in
    let here : is_member c (c ∷ []) ≡ true = here_stands c [] in
    let cut : without (c ∷ []) (before ++ c ∷ behind) ≡ before ++ behind =
    without-append (c ∷ []) before (c ∷ behind) ∙ (ap (λ ns. ns ++ without (c ∷ []) (c ∷ behind)) (without_one-none before c apart.0)
    ∙ ap (λ ns. before ++ ns) (rw here (without_one-none behind c apart.1))) in
    let out : is_member x (before ++ behind) ≡ false = less before behind (sym (ap (is_member x) e) ∙ outside f x n good inside) in
    children_behind f x n (c ∷ []) ∙ (ap (λ ns. put_after x (c ∷ []) (without (c ∷ []) ns)) e ∙ (ap (put_after x (c ∷ [])) cut ∙ after_absent_list (before ++ behind) x (c ∷ []) out))
  where
    neither : (a b d : Bool) → (a || (b || d)) ≡ false → (a || d) ≡ false
    neither false false d h = h
    neither true b d h = h
    neither false true d h = cc

    less : (ns ms : List ℕ) → is_member x (ns ++ c ∷ ms) ≡ false → is_member x (ns ++ ms) ≡ false
    less ns ms h = is_member-append ns ms x ∙ neither (is_member x ns) (c == x) (is_member x ms) (sym (is_member-append ns (c ∷ ms) x) ∙ h)

-- ---- the loop over the children

-- the children that are left, behind which no element stands
pub record Lifting (old now : Forest) (x n : ℕ) (left : List ℕ) : Type 0 where
  pub tail : List ℕ
  pub split : children_of now n ≡ left ++ tail
  pub others : has_no_element now tail ≡ true
  pub inside : IsInsideOf now x n
  pub free : stays now x ≡ false
  pub known : x < length now.content
  pub lifted : Lifts now old

lifting_begins_at : (f : Forest) (x q n : ℕ) (left : List ℕ) → IsForest f → parent f x ≡ Some q → IsInsideOf f x n → left ≡ children_of f n → Lifting f f x n left
lifting_begins_at f x q n left good above inside are = record {
  tail = [];
  split = sym are ∙ sym (append-nil left);
  others = refl;
  inside = inside;
  free = beside_parent f x q good above;
  known = step_inside f q x good (inl above);
  lifted = all_lifted;
}

pub lifting_begins : (f g : Forest) (x n : ℕ) (above : Option ℕ) (left : List ℕ) → IsForest f → g ≡ f → above ≡ parent g x → (b : Bool) → is_some above ≡ not b → b ≡ false → IsInsideOf f x n → left ≡ children_of f n →
    Lifting f f x n left
lifting_begins f g x n None left good same is b none some inside are = cc
lifting_begins f g x n (Some q) left good same is b none some inside are = lifting_begins_at f x q n left good (sym (is ∙ ap (λ (h : Forest). parent h x) same)) inside are

-- the last of the children that are left
last_is : (f : Forest) (x n c : ℕ) (left rest tail : List ℕ) → left ≡ rest ++ c ∷ [] → children_of f n ≡ left ++ tail → children_of f n ≡ rest ++ c ∷ tail
last_is f x n c left rest tail popped split = split ∙ (ap (λ ns. ns ++ tail) popped ∙ append_assoc rest (c ∷ []) tail)

pub lifting_moves : (old now : Forest) (x n c : ℕ) (left rest : List ℕ) → IsForest now → Lifting old now x n left → left ≡ rest ++ c ∷ [] → MayMove (After x) (Node c) now
lifting_moves old now x n c left rest good before popped =
    may_lift now x n c good before.free before.inside (member_of now n c rest before.tail (last_is now x n c left rest before.tail popped before.split)) before.known

pub lifting_goes_on : (old now new : Forest) (x n c : ℕ) (left rest : List ℕ) → IsForest now → Lifting old now x n left → left ≡ rest ++ c ∷ [] →
    (element_at now c ≡ true → new ≡ moved_to (c ∷ []) (After x) now) → (element_at now c ≡ false → new ≡ now) → Lifting old new x n rest
lifting_goes_on old now new x n c left rest good before popped moved same = at (cases_Bool (element_at now c))
  where
    split : children_of now n ≡ rest ++ c ∷ before.tail
    split = last_is now x n c left rest before.tail popped before.split

    at : (element_at now c ≡ true) ⊎ (element_at now c ≡ false) → Lifting old new x n rest
    at (inl t) = subst (λ (f : Forest). Lifting old f x n rest) (sym (moved t)) (record {
      tail = before.tail;
      split = left_behind now x n c rest before.tail good before.inside split;
      others = before.others;
      inside = before.inside;
      free = before.free;
      known = before.known;
      lifted = lifts_on now (moved_to (c ∷ []) (After x) now) old before.lifted (lifts now x n c before.inside (record {
        before = rest;
        behind = before.tail;
        children = split;
        element = t;
        others = before.others;
      }) all_lifted);
    })
    at (inr f) = subst (λ (g : Forest). Lifting old g x n rest) (sym (same f)) (record {
      tail = c ∷ before.tail;
      split = split;
      others = rw f before.others;
      inside = before.inside;
      free = before.free;
      known = before.known;
      lifted = before.lifted;
    })
