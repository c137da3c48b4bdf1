-- Nodes that tree construction makes, and where they may go.
use Rattle.std.proofs.Common.{ℕ, ◌≡◌, ◌<◌, ◌≤◌, ◌+◌, Bool, true, false, List, [], ◌∷◌, ◌++◌, Option, Some, None, refl, sym, ap, ◌∙◌, subst, arith, inl, inr, length}
use Rattle.std.proofs.Common.{zero, suc, ◌⊎◌}
use Rattle.std.specs.Prelude.{◌==◌, ◌||◌, not, slice_get}
use Rattle.std.specs.Option.{option_and_then, option_map_or}
use Rattle.std.proofs.lemmas.Bool.{cases_Bool, eqb-true, ne_eqb}
use Rattle.std.proofs.lemmas.List.{length_push}
use Rattle.dom_nodes.specs.Kinds.{children_allowed, contents_named, is_element, is_fragment, is_top}
use Rattle.dom_nodes.specs.Attrs.{element_of}
use Rattle.dom_nodes.specs.declared.name.Attr.{Attr}
use Rattle.dom_nodes.specs.Elements.{Element as Parts}
use Rattle.dom_nodes.specs.declared.node_data.NodeData.{NodeData}
use Rattle.dom_nodes.specs.declared.node_data.NodeData.TheVariants.{Document, Fragment, Text, Element}
use Rattle.dom_links.specs.Lists.{is_member}
use Rattle.dom_links.specs.Forest.{Forest, children_of, parent}
use Rattle.dom_links.specs.Growth.{IsFree, with_lone_template, with_node}
use Rattle.dom_links.specs.ListMoves.{AllowedList, element_at}
use Rattle.dom_links.specs.declared.gap.InsertionPoint.{InsertionPoint}
use Rattle.dom_links.specs.declared.gap.InsertionPoint.TheVariants.{After, Before, EndOf, FrontOf}
use Rattle.dom_links.specs.Sound.{IsForest, IsHostAncestor, IsOpenGap, IsParentOrHost, MayPlace, children_allowed_at, contents_at, is_open, one_step, stays, target, then_step}
use Rattle.dom_links.proofs.forest.Climbs.{contents_at-known, fragment_is_top, no_way}
use Rattle.dom_links.proofs.forest.Depth.{child_step, parent_inside}
use Rattle.dom_links.proofs.forest.Grown.{contents-more, forest-more, new_parentless, parent-more, slice_get-before, slice_get-there, test-more, within}
use Rattle.dom_links.specs.AddedTexts.{lengthened, text_before, with_more, with_node_at, with_text_at}
use Rattle.dom_links.specs.Contents.{changed_at, with_content}
use Rattle.dom_links.proofs.moves.BlockKept.{children_move}
use Rattle.dom_links.proofs.texts.AddingTexts.{keeps_longer as kind_longer}
use Rattle.std.proofs.Common.{Result, Ok, Err, IfOk}
use Rattle.dom_nodes.specs.declared.fault.EditFault.{EditFault}
use Rattle.dom_nodes.specs.declared.name.NameParts.{NameParts}
use Rattle.dom_links.specs.declared.gap.MovedNodes.TheVariants.{Node}
use Rattle.dom_trees.specs.Edits.{Makes, MayMove, MayReparentOf, making}
use Rattle.dom_trees.specs.TreeUnderConstruction.{flagged_element, making_element, with_new_element}
use Rattle.dom_trees.specs.NewNodes.{comment_node}
use Rattle.dom_trees.specs.Views.{node_element}
use Rattle.dom_trees.specs.declared.tree.growing.ElementFlags.{ElementFlags}
use Rattle.std.specs.Prelude.{MatchResult}
use Rattle.page_trees.specs.declared.fault.PageFault.{PageFault}
use Rattle.page_trees.specs.Elements.{limit_of}
use Rattle.page_trees.specs.Elements.{IsCopy, IsElement, IsMade, IsNew, IsPlainNode, IsRooted, IsTemplateNode}

-- ---- what is kept

-- elements stay as they are, and the root stays a document or a fragment
pub record Keeps (old new : Forest) : Type 0 where
  pub elements : (n : ℕ) → IsElement old n → IsElement new n
  pub same : (n : ℕ) (e : Parts) → node_element old n ≡ Some e → node_element new n ≡ Some e
  pub root : IsRooted old → IsRooted new

pub keeps_on : (a b c : Forest) → Keeps a b → Keeps b c → Keeps a c
keeps_on a b c one two = record {
  elements = λ n h. two.elements n (one.elements n h);
  same = λ n e h. two.same n e (one.same n e h);
  root = λ h. two.root (one.root h);
}

pub keeps_same : (a b : Forest) → b ≡ a → Keeps a b
keeps_same a b e = record {
  elements = λ n h. ap (λ (f : Forest). element_at f n) e ∙ h;
  same = λ n x h. ap (λ (f : Forest). node_element f n) e ∙ h;
  root = λ h. ap (λ (f : Forest). option_map_or is_top (slice_get f.content 0) false) e ∙ h;
}

-- where the data stays
pub keeps_contents : (a b : Forest) → b.content ≡ a.content → Keeps a b
keeps_contents a b e = record {
  elements = λ n h. ap (λ (cs : List NodeData). option_map_or is_element (slice_get cs n) false) e ∙ h;
  same = λ n x h. ap (λ (cs : List NodeData). option_and_then element_of (slice_get cs n)) e ∙ h;
  root = λ h. ap (λ (cs : List NodeData). option_map_or is_top (slice_get cs 0) false) e ∙ h;
}

-- an element stays where nodes are added
element-more : (content : NodeData) (cs : List NodeData) (n : ℕ) (e : Parts) → option_and_then element_of (slice_get cs n) ≡ Some e →
    option_and_then element_of (slice_get (cs ++ content ∷ []) n) ≡ Some e
element-more content [] n e h = cc
element-more content (c ∷ cs) zero e h = h
element-more content (c ∷ cs) (suc n) e h = element-more content cs n e h

pub keeps_node : (content : NodeData) (f : Forest) → Keeps f (with_node content f)
keeps_node content f = record {
  elements = λ n h. test-more is_element f.content content n h;
  same = λ n e h. element-more content f.content n e h;
  root = λ h. test-more is_top f.content content 0 h;
}

pub keeps_new : (f g : Forest) (id : ℕ) → IsNew f g id → Keeps f g
keeps_new f g id new = elim new.made [
  | inl plain ↦ keeps_on f (with_node new.content f) g (keeps_node new.content f) (keeps_same _ g plain.1)
  | inr holds ↦ keeps_on f (with_node new.content f) g (keeps_node new.content f)
      (keeps_on (with_node new.content f) (with_lone_template new.content f) g (keeps_node Fragment (with_node new.content f)) (keeps_same _ g holds.1))
]

-- ---- what is new

-- the new node is there
got_node : (content : NodeData) (f : Forest) (id : ℕ) → id ≡ length f.content → slice_get (with_node content f).content id ≡ Some content
got_node content f id e = slice_get-there f.content content id e

got_template : (content : NodeData) (f : Forest) (id : ℕ) → id ≡ length f.content → slice_get (with_lone_template content f).content id ≡ Some content
got_template content f id e =
    let long = length_push f.content content in
    slice_get-before (with_node content f).content Fragment id (omega (arith, long, e)) ∙ got_node content f id e

pub got_new : (f g : Forest) (id : ℕ) (new : IsNew f g id) → slice_get g.content id ≡ Some new.content
got_new f g id new = elim new.made [
  | inl plain ↦ ap (λ (h : Forest). slice_get h.content id) plain.1 ∙ got_node new.content f id new.number
  | inr holds ↦ ap (λ (h : Forest). slice_get h.content id) holds.1 ∙ got_template new.content f id new.number
]

pub element-made : (f g : Forest) (id : ℕ) → IsMade f g id → IsElement g id
element-made f g id new = ap (λ o. option_map_or is_element o false) (got_new f g id new.node) ∙ new.element

-- an old node is as it was
kept_node : (content : NodeData) (f : Forest) (n : ℕ) → n < length f.content → slice_get (with_node content f).content n ≡ slice_get f.content n
kept_node content f n h = slice_get-before f.content content n h

kept_new : (f g : Forest) (id n : ℕ) → IsNew f g id → n < length f.content → slice_get g.content n ≡ slice_get f.content n
kept_new f g id n new h = elim new.made [
  | inl plain ↦ ap (λ (k : Forest). slice_get k.content n) plain.1 ∙ kept_node new.content f n h
  | inr holds ↦ (let long = length_push f.content new.content in
      ap (λ (k : Forest). slice_get k.content n) holds.1 ∙ kept_node Fragment (with_node new.content f) n (omega (arith, long, h)) ∙ kept_node new.content f n h)
]

-- the new node may be moved
pub moves_new : (f g : Forest) (id : ℕ) → IsForest f → IsNew f g id → stays g id ≡ false
moves_new f g id good new =
    let rooted = good.rooted in
    let not_root : (id == 0) ≡ false = ne_eqb id 0 (λ e. absurd (omega (arith, new.number, rooted, e))) in
    rw (not_root, got_new f g id new) new.movable

-- ways from a new node lead to new nodes alone
from_plain : (content : NodeData) (f : Forest) → IsForest f → contents_named content ≡ None → (m n : ℕ) → IsHostAncestor (with_node content f) m n → m ≡ length f.content → ⊥
from_plain content f good none _ _ (one_step m n (inl p)) new =
    let known = parent_inside f n m good (sym (parent-more content f n) ∙ p) in
    absurd (omega (arith, new))
from_plain content f good none _ _ (one_step m n (inr held)) new = elim (contents-more content f m n held) [
  | inl old ↦ (let known = contents_at-known f m n old in absurd (omega (arith, new)))
  | inr named ↦ (let some = named.1 in cc)
]
from_plain content f good none _ _ (then_step m k n way step) new = from_plain content f good none m k way new

-- a step from a new node, where a fragment was made behind it
step_template : (content : NodeData) (f : Forest) → IsForest f → contents_named content ≡ Some (length f.content + 1) → (m n : ℕ) → IsParentOrHost (with_lone_template content f) m n → length f.content ≤ m → length f.content ≤ n
step_template content f good named m n (inl p) new =
    let was : parent f n ≡ Some m = sym (parent-more content f n) ∙ sym (parent-more Fragment (with_node content f) n) ∙ p in
    let known = parent_inside f n m good was in
    absurd (omega (arith, new))
step_template content f good named m n (inr held) new = elim (contents-more Fragment (with_node content f) m n held) [
  | inr fragment ↦ (let some = fragment.1 in cc)
  | inl one ↦ (elim (contents-more content f m n one) [
    | inl old ↦ (let known = contents_at-known f m n old in absurd (omega (arith, new)))
    | inr host ↦ (let e : Some n ≡ Some (length f.content + 1) = sym host.1 ∙ named in let is : n ≡ length f.content + 1 = cc in omega (arith, is))
  ])
]

from_template : (content : NodeData) (f : Forest) → IsForest f → contents_named content ≡ Some (length f.content + 1) → (m n : ℕ) → IsHostAncestor (with_lone_template content f) m n → length f.content ≤ m → length f.content ≤ n
from_template content f good named _ _ (one_step m n step) new = step_template content f good named m n step new
from_template content f good named _ _ (then_step m k n way step) new = step_template content f good named k n step (from_template content f good named m k way new)

pub from_new : (f g : Forest) (id n : ℕ) → IsForest f → IsNew f g id → IsHostAncestor g id n → length f.content ≤ n
from_new f g id n good new way = elim new.made [
  | inl plain ↦ absurd (from_plain new.content f good plain.0 id n (subst (λ (h : Forest). IsHostAncestor h id n) plain.1 way) new.number)
  | inr holds ↦ (let at : length f.content ≤ id = omega (arith, new.number) in
      from_template new.content f good holds.0 id n (subst (λ (h : Forest). IsHostAncestor h id n) holds.1 way) at)
]

-- a gap stays opens
stays-new : (f g : Forest) (id n : ℕ) → IsNew f g id → n < length f.content → stays g n ≡ stays f n
stays-new f g id n new h = ap (λ o. (n == 0) || option_map_or is_top o false) (kept_new f g id n new h)

allowed-new : (f g : Forest) (id n : ℕ) → IsNew f g id → n < length f.content → children_allowed_at g n ≡ children_allowed_at f n
allowed-new f g id n new h = ap (λ o. option_map_or children_allowed o false) (kept_new f g id n new h)

opens-new : (f g : Forest) (id : ℕ) (gap : InsertionPoint) → IsNew f g id → target gap < length f.content → is_open gap g ≡ is_open gap f
opens-new f g id (EndOf t) new h = allowed-new f g id t new h
opens-new f g id (FrontOf t) new h = allowed-new f g id t new h
opens-new f g id (Before t) new h = ap not (stays-new f g id t new h)
opens-new f g id (After t) new h = ap not (stays-new f g id t new h)

pub known_new : (f g : Forest) (id : ℕ) → IsNew f g id → (length f.content < length g.content) × (id < length g.content)
known_new f g id new = elim new.made [
  | inl plain ↦ (let long = length_push f.content new.content in
      let e = ap (λ (h : Forest). length h.content) plain.1 in (omega (arith, long, e), omega (arith, long, e, new.number)))
  | inr holds ↦ (let long = length_push f.content new.content in
      let more = length_push (with_node new.content f).content Fragment in
      let e = ap (λ (h : Forest). length h.content) holds.1 in (omega (arith, long, more, e), omega (arith, long, more, e, new.number)))
]

pub one_of : (x n : ℕ) → is_member n (x ∷ []) ≡ true → x ≡ n
one_of x n s = elim (cases_Bool (x == n)) [ inl t ↦ eqb-true x n t | inr f ↦ (let no = rw f at s in cc) ]

-- the move of one node is allowed
pub one_allowed : (f : Forest) (gap : InsertionPoint) (x : ℕ) → IsOpenGap gap f → MayPlace f (target gap) x → AllowedList f gap (x ∷ [])
one_allowed f gap x opens may = record {
  target_known = opens.0;
  open_here = opens.1;
  may = λ n s. subst (MayPlace f (target gap)) (one_of x n s) may;
}

-- a new node may be put at an opens gap
pub new_allowed : (f g : Forest) (id : ℕ) (gap : InsertionPoint) → IsForest f → IsNew f g id → IsOpenGap gap f → AllowedList g gap (id ∷ [])
new_allowed f g id gap good new opens =
    let known = known_new f g id new in
    let t = opens.0 in
    one_allowed g gap id (omega (arith, known.0, t), opens-new f g id gap new t ∙ opens.1) (record {
      moves = moves_new f g id good new;
      apart = λ e. absurd (omega (arith, new.number, t, e));
      free = λ way. (let far = from_new f g id (target gap) good new way in absurd (omega (arith, far, t)));
    })

-- ---- copies

-- an element is no other node
element_is : (o : Option NodeData) → option_map_or is_element o false ≡ true → (e : Parts) × (o ≡ Some (Element e))
element_is (Some (Element e)) a = (e, refl)
element_is _ a = cc

pub element_no_top : (o : Option NodeData) → option_map_or is_element o false ≡ true → option_map_or is_top o false ≡ false
element_no_top o a = ap (λ (p : Option NodeData). option_map_or is_top p false) (element_is o a).1

element_allows : (o : Option NodeData) → option_map_or is_element o false ≡ true → option_map_or children_allowed o false ≡ true
element_allows o a = ap (λ (p : Option NodeData). option_map_or children_allowed p false) (element_is o a).1

pub copy_is_new : (f g : Forest) (id : ℕ) → IsCopy f g id → IsNew f g id
copy_is_new f g id copy = record { content = copy.content; number = copy.number; movable = element_no_top (Some copy.content) copy.element; made = inl copy.made }

pub element-copied : (f g : Forest) (id : ℕ) → IsCopy f g id → IsElement g id
unfolding copy_is_new
element-copied f g id copy = element-made f g id (record { node = copy_is_new f g id copy; element = copy.element })

-- nothing is above a new node without contents
pub none_above : (f g : Forest) (id m : ℕ) → IsForest f → IsCopy f g id → IsParentOrHost g m id → ⊥
none_above f g id m good copy step = at (subst (λ (h : Forest). IsParentOrHost h m id) copy.made.1 step)
  where
    at : IsParentOrHost (with_node copy.content f) m id → ⊥
    at (inl p) =
        let none = new_parentless f id good.once (omega (arith, copy.number)) in
        let was : parent f id ≡ Some m = sym (parent-more copy.content f id) ∙ p in
        cc
    at (inr held) = elim (contents-more copy.content f m id held) [
      | inl old ↦ (let known = within is_fragment f.content id (good.contents_known m id old).1 in absurd (omega (arith, known, copy.number)))
      | inr named ↦ (let some = named.1 in let none = copy.made.0 in cc)
    ]

-- the elements are no root
pub not_root : (f : Forest) (x : ℕ) → IsRooted f → IsElement f x → (x ≡ 0 → ⊥)
not_root f x rooted element e = (let low = element_no_top (slice_get f.content 0) (subst (λ (n : ℕ). IsElement f n) e element) in cc)

top_allows : (o : Option NodeData) → option_map_or is_top o false ≡ true → option_map_or children_allowed o false ≡ true
top_allows (Some Document) a = refl
top_allows (Some Fragment) a = refl
top_allows (Some (Element e)) a = refl
top_allows _ a = cc

-- an element may be moved
pub element_moves : (f : Forest) (x : ℕ) → IsRooted f → IsElement f x → stays f x ≡ false
element_moves f x rooted element = rw (ne_eqb x 0 (not_root f x rooted element), element_no_top (slice_get f.content x) element) refl

pub element_opens : (f : Forest) (x : ℕ) → IsElement f x → children_allowed_at f x ≡ true
element_opens f x element = element_allows (slice_get f.content x) element

pub root_opens : (f : Forest) → IsRooted f → children_allowed_at f 0 ≡ true
root_opens f rooted = top_allows (slice_get f.content 0) rooted

pub holder_known : (f : Forest) (x : ℕ) → children_allowed_at f x ≡ true → x < length f.content
holder_known f x allows = within children_allowed f.content x allows

pub element_known : (f : Forest) (x : ℕ) → IsElement f x → x < length f.content
element_known f x element = within is_element f.content x element

-- an element may be put into a new copy
pub into_copy : (f g : Forest) (id x : ℕ) → IsForest f → IsRooted f → IsElement f x → IsCopy f g id → AllowedList g (EndOf id) (x ∷ [])
into_copy f g id x good rooted element copy =
    let new = copy_is_new f g id copy in
    let grown = keeps_new f g id new in
    let known = element_known f x element in
    one_allowed g (EndOf id) x ((known_new f g id new).1, element_opens g id (element-copied f g id copy)) (record {
      moves = element_moves g x (grown.root rooted) (grown.elements x element);
      apart = λ e. absurd (omega (arith, known, copy.number, e));
      free = λ way. no_way g x id (λ m step. none_above f g id m good copy step) way;
    })

-- the children of a node may be put into a new copy
pub children_into_copy : (f g : Forest) (id p : ℕ) → IsForest f → IsForest g → IsCopy f g id → AllowedList g (EndOf id) (children_of g p)
children_into_copy f g id p good after copy =
    let new = copy_is_new f g id copy in
    record {
      target_known = (known_new f g id new).1;
      open_here = element_opens g id (element-copied f g id copy);
      may = λ n s. record {
        moves = children_move g p after n s;
        apart = λ e. none_above f g id p good copy (subst (λ (k : ℕ). IsParentOrHost g p k) e (child_step g p n after s));
        free = λ way. no_way g n id (λ m step. none_above f g id m good copy step) way;
      };
    }

-- ---- texts

-- an element that a change leaves as it is stays an element
still_element : (change : NodeData → NodeData) → ((e : Parts) → change (Element e) ≡ Element e) → (y : NodeData) → is_element y ≡ true →
    is_element (change y) ≡ true
still_element change keeps y h =
    let found = element_is (Some y) h in
    let is : y ≡ Element found.0 = (let some = found.1 in cc) in
    ap (λ (z : NodeData). is_element (change z)) is ∙ ap is_element (keeps found.0)

-- a test that a change keeps is kept
test-changed : {X : Type 0} (test : X → Bool) (change : X → X) → ((y : X) → test y ≡ true → test (change y) ≡ true) → (xs : List X) (x n : ℕ) →
    option_map_or test (slice_get xs n) false ≡ true → option_map_or test (slice_get (changed_at x change xs) n) false ≡ true
test-changed test change keeps [] x n h = h
test-changed test change keeps (y ∷ xs) zero zero h = keeps y h
test-changed test change keeps (y ∷ xs) zero (suc n) h = h
test-changed test change keeps (y ∷ xs) (suc x) zero h = h
test-changed test change keeps (y ∷ xs) (suc x) (suc n) h = test-changed test change keeps xs x n h

element-changed : (change : NodeData → NodeData) → ((e : Parts) → change (Element e) ≡ Element e) → (cs : List NodeData) (x n : ℕ) (e : Parts) →
    option_and_then element_of (slice_get cs n) ≡ Some e → option_and_then element_of (slice_get (changed_at x change cs) n) ≡ Some e
element-changed change keeps [] x n e h = h
element-changed change keeps (Element one ∷ cs) zero zero e h = ap (λ y. element_of y) (keeps one) ∙ h
element-changed change keeps (_ ∷ cs) zero zero e h = cc
element-changed change keeps (y ∷ cs) zero (suc n) e h = h
element-changed change keeps (y ∷ cs) (suc x) zero e h = h
element-changed change keeps (y ∷ cs) (suc x) (suc n) e h = element-changed change keeps cs x n e h

-- a change that leaves each element as it is
keeps_changed : (f : Forest) (x : ℕ) (change : NodeData → NodeData) → ((e : Parts) → change (Element e) ≡ Element e) → ((y : NodeData) → is_top y ≡ true → is_top (change y) ≡ true) →
    Keeps f (with_content x change f)
keeps_changed f x change keeps tops = record {
  elements = λ n h. test-changed is_element change (still_element change keeps) f.content x n h;
  same = λ n e h. element-changed change keeps f.content x n e h;
  root = λ h. test-changed is_top change tops f.content x 0 h;
}

keeps_more : (before : Option ℕ) (gap : InsertionPoint) (text : List ℕ) (f : Forest) → Keeps f (with_more before gap text f)
keeps_more None gap text f = keeps_on f (with_node (Text text) f) _ (keeps_node (Text text) f) (keeps_contents (with_node (Text text) f) (with_node_at gap (Text text) f) refl)
keeps_more (Some n) gap text f = keeps_changed f n (lengthened text) (λ e. refl) (λ y top. (kind_longer text y).top ∙ top)

pub keeps_text : (f g : Forest) (gap : InsertionPoint) (text : List ℕ) → g ≡ with_text_at gap text f → Keeps f g
keeps_text f g gap text e = keeps_on f (with_text_at gap text f) g (keeps_more (text_before gap f) gap text f) (keeps_same _ g e)

-- ---- places

-- beside a node that has a parent
pub beside_opens : (f : Forest) (x p : ℕ) → IsForest f → parent f x ≡ Some p → x < length f.content → IsOpenGap (Before x) f
beside_opens f x p good is known = (known, ap not (stays_not (cases_Bool (stays f x))))
  where
    stays_not : (stays f x ≡ true) ⊎ (stays f x ≡ false) → stays f x ≡ false
    stays_not (inr moves) = moves
    stays_not (inl top) = (let none = (good.alone x known top).0 in cc)

pub end_opens : (f : Forest) (x : ℕ) → children_allowed_at f x ≡ true → IsOpenGap (EndOf x) f
end_opens f x allows = (holder_known f x allows, allows)

fragment_allows : (o : Option NodeData) → option_map_or is_fragment o false ≡ true → option_map_or children_allowed o false ≡ true
fragment_allows o h = top_allows o (fragment_is_top o h)

-- what an element holds as its contents may have children
pub contents_opens : (f : Forest) (x c : ℕ) → IsForest f → contents_at f x ≡ Some c → children_allowed_at f c ≡ true
contents_opens f x c good held = fragment_allows (slice_get f.content c) (good.contents_known x c held).1

-- ---- the calls

-- an element of a tag
flagged : (f : Forest) (name : NameParts) (attrs : List Attr) (template mathml : Bool) →
    IsMade f (with_new_element name attrs (record { template = template; mathml_annotation_xml_integration_point = mathml }) f) (length f.content)
flagged f name attrs template mathml = record {
  node = record {
    content = flagged_element name attrs (record { template = template; mathml_annotation_xml_integration_point = mathml }) f;
    number = refl;
    movable = refl;
    made = made template;
  };
  element = refl;
}
  where
    flags : Bool → ElementFlags
    flags holds = record { template = holds; mathml_annotation_xml_integration_point = mathml }

    made : (holds : Bool) → IsPlainNode (flagged_element name attrs (flags holds) f) f (with_new_element name attrs (flags holds) f)
        ⊎ IsTemplateNode (flagged_element name attrs (flags holds) f) f (with_new_element name attrs (flags holds) f)
    made true = inr (refl, refl)
    made false = inl (refl, refl)

pub element_call : (r : Result ℕ PageFault) (call : Result ℕ EditFault) (f g : Forest) (name : NameParts) (attrs : List Attr) (flags : ElementFlags) →
    MatchResult r (λ n. call ≡ Ok n) (λ fault. call ≡ Err (limit_of fault)) → Makes call f g (making_element name attrs flags) → IfOk r (IsMade f g)
element_call (Err fault) call f g name attrs flags is makes = tt
element_call (Ok n) call f g name attrs flags is makes =
    let done = subst (λ (k : Result ℕ EditFault). Makes k f g (making_element name attrs flags)) is makes in
    subst (λ (h : Forest). IsMade f h n) (sym done.ok) (subst (IsMade f (with_new_element name attrs flags f)) (sym done.number) (flagged f name attrs flags.template flags.mathml_annotation_xml_integration_point))

pub comment_call : (r : Result ℕ PageFault) (call : Result ℕ EditFault) (f g : Forest) (text : List ℕ) →
    MatchResult r (λ n. call ≡ Ok n) (λ fault. call ≡ Err (limit_of fault)) → Makes call f g (making (comment_node text)) → IfOk r (IsNew f g)
comment_call (Err fault) call f g text is makes = tt
comment_call (Ok n) call f g text is makes =
    let done = subst (λ (k : Result ℕ EditFault). Makes k f g (making (comment_node text))) is makes in
    record { content = comment_node text; number = done.number; movable = refl; made = inl (refl, done.ok) }

-- a new node may be put at an open gap, and elements stay elements
pub new_moves : (f g : Forest) (id : ℕ) (gap : InsertionPoint) → IsForest f → IsNew f g id → IsOpenGap gap f → MayMove gap (Node id) g
new_moves f g id gap good new opens = record { known = (known_new f g id new).1; list = new_allowed f g id gap good new opens }

pub keeps_put : (f g h : Forest) (id : ℕ) → IsNew f g id → h.content ≡ g.content → Keeps f h
keeps_put f g h id new e = keeps_on f g h (keeps_new f g id new) (keeps_contents g h e)

pub made_put : (f g h : Forest) (id : ℕ) → IsMade f g id → h.content ≡ g.content → IsElement h id
made_put f g h id new e = (keeps_contents g h e).elements id (element-made f g id new)

pub copy_put : (f g h : Forest) (id : ℕ) → IsCopy f g id → h.content ≡ g.content → IsElement h id
copy_put f g h id copy e = (keeps_contents g h e).elements id (element-copied f g id copy)

pub forest_copied : (f g : Forest) (id : ℕ) → IsForest f → IsCopy f g id → IsForest g
forest_copied f g id good copy = subst IsForest (sym copy.made.1) (forest-more copy.content f good (λ c named. no_contents c named))
  where
    no_contents : (c : ℕ) → contents_named copy.content ≡ Some c → IsFree f c
    no_contents c named = (let none = copy.made.0 in cc)

pub copy_takes : (f g : Forest) (id x : ℕ) → IsForest f → IsRooted f → IsElement f x → IsCopy f g id → MayMove (EndOf id) (Node x) g
copy_takes f g id x good rooted element copy =
    let new = copy_is_new f g id copy in
    record { known = element_known g x ((keeps_new f g id new).elements x element); list = into_copy f g id x good rooted element copy }

pub copy_takes_children : (f g : Forest) (id p : ℕ) → IsForest f → IsElement f p → IsCopy f g id → MayReparentOf p (Some id) g
copy_takes_children f g id p good element copy =
    let new = copy_is_new f g id copy in
    (element_known g p ((keeps_new f g id new).elements p element), children_into_copy f g id p good (forest_copied f g id good copy) copy)
