-- Edits that are allowed are refused by limits alone.
use Rattle.std.proofs.Common.{ℕ, ◌≡◌, ◌<◌, Bool, true, false, List, [], ◌∷◌, Some, None, Result, Ok, Err, ap, arith, inl, inr, length}
use Rattle.std.specs.Prelude.{IfErr, not}
use Rattle.dom_nodes.specs.Kinds.{contents_named, is_top}
use Rattle.dom_nodes.specs.declared.fault.EditFault.{EditFault}
use Rattle.dom_nodes.specs.declared.fault.EditFault.TheVariants.{UnknownNode, NoChildrenHere, RootOrFragment, Cycle, TooManyNodes, Memory, BadContents}
use Rattle.dom_nodes.specs.declared.node_data.NodeData.{NodeData}
use Rattle.dom_links.specs.Forest.{Forest, children_of}
use Rattle.dom_links.specs.Growth.{DataCause, NodeCause, NoRoom}
use Rattle.dom_links.specs.ListMoves.{AllowedList}
use Rattle.dom_links.specs.Sound.{AtOrBelow, IsOpenGap, is_open, target}
use Rattle.dom_links.specs.declared.gap.InsertionPoint.{InsertionPoint}
use Rattle.dom_links.specs.declared.gap.InsertionPoint.TheVariants.{After, Before, EndOf, FrontOf}
use Rattle.dom_links.specs.declared.gap.MovedNodes.TheVariants.{Node}
use Rattle.dom_trees.specs.Edits.{MayMove, MayReparentOf}
use Rattle.dom_trees.specs.TreeUnderConstruction.{AddTextCause, AttrsCause, ElementCause}
use Rattle.dom_trees.specs.Refusals.{KnownCause, LacksChildren, LacksSiblings, ListCause, MoveCause, ReparentCause}
use Rattle.page_trees.specs.Elements.{IsElement, IsLimit, IsRooted}
use Rattle.page_trees.proofs.MadeNodes.{element_known, holder_known, root_opens}

no_both : (b : Bool) → b ≡ true → b ≡ false → ⊥
no_both b t f = cc

lacks_children : (f : Forest) (gap : InsertionPoint) → is_open gap f ≡ true → LacksChildren f gap → ⊥
lacks_children f (EndOf t) opens lacks = no_both _ opens lacks
lacks_children f (FrontOf t) opens lacks = no_both _ opens lacks
lacks_children f (Before t) opens lacks = lacks
lacks_children f (After t) opens lacks = lacks

lacks_siblings : (f : Forest) (gap : InsertionPoint) → is_open gap f ≡ true → LacksSiblings f gap → ⊥
lacks_siblings f (EndOf t) opens lacks = lacks
lacks_siblings f (FrontOf t) opens lacks = lacks
lacks_siblings f (Before t) opens lacks = no_both _ opens (ap not lacks)
lacks_siblings f (After t) opens lacks = no_both _ opens (ap not lacks)

-- a list that may be moved isn't refused
list_refused : (f : Forest) (gap : InsertionPoint) (x : ℕ) (moved : List ℕ) (fault : EditFault) → x < length f.content → AllowedList f gap moved → ListCause f gap x moved fault → ⊥
list_refused f gap x moved UnknownNode known may (inl far) = (let here = may.target_known in absurd (omega (arith, far, here)))
list_refused f gap x moved UnknownNode known may (inr far) = absurd (omega (arith, far, known))
list_refused f gap x moved NoChildrenHere known may lacks = lacks_children f gap may.open_here lacks
list_refused f gap x moved RootOrFragment known may (inl lacks) = lacks_siblings f gap may.open_here lacks
list_refused f gap x moved RootOrFragment known may (inr some) = no_both _ some.2 (may.may some.0 some.1).moves
list_refused f gap x moved Cycle known may some = circle some.2
  where
    circle : AtOrBelow f some.0 (target gap) → ⊥
    circle (inl e) = (may.may some.0 some.1).apart e
    circle (inr way) = (may.may some.0 some.1).free way
list_refused f gap x moved _ known may none = none

pub move_refused : (f : Forest) (gap : InsertionPoint) (x : ℕ) (fault : EditFault) → MayMove gap (Node x) f → MoveCause gap (Node x) f fault → ⊥
move_refused f gap x fault may cause = list_refused f gap x (x ∷ []) fault may.known may.list cause

pub reparent_refused : (f : Forest) (x p : ℕ) (fault : EditFault) → MayReparentOf x (Some p) f → ReparentCause x (Some p) f fault → ⊥
reparent_refused f x p fault may cause = list_refused f (EndOf p) x (children_of f x) fault may.0 may.1 cause

pub removal_refused : (f : Forest) (x : ℕ) (fault : EditFault) → IsElement f x → KnownCause x f fault → ⊥
removal_refused f x UnknownNode element far = (let known = element_known f x element in absurd (omega (arith, known, far)))
removal_refused f x _ element none = none

-- what fails, fails by a limit
pub limits_alone : {A : Type 0} (r : Result A EditFault) (Cause : EditFault → Type 0) → ((fault : EditFault) → Cause fault → IsLimit fault) → IfErr r Cause → IfErr r IsLimit
limits_alone (Ok x) Cause then h = h
limits_alone (Err fault) Cause then h = then fault h

pub text_limit : (f : Forest) (gap : InsertionPoint) (fault : EditFault) → IsOpenGap gap f → AddTextCause gap f fault → IsLimit fault
text_limit f gap UnknownNode opens far = (let known = opens.0 in absurd (omega (arith, known, far)))
text_limit f gap NoChildrenHere opens lacks = absurd (lacks_children f gap opens.1 lacks)
text_limit f gap RootOrFragment opens lacks = absurd (lacks_siblings f gap opens.1 lacks)
text_limit f gap TooManyNodes opens far = tt
text_limit f gap Memory opens h = tt
text_limit f gap _ opens none = none

pub attrs_limit : (f : Forest) (x : ℕ) (fault : EditFault) → IsElement f x → AttrsCause x f fault → IsLimit fault
attrs_limit f x UnknownNode element far = (let known = element_known f x element in absurd (omega (arith, known, far)))
attrs_limit f x Memory element h = tt
attrs_limit f x _ element none = absurd none

room_limit : (count : ℕ) (fault : EditFault) → NoRoom count fault → IsLimit fault
room_limit count TooManyNodes h = tt
room_limit count Memory h = tt
room_limit count _ none = none

pub element_limit : (template : Bool) (count : ℕ) (fault : EditFault) → ElementCause template count fault → IsLimit fault
element_limit false count fault cause = room_limit count fault cause
element_limit true count TooManyNodes h = tt
element_limit true count Memory h = tt
element_limit true count _ none = none

-- a node that holds no contents
pub node_limit : (f : Forest) (content : NodeData) (fault : EditFault) → contents_named content ≡ None → NodeCause f content fault → IsLimit fault
node_limit f content TooManyNodes plain h = tt
node_limit f content Memory plain h = tt
node_limit f content BadContents plain some = (let named = some.1 in cc)
node_limit f content _ plain none = none

pub top_limit : (f : Forest) (content : NodeData) (fault : EditFault) → IsRooted f → contents_named content ≡ None → is_top content ≡ false → DataCause f 0 content fault → IsLimit fault
top_limit f content UnknownNode rooted plain low far = (let known = holder_known f 0 (root_opens f rooted) in absurd (omega (arith, known, far)))
top_limit f content NoChildrenHere rooted plain low lacks = absurd (no_both _ (root_opens f rooted) lacks)
top_limit f content RootOrFragment rooted plain low top = absurd (no_both _ top low)
top_limit f content Cycle rooted plain low some = (let named = some.1 in cc)
top_limit f content TooManyNodes rooted plain low h = tt
top_limit f content Memory rooted plain low h = tt
top_limit f content BadContents rooted plain low some = (let named = some.1 in cc)
top_limit f content _ rooted plain low none = none
