-- The numbers that tree construction holds, as its stack, its list and its tree change.
use Rattle.std.proofs.Common.{ℕ, ◌≡◌, ◌+◌, suc, List, [], ◌∷◌, ◌++◌, None, Option, Some, take, drop, Result, Ok, Err, refl, sym, ap, subst, ◌∙◌, ◌≤◌}
use Rattle.std.specs.Prelude.{All, OnErr, OnOk, insert, remove, slice_get, slice_set}
use Rattle.std.specs.Option.{option_map_or, option_to_list}
use Rattle.std.proofs.lemmas.List.{take-append-drop}
use Rattle.std.proofs.lemmas.List.Elements.{All-append, All-cons, All-drop, All-pop, All-push, All-same, All-set, All-take, All-weaker}
use Rattle.std.proofs.lemmas.Option.{IfSome_then, slice_get_within}
use Rattle.dom_links.specs.Forest.{Forest}
use Rattle.dom_links.specs.Moves.{moved_to}
use Rattle.dom_links.specs.declared.gap.InsertionPoint.{InsertionPoint}
use Rattle.dom_links.specs.Sound.{IsForest, IsOpenGap, target}
use Rattle.page_trees.specs.Elements.{AreElements, AreOpen, Grows, IsAround, IsElement, IsEntry, IsForm, IsFresh, IsInOrder, IsInside, LiesIn}
use Rattle.page_trees.specs.Likeness.{KnowsLikes, Listed}
use Rattle.page_trees.specs.declared.fault.PageFault.{PageFault}
use Rattle.page_trees.specs.declared.formatting.Entry.{Entry}
use Rattle.page_trees.specs.declared.formatting.Entry.TheVariants.{Element, Marker}
use Rattle.page_trees.specs.declared.pointers.FormPointer.{FormPointer}
use Rattle.page_trees.specs.declared.pointers.FormPointer.TheVariants.{Context, Element as TheForm, None as NoForm}
use Rattle.page_trees.specs.declared.stack.Open.{Open}
use Rattle.page_trees.specs.Popping.{before_last, is_a_marker}
use Rattle.page_trees.proofs.Carrying.{carried_next}
use Rattle.page_trees.proofs.LikeKeys.{likes_kept}
use Rattle.page_trees.proofs.PoppingLemmas.{all_before_last}
use Rattle.page_trees.proofs.MadeNodes.{Keeps, keeps_contents}
use Rattle.page_trees.proofs.StackOrder.{order_copied, order_front, order_grown, order_moved, order_pushed, order_removed, order_renewed}

pub all_removed : {X : Type 0} (P : X → Type 0) (xs ys : List X) (i : ℕ) → ys ≡ remove xs i → All P xs → All P ys
all_removed P xs ys i e all = All-same P ys (remove xs i) e (All-append P (take i xs) (drop (suc i) xs) (All-take P i xs all) (All-drop P (suc i) xs all))

pub all_left : {X : Type 0} → (P : X → Type 0) (xs : List X) (place : Option ℕ) → All P xs → All P (option_map_or (remove xs) place xs)
all_left P xs None all = all
all_left P xs (Some p) all = all_removed P xs (remove xs p) p refl all

pub all_inserted : {X : Type 0} (P : X → Type 0) (xs ys : List X) (i : ℕ) (x : X) → ys ≡ insert xs i x → P x → All P xs → All P ys
all_inserted P xs ys i x e one all =
    All-same P ys (insert xs i x) e (All-append P (take i xs) (x ∷ drop i xs) (All-take P i xs all) (All-cons P x (drop i xs) one (All-drop P i xs all)))

pub with_stack : (f : Forest) (os ns : List Open) (es : Listed) (h : Option ℕ) (m : FormPointer) (c : Option Open) → AreElements f os es h m c → AreOpen f ns → IsInOrder f ns → AreElements f ns es h m c
with_stack f os ns es h m c all now order = record {
  root = all.root;
  stack = now;
  order = order;
  formatting = all.formatting;
  likes = all.likes;
  head = all.head;
  form = all.form;
  context = all.context;
}

pub with_entries : (f : Forest) (os : List Open) (es ns : Listed) (h : Option ℕ) (m : FormPointer) (c : Option Open) → AreElements f os es h m c → All (IsEntry f) ns.entries → KnowsLikes f ns → AreElements f os ns h m c
with_entries f os es ns h m c all now likes = record {
  root = all.root;
  stack = all.stack;
  order = all.order;
  formatting = now;
  likes = likes;
  head = all.head;
  form = all.form;
  context = all.context;
}

pub stack_removed : (f : Forest) (os ns : List Open) (es : Listed) (h : Option ℕ) (m : FormPointer) (c : Option Open) (i : ℕ) → AreElements f os es h m c → ns ≡ remove os i → AreElements f ns es h m c
stack_removed f os ns es h m c i all e =
    with_stack f os ns es h m c all (all_removed (λ o. IsElement f o.id) os ns i e all.stack) (subst (IsInOrder f) (sym e) (order_removed f os i all.order))

pub stack_taken : (f : Forest) (os ns : List Open) (es : Listed) (h : Option ℕ) (m : FormPointer) (c : Option Open) (r : Option Open) → AreElements f os es h m c → os ≡ ns ++ option_to_list r → AreElements f ns es h m c
stack_taken f os ns es h m c r all e =
    with_stack f os ns es h m c all (All-pop (λ o. IsElement f o.id) os ns r e all.stack).0 (order_front f ns (option_to_list r) (subst (IsInOrder f) e all.order))

pub stack_cut : (f : Forest) (os ns : List Open) (es : Listed) (h : Option ℕ) (m : FormPointer) (c : Option Open) (n : ℕ) → AreElements f os es h m c → ns ≡ take n os → AreElements f ns es h m c
stack_cut f os ns es h m c n all e =
    let order = order_front f (take n os) (drop n os) (subst (IsInOrder f) (sym (take-append-drop n os)) all.order) in
    with_stack f os ns es h m c all (All-same (λ (o : Open). IsElement f o.id) ns (take n os) e (All-take (λ (o : Open). IsElement f o.id) n os all.stack)) (subst (IsInOrder f) (sym e) order)

pub entries_removed : (f : Forest) (os : List Open) (es ns : Listed) (h : Option ℕ) (m : FormPointer) (c : Option Open) (i : ℕ) → AreElements f os es h m c → ns.entries ≡ remove es.entries i →
    (KnowsLikes f es → KnowsLikes f ns) → AreElements f os ns h m c
entries_removed f os es ns h m c i all e likes =
    with_entries f os es ns h m c all (all_removed (IsEntry f) es.entries ns.entries i e all.formatting) (likes all.likes)

pub entries_inserted : (f : Forest) (os : List Open) (es ns : Listed) (h : Option ℕ) (m : FormPointer) (c : Option Open) (i : ℕ) (o : Open) (r : Result Unit PageFault) → AreElements f os es h m c → IsElement f o.id →
    OnOk r (ns.entries ≡ insert es.entries i (Element o)) → OnErr r (ns.entries ≡ es.entries) → (KnowsLikes f es → KnowsLikes f ns) → AreElements f os ns h m c
entries_inserted f os es ns h m c i o (Ok done) all one ok err likes =
    with_entries f os es ns h m c all (all_inserted (IsEntry f) es.entries ns.entries i (Element o) ok one all.formatting) (likes all.likes)
entries_inserted f os es ns h m c i o (Err fault) all one ok err likes =
    with_entries f os es ns h m c all (All-same (IsEntry f) ns.entries es.entries err all.formatting) (likes all.likes)

-- ---- the tree grows

keeps_of : (f g : Forest) → Grows f g → Keeps f g
keeps_of f g grows = record { elements = grows.elements; same = grows.same; root = grows.root }

entry_kept : (f g : Forest) → Keeps f g → (entry : Entry) → IsEntry f entry → IsEntry g entry
entry_kept f g keeps Marker is = tt
entry_kept f g keeps (Element o) is = keeps.elements o.id is

form_kept : (f g : Forest) → Keeps f g → (form : FormPointer) → IsForm f form → IsForm g form
form_kept f g keeps NoForm is = tt
form_kept f g keeps (TheForm n) is = keeps.elements n is
form_kept f g keeps Context is = tt

open_kept : (f g : Forest) (os : List Open) → Keeps f g → AreOpen f os → AreOpen g os
open_kept f g os keeps are = All-weaker (λ (o : Open). IsElement f o.id) (λ (o : Open). IsElement g o.id) (λ o is. keeps.elements o.id is) os are

-- all but the stack
kept : (f g : Forest) (os ns : List Open) (es : Listed) (h : Option ℕ) (m : FormPointer) (c : Option Open) → AreElements f os es h m c → Keeps f g → AreOpen g ns → IsInOrder g ns → AreElements g ns es h m c
kept f g os ns es h m c all keeps are order = record {
  root = keeps.root all.root;
  stack = are;
  order = order;
  formatting = All-weaker (IsEntry f) (IsEntry g) (entry_kept f g keeps) es.entries all.formatting;
  likes = likes_kept f g keeps.same es.entries es.likes all.likes;
  head = IfSome_then h all.head (λ n is. keeps.elements n is);
  form = form_kept f g keeps m all.form;
  context = IfSome_then c all.context (λ o is. keeps.elements o.id is);
}

pub grown : (f g : Forest) (os : List Open) (es : Listed) (h : Option ℕ) (m : FormPointer) (c : Option Open) → AreElements f os es h m c → Grows f g → AreElements g os es h m c
grown f g os es h m c all grows = kept f g os os es h m c all (keeps_of f g grows) (open_kept f g os (keeps_of f g grows) all.stack) (order_grown f g os grows all.stack all.order)

-- an element that was made is opened
pub stack_pushed : (f g : Forest) (os ns : List Open) (es : Listed) (h : Option ℕ) (m : FormPointer) (c : Option Open) (o : Open) (r : Result Unit PageFault) → AreElements f os es h m c → Grows f g → IsFresh f g o.id →
    OnOk r (ns ≡ os ++ o ∷ []) → OnErr r (ns ≡ os) → AreElements g ns es h m c
stack_pushed f g os ns es h m c o (Ok done) all grows fresh ok err =
    kept f g os ns es h m c all (keeps_of f g grows)
    (All-same (λ (p : Open). IsElement g p.id) ns (os ++ o ∷ []) ok (All-push (λ (p : Open). IsElement g p.id) os o (open_kept f g os (keeps_of f g grows) all.stack) fresh.element))
    (subst (IsInOrder g) (sym ok) (order_pushed f g os o grows fresh all.stack all.order))
stack_pushed f g os ns es h m c o (Err fault) all grows fresh ok err = subst (λ ps. AreElements g ps es h m c) (sym err) (grown f g os es h m c all grows)

-- a copy leaves the place of an element, and is opened behind the one that it lies in
pub stack_carried : (f g : Forest) (os ns : List Open) (es : Listed) (h : Option ℕ) (m : FormPointer) (c : Option Open) (p n : ℕ) (copy furthest : Open) → IsForest f → AreElements f os es h m c → Grows f g →
    IsInside f g copy.id furthest.id → slice_get os n ≡ Some furthest → p ≤ n → ns ≡ insert (remove os p) n copy → AreElements g ns es h m c
stack_carried f g os ns es h m c p n copy furthest good all grows inside there le e =
    let same = e ∙ sym (carried_next os p n copy le (slice_get_within os n furthest there)) in
    let are = all_inserted (λ (o : Open). IsElement g o.id) os (insert os (n + 1) copy) (n + 1) copy refl inside.element (open_kept f g os (keeps_of f g grows) all.stack) in
    kept f g os ns es h m c all (keeps_of f g grows)
    (all_removed (λ (o : Open). IsElement g o.id) (insert os (n + 1) copy) ns p same are)
    (subst (IsInOrder g) (sym same) (order_removed g (insert os (n + 1) copy) p (order_copied f g os n copy furthest good grows inside all.stack there all.order)))

-- a copy takes the places of an element
pub stack_renewed : (f g : Forest) (os ns : List Open) (es fs : Listed) (h : Option ℕ) (m : FormPointer) (c : Option Open) (n i : ℕ) (copy last : Open) → AreElements f os es h m c → Grows f g → IsAround f g copy.id last.id →
    slice_get os (n + 1) ≡ Some last → ns ≡ slice_set os n copy → fs.entries ≡ slice_set es.entries i (Element copy) → (KnowsLikes g es → KnowsLikes g fs) → AreElements g ns fs h m c
stack_renewed f g os ns es fs h m c n i copy last all grows around there e e' likes =
    let now = kept f g os ns es h m c all (keeps_of f g grows)
    (All-same (λ (p : Open). IsElement g p.id) ns (slice_set os n copy) e (All-set (λ (p : Open). IsElement g p.id) os n copy around.element (open_kept f g os (keeps_of f g grows) all.stack)))
    (subst (IsInOrder g) (sym e) (order_renewed f g os n copy last grows around all.stack there all.order)) in
    with_entries g ns es fs h m c now
    (All-same (IsEntry g) fs.entries (slice_set es.entries i (Element copy)) e' (All-set (IsEntry g) es.entries i (Element copy) around.element now.formatting))
    (likes now.likes)

-- a copy is opened, and takes the place of an entry
pub entry_renewed : (f : Forest) (os : List Open) (es fs : Listed) (h : Option ℕ) (m : FormPointer) (c : Option Open) (i : ℕ) (o : Open) → AreElements f os es h m c → IsElement f o.id →
    fs.entries ≡ slice_set es.entries i (Element o) → (KnowsLikes f es → KnowsLikes f fs) → AreElements f os fs h m c
entry_renewed f os es fs h m c i o all element e likes =
    with_entries f os es fs h m c all
    (All-same (IsEntry f) fs.entries (slice_set es.entries i (Element o)) e (All-set (IsEntry f) es.entries i (Element o) element all.formatting))
    (likes all.likes)

-- an are element is moved into those before it
pub stack_moved : (f g : Forest) (os : List Open) (es : Listed) (h : Option ℕ) (m : FormPointer) (c : Option Open) (n : ℕ) (gap : InsertionPoint) (last : Open) → IsForest f → AreElements f os es h m c → slice_get os (n + 1) ≡ Some last →
    IsOpenGap gap f → LiesIn f (take n os) (target gap) → g ≡ moved_to (last.id ∷ []) gap f → AreElements g os es h m c
stack_moved f g os es h m c n gap last good all there opens lies e =
    let keeps = keeps_contents f g (ap (λ (k : Forest). k.content) e) in
    kept f g os os es h m c all keeps (open_kept f g os keeps all.stack) (order_moved f g os n gap last good all.stack all.order there opens lies e)

-- the list is cleared up to its last marker
pub entries_cleared : (f : Forest) (os : List Open) (es ns : Listed) (h : Option ℕ) (m : FormPointer) (c : Option Open) → AreElements f os es h m c →
    ns.entries ≡ before_last is_a_marker es.entries → (KnowsLikes f es → KnowsLikes f ns) → AreElements f os ns h m c
entries_cleared f os es ns h m c all e likes =
    with_entries f os es ns h m c all
    (All-same (IsEntry f) ns.entries (before_last is_a_marker es.entries) e (all_before_last (IsEntry f) is_a_marker es.entries all.formatting))
    (likes all.likes)
