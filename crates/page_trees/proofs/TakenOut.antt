-- An element is removed from the stack of open elements, on which it is at most once.
use Rattle.std.proofs.Common.{◌≡◌, ℕ, ◌<◌, ◌+◌, ◌&&◌, ◌||◌, not, Bool, true, false, List, [], ◌∷◌, ◌++◌, map, reverse, refl, sym, ap, ◌∙◌, length, Option, Some, None, subst, suc, zero, arith, inl, true≢false, if◌then◌else◌}
use Rattle.std.specs.Prelude.{All, nat_eq, remove}
use Rattle.std.specs.List.{list_any}
use Rattle.std.proofs.Math.ListN.{get_or}
use Rattle.std.proofs.Math.Seq.{get_or-append_seam}
use Rattle.std.proofs.lemmas.Bool.{eqb-true, ne_eqb}
use Rattle.std.proofs.lemmas.List.{get_or_append_left, length_push, reverse-append}
use Rattle.std.proofs.lemmas.List.Edits.{remove-append_left}
use Rattle.std.proofs.lemmas.List.Elements.{All-cons, All-from_get_or, All-head, All-nil, All-tail}
use Rattle.dom_links.specs.Forest.{Forest}
use Rattle.standard_trees.specs.GrowingTree.{GrowingTree, unstacked}
use Rattle.standard_trees.specs.TreeStore.{Node, is_member, without}
use Rattle.page_trees.specs.Elements.{IsInOrder}
use Rattle.page_trees.specs.Listing.{Unstacks}
use Rattle.page_trees.specs.Reopening.{index_at, is_this}
use Rattle.page_trees.specs.Scopes.{last_place}
use Rattle.page_trees.specs.Sets.{is_in_html}
use Rattle.page_trees.specs.Stands.{AllStand, Builds, EntryStands}
use Rattle.page_trees.specs.TreeState.{TreeState}
use Rattle.page_trees.specs.declared.formatting.Entry.{Entry}
use Rattle.page_trees.specs.declared.stack.Open.{Open}
use Rattle.page_trees.proofs.AgencyEnds.{index_some, not_open, this_is, turned_test}
use Rattle.page_trees.proofs.BuiltStacks.{built_on}
use Rattle.page_trees.proofs.NumberedNames.{removed_numbered}
use Rattle.page_trees.proofs.CopiedElements.{formatting_html}
use Rattle.page_trees.proofs.NamesAgree.{both}
use Rattle.page_trees.proofs.ScopeLemmas.{by_ends, last_place_le, last_place_push}
use Rattle.page_trees.proofs.StackOrder.{order_front}

-- ---- lists of ids

-- no number stands twice
abbrev pub opens_once : List ℕ → Bool
opens_once [] = true
opens_once (n ∷ ns) = not (is_member n ns) && opens_once ns

not_true : (b : Bool) → not b ≡ true → b ≡ false
not_true true e = sym e
not_true false e = refl

-- an id that isn't there
pub none_without : (n : ℕ) (ns : List ℕ) → is_member n ns ≡ false → without n ns ≡ ns
none_without n [] h = refl
none_without n (m ∷ ns) h = by (nat_eq n m) (nat_eq m n) (turned_test m n) h (none_without n ns)
  where
    by : (b c : Bool) → b ≡ c → (b || list_any (nat_eq n) ns) ≡ false → (is_member n ns ≡ false → without n ns ≡ ns) → (if not c then m ∷ without n ns else without n ns) ≡ m ∷ ns
    by true c e h more = absurd (true≢false h)
    by false true e h more = absurd (true≢false (sym e))
    by false false e h more = ap (λ (xs : List ℕ). m ∷ xs) (more h)

-- ---- the stack

-- the stack without the element stands for the stack without its id
pub record IsTakenOut (nodes : List Node) (n : ℕ) (elements left : List Open) : Type 0 where
  pub ids : without n (map (λ o. o.id) (reverse elements)) ≡ map (λ o. o.id) (reverse left)
  pub stand : AllStand nodes (reverse left)

last_removed : (xs : List Open) (x : Open) (n : ℕ) → n ≡ length xs → remove (xs ++ x ∷ []) n ≡ xs
last_removed [] x zero at = refl
last_removed [] x (suc n) at = absurd (omega (arith, at))
last_removed (y ∷ xs) x zero at = absurd (omega (arith, at))
last_removed (y ∷ xs) x (suc n) at = ap (λ (ys : List Open). y ∷ ys) (last_removed xs x n (omega (arith, at)))

turned : (ys : List Open) (y : Open) → reverse (ys ++ y ∷ []) ≡ y ∷ reverse ys
turned ys y = reverse-append ys (y ∷ [])

abbrev Takes : GrowingTree → Open → List Open → Type 0
Takes t x xs =
    (p : ℕ) → AllStand t.nodes (reverse xs) → opens_once (map (λ o. o.id) (reverse xs)) ≡ true → last_place (is_this x.name x.id) xs ≡ p + 1 →
    IsTakenOut t.nodes x.id xs (remove xs p)

-- the last element goes
top_gone : (t : GrowingTree) (x : Open) (ys : List Open) (y : Open) (p : ℕ) → AllStand t.nodes (reverse ys) → is_member y.id (map (λ o. o.id) (reverse ys)) ≡ false →
    nat_eq x.id y.id ≡ true → length ys + 1 ≡ p + 1 → IsTakenOut t.nodes x.id (ys ++ y ∷ []) (remove (ys ++ y ∷ []) p)
top_gone t x ys y p all alone is e =
    let rest : remove (ys ++ y ∷ []) p ≡ ys = last_removed ys y p (omega (arith, e)) in
    let same : x.id ≡ y.id = eqb-true x.id y.id is in
    let ids : List ℕ = map (λ o. o.id) (reverse ys) in
    record {
      ids = ap (λ (os : List Open). without x.id (map (λ o. o.id) os)) (turned ys y)
          ∙ ap (λ b. if not b then y.id ∷ without x.id ids else without x.id ids) (turned_test x.id y.id ∙ is)
          ∙ none_without x.id ids (ap (λ n. is_member n ids) same ∙ alone)
          ∙ ap (λ (os : List Open). map (λ o. o.id) (reverse os)) (sym rest);
      stand = subst (λ (os : List Open). AllStand t.nodes (reverse os)) (sym rest) all;
    }

-- another one goes
top_left : (t : GrowingTree) (x : Open) (ys : List Open) (y : Open) (p : ℕ) → AllStand t.nodes (y ∷ reverse ys) → nat_eq x.id y.id ≡ false → p < length ys →
    IsTakenOut t.nodes x.id ys (remove ys p) → IsTakenOut t.nodes x.id (ys ++ y ∷ []) (remove (ys ++ y ∷ []) p)
top_left t x ys y p all not_this inside more =
    let rest : remove (ys ++ y ∷ []) p ≡ remove ys p ++ y ∷ [] = remove-append_left ys (y ∷ []) p inside in
    let back : reverse (remove (ys ++ y ∷ []) p) ≡ y ∷ reverse (remove ys p) = ap (λ (os : List Open). reverse os) rest ∙ turned (remove ys p) y in
    let ids : List ℕ = map (λ o. o.id) (reverse ys) in
    record {
      ids = ap (λ (os : List Open). without x.id (map (λ o. o.id) os)) (turned ys y)
          ∙ ap (λ b. if not b then y.id ∷ without x.id ids else without x.id ids) (turned_test x.id y.id ∙ not_this)
          ∙ ap (λ (ns : List ℕ). y.id ∷ ns) more.ids ∙ ap (λ (os : List Open). map (λ o. o.id) os) (sym back);
      stand = subst (AllStand t.nodes) (sym back) (all.0, more.stand);
    }

taken_out : (t : GrowingTree) (x : Open) → EntryStands t.nodes (Entry.Element x) → (xs : List Open) → Takes t x xs
taken_out t x stands = by_ends (Takes t x) (λ p all once e. absurd (omega (arith, e))) (λ ys y more p all once e.
    let here : AllStand t.nodes (y ∷ reverse ys) = subst (AllStand t.nodes) (turned ys y) all in
    let parts = both (not (is_member y.id (map (λ o. o.id) (reverse ys)))) (opens_once (map (λ o. o.id) (reverse ys)))
    (ap (λ (os : List Open). opens_once (map (λ o. o.id) os)) (sym (turned ys y)) ∙ once) in
    by ys y p here more parts.1 (not_true _ parts.0) (is_this x.name x.id y) (this_is t x stands y here.0) (sym (last_place_push (is_this x.name x.id) ys y) ∙ e))
  where
    by : (ys : List Open) (y : Open) (p : ℕ) → AllStand t.nodes (y ∷ reverse ys) → Takes t x ys → opens_once (map (λ o. o.id) (reverse ys)) ≡ true →
        is_member y.id (map (λ o. o.id) (reverse ys)) ≡ false → (b : Bool) → b ≡ nat_eq x.id y.id →
        (if b then length ys + 1 else last_place (is_this x.name x.id) ys) ≡ p + 1 → IsTakenOut t.nodes x.id (ys ++ y ∷ []) (remove (ys ++ y ∷ []) p)
    by ys y p all more once alone true is e = top_gone t x ys y p all.1 alone (sym is) e
    by ys y p all more once alone false is e =
        let inside = last_place_le (is_this x.name x.id) ys in
        top_left t x ys y p all (sym is) (omega (arith, e, inside)) (more p all.1 once e)

-- ---- by the order of the open elements, none is open twice

not_member : (n : ℕ) (xs : List Open) → All (λ o. n ≡ o.id → ⊥) xs → is_member n (map (λ o. o.id) (reverse xs)) ≡ false
not_member n = by_ends (λ xs. All (λ o. n ≡ o.id → ⊥) xs → is_member n (map (λ o. o.id) (reverse xs)) ≡ false) (λ all. refl) (λ ys y more all.
    let parts = apart_there (λ o. n ≡ o.id → ⊥) ys (y ∷ []) all in
    let other : nat_eq n y.id ≡ false = ne_eqb n y.id (All-head (λ (o : Open). n ≡ o.id → ⊥) y [] parts.1) in
    ap (λ (os : List Open). is_member n (map (λ o. o.id) os)) (turned ys y) ∙ ap (λ b. b || is_member n (map (λ o. o.id) (reverse ys))) other ∙ more parts.0)
  where
    apart_there : (P : Open → Type 0) (xs ys : List Open) → All P (xs ++ ys) → All P xs × All P ys
    apart_there P [] ys all = (All-nil P, all)
    apart_there P (x ∷ xs) ys all =
        let more = apart_there P xs ys (All-tail P x (xs ++ ys) all) in
        (All-cons P x xs (All-head P x (xs ++ ys) all) more.0, more.1)

true_both : (a b : Bool) → a ≡ true → b ≡ true → (a && b) ≡ true
true_both true b e f = f
true_both false b e f = absurd (true≢false (sym e))

-- the last element is none of those before
last_apart : (f : Forest) (ys : List Open) (y : Open) → IsInOrder f (ys ++ y ∷ []) → All (λ o. y.id ≡ o.id → ⊥) ys
last_apart f ys y order = All-from_get_or (λ (o : Open). y.id ≡ o.id → ⊥) ys y (λ i within e.
    let long = length_push ys y in
    let low : get_or (ys ++ y ∷ []) i y ≡ get_or ys i y = get_or_append_left ys (y ∷ []) y i within in
    let high : get_or (ys ++ y ∷ []) (length ys) y ≡ y = get_or-append_seam ys y [] y in
    order i (length ys) y within (omega (arith, long)) (inl (ap (λ (o : Open). o.id) high ∙ e ∙ ap (λ (o : Open). o.id) (sym low))))

pub order_once : (f : Forest) (xs : List Open) → IsInOrder f xs → opens_once (map (λ o. o.id) (reverse xs)) ≡ true
order_once f = by_ends (λ xs. IsInOrder f xs → opens_once (map (λ o. o.id) (reverse xs)) ≡ true) (λ order. refl) (λ ys y more order.
    ap (λ (os : List Open). opens_once (map (λ o. o.id) os)) (turned ys y)
    ∙ true_both (not (is_member y.id (map (λ o. o.id) (reverse ys)))) (opens_once (map (λ o. o.id) (reverse ys))) (ap not (not_member y.id ys (last_apart f ys y order)))
    (more (order_front f ys (y ∷ []) order)))

pub stack_once : (s : TreeState) (t : GrowingTree) → IsInOrder s.forest s.stack → Builds s t → opens_once t.stack ≡ true
stack_once s t order b = ap opens_once b.stack.ids ∙ order_once s.forest s.stack order

-- ---- by what the calls do

found_out : (s : TreeState) (t : GrowingTree) (x : Open) (p : ℕ) → Builds s t → EntryStands t.nodes (Entry.Element x) → opens_once t.stack ≡ true →
    last_place (is_this x.name x.id) s.stack ≡ p + 1 → Builds (record s { stack = remove s.stack p }) (unstacked x.id t)
found_out s t x p b stands once e =
    let out = taken_out t x stands s.stack p b.stack.nodes (ap opens_once (sym b.stack.ids) ∙ once) e in
    built_on s t (remove s.stack p) (without x.id t.stack) b (record { ids = ap (without x.id) b.stack.ids ∙ out.ids; nodes = out.stand })
    (removed_numbered s.numbers t.nodes s.stack p b.numbered)

none_out : (s : TreeState) (t : GrowingTree) (x : Open) → Builds s t → is_member x.id t.stack ≡ false → Builds s (unstacked x.id t)
none_out s t x b none =
    let same = none_without x.id t.stack none in
    built_on s t s.stack (without x.id t.stack) b (record { ids = same ∙ b.stack.ids; nodes = b.stack.nodes }) b.numbered

html_is : (x : Open) (nodes : List Node) → EntryStands nodes (Entry.Element x) → is_in_html x.ns ≡ true
html_is x nodes stands = ap is_in_html (formatting_html x stands.1)

abbrev pub FindsPlace : Open → TreeState → Option ℕ → Type 0
FindsPlace x view r = is_in_html x.ns ≡ true → r ≡ index_at (last_place (is_this x.name x.id) view.stack)

pub unstacks_found : (old view new : TreeState) (x : Open) (p : ℕ) (r : Option ℕ) → IsInOrder view.forest view.stack → view ≡ old → FindsPlace x view r → r ≡ Some p →
    new ≡ record old { stack = remove old.stack p } → Unstacks x old new
unstacks_found old view new x p r order same at found e t stands b =
    let place : Some p ≡ index_at (last_place (is_this x.name x.id) old.stack) =
    sym found ∙ at (html_is x t.nodes stands) ∙ ap (λ (s : TreeState). index_at (last_place (is_this x.name x.id) s.stack)) same in
    subst (λ (s : TreeState). Builds s (unstacked x.id t)) (sym e) (found_out old t x p b stands (stack_once old t (subst (λ (s : TreeState). IsInOrder s.forest s.stack) same order) b) (index_some _ p place))

pub unstacks_none : (old view : TreeState) (x : Open) (r : Option ℕ) → view ≡ old → FindsPlace x view r → r ≡ None → Unstacks x old old
unstacks_none old view x r same at none t stands b =
    let place : None ≡ index_at (last_place (is_this x.name x.id) old.stack) =
    sym none ∙ at (html_is x t.nodes stands) ∙ ap (λ (s : TreeState). index_at (last_place (is_this x.name x.id) s.stack)) same in
    none_out old t x b (not_open old t x b stands place)
