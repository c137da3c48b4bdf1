-- What is done to the tree keeps that only formatting elements are in the list of active formatting elements.
use Rattle.std.specs.Prelude.{◌≡◌, ◌||◌, ◌&&◌, refl, ℕ, suc, zero, Bool, true, false, not, List, [], ◌∷◌, Option, None, Some, codes, drop}
use Rattle.std.specs.Prelude.{filter, length, nat_eq, nat_lt, reverse}
use Rattle.std.specs.List.{list_all, list_any}
use Rattle.std.proofs.lemmas.Option.{same_Some}
use mathlib.Core.List.{reverse_aux}
use mathlib.Core.Path.{◌∙◌, ap, subst}
use Rattle.standard_trees.specs.NameLists.{implied}
use Rattle.standard_trees.specs.RuleWords.{ButtonScope, Scope as DefaultScope}
use Rattle.standard_trees.specs.TreeStore.{CommentNode, ContentsNode, DoctypeNode, DocumentNode, ElementNode, EndOf, Html, Kind, MathMl, Node}
use Rattle.standard_trees.specs.TreeStore.{NodeAttr, Place, Space, Svg, TextNode, changed_at, is_html, is_member, key_in, local_in, node_at}
use Rattle.standard_trees.specs.TreeStore.{space_in}
use Rattle.standard_trees.specs.GrowingTree.{Entry, FormAt, FormOfContext, FormPointer, Formatting, GrowingTree, Marker, NoForm}
use Rattle.standard_trees.specs.GrowingTree.{created_element, current, ends_scope, fresh, has_in_scope, implied_of, in_scope, inserted}
use Rattle.standard_trees.specs.GrowingTree.{inserted_at, is_among, is_one, kind_of, past, place, place_in, popped_until, put, top, unstacked}
use Rattle.standard_trees.specs.GrowingTree.{with_stack}
use Rattle.standard_trees.specs.Formatting.{Climb, adopt, adopted_by, adopted_for, adopted_once, adoption, any_other_end, at_bookmark}
use Rattle.standard_trees.specs.Formatting.{attrs_of, before_in, behind_in, climb, climb_with, closed_entries, closed_item}
use Rattle.standard_trees.specs.Formatting.{closed_other, copied, ends_other, enlisted, form_ended, is_entry, is_listed, last_listed}
use Rattle.standard_trees.specs.Formatting.{last_special, local_of, marked, reconstructed, reopened, replaced, unlisted}
use Rattle.standard_trees.specs.Formatting.{without_found, without_p, without_third, wrapped}
use Rattle.standard_order.specs.FormattingListed.{formatting_names, is_formatting}
use Rattle.standard_order.proofs.Labels.{Grows, Is, Label, Makes, OnlyNodes, grows_at, grows_put, grows_same, is_at, kind_at}
use Rattle.standard_order.proofs.Labels.{labels, labels_changed, makes_element}
use Rattle.standard_order.proofs.StandingStacks.{both, same_number}
use Rattle.standard_order.proofs.GoodTrees.{label_for, makes_inserted}
use Rattle.standard_order.proofs.ListedParts.{Part, all_bookmarked, all_exchanged, and_true, part_dropped, part_filtered, part_third}

abbrev pub formatter : Label → Bool
formatter l = l.html && is_among l.name formatting_names

abbrev pub is_formatter : List Label → Entry → Bool
is_formatter ls Marker = true
is_formatter ls (Formatting n) = is_at formatter ls n

-- only formatting elements are in the list
abbrev pub Fine : GrowingTree → Type 0
Fine t = list_all (is_formatter (labels t.nodes)) t.listed ≡ true

-- the current node is one
abbrev pub Newly : GrowingTree → Type 0
Newly t = Is formatter (labels t.nodes) (current t)

pub fine_is : (t : GrowingTree) → Fine t → list_all (is_formatting t.nodes) t.listed ≡ true
fine_is t h = by t.listed h
  where
    one : (e : Entry) → is_formatter (labels t.nodes) e ≡ true → is_formatting t.nodes e ≡ true
    one Marker k = refl
    one (Formatting n) k =
        (both (is_html (space_in (kind_of t n))) (is_among (key_in (kind_of t n)) formatting_names) (kind_at formatter t.nodes n k)).1

    by : (es : List Entry) → list_all (is_formatter (labels t.nodes)) es ≡ true → list_all (is_formatting t.nodes) es ≡ true
    by [] k = refl
    by (e ∷ es) k =
        let two : (is_formatter (labels t.nodes) e ≡ true) × (list_all (is_formatter (labels t.nodes)) es ≡ true) =
        both (is_formatter (labels t.nodes) e) (list_all (is_formatter (labels t.nodes)) es) k in
        and_true (is_formatting t.nodes e) (list_all (is_formatting t.nodes) es) (one e two.0) (by es two.1)

-- ---- more nodes

entries_grown : (old new : List Node) → Grows old new → (es : List Entry) → list_all (is_formatter (labels old)) es ≡ true →
    list_all (is_formatter (labels new)) es ≡ true
entries_grown old new grows [] h = refl
entries_grown old new grows (Marker ∷ es) h = entries_grown old new grows es h
entries_grown old new grows (Formatting n ∷ es) h =
    let two : (is_at formatter (labels old) n ≡ true) × (list_all (is_formatter (labels old)) es ≡ true) =
    both (is_at formatter (labels old) n) (list_all (is_formatter (labels old)) es) h in
    and_true (is_at formatter (labels new) n) (list_all (is_formatter (labels new)) es) (grows_at formatter old new grows n two.0)
    (entries_grown old new grows es two.1)

-- the list stays, and so do the nodes
pub record Keeps (old new : GrowingTree) : Type 0 where
  pub listed : new.listed ≡ old.listed
  pub grows : Grows old.nodes new.nodes

pub fine_kept : (old new : GrowingTree) → Keeps old new → Fine old → Fine new
fine_kept old new keeps fine = ap (λ es. list_all (is_formatter (labels new.nodes)) es) keeps.listed ∙
    entries_grown old.nodes new.nodes keeps.grows old.listed fine

pub keeps_nodes : (old new : GrowingTree) → OnlyNodes old new → Keeps old new
keeps_nodes old new only = record { listed = ap (λ (t : GrowingTree). t.listed) only.only; grows = only.grows }

keeps_put : (n : ℕ) (spot : Place) (t : GrowingTree) → Keeps t (put n spot t)
keeps_put n spot t = record { listed = refl; grows = grows_put n spot t.nodes }

-- ---- elements that are made

pub keeps_inserted : (spot : Place) (space : Space) (name : List ℕ) (attrs : List NodeAttr) (t : GrowingTree) →
    Keeps t (inserted_at spot space name attrs t)
keeps_inserted spot space name attrs t =
    let makes : Makes (label_for space name) t (put (fresh t) spot (created_element space name attrs t)) =
    makes_inserted spot space name attrs t in
    record { listed = ap (λ (u : GrowingTree). u.listed) makes.only; grows = makes.grows }

pub newly_inserted : (spot : Place) (name : List ℕ) (attrs : List NodeAttr) (t : GrowingTree) → is_among name formatting_names ≡ true →
    Newly (inserted_at spot Html name attrs t)
newly_inserted spot name attrs t h = (makes_inserted spot Html name attrs t).made formatter h

local_is_key : (kind : Kind) → is_html (space_in kind) && is_among (key_in kind) formatting_names ≡ true →
    is_among (local_in kind) formatting_names ≡ true
local_is_key (ElementNode Html name attrs contents) h = h
local_is_key (ElementNode Svg name attrs contents) h = cc
local_is_key (ElementNode MathMl name attrs contents) h = cc
local_is_key (TextNode text) h = cc
local_is_key (CommentNode text) h = cc
local_is_key (DoctypeNode d) h = cc
local_is_key DocumentNode h = cc
local_is_key ContentsNode h = cc

pub local_formats : (t : GrowingTree) (n : ℕ) → Is formatter (labels t.nodes) n → is_among (local_of t n) formatting_names ≡ true
local_formats t n h = local_is_key (kind_of t n) (kind_at formatter t.nodes n h)

-- ---- parts of the list

pub fine_part : (t : GrowingTree) (es : List Entry) → Part es t.listed → Fine t → Fine (record t { listed = es })
fine_part t es part fine = part.all (is_formatter (labels t.nodes)) fine

pub fine_unlisted : (n : ℕ) (t : GrowingTree) → Fine t → Fine (unlisted n t)
fine_unlisted n t fine = fine_part t (filter (λ entry. not (is_entry n entry)) t.listed)
    (part_filtered (λ entry. not (is_entry n entry)) t.listed) fine

fine_pushed : (n : ℕ) (t : GrowingTree) → Is formatter (labels t.nodes) n → Fine t → Fine (record t { listed = Formatting n ∷ t.listed })
fine_pushed n t h fine = and_true (is_at formatter (labels t.nodes) n) (list_all (is_formatter (labels t.nodes)) t.listed) h fine

pub fine_enlisted : (t : GrowingTree) → Newly t → Fine t → Fine (enlisted t)
fine_enlisted t newly fine = fine_pushed (current t) (record t { listed = without_third t (current t) 0 t.listed }) newly
    (fine_part t (without_third t (current t) 0 t.listed) (part_third t (current t) 0 t.listed) fine)

-- an entry of the list is a formatting element
listed_formats : (ls : List Label) (n : ℕ) (es : List Entry) → list_any (is_entry n) es ≡ true → list_all (is_formatter ls) es ≡ true →
    Is formatter ls n
listed_formats ls n [] h all = cc
listed_formats ls n (Marker ∷ es) h all = listed_formats ls n es h all
listed_formats ls n (Formatting m ∷ es) h all =
    let two : (is_at formatter ls m ≡ true) × (list_all (is_formatter ls) es ≡ true) =
    both (is_at formatter ls m) (list_all (is_formatter ls) es) all in
    by (nat_eq m n) refl h two.0 (λ k. listed_formats ls n es k two.1)
  where
    by : (x : Bool) → nat_eq m n ≡ x → x || list_any (is_entry n) es ≡ true → Is formatter ls m →
        (list_any (is_entry n) es ≡ true → Is formatter ls n) → Is formatter ls n
    by true e k at more = subst (λ i. Is formatter ls i) (same_number m n e) at
    by false e k at more = more k

last_formats : (t : GrowingTree) (names : List (List ℕ)) (ls : List Label) (n : ℕ) (es : List Entry) →
    last_listed t names es ≡ Some n → list_all (is_formatter ls) es ≡ true → Is formatter ls n
last_formats t names ls n [] h all = cc
last_formats t names ls n (Marker ∷ es) h all = cc
last_formats t names ls n (Formatting m ∷ es) h all =
    let two : (is_at formatter ls m ≡ true) × (list_all (is_formatter ls) es ≡ true) =
    both (is_at formatter ls m) (list_all (is_formatter ls) es) all in
    by (is_one t names m) h two.0 (λ k. last_formats t names ls n es k two.1)
  where
    by : (x : Bool) → elim x as (λ _. Option ℕ) [ true ↦ Some m | false ↦ last_listed t names es ] ≡ Some n → Is formatter ls m →
        (last_listed t names es ≡ Some n → Is formatter ls n) → Is formatter ls n
    by true k at more = subst (λ i. Is formatter ls i) (same_Some m n k) at
    by false k at more = more k

-- ---- reconstruct the active formatting elements

abbrev pub AllFormat : List Label → List ℕ → Type 0
AllFormat ls ns = list_all (is_at formatter ls) ns ≡ true

pub format_grown : (old new : List Node) → Grows old new → (ns : List ℕ) → AllFormat (labels old) ns → AllFormat (labels new) ns
format_grown old new grows [] h = refl
format_grown old new grows (n ∷ ns) h =
    let two : (is_at formatter (labels old) n ≡ true) × AllFormat (labels old) ns =
    both (is_at formatter (labels old) n) (list_all (is_at formatter (labels old)) ns) h in
    and_true (is_at formatter (labels new) n) (list_all (is_at formatter (labels new)) ns) (grows_at formatter old new grows n two.0)
    (format_grown old new grows ns two.1)

pub closed_format : (ls : List Label) (stack : List ℕ) (es : List Entry) → list_all (is_formatter ls) es ≡ true →
    AllFormat ls (closed_entries stack es)
closed_format ls stack [] h = refl
closed_format ls stack (Marker ∷ es) h = refl
closed_format ls stack (Formatting n ∷ es) h =
    let two : (is_at formatter ls n ≡ true) × (list_all (is_formatter ls) es ≡ true) =
    both (is_at formatter ls n) (list_all (is_formatter ls) es) h in
    by (is_member n stack) two.0 (closed_format ls stack es two.1)
  where
    by : (x : Bool) → Is formatter ls n → AllFormat ls (closed_entries stack es) →
        AllFormat ls (elim x as (λ _. List ℕ) [ true ↦ [] | false ↦ n ∷ closed_entries stack es ])
    by true at rest = refl
    by false at rest = and_true (is_at formatter ls n) (list_all (is_at formatter ls) (closed_entries stack es)) at rest

pub format_turned : (ls : List Label) (ns ms : List ℕ) → AllFormat ls ns → AllFormat ls ms → AllFormat ls (reverse_aux ns ms)
format_turned ls [] ms h k = k
format_turned ls (n ∷ ns) ms h k =
    let two : (is_at formatter ls n ≡ true) × AllFormat ls ns = both (is_at formatter ls n) (list_all (is_at formatter ls) ns) h in
    format_turned ls ns (n ∷ ms) two.1 (and_true (is_at formatter ls n) (list_all (is_at formatter ls) ms) two.0 k)

fine_reopened : (ns : List ℕ) (t : GrowingTree) → AllFormat (labels t.nodes) ns → Fine t → Fine (reopened ns t)
fine_reopened [] t h fine = fine
fine_reopened (n ∷ ns) t h fine =
    fine_reopened ns (record after { listed = Formatting (current after) ∷ after.listed })
    (format_grown t.nodes after.nodes keeps.grows ns two.1)
    (fine_pushed (current after) after (newly_inserted (place t) (local_of t n) (attrs_of t n) t (local_formats t n two.0))
    (fine_kept t after keeps fine))
  where
    two : (is_at formatter (labels t.nodes) n ≡ true) × AllFormat (labels t.nodes) ns
    two = both (is_at formatter (labels t.nodes) n) (list_all (is_at formatter (labels t.nodes)) ns) h

    after : GrowingTree
    after = inserted Html (local_of t n) (attrs_of t n) t

    keeps : Keeps t after
    keeps = keeps_inserted (place t) Html (local_of t n) (attrs_of t n) t

pub fine_reconstructed : (t : GrowingTree) → Fine t → Fine (reconstructed t)
fine_reconstructed t fine =
    fine_reopened (reverse (closed_entries t.stack t.listed))
    (record t { listed = drop (length (closed_entries t.stack t.listed)) t.listed })
    (format_turned (labels t.nodes) (closed_entries t.stack t.listed) [] (closed_format (labels t.nodes) t.stack t.listed fine) refl)
    (fine_part t (drop (length (closed_entries t.stack t.listed)) t.listed)
    (part_dropped (length (closed_entries t.stack t.listed)) t.listed) fine)

-- ---- the adoption agency algorithm

pub fine_any_other : (name : List ℕ) (t : GrowingTree) → Fine t → Fine (any_other_end name t)
fine_any_other name t fine = by (ends_other t name t.stack)
  where
    by : (o : Option ℕ) → Fine (closed_other o name t)
    by None = fine
    by (Some n) = fine

-- so it is, and an element is a formatting element
abbrev Both : ℕ → GrowingTree → Type 0
Both n t = Fine t × Is formatter (labels t.nodes) n

both_kept : (n : ℕ) (old new : GrowingTree) → Keeps old new → Both n old → Both n new
both_kept n old new keeps h = (fine_kept old new keeps h.0, grows_at formatter old.nodes new.nodes keeps.grows n h.1)

copy_makes : (n : ℕ) (t : GrowingTree) → Makes (label_for Html (local_of t n)) t (copied n t)
copy_makes n t = makes_element Html (local_of t n) (attrs_of t n) t

keeps_copied : (n : ℕ) (t : GrowingTree) → Keeps t (copied n t)
keeps_copied n t = record { listed = ap (λ (u : GrowingTree). u.listed) (copy_makes n t).only; grows = (copy_makes n t).grows }

copy_formats : (n : ℕ) (t : GrowingTree) → Is formatter (labels t.nodes) n → Is formatter (labels (copied n t).nodes) (fresh t)
copy_formats n t h = (copy_makes n t).made formatter (local_formats t n h)

both_replaced : (n node : ℕ) (t : GrowingTree) → Is formatter (labels t.nodes) node → Both n t →
    Both n (replaced node (fresh t) (copied node t))
both_replaced n node t h two =
    let more : Both n (copied node t) = both_kept n t (copied node t) (keeps_copied node t) two in (
      all_exchanged (is_formatter (labels (copied node t).nodes)) node (fresh t) (copy_formats node t h) (copied node t).listed more.0,
      more.1,
    )

both_with : (n : ℕ) (more : ℕ → Option ℕ → GrowingTree → Climb) →
    ((last : ℕ) (mark : Option ℕ) (u : GrowingTree) → Both n u → Both n (more last mark u).tree) →
    (node last : ℕ) (mark : Option ℕ) (t : GrowingTree) → Both n t → Both n (climb_with more node last mark t).tree
both_with n more keeps node last mark t two = by (is_listed t node) refl
  where
    by : (x : Bool) → is_listed t node ≡ x → Both n (elim x as (λ _. Climb) [
      | true ↦ more (fresh t) (marked mark (fresh t)) (put last (EndOf (fresh t)) (replaced node (fresh t) (copied node t)))
      | false ↦ more last mark (unstacked node t)
    ]).tree
    by true e = keeps (fresh t) (marked mark (fresh t)) (put last (EndOf (fresh t)) (replaced node (fresh t) (copied node t)))
        (both_kept n (replaced node (fresh t) (copied node t)) (put last (EndOf (fresh t)) (replaced node (fresh t) (copied node t)))
        (keeps_put last (EndOf (fresh t)) (replaced node (fresh t) (copied node t)))
        (both_replaced n node t (listed_formats (labels t.nodes) node t.listed e two.0) two))
    by false e = keeps last mark (unstacked node t) two

both_climb : (n : ℕ) (nodes : List ℕ) (count last : ℕ) (mark : Option ℕ) (t : GrowingTree) → Both n t →
    Both n (climb nodes count last mark t).tree
both_climb n [] count last mark t two = two
both_climb n (node ∷ nodes) count last mark t two = by (nat_lt 3 count) (λ l m u k. both_climb n nodes (suc count) l m u k)
  where
    by : (x : Bool) → ((l : ℕ) (m : Option ℕ) (u : GrowingTree) → Both n u → Both n (climb nodes (suc count) l m u).tree) → Both n (climb_with (climb nodes (suc count)) node last mark (elim x as (λ _. GrowingTree) [
      | true ↦ unlisted node t
      | false ↦ t
    ])).tree
    by true more = both_with n (climb nodes (suc count)) more node last mark (unlisted node t) (fine_unlisted node t two.0, two.1)
    by false more = both_with n (climb nodes (suc count)) more node last mark t two

fine_bookmark : (mark : Option ℕ) (old new : ℕ) (t : GrowingTree) → Is formatter (labels t.nodes) new → Fine t →
    Fine (at_bookmark mark old new t)
fine_bookmark None old new t h fine = all_exchanged (is_formatter (labels t.nodes)) old new h t.listed fine
fine_bookmark (Some mark) old new t h fine =
    all_bookmarked (is_formatter (labels t.nodes)) new mark h (unlisted old t).listed (fine_unlisted old t fine)

fine_adopted_by : (formatting block : ℕ) (c : Climb) → Both formatting c.tree → Fine (adopted_by formatting block c)
fine_adopted_by formatting block c two =
    fine_bookmark c.mark formatting (fresh placed) moved
    (grows_at formatter copy.nodes moved.nodes same (fresh placed) (copy_formats formatting placed there.1))
    (fine_kept copy moved (record { listed = refl; grows = same }) (fine_kept placed copy (keeps_copied formatting placed) there.0))
  where
    placed : GrowingTree
    placed = put c.last (place_in c.tree (top (behind_in formatting c.tree.stack))) c.tree

    there : Both formatting placed
    there = both_kept formatting c.tree placed (keeps_put c.last (place_in c.tree (top (behind_in formatting c.tree.stack))) c.tree) two

    copy : GrowingTree
    copy = copied formatting placed

    moved : GrowingTree
    moved = wrapped block (fresh placed) copy

    children : List ℕ
    children = (node_at copy.nodes block).children

    taken : List Node
    taken = changed_at (λ node. record node { children = children }) copy.nodes (fresh placed)

    same : Grows copy.nodes moved.nodes
    same = grows_same copy.nodes moved.nodes (labels_changed (λ node. record node { children = fresh placed ∷ [] }) (λ node. refl) taken block ∙
        labels_changed (λ node. record node { children = children }) (λ node. refl) copy.nodes (fresh placed))

-- what is left of the outer loop
abbrev KeepsFine : (GrowingTree → GrowingTree) → Type 0
KeepsFine again = (u : GrowingTree) → Fine u → Fine (again u)

fine_adopted : (formatting : ℕ) (block : Option ℕ) (again : GrowingTree → GrowingTree) → KeepsFine again → (t : GrowingTree) →
    Both formatting t → Fine (adopted_once formatting block again t)
fine_adopted formatting None again keeps t two = fine_unlisted formatting (with_stack t (past (nat_eq formatting) t.stack)) two.0
fine_adopted formatting (Some block) again keeps t two =
    keeps (adopted_by formatting block climbed) (fine_adopted_by formatting block climbed
    (both_climb formatting (before_in formatting (behind_in block t.stack)) 1 block None t two))
  where
    climbed : Climb
    climbed = climb (before_in formatting (behind_in block t.stack)) 1 block None t

fine_adopted_for : (o : Option ℕ) (name : List ℕ) (again : GrowingTree → GrowingTree) → KeepsFine again → (t : GrowingTree) →
    ((n : ℕ) → o ≡ Some n → Is formatter (labels t.nodes) n) → Fine t → Fine (adopted_for o name again t)
fine_adopted_for None name again keeps t is fine = fine_any_other name t fine
fine_adopted_for (Some formatting) name again keeps t is fine =
    by (is_member formatting t.stack) (in_scope (nat_eq formatting) (ends_scope DefaultScope t) t.stack)
  where
    block : Option ℕ
    block = last_special t None (before_in formatting t.stack)

    by : (x y : Bool) → Fine (elim x as (λ _. GrowingTree) [
      | false ↦ unlisted formatting t
      | true ↦ elim y [ false ↦ t | true ↦ adopted_once formatting block again t ]
    ])
    by false y = fine_unlisted formatting t fine
    by true false = fine
    by true true = fine_adopted formatting block again keeps t (fine, is formatting refl)

fine_adopt : (times : ℕ) (name : List ℕ) → KeepsFine (adopt times name)
fine_adopt zero name t fine = fine
fine_adopt (suc times) name t fine =
    fine_adopted_for (last_listed t (name ∷ []) t.listed) name (adopt times name) (fine_adopt times name) t
    (λ n e. last_formats t (name ∷ []) (labels t.nodes) n t.listed e fine) fine

pub fine_adoption : (name : List ℕ) (t : GrowingTree) → Fine t → Fine (adoption name t)
fine_adoption name t fine = by (is_one t (name ∷ []) (current t) && not (is_listed t (current t)))
  where
    by : (x : Bool) → Fine (elim x as (λ _. GrowingTree) [ true ↦ with_stack t (drop 1 t.stack) | false ↦ adopt 8 name t ])
    by true = fine
    by false = fine_adopt 8 name t fine

-- ---- other algorithms

pub fine_without_found : (o : Option ℕ) (t : GrowingTree) → Fine t → Fine (without_found o t)
fine_without_found None t fine = fine
fine_without_found (Some n) t fine = fine_unlisted n t fine

pub fine_form_ended : (form : FormPointer) (t : GrowingTree) → Fine t → Fine (form_ended form t)
fine_form_ended NoForm t fine = fine
fine_form_ended FormOfContext t fine = fine
fine_form_ended (FormAt n) t fine = by (in_scope (nat_eq n) (ends_scope DefaultScope t) t.stack)
  where
    by : (x : Bool) → Fine (elim x as (λ _. GrowingTree) [ true ↦ unstacked n (implied_of implied [] t) | false ↦ t ])
    by true = fine
    by false = fine

pub fine_closed_item : (o : Option ℕ) (t : GrowingTree) → Fine t → Fine (closed_item o t)
fine_closed_item None t fine = fine
fine_closed_item (Some n) t fine = fine

pub fine_without_p : (t : GrowingTree) → Fine t → Fine (without_p t)
fine_without_p t fine = by (has_in_scope ButtonScope (codes "p" ∷ []) t)
  where
    by : (x : Bool) → Fine (elim x as (λ _. GrowingTree) [
      | true ↦ popped_until (codes "p" ∷ []) (implied_of implied (codes "p" ∷ []) t)
      | false ↦ t
    ])
    by true = fine
    by false = fine
