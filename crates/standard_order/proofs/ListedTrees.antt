-- What is done to the tree keeps that each element is in the list of active formatting elements once at most.
use Rattle.std.specs.Prelude.{◌≡◌, ◌&&◌, refl, ℕ, zero, suc, Bool, true, false, not, List, [], ◌∷◌, ◌++◌, Option, None, Some, ◌<◌, ◌≤◌}
use Rattle.std.specs.Prelude.{codes, drop, filter, length, map, nat_eq, nat_lt, reverse}
use Rattle.std.specs.List.{list_all}
use Rattle.std.proofs.Common.{arith}
use Rattle.std.proofs.lemmas.Bool.{lt-ltb, ltb-true}
use mathlib.Core.Path.{◌∙◌, sym, ap, subst}
use Rattle.standard_trees.specs.NameLists.{implied}
use Rattle.standard_trees.specs.RuleWords.{ButtonScope, Scope as DefaultScope}
use Rattle.standard_trees.specs.TreeStore.{EndOf, Html, Node, NodeAttr, Place, Space, changed_at, is_member, node_at, removed}
use Rattle.standard_trees.specs.GrowingTree.{Entry, FormAt, FormOfContext, FormPointer, Formatting, GrowingTree, Marker, NoForm}
use Rattle.standard_trees.specs.GrowingTree.{created_element, current, ends_scope, fresh, has_in_scope, implied_of, in_scope, inserted}
use Rattle.standard_trees.specs.GrowingTree.{inserted_at, is_one, past, place, place_in, popped_until, put, top, unstacked, with_stack}
use Rattle.standard_trees.specs.Formatting.{Climb, adopt, adopted_by, adopted_for, adopted_once, adoption, any_other_end, at_bookmark}
use Rattle.standard_trees.specs.Formatting.{attrs_of, before_in, behind_in, climb, climb_with, closed_entries, closed_item}
use Rattle.standard_trees.specs.Formatting.{closed_other, copied, ends_other, enlisted, form_ended, is_entry, is_listed, last_listed}
use Rattle.standard_trees.specs.Formatting.{last_special, local_of, marked, reconstructed, reopened, replaced, replaced_entry, unlisted}
use Rattle.standard_trees.specs.Formatting.{without_found, without_p, without_third, wrapped}
use Rattle.standard_order.specs.ListedOnce.{is_below, lists_once}
use Rattle.standard_order.proofs.Labels.{Grows, Label, Makes, OnlyNodes, is_at, labels, length_put, makes_element}
use Rattle.standard_order.proofs.StandingStacks.{both}
use Rattle.standard_order.proofs.GoodTrees.{label_for, makes_inserted}
use Rattle.standard_order.proofs.ListedParts.{Part, all_bookmarked, all_exchanged, and_true, apart, fresh_apart, once_before}
use Rattle.standard_order.proofs.ListedParts.{once_bookmarked, once_exchanged, part_dropped, part_filtered, part_third}

-- each element is in the list once at most, and is a node
abbrev pub Once : GrowingTree → Type 0
Once t = (lists_once t.listed ≡ true) × (list_all (is_below (length t.nodes)) t.listed ≡ true)

-- the current node is a node, and is not in the list
abbrev pub Newly : GrowingTree → Type 0
Newly t = (list_all (apart (current t)) t.listed ≡ true) × (nat_lt (current t) (length t.nodes) ≡ true)

-- ---- more nodes

below_more : (n m : ℕ) → n ≤ m → (es : List Entry) → list_all (is_below n) es ≡ true → list_all (is_below m) es ≡ true
below_more n m le [] h = refl
below_more n m le (Marker ∷ es) h = below_more n m le es h
below_more n m le (Formatting k ∷ es) h =
    let two : (nat_lt k n ≡ true) × (list_all (is_below n) es ≡ true) = both (nat_lt k n) (list_all (is_below n) es) h in
    let less = ltb-true k n two.0 in
    and_true (nat_lt k m) (list_all (is_below m) es) (lt-ltb k m (omega (arith, less, le))) (below_more n m le es two.1)

-- the list stays, and no node is taken away
pub record Keeps (old new : GrowingTree) : Type 0 where
  pub listed : new.listed ≡ old.listed
  pub longer : length old.nodes ≤ length new.nodes

pub once_kept : (old new : GrowingTree) → Keeps old new → Once old → Once new
once_kept old new keeps once = (
  ap lists_once keeps.listed ∙ once.0,
  ap (λ es. list_all (is_below (length new.nodes)) es) keeps.listed ∙
      below_more (length old.nodes) (length new.nodes) keeps.longer old.listed once.1,
)

length_labels : (nodes : List Node) → length (labels nodes) ≡ length nodes
length_labels [] = refl
length_labels (node ∷ nodes) = ap suc (length_labels nodes)

length_more : (xs ys : List Label) → length xs ≤ length (xs ++ ys)
length_more [] ys = omega arith
length_more (x ∷ xs) ys = let le = length_more xs ys in omega (arith, le)

grows_longer : (old new : List Node) → Grows old new → length old ≤ length new
grows_longer old new grows =
    let le = length_more (labels old) grows.0 in
    let one = length_labels old in
    let two = sym (length_labels new) ∙ ap length grows.1 in
    omega (arith, le, one, two)

pub keeps_nodes : (old new : GrowingTree) → OnlyNodes old new → Keeps old new
keeps_nodes old new only = record {
  listed = ap (λ (t : GrowingTree). t.listed) only.only;
  longer = grows_longer old.nodes new.nodes only.grows;
}

length_changed : (f : Node → Node) (nodes : List Node) (n : ℕ) → length (changed_at f nodes n) ≡ length nodes
length_changed f [] n = refl
length_changed f (node ∷ nodes) zero = refl
length_changed f (node ∷ nodes) (suc n) = ap suc (length_changed f nodes n)

pub length_removed : (n : ℕ) (nodes : List Node) → length (removed n nodes) ≡ length nodes
length_removed n [] = refl
length_removed n (node ∷ nodes) = ap suc (length_removed n nodes)

same_longer : (n m : ℕ) → m ≡ n → n ≤ m
same_longer n m e = omega (arith, e)

pub keeps_long : (t : GrowingTree) (nodes : List Node) → length nodes ≡ length t.nodes → Keeps t (record t { nodes = nodes })
keeps_long t nodes e = record { listed = refl; longer = same_longer (length t.nodes) (length nodes) e }

once_put : (n : ℕ) (spot : Place) (t : GrowingTree) → Once t → Once (put n spot t)
once_put n spot t once = once_kept t (put n spot t) (record {
  listed = refl;
  longer = same_longer (length t.nodes) (length (put n spot t).nodes) (length_put n spot t.nodes);
}) once

-- ---- elements that are made

at_below : (ls : List Label) (n : ℕ) → is_at (λ l. true) ls n ≡ true → n < length ls
at_below [] n h = cc
at_below (l ∷ ls) zero h = omega arith
at_below (l ∷ ls) (suc n) h = let less = at_below ls n h in omega (arith, less)

-- the list stays, and the next node is added
pub record Adds (old new : GrowingTree) : Type 0 where
  pub keeps : Keeps old new
  pub there : nat_lt (fresh old) (length new.nodes) ≡ true

made_adds : (l : Label) (old new : GrowingTree) → Makes l old new → Adds old new
made_adds l old new makes = record {
  keeps = record { listed = ap (λ (t : GrowingTree). t.listed) makes.only; longer = grows_longer old.nodes new.nodes makes.grows };
  there = subst (λ n. nat_lt (fresh old) n ≡ true) (length_labels new.nodes)
      (lt-ltb (fresh old) (length (labels new.nodes)) (at_below (labels new.nodes) (fresh old) (makes.made (λ k. true) refl)));
}

pub inserted_adds : (spot : Place) (space : Space) (name : List ℕ) (attrs : List NodeAttr) (t : GrowingTree) →
    Adds t (inserted_at spot space name attrs t)
inserted_adds spot space name attrs t =
    let adds : Adds t (put (fresh t) spot (created_element space name attrs t)) =
    made_adds (label_for space name) t (put (fresh t) spot (created_element space name attrs t)) (makes_inserted spot space name attrs t)
    in
    record { keeps = record { listed = adds.keeps.listed; longer = adds.keeps.longer }; there = adds.there }

-- the number of a new node is not in the list
fresh_out : (old new : GrowingTree) → Adds old new → Once old → list_all (apart (fresh old)) new.listed ≡ true
fresh_out old new adds once = ap (λ es. list_all (apart (fresh old)) es) adds.keeps.listed ∙ fresh_apart (fresh old) old.listed once.1

pub once_inserted : (spot : Place) (space : Space) (name : List ℕ) (attrs : List NodeAttr) (t : GrowingTree) → Once t →
    Once (inserted_at spot space name attrs t)
once_inserted spot space name attrs t once =
    once_kept t (inserted_at spot space name attrs t) (inserted_adds spot space name attrs t).keeps once

pub newly_inserted : (spot : Place) (space : Space) (name : List ℕ) (attrs : List NodeAttr) (t : GrowingTree) → Once t →
    Newly (inserted_at spot space name attrs t)
newly_inserted spot space name attrs t once =
    let adds : Adds t (inserted_at spot space name attrs t) = inserted_adds spot space name attrs t in
    (fresh_out t (inserted_at spot space name attrs t) adds once, adds.there)

-- ---- parts of the list

pub once_part : (t : GrowingTree) (es : List Entry) → Part es t.listed → Once t → Once (record t { listed = es })
once_part t es part once = (part.once once.0, part.all (is_below (length t.nodes)) once.1)

pub once_unlisted : (n : ℕ) (t : GrowingTree) → Once t → Once (unlisted n t)
once_unlisted n t once = once_part t (filter (λ entry. not (is_entry n entry)) t.listed)
    (part_filtered (λ entry. not (is_entry n entry)) t.listed) once

-- a new entry
once_pushed : (n : ℕ) (t : GrowingTree) → list_all (apart n) t.listed ≡ true → nat_lt n (length t.nodes) ≡ true → Once t →
    Once (record t { listed = Formatting n ∷ t.listed })
once_pushed n t out there once = (
  once_before n t.listed out once.0,
  and_true (nat_lt n (length t.nodes)) (list_all (is_below (length t.nodes)) t.listed) there once.1,
)

pub once_enlisted : (t : GrowingTree) → Newly t → Once t → Once (enlisted t)
once_enlisted t newly once =
    let part : Part (without_third t (current t) 0 t.listed) t.listed = part_third t (current t) 0 t.listed in
    once_pushed (current t) (record t { listed = without_third t (current t) 0 t.listed }) (part.all (apart (current t)) newly.0) newly.1
    (once_part t (without_third t (current t) 0 t.listed) part once)

-- ---- reconstruct the active formatting elements

once_reopened : (ns : List ℕ) (t : GrowingTree) → Once t → Once (reopened ns t)
once_reopened [] t once = once
once_reopened (n ∷ ns) t once =
    once_reopened ns (record after { listed = Formatting (current after) ∷ after.listed })
    (once_pushed (current after) after newly.0 newly.1 (once_inserted (place t) Html (local_of t n) (attrs_of t n) t once))
  where
    after : GrowingTree
    after = inserted Html (local_of t n) (attrs_of t n) t

    newly : Newly after
    newly = newly_inserted (place t) Html (local_of t n) (attrs_of t n) t once

pub once_reconstructed : (t : GrowingTree) → Once t → Once (reconstructed t)
once_reconstructed t once =
    once_reopened (reverse (closed_entries t.stack t.listed))
    (record t { listed = drop (length (closed_entries t.stack t.listed)) t.listed })
    (once_part t (drop (length (closed_entries t.stack t.listed)) t.listed)
    (part_dropped (length (closed_entries t.stack t.listed)) t.listed) once)

-- ---- the adoption agency algorithm

pub once_any_other : (name : List ℕ) (t : GrowingTree) → Once t → Once (any_other_end name t)
once_any_other name t once = by (ends_other t name t.stack)
  where
    by : (o : Option ℕ) → Once (closed_other o name t)
    by None = once
    by (Some n) = once

copied_adds : (n : ℕ) (t : GrowingTree) → Adds t (copied n t)
copied_adds n t = made_adds (label_for Html (local_of t n)) t (copied n t) (makes_element Html (local_of t n) (attrs_of t n) t)

-- a new element takes an entry
once_exchanged_in : (old new : ℕ) (t : GrowingTree) → list_all (apart new) t.listed ≡ true → nat_lt new (length t.nodes) ≡ true → Once t →
    Once (record t { listed = map (replaced_entry old new) t.listed })
once_exchanged_in old new t out there once = (
  once_exchanged old new t.listed out once.0,
  all_exchanged (is_below (length t.nodes)) old new there t.listed once.1,
)

once_replaced : (node : ℕ) (t : GrowingTree) → Once t → Once (replaced node (fresh t) (copied node t))
once_replaced node t once =
    let adds : Adds t (copied node t) = copied_adds node t in
    once_exchanged_in node (fresh t) (copied node t) (fresh_out t (copied node t) adds once) adds.there
    (once_kept t (copied node t) adds.keeps once)

once_with : (more : ℕ → Option ℕ → GrowingTree → Climb) →
    ((last : ℕ) (mark : Option ℕ) (u : GrowingTree) → Once u → Once (more last mark u).tree) →
    (node last : ℕ) (mark : Option ℕ) (t : GrowingTree) → Once t → Once (climb_with more node last mark t).tree
once_with more keeps node last mark t once = by (is_listed t node)
  where
    by : (x : Bool) → Once (elim x as (λ _. Climb) [
      | true ↦ more (fresh t) (marked mark (fresh t)) (put last (EndOf (fresh t)) (replaced node (fresh t) (copied node t)))
      | false ↦ more last mark (unstacked node t)
    ]).tree
    by true = keeps (fresh t) (marked mark (fresh t)) (put last (EndOf (fresh t)) (replaced node (fresh t) (copied node t)))
        (once_put last (EndOf (fresh t)) (replaced node (fresh t) (copied node t)) (once_replaced node t once))
    by false = keeps last mark (unstacked node t) once

once_climb : (nodes : List ℕ) (count last : ℕ) (mark : Option ℕ) (t : GrowingTree) → Once t → Once (climb nodes count last mark t).tree
once_climb [] count last mark t once = once
once_climb (node ∷ nodes) count last mark t once = by (nat_lt 3 count) (λ l m u k. once_climb nodes (suc count) l m u k)
  where
    by : (x : Bool) → ((l : ℕ) (m : Option ℕ) (u : GrowingTree) → Once u → Once (climb nodes (suc count) l m u).tree) → Once (climb_with (climb nodes (suc count)) node last mark (elim x as (λ _. GrowingTree) [
      | true ↦ unlisted node t
      | false ↦ t
    ])).tree
    by true more = once_with (climb nodes (suc count)) more node last mark (unlisted node t) (once_unlisted node t once)
    by false more = once_with (climb nodes (suc count)) more node last mark t once

once_bookmark : (mark : Option ℕ) (old new : ℕ) (t : GrowingTree) → list_all (apart new) t.listed ≡ true →
    nat_lt new (length t.nodes) ≡ true → Once t → Once (at_bookmark mark old new t)
once_bookmark None old new t out there once = once_exchanged_in old new t out there once
once_bookmark (Some mark) old new t out there once =
    let part : Part (unlisted old t).listed t.listed = part_filtered (λ entry. not (is_entry old entry)) t.listed in (
      once_bookmarked new mark (unlisted old t).listed (part.all (apart new) out) (part.once once.0),
      all_bookmarked (is_below (length t.nodes)) new mark there (unlisted old t).listed (part.all (is_below (length t.nodes)) once.1),
    )

once_adopted_by : (formatting block : ℕ) (c : Climb) → Once c.tree → Once (adopted_by formatting block c)
once_adopted_by formatting block c once =
    once_bookmark c.mark formatting (fresh placed) moved (fresh_out placed (copied formatting placed) adds there)
    (subst (λ n. nat_lt (fresh placed) n ≡ true) (sym long) adds.there)
    (once_kept (copied formatting placed) moved (keeps_long (copied formatting placed) moved.nodes long)
    (once_kept placed (copied formatting placed) adds.keeps there))
  where
    placed : GrowingTree
    placed = put c.last (place_in c.tree (top (behind_in formatting c.tree.stack))) c.tree

    there : Once placed
    there = once_put c.last (place_in c.tree (top (behind_in formatting c.tree.stack))) c.tree once

    adds : Adds placed (copied formatting placed)
    adds = copied_adds formatting placed

    moved : GrowingTree
    moved = wrapped block (fresh placed) (copied formatting placed)

    children : List ℕ
    children = (node_at (copied formatting placed).nodes block).children

    taken : List Node
    taken = changed_at (λ node. record node { children = children }) (copied formatting placed).nodes (fresh placed)

    long : length moved.nodes ≡ length (copied formatting placed).nodes
    long = length_changed (λ node. record node { children = fresh placed ∷ [] }) taken block ∙
        length_changed (λ node. record node { children = children }) (copied formatting placed).nodes (fresh placed)

-- what is left of the outer loop
abbrev KeepsOnce : (GrowingTree → GrowingTree) → Type 0
KeepsOnce again = (u : GrowingTree) → Once u → Once (again u)

once_adopted : (formatting : ℕ) (block : Option ℕ) (again : GrowingTree → GrowingTree) → KeepsOnce again → (t : GrowingTree) → Once t →
    Once (adopted_once formatting block again t)
once_adopted formatting None again keeps t once = once_unlisted formatting (with_stack t (past (nat_eq formatting) t.stack)) once
once_adopted formatting (Some block) again keeps t once =
    keeps (adopted_by formatting block climbed) (once_adopted_by formatting block climbed
    (once_climb (before_in formatting (behind_in block t.stack)) 1 block None t once))
  where
    climbed : Climb
    climbed = climb (before_in formatting (behind_in block t.stack)) 1 block None t

once_adopted_for : (o : Option ℕ) (name : List ℕ) (again : GrowingTree → GrowingTree) → KeepsOnce again → (t : GrowingTree) → Once t →
    Once (adopted_for o name again t)
once_adopted_for None name again keeps t once = once_any_other name t once
once_adopted_for (Some formatting) name again keeps t once =
    by (is_member formatting t.stack) (in_scope (nat_eq formatting) (ends_scope DefaultScope t) t.stack)
  where
    block : Option ℕ
    block = last_special t None (before_in formatting t.stack)

    by : (x y : Bool) → Once (elim x as (λ _. GrowingTree) [
      | false ↦ unlisted formatting t
      | true ↦ elim y [ false ↦ t | true ↦ adopted_once formatting block again t ]
    ])
    by false y = once_unlisted formatting t once
    by true false = once
    by true true = once_adopted formatting block again keeps t once

once_adopt : (times : ℕ) (name : List ℕ) → KeepsOnce (adopt times name)
once_adopt zero name t once = once
once_adopt (suc times) name t once =
    once_adopted_for (last_listed t (name ∷ []) t.listed) name (adopt times name) (once_adopt times name) t once

pub once_adoption : (name : List ℕ) (t : GrowingTree) → Once t → Once (adoption name t)
once_adoption name t once = by (is_one t (name ∷ []) (current t) && not (is_listed t (current t)))
  where
    by : (x : Bool) → Once (elim x as (λ _. GrowingTree) [ true ↦ with_stack t (drop 1 t.stack) | false ↦ adopt 8 name t ])
    by true = once
    by false = once_adopt 8 name t once

-- ---- other algorithms

pub once_without_found : (o : Option ℕ) (t : GrowingTree) → Once t → Once (without_found o t)
once_without_found None t once = once
once_without_found (Some n) t once = once_unlisted n t once

pub once_form_ended : (form : FormPointer) (t : GrowingTree) → Once t → Once (form_ended form t)
once_form_ended NoForm t once = once
once_form_ended FormOfContext t once = once
once_form_ended (FormAt n) t once = by (in_scope (nat_eq n) (ends_scope DefaultScope t) t.stack)
  where
    by : (x : Bool) → Once (elim x as (λ _. GrowingTree) [ true ↦ unstacked n (implied_of implied [] t) | false ↦ t ])
    by true = once
    by false = once

pub once_closed_item : (o : Option ℕ) (t : GrowingTree) → Once t → Once (closed_item o t)
once_closed_item None t once = once
once_closed_item (Some n) t once = once

pub once_without_p : (t : GrowingTree) → Once t → Once (without_p t)
once_without_p t once = by (has_in_scope ButtonScope (codes "p" ∷ []) t)
  where
    by : (x : Bool) → Once (elim x as (λ _. GrowingTree) [
      | true ↦ popped_until (codes "p" ∷ []) (implied_of implied (codes "p" ∷ []) t)
      | false ↦ t
    ])
    by true = once
    by false = once
