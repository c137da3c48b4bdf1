-- The list of active formatting elements (13.2.4.3), the adoption agency algorithm, and other algorithms of "in body" (13.2.6.4.7).
use Rattle.std.specs.Prelude.{Bool, List, None, Option, Some, [], bytes_eq, codes, cond, drop, false, filter, length, map, nat_eq, nat_lt}
use Rattle.std.specs.Prelude.{not, reverse, suc, true, zero, ℕ, ◌&&◌, ◌∷◌}
use Rattle.std.specs.List.{list_all, list_any}
use Rattle.standard_trees.specs.RuleWords.{ButtonScope, Scope}
use Rattle.standard_trees.specs.TreeStore.{EndOf, Html, Node, NodeAttr, attrs_in, changed_at, is_member, local_in, node_at, same_space}
use Rattle.standard_trees.specs.TreeStore.{without}
use Rattle.standard_trees.specs.NameLists.{crossed_by_items, implied, special}
use Rattle.standard_trees.specs.GrowingTree.{Entry, FormAt, FormOfContext, FormPointer, Formatting, GrowingTree, Marker, NoForm}
use Rattle.standard_trees.specs.GrowingTree.{created_element, current, ends_scope, fresh, has_in_scope, implied_of, in_scope, inserted}
use Rattle.standard_trees.specs.GrowingTree.{is_one, key, kind_of, past, place_in, popped_until, put, top, unstacked, with_stack}

-- ---- the list of active formatting elements

abbrev pub is_entry : ℕ → Entry → Bool
is_entry n Marker = false
is_entry n (Formatting m) = nat_eq m n

abbrev pub is_listed : GrowingTree → ℕ → Bool
is_listed t n = list_any (is_entry n) t.listed

abbrev pub unlisted : ℕ → GrowingTree → GrowingTree
unlisted n t = record t { listed = filter (λ entry. not (is_entry n entry)) t.listed }

-- the last element of these names after the last marker
abbrev pub last_listed : GrowingTree → List (List ℕ) → List Entry → Option ℕ
last_listed t names [] = None
last_listed t names (Marker ∷ es) = None
last_listed t names (Formatting n ∷ es) = elim (is_one t names n) [ true ↦ Some n | false ↦ last_listed t names es ]

abbrev pub same_attr : NodeAttr → NodeAttr → Bool
same_attr a c = same_space a.space c.space && bytes_eq a.name c.name && bytes_eq a.value c.value

abbrev pub holds_all : List NodeAttr → List NodeAttr → Bool
holds_all attrs others = list_all (λ a. list_any (same_attr a) others) attrs

abbrev pub local_of : GrowingTree → ℕ → List ℕ
local_of t n = local_in (kind_of t n)

abbrev pub attrs_of : GrowingTree → ℕ → List NodeAttr
attrs_of t n = attrs_in (kind_of t n)

-- "the same tag name, namespace, and attributes"; the order of the attributes does not matter
abbrev pub are_alike : GrowingTree → ℕ → ℕ → Bool
are_alike t n m =
    bytes_eq (key t n) (key t m) && holds_all (attrs_of t n) (attrs_of t m) && holds_all (attrs_of t m) (attrs_of t n)

-- the Noah's Ark clause: "if there are already three elements in the list after the last marker that have the same tag name, namespace, and
-- attributes as element, then remove the earliest such element"; `count` of them come later in the list
abbrev pub without_third : GrowingTree → ℕ → ℕ → List Entry → List Entry
without_third t n count [] = []
without_third t n count (Marker ∷ es) = Marker ∷ es
without_third t n count (Formatting m ∷ es) =
    elim (are_alike t n m) [
      | true ↦ elim (nat_eq count 2) [ true ↦ es | false ↦ Formatting m ∷ without_third t n (suc count) es ]
      | false ↦ Formatting m ∷ without_third t n count es
    ]

-- "push onto the list of active formatting elements that element": the current node
abbrev pub enlisted : GrowingTree → GrowingTree
enlisted t = record t { listed = Formatting (current t) ∷ without_third t (current t) 0 t.listed }

-- "clear the list of active formatting elements up to the last marker"
abbrev pub cleared : List Entry → List Entry
cleared [] = []
cleared (Marker ∷ es) = es
cleared (Formatting n ∷ es) = cleared es

-- the entries behind the last one that is a marker or an open element, the last first
abbrev pub closed_entries : List ℕ → List Entry → List ℕ
closed_entries stack [] = []
closed_entries stack (Marker ∷ es) = []
closed_entries stack (Formatting n ∷ es) = elim (is_member n stack) [ true ↦ [] | false ↦ n ∷ closed_entries stack es ]

-- for each of these elements, the first first, an element for the same token is inserted and takes its entry
abbrev pub reopened : List ℕ → GrowingTree → GrowingTree
reopened [] t = t
reopened (n ∷ ns) t =
    let after : GrowingTree = inserted Html (local_of t n) (attrs_of t n) t in
    reopened ns (record after { listed = Formatting (current after) ∷ after.listed })

-- "reconstruct the active formatting elements"
abbrev pub reconstructed : GrowingTree → GrowingTree
reconstructed t =
    let entries : List ℕ = closed_entries t.stack t.listed in
    reopened (reverse entries) (record t { listed = drop (length entries) t.listed })

-- ---- any other end tag

-- from the current node up, the first element of that name, unless a special element comes before it
abbrev pub ends_other : GrowingTree → List ℕ → List ℕ → Option ℕ
ends_other t name [] = None
ends_other t name (n ∷ ns) =
    elim (is_one t (name ∷ []) n) [
      | true ↦ Some n
      | false ↦ elim (is_one t special n) [ true ↦ None | false ↦ ends_other t name ns ]
    ]

abbrev pub closed_other : Option ℕ → List ℕ → GrowingTree → GrowingTree
closed_other None name t = t
closed_other (Some n) name t =
    let after : GrowingTree = implied_of implied (name ∷ []) t in
    with_stack after (past (nat_eq n) after.stack)

abbrev pub any_other_end : List ℕ → GrowingTree → GrowingTree
any_other_end name t = closed_other (ends_other t name t.stack) name t

-- ---- the adoption agency algorithm

-- the elements of the stack that were opened after n, and before it
abbrev pub before_in : ℕ → List ℕ → List ℕ
before_in n [] = []
before_in n (m ∷ ms) = elim (nat_eq m n) [ true ↦ [] | false ↦ m ∷ before_in n ms ]

abbrev pub behind_in : ℕ → List ℕ → List ℕ
behind_in n ms = past (nat_eq n) ms

-- the last of a list that is special
abbrev pub last_special : GrowingTree → Option ℕ → List ℕ → Option ℕ
last_special t seen [] = seen
last_special t seen (n ∷ ns) = last_special t (elim (is_one t special n) [ true ↦ Some n | false ↦ seen ]) ns

abbrev pub replaced_entry : ℕ → ℕ → Entry → Entry
replaced_entry old new Marker = Marker
replaced_entry old new (Formatting n) = cond (nat_eq n old) (Formatting new) (Formatting n)

abbrev pub replaced_node : ℕ → ℕ → ℕ → ℕ
replaced_node old new n = cond (nat_eq n old) new n

-- "create an element for the token for which the element node was created"
abbrev pub copied : ℕ → GrowingTree → GrowingTree
copied n t = created_element Html (local_of t n) (attrs_of t n) t

-- "replace the entry for node in the list of active formatting elements" and in the stack "with an entry for the new element"
abbrev pub replaced : ℕ → ℕ → GrowingTree → GrowingTree
replaced old new t = record t { stack = map (replaced_node old new) t.stack; listed = map (replaced_entry old new) t.listed }

-- the inner loop: the last node, and behind which entry of the list the bookmark is (None: where the formatting element is)
pub record Climb : Type 0 where
  pub tree : GrowingTree
  pub last : ℕ
  pub mark : Option ℕ

-- "if last node is furthest block, then move the bookmark to be immediately after the new node"
abbrev pub marked : Option ℕ → ℕ → Option ℕ
marked None n = Some n
marked (Some m) n = Some m

abbrev pub climb_with : (ℕ → Option ℕ → GrowingTree → Climb) → ℕ → ℕ → Option ℕ → GrowingTree → Climb
climb_with more node last mark t =
    elim (is_listed t node) [
      | true ↦ more (fresh t) (marked mark (fresh t)) (put last (EndOf (fresh t)) (replaced node (fresh t) (copied node t)))
      | false ↦ more last mark (unstacked node t)
    ]

-- the inner loop over the nodes between the furthest block and the formatting element; the count is that of the inner loop: "if inner loop
-- counter is greater than 3 and node is in the list of active formatting elements, then remove node from the list"
abbrev pub climb : List ℕ → ℕ → ℕ → Option ℕ → GrowingTree → Climb
climb [] count last mark t = record { tree = t; last = last; mark = mark }
climb (node ∷ nodes) count last mark t =
    climb_with (climb nodes (suc count)) node last mark (elim (nat_lt 3 count) [ true ↦ unlisted node t | false ↦ t ])

-- the list with a new entry behind the one that is marked
abbrev pub bookmarked : ℕ → ℕ → List Entry → List Entry
bookmarked new mark [] = []
bookmarked new mark (entry ∷ es) =
    elim (is_entry mark entry) [ true ↦ Formatting new ∷ entry ∷ es | false ↦ entry ∷ bookmarked new mark es ]

-- "remove formatting element from the list of active formatting elements, and insert the new element into the list at the position of the
-- aforementioned bookmark"
abbrev pub at_bookmark : Option ℕ → ℕ → ℕ → GrowingTree → GrowingTree
at_bookmark None old new t = record t { listed = map (replaced_entry old new) t.listed }
at_bookmark (Some mark) old new t =
    let after : GrowingTree = unlisted old t in
    record after { listed = bookmarked new mark after.listed }

-- "insert the new element into the stack of open elements immediately below the position of furthest block"
abbrev pub stacked_below : ℕ → ℕ → List ℕ → List ℕ
stacked_below new block [] = []
stacked_below new block (n ∷ ns) = elim (nat_eq n block) [ true ↦ new ∷ n ∷ ns | false ↦ n ∷ stacked_below new block ns ]

-- "take all of the child nodes of furthest block and append them to the new element; append the new element to furthest block"
abbrev pub wrapped : ℕ → ℕ → GrowingTree → GrowingTree
wrapped block new t =
    let children : List ℕ = (node_at t.nodes block).children in
    let taken : List Node = changed_at (λ node. record node { children = children }) t.nodes new in
    record t { nodes = changed_at (λ node. record node { children = new ∷ [] }) taken block }

-- what the outer loop does behind the inner one: "insert whatever last node ended up being in the previous step at the appropriate
-- place for inserting a node, but using common ancestor as the override target", and what follows there
abbrev pub adopted_by : ℕ → ℕ → Climb → GrowingTree
adopted_by formatting block c =
    let placed : GrowingTree = put c.last (place_in c.tree (top (behind_in formatting c.tree.stack))) c.tree in
    let new : ℕ = fresh placed in
    let moved : GrowingTree = wrapped block new (copied formatting placed) in
    let listed : GrowingTree = at_bookmark c.mark formatting new moved in
    record listed { stack = stacked_below new block (without formatting listed.stack) }

-- without a furthest block, all up to the formatting element are popped, and it is removed from the list
abbrev pub adopted_once : ℕ → Option ℕ → (GrowingTree → GrowingTree) → GrowingTree → GrowingTree
adopted_once formatting None again t = unlisted formatting (with_stack t (past (nat_eq formatting) t.stack))
adopted_once formatting (Some block) again t =
    again (adopted_by formatting block (climb (before_in formatting (behind_in block t.stack)) 1 block None t))

-- the outer loop once: there may be no formatting element, it may not be open, or not in scope
abbrev pub adopted_for : Option ℕ → List ℕ → (GrowingTree → GrowingTree) → GrowingTree → GrowingTree
adopted_for None name again t = any_other_end name t
adopted_for (Some formatting) name again t =
    elim (is_member formatting t.stack) [
      | false ↦ unlisted formatting t
      | true ↦ elim (in_scope (nat_eq formatting) (ends_scope Scope t) t.stack) [
        | false ↦ t
        | true ↦ adopted_once formatting (last_special t None (before_in formatting t.stack)) again t
      ]
    ]

-- the outer loop: "if outer loop counter is greater than or equal to 8, then return"
abbrev pub adopt : ℕ → List ℕ → GrowingTree → GrowingTree
adopt zero name t = t
adopt (suc times) name t = adopted_for (last_listed t (name ∷ []) t.listed) name (adopt times name) t

-- the adoption agency algorithm, for an element of that name: "if the current node is an HTML element whose tag name is subject, and the
-- current node is not in the list of active formatting elements, then pop the current node off the stack of open elements and return"
abbrev pub adoption : List ℕ → GrowingTree → GrowingTree
adoption name t =
    elim (is_one t (name ∷ []) (current t) && not (is_listed t (current t))) [
      | true ↦ with_stack t (drop 1 t.stack)
      | false ↦ adopt 8 name t
    ]

-- "remove that element from the list of active formatting elements and the stack of open elements"
abbrev pub without_found : Option ℕ → GrowingTree → GrowingTree
without_found None t = t
without_found (Some n) t = unstacked n (unlisted n t)

-- ---- li, dd and dt; p; form

-- from the current node up, one of these elements, unless a special one that is no address, div or p comes before it
abbrev pub open_item : GrowingTree → List (List ℕ) → List ℕ → Option ℕ
open_item t names [] = None
open_item t names (n ∷ ns) =
    elim (is_one t names n) [
      | true ↦ Some n
      | false ↦ elim (is_one t special n && not (is_one t crossed_by_items n)) [ true ↦ None | false ↦ open_item t names ns ]
    ]

-- "generate implied end tags, except for li elements; pop elements until an li element has been popped"
abbrev pub closed_item : Option ℕ → GrowingTree → GrowingTree
closed_item None t = t
closed_item (Some n) t = popped_until (key t n ∷ []) (implied_of implied (key t n ∷ []) t)

-- "close a p element"
abbrev pub closed_p : GrowingTree → GrowingTree
closed_p t = popped_until (codes "p" ∷ []) (implied_of implied (codes "p" ∷ []) t)

-- "if the stack of open elements has a p element in button scope, then close a p element"
abbrev pub without_p : GrowingTree → GrowingTree
without_p t = elim (has_in_scope ButtonScope (codes "p" ∷ []) t) [ true ↦ closed_p t | false ↦ t ]

-- the end tag form where no template is open: the element that the form pointer named is removed from the stack, if it is in scope
abbrev pub form_ended : FormPointer → GrowingTree → GrowingTree
form_ended NoForm t = t
form_ended FormOfContext t = t
form_ended (FormAt n) t =
    elim (in_scope (nat_eq n) (ends_scope Scope t) t.stack) [ true ↦ unstacked n (implied_of implied [] t) | false ↦ t ]
