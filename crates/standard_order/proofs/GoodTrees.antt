-- What is done to the tree keeps how its stack of open elements ends, and what its pointers point to.
use Rattle.std.specs.Prelude.{◌≡◌, ◌||◌, refl, ℕ, zero, suc, Bool, true, false, not, ◌&&◌, List, [], ◌∷◌, Option, None, Some, bytes_eq}
use Rattle.std.specs.Prelude.{codes, cond, drop, filter, length, nat_eq, reverse}
use Rattle.std.specs.List.{list_all, list_any}
use Rattle.std.proofs.lemmas.Slice.Eq.{bytes_eq-Decides}
use mathlib.Core.List.{reverse_aux}
use mathlib.Core.Path.{◌∙◌, sym, ap, subst}
use Rattle.standard_trees.specs.NameLists.{button_scope, implied, list_item_scope, scope}
use Rattle.standard_trees.specs.RuleWords.{ButtonScope, ListItemScope, Scope, ScopeKind, TableScope}
use Rattle.standard_trees.specs.TreeStore.{CommentNode, ContentsNode, DoctypeNode, DocumentNode, ElementNode, Html, Kind, MathMl, Node}
use Rattle.standard_trees.specs.TreeStore.{NodeAttr, Place, Space, Svg, TextNode}
use Rattle.standard_trees.specs.TreeStore.{is_html, is_member, key_in, key_of, local_in, space_in}
use Rattle.standard_trees.specs.GrowingTree.{Entry, FormAt, FormOfContext, FormPointer, Formatting, GrowingTree, Marker, NoForm, beyond}
use Rattle.standard_trees.specs.GrowingTree.{created_element, current, ends_scope, fresh, has_in_scope}
use Rattle.standard_trees.specs.GrowingTree.{implied_of, in_scope, inserted, inserted_at, is_among, is_named, is_one, key, kind_of, past, place}
use Rattle.standard_trees.specs.GrowingTree.{popped_until, pushed, put, unstacked, with_stack}
use Rattle.standard_trees.specs.Formatting.{attrs_of, closed_entries}
use Rattle.standard_trees.specs.Formatting.{form_ended, is_entry, local_of, reconstructed, reopened}
use Rattle.standard_trees.specs.Formatting.{unlisted, without_found, without_p}
use Rattle.standard_order.proofs.Labels.{Grows, Is, Label, Makes, OnlyNodes, grows_at, holder, is_at, kind_at, label_of, labels}
use Rattle.standard_order.proofs.Labels.{makes_element, makes_put, never_at}
use Rattle.standard_order.proofs.Labels.{weaker_at}
use Rattle.standard_order.proofs.StandingStacks.{Has, Only, any_valid, Sort, Stands, allowed, beyond_has, beyond_stands, both, cell, cells}
use Rattle.standard_order.proofs.StandingStacks.{fixed, framing, has_grown, head, loose, loose_plain}
use Rattle.standard_order.proofs.StandingStacks.{named_apart, never, only_apart, opposite, past_has, past_stands, plain, plain_allowed}
use Rattle.standard_order.proofs.StandingStacks.{pushed_on, stands_grown, without_has, without_stands, fewer}

-- ---- what entries and pointers name

abbrev pub held : Label → Bool
held l = holder fixed l

abbrev pub AllListed : List Label → List Entry → Type 0
AllListed ls [] = Unit {0}
AllListed ls (Marker ∷ es) = AllListed ls es
AllListed ls (Formatting n ∷ es) = Is held ls n × AllListed ls es

abbrev pub AllHeld : List Label → List ℕ → Type 0
AllHeld ls [] = Unit {0}
AllHeld ls (n ∷ ns) = Is held ls n × AllHeld ls ns

abbrev pub AllLoose : List Label → List ℕ → Type 0
AllLoose ls [] = Unit {0}
AllLoose ls (n ∷ ns) = Is loose ls n × AllLoose ls ns

abbrev pub IsForm : List Label → FormPointer → Type 0
IsForm ls NoForm = Unit {0}
IsForm ls FormOfContext = Unit {0}
IsForm ls (FormAt n) = Is loose ls n

abbrev pub IsFound : List Label → Option ℕ → Type 0
IsFound ls None = Unit {0}
IsFound ls (Some n) = Is loose ls n

-- the text is a page, or a fragment in an element `html`
abbrev pub is_whole : Option Kind → Bool
is_whole None = true
is_whole (Some kind) = is_named (codes "html" ∷ []) kind

-- the head element pointer points to a head element, or the text is a fragment in another element than `html`
abbrev pub IsHeadPointer : List Label → Option Kind → Option ℕ → Type 0
IsHeadPointer ls context None = is_whole context ≡ false
IsHeadPointer ls context (Some n) = Is head ls n

pub record Pointers (ls : List Label) (listed : List Entry) (form : FormPointer) (found head : Option ℕ) (context : Option Kind) : Type 0
  where
    pub entries : AllListed ls listed
    pub form_is : IsForm ls form
    pub found_is : IsFound ls found
    pub head_is : IsHeadPointer ls context head

abbrev pub PointersOf : GrowingTree → Type 0
PointersOf t = Pointers (labels t.nodes) t.listed t.form t.found t.head t.context

-- with a claim that a cell is open
abbrev pub Celled : Bool → List Label → List ℕ → Type 0
Celled claim ls s = claim ≡ true → Has cell ls s

abbrev pub Good : Sort → Bool → GrowingTree → Type 0
Good k claim t = Stands k (labels t.nodes) t.stack × Celled claim (labels t.nodes) t.stack × PointersOf t

pub held_loose : (ls : List Label) (n : ℕ) → Is held ls n → Is loose ls n
held_loose ls n h = weaker_at held loose (λ l k. (both l.html (not (is_among l.name fixed)) k).1) ls n h

pub loose_no_cell : (ls : List Label) (n : ℕ) → Is loose ls n → Is cell ls n → ⊥
loose_no_cell ls n h k = never_at loose cell (λ l e f. opposite (is_among l.name cells) (fewer l.name cells fixed refl e) f) ls n h k

-- ---- a store that grows

listed_grown : (old new : List Node) → Grows old new → (es : List Entry) → AllListed (labels old) es → AllListed (labels new) es
listed_grown old new grows [] h = tt
listed_grown old new grows (Marker ∷ es) h = listed_grown old new grows es h
listed_grown old new grows (Formatting n ∷ es) h = (grows_at held old new grows n h.0, listed_grown old new grows es h.1)

pub held_grown : (old new : List Node) → Grows old new → (ns : List ℕ) → AllHeld (labels old) ns → AllHeld (labels new) ns
held_grown old new grows [] h = tt
held_grown old new grows (n ∷ ns) h = (grows_at held old new grows n h.0, held_grown old new grows ns h.1)

pub loose_grown : (old new : List Node) → Grows old new → (ns : List ℕ) → AllLoose (labels old) ns → AllLoose (labels new) ns
loose_grown old new grows [] h = tt
loose_grown old new grows (n ∷ ns) h = (grows_at loose old new grows n h.0, loose_grown old new grows ns h.1)

form_grown : (old new : List Node) → Grows old new → (form : FormPointer) → IsForm (labels old) form → IsForm (labels new) form
form_grown old new grows NoForm h = tt
form_grown old new grows FormOfContext h = tt
form_grown old new grows (FormAt n) h = grows_at loose old new grows n h

found_grown : (old new : List Node) → Grows old new → (o : Option ℕ) → IsFound (labels old) o → IsFound (labels new) o
found_grown old new grows None h = tt
found_grown old new grows (Some n) h = grows_at loose old new grows n h

head_grown_at : (old new : List Node) → Grows old new → (context : Option Kind) (o : Option ℕ) → IsHeadPointer (labels old) context o →
    IsHeadPointer (labels new) context o
head_grown_at old new grows context None h = h
head_grown_at old new grows context (Some n) h = grows_at head old new grows n h

pub pointers_grown : (old new : List Node) → Grows old new → (es : List Entry) (form : FormPointer) (found h : Option ℕ)
    (context : Option Kind) →
    Pointers (labels old) es form found h context → Pointers (labels new) es form found h context
pointers_grown old new grows es form found h context p = record {
  entries = listed_grown old new grows es p.entries;
  form_is = form_grown old new grows form p.form_is;
  found_is = found_grown old new grows found p.found_is;
  head_is = head_grown_at old new grows context h p.head_is;
}

grown : (k : Sort) (claim : Bool) (t : GrowingTree) (nodes : List Node) → Grows t.nodes nodes → Good k claim t →
    Good k claim (record t { nodes = nodes })
grown k claim t nodes grows good = (
  stands_grown k t.nodes nodes grows t.stack good.0,
  λ c. has_grown cell t.nodes nodes grows t.stack (good.1 c),
  pointers_grown t.nodes nodes grows t.listed t.form t.found t.head t.context good.2,
)

pub good_nodes : (k : Sort) (claim : Bool) (old new : GrowingTree) → OnlyNodes old new → Good k claim old → Good k claim new
good_nodes k claim old new only good = subst (Good k claim) (sym only.only) (grown k claim old new.nodes only.grows good)

pub good_stack : (k : Sort) (claim : Bool) (t : GrowingTree) (s : List ℕ) → Stands k (labels t.nodes) s → Celled claim (labels t.nodes) s →
    Good k claim t → Good k claim (with_stack t s)
good_stack k claim t s stands celled good = (stands, celled, good.2)

-- ---- elements that are pushed

pub good_pushed : (k : Sort) (claim : Bool) (l : Label) (old made : GrowingTree) → allowed k l ≡ true → Makes l old made →
    Good k claim old → Good k claim (pushed (fresh old) made)
good_pushed k claim l old made ok makes good =
    subst (λ (t : GrowingTree). Good k claim (pushed (fresh old) t)) (sym makes.only) (
      pushed_on k (labels made.nodes) (length old.nodes) old.stack (makes.made (allowed k) ok)
          (stands_grown k old.nodes made.nodes makes.grows old.stack good.0),
      λ c. with_more (is_at cell (labels made.nodes) (length old.nodes)) (has_grown cell old.nodes made.nodes makes.grows old.stack
          (good.1 c)),
      pointers_grown old.nodes made.nodes makes.grows old.listed old.form old.found old.head old.context good.2,
    )
  where
    with_more : (x : Bool) {y : Bool} → y ≡ true → x || y ≡ true
    with_more true h = refl
    with_more false h = h

abbrev pub label_for : Space → List ℕ → Label
label_for space name = record { name = key_of space name; html = is_html space }

pub makes_inserted : (spot : Place) (space : Space) (name : List ℕ) (attrs : List NodeAttr) (t : GrowingTree) →
    Makes (label_for space name) t (put (fresh t) spot (created_element space name attrs t))
makes_inserted spot space name attrs t = makes_put (label_for space name) t (created_element space name attrs t) (fresh t) spot
    (makes_element space name attrs t)

pub good_inserted_at : (k : Sort) (claim : Bool) (spot : Place) (space : Space) (name : List ℕ) (attrs : List NodeAttr) (t : GrowingTree) →
    allowed k (label_for space name) ≡ true →
    Good k claim t → Good k claim (inserted_at spot space name attrs t)
good_inserted_at k claim spot space name attrs t ok good =
    good_pushed k claim (label_for space name) t (put (fresh t) spot (created_element space name attrs t)) ok
    (makes_inserted spot space name attrs t) good

-- ---- reconstruct the active formatting elements

local_is_key : (kind : Kind) → is_html (space_in kind) && not (is_among (key_in kind) fixed) ≡ true →
    not (is_among (local_in kind) fixed) ≡ true
local_is_key (ElementNode Html name attrs contents) h = h
local_is_key (ElementNode Svg name attrs contents) h = cc
local_is_key (ElementNode MathMl name attrs contents) h = cc
local_is_key (TextNode text) h = refl
local_is_key (CommentNode text) h = refl
local_is_key (DoctypeNode d) h = refl
local_is_key DocumentNode h = refl
local_is_key ContentsNode h = refl

pub copy_held : (t : GrowingTree) (n : ℕ) → Is held (labels t.nodes) n → held (label_for Html (local_of t n)) ≡ true
copy_held t n h = local_is_key (kind_of t n) (kind_at held t.nodes n h)

held_allowed : (k : Sort) (l : Label) → held l ≡ true → allowed k l ≡ true
held_allowed k l h = plain_allowed k (l ∷ []) 0 (loose_plain (l ∷ []) 0 (held_loose (l ∷ []) 0 h))

reopened_good : (k : Sort) (claim : Bool) (ns : List ℕ) (t : GrowingTree) → AllHeld (labels t.nodes) ns → Good k claim t →
    Good k claim (reopened ns t)
reopened_good k claim [] t h good = good
reopened_good k claim (n ∷ ns) t h good =
    reopened_good k claim ns (record after { listed = Formatting (current after) ∷ after.listed })
    (held_grown t.nodes after.nodes makes.grows ns h.1) (
      inner.0,
      inner.1,
      record {
        entries = (makes.made held ok, inner.2.entries);
        form_is = inner.2.form_is;
        found_is = inner.2.found_is;
        head_is = inner.2.head_is;
      },
    )
  where
    name : List ℕ
    name = local_of t n

    after : GrowingTree
    after = inserted Html name (attrs_of t n) t

    makes : Makes (label_for Html name) t (put (fresh t) (place t) (created_element Html name (attrs_of t n) t))
    makes = makes_inserted (place t) Html name (attrs_of t n) t

    ok : held (label_for Html name) ≡ true
    ok = copy_held t n h.0

    inner : Good k claim after
    inner = good_inserted_at k claim (place t) Html name (attrs_of t n) t (held_allowed k (label_for Html name) ok) good

pub closed_held : (ls : List Label) (stack : List ℕ) (es : List Entry) → AllListed ls es → AllHeld ls (closed_entries stack es)
closed_held ls stack [] h = tt
closed_held ls stack (Marker ∷ es) h = tt
closed_held ls stack (Formatting n ∷ es) h = by (is_member n stack) (closed_held ls stack es h.1)
  where
    by : (x : Bool) → AllHeld ls (closed_entries stack es) →
        AllHeld ls (elim x as (λ _. List ℕ) [ true ↦ [] | false ↦ n ∷ closed_entries stack es ])
    by true rest = tt
    by false rest = (h.0, rest)

held_turned : (ls : List Label) (ns ms : List ℕ) → AllHeld ls ns → AllHeld ls ms → AllHeld ls (reverse_aux ns ms)
held_turned ls [] ms h k = k
held_turned ls (n ∷ ns) ms h k = held_turned ls ns (n ∷ ms) h.1 (h.0, k)

pub held_reversed : (ls : List Label) (ns : List ℕ) → AllHeld ls ns → AllHeld ls (reverse ns)
held_reversed ls ns h = held_turned ls ns [] h tt

listed_dropped : (ls : List Label) (n : ℕ) (es : List Entry) → AllListed ls es → AllListed ls (drop n es)
listed_dropped ls zero es h = h
listed_dropped ls (suc n) [] h = tt
listed_dropped ls (suc n) (Marker ∷ es) h = listed_dropped ls n es h
listed_dropped ls (suc n) (Formatting m ∷ es) h = listed_dropped ls n es h.1

pub good_listed : (k : Sort) (claim : Bool) (t : GrowingTree) (es : List Entry) → AllListed (labels t.nodes) es → Good k claim t →
    Good k claim (record t { listed = es })
good_listed k claim t es h good = (
  good.0,
  good.1,
  record {
    entries = h;
    form_is = good.2.form_is;
    found_is = good.2.found_is;
    head_is = good.2.head_is;
  },
)

pub good_reconstructed : (k : Sort) (claim : Bool) (t : GrowingTree) → Good k claim t → Good k claim (reconstructed t)
good_reconstructed k claim t good =
    reopened_good k claim (reverse (closed_entries t.stack t.listed)) (record t {
      listed = drop (length (closed_entries t.stack t.listed))
          t.listed;
    })
    (held_reversed (labels t.nodes) (closed_entries t.stack t.listed) (closed_held (labels t.nodes) t.stack t.listed good.2.entries))
    (good_listed k claim t (drop (length (closed_entries t.stack t.listed)) t.listed) (listed_dropped (labels t.nodes)
    (length (closed_entries t.stack t.listed)) t.listed good.2.entries) good)

-- ---- elements that are popped

abbrev pub apart : List (List ℕ) → List (List ℕ) → Bool
apart names others = list_all (λ one. not (is_among one others)) names

cell_not_loose : (ls : List Label) (test : ℕ → Bool) → Only loose ls test → (n : ℕ) → Is cell ls n → test n ≡ true → ⊥
cell_not_loose ls test only n c h = loose_no_cell ls n (only n (any_valid cell ls n c) h) c

loose_only_plain : (ls : List Label) (test : ℕ → Bool) → Only loose ls test → Only plain ls test
loose_only_plain ls test only n there h = loose_plain ls n (only n there h)

pub good_beyond : (k : Sort) (claim : Bool) (t : GrowingTree) (test : ℕ → Bool) → Only loose (labels t.nodes) test → Good k claim t →
    Good k claim (with_stack t (beyond test t.stack))
good_beyond k claim t test only good =
    good_stack k claim t (beyond test t.stack) (beyond_stands k (labels t.nodes) test (loose_only_plain (labels t.nodes) test only) t.stack
    good.0)
    (λ c. beyond_has cell (labels t.nodes) test (cell_not_loose (labels t.nodes) test only) t.stack (good.1 c)) good

implied_test : (t : GrowingTree) (names but : List (List ℕ)) → apart names fixed ≡ true → Only loose (labels t.nodes)
    (λ n. is_one t names n && not (is_one t but n))
implied_test t names but ok n there h = only_apart names fixed ok t n there (both (is_one t names n) (not (is_one t but n)) h).0

pub good_implied : (k : Sort) (claim : Bool) (t : GrowingTree) (names but : List (List ℕ)) → apart names fixed ≡ true → Good k claim t →
    Good k claim (implied_of names but t)
good_implied k claim t names but ok good = good_beyond k claim t (λ n. is_one t names n && not (is_one t but n))
    (implied_test t names but ok) good

-- without a claim
no_claim : (ls : List Label) (s : List ℕ) → Celled false ls s
no_claim ls s h = never h

pub good_implied_all : (k : Sort) (t : GrowingTree) (names but : List (List ℕ)) → apart names framing ≡ true → Good k false t →
    Good k false (implied_of names but t)
good_implied_all k t names but ok good =
    good_stack k false t (beyond (λ n. is_one t names n && not (is_one t but n)) t.stack)
    (beyond_stands k (labels t.nodes) (λ n. is_one t names n && not (is_one t but n))
    (λ n there h. only_apart names framing ok t n there (both (is_one t names n) (not (is_one t but n)) h).0) t.stack good.0)
    (no_claim (labels t.nodes) (beyond (λ n. is_one t names n && not (is_one t but n)) t.stack)) good

-- what is in scope is there
pub in_scope_any : (wanted ends : ℕ → Bool) (s : List ℕ) → in_scope wanted ends s ≡ true → list_any wanted s ≡ true
in_scope_any wanted ends [] h = h
in_scope_any wanted ends (n ∷ ns) h = by (wanted n) (ends n) h (λ more. in_scope_any wanted ends ns more)
  where
    by : (x y : Bool) → x || (not y && in_scope wanted ends ns) ≡ true → (in_scope wanted ends ns ≡ true → list_any wanted ns ≡ true) →
        x || list_any wanted ns ≡ true
    by true y k go = refl
    by false true k go = cc
    by false false k go = go k

-- up to an element that is in scope, of a kind of element that is no cell
pub good_past : (k : Sort) (claim : Bool) (t : GrowingTree) (wanted ends : ℕ → Bool) → Only loose (labels t.nodes) wanted →
    (claim ≡ true → (n : ℕ) → Is cell (labels t.nodes) n → ends n ≡ true) →
    in_scope wanted ends t.stack ≡ true → Good k claim t → Good k claim (with_stack t (past wanted t.stack))
good_past k claim t wanted ends only ending scope good =
    good_stack k claim t (past wanted t.stack)
    (past_stands k (labels t.nodes) wanted (loose_only_plain (labels t.nodes) wanted only) t.stack (in_scope_any wanted ends t.stack scope)
    good.0)
    (λ c. past_has cell (labels t.nodes) wanted ends (ending c) (cell_not_loose (labels t.nodes) wanted only) t.stack scope (good.1 c)) good

-- elements that are popped first are none of those
pub in_scope_beyond : (wanted ends test : ℕ → Bool) → ((n : ℕ) → test n ≡ true → wanted n ≡ true → ⊥) → (s : List ℕ) →
    in_scope wanted ends s ≡ true → in_scope wanted ends (beyond test s) ≡ true
in_scope_beyond wanted ends test apart [] h = h
in_scope_beyond wanted ends test apart (n ∷ ns) h = by (test n) (wanted n) (ends n) refl refl refl h
    (λ more. in_scope_beyond wanted ends test apart ns more)
  where
    by : (x y z : Bool) → test n ≡ x → wanted n ≡ y → ends n ≡ z → y || (not z && in_scope wanted ends ns) ≡ true →
        (in_scope wanted ends ns ≡ true → in_scope wanted ends (beyond test ns) ≡ true) →
        in_scope wanted ends (elim x as (λ _. List ℕ) [ true ↦ beyond test ns | false ↦ n ∷ ns ]) ≡ true
    by true true z e f g k go = absurd (apart n e f)
    by true false true e f g k go = cc
    by true false false e f g k go = go k
    by false y z e f g k go = ap (λ a. a || (not (ends n) && in_scope wanted ends ns)) f ∙ ap (λ a. y || (not a && in_scope wanted ends ns))
        g ∙ k

-- implied end tags, and then up to an element in scope
pub good_implied_past : (k : Sort) (claim : Bool) (t : GrowingTree) (names but : List (List ℕ)) (wanted ends : ℕ → Bool) →
    apart names fixed ≡ true → Only loose (labels t.nodes) wanted →
    (claim ≡ true → (n : ℕ) → Is cell (labels t.nodes) n → ends n ≡ true) → ((n : ℕ) → is_one t names n && not (is_one t but n) ≡ true →
    wanted n ≡ true → ⊥) →
    in_scope wanted ends t.stack ≡ true → Good k claim t →
    Good k claim (with_stack t (past wanted (beyond (λ n. is_one t names n && not (is_one t but n)) t.stack)))
good_implied_past k claim t names but wanted ends ok only ending none scope good =
    good_past k claim (implied_of names but t) wanted ends only ending
    (in_scope_beyond wanted ends (λ n. is_one t names n && not (is_one t but n)) none t.stack scope)
    (good_implied k claim t names but ok good)

-- the scopes that end at cells
abbrev pub ends_at_cells : ScopeKind → Bool
ends_at_cells TableScope = false
ends_at_cells _ = true

pub among_more : (name : List ℕ) (some others : List (List ℕ)) → list_all (λ one. is_among one others) some ≡ true →
    is_among name some ≡ true → is_among name others ≡ true
among_more name [] others all h = cc
among_more name (one ∷ some) others all h =
    by (bytes_eq name one) refl h (among_more name some others (both (is_among one others) (list_all (λ one. is_among one others) some)
    all).1)
  where
    by : (x : Bool) → bytes_eq name one ≡ x → x || is_among name some ≡ true → (is_among name some ≡ true → is_among name others ≡ true) →
        is_among name others ≡ true
    by true e k more = ap (λ (n : List ℕ). is_among n others) ((bytes_eq-Decides name one).0 e) ∙
        (both (is_among one others) (list_all (λ one. is_among one others) some) all).0
    by false e k more = more k

-- a cell is one of these
pub cell_is_one : (t : GrowingTree) (names : List (List ℕ)) → list_all (λ one. is_among one names) cells ≡ true → (n : ℕ) →
    Is cell (labels t.nodes) n → is_one t names n ≡ true
cell_is_one t names all n c = among_more (key t n) cells names all (kind_at cell t.nodes n c)

pub cells_end : (kind : ScopeKind) → ends_at_cells kind ≡ true → (t : GrowingTree) (n : ℕ) → Is cell (labels t.nodes) n →
    ends_scope kind t n ≡ true
cells_end Scope h t n c = cell_is_one t scope refl n c
cells_end ListItemScope h t n c = cell_is_one t list_item_scope refl n c
cells_end ButtonScope h t n c = cell_is_one t button_scope refl n c
cells_end TableScope h t n c = cc

apart_names : (t : GrowingTree) (names others : List (List ℕ)) → apart names others ≡ true → (n : ℕ) → is_one t names n ≡ true →
    is_one t others n ≡ true → ⊥
apart_names t names others ok n h k = opposite (is_one t others n) (named_apart names others ok (label_of (kind_of t n)) h) k

-- "close a p element", and whether there is one
pub good_without_p : (k : Sort) (claim : Bool) (t : GrowingTree) → Good k claim t → Good k claim (without_p t)
good_without_p k claim t good = by (has_in_scope ButtonScope (codes "p" ∷ []) t) refl
  where
    p : List (List ℕ)
    p = codes "p" ∷ []

    by : (x : Bool) → has_in_scope ButtonScope p t ≡ x →
        Good k claim (elim x as (λ _. GrowingTree) [ true ↦ popped_until p (implied_of implied p t) | false ↦ t ])
    by true e = good_implied_past k claim t implied p (is_one t p) (ends_scope ButtonScope t) refl (only_apart p fixed refl t)
        (λ c n. cells_end ButtonScope refl t n)
        (λ n h w. opposite (is_one t p n) (both (is_one t implied n) (not (is_one t p n)) h).1 w) e good
    by false e = good

-- an element taken out
pub good_unstacked : (k : Sort) (claim : Bool) (t : GrowingTree) (n : ℕ) → Is loose (labels t.nodes) n → Good k claim t →
    Good k claim (unstacked n t)
good_unstacked k claim t n l good = (
  without_stands k (labels t.nodes) n (loose_plain (labels t.nodes) n l) t.stack good.0,
  λ c. without_has cell (labels t.nodes) n (loose_no_cell (labels t.nodes) n l) t.stack (good.1 c),
  good.2,
)

listed_filtered : (ls : List Label) (n : ℕ) (es : List Entry) → AllListed ls es → AllListed ls (filter (λ entry. not (is_entry n entry)) es)
listed_filtered ls n [] h = tt
listed_filtered ls n (Marker ∷ es) h = listed_filtered ls n es h
listed_filtered ls n (Formatting m ∷ es) h = by (not (nat_eq m n)) (listed_filtered ls n es h.1)
  where
    rest : List Entry
    rest = filter (λ entry. not (is_entry n entry)) es

    by : (x : Bool) → AllListed ls rest → AllListed ls (cond x (Formatting m ∷ rest) rest)
    by true k = (h.0, k)
    by false k = k

pub good_unlisted : (k : Sort) (claim : Bool) (t : GrowingTree) (n : ℕ) → Good k claim t → Good k claim (unlisted n t)
good_unlisted k claim t n good = good_listed k claim t (filter (λ entry. not (is_entry n entry)) t.listed)
    (listed_filtered (labels t.nodes) n t.listed good.2.entries) good

pub good_without_found : (k : Sort) (claim : Bool) (t : GrowingTree) → Good k claim t → Good k claim (without_found t.found t)
good_without_found k claim t good = by t.found good.2.found_is
  where
    by : (o : Option ℕ) → IsFound (labels t.nodes) o → Good k claim (without_found o t)
    by None h = good
    by (Some n) h = good_unstacked k claim (unlisted n t) n h (good_unlisted k claim t n good)

pub good_form_ended : (k : Sort) (claim : Bool) (t : GrowingTree) (form : FormPointer) → IsForm (labels t.nodes) form → Good k claim t →
    Good k claim (form_ended form t)
good_form_ended k claim t NoForm h good = good
good_form_ended k claim t FormOfContext h good = good
good_form_ended k claim t (FormAt n) h good = by (in_scope (nat_eq n) (ends_scope Scope t) t.stack)
  where
    by : (x : Bool) → Good k claim (elim x as (λ _. GrowingTree) [ true ↦ unstacked n (implied_of implied [] t) | false ↦ t ])
    by true = good_unstacked k claim (implied_of implied [] t) n h (good_implied k claim t implied [] refl good)
    by false = good

pub good_form : (k : Sort) (claim : Bool) (t : GrowingTree) (form : FormPointer) → IsForm (labels t.nodes) form → Good k claim t →
    Good k claim (record t { form = form })
good_form k claim t form h good = (
  good.0,
  good.1,
  record {
    entries = good.2.entries;
    form_is = h;
    found_is = good.2.found_is;
    head_is = good.2.head_is;
  },
)

pub good_found : (k : Sort) (claim : Bool) (t : GrowingTree) (o : Option ℕ) → IsFound (labels t.nodes) o → Good k claim t →
    Good k claim (record t { found = o })
good_found k claim t o h good = (
  good.0,
  good.1,
  record {
    entries = good.2.entries;
    form_is = good.2.form_is;
    found_is = h;
    head_is = good.2.head_is;
  },
)
