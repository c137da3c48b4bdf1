-- The list of active formatting elements and the form pointer in both definitions.
use Rattle.std.specs.Prelude.{◌≡◌, refl, ℕ, suc, ◌<◌, ◌≤◌, Bool, true, false, cond, not, ◌&&◌, ◌||◌, nat_eq, List, [], ◌∷◌, Option, None, Some, bytes_eq, codes}
use Rattle.std.specs.Prelude.{filter, length}
use Rattle.std.specs.List.{list_any}
use Rattle.std.proofs.Common.{arith}
use Rattle.std.proofs.lemmas.Bool.{true≢false}
use Rattle.std.proofs.lemmas.Slice.Eq.{bytes_eq-Decides}
use mathlib.Core.Path.{◌∙◌, sym, ap, subst}
use Rattle.standard_tokens.specs.Tokens.{Attr}
use Rattle.standard_rules.specs.Building.{Entry as OldEntry, Listed, Marker as OldMarker, Open, cleared as old_cleared, holds_all as old_holds_all, is_listed as old_is_listed}
use Rattle.standard_rules.specs.Building.{is_open, last_listed as old_last_listed, needs_none, same_attr as old_same_attr, same_attrs, unlisted as old_unlisted}
use Rattle.standard_rules.specs.Building.{without_third as old_without_third}
use Rattle.standard_rules.specs.TreeTokens.{Trees, is_among}
use Rattle.standard_trees.specs.TreeStore.{NoSpace, Node, attrs_in, is_member, key_in, node_at}
use Rattle.standard_trees.specs.GrowingTree.{Entry, FormAt, FormOfContext, FormPointer, Formatting, GrowingTree, Marker, NoForm, is_named, is_one, kind_of}
use Rattle.standard_trees.specs.Formatting.{are_alike, cleared, closed_entries, holds_all, is_entry, last_listed, same_attr, without_third}
use Rattle.standard_agreement.proofs.Names.{IsKnown, alike, alike_is}
use Rattle.standard_agreement.proofs.Preorder.{element, node_attrs}
use Rattle.standard_agreement.proofs.Store.{free, numbers}

-- ---- one element under both numbers

-- the element numbered k is where the node n is
abbrev pub Matched : ℕ → ℕ → Trees → List Open → Type 0
Matched k n document [] = Unit {0}
Matched k n document (o ∷ os) = (nat_eq o.number k ≡ nat_eq (free document os) n) × Matched k n document os

pub record Linked (nodes : List Node) (next : ℕ) (document : Trees) (os : List Open) (k : ℕ) (name : List ℕ) (attrs : List Attr) (n : ℕ) : Type 0 where
  pub kind : (node_at nodes n).kind ≡ element name attrs
  pub known : IsKnown name
  pub old : k < next
  pub new : n < length nodes
  pub matched : Matched k n document os

-- the entries have smaller numbers
abbrev pub AllBelow : ℕ → List Entry → Type 0
AllBelow n [] = Unit {0}
AllBelow n (Marker ∷ fs) = AllBelow n fs
AllBelow n (Formatting m ∷ fs) = (m < n) × AllBelow n fs

abbrev pub Entries : List Node → ℕ → Trees → List Open → List OldEntry → List Entry → Type 0
Entries nodes next document os [] [] = Unit {0}
Entries nodes next document os (OldMarker ∷ es) (Marker ∷ fs) = Entries nodes next document os es fs
Entries nodes next document os (Listed k name attrs ∷ es) (Formatting n ∷ fs) =
    Linked nodes next document os k name attrs n × AllBelow n fs × Entries nodes next document os es fs
Entries nodes next document os _ _ = ⊥

abbrev pub FormIs : List Node → ℕ → Trees → List Open → Option ℕ → FormPointer → Type 0
FormIs nodes next document os None NoForm = Unit {0}
FormIs nodes next document os (Some k) (FormAt n) = (attrs : List Attr) × Linked nodes next document os k (codes "form") attrs n
FormIs nodes next document os _ _ = ⊥

-- ---- a step that keeps elements

pub record Keeps (nodes more : List Node) (next later : ℕ) (document : Trees) (os ps : List Open) : Type 0 where
  pub kinds : (n : ℕ) (name : List ℕ) (attrs : List Attr) → n < length nodes → (node_at nodes n).kind ≡ element name attrs → (node_at more n).kind ≡ element name attrs
  pub old : next ≤ later
  pub new : length nodes ≤ length more
  pub matched : (k n : ℕ) → k < next → n < length nodes → Matched k n document os → Matched k n document ps

linked_kept : (nodes more : List Node) (next later : ℕ) (document : Trees) (os ps : List Open) → Keeps nodes more next later document os ps → (k : ℕ) (name : List ℕ) (attrs : List Attr) (n : ℕ) →
    Linked nodes next document os k name attrs n → Linked more later document ps k name attrs n
linked_kept nodes more next later document os ps keeps k name attrs n l =
    let a : next ≤ later = keeps.old in
    let b : length nodes ≤ length more = keeps.new in
    let c : k < next = l.old in
    let d : n < length nodes = l.new in
    record { kind = keeps.kinds n name attrs l.new l.kind; known = l.known; old = omega arith; new = omega arith; matched = keeps.matched k n l.old l.new l.matched }

pub entries_kept : (nodes more : List Node) (next later : ℕ) (document : Trees) (os ps : List Open) → Keeps nodes more next later document os ps → (es : List OldEntry) (fs : List Entry) →
    Entries nodes next document os es fs → Entries more later document ps es fs
entries_kept nodes more next later document os ps keeps [] [] h = tt
entries_kept nodes more next later document os ps keeps (OldMarker ∷ es) (Marker ∷ fs) h = entries_kept nodes more next later document os ps keeps es fs h
entries_kept nodes more next later document os ps keeps (Listed k name attrs ∷ es) (Formatting n ∷ fs) h =
    (linked_kept nodes more next later document os ps keeps k name attrs n h.0, h.1, entries_kept nodes more next later document os ps keeps es fs h.2)
entries_kept nodes more next later document os ps keeps [] (f ∷ fs) h = absurd h
entries_kept nodes more next later document os ps keeps (OldMarker ∷ es) [] h = absurd h
entries_kept nodes more next later document os ps keeps (Listed k name attrs ∷ es) [] h = absurd h
entries_kept nodes more next later document os ps keeps (OldMarker ∷ es) (Formatting n ∷ fs) h = absurd h
entries_kept nodes more next later document os ps keeps (Listed k name attrs ∷ es) (Marker ∷ fs) h = absurd h

pub form_kept : (nodes more : List Node) (next later : ℕ) (document : Trees) (os ps : List Open) → Keeps nodes more next later document os ps → (form : Option ℕ) (pointer : FormPointer) →
    FormIs nodes next document os form pointer → FormIs more later document ps form pointer
form_kept nodes more next later document os ps keeps None NoForm h = tt
form_kept nodes more next later document os ps keeps (Some k) (FormAt n) h = (h.0, linked_kept nodes more next later document os ps keeps k (codes "form") h.0 n h.1)
form_kept nodes more next later document os ps keeps None (FormAt n) h = absurd h
form_kept nodes more next later document os ps keeps None FormOfContext h = absurd h
form_kept nodes more next later document os ps keeps (Some k) NoForm h = absurd h
form_kept nodes more next later document os ps keeps (Some k) FormOfContext h = absurd h

-- ---- the last of some names

abbrev pub FoundIs : List Node → ℕ → Trees → List Open → Option ℕ → Option ℕ → Type 0
FoundIs nodes next document os None None = Unit {0}
FoundIs nodes next document os (Some k) (Some n) = (name : List ℕ) × (attrs : List Attr) × Linked nodes next document os k name attrs n
FoundIs nodes next document os _ _ = ⊥

pub last_is : (t : GrowingTree) (next : ℕ) (document : Trees) (os : List Open) (names others : List (List ℕ)) → alike names others ≡ true → (es : List OldEntry) (fs : List Entry) →
    Entries t.nodes next document os es fs → FoundIs t.nodes next document os (old_last_listed others es) (last_listed t names fs)
last_is t next document os names others same [] [] h = tt
last_is t next document os names others same (OldMarker ∷ es) (Marker ∷ fs) h = tt
last_is t next document os names others same (Listed k name attrs ∷ es) (Formatting n ∷ fs) h =
    by_test (is_one t names n) (is_among name others) (ap (is_named names) h.0.kind ∙ alike_is names others same name h.0.known)
    (last_is t next document os names others same es fs h.2)
  where
    by_test : (x y : Bool) → x ≡ y → FoundIs t.nodes next document os (old_last_listed others es) (last_listed t names fs) →
        FoundIs t.nodes next document os (elim y [ true ↦ Some k | false ↦ old_last_listed others es ]) (elim x [ true ↦ Some n | false ↦ last_listed t names fs ])
    by_test true true e later = (name, attrs, h.0)
    by_test true false e later = cc
    by_test false true e later = cc
    by_test false false e later = later
last_is t next document os names others same [] (f ∷ fs) h = absurd h
last_is t next document os names others same (OldMarker ∷ es) [] h = absurd h
last_is t next document os names others same (Listed k name attrs ∷ es) [] h = absurd h
last_is t next document os names others same (OldMarker ∷ es) (Formatting n ∷ fs) h = absurd h
last_is t next document os names others same (Listed k name attrs ∷ es) (Marker ∷ fs) h = absurd h

-- ---- is the current node listed

turned : (m n : ℕ) → nat_eq m n ≡ nat_eq n m
turned m n = grind arith

pub listed_is : (t : GrowingTree) (next : ℕ) (document : Trees) (o : Open) (os : List Open) (es : List OldEntry) (fs : List Entry) → Entries t.nodes next document (o ∷ os) es fs →
    list_any (is_entry (free document os)) fs ≡ old_is_listed o.number es
listed_is t next document o os [] [] h = refl
listed_is t next document o os (OldMarker ∷ es) (Marker ∷ fs) h = listed_is t next document o os es fs h
listed_is t next document o os (Listed k name attrs ∷ es) (Formatting n ∷ fs) h =
    ap (λ x. x || list_any (is_entry (free document os)) fs) (turned n (free document os) ∙ sym h.0.matched.0 ∙ turned o.number k)
    ∙ ap (λ x. nat_eq k o.number || x) (listed_is t next document o os es fs h.2)
listed_is t next document o os [] (f ∷ fs) h = absurd h
listed_is t next document o os (OldMarker ∷ es) [] h = absurd h
listed_is t next document o os (Listed k name attrs ∷ es) [] h = absurd h
listed_is t next document o os (OldMarker ∷ es) (Formatting n ∷ fs) h = absurd h
listed_is t next document o os (Listed k name attrs ∷ es) (Marker ∷ fs) h = absurd h

-- ---- without the current node

abbrev pub others_than : ℕ → List Entry → List Entry
others_than n fs = filter (λ entry. not (is_entry n entry)) fs

below_other : (m n : ℕ) → m < n → nat_eq m n ≡ false
below_other m n h = grind arith

all_others : (n : ℕ) (fs : List Entry) → AllBelow n fs → others_than n fs ≡ fs
all_others n [] h = refl
all_others n (Marker ∷ fs) h = ap (λ l. Marker ∷ l) (all_others n fs h)
all_others n (Formatting m ∷ fs) h = by_test (nat_eq m n) (below_other m n h.0) (all_others n fs h.1)
  where
    by_test : (x : Bool) → x ≡ false → others_than n fs ≡ fs → cond (not x) (Formatting m ∷ others_than n fs) (others_than n fs) ≡ Formatting m ∷ fs
    by_test true e later = absurd (true≢false e)
    by_test false e later = ap (λ l. Formatting m ∷ l) later

below_others : (m n : ℕ) (fs : List Entry) → AllBelow m fs → AllBelow m (others_than n fs)
below_others m n [] h = tt
below_others m n (Marker ∷ fs) h = below_others m n fs h
below_others m n (Formatting k ∷ fs) h = by_test (nat_eq k n) (below_others m n fs h.1)
  where
    by_test : (x : Bool) → AllBelow m (others_than n fs) → AllBelow m (cond (not x) (Formatting k ∷ others_than n fs) (others_than n fs))
    by_test true later = later
    by_test false later = (h.0, later)

pub unlisted_is : (nodes : List Node) (next : ℕ) (document : Trees) (o : Open) (os : List Open) (es : List OldEntry) (fs : List Entry) → Entries nodes next document (o ∷ os) es fs →
    Entries nodes next document (o ∷ os) (old_unlisted o.number es) (others_than (free document os) fs)
unlisted_is nodes next document o os [] [] h = tt
unlisted_is nodes next document o os (OldMarker ∷ es) (Marker ∷ fs) h = unlisted_is nodes next document o os es fs h
unlisted_is nodes next document o os (Listed k name attrs ∷ es) (Formatting n ∷ fs) h =
    by_test (nat_eq k o.number) (nat_eq n (free document os)) refl (sym (turned n (free document os) ∙ sym h.0.matched.0 ∙ turned o.number k))
    (unlisted_is nodes next document o os es fs h.2)
  where
    same_number : (m n : ℕ) → nat_eq m n ≡ true → m ≡ n
    same_number m n h = grind arith

    by_test : (x y : Bool) → nat_eq n (free document os) ≡ y → x ≡ y → Entries nodes next document (o ∷ os) (old_unlisted o.number es) (others_than (free document os) fs) →
        Entries nodes next document (o ∷ os) (elim x [ true ↦ es | false ↦ Listed k name attrs ∷ old_unlisted o.number es ])
        (cond (not y) (Formatting n ∷ others_than (free document os) fs) (others_than (free document os) fs))
    by_test true true f e later =
        subst (λ l. Entries nodes next document (o ∷ os) es l)
        (sym (ap (λ m. others_than m fs) (sym (same_number n (free document os) f)) ∙ all_others n fs h.1)) h.2
    by_test true false f e later = cc
    by_test false true f e later = cc
    by_test false false f e later = (h.0, below_others n (free document os) fs h.1, later)
unlisted_is nodes next document o os [] (f ∷ fs) h = absurd h
unlisted_is nodes next document o os (OldMarker ∷ es) [] h = absurd h
unlisted_is nodes next document o os (Listed k name attrs ∷ es) [] h = absurd h
unlisted_is nodes next document o os (OldMarker ∷ es) (Formatting n ∷ fs) h = absurd h
unlisted_is nodes next document o os (Listed k name attrs ∷ es) (Marker ∷ fs) h = absurd h

-- ---- up to the last marker

pub cleared_is : (nodes : List Node) (next : ℕ) (document : Trees) (os : List Open) (es : List OldEntry) (fs : List Entry) → Entries nodes next document os es fs →
    Entries nodes next document os (old_cleared es) (cleared fs)
cleared_is nodes next document os [] [] h = tt
cleared_is nodes next document os (OldMarker ∷ es) (Marker ∷ fs) h = h
cleared_is nodes next document os (Listed k name attrs ∷ es) (Formatting n ∷ fs) h = cleared_is nodes next document os es fs h.2
cleared_is nodes next document os [] (f ∷ fs) h = absurd h
cleared_is nodes next document os (OldMarker ∷ es) [] h = absurd h
cleared_is nodes next document os (Listed k name attrs ∷ es) [] h = absurd h
cleared_is nodes next document os (OldMarker ∷ es) (Formatting n ∷ fs) h = absurd h
cleared_is nodes next document os (Listed k name attrs ∷ es) (Marker ∷ fs) h = absurd h

-- ---- nothing to reconstruct

open_is : (k n : ℕ) (document : Trees) (os : List Open) → Matched k n document os → is_member n (numbers document os) ≡ is_open k os
open_is k n document [] h = refl
open_is k n document (o ∷ os) h =
    ap (λ x. x || is_member n (numbers document os)) (turned n (free document os) ∙ sym h.0) ∙ ap (λ x. nat_eq o.number k || x) (open_is k n document os h.1)

pub none_closed : (nodes : List Node) (next : ℕ) (document : Trees) (os : List Open) (es : List OldEntry) (fs : List Entry) → Entries nodes next document os es fs →
    needs_none es os ≡ true → closed_entries (numbers document os) fs ≡ []
none_closed nodes next document os [] [] h need = refl
none_closed nodes next document os (OldMarker ∷ es) (Marker ∷ fs) h need = refl
none_closed nodes next document os (Listed k name attrs ∷ es) (Formatting n ∷ fs) h need =
    ap (λ x. elim x [ true ↦ [] | false ↦ n ∷ closed_entries (numbers document os) fs ]) (open_is k n document os h.0.matched ∙ need)
none_closed nodes next document os [] (f ∷ fs) h need = absurd h
none_closed nodes next document os (OldMarker ∷ es) [] h need = absurd h
none_closed nodes next document os (Listed k name attrs ∷ es) [] h need = absurd h
none_closed nodes next document os (OldMarker ∷ es) (Formatting n ∷ fs) h need = absurd h
none_closed nodes next document os (Listed k name attrs ∷ es) (Marker ∷ fs) h need = absurd h

-- ---- the Noah's Ark clause

any_is : (a : Attr) (others : List Attr) → list_any (same_attr (record { space = NoSpace; name = a.name; value = a.value })) (node_attrs others) ≡ list_any (old_same_attr a) others
any_is a [] = refl
any_is a (b ∷ others) = ap (λ x. old_same_attr a b || x) (any_is a others)

all_is : (attrs others : List Attr) → holds_all (node_attrs attrs) (node_attrs others) ≡ old_holds_all attrs others
all_is [] others = refl
all_is (a ∷ attrs) others =
    ap (λ x. x && holds_all (node_attrs attrs) (node_attrs others)) (any_is a others) ∙ ap (λ x. list_any (old_same_attr a) others && x) (all_is attrs others)

bytes_turned : (xs ys : List ℕ) → bytes_eq xs ys ≡ bytes_eq ys xs
bytes_turned xs ys = by_tests (bytes_eq xs ys) refl (bytes_eq ys xs) refl
  where
    by_tests : (x : Bool) → bytes_eq xs ys ≡ x → (y : Bool) → bytes_eq ys xs ≡ y → x ≡ y
    by_tests true e true f = refl
    by_tests true e false f = absurd (true≢false (sym ((bytes_eq-Decides ys xs).1 (sym ((bytes_eq-Decides xs ys).0 e))) ∙ f))
    by_tests false e true f = absurd (true≢false (sym ((bytes_eq-Decides xs ys).1 (sym ((bytes_eq-Decides ys xs).0 f))) ∙ e))
    by_tests false e false f = refl

alike_are : (t : GrowingTree) (n m : ℕ) (name other : List ℕ) (attrs others : List Attr) → kind_of t n ≡ element name attrs → kind_of t m ≡ element other others →
    are_alike t n m ≡ bytes_eq other name && same_attrs others attrs
alike_are t n m name other attrs others one two =
    ap (λ kind. bytes_eq (key_in kind) (key_in (kind_of t m)) && holds_all (attrs_in kind) (attrs_in (kind_of t m)) && holds_all (attrs_in (kind_of t m)) (attrs_in kind)) one
    ∙ ap (λ kind. bytes_eq name (key_in kind) && holds_all (node_attrs attrs) (attrs_in kind) && holds_all (attrs_in kind) (node_attrs attrs)) two
    ∙ ap (λ x. x && holds_all (node_attrs attrs) (node_attrs others) && holds_all (node_attrs others) (node_attrs attrs)) (bytes_turned name other)
    ∙ ap (λ x. bytes_eq other name && x && holds_all (node_attrs others) (node_attrs attrs)) (all_is attrs others)
    ∙ ap (λ x. bytes_eq other name && old_holds_all attrs others && x) (all_is others attrs)
    ∙ moved (bytes_eq other name) (old_holds_all attrs others) (old_holds_all others attrs)
  where
    moved : (x y z : Bool) → x && y && z ≡ x && (z && y)
    moved true true true = refl
    moved true true false = refl
    moved true false true = refl
    moved true false false = refl
    moved false y z = refl

pub below_third : (t : GrowingTree) (m n count : ℕ) (fs : List Entry) → AllBelow m fs → AllBelow m (without_third t n count fs)
below_third t m n count [] h = tt
below_third t m n count (Marker ∷ fs) h = h
below_third t m n count (Formatting k ∷ fs) h = by_tests (are_alike t n k) (nat_eq count 2) (below_third t m n (suc count) fs h.1) (below_third t m n count fs h.1)
  where
    by_tests : (x y : Bool) → AllBelow m (without_third t n (suc count) fs) → AllBelow m (without_third t n count fs) →
        AllBelow m (elim x [ true ↦ elim y [ true ↦ fs | false ↦ Formatting k ∷ without_third t n (suc count) fs ] | false ↦ Formatting k ∷ without_third t n count fs ])
    by_tests true true a b = h.1
    by_tests true false a b = (h.0, a)
    by_tests false y a b = (h.0, b)

pub third_is : (t : GrowingTree) (next : ℕ) (document : Trees) (os : List Open) (n : ℕ) (name : List ℕ) (attrs : List Attr) → kind_of t n ≡ element name attrs → (count : ℕ) (es : List OldEntry)
    (fs : List Entry) → Entries t.nodes next document os es fs → Entries t.nodes next document os (old_without_third count name attrs es) (without_third t n count fs)
third_is t next document os n name attrs is count [] [] h = tt
third_is t next document os n name attrs is count (OldMarker ∷ es) (Marker ∷ fs) h = h
third_is t next document os n name attrs is count (Listed k other others ∷ es) (Formatting m ∷ fs) h =
    by_tests (are_alike t n m) (bytes_eq other name && same_attrs others attrs) (alike_are t n m name other attrs others is h.0.kind) (nat_eq count 2)
    (third_is t next document os n name attrs is (suc count) es fs h.2) (third_is t next document os n name attrs is count es fs h.2)
  where
    by_tests : (x y : Bool) → x ≡ y → (z : Bool) → Entries t.nodes next document os (old_without_third (suc count) name attrs es) (without_third t n (suc count) fs) →
        Entries t.nodes next document os (old_without_third count name attrs es) (without_third t n count fs) →
        Entries t.nodes next document os
        (elim y [ true ↦ elim z [ true ↦ es | false ↦ Listed k other others ∷ old_without_third (suc count) name attrs es ] | false ↦ Listed k other others ∷ old_without_third count name attrs es ])
        (elim x [ true ↦ elim z [ true ↦ fs | false ↦ Formatting m ∷ without_third t n (suc count) fs ] | false ↦ Formatting m ∷ without_third t n count fs ])
    by_tests true true e true a b = h.2
    by_tests true true e false a b = (h.0, below_third t m n (suc count) fs h.1, a)
    by_tests true false e z a b = cc
    by_tests false true e z a b = cc
    by_tests false false e z a b = (h.0, below_third t m n count fs h.1, b)
third_is t next document os n name attrs is count [] (f ∷ fs) h = absurd h
third_is t next document os n name attrs is count (OldMarker ∷ es) [] h = absurd h
third_is t next document os n name attrs is count (Listed k other others ∷ es) [] h = absurd h
third_is t next document os n name attrs is count (OldMarker ∷ es) (Formatting m ∷ fs) h = absurd h
third_is t next document os n name attrs is count (Listed k other others ∷ es) (Marker ∷ fs) h = absurd h
