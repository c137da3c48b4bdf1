-- What stays true while plain trees are built.
use Rattle.std.specs.Prelude.{◌≡◌, ℕ, suc, Bool, true, false, not, ◌&&◌, ◌||◌, nat_eq, nat_lt, List, [], ◌∷◌, Option, None, Some, bytes_eq, codes, refl}
use Rattle.std.proofs.lemmas.Bool.{true≢false, and_parts}
use Rattle.std.specs.Cmp.Derive.{both_true}
use mathlib.Core.Path.{◌∙◌, sym, ap}
use native.Mathlib.Omega.{arith}
use Rattle.standard_rules.specs.Building.{cleared, Building, Open, Entry, Marker, Listed, in_scope, is_open, is_listed, mode_of, names_of_stack, needs_none, last_listed, without_third, same_attrs}
use Rattle.standard_rules.specs.PlainTrees.{AList, ADescriptionList, ARuby, ATable, AColumnGroup, ARowGroup, ARow, Place, FlowPlace, HeadingPlace, ListPlace, DescriptionListPlace, RubyPlace, TablePlace, ColumnGroupPlace, RowGroupPlace, RowPlace, HeadPlace, Within, is_column_group}
use Rattle.standard_rules.specs.PlainTrees.{is_description_list, is_flow, is_head, is_heading, is_list, is_row, is_row_group, is_ruby, is_table, names_of}
use Rattle.standard_rules.specs.TreeRules.{formatting, headings}
use Rattle.standard_tokens.specs.Tokens.{Attr}
use Rattle.standard_rules.specs.TreeTokens.{Trees, is_among}
use Rattle.standard_rules.specs.RuleWords.{Mode, InBody, InCaption, InCell, InColumnGroup, InHead, InRow, InTable, InTableBody}

-- what an open element keeps
pub record Key : Type 0 where
  pub number : ℕ
  pub name : List ℕ

abbrev pub key : Open → Key
key o = record { number = o.number; name = o.name }

abbrev pub keys : List Open → List Key
keys [] = []
keys (o ∷ os) = key o ∷ keys os

-- elements that put a marker into the list
abbrev pub markers : List (List ℕ)
markers = codes "td" ∷ codes "th" ∷ codes "caption" ∷ []

abbrev pub Unlisted : List ℕ → Type 0
Unlisted name = (is_among name formatting ≡ false) × (is_among name markers ≡ false)

abbrev pub Listable : List ℕ → Type 0
Listable name = (is_among name formatting ≡ true) × (is_among name markers ≡ false)

-- the list of active formatting elements is among the open ones, in their order: no more is needed
pub data Fits : List Key → List Entry → Type 0 where
  none : {ks : List Key} → Fits ks []
  pass : {k : Key} {ks : List Key} {es : List Entry} → Fits ks es → Fits (k ∷ ks) es
  mine : {k : Key} {ks : List Key} {es : List Entry} → (attrs : List Attr) → is_among k.name formatting ≡ true → Fits ks es → Fits (k ∷ ks) (Listed k.number k.name attrs ∷ es)
  mark : {k : Key} {ks : List Key} {es : List Entry} → is_among k.name markers ≡ true → Fits ks es → Fits (k ∷ ks) (Marker ∷ es)

-- the modes in which a body's contents are read
pub data FlowMode : Type 0 where
  body caption cell : FlowMode

abbrev pub mode_at : FlowMode → Mode
mode_at body = InBody
mode_at caption = InCaption
mode_at cell = InCell

abbrev pub lacks : List ℕ → List Key → Bool
lacks name [] = true
lacks name (k ∷ ks) = not (bytes_eq k.name name) && lacks name ks

abbrev pub are_below : ℕ → List Key → Bool
are_below n [] = true
are_below n (k ∷ ks) = nat_lt k.number n && are_below n ks

abbrev pub top_key_is : List (List ℕ) → List Key → Bool
top_key_is names [] = false
top_key_is names (k ∷ ks) = is_among k.name names

-- the state outside of the current element, which a whole element leaves as it was
pub record Outer : Type 0 where
  pub mode : Mode
  pub document : Trees
  pub form : Option ℕ
  pub context : Option (List ℕ)

abbrev pub outer : Building → Outer
outer b = record { mode = b.mode; document = b.document; form = b.form; context = b.context }

abbrev pub key_names : List Key → List (List ℕ)
key_names [] = []
key_names (k ∷ ks) = k.name ∷ key_names ks

abbrev pub is_deep : List Key → Bool
is_deep (k ∷ m ∷ ks) = true
is_deep _ = false

-- the mode is one of the three, and is the one that the stack gives
pub record InFlow (x : Outer) (ks : List Key) : Type 0 where
  pub flow : FlowMode
  pub mode : x.mode ≡ mode_at flow
  pub found : mode_of x.context (key_names ks) ≡ Some x.mode

-- the mode and the current node are those of a part of a table
abbrev pub InPart : Mode → List (List ℕ) → Outer → List Key → Type 0
InPart mode names x ks = (x.mode ≡ mode) × (top_key_is names ks ≡ true) × (is_deep ks ≡ true)

-- the mode and the current node are those of the place
abbrev pub At : Place → Outer → List Key → Type 0
At FlowPlace x ks = InFlow x ks × (top_key_is headings ks ≡ false)
At HeadingPlace x ks = InFlow x ks
At ListPlace x ks = InFlow x ks × (top_key_is headings ks ≡ false) × (top_key_is (names_of AList) ks ≡ true) × (lacks (codes "p") ks ≡ true)
At DescriptionListPlace x ks = InFlow x ks × (top_key_is headings ks ≡ false) × (top_key_is (names_of ADescriptionList) ks ≡ true) × (lacks (codes "p") ks ≡ true)
At RubyPlace x ks = InFlow x ks × (top_key_is headings ks ≡ false) × (top_key_is (names_of ARuby) ks ≡ true) × (is_deep ks ≡ true)
At TablePlace x ks = InPart InTable (names_of ATable) x ks
At ColumnGroupPlace x ks = InPart InColumnGroup (names_of AColumnGroup) x ks
At RowGroupPlace x ks = InPart InTableBody (names_of ARowGroup) x ks
At RowPlace x ks = InPart InRow (names_of ARow) x ks
At HeadPlace x ks = x.mode ≡ InHead

-- the elements that are barred inside others of their kind are not open, as far as that is known
pub record Bars (w : Within) (form : Option ℕ) (ks : List Key) : Type 0 where
  pub no_p : w.paragraph ≡ false → lacks (codes "p") ks ≡ true
  pub no_a : w.anchor ≡ false → lacks (codes "a") ks ≡ true
  pub no_button : w.button ≡ false → lacks (codes "button") ks ≡ true
  pub no_form : w.form ≡ false → form ≡ None

-- what the state and the open elements are where nodes stand in that
pub record Steady (w : Within) (x : Outer) (ks : List Key) : Type 0 where
  pub place : At w.place x ks
  pub bars : Bars w x.form ks

-- what every step keeps
pub record Ready (b : Building) (ks : List Key) : Type 0 where
  pub skip : b.skip ≡ false
  pub fits : Fits ks b.listed
  pub numbers : are_below b.next ks ≡ true

-- ---- what follows of it

pub lacking : (bounds : List (List ℕ)) (name : List ℕ) (os : List Open) → lacks name (keys os) ≡ true → in_scope bounds (name ∷ []) os ≡ false
unfolding in_scope
lacking bounds name [] h = refl
lacking bounds name (o ∷ os) h =
    let parts : (not (bytes_eq o.name name) ≡ true) × (lacks name (keys os) ≡ true) = and_parts (not (bytes_eq o.name name)) (lacks name (keys os)) h in
    rw (false_of (bytes_eq o.name name) parts.0, lacking bounds name os parts.1) (and_false (not (is_among o.name bounds)))
  where
    false_of : (b : Bool) → not b ≡ true → b ≡ false
    false_of true k = cc
    false_of false k = refl

    and_false : (b : Bool) → (b && false) ≡ false
    and_false true = refl
    and_false false = refl

abbrev pub key_open : ℕ → List Key → Bool
key_open n [] = false
key_open n (k ∷ ks) = nat_eq k.number n || key_open n ks

same_open : (n : ℕ) (os : List Open) → is_open n os ≡ key_open n (keys os)
same_open n [] = refl
same_open n (o ∷ os) = ap (λ b. nat_eq o.number n || b) (same_open n os)

abbrev needs_key : List Entry → List Key → Bool
needs_key [] ks = true
needs_key (Marker ∷ es) ks = true
needs_key (Listed n m bs ∷ es) ks = key_open n ks

or_true : (a b : Bool) → b ≡ true → (a || b) ≡ true
or_true true b h = refl
or_true false b h = h

pub same_number : (n : ℕ) → nat_eq n n ≡ true
same_number n = grind arith

needs_more : (es : List Entry) (k : Key) (ks : List Key) → needs_key es ks ≡ true → needs_key es (k ∷ ks) ≡ true
needs_more [] k ks h = refl
needs_more (Marker ∷ es) k ks h = refl
needs_more (Listed n m bs ∷ es) k ks h = or_true (nat_eq k.number n) (key_open n ks) h

needs_none_key : {ks : List Key} {es : List Entry} → Fits ks es → needs_key es ks ≡ true
needs_none_key none = refl
needs_none_key (pass {k} {ks} {es} f) = needs_more es k ks (needs_none_key f)
needs_none_key (mine {k} {ks} {es} attrs is f) = rw (same_number k.number) refl
needs_none_key (mark is f) = refl

-- an entry's element is open
pub none_needed : (os : List Open) (es : List Entry) → Fits (keys os) es → needs_none es os ≡ true
none_needed os [] f = refl
none_needed os (Marker ∷ es) f = refl
none_needed os (Listed n m bs ∷ es) f = same_open n os ∙ needs_none_key f

pub fits_less : (n : ℕ) (name : List ℕ) (attrs : List Attr) {ks : List Key} {es : List Entry} → Fits ks es → Fits ks (without_third n name attrs es)
fits_less n name attrs (mark is f) = mark is f
fits_less n name attrs none = none
fits_less n name attrs (pass f) = pass (fits_less n name attrs f)
fits_less n name attrs (mine {k} {ks} {es} bs is f) = by_tests (bytes_eq k.name name && same_attrs bs attrs) (nat_eq n 2) (fits_less (suc n) name attrs f) (fits_less n name attrs f)
  where
    by_tests : (a b : Bool) → Fits ks (without_third (suc n) name attrs es) → Fits ks (without_third n name attrs es) →
        Fits (k ∷ ks) (elim a [ true ↦ elim b [ true ↦ es | false ↦ Listed k.number k.name bs ∷ without_third (suc n) name attrs es ] | false ↦ Listed k.number k.name bs ∷ without_third n name attrs es ])
    by_tests true true x y = pass f
    by_tests true false x y = mine bs is x
    by_tests false b x y = mine bs is y

-- where the top is no formatting element, the rest fits below it
pub fits_below : {k : Key} {ks : List Key} {es : List Entry} → Unlisted k.name → Fits (k ∷ ks) es → Fits ks es
fits_below h none = none
fits_below h (pass f) = f
fits_below h (mine attrs is f) = absurd (true≢false (sym is ∙ h.0))
fits_below h (mark is f) = absurd (true≢false (sym is ∙ h.1))

not_so : (b : Bool) → not b ≡ true → b ≡ false
not_so true k = cc
not_so false k = refl

pub unlisted_name : (name : List ℕ) {ks : List Key} {es : List Entry} → lacks name ks ≡ true → Fits ks es → last_listed (name ∷ []) es ≡ None
unlisted_name name h none = refl
unlisted_name name h (mark is f) = refl
unlisted_name name h (pass {k} {ks} f) = unlisted_name name (and_parts (not (bytes_eq k.name name)) (lacks name ks) h).1 f
unlisted_name name h (mine {k} {ks} bs is f) =
    let parts : (not (bytes_eq k.name name) ≡ true) × (lacks name ks ≡ true) = and_parts (not (bytes_eq k.name name)) (lacks name ks) h in
    rw (not_so (bytes_eq k.name name) parts.0, last_listed) (unlisted_name name parts.1 f)

other_number : (k n : ℕ) → nat_lt k n ≡ true → nat_eq k n ≡ false
other_number k n h = grind arith

pub unlisted_number : (n : ℕ) {ks : List Key} {es : List Entry} → are_below n ks ≡ true → Fits ks es → is_listed n es ≡ false
unlisted_number n h none = refl
unlisted_number n h (mark {k} {ks} is f) = unlisted_number n (and_parts (nat_lt k.number n) (are_below n ks) h).1 f
unlisted_number n h (pass {k} {ks} f) = unlisted_number n (and_parts (nat_lt k.number n) (are_below n ks) h).1 f
unlisted_number n h (mine {k} {ks} bs is f) =
    let parts : (nat_lt k.number n ≡ true) × (are_below n ks ≡ true) = and_parts (nat_lt k.number n) (are_below n ks) h in
    rw (other_number k.number n parts.0) (unlisted_number n parts.1 f)

more_below : (k n : ℕ) → nat_lt k n ≡ true → nat_lt k (suc n) ≡ true
more_below k n h = grind arith

pub below_more : (n : ℕ) (ks : List Key) → are_below n ks ≡ true → are_below (suc n) ks ≡ true
below_more n [] h = refl
below_more n (k ∷ ks) h =
    let parts : (nat_lt k.number n ≡ true) × (are_below n ks ≡ true) = and_parts (nat_lt k.number n) (are_below n ks) h in
    rw (more_below k.number n parts.0) (below_more n ks parts.1)

pub below_self : (n : ℕ) → nat_lt n (suc n) ≡ true
below_self n = grind arith

-- without what stands behind the last marker it fits as well
less_fits : {ks : List Key} {es : List Entry} → Fits ks es → Fits ks (cleared es)
less_fits none = none
less_fits (pass f) = pass (less_fits f)
less_fits (mine attrs is f) = pass (less_fits f)
less_fits (mark is f) = pass f

-- behind the end tag of an element with a marker the list fits what is open, as it did before
pub fits_cleared : {k : Key} {ks : List Key} {es : List Entry} → is_among k.name formatting ≡ false → Fits (k ∷ ks) es → Fits ks (cleared es)
fits_cleared h none = none
fits_cleared h (pass f) = less_fits f
fits_cleared h (mine attrs is f) = absurd (true≢false (sym is ∙ h))
fits_cleared h (mark is f) = f

pub same_names : (os : List Open) → names_of_stack os ≡ key_names (keys os)
same_names [] = refl
same_names (o ∷ os) = ap (λ names. o.name ∷ names) (same_names os)

-- ---- what an element of one name does to it

-- the mode that the stack gives is that of the elements below
abbrev pub Passes : List ℕ → Type 0
Passes name = (c : Option (List ℕ)) (m : List ℕ) (ms : List (List ℕ)) → mode_of c (name ∷ m ∷ ms) ≡ mode_of c (m ∷ ms)

-- the mode that the stack gives is this one
abbrev pub Gives : Mode → List ℕ → Type 0
Gives mode name = (c : Option (List ℕ)) (m : List ℕ) (ms : List (List ℕ)) → mode_of c (name ∷ m ∷ ms) ≡ Some mode

-- no element that is barred inside another of its kind
pub record Barless (name : List ℕ) : Type 0 where
  pub no_p : bytes_eq name (codes "p") ≡ false
  pub no_a : bytes_eq name (codes "a") ≡ false
  pub no_button : bytes_eq name (codes "button") ≡ false

abbrev pub key_of : ℕ → List ℕ → Key
key_of n name = record { number = n; name = name }

pub lacks_more : (word name : List ℕ) (n : ℕ) (ks : List Key) → bytes_eq name word ≡ false → lacks word ks ≡ true → lacks word (key_of n name ∷ ks) ≡ true
lacks_more word name n ks h k = both_true (ap not h) k

pub into_flow : (name : List ℕ) (n : ℕ) (x : Outer) (k : Key) (ks : List Key) → Passes name → InFlow x (k ∷ ks) → InFlow x (key_of n name ∷ k ∷ ks)
into_flow name n x k ks passes f = record { flow = f.flow; mode = f.mode; found = passes x.context k.name (key_names ks) ∙ f.found }

pub flow_of : (p : Place) (x : Outer) (ks : List Key) → is_flow p ≡ true → At p x ks → InFlow x ks
flow_of FlowPlace x ks h a = a.0
flow_of HeadingPlace x ks h a = a
flow_of ListPlace x ks h a = a.0
flow_of DescriptionListPlace x ks h a = a.0
flow_of RubyPlace x ks h a = a.0
flow_of TablePlace x ks h a = absurd (true≢false (sym h))
flow_of ColumnGroupPlace x ks h a = absurd (true≢false (sym h))
flow_of RowGroupPlace x ks h a = absurd (true≢false (sym h))
flow_of RowPlace x ks h a = absurd (true≢false (sym h))
flow_of HeadPlace x ks h a = absurd (true≢false (sym h))

-- the children of an element that is barred nowhere
pub steady_in : (w : Within) (place : Place) (x : Outer) (n : ℕ) (name : List ℕ) (ks : List Key) → Barless name → At place x (key_of n name ∷ ks) → Bars w x.form ks →
    Steady (record w { place = place }) x (key_of n name ∷ ks)
steady_in w place x n name ks other at s = record {
  place = at;
  bars = record {
    no_p = λ e. lacks_more (codes "p") name n ks other.no_p (s.no_p e);
    no_a = λ e. lacks_more (codes "a") name n ks other.no_a (s.no_a e);
    no_button = λ e. lacks_more (codes "button") name n ks other.no_button (s.no_button e);
    no_form = s.no_form;
  };
}

-- ---- what is known of a place

pub not_heading_at : (p : Place) (x : Outer) (ks : List Key) → is_flow p ≡ true → is_heading p ≡ false → At p x ks → top_key_is headings ks ≡ false
not_heading_at FlowPlace x ks h k a = a.1
not_heading_at HeadingPlace x ks h k a = absurd (true≢false k)
not_heading_at ListPlace x ks h k a = a.1
not_heading_at DescriptionListPlace x ks h k a = a.1
not_heading_at RubyPlace x ks h k a = a.1
not_heading_at TablePlace x ks h k a = absurd (true≢false (sym h))
not_heading_at ColumnGroupPlace x ks h k a = absurd (true≢false (sym h))
not_heading_at RowGroupPlace x ks h k a = absurd (true≢false (sym h))
not_heading_at RowPlace x ks h k a = absurd (true≢false (sym h))
not_heading_at HeadPlace x ks h k a = absurd (true≢false (sym h))

pub list_at : (p : Place) (x : Outer) (ks : List Key) → is_list p ≡ true → At p x ks → At ListPlace x ks
list_at FlowPlace x ks h a = absurd (true≢false (sym h))
list_at HeadingPlace x ks h a = absurd (true≢false (sym h))
list_at ListPlace x ks h a = a
list_at DescriptionListPlace x ks h a = absurd (true≢false (sym h))
list_at RubyPlace x ks h a = absurd (true≢false (sym h))
list_at TablePlace x ks h a = absurd (true≢false (sym h))
list_at ColumnGroupPlace x ks h a = absurd (true≢false (sym h))
list_at RowGroupPlace x ks h a = absurd (true≢false (sym h))
list_at RowPlace x ks h a = absurd (true≢false (sym h))
list_at HeadPlace x ks h a = absurd (true≢false (sym h))

pub description_list_at : (p : Place) (x : Outer) (ks : List Key) → is_description_list p ≡ true → At p x ks → At DescriptionListPlace x ks
description_list_at FlowPlace x ks h a = absurd (true≢false (sym h))
description_list_at HeadingPlace x ks h a = absurd (true≢false (sym h))
description_list_at ListPlace x ks h a = absurd (true≢false (sym h))
description_list_at DescriptionListPlace x ks h a = a
description_list_at RubyPlace x ks h a = absurd (true≢false (sym h))
description_list_at TablePlace x ks h a = absurd (true≢false (sym h))
description_list_at ColumnGroupPlace x ks h a = absurd (true≢false (sym h))
description_list_at RowGroupPlace x ks h a = absurd (true≢false (sym h))
description_list_at RowPlace x ks h a = absurd (true≢false (sym h))
description_list_at HeadPlace x ks h a = absurd (true≢false (sym h))

pub ruby_at : (p : Place) (x : Outer) (ks : List Key) → is_ruby p ≡ true → At p x ks → At RubyPlace x ks
ruby_at FlowPlace x ks h a = absurd (true≢false (sym h))
ruby_at HeadingPlace x ks h a = absurd (true≢false (sym h))
ruby_at ListPlace x ks h a = absurd (true≢false (sym h))
ruby_at DescriptionListPlace x ks h a = absurd (true≢false (sym h))
ruby_at RubyPlace x ks h a = a
ruby_at TablePlace x ks h a = absurd (true≢false (sym h))
ruby_at ColumnGroupPlace x ks h a = absurd (true≢false (sym h))
ruby_at RowGroupPlace x ks h a = absurd (true≢false (sym h))
ruby_at RowPlace x ks h a = absurd (true≢false (sym h))
ruby_at HeadPlace x ks h a = absurd (true≢false (sym h))

pub table_at : (p : Place) (x : Outer) (ks : List Key) → is_table p ≡ true → At p x ks → At TablePlace x ks
table_at FlowPlace x ks h a = absurd (true≢false (sym h))
table_at HeadingPlace x ks h a = absurd (true≢false (sym h))
table_at ListPlace x ks h a = absurd (true≢false (sym h))
table_at DescriptionListPlace x ks h a = absurd (true≢false (sym h))
table_at RubyPlace x ks h a = absurd (true≢false (sym h))
table_at TablePlace x ks h a = a
table_at ColumnGroupPlace x ks h a = absurd (true≢false (sym h))
table_at RowGroupPlace x ks h a = absurd (true≢false (sym h))
table_at RowPlace x ks h a = absurd (true≢false (sym h))
table_at HeadPlace x ks h a = absurd (true≢false (sym h))

pub column_group_at : (p : Place) (x : Outer) (ks : List Key) → is_column_group p ≡ true → At p x ks → At ColumnGroupPlace x ks
column_group_at FlowPlace x ks h a = absurd (true≢false (sym h))
column_group_at HeadingPlace x ks h a = absurd (true≢false (sym h))
column_group_at ListPlace x ks h a = absurd (true≢false (sym h))
column_group_at DescriptionListPlace x ks h a = absurd (true≢false (sym h))
column_group_at RubyPlace x ks h a = absurd (true≢false (sym h))
column_group_at TablePlace x ks h a = absurd (true≢false (sym h))
column_group_at ColumnGroupPlace x ks h a = a
column_group_at RowGroupPlace x ks h a = absurd (true≢false (sym h))
column_group_at RowPlace x ks h a = absurd (true≢false (sym h))
column_group_at HeadPlace x ks h a = absurd (true≢false (sym h))

pub row_group_at : (p : Place) (x : Outer) (ks : List Key) → is_row_group p ≡ true → At p x ks → At RowGroupPlace x ks
row_group_at FlowPlace x ks h a = absurd (true≢false (sym h))
row_group_at HeadingPlace x ks h a = absurd (true≢false (sym h))
row_group_at ListPlace x ks h a = absurd (true≢false (sym h))
row_group_at DescriptionListPlace x ks h a = absurd (true≢false (sym h))
row_group_at RubyPlace x ks h a = absurd (true≢false (sym h))
row_group_at TablePlace x ks h a = absurd (true≢false (sym h))
row_group_at ColumnGroupPlace x ks h a = absurd (true≢false (sym h))
row_group_at RowGroupPlace x ks h a = a
row_group_at RowPlace x ks h a = absurd (true≢false (sym h))
row_group_at HeadPlace x ks h a = absurd (true≢false (sym h))

pub row_at : (p : Place) (x : Outer) (ks : List Key) → is_row p ≡ true → At p x ks → At RowPlace x ks
row_at FlowPlace x ks h a = absurd (true≢false (sym h))
row_at HeadingPlace x ks h a = absurd (true≢false (sym h))
row_at ListPlace x ks h a = absurd (true≢false (sym h))
row_at DescriptionListPlace x ks h a = absurd (true≢false (sym h))
row_at RubyPlace x ks h a = absurd (true≢false (sym h))
row_at TablePlace x ks h a = absurd (true≢false (sym h))
row_at ColumnGroupPlace x ks h a = absurd (true≢false (sym h))
row_at RowGroupPlace x ks h a = absurd (true≢false (sym h))
row_at RowPlace x ks h a = a
row_at HeadPlace x ks h a = absurd (true≢false (sym h))

pub head_at : (p : Place) (x : Outer) (ks : List Key) → is_head p ≡ true → At p x ks → At HeadPlace x ks
head_at FlowPlace x ks h a = absurd (true≢false (sym h))
head_at HeadingPlace x ks h a = absurd (true≢false (sym h))
head_at ListPlace x ks h a = absurd (true≢false (sym h))
head_at DescriptionListPlace x ks h a = absurd (true≢false (sym h))
head_at RubyPlace x ks h a = absurd (true≢false (sym h))
head_at TablePlace x ks h a = absurd (true≢false (sym h))
head_at ColumnGroupPlace x ks h a = absurd (true≢false (sym h))
head_at RowGroupPlace x ks h a = absurd (true≢false (sym h))
head_at RowPlace x ks h a = absurd (true≢false (sym h))
head_at HeadPlace x ks h a = a
