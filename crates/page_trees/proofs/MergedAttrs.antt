-- The attributes of later tags, by the element that they are for.
use Rattle.std.proofs.Common.{◌≡◌, ℕ, suc, zero, ◌+◌, ◌<◌, ◌≤◌, ◌==◌, ◌||◌, Bool, true, false, not, List, [], ◌∷◌, ◌++◌, map, filter, refl, sym, ap, subst, ◌∙◌, length, cond, Option, Some, None, String, string_bytes, arith, inl, inr, true≢false, if◌then◌else◌}
use Rattle.std.specs.Prelude.{IfSome, encode_utf8_all, position, slice_get, slice_index_or, slice_set}
use Rattle.std.specs.BTreeMap.{is_at}
use Rattle.std.specs.Cmp.Lexicographic.{slice_cmp}
use Rattle.std.specs.List.{list_any, position_or_len}
use Rattle.std.specs.Option.{option_map_or}
use Rattle.std.specs.Ordering.{nat_cmp}
use Rattle.std.specs.Str.{bytes_eq}
use Rattle.std.proofs.lemmas.Bool.{eqb-true, ltb-false, ltb-true}
use Rattle.std.proofs.lemmas.Bool.Decides.{Decides-like, eqb_tells, same_from_decides}
use Rattle.std.proofs.lemmas.List.{map-append}
use Rattle.std.proofs.lemmas.Option.{none-some, same_Some}
use Rattle.std.proofs.lemmas.Slice.Eq.{bytes_eq-Decides}
use Rattle.std.proofs.lemmas.Str.{encodes_same}
use Rattle.dom_nodes.specs.declared.name.Attr.{Attr}
use Rattle.standard_trees.specs.GrowingTree.{has_named, merged}
use Rattle.standard_trees.specs.TreeStore.{NodeAttr}
use Rattle.page_tokens.specs.declared.attribute.TagAttr.{TagAttr}
use Rattle.page_trees.specs.Foreign.{attr_in}
use Rattle.page_trees.specs.LateAttrs.{AddsAbsent, AreNamesOf, Knows, absent_in, is_present}
use Rattle.page_trees.specs.LateMerges.{AddsAt, AddsTo, KnowsAt}
use Rattle.page_trees.specs.SameNodes.{attr_for}
use Rattle.page_trees.specs.TreeState.{Late, late_at, late_of}
use Rattle.page_trees.specs.declared.growing.late.LateAttrs.{LateAttrs}
use Rattle.page_trees.specs.declared.stack.ElementNamespace.{ElementNamespace}
use Rattle.page_trees.proofs.KeptElements.{added_is}

-- one of two
abbrev pub pick : Bool → Option Late → Option Late → Option Late
pick b x y = if b then x else y

abbrev pub late_for : LateAttrs → Late
late_for late = record { id = late.id; added = late.added.items; names = map (λ name. string_bytes name) late.names.keys }

-- ---- the names

names_listed : {A : Type 0} (keys : List (String A)) (name : List ℕ) →
    list_any (is_at (slice_cmp nat_cmp name)) (map (λ (key : String A). string_bytes key) keys) ≡ list_any (is_at (λ (key : String A). slice_cmp nat_cmp name (string_bytes key))) keys
names_listed [] name = refl
names_listed (key ∷ keys) name = ap (λ b. is_at (slice_cmp nat_cmp name) (string_bytes key) || b) (names_listed keys name)

names_are : (own : List Attr) (late : LateAttrs) → Knows own late → AreNamesOf (late_for late).names (own ++ late.added.items)
names_are own late known name = names_listed late.names.keys name ∙ known name

names_back : (own : List Attr) (late : LateAttrs) → AreNamesOf (late_for late).names (own ++ late.added.items) → Knows own late
names_back own late known name = sym (names_listed late.names.keys name) ∙ known name

-- ---- the first that is for an element

found : (b : Bool) (k i : ℕ) → Some i ≡ cond b (Some k) None → (b ≡ true) × (i ≡ k)
found true k i e = (refl, same_Some i k e)
found false k i e = absurd (none-some i (sym e))

not_found : (b : Bool) (k : ℕ) → None ≡ cond b (Some k) None → b ≡ false
not_found true k e = absurd (none-some k e)
not_found false k e = refl

first_here : (b : Bool) (k : ℕ) → 0 ≡ cond (not b) (1 + k) 0 → b ≡ true
first_here true k e = refl
first_here false k e = absurd (omega (arith, e))

first_later : (b : Bool) (k i : ℕ) → suc i ≡ cond (not b) (1 + k) 0 → (b ≡ false) × (i ≡ k)
first_later true k i e = absurd (omega (arith, e))
first_later false k i e = (refl, omega (arith, e))

none_here : (b : Bool) (k l : ℕ) → suc l ≤ cond (not b) (1 + k) 0 → (b ≡ false) × (l ≤ k)
none_here true k l h = absurd (omega (arith, h))
none_here false k l h = (refl, omega (arith, h))

replaced : (a n m : ℕ) (x y rest : Option Late) → a ≡ n → pick (n == m) y rest ≡ pick (n == m) y (pick (a == m) x rest)
replaced a n m x y rest e = elim (eqb_tells n m) [
  | inl is ↦ ap (λ b. pick b y rest) is.0 ∙ sym (ap (λ b. pick b y (pick (a == m) x rest)) is.0)
  | inr is ↦ ap (λ b. pick b y rest) is.0
      ∙ sym (ap (λ b. pick b y (pick (a == m) x rest)) is.0 ∙ ap (λ b. pick b x rest) (ap (λ (k : ℕ). k == m) e ∙ is.0))
]

passed : (a n m : ℕ) (x y rest after : Option Late) → (a == n) ≡ false → after ≡ pick (n == m) y rest → pick (a == m) x after ≡ pick (n == m) y (pick (a == m) x rest)
passed a n m x y rest after apart e = elim (eqb_tells n m) [
  | inl is ↦ ap (λ b. pick b x after) (ap (λ (k : ℕ). a == k) (sym is.1) ∙ apart) ∙ e ∙ ap (λ b. pick b y rest) is.0
      ∙ sym (ap (λ b. pick b y (pick (a == m) x rest)) is.0)
  | inr is ↦ ap (λ (o : Option Late). pick (a == m) x o) (e ∙ ap (λ b. pick b y rest) is.0) ∙ sym (ap (λ b. pick b y (pick (a == m) x rest)) is.0)
]

abbrev is_for : ℕ → LateAttrs → Bool
is_for n late = late.id == n

set_late : (xs : List LateAttrs) (n i : ℕ) (x y : LateAttrs) → i ≡ position_or_len (is_for n) xs → slice_get xs i ≡ Some x → y.id ≡ x.id → (m : ℕ) →
    late_at (late_of (slice_set xs i y)) m ≡ pick (n == m) (Some (late_for y)) (late_at (late_of xs) m)
set_late [] n i x y e got same m = absurd (none-some x got)
set_late (z ∷ zs) n zero x y e got same m =
    let here : z.id ≡ n = eqb-true z.id n (first_here (z.id == n) (position_or_len (is_for n) zs) e) in
    let id : y.id ≡ n = same ∙ sym (ap (λ (l : LateAttrs). l.id) (same_Some z x got)) ∙ here in
    ap (λ (k : ℕ). pick (k == m) (Some (late_for y)) (late_at (late_of zs) m)) id
    ∙ replaced z.id n m (Some (late_for z)) (Some (late_for y)) (late_at (late_of zs) m) here
set_late (z ∷ zs) n (suc i) x y e got same m =
    let later = first_later (z.id == n) (position_or_len (is_for n) zs) i e in
    passed z.id n m (Some (late_for z)) (Some (late_for y)) (late_at (late_of zs) m) (late_at (late_of (slice_set zs i y)) m) later.0
    (set_late zs n i x y later.1 got same m)

push_late : (xs : List LateAttrs) (n : ℕ) (y : LateAttrs) → length xs ≤ position_or_len (is_for n) xs → y.id ≡ n → (m : ℕ) →
    late_at (late_of (xs ++ y ∷ [])) m ≡ pick (n == m) (Some (late_for y)) (late_at (late_of xs) m)
push_late [] n y h id m = ap (λ (k : ℕ). pick (k == m) (Some (late_for y)) None) id
push_late (z ∷ zs) n y h id m =
    let none = none_here (z.id == n) (position_or_len (is_for n) zs) (length zs) h in
    passed z.id n m (Some (late_for z)) (Some (late_for y)) (late_at (late_of zs) m) (late_at (late_of (zs ++ y ∷ [])) m) none.0
    (push_late zs n y none.1 id m)

none_at : (xs : List LateAttrs) (n : ℕ) → length xs ≤ position_or_len (is_for n) xs → late_at (late_of xs) n ≡ None
none_at [] n h = refl
none_at (z ∷ zs) n h =
    let none = none_here (z.id == n) (position_or_len (is_for n) zs) (length zs) h in
    ap (λ b. pick b (Some (late_for z)) (late_at (late_of zs) n)) none.0 ∙ none_at zs n none.1

first_is : (xs : List LateAttrs) (n i : ℕ) → i ≡ position_or_len (is_for n) xs → i < length xs →
    (x : LateAttrs) × (slice_get xs i ≡ Some x) × (late_at (late_of xs) n ≡ Some (late_for x))
first_is [] n i e h = absurd (omega (arith, h))
first_is (z ∷ zs) n zero e h =
    (z, refl, ap (λ b. pick b (Some (late_for z)) (late_at (late_of zs) n)) (first_here (z.id == n) (position_or_len (is_for n) zs) e))
first_is (z ∷ zs) n (suc i) e h =
    let later = first_later (z.id == n) (position_or_len (is_for n) zs) i e in
    let more = first_is zs n i later.1 (omega (arith, h)) in
    (more.0, more.1, ap (λ b. pick b (Some (late_for z)) (late_at (late_of zs) n)) later.0 ∙ more.2)

abbrev pub added_by : Option Late → List Attr
added_by o = option_map_or (λ (one : Late). one.added) o []

-- the attributes of a tag are added to those of an element that is in the list, or to a new one

pub adds_found : (own : List Attr) (given : List TagAttr) (n place : ℕ) (xs ys : List LateAttrs) → Some place ≡ position (λ late. late.id == n) xs → KnowsAt own n (late_of xs) →
    ((late : LateAttrs) → Knows own late → slice_get xs place ≡ Some late → AddsAt own place given late xs ys) → AddsTo own n given (late_of xs) (late_of ys)
adds_found own given n place xs ys at knows adds =
    let is = found _ (position_or_len (is_for n) xs) place at in
    let first = first_is xs n place is.1 (subst (λ (k : ℕ). k < length xs) (sym is.1) (ltb-true _ _ is.0)) in
    let known : Knows own first.0 = names_back own first.0 (subst (λ (o : Option Late). IfSome o (λ (one : Late). AreNamesOf one.names (own ++ one.added))) first.2 knows) in
    let more = adds first.0 known first.1 in
    record {
      late = late_for more.after;
      others = λ m. ap (λ (zs : List LateAttrs). late_at (late_of zs) m) more.is ∙ set_late xs n place first.0 more.after is.1 first.1 more.adds.id m;
      added = more.adds.added ∙ ap (λ (attrs : List Attr). attrs ++ absent_in (own ++ attrs) given) (sym (added_is (late_of xs) n ∙ ap added_by first.2));
      known = names_are own more.after more.adds.known;
    }

pub adds_pushed : (own : List Attr) (given : List TagAttr) (n : ℕ) (xs ys : List LateAttrs) (fresh after : LateAttrs) → None ≡ position (λ late. late.id == n) xs → fresh.id ≡ n →
    fresh.added.items ≡ [] → AddsAbsent own given fresh after → ys ≡ xs ++ after ∷ [] → AddsTo own n given (late_of xs) (late_of ys)
adds_pushed own given n xs ys fresh after none id bare adds e =
    let past : length xs ≤ position_or_len (is_for n) xs = ltb-false _ _ (not_found _ (position_or_len (is_for n) xs) none) in
    record {
      late = late_for after;
      others = λ m. ap (λ (zs : List LateAttrs). late_at (late_of zs) m) e ∙ push_late xs n after past (adds.id ∙ id) m;
      added = adds.added ∙ ap (λ (attrs : List Attr). attrs ++ absent_in (own ++ attrs) given) (bare ∙ sym (added_is (late_of xs) n ∙ ap added_by (none_at xs n past)));
      known = names_are own after adds.known;
    }

-- ---- the attributes that are merged

same_encoded : (x y : List ℕ) → bytes_eq x y ≡ bytes_eq (encode_utf8_all x) (encode_utf8_all y)
same_encoded x y =
    same_from_decides _ _ (bytes_eq-Decides x y) (Decides-like _ (encodes_same x y) (ap encode_utf8_all) (bytes_eq-Decides (encode_utf8_all x) (encode_utf8_all y)))

named_alike : (name : List ℕ) (attrs : List NodeAttr) → has_named name attrs ≡ is_present (map attr_for attrs) (encode_utf8_all name)
named_alike name [] = refl
named_alike name (a ∷ attrs) =
    ap (λ b. b || has_named name attrs) (same_encoded a.name name)
    ∙ ap (λ b. bytes_eq (encode_utf8_all a.name) (encode_utf8_all name) || b) (named_alike name attrs)

absent_alike : (before : List Attr) (attrs : List NodeAttr) → map attr_for attrs ≡ before → (new : List NodeAttr) (given : List TagAttr) →
    map (attr_in ElementNamespace.Html) given ≡ map attr_for new → map attr_for (filter (λ a. not (has_named a.name attrs)) new) ≡ absent_in before given
absent_alike before attrs e [] [] same = refl
absent_alike before attrs e [] (g ∷ given) same = absurd (cc)
absent_alike before attrs e (a ∷ new) [] same = absurd (cc)
absent_alike before attrs e (a ∷ new) (g ∷ given) same =
    let one : attr_in ElementNamespace.Html g ≡ attr_for a = cc in
    let more : map (attr_in ElementNamespace.Html) given ≡ map attr_for new = cc in
    let name : string_bytes g.name ≡ encode_utf8_all a.name = ap (λ (x : Attr). x.name.local) one in
    by (has_named a.name attrs) (is_present before (string_bytes g.name)) one
    (named_alike a.name attrs ∙ ap (is_present (map attr_for attrs)) (sym name) ∙ ap (λ (xs : List Attr). is_present xs (string_bytes g.name)) e)
    (absent_alike before attrs e new given more)
  where
    by : (b c : Bool) → attr_in ElementNamespace.Html g ≡ attr_for a → b ≡ c → map attr_for (filter (λ a. not (has_named a.name attrs)) new) ≡ absent_in before given →
        map attr_for (if not b then a ∷ filter (λ a. not (has_named a.name attrs)) new else filter (λ a. not (has_named a.name attrs)) new)
        ≡ map (attr_in ElementNamespace.Html) (if not c then g ∷ filter (λ r. not (is_present before (string_bytes r.name))) given else filter (λ r. not (is_present before (string_bytes r.name))) given)
    by true true one h rest = rest
    by false false one h rest =
        ap (λ (x : Attr). x ∷ map attr_for (filter (λ a. not (has_named a.name attrs)) new)) (sym one) ∙ ap (λ (xs : List Attr). attr_in ElementNamespace.Html g ∷ xs) rest
    by true false one h rest = absurd (true≢false h)
    by false true one h rest = absurd (true≢false (sym h))

pub merged_alike : (before : List Attr) (attrs new : List NodeAttr) (given : List TagAttr) → map attr_for attrs ≡ before → map (attr_in ElementNamespace.Html) given ≡ map attr_for new →
    map attr_for (merged attrs new) ≡ before ++ absent_in before given
merged_alike before attrs new given e same =
    map-append attr_for attrs (filter (λ a. not (has_named a.name attrs)) new)
    ∙ ap (λ (xs : List Attr). xs ++ map attr_for (filter (λ a. not (has_named a.name attrs)) new)) e
    ∙ ap (λ (xs : List Attr). before ++ xs) (absent_alike before attrs e new given same)

-- ---- an element of the list

pub got_is : (xs : List LateAttrs) (i : ℕ) (x d : LateAttrs) → slice_get xs i ≡ Some x → slice_index_or xs i d ≡ x
got_is [] i x d got = absurd (none-some x got)
got_is (z ∷ zs) zero x d got = same_Some z x got
got_is (z ∷ zs) (suc i) x d got = got_is zs i x d got

pub got_past : (xs : List LateAttrs) (i : ℕ) (x : LateAttrs) → length xs ≤ i → slice_get xs i ≡ Some x → ⊥
got_past [] i x past got = none-some x got
got_past (z ∷ zs) zero x past got = omega (arith, past)
got_past (z ∷ zs) (suc i) x past got = got_past zs i x (omega (arith, past)) got
