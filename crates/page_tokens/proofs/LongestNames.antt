-- The longest name with which a text starts, by the definition, and the names by their numbers.
use Rattle.std.specs.Prelude.{◌≡◌, ℕ, zero, suc, eqb, ◌<◌, ◌≤◌, ◌↔◌, Bool, true, false, not, cond, ◌==◌, ◌&&◌, nat_lt, List, [], ◌∷◌, ◌++◌, take, drop, length, get_or, Option, None, Some, unwrap_or, refl}
use Rattle.std.proofs.Common.{arith, inl, inr, le_of_suc-le-suc, suc-le-suc, zero-lt-suc, le_refl, zero-le, lt_of_lt_of_le}
use Rattle.std.specs.Char.{is_ascii_alphanumeric}
use Rattle.std.specs.List.{find, list_all, starts_with}
use Rattle.std.specs.Option.{option_map, option_map_or}
use Rattle.std.specs.Str.{bytes_eq, encode_utf8_all}
use Rattle.std.proofs.lemmas.Bool.{and_from, and_parts, cases_lt, ltb-false, ltb-true, true≢false}
use Rattle.std.proofs.lemmas.Bool.Decides.{Decides-eqb}
use Rattle.std.proofs.lemmas.List.{drop_all, drop-append-le, take_all, take-append-drop}
use Rattle.std.proofs.lemmas.Slice.Eq.{bytes_eq-Decides}
use Rattle.std.proofs.lemmas.Str.{encode_ascii}
use Rattle.std.proofs.Math.Seq.{drop-nil}
use lib.Pointwise.{pointwise_decides}
use mathlib.Core.Path.{◌∙◌, sym, ap, ap₂, subst}
use Rattle.standard_tokens.specs.Machine.{ends_open, longer_of, longest_among, longest_name, value_of}
use Rattle.standard_tokens.specs.NamedReferences.{NamedReference, named_references}
use Rattle.page_tokens.specs.NameTable.{AreNames, IsFrontOf, characters_of, name_at, value_at}
use Rattle.page_tokens.specs.NamedReferences.{BeginsNoName, IsLongest, IsNoName, IsSettled, IsValueOf, after_name, longest_in}
use Rattle.page_tokens.specs.SameNames.{no_reference}
use Rattle.page_tokens.specs.declared.named_references.Value.{Value}
use Rattle.page_tokens.proofs.NameLemmas.{front-length, front-longer, front_cases, fronts-same}
use Rattle.page_tokens.proofs.SameNames.{by_number, count}
use Rattle.page_tokens.proofs.SortedNames.{name_at-once}

-- ---- a name starts a text

starts : (text name : List ℕ) → starts_with eqb text name ≡ true → IsFrontOf name text
starts text name h = sym ((pointwise_decides Decides-eqb name (take (length name) text)).0 h)

front_starts : (text name : List ℕ) → IsFrontOf name text → starts_with eqb text name ≡ true
front_starts text name h = (pointwise_decides Decides-eqb name (take (length name) text)).1 (sym h)

same_starts : (read text name : List ℕ) → IsFrontOf name read ↔ IsFrontOf name text → starts_with eqb read name ≡ starts_with eqb text name
same_starts read text name same = go (starts_with eqb read name) (starts_with eqb text name) refl refl
  where
    go : (a b : Bool) → starts_with eqb read name ≡ a → starts_with eqb text name ≡ b → a ≡ b
    go true true p q = refl
    go false false p q = refl
    go true false p q = absurd (true≢false (sym (front_starts text name (same.0 (starts read name p))) ∙ q))
    go false true p q = absurd (true≢false (sym (front_starts read name (same.1 (starts text name q))) ∙ p))

abbrev name_of : NamedReference → List ℕ
name_of one = one.name

-- a text that starts with the same names has the same longest one
among_same : (names : List NamedReference) (read text : List ℕ) →
    ((i : ℕ) → i < length names → starts_with eqb read (name_of (get_or names i no_reference)) ≡ starts_with eqb text (name_of (get_or names i no_reference))) →
    longest_among names read ≡ longest_among names text
among_same [] read text same = refl
among_same (one ∷ names) read text same =
    ap₂ (λ (b : Bool) (o : Option NamedReference). longer_of b one o) (same zero (zero-lt-suc _)) (among_same names read text (λ i known. same (suc i) (suc-le-suc known)))

pub longest_same : (read text : List ℕ) → ((i : ℕ) → i < 2231 → IsFrontOf (name_at i) read ↔ IsFrontOf (name_at i) text) → longest_name read ≡ longest_name text
unfolding longest_name
longest_same read text same = ap (option_map name_of) (among_same named_references read text each)
  where
    each : (i : ℕ) → i < length named_references → starts_with eqb read (name_of (get_or named_references i no_reference)) ≡ starts_with eqb text (name_of (get_or named_references i no_reference))
    each i known =
        let within : i < 2231 = subst (λ n. i < n) count known in
        let at : name_at i ≡ name_of (get_or named_references i no_reference) = sym (ap name_of (by_number i within)) in
        subst (λ name. starts_with eqb read name ≡ starts_with eqb text name) at (same_starts read text (name_at i) (same i within))

-- ---- the longest one starts the text

longer_keeps : (P : NamedReference → Type 0) (b : Bool) (first : NamedReference) (found : Option NamedReference) (one : NamedReference) → (b ≡ true → P first) → ((other : NamedReference) → found ≡ Some other → P other) →
    longer_of b first found ≡ Some one → P one
longer_keeps P false first found one holds rest e = rest one e
longer_keeps P true first None one holds rest e = subst P (ap (λ (o : Option NamedReference). unwrap_or o first) e) (holds refl)
longer_keeps P true first (Some other) one holds rest e = go (nat_lt (length first.name) (length other.name)) e
  where
    go : (x : Bool) → cond x (Some other) (Some first) ≡ Some one → P one
    go true e = subst P (ap (λ (o : Option NamedReference). unwrap_or o first) e) (rest other refl)
    go false e = subst P (ap (λ (o : Option NamedReference). unwrap_or o first) e) (holds refl)

among_starts : (names : List NamedReference) (text : List ℕ) (one : NamedReference) → longest_among names text ≡ Some one → IsFrontOf one.name text
among_starts [] text one h = absurd (cc)
among_starts (first ∷ names) text one h =
    longer_keeps (λ (r : NamedReference). IsFrontOf r.name text) (starts_with eqb text first.name) first (longest_among names text) one (starts text first.name) (λ other found. among_starts names text other found) h

pub longest_starts : (text name : List ℕ) → longest_name text ≡ Some name → IsFrontOf name text
unfolding longest_name
longest_starts text name h = go (longest_among named_references text) refl h
  where
    go : (found : Option NamedReference) → longest_among named_references text ≡ found → option_map name_of found ≡ Some name → IsFrontOf name text
    go None e h = absurd (cc)
    go (Some one) e h = subst (λ n. IsFrontOf n text) (ap (λ (o : Option (List ℕ)). unwrap_or o []) h) (among_starts named_references text one e)

pub longest_within : (text : List ℕ) → length (longest_in text) ≤ length text
longest_within text = go (longest_name text) refl
  where
    go : (found : Option (List ℕ)) → longest_name text ≡ found → length (unwrap_or found []) ≤ length text
    go None e = zero-le
    go (Some name) e = front-length name text (longest_starts text name e)

-- ---- the text is a name

whole_first : (b : Bool) (first : NamedReference) (found : Option NamedReference) (text : List ℕ) → b ≡ true → first.name ≡ text → ((other : NamedReference) → found ≡ Some other → length other.name ≤ length text) →
    option_map name_of (longer_of b first found) ≡ Some text
whole_first b first found text holds is within = subst (λ x. option_map name_of (longer_of x first found) ≡ Some text) (sym holds) (go found within)
  where
    longer : (other : NamedReference) (x : Bool) → nat_lt (length first.name) (length other.name) ≡ x → length other.name ≤ length text → option_map name_of (cond x (Some other) (Some first)) ≡ Some text
    longer other false e le = ap (λ n. Some n) is
    longer other true e le = let less = ltb-true (length first.name) (length other.name) e in let size : length first.name ≡ length text = ap length is in absurd (omega arith)

    go : (found : Option NamedReference) → ((other : NamedReference) → found ≡ Some other → length other.name ≤ length text) → option_map name_of (longer_of true first found) ≡ Some text
    go None within = ap (λ n. Some n) is
    go (Some other) within = longer other (nat_lt (length first.name) (length other.name)) refl (within other refl)

whole_later : (b : Bool) (first : NamedReference) (found : Option NamedReference) (text : List ℕ) → (b ≡ true → IsFrontOf first.name text) → option_map name_of found ≡ Some text → option_map name_of (longer_of b first found) ≡ Some text
whole_later false first found text front is = is
whole_later true first None text front is = absurd (cc)
whole_later true first (Some other) text front is = go (nat_lt (length first.name) (length other.name)) refl
  where
    same : other.name ≡ text
    same = ap (λ (o : Option (List ℕ)). unwrap_or o []) is

    go : (x : Bool) → nat_lt (length first.name) (length other.name) ≡ x → option_map name_of (cond x (Some other) (Some first)) ≡ Some text
    go true e = is
    go false e =
        let le : length other.name ≤ length first.name = ltb-false (length first.name) (length other.name) e in
        let all : length text ≤ length first.name = subst (λ (t : List ℕ). length t ≤ length first.name) same le in
        ap (λ n. Some n) (sym (front refl) ∙ take_all (length first.name) text all)

among_whole : (names : List NamedReference) (text : List ℕ) (i : ℕ) → i < length names → name_of (get_or names i no_reference) ≡ text → option_map name_of (longest_among names text) ≡ Some text
among_whole [] text i within is = absurd (omega arith)
among_whole (first ∷ names) text zero within is =
    whole_first (starts_with eqb text first.name) first (longest_among names text) text
    (front_starts text first.name (subst (λ t. IsFrontOf first.name t) is (take_all (length first.name) first.name (le_refl _)))) is
    (λ other found. front-length other.name text (among_starts names text other found))
among_whole (first ∷ names) text (suc i) within is =
    whole_later (starts_with eqb text first.name) first (longest_among names text) text (starts text first.name) (among_whole names text i (le_of_suc-le-suc within) is)

pub longest_whole : (i : ℕ) → i < 2231 → longest_name (name_at i) ≡ Some (name_at i)
unfolding longest_name
longest_whole i known = among_whole named_references (name_at i) i (subst (λ n. i < n) (sym count) known) (ap name_of (by_number i known))

-- ---- what a name means

find_once : (test : NamedReference → Bool) (names : List NamedReference) (i : ℕ) → i < length names → test (get_or names i no_reference) ≡ true →
    ((j : ℕ) → j < length names → test (get_or names j no_reference) ≡ true → j ≡ i) → find test names ≡ Some (get_or names i no_reference)
find_once test [] i within holds only = absurd (omega arith)
find_once test (one ∷ names) zero within holds only = rw holds refl
find_once test (one ∷ names) (suc i) within holds only =
    later (test one) refl (find_once test names i (le_of_suc-le-suc within) holds (λ j known it. let e = only (suc j) (suc-le-suc known) it in omega arith))
  where
    later : (x : Bool) → test one ≡ x → find test names ≡ Some (get_or names i no_reference) → cond x (Some one) (find test names) ≡ Some (get_or names i no_reference)
    later true e found = let none = only zero (zero-lt-suc _) e in absurd (omega arith)
    later false e found = found

pub value_is : (i : ℕ) → i < 2231 → value_of (name_at i) ≡ characters_of (value_at i)
unfolding value_of
value_is i known =
    ap (λ (found : Option NamedReference). option_map_or (λ one. one.characters) found [])
    (find_once (λ one. bytes_eq one.name (name_at i)) named_references i (subst (λ n. i < n) (sym count) known)
    ((bytes_eq-Decides (name_of (get_or named_references i no_reference)) (name_at i)).1 (ap name_of (by_number i known)))
    (λ j within it.
    let other : j < 2231 = subst (λ n. j < n) count within in
    name_at-once j i other known (sym (ap name_of (by_number j other)) ∙ (bytes_eq-Decides (name_of (get_or named_references j no_reference)) (name_at i)).0 it)))
    ∙ ap (λ (one : NamedReference). one.characters) (by_number i known)

-- ---- the longest name of what a match has read

pub longest_of_nothing : longest_name [] ≡ None
unfolding longest_name named_references
longest_of_nothing = refl

pub is_longest_nothing : (read : List ℕ) → read ≡ [] → IsLongest read None false
is_longest_nothing read empty = subst (λ t. IsLongest t None false) (sym empty) (record {
  means = ap (option_map value_of) (sym longest_of_nothing);
  ends = ap (λ (o : Option (List ℕ)). not (ends_open (unwrap_or o []))) (sym longest_of_nothing);
})

ends_push : (read : List ℕ) (c : ℕ) → ends_open (read ++ c ∷ []) ≡ not (c == 59)
ends_push [] c = refl
ends_push (x ∷ []) c = refl
ends_push (x ∷ y ∷ read) c = ends_push (y ∷ read) c

twice : (x : Bool) → x ≡ not (not x)
twice true = refl
twice false = refl

-- what was read is a name
pub longest_is_all : (text : List ℕ) (value : Value) → IsValueOf text value → longest_name text ≡ Some text
longest_is_all text value h = subst (λ t. longest_name t ≡ Some t) h.name (longest_whole h.number h.known)

pub is_longest_all : (text read : List ℕ) (c : ℕ) (value : Value) → text ≡ read ++ c ∷ [] → IsValueOf text value → IsLongest text (Some value) (c == 59)
is_longest_all text read c value is h =
    let all : longest_name text ≡ Some text = longest_is_all text value h in
    record {
      means = ap (λ (v : Value). Some (characters_of v)) h.stands_for ∙ ap (λ (cs : List ℕ). Some cs) (sym (value_is h.number h.known)) ∙ ap (λ (name : List ℕ). Some (value_of name)) h.name ∙ ap (option_map value_of) (sym all);
      ends = twice (c == 59) ∙ ap not (sym (ends_push read c) ∙ ap ends_open (sym is)) ∙ ap (λ (o : Option (List ℕ)). not (ends_open (unwrap_or o []))) (sym all);
    }

-- with one more character what was read is no name: the longest one stays
pub longest_stays : (read more : List ℕ) (c : ℕ) → more ≡ read ++ c ∷ [] → IsNoName more → longest_name more ≡ longest_name read
longest_stays read more c is none = sym (longest_same read more (λ i known. (
  (λ front. subst (λ (t : List ℕ). IsFrontOf (name_at i) t) (sym is) (front-longer (name_at i) read (c ∷ []) front)),
  (λ front.
      let long : IsFrontOf (name_at i) (read ++ c ∷ []) = subst (λ (t : List ℕ). IsFrontOf (name_at i) t) is front in
      elim (front_cases (name_at i) read c [] long) [
        | inl short ↦ short
        | inr goes_on ↦ absurd (none i known (fronts-same (name_at i) (read ++ c ∷ []) long goes_on ∙ sym is))
      ]),
)))

pub is_longest_on : (read more : List ℕ) (value : Option Value) (closed : Bool) → longest_name more ≡ longest_name read → IsLongest read value closed → IsLongest more value closed
is_longest_on read more value closed same h = record {
  means = h.means ∙ ap (option_map value_of) (sym same);
  ends = h.ends ∙ ap (λ (o : Option (List ℕ)). not (ends_open (unwrap_or o []))) (sym same);
}

-- no name goes on with the character
pub settles : (read : List ℕ) (c : ℕ) → BeginsNoName (read ++ c ∷ []) → IsSettled read c
settles read c none rest = sym (longest_same read (read ++ c ∷ rest) (λ i known. (
  front-longer (name_at i) read (c ∷ rest),
  (λ front.
      elim (front_cases (name_at i) read c rest front) [
        | inl short ↦ short
        | inr goes_on ↦ absurd (none i known goes_on)
      ]),
)))

-- ---- the characters of a name

-- all characters but the last are letters and digits
are_letters_first : List ℕ → Bool
are_letters_first [] = true
are_letters_first (c ∷ []) = true
are_letters_first (c ∷ d ∷ name) = is_ascii_alphanumeric c && are_letters_first (d ∷ name)

all_at : (test : NamedReference → Bool) (names : List NamedReference) (i : ℕ) → list_all test names ≡ true → i < length names → test (get_or names i no_reference) ≡ true
all_at test [] i h within = absurd (omega arith)
all_at test (one ∷ names) zero h within = (and_parts (test one) (list_all test names) h).0
all_at test (one ∷ names) (suc i) h within = all_at test names i (and_parts (test one) (list_all test names) h).1 (le_of_suc-le-suc within)

all_names : list_all (λ one. are_letters_first one.name) named_references ≡ true
unfolding named_references are_letters_first
all_names = refl

name_letters : (i : ℕ) → i < 2231 → are_letters_first (name_at i) ≡ true
name_letters i known =
    subst (λ (one : NamedReference). are_letters_first one.name ≡ true) (by_number i known) (all_at (λ one. are_letters_first one.name) named_references i all_names (subst (λ n. i < n) (sym count) known))

front_letters : (n : ℕ) (name : List ℕ) → are_letters_first name ≡ true → n < length name → list_all is_ascii_alphanumeric (take n name) ≡ true
unfolding are_letters_first
front_letters zero name h less = refl
front_letters (suc n) [] h less = absurd (omega arith)
front_letters (suc n) (c ∷ []) h less = absurd (omega arith)
front_letters (suc n) (c ∷ d ∷ name) h less =
    let parts = and_parts (is_ascii_alphanumeric c) (are_letters_first (d ∷ name)) h in
    and_from (is_ascii_alphanumeric c) (list_all is_ascii_alphanumeric (take n (d ∷ name))) parts.0 (front_letters n (d ∷ name) parts.1 (le_of_suc-le-suc less))

letters_after : (n : ℕ) (text : List ℕ) → list_all is_ascii_alphanumeric text ≡ true → list_all is_ascii_alphanumeric (drop n text) ≡ true
letters_after zero text h = h
letters_after (suc n) [] h = refl
letters_after (suc n) (c ∷ text) h = letters_after n text (and_parts (is_ascii_alphanumeric c) (list_all is_ascii_alphanumeric text) h).1

after_all : (text : List ℕ) → longest_name text ≡ Some text → after_name text ≡ []
after_all text all = ap (λ (o : Option (List ℕ)). drop (length (unwrap_or o [])) text) all ∙ drop_all (length text) text (le_refl _)

-- what was read after the longest name is letters and digits
pub after_letters : (low high place : ℕ) → AreNames low high place → list_all is_ascii_alphanumeric (after_name (take place (name_at low))) ≡ true
after_letters low high place names =
    elim (cases_lt place (length (name_at low))) [
      | inl less ↦ letters_after (length (longest_in (take place (name_at low)))) (take place (name_at low)) (front_letters place (name_at low) (name_letters low known) less)
      | inr past ↦
          let whole : take place (name_at low) ≡ name_at low = take_all place (name_at low) past in
          subst (λ t. list_all is_ascii_alphanumeric (after_name t) ≡ true) (sym whole) (ap (list_all is_ascii_alphanumeric) (after_all (name_at low) (longest_whole low known)))
    ]
  where
    known : low < 2231
    known = lt_of_lt_of_le names.some names.within

-- ---- what comes after the longest name

pub after_nothing : after_name [] ≡ []
after_nothing = drop-nil (length (longest_in []))

-- with one more character, which ends a name or else is one more after it
pub after_more : (read text : List ℕ) (c : ℕ) (whole : Bool) → text ≡ read ++ c ∷ [] → longest_name text ≡ cond whole (Some text) (longest_name read) → after_name text ≡ cond whole [] (after_name read ++ c ∷ [])
after_more read text c true is longest = after_all text longest
after_more read text c false is longest =
    ap (λ (o : Option (List ℕ)). drop (length (unwrap_or o [])) text) longest ∙ ap (drop (length (longest_in read))) is ∙ drop-append-le (length (longest_in read)) read (c ∷ []) (longest_within read)

-- the text is its longest name and the characters after it
pub longest_parts : (text name : List ℕ) → longest_name text ≡ Some name → (text ≡ name ++ after_name text) × (after_name text ≡ drop (length name) text)
longest_parts text name h =
    let after : after_name text ≡ drop (length name) text = ap (λ (o : Option (List ℕ)). drop (length (unwrap_or o [])) text) h in
    (sym (take-append-drop (length name) text) ∙ ap (λ (front : List ℕ). front ++ drop (length name) text) (longest_starts text name h) ∙ ap (λ (rest : List ℕ). name ++ rest) (sym after), after)

-- the text after the name, where more follows
pub rest_after : (text name more : List ℕ) → longest_name text ≡ Some name → drop (length name) (text ++ more) ≡ after_name text ++ more
rest_after text name more h =
    drop-append-le (length name) text more (front-length name text (longest_starts text name h)) ∙ ap (λ (rest : List ℕ). rest ++ more) (sym (longest_parts text name h).1)

-- letters and digits are encoded as they are
pub letters_encode : (text : List ℕ) → list_all is_ascii_alphanumeric text ≡ true → encode_utf8_all text ≡ text
letters_encode [] h = refl
letters_encode (c ∷ text) h =
    let parts = and_parts (is_ascii_alphanumeric c) (list_all is_ascii_alphanumeric text) h in
    ap₂ (λ (a b : List ℕ). a ++ b) (encode_ascii c (low c parts.0)) (letters_encode text parts.1)
  where
    low : (c : ℕ) → is_ascii_alphanumeric c ≡ true → c < 128
    low c h = grind arith
