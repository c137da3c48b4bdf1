-- The tokenizer comes to an end: where it reconsumes a character, it soon consumes it or stops.
use Rattle.std.specs.Prelude.{◌≡◌, ◌||◌, refl, ℕ, zero, suc, Bool, true, false, cond, not, eqb, ◌&&◌, List, [], ◌∷◌, Option, None, Some, drop, length, take}
use Rattle.std.specs.Prelude.{◌==◌, nat_lt, option_map}
use lib.Pointwise.{pointwise}
use Rattle.std.specs.Char.{char_set_contains}
use Rattle.std.proofs.lemmas.Bool.Decides.{Decides-eqb}
use Rattle.std.specs.List.{list_all, list_any, starts_with}
use Rattle.std.proofs.lemmas.Option.{same_Some}
use mathlib.Core.Path.{◌∙◌, sym, ap, subst}
use Rattle.standard_tokens.specs.Entries.{Act, Always, AnyCase, Else, End, Entry, Guard, Mark, Name, Next, On, OneOf, Range, Reconsume, ReconsumeBack, ReturnTo, Stay}
use Rattle.standard_tokens.specs.Entries.{Flush, SetEmpty, Add, Stop, Switch, SwitchBack, Then, Word, entry, Place, Buffer, AttrValue}
use Rattle.standard_tokens.specs.Machine.{Machine, Step, Taken, added, all_done, characters, consumed, done, emptied, fits_mark, is_met, is_value, longer_of}
use Rattle.standard_tokens.specs.Machine.{longest_among, longest_name, same_case_less, step, step_by, taken, taken_if}
use Rattle.standard_tokens.specs.NamedReferences.{NamedReference, named_references}
use Rattle.standard_tokens.specs.States.{State, AttributeValueDoubleQuoted, AttributeValueSingleQuoted, AttributeValueUnquoted, Data, PLAINTEXT, RAWTEXT, RCDATA}
use Rattle.standard_tokens.specs.States.{ScriptData}
use Rattle.standard_tokens.specs.Table.{entries}
use Rattle.standard_trees.specs.Building.{is_empty}
use Rattle.standard_trees.proofs.KeptModes.{both}
use Rattle.standard_trees.proofs.EveryMode.{Within, looser}

-- ---- computed over the table

-- tree construction switches the tokenizer to these
abbrev pub text_states : List State
text_states = RCDATA ∷ RAWTEXT ∷ ScriptData ∷ PLAINTEXT ∷ []

-- the return state is one of these
abbrev pub return_states : List State
return_states = Data ∷ RCDATA ∷ AttributeValueDoubleQuoted ∷ AttributeValueSingleQuoted ∷ AttributeValueUnquoted ∷ []

abbrev pub is_return : State → Bool
is_return Data = true
is_return RCDATA = true
is_return AttributeValueDoubleQuoted = true
is_return AttributeValueSingleQuoted = true
is_return AttributeValueUnquoted = true
is_return _ = false

abbrev pub returns_well : Act → Bool
returns_well (ReturnTo state) = is_return state
returns_well _ = true

abbrev pub is_end : Mark → Bool
is_end End = true
is_end _ = false

-- what comes first in the text that is left: nothing, one of the characters that end an attribute's name, or another character
pub data Front : Type 0 where
  AtEnd Elsewhere : Front
  Before : ℕ → Front

abbrev pub ends_name : ℕ → Bool
ends_name c = c == 9 || c == 10 || c == 12 || c == 32 || c == 47 || c == 62

abbrev pub front : List ℕ → Front
front [] = AtEnd
front (c ∷ text) = elim (ends_name c) [ true ↦ Before c | false ↦ Elsewhere ]

abbrev pub may_fit : Front → Mark → Bool
may_fit AtEnd mark = fits_mark mark []
may_fit (Before c) mark = fits_mark mark (c ∷ [])
may_fit Elsewhere (OneOf cs) = list_any (λ c. not (ends_name c)) cs
may_fit Elsewhere (Range low high) = true
may_fit Elsewhere End = false

abbrev pub must_fit : Front → Mark → Bool
must_fit AtEnd mark = fits_mark mark []
must_fit (Before c) mark = fits_mark mark (c ∷ [])
must_fit Elsewhere mark = false

abbrev pub may_come : Front → On → Bool
may_come at (Next marks) = list_any (may_fit at) marks
may_come at _ = true

abbrev pub must_come : Front → On → Guard → Bool
must_come at (Next marks) Always = list_any (must_fit at) marks
must_come at Else Always = true
must_come at on guard = false

-- the entry consumes a character, if it is taken
abbrev pub consumes : Front → On → Bool
consumes at (Word word) = not (is_empty word)
consumes at (AnyCase word) = not (is_empty word)
consumes at Name = true
consumes AtEnd _ = false
consumes at _ = true

abbrev pub goes_well : (State → Bool) → Front → On → Then → Bool
goes_well again at on Stop = true
goes_well again at on (Reconsume state) = again state && list_all again text_states
goes_well again at on ReconsumeBack = list_all again return_states && list_all again text_states
goes_well again at on Stay = consumes at on
goes_well again at on (Switch state) = consumes at on
goes_well again at on SwitchBack = consumes at on

abbrev pub all_go_well : (State → Bool) → Front → List Entry → Bool
all_go_well again at [] = true
all_go_well again at (entry on guard acts goes ∷ more) =
    elim (may_come at on) [
      | false ↦ all_go_well again at more
      | true ↦ elim (list_all returns_well acts && goes_well again at on goes) [
        | false ↦ false
        | true ↦ elim (must_come at on guard) [ true ↦ true | false ↦ all_go_well again at more ]
      ]
    ]

-- from this state a character is consumed, or the tokenizer stops, within so many steps
abbrev pub settles : Front → ℕ → State → Bool
settles at zero state = false
settles at (suc n) state = all_go_well (settles at n) at (entries state)

abbrev pub soon : ℕ
soon = 6

settles_at_end : (state : State) → settles AtEnd soon state ≡ true
unfolding entries
settles_at_end Data = refl
settles_at_end _ = refl

settles_elsewhere : (state : State) → settles Elsewhere soon state ≡ true
unfolding entries
settles_elsewhere Data = refl
settles_elsewhere _ = refl

settles_before : (state : State) → list_all (λ c. settles (Before c) soon state) (9 ∷ 10 ∷ 12 ∷ 32 ∷ 47 ∷ 62 ∷ []) ≡ true
unfolding entries
settles_before Data = refl
settles_before _ = refl

before_any : (test : ℕ → Bool) → list_all test (9 ∷ 10 ∷ 12 ∷ 32 ∷ 47 ∷ 62 ∷ []) ≡ true → (c : ℕ) → ends_name c ≡ true → test c ≡ true
before_any test all c h = among (9 ∷ 10 ∷ 12 ∷ 32 ∷ 47 ∷ 62 ∷ []) all (last_out (c == 9) (c == 10) (c == 12) (c == 32) (c == 47) (c == 62) h)
  where
    last_out : (u v w x y z : Bool) → u || v || w || x || y || z ≡ true → u || (v || (w || (x || (y || (z || false))))) ≡ true
    last_out true v w x y z k = refl
    last_out false true w x y z k = refl
    last_out false false true x y z k = refl
    last_out false false false true y z k = refl
    last_out false false false false true z k = refl
    last_out false false false false false true k = refl
    last_out false false false false false false k = cc

    among : (cs : List ℕ) → list_all test cs ≡ true → list_any (λ d. c == d) cs ≡ true → test c ≡ true
    among [] k one = cc
    among (d ∷ cs) k one = by_first (c == d) refl one (λ o. among cs (both (test d) (list_all test cs) k).1 o)
      where
        by_first : (x : Bool) → (c == d) ≡ x → x || list_any (λ d. c == d) cs ≡ true → (list_any (λ d. c == d) cs ≡ true → test c ≡ true) → test c ≡ true
        by_first true e o later = ap test ((Decides-eqb c d).0 e) ∙ (both (test d) (list_all test cs) k).0
        by_first false e o later = later o

pub all_settle : (text : List ℕ) (state : State) → settles (front text) soon state ≡ true
all_settle [] state = settles_at_end state
all_settle (c ∷ text) state = by_kind (ends_name c) refl
  where
    by_kind : (x : Bool) → ends_name c ≡ x → settles (elim x [ true ↦ Before c | false ↦ Elsewhere ]) soon state ≡ true
    by_kind true e = before_any (λ d. settles (Before d) soon state) (settles_before state) c e
    by_kind false e = settles_elsewhere state

abbrev pub has_name : NamedReference → Bool
has_name one = not (is_empty one.name)

names_have_letters : list_all has_name named_references ≡ true
unfolding named_references
names_have_letters = refl

-- ---- what is consumed

abbrev pub Shorter : List ℕ → List ℕ → Type 0
Shorter rest text = (n : ℕ) → Within n text → (k : ℕ) × (n ≡ suc k) × Within k rest

dropped : (j n : ℕ) (text : List ℕ) → Within n text → Within n (drop j text)
dropped zero n text h = h
dropped (suc j) n [] h = h
dropped (suc j) zero (c ∷ text) h = absurd h
dropped (suc j) (suc n) (c ∷ text) h = looser n (drop j text) (dropped j n text h)

-- some characters are left, and some are dropped
shorter : (cur text : List ℕ) → is_empty cur ≡ false → is_empty text ≡ false → Shorter (drop (length cur) text) text
shorter [] text some more n h = cc
shorter (d ∷ cur) [] some more n h = cc
shorter (d ∷ cur) (c ∷ text) some more zero h = absurd h
shorter (d ∷ cur) (c ∷ text) some more (suc k) h = (k, refl, dropped (length cur) k text h)

abbrev pub HasMore : List ℕ → List ℕ → Type 0
HasMore cur text = (is_empty cur ≡ false) × (is_empty text ≡ false)

has_one : (text cur : List ℕ) → is_empty text ≡ false → Some (take 1 text) ≡ Some cur → HasMore cur text
has_one [] cur some e = cc
has_one (c ∷ text) cur some e = (ap is_empty (sym (same_Some (c ∷ []) cur e)), refl)

take_none : (n : ℕ) → take {A = ℕ} n [] ≡ []
take_none zero = refl
take_none (suc n) = refl

has_word : (test : ℕ → ℕ → Bool) (text word cur : List ℕ) → not (is_empty word) ≡ true → starts_with test text word ≡ true → Some (take (length word) text) ≡ Some cur →
    HasMore cur text
has_word test text [] cur some starts e = cc
has_word test text (c ∷ word) cur some starts e =
    (ap is_empty (sym (same_Some (take (length (c ∷ word)) text) cur e)) ∙ not_none (take (length (c ∷ word)) text) starts, by_text text starts)
  where
    not_none : (front : List ℕ) → pointwise test (c ∷ word) front ≡ true → is_empty front ≡ false
    not_none [] h = cc
    not_none (d ∷ ds) h = refl

    by_text : (t : List ℕ) → pointwise test (c ∷ word) (take (length (c ∷ word)) t) ≡ true → is_empty t ≡ false
    by_text [] h = absurd (nothing (subst (λ (front : List ℕ). pointwise test (c ∷ word) front ≡ true) (take_none (length (c ∷ word))) h))
      where
        nothing : pointwise test (c ∷ word) [] ≡ true → ⊥
        nothing k = cc
    by_text (d ∷ t) h = refl

-- the longest name has a letter, and the text begins with it
longest_begins : (ones : List NamedReference) → list_all has_name ones ≡ true → (text : List ℕ) (one : NamedReference) → longest_among ones text ≡ Some one →
    (has_name one ≡ true) × (starts_with eqb text one.name ≡ true)
longest_begins [] all text one h = cc
longest_begins (first ∷ ones) all text one h =
    by_first (starts_with eqb text first.name) refl (longest_among ones text) refl h
    (λ o e. longest_begins ones (both (has_name first) (list_all has_name ones) all).1 text o e)
  where
    both_of : NamedReference → Type 0
    both_of o = (has_name o ≡ true) × (starts_with eqb text o.name ≡ true)

    here : starts_with eqb text first.name ≡ true → both_of first
    here e = ((both (has_name first) (list_all has_name ones) all).0, e)

    by_length : (x : Bool) (other o : NamedReference) → cond x (Some other) (Some first) ≡ Some o → both_of other → both_of first → both_of o
    by_length true other o k one_way another = subst both_of (same_Some other o k) one_way
    by_length false other o k one_way another = subst both_of (same_Some first o k) another

    by_first : (x : Bool) → starts_with eqb text first.name ≡ x → (rest : Option NamedReference) → longest_among ones text ≡ rest → longer_of x first rest ≡ Some one →
        ((o : NamedReference) → longest_among ones text ≡ Some o → both_of o) → both_of one
    by_first false e rest f k later = later one (f ∙ k)
    by_first true e None f k later = subst both_of (same_Some first one k) (here e)
    by_first true e (Some other) f k later = by_length (nat_lt (length first.name) (length other.name)) other one k (later other f) (here e)

has_name_of : (text cur : List ℕ) → longest_name text ≡ Some cur → HasMore cur text
unfolding longest_name
has_name_of text cur e = by_one (longest_among named_references text) refl e
  where
    by_text : (t name : List ℕ) → is_empty name ≡ false → starts_with eqb t name ≡ true → is_empty t ≡ false
    by_text t [] some starts = cc
    by_text [] (c ∷ name) some starts = absurd (nothing (subst (λ (front : List ℕ). pointwise eqb (c ∷ name) front ≡ true) (take_none (length (c ∷ name))) starts))
      where
        nothing : pointwise eqb (c ∷ name) [] ≡ true → ⊥
        nothing k = cc
    by_text (d ∷ t) name some starts = refl

    turned : (x : Bool) → not x ≡ true → x ≡ false
    turned true h = cc
    turned false h = refl

    by_one : (o : Option NamedReference) → longest_among named_references text ≡ o → option_map (λ one. one.name) o ≡ Some cur → HasMore cur text
    by_one None f k = cc
    by_one (Some one) f k = (ap is_empty (sym (same_Some one.name cur k)) ∙ some, by_text text one.name some (longest_begins named_references names_have_letters text one f).1)
      where
        some : is_empty one.name ≡ false
        some = turned (is_empty one.name) (longest_begins named_references names_have_letters text one f).0

-- ---- entries

any_from : (test other : Mark → Bool) → ((mark : Mark) → test mark ≡ true → other mark ≡ true) → (marks : List Mark) → list_any test marks ≡ true → list_any other marks ≡ true
any_from test other from [] h = cc
any_from test other from (mark ∷ marks) h = by_first (test mark) refl h (any_from test other from marks)
  where
    first : other mark ≡ true → other mark || list_any other marks ≡ true
    first e = ap (λ x. x || list_any other marks) e

    second : (x : Bool) → list_any other marks ≡ true → x || list_any other marks ≡ true
    second true k = refl
    second false k = k

    by_first : (x : Bool) → test mark ≡ x → x || list_any test marks ≡ true → (list_any test marks ≡ true → list_any other marks ≡ true) →
        other mark || list_any other marks ≡ true
    by_first true e k later = first (from mark e)
    by_first false e k later = second (other mark) (later k)

-- a set that contains a character which ends no name
contains_other : (cs : List ℕ) (c : ℕ) → ends_name c ≡ false → char_set_contains cs c ≡ true → list_any (λ d. not (ends_name d)) cs ≡ true
contains_other [] c e h = cc
contains_other (d ∷ cs) c e h = by_first (d == c) refl h (contains_other cs c e)
  where
    second : (x : Bool) → list_any (λ d. not (ends_name d)) cs ≡ true → x || list_any (λ d. not (ends_name d)) cs ≡ true
    second true k = refl
    second false k = k

    by_first : (x : Bool) → (d == c) ≡ x → x || char_set_contains cs c ≡ true → (char_set_contains cs c ≡ true → list_any (λ d. not (ends_name d)) cs ≡ true) →
        not (ends_name d) || list_any (λ d. not (ends_name d)) cs ≡ true
    by_first true f k later = ap (λ x. not x || list_any (λ d. not (ends_name d)) cs) (ap ends_name ((Decides-eqb d c).0 f) ∙ e)
    by_first false f k later = second (not (ends_name d)) (later k)

may_if_fits : (text : List ℕ) (mark : Mark) → fits_mark mark text ≡ true → may_fit (front text) mark ≡ true
may_if_fits [] mark h = h
may_if_fits (c ∷ text) mark h = by_kind (ends_name c) refl mark h
  where
    by_kind : (x : Bool) → ends_name c ≡ x → (one : Mark) → fits_mark one (c ∷ text) ≡ true → may_fit (elim x [ true ↦ Before c | false ↦ Elsewhere ]) one ≡ true
    by_kind true e (OneOf cs) k = k
    by_kind true e (Range low high) k = k
    by_kind true e End k = k
    by_kind false e (OneOf cs) k = contains_other cs c e k
    by_kind false e (Range low high) k = refl
    by_kind false e End k = cc

fits_if_must : (text : List ℕ) (mark : Mark) → must_fit (front text) mark ≡ true → fits_mark mark text ≡ true
fits_if_must [] mark h = h
fits_if_must (c ∷ text) mark h = by_kind (ends_name c) mark h
  where
    by_kind : (x : Bool) (one : Mark) → must_fit (elim x [ true ↦ Before c | false ↦ Elsewhere ]) one ≡ true → fits_mark one (c ∷ text) ≡ true
    by_kind true (OneOf cs) k = k
    by_kind true (Range low high) k = k
    by_kind true End k = k
    by_kind false one k = cc

taken_front : {A : Type 0} (x : Bool) (a cur : A) → cond x (Some a) None ≡ Some cur → (x ≡ true) × (Some a ≡ Some cur)
taken_front true a cur e = (refl, e)
taken_front false a cur e = cc

may_come_if : (text cur : List ℕ) (on : On) → consumed on text ≡ Some cur → may_come (front text) on ≡ true
may_come_if text cur (Next marks) e =
    any_from (λ mark. fits_mark mark text) (may_fit (front text)) (λ mark. may_if_fits text mark) marks
    (taken_front (list_any (λ mark. fits_mark mark text) marks) (take 1 text) cur e).0
may_come_if text cur _ e = refl

comes_if_must : (foreign : Bool) (m : Machine) (text : List ℕ) (on : On) (guard : Guard) (acts : List Act) (goes : Then) (other : Taken) →
    must_come (front text) on guard ≡ true → (cur : Option (List ℕ)) → consumed on text ≡ cur → (x : List ℕ) × (cur ≡ Some x) × (guard ≡ Always)
comes_if_must foreign m text (Next marks) Always acts goes other h cur e = (
  take 1 text,
  sym e ∙ ap (λ x. cond x (Some (take 1 text)) None)
      (any_from (must_fit (front text)) (λ mark. fits_mark mark text) (λ mark. fits_if_must text mark) marks h),
  refl,
)
comes_if_must foreign m text Else Always acts goes other h cur e = (take 1 text, sym e, refl)
comes_if_must foreign m text _ _ acts goes other h cur e = cc

consumes_more : (text cur : List ℕ) (on : On) → consumes (front text) on ≡ true → consumed on text ≡ Some cur → HasMore cur text
consumes_more text cur (Word word) h e =
    has_word eqb text word cur (some h) (taken_front (starts_with eqb text word) (take (length word) text) cur e).0
    (taken_front (starts_with eqb text word) (take (length word) text) cur e).1
  where
    some : consumes (front text) (Word word) ≡ true → not (is_empty word) ≡ true
    some k = k
consumes_more text cur (AnyCase word) h e =
    has_word same_case_less text word cur (some h) (taken_front (starts_with same_case_less text word) (take (length word) text) cur e).0
    (taken_front (starts_with same_case_less text word) (take (length word) text) cur e).1
  where
    some : consumes (front text) (AnyCase word) ≡ true → not (is_empty word) ≡ true
    some k = k
consumes_more text cur Name h e = has_name_of text cur e
consumes_more [] cur (Next marks) h e = cc
consumes_more (c ∷ text) cur (Next marks) h e =
    has_one (c ∷ text) cur refl (taken_front (list_any (λ mark. fits_mark mark (c ∷ text)) marks) (take 1 (c ∷ text)) cur e).1
consumes_more [] cur Else h e = cc
consumes_more (c ∷ text) cur Else h e = has_one (c ∷ text) cur refl e

-- ---- steps

-- where an entry leads
abbrev pub GoesWell : (State → Bool) → List ℕ → Then → List ℕ → Type 0
GoesWell again text Stop cur = Unit {0}
GoesWell again text (Reconsume state) cur = (again state ≡ true) × (list_all again text_states ≡ true)
GoesWell again text ReconsumeBack cur = (list_all again return_states ≡ true) × (list_all again text_states ≡ true)
GoesWell again text Stay cur = Shorter (drop (length cur) text) text
GoesWell again text (Switch state) cur = Shorter (drop (length cur) text) text
GoesWell again text SwitchBack cur = Shorter (drop (length cur) text) text

abbrev pub IsWell : (State → Bool) → List ℕ → Taken → Type 0
IsWell again text t = (list_all returns_well t.acts ≡ true) × GoesWell again text t.goes t.current

goes_well_on : (again : State → Bool) (text cur : List ℕ) (on : On) (goes : Then) → goes_well again (front text) on goes ≡ true → consumed on text ≡ Some cur →
    GoesWell again text goes cur
goes_well_on again text cur on Stop h e = tt
goes_well_on again text cur on (Reconsume state) h e = both (again state) (list_all again text_states) h
goes_well_on again text cur on ReconsumeBack h e = both (list_all again return_states) (list_all again text_states) h
goes_well_on again text cur on Stay h e = shorter cur text (consumes_more text cur on h e).0 (consumes_more text cur on h e).1
goes_well_on again text cur on (Switch state) h e = shorter cur text (consumes_more text cur on h e).0 (consumes_more text cur on h e).1
goes_well_on again text cur on SwitchBack h e = shorter cur text (consumes_more text cur on h e).0 (consumes_more text cur on h e).1

taken_well : (again : State → Bool) (foreign : Bool) (m : Machine) (text : List ℕ) (es : List Entry) → all_go_well again (front text) es ≡ true →
    IsWell again text (taken foreign m text es)
unfolding taken
taken_well again foreign m text [] h = (refl, tt)
taken_well again foreign m text (entry on guard acts goes ∷ more) h =
    by_front (consumed on text) refl (may_come (front text) on) refl (must_come (front text) on guard) refl h (taken_well again foreign m text more)
  where
    rest : Taken
    rest = taken foreign m text more

    fine : Bool
    fine = list_all returns_well acts && goes_well again (front text) on goes

    by_met : (cur : List ℕ) (z : Bool) → IsWell again text (record { acts = acts; goes = goes; current = cur }) → IsWell again text rest →
        IsWell again text (cond z (record { acts = acts; goes = goes; current = cur }) rest)
    by_met cur true here later = here
    by_met cur false here later = later

    none_some : (cur : List ℕ) → None ≡ Some cur → ⊥
    none_some cur e = cc

    if_always : (one : Guard) (cur : List ℕ) → one ≡ Always → is_met foreign one m cur (drop (length cur) text) ≡ true
    if_always one cur e = ap (λ g. is_met foreign g m cur (drop (length cur) text)) e

    met_only : (z : Bool) (cur : List ℕ) → z ≡ true → IsWell again text (record { acts = acts; goes = goes; current = cur }) →
        IsWell again text (cond z (record { acts = acts; goes = goes; current = cur }) rest)
    met_only true cur e here = here
    met_only false cur e here = cc

    by_fine : (cur : List ℕ) → consumed on text ≡ Some cur → (z : Bool) → fine ≡ z → (y : Bool) → must_come (front text) on guard ≡ y →
        elim z [ false ↦ false | true ↦ elim y [ true ↦ true | false ↦ all_go_well again (front text) more ] ] ≡ true →
        (all_go_well again (front text) more ≡ true → IsWell again text rest) →
        IsWell again text (cond (is_met foreign guard m cur (drop (length cur) text)) (record { acts = acts; goes = goes; current = cur }) rest)
    by_fine cur e false f y g k later = cc
    by_fine cur e true f true g k later =
        met_only (is_met foreign guard m cur (drop (length cur) text)) cur
        (if_always guard cur (comes_if_must foreign m text on guard acts goes rest g (consumed on text) refl).2) (
          (both (list_all returns_well acts) (goes_well again (front text) on goes) f).0,
          goes_well_on again text cur on goes (both (list_all returns_well acts) (goes_well again (front text) on goes) f).1 e,
        )
    by_fine cur e true f false g k later =
        by_met cur (is_met foreign guard m cur (drop (length cur) text)) (
          (both (list_all returns_well acts) (goes_well again (front text) on goes) f).0,
          goes_well_on again text cur on goes (both (list_all returns_well acts) (goes_well again (front text) on goes) f).1 e,
        ) (later k)

    none_fits : (z y : Bool) → must_come (front text) on guard ≡ y → consumed on text ≡ None →
        elim z [ false ↦ false | true ↦ elim y [ true ↦ true | false ↦ all_go_well again (front text) more ] ] ≡ true → all_go_well again (front text) more ≡ true
    none_fits false y g e k = cc
    none_fits true true g e k =
        absurd (none_some (comes_if_must foreign m text on guard acts goes rest g None e).0 (comes_if_must foreign m text on guard acts goes rest g None e).1)
    none_fits true false g e k = k

    by_front : (o : Option (List ℕ)) → consumed on text ≡ o → (x : Bool) → may_come (front text) on ≡ x → (y : Bool) → must_come (front text) on guard ≡ y →
        elim x [
          | false ↦ all_go_well again (front text) more
          | true ↦ elim fine [ false ↦ false | true ↦ elim y [ true ↦ true | false ↦ all_go_well again (front text) more ] ]
        ] ≡ true →
        (all_go_well again (front text) more ≡ true → IsWell again text rest) → IsWell again text (taken_if foreign o guard acts goes m text rest)
    by_front None e false f y g k later = later k
    by_front None e true f y g k later = later (none_fits fine y g e k)
    by_front (Some cur) e false f y g k later = absurd (clash (may_come_if text cur on e) f)
      where
        clash : may_come (front text) on ≡ true → may_come (front text) on ≡ false → ⊥
        clash one other = cc
    by_front (Some cur) e true f y g k later = by_fine cur e fine refl y g k later

-- what an act does to the return state
return_kept : (cur : List ℕ) (act : Act) (m : Machine) → returns_well act ≡ true → is_return m.return_state ≡ true → is_return (done cur act m).return_state ≡ true
return_kept cur (ReturnTo state) m h k = h
return_kept cur (Add place what) m h k = by_place place
  where
    by_place : (one : Place) → is_return (added one (characters what m cur) m).return_state ≡ true
    by_place Buffer = k
    by_place _ = k
return_kept cur (SetEmpty place) m h k = by_place place
  where
    by_place : (one : Place) → is_return (emptied one m).return_state ≡ true
    by_place Buffer = k
    by_place _ = k
return_kept cur Flush m h k = by_value (is_value m.return_state)
  where
    by_value : (x : Bool) → is_return (cond x (added AttrValue m.buffer m) m).return_state ≡ true
    by_value true = k
    by_value false = k
return_kept cur _ m h k = k

returns_kept : (cur : List ℕ) (acts : List Act) (m : Machine) → list_all returns_well acts ≡ true → is_return m.return_state ≡ true →
    is_return (all_done cur acts m).return_state ≡ true
returns_kept cur [] m h k = k
returns_kept cur (act ∷ acts) m h k =
    returns_kept cur acts (done cur act m) (both (returns_well act) (list_all returns_well acts) h).1
    (return_kept cur act m (both (returns_well act) (list_all returns_well acts) h).0 k)

return_passes : (test : State → Bool) → list_all test return_states ≡ true → (state : State) → is_return state ≡ true → test state ≡ true
return_passes test all state h = by_state state h (five (test Data) (test RCDATA) (test AttributeValueDoubleQuoted) (test AttributeValueSingleQuoted) (test AttributeValueUnquoted) all)
  where
    five : (u v x y z : Bool) → u && (v && (x && (y && (z && true)))) ≡ true → (u ≡ true) × (v ≡ true) × (x ≡ true) × (y ≡ true) × (z ≡ true)
    five true true true true true e = (refl, refl, refl, refl, refl)
    five true true true true false e = cc
    five true true true false z e = cc
    five true true false y z e = cc
    five true false x y z e = cc
    five false v x y z e = cc

    by_state : (one : State) → is_return one ≡ true →
        (test Data ≡ true) × (test RCDATA ≡ true) × (test AttributeValueDoubleQuoted ≡ true) × (test AttributeValueSingleQuoted ≡ true) × (test AttributeValueUnquoted ≡ true) →
        test one ≡ true
    by_state Data k all5 = all5.0
    by_state RCDATA k all5 = all5.1
    by_state AttributeValueDoubleQuoted k all5 = all5.2
    by_state AttributeValueSingleQuoted k all5 = all5.3
    by_state AttributeValueUnquoted k all5 = all5.4
    by_state _ k all5 = cc

-- a step stops, or stays at the text and comes closer to a character that is consumed, or consumes some
pub data Progress (again : State → Bool) (text : List ℕ) (s : Step) : Type 0 where
  stopped : s.stopped ≡ true → Progress again text s
  closer : s.stopped ≡ false → s.rest ≡ text → again s.machine.state ≡ true → list_all again text_states ≡ true → Progress again text s
  further : s.stopped ≡ false → Shorter s.rest text → Progress again text s

progress_by : (again : State → Bool) (m : Machine) (text : List ℕ) (t : Taken) → is_return m.return_state ≡ true → IsWell again text t → Progress again text (step_by m text t)
progress_by again m text t back well = by_way t.goes refl well.1
  where
    after : Machine
    after = all_done t.current t.acts m

    by_way : (goes : Then) → t.goes ≡ goes → GoesWell again text goes t.current → Progress again text (step_by m text (record { acts = t.acts; goes = goes; current = t.current }))
    by_way Stop e h = stopped refl
    by_way (Reconsume state) e h = closer refl refl h.0 h.1
    by_way ReconsumeBack e h = closer refl refl (return_passes again h.0 after.return_state (returns_kept t.current t.acts m well.0 back)) h.1
    by_way Stay e h = further refl h
    by_way (Switch state) e h = further refl h
    by_way SwitchBack e h = further refl h

pub progress : (n : ℕ) (foreign : Bool) (m : Machine) (text : List ℕ) → is_return m.return_state ≡ true → settles (front text) (suc n) m.state ≡ true →
    Progress (settles (front text) n) text (step foreign m text)
unfolding step
progress n foreign m text back h =
    progress_by (settles (front text) n) m text (taken foreign m text (entries m.state)) back
    (taken_well (settles (front text) n) foreign m text (entries m.state) h)

pub return_after : (n : ℕ) (foreign : Bool) (m : Machine) (text : List ℕ) → is_return m.return_state ≡ true → settles (front text) (suc n) m.state ≡ true →
    is_return (step foreign m text).machine.return_state ≡ true
unfolding step
return_after n foreign m text back h =
    returns_kept (taken foreign m text (entries m.state)).current (taken foreign m text (entries m.state)).acts m
    (taken_well (settles (front text) n) foreign m text (entries m.state) h).0 back
