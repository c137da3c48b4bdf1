-- What actions do to the modes of a building, and to its token.
use Rattle.std.specs.Prelude.{◌≡◌, ◌||◌, ◌⊎◌, refl, ℕ, Bool, true, false, not, ◌==◌, ◌&&◌, List, [], ◌∷◌, Option, None, Some, drop, bytes_eq, unwrap_or}
use Rattle.std.proofs.Common.{inl, inr}
use Rattle.std.proofs.lemmas.Bool.Decides.{Decides-eqb}
use Rattle.std.specs.List.{list_all, list_any}
use Rattle.std.proofs.lemmas.Slice.Eq.{bytes_eq-Decides}
use Rattle.std.proofs.lemmas.Option.{same_Some}
use mathlib.Core.Path.{◌∙◌, sym, ap, subst}
use Rattle.standard_tokens.specs.Machine.{no_doctype}
use Rattle.standard_tokens.specs.Tokens.{Token, AChar, AComment, ADoctype, AStart, AnEnd, AnEof}
use Rattle.standard_trees.specs.RuleWords.{Act, Action, AdjustSvgName, InBody, KeepMode, Mode, Pattern, PopTemplateMode, PushTemplateMode}
use Rattle.standard_trees.specs.RuleWords.{Reset, ResetMode, Rule, StartTagBut, StartTagOf, EndTagOf, SwitchBack, SwitchTo, Test, reset_to}
use Rattle.standard_trees.specs.RuleWords.{Anything, WhiteSpace, Null}
use Rattle.standard_trees.specs.RuleWords.{reset_to_template_mode, rule, Text, InTableText, Dispatcher, ForeignContent}
use Rattle.standard_trees.specs.TreeRules.{resets}
use Rattle.standard_trees.specs.TreeStore.{key_in}
use Rattle.standard_trees.specs.GrowingTree.{GrowingTree, is_among, key, kind_of}
use Rattle.standard_trees.specs.Building.{Building, fits, is_empty, is_met, is_space, node_test, perform, renamed, reset_by, reset_from, taken, top_mode}
use Rattle.standard_trees.proofs.Routes.{Change, Renames, Same, To, Unsure, acts_pass, all_taken, change, is_end_of_file, is_known, is_known_rule}
use Rattle.standard_trees.specs.Laws.{is_plain, is_real}
use Rattle.standard_trees.proofs.Routes.{char_like, known_name, like, may_do, mode_after, names, token_after}

-- ---- Booleans

pub both : (x y : Bool) → x && y ≡ true → (x ≡ true) × (y ≡ true)
both true y h = (refl, h)
both false y h = cc

pub both_in_turn : (x y : Bool) → elim x [ true ↦ y | false ↦ false ] ≡ true → (x ≡ true) × (y ≡ true)
both_in_turn true y h = (refl, h)
both_in_turn false y h = cc

pub either : (x y : Bool) → x || y ≡ true → (x ≡ true) ⊎ (y ≡ true)
either true y h = inl refl
either false y h = inr h

pub cases : (x : Bool) → (x ≡ true) ⊎ (x ≡ false)
cases true = inl refl
cases false = inr refl

-- ---- modes

-- the original insertion mode and the template insertion modes are among the plain ones
abbrev pub Good : Building → Type 0
Good b = (is_real b.mode ≡ true) × (is_plain b.original ≡ true) × (list_all is_plain b.template_modes ≡ true)

pub plain_real : (mode : Mode) → is_plain mode ≡ true → is_real mode ≡ true
plain_real Dispatcher h = cc
plain_real ForeignContent h = cc
plain_real Text h = cc
plain_real InTableText h = cc
plain_real _ h = refl

-- "reset the insertion mode appropriately" gives a mode that passes a test, if the table's modes and the current template insertion mode do
abbrev pub reset_passes : (Mode → Bool) → Reset → Bool
reset_passes test (reset_to ones when mode) = test mode
reset_passes test (reset_to_template_mode ones) = true

same_mode : (test : Mode → Bool) (one other : Mode) → test one ≡ true → Some one ≡ Some other → test other ≡ true
same_mode test one other passes e = subst (λ mode. test mode ≡ true) (same_Some one other e) passes

found_passes : (test : Mode → Bool) (x : Bool) (new : Mode) (o : Option Mode) → test new ≡ true → ((mode : Mode) → o ≡ Some mode → test mode ≡ true) →
    (mode : Mode) → elim x [ true ↦ Some new | false ↦ o ] ≡ Some mode → test mode ≡ true
found_passes test true new o passes others mode h = same_mode test new mode passes h
found_passes test false new o passes others mode h = others mode h

reset_by_passes : (test : Mode → Bool) (rs : List Reset) → list_all (reset_passes test) rs ≡ true → (name : List ℕ) (modes : List Mode) →
    test (top_mode modes) ≡ true → (head : Option ℕ) (above : List ℕ) (mode : Mode) → reset_by rs name modes head above ≡ Some mode → test mode ≡ true
reset_by_passes test [] all name modes top head above mode h = cc
reset_by_passes test (reset_to ones when new ∷ more) all name modes top head above mode h =
    found_passes test (is_among name ones && node_test when head above) new (reset_by more name modes head above) (both (test new) (list_all (reset_passes test) more) all).0
    (λ m e. reset_by_passes test more (both (test new) (list_all (reset_passes test) more) all).1 name modes top head above m e) mode h
reset_by_passes test (reset_to_template_mode ones ∷ more) all name modes top head above mode h =
    found_passes test (is_among name ones) (top_mode modes) (reset_by more name modes head above) top
    (λ m e. reset_by_passes test more all name modes top head above m e) mode h

unwrapped : (test : Mode → Bool) → test InBody ≡ true → (o : Option Mode) → ((mode : Mode) → o ≡ Some mode → test mode ≡ true) →
    test (unwrap_or o InBody) ≡ true
unwrapped test body None passes = body
unwrapped test body (Some mode) passes = passes mode refl

mode_passes : (test : Mode → Bool) (o : Option Mode) (other : Mode) → test other ≡ true → ((mode : Mode) → o ≡ Some mode → test mode ≡ true) →
    test (elim o [ Some mode ↦ mode | None ↦ other ]) ≡ true
mode_passes test None other passes found = passes
mode_passes test (Some mode) other passes found = found mode refl

pub reset_from_passes : (test : Mode → Bool) → test InBody ≡ true → list_all (reset_passes test) resets ≡ true → (t : GrowingTree) (modes : List Mode) →
    test (top_mode modes) ≡ true → (stack : List ℕ) → test (reset_from t modes stack) ≡ true
reset_from_passes test body all t modes top [] = body
reset_from_passes test body all t modes top (n ∷ []) =
    unwrapped test body (reset_by resets (key_in (unwrap_or t.context (kind_of t n))) modes t.head [])
    (λ mode e. reset_by_passes test resets all (key_in (unwrap_or t.context (kind_of t n))) modes top t.head [] mode e)
reset_from_passes test body all t modes top (n ∷ m ∷ ns) =
    mode_passes test (reset_by resets (key t n) modes t.head (m ∷ ns)) (reset_from t modes (m ∷ ns)) (reset_from_passes test body all t modes top (m ∷ ns))
    (λ mode e. reset_by_passes test resets all (key t n) modes top t.head (m ∷ ns) mode e)

plain_top : (modes : List Mode) → list_all is_plain modes ≡ true → is_plain (top_mode modes) ≡ true
plain_top [] h = refl
plain_top (mode ∷ modes) h = (both (is_plain mode) (list_all is_plain modes) h).0

pub plain_reset : (b : Building) → Good b → is_plain (reset_from b.tree b.template_modes b.tree.stack) ≡ true
plain_reset b good = reset_from_passes is_plain refl refl b.tree b.template_modes (plain_top b.template_modes good.2) b.tree.stack

pub dropped_plain : (modes : List Mode) → list_all is_plain modes ≡ true → list_all is_plain (drop 1 modes) ≡ true
dropped_plain [] h = refl
dropped_plain (mode ∷ modes) h = (both (is_plain mode) (list_all is_plain modes) h).1

abbrev pub IsAt : Option Mode → Building → Type 0
IsAt None b = Unit {0}
IsAt (Some now) b = b.mode ≡ now

pub perform_good : (t : Token) (now : Option Mode) (action : Action) (b : Building) → may_do t now action ≡ true → IsAt now b → Good b → Good (perform action b)
unfolding perform
perform_good t now (SwitchTo new) b may at good = (may, good.1, good.2)
perform_good t now (PushTemplateMode new) b may at good =
    (good.0, good.1, both_true (is_plain new) (list_all is_plain b.template_modes) (both (is_plain new) (not (is_end_of_file t)) may).0 good.2)
  where
    both_true : (x y : Bool) → x ≡ true → y ≡ true → x && y ≡ true
    both_true true y h k = k
    both_true false y h k = cc
perform_good t now PopTemplateMode b may at good = (good.0, good.1, dropped_plain b.template_modes good.2)
perform_good t None KeepMode b may at good = cc
perform_good t (Some now) KeepMode b may at good = (good.0, ap is_plain at ∙ may, good.2)
perform_good t now SwitchBack b may at good = (plain_real b.original good.1, good.1, good.2)
perform_good t now ResetMode b may at good = (plain_real (reset_from b.tree b.template_modes b.tree.stack) (plain_reset b good), good.1, good.2)
perform_good t now _ b may at good = good

-- ---- the mode and the token

abbrev pub IsChanged : Change → Building → Building → Type 0
IsChanged Same b c = (c.mode ≡ b.mode) × (c.token ≡ b.token)
IsChanged Unsure b c = Unit {0}
IsChanged (To new) b c = (c.mode ≡ new) × (c.token ≡ b.token)
IsChanged (Renames name) b c = (c.mode ≡ b.mode) × (c.token ≡ renamed name b.token)

changed : (action : Action) (b : Building) → IsChanged (change action) b (perform action b)
unfolding perform
changed SwitchBack b = tt
changed ResetMode b = tt
changed AdjustSvgName b = tt
changed _ b = (refl, refl)

modes_kept : (t : Token) (now : Option Mode) (action : Action) (b : Building) → may_do t now action ≡ true → is_end_of_file t ≡ true →
    (perform action b).template_modes ≡ b.template_modes
unfolding perform
modes_kept t now (PushTemplateMode new) b may eof = absurd (never_both (is_plain new) (is_end_of_file t) may eof)
  where
    never_both : (x y : Bool) → x && not y ≡ true → y ≡ true → ⊥
    never_both true true h k = cc
    never_both true false h k = cc
    never_both false y h k = cc
modes_kept t now PopTemplateMode b may eof = absurd (never_both (is_end_of_file t) may eof)
  where
    never_both : (y : Bool) → not y ≡ true → y ≡ true → ⊥
    never_both true h k = cc
    never_both false h k = cc
modes_kept t now _ b may eof = refl

known_again : (name : List ℕ) → known_name (known_name name) ≡ known_name name
known_again name = by_cases (is_among name names) refl
  where
    by_cases : (x : Bool) → is_among name names ≡ x → known_name (elim x [ true ↦ name | false ↦ [] ]) ≡ elim x [ true ↦ name | false ↦ [] ]
    by_cases true e = ap (λ x. elim x [ true ↦ name | false ↦ [] ]) e
    by_cases false e = refl

char_again : (c : ℕ) → char_like c ≡ char_like (char_like c)
char_again c = by_cases (c == 0) (is_space c)
  where
    by_cases : (x y : Bool) → elim x [ true ↦ 0 | false ↦ elim y [ true ↦ 32 | false ↦ 97 ] ] ≡
        char_like (elim x [ true ↦ 0 | false ↦ elim y [ true ↦ 32 | false ↦ 97 ] ])
    by_cases true y = refl
    by_cases false true = refl
    by_cases false false = refl

like_renamed : (name : List ℕ) (t : Token) → like (renamed name t) ≡ like (renamed name (like t))
like_renamed name (AStart old attrs closing) = refl
like_renamed name (AnEnd old) = ap AnEnd (sym (known_again old))
like_renamed name (AChar c) = ap AChar (char_again c)
like_renamed name (AComment text) = refl
like_renamed name (ADoctype doctype) = refl
like_renamed name AnEof = refl

end_like : (t : Token) → is_end_of_file (like t) ≡ is_end_of_file t
end_like (AStart old attrs closing) = refl
end_like (AnEnd old) = refl
end_like (AChar c) = refl
end_like (AComment text) = refl
end_like (ADoctype doctype) = refl
end_like AnEof = refl

end_renamed : (name : List ℕ) (t : Token) → is_end_of_file (renamed name t) ≡ is_end_of_file t
end_renamed name (AStart old attrs closing) = refl
end_renamed name (AnEnd old) = refl
end_renamed name (AChar c) = refl
end_renamed name (AComment text) = refl
end_renamed name (ADoctype doctype) = refl
end_renamed name AnEof = refl

-- the building has this mode and such a token, where they are sure; at the end of the file these are the template insertion modes
abbrev pub Stands : List Mode → Option Mode → Token → Building → Type 0
Stands modes None t b = Unit {0}
Stands modes (Some now) t b = (b.mode ≡ now) × (like b.token ≡ t) × (is_end_of_file t ≡ true → b.template_modes ≡ modes)

abbrev pub after : List Test → Action → Building → Building
after tests action b = elim (list_all (is_met b) tests) [ true ↦ perform action b | false ↦ b ]

pub good_after : (t : Token) (now : Option Mode) (action : Action) (tests : List Test) (b : Building) → may_do t now action ≡ true → IsAt now b → Good b →
    Good (after tests action b)
good_after t now action tests b may at good = by_test (list_all (is_met b) tests)
  where
    by_test : (x : Bool) → Good (elim x [ true ↦ perform action b | false ↦ b ])
    by_test true = perform_good t now action b may at good
    by_test false = good

-- the facts of an action, put together
abbrev pub IsSteady : Token → Building → Building → Type 0
IsSteady t b c = is_end_of_file t ≡ true → c.template_modes ≡ b.template_modes

stands_by : (modes : List Mode) (one : Change) (tests : List Test) (now : Mode) (t : Token) (b c : Building) (x : Bool) → (tests ≡ [] → x ≡ true) →
    IsChanged one b c → IsSteady t b c → Stands modes (Some now) t b →
    Stands modes (mode_after one tests (Some now)) (token_after one t) (elim x [ true ↦ c | false ↦ b ])
stands_by modes Same tests now t b c true none is steady at = (is.0 ∙ at.0, ap like is.1 ∙ at.1, λ eof. steady eof ∙ at.2 eof)
stands_by modes Same tests now t b c false none is steady at = at
stands_by modes Unsure tests now t b c x none is steady at = tt
stands_by modes (To new) [] now t b c true none is steady at = (is.0, ap like is.1 ∙ at.1, λ eof. steady eof ∙ at.2 eof)
stands_by modes (To new) [] now t b c false none is steady at = absurd (no_case (none refl))
  where
    no_case : false ≡ true → ⊥
    no_case e = cc
stands_by modes (To new) (test ∷ tests) now t b c x none is steady at = tt
stands_by modes (Renames name) [] now t b c true none is steady at =
    (is.0 ∙ at.0, ap like is.1 ∙ like_renamed name b.token ∙ ap (λ u. like (renamed name u)) at.1, λ eof. steady (still eof) ∙ at.2 (still eof))
  where
    still : is_end_of_file (like (renamed name t)) ≡ true → is_end_of_file t ≡ true
    still e = sym (end_like (renamed name t) ∙ end_renamed name t) ∙ e
stands_by modes (Renames name) [] now t b c false none is steady at = absurd (no_case (none refl))
  where
    no_case : false ≡ true → ⊥
    no_case e = cc
stands_by modes (Renames name) (test ∷ tests) now t b c x none is steady at = tt

nothing_to_meet : (b : Building) (tests : List Test) → tests ≡ [] → list_all (is_met b) tests ≡ true
nothing_to_meet b [] e = refl
nothing_to_meet b (test ∷ tests) e = cc

pub stands_after : (modes : List Mode) (now : Option Mode) (t : Token) (action : Action) (tests : List Test) (b : Building) → may_do t now action ≡ true →
    Stands modes now t b → Stands modes (mode_after (change action) tests now) (token_after (change action) t) (after tests action b)
stands_after modes None t action tests b may at = tt
stands_after modes (Some now) t action tests b may at =
    stands_by modes (change action) tests now t b (perform action b) (list_all (is_met b) tests) (nothing_to_meet b tests) (changed action b)
    (λ eof. modes_kept t (Some now) action b may eof) at

pub at_from_stands : (modes : List Mode) (now : Option Mode) (t : Token) (b : Building) → Stands modes now t b → IsAt now b
at_from_stands modes None t b at = tt
at_from_stands modes (Some now) t b at = at.0

-- ---- tokens that are alike

is_same_name : (one other : List ℕ) → bytes_eq one other ≡ true → one ≡ other
is_same_name one other e = (bytes_eq-Decides one other).0 e

-- a name that is not known is in no list of known ones
none_among : (name : List ℕ) → is_among name names ≡ false → (some : List (List ℕ)) → list_all (λ one. is_among one names) some ≡ true → is_among name some ≡ false
none_among name unknown [] all = refl
none_among name unknown (one ∷ some) all =
    by_first (bytes_eq name one) refl (none_among name unknown some (both (is_among one names) (list_all (λ x. is_among x names) some) all).1)
  where
    by_first : (x : Bool) → bytes_eq name one ≡ x → is_among name some ≡ false → x || is_among name some ≡ false
    by_first true e rest =
        absurd (clash (subst (λ n. is_among n names ≡ true) (sym (is_same_name name one e)) (both (is_among one names) (list_all (λ x. is_among x names) some) all).0) unknown)
      where
        clash : is_among name names ≡ true → is_among name names ≡ false → ⊥
        clash h k = cc
    by_first false e rest = rest

known_among : (name : List ℕ) (some : List (List ℕ)) → list_all (λ one. is_among one names) some ≡ true → is_among name some ≡ is_among (known_name name) some
known_among name some all = by_cases (is_among name names) refl
  where
    by_cases : (x : Bool) → is_among name names ≡ x → is_among name some ≡ is_among (elim x [ true ↦ name | false ↦ [] ]) some
    by_cases true e = refl
    by_cases false e = none_among name e some all ∙ sym (none_among [] refl some all)

fits_alike : (pattern : Pattern) (t : Token) → is_known pattern ≡ true → fits pattern t ≡ fits pattern (like t)
fits_alike (StartTagOf some) (AStart name attrs closing) known = known_among name some known
fits_alike (StartTagBut some) (AStart name attrs closing) known = ap not (known_among name some known)
fits_alike (EndTagOf some) (AnEnd name) known = known_among name some known
fits_alike Null (AChar c) known = by_cases (c == 0) (is_space c)
  where
    by_cases : (x y : Bool) → x ≡ (elim x [ true ↦ 0 | false ↦ elim y [ true ↦ 32 | false ↦ 97 ] ] == 0)
    by_cases true y = refl
    by_cases false true = refl
    by_cases false false = refl
fits_alike WhiteSpace (AChar c) known = by_cases (c == 0) (is_space c) refl refl
  where
    by_cases : (x y : Bool) → (c == 0) ≡ x → is_space c ≡ y → is_space c ≡ is_space (elim x [ true ↦ 0 | false ↦ elim y [ true ↦ 32 | false ↦ 97 ] ])
    by_cases true y e f = ap is_space ((Decides-eqb c 0).0 e)
    by_cases false true e f = f
    by_cases false false e f = f
fits_alike _ (AStart name attrs closing) known = refl
fits_alike _ (AnEnd name) known = refl
fits_alike _ (AChar c) known = refl
fits_alike pattern (AComment text) known = of_comment pattern
  where
    of_comment : (one : Pattern) → fits one (AComment text) ≡ fits one (AComment [])
    of_comment Anything = refl
    of_comment _ = refl
fits_alike pattern (ADoctype doctype) known = of_doctype pattern
  where
    of_doctype : (one : Pattern) → fits one (ADoctype doctype) ≡ fits one (ADoctype no_doctype)
    of_doctype Anything = refl
    of_doctype _ = refl
fits_alike _ AnEof known = refl

any_alike : (t : Token) (patterns : List Pattern) → list_all is_known patterns ≡ true →
    list_any (λ pattern. fits pattern t) patterns ≡ list_any (λ pattern. fits pattern (like t)) patterns
any_alike t [] known = refl
any_alike t (pattern ∷ more) known =
    ap (λ x. x || list_any (λ p. fits p t) more) (fits_alike pattern t (both (is_known pattern) (list_all is_known more) known).0)
    ∙ ap (λ x. fits pattern (like t) || x) (any_alike t more (both (is_known pattern) (list_all is_known more) known).1)

-- ---- the rule that is taken

first_of_three : (over test : List Act → Bool) (acts rest : List Act) (x y : Bool) → over acts ≡ true → (over rest ≡ true) ⊎ (test rest ≡ true) →
    (over (elim x [ true ↦ elim y [ true ↦ acts | false ↦ rest ] | false ↦ rest ]) ≡ true) ⊎
    (test (elim x [ true ↦ elim y [ true ↦ acts | false ↦ rest ] | false ↦ rest ]) ≡ true)
first_of_three over test acts rest true true passes later = inl passes
first_of_three over test acts rest true false passes later = later
first_of_three over test acts rest false y passes later = later

-- the same where it isn't passed over: k says whether it passes the test, x whether it is for the token, y whether its tests are met
first_that_fits : (over test : List Act → Bool) (acts rest : List Act) (tests : List Test) (k x y more : Bool) → test acts ≡ k → (tests ≡ [] → y ≡ true) →
    (more ≡ true → (over rest ≡ true) ⊎ (test rest ≡ true)) →
    elim x [ false ↦ more | true ↦ elim k [ false ↦ false | true ↦ elim (is_empty tests) [ true ↦ true | false ↦ more ] ] ] ≡ true →
    (over (elim x [ true ↦ elim y [ true ↦ acts | false ↦ rest ] | false ↦ rest ]) ≡ true) ⊎
    (test (elim x [ true ↦ elim y [ true ↦ acts | false ↦ rest ] | false ↦ rest ]) ≡ true)
first_that_fits over test acts rest tests k false y more passes none later all = later all
first_that_fits over test acts rest tests false true y more passes none later all = cc
first_that_fits over test acts rest tests true true true more passes none later all = inr passes
first_that_fits over test acts rest [] true true false more passes none later all = absurd (no_case (none refl))
  where
    no_case : false ≡ true → ⊥
    no_case e = cc
first_that_fits over test acts rest (one ∷ tests) true true false more passes none later all = later all

by_over : (over test : List Act → Bool) (acts rest : List Act) (tests : List Test) (o x z y more : Bool) → over acts ≡ o → (o ≡ false → x ≡ z) → (tests ≡ [] → y ≡ true) →
    (more ≡ true → (over rest ≡ true) ⊎ (test rest ≡ true)) →
    elim o [
      | true ↦ more
      | false ↦ elim z [ false ↦ more | true ↦ elim (test acts) [ false ↦ false | true ↦ elim (is_empty tests) [ true ↦ true | false ↦ more ] ] ]
    ] ≡ true →
    (over (elim x [ true ↦ elim y [ true ↦ acts | false ↦ rest ] | false ↦ rest ]) ≡ true) ⊎
    (test (elim x [ true ↦ elim y [ true ↦ acts | false ↦ rest ] | false ↦ rest ]) ≡ true)
by_over over test acts rest tests true x z y more is same none later all = first_of_three over test acts rest x y is (later all)
by_over over test acts rest tests false x z y more is same none later all =
    first_that_fits over test acts rest tests (test acts) x y more refl none later
    (subst (λ w. elim w [ false ↦ more | true ↦ elim (test acts) [ false ↦ false | true ↦ elim (is_empty tests) [ true ↦ true | false ↦ more ] ] ] ≡ true) (sym (same refl)) all)

known_patterns : (o k : Bool) → elim o [ true ↦ true | false ↦ k ] ≡ true → o ≡ false → k ≡ true
known_patterns true k h e = cc
known_patterns false k h e = h

-- what is taken is passed over, or passes the test
pub taken_passes : (over test : List Act → Bool) → test [] ≡ true → (b : Building) (rs : List Rule) → list_all (is_known_rule over) rs ≡ true →
    all_taken over test (like b.token) rs ≡ true → (over (taken b rs) ≡ true) ⊎ (test (taken b rs) ≡ true)
unfolding taken
taken_passes over test none b [] known all = inr none
taken_passes over test none b (rule patterns tests acts ∷ more) known all =
    by_over over test acts (taken b more) tests (over acts) (list_any (λ pattern. fits pattern b.token) patterns) (list_any (λ pattern. fits pattern (like b.token)) patterns)
    (list_all (is_met b) tests) (all_taken over test (like b.token) more) refl (λ e. any_alike b.token patterns (known_patterns (over acts) (list_all is_known patterns)
    (both (is_known_rule over (rule patterns tests acts)) (list_all (is_known_rule over) more) known).0 e)) (nothing_to_meet b tests)
    (λ h. taken_passes over test none b more (both (is_known_rule over (rule patterns tests acts)) (list_all (is_known_rule over) more) known).1 h) all

-- what all rules say passes a test
pub taken_of_all : (test : List Act → Bool) → test [] ≡ true → (b : Building) (rs : List Rule) → acts_pass test rs ≡ true → test (taken b rs) ≡ true
unfolding taken
taken_of_all test none b [] all = none
taken_of_all test none b (rule patterns tests acts ∷ more) all =
    by_fit (list_any (λ pattern. fits pattern b.token) patterns) (list_all (is_met b) tests) (taken_of_all test none b more (both (test acts) (acts_pass test more) all).1)
  where
    by_fit : (x y : Bool) → test (taken b more) ≡ true → test (elim x [ true ↦ elim y [ true ↦ acts | false ↦ taken b more ] | false ↦ taken b more ]) ≡ true
    by_fit true true rest = (both (test acts) (acts_pass test more) all).0
    by_fit true false rest = rest
    by_fit false y rest = rest
