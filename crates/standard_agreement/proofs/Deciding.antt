-- What was computed over the tables is so of the states.
use Rattle.std.specs.Prelude.{◌≡◌, refl, ℕ, Bool, true, false, cond, not, ◌&&◌, ◌||◌, ◌==◌, List, [], ◌∷◌, Option, None, Some, bytes_eq, codes}
use Rattle.std.specs.List.{list_all, list_any}
use Rattle.std.specs.Option.{option_map_or}
use Rattle.std.proofs.lemmas.Bool.{eqb-true, true≢false}
use Rattle.std.proofs.lemmas.Option.{same_Some}
use Rattle.std.proofs.lemmas.Slice.Eq.{bytes_eq-Decides}
use mathlib.Core.Path.{◌∙◌, sym, ap, subst}
use Rattle.standard_tokens.specs.Machine.{no_doctype}
use Rattle.standard_tokens.specs.Tokens.{Attr, Doctype, Token, AChar, AComment, ADoctype, AStart, AnEnd, AnEof}
use Rattle.standard_rules.specs.Building.{Building, Open, Taken, fits as old_fits, holds as old_holds, is_none as is_no_number, is_space, last_listed as old_last_listed, names_for as old_names_for}
use Rattle.standard_rules.specs.Building.{own_name, taken as old_taken}
use Rattle.standard_rules.specs.PlainTrees.{flow_contexts}
use Rattle.standard_rules.specs.RuleWords as O
use Rattle.standard_rules.specs.TreeTokens.{Trees, is_among}
use Rattle.standard_trees.specs.Building.{Building as WholeBuilding, fits, holds, is_empty, is_met, is_present, is_set, names_for, own_name as new_own_name, is_quirks, taken}
use Rattle.standard_trees.specs.GrowingTree.{FormAt, FormOfContext, FormPointer, GrowingTree, NoForm, has_in_scope, in_scope, is_named, is_one, ends_scope}
use Rattle.standard_trees.specs.Formatting.{last_listed}
use Rattle.standard_trees.specs.RuleWords as N
use Rattle.standard_trees.specs.TreeStore.{Kind}
use Rattle.standard_agreement.proofs.Names.{alike, known, same}
use Rattle.standard_agreement.proofs.Store.{Held, free, numbers}
use Rattle.standard_agreement.proofs.Stack.{AreKnown, kind_now}
use Rattle.standard_agreement.proofs.Listing.{FormIs, FoundIs, last_is}
use Rattle.standard_agreement.proofs.Parts.{alike_self, has_scope, new_scope}
use Rattle.standard_agreement.proofs.Acting.{ContextIs, Stands, top_test}
use Rattle.standard_agreement.proofs.Choosing.{Case, Ever, Never, Unsure, Verdict, agrees, agrees_on, by_case, case, char_like, decided, follows, ignored_in, is_always, is_none, is_outside, is_scope, like, like_lists, like_names, likeness, new_list, none_among, old_list, resolved, same_lists}
use Rattle.standard_agreement.proofs.Choosing.{tested, unsure_or, verdict}

abbrev pub is_doctype : Token → Bool
is_doctype (ADoctype doctype) = true
is_doctype _ = false

-- ---- lists of names

same_lists_are : (names others : List (List ℕ)) → same_lists names others ≡ true → names ≡ others
same_lists_are [] [] h = refl
same_lists_are [] (y ∷ ys) h = cc
same_lists_are (x ∷ xs) [] h = cc
same_lists_are (x ∷ xs) (y ∷ ys) h = by_first (bytes_eq x y) refl h (same_lists_are xs ys)
  where
    by_first : (u : Bool) → bytes_eq x y ≡ u → u && same_lists xs ys ≡ true → (same_lists xs ys ≡ true → xs ≡ ys) → x ∷ xs ≡ y ∷ ys
    by_first true e k later = ap (λ n. n ∷ xs) ((bytes_eq-Decides x y).0 e) ∙ ap (λ ns. y ∷ ns) (later k)
    by_first false e k later = cc

pub alike_lists : (names others : List (List ℕ)) → like_lists names others ≡ true → alike names others ≡ true
alike_lists names others h = by_same (same_lists names others) refl h
  where
    by_same : (x : Bool) → same_lists names others ≡ x → elim x [ true ↦ true | false ↦ alike names others ] ≡ true → alike names others ≡ true
    by_same true e k = subst (λ l. alike names l ≡ true) (same_lists_are names others e) (alike_self names)
    by_same false e k = k

own_is : (t : Token) → new_own_name t ≡ own_name t
own_is (AStart name attrs closing) = refl
own_is (AnEnd name) = refl
own_is (AChar c) = refl
own_is (AComment text) = refl
own_is (ADoctype doctype) = refl
own_is AnEof = refl

pub new_names : (t : Token) (names : N.Names) → names_for names t ≡ new_list (own_name t) names
new_names t N.Own = ap (λ n. n ∷ []) (own_is t)
new_names t (N.These names) = refl

pub old_names : (t : Token) (names : O.Names) → old_names_for names t ≡ old_list (own_name t) names
old_names t O.Own = refl
old_names t (O.These names) = refl

pub alike_names : (t : Token) (names : N.Names) (others : O.Names) → like_names (own_name t) names others ≡ true → alike (names_for names t) (old_names_for others t) ≡ true
alike_names t names others h =
    subst (λ l. alike l (old_names_for others t) ≡ true) (sym (new_names t names))
    (subst (λ l. alike (new_list (own_name t) names) l ≡ true) (sym (old_names t others)) (alike_lists (new_list (own_name t) names) (old_list (own_name t) others) h))

-- ---- names that no known element has

not_true : (x : Bool) → not x ≡ true → x ≡ false
not_true true h = cc
not_true false h = refl

pub both : (a b : Bool) → a && b ≡ true → (a ≡ true) × (b ≡ true)
both true true h = (refl, refl)
both true false h = cc
both false b h = cc

none_is : (names others : List (List ℕ)) → none_among names others ≡ true → (name : List ℕ) → is_among name others ≡ true → is_among name names ≡ false
none_is [] others h name is = refl
none_is (one ∷ names) others h name is =
    by_first (bytes_eq name one) refl (none_is names others (both (not (is_among one others)) (none_among names others) h).1 name is)
  where
    by_first : (x : Bool) → bytes_eq name one ≡ x → is_among name names ≡ false → x || is_among name names ≡ false
    by_first true e later =
        absurd (true≢false (sym is ∙ ap (λ n. is_among n others) ((bytes_eq-Decides name one).0 e)
        ∙ not_true (is_among one others) (both (not (is_among one others)) (none_among names others) h).0))
    by_first false e later = later

none_open : (t : GrowingTree) (document : Trees) (names : List (List ℕ)) → none_among names known ≡ true → (os : List Open) (kids : List ℕ) → Held t.nodes document os kids → AreKnown os →
    list_any (is_one t names) (numbers document os) ≡ false
none_open t document names h [] kids held are = refl
none_open t document names h (o ∷ os) kids held are =
    ap (λ x. x || list_any (is_one t names) (numbers document os)) (ap (is_named names) (kind_now t document o os kids held) ∙ none_is names known h o.name are.0)
    ∙ none_open t document names h os (free document os ∷ []) held.2 are.1

none_scope : (t : GrowingTree) (document : Trees) (names : List (List ℕ)) (bounds : ℕ → Bool) → none_among names known ≡ true → (os : List Open) (kids : List ℕ) → Held t.nodes document os kids →
    AreKnown os → in_scope (is_one t names) bounds (numbers document os) ≡ false
none_scope t document names bounds h [] kids held are = refl
none_scope t document names bounds h (o ∷ os) kids held are =
    ap (λ x. x || (not (bounds (free document os)) && in_scope (is_one t names) bounds (numbers document os)))
    (ap (is_named names) (kind_now t document o os kids held) ∙ none_is names known h o.name are.0)
    ∙ ap (λ x. not (bounds (free document os)) && x) (none_scope t document names bounds h os (free document os ∷ []) held.2 are.1) ∙ no (not (bounds (free document os)))
  where
    no : (x : Bool) → x && false ≡ false
    no true = refl
    no false = refl

-- ---- conditions

abbrev pub CaseHolds : Option Case → Token → Building → Type 0
CaseHolds None t b = Unit {0}
CaseHolds (Some one) t b = old_holds one.condition t b ≡ one.met

abbrev pub IsPage : Bool → Option Kind → Type 0
IsPage page around = page ≡ true → around ≡ None

taken_some : {A : Type 0} (x : Bool) (a b : A) → cond x (Some a) None ≡ Some b → (x ≡ true) × (a ≡ b)
taken_some true a b h = (refl, same_Some a b h)
taken_some false a b h = cc

form_set : (around : Option Kind) (b : Building) (c : WholeBuilding) → Stands around b c → is_set c.tree.form ≡ not (is_no_number b.form)
form_set around b c s = by_form b.form c.tree.form s.parts.pointer
  where
    by_form : (x : Option ℕ) (y : FormPointer) → FormIs c.tree.nodes b.next b.document b.stack x y → is_set y ≡ not (is_no_number x)
    by_form None NoForm f = refl
    by_form (Some k) (FormAt n) f = refl
    by_form None (FormAt n) f = absurd f
    by_form None FormOfContext f = absurd f
    by_form (Some k) NoForm f = absurd f
    by_form (Some k) FormOfContext f = absurd f

listed_set : (around : Option Kind) (b : Building) (c : WholeBuilding) (names others : List (List ℕ)) → alike names others ≡ true → Stands around b c →
    is_present (last_listed c.tree names c.tree.listed) ≡ not (is_no_number (old_last_listed others b.listed))
listed_set around b c names others h s =
    by_found (old_last_listed others b.listed) (last_listed c.tree names c.tree.listed) (last_is c.tree b.next b.document b.stack names others h b.listed c.tree.listed s.parts.listed)
  where
    by_found : (x y : Option ℕ) → FoundIs c.tree.nodes b.next b.document b.stack x y → is_present y ≡ not (is_no_number x)
    by_found None None f = refl
    by_found (Some k) (Some n) f = refl
    by_found None (Some n) f = absurd f
    by_found (Some k) None f = absurd f

scope_of_kind : (kind : O.ScopeKind) (scope : N.ScopeKind) → is_scope kind scope ≡ true → scope ≡ new_scope kind
scope_of_kind O.Scope N.Scope h = refl
scope_of_kind O.ButtonScope N.ButtonScope h = refl
scope_of_kind O.ListItemScope N.ListItemScope h = refl
scope_of_kind O.TableScope N.TableScope h = refl
scope_of_kind _ _ h = cc

likeness_is : (around : Option Kind) (b : Building) (c : WholeBuilding) → Stands around b c → (old : O.Condition) (new : N.Condition) (straight : Bool) →
    likeness (own_name c.token) old new ≡ Some straight → holds new c ≡ same straight (old_holds old c.token b)
likeness_is around b c s O.NoForm N.FormPointerSet straight h =
    form_set around b c s ∙ ap (λ x. same x (is_no_number b.form)) (same_Some false straight h)
likeness_is around b c s (O.NoListed others) (N.Listed names) straight h =
    let k = taken_some (like_names (own_name c.token) names others) false straight h in
    listed_set around b c (names_for names c.token) (old_names_for others c.token) (alike_names c.token names others k.0) s
    ∙ ap (λ x. same x (is_no_number (old_last_listed (old_names_for others c.token) b.listed))) k.1
likeness_is around b c s (O.CurrentNode others) (N.CurrentNode names) straight h =
    let k = taken_some (like_names (own_name c.token) names others) true straight h in
    top_test (names_for names c.token) (old_names_for others c.token) (alike_names c.token names others k.0) b.document b.stack b.listed b.form b.next around c.tree s.parts
    ∙ ap (λ x. same x (old_holds (O.CurrentNode others) c.token b)) k.1
likeness_is around b c s (O.InScope kind others) (N.InScope scope names) straight h =
    let k = taken_some (is_scope kind scope && like_names (own_name c.token) names others) true straight h in
    let l = both (is_scope kind scope) (like_names (own_name c.token) names others) k.0 in
    ap (λ x. has_in_scope x (names_for names c.token) c.tree) (scope_of_kind kind scope l.0)
    ∙ has_scope kind (names_for names c.token) (old_names_for others c.token) (alike_names c.token names others l.1) b.document b.stack b.listed b.form b.next around c.tree s.parts
    ∙ ap (λ x. same x (old_holds (O.InScope kind others) c.token b)) k.1
likeness_is around b c s _ _ straight h = cc

by_case_is : (around : Option Kind) (b : Building) (c : WholeBuilding) → Stands around b c → (now : Option Case) (new : N.Condition) (met : Bool) → by_case (own_name c.token) now new ≡ Some met →
    CaseHolds now c.token b → holds new c ≡ met
by_case_is around b c s None new met h e = cc
by_case_is around b c s (Some one) new met h e = by_likeness (likeness (own_name c.token) one.condition new) refl h
  where
    by_likeness : (x : Option Bool) → likeness (own_name c.token) one.condition new ≡ x → elim x [ None ↦ None | Some straight ↦ Some (same straight one.met) ] ≡ Some met → holds new c ≡ met
    by_likeness None f k = cc
    by_likeness (Some straight) f k = likeness_is around b c s one.condition new straight f ∙ ap (same straight) e ∙ same_Some (same straight one.met) met k

decided_is : (page : Bool) (around : Option Kind) → IsPage page around → (b : Building) (c : WholeBuilding) → Stands around b c → (now : Option Case) → CaseHolds now c.token b →
    (new : N.Condition) (met : Bool) → decided page (own_name c.token) now new ≡ Some met → holds new c ≡ met
decided_is page around is b c s now e N.TemplateOpen met h =
    ap (list_any (is_one c.tree (codes "template" ∷ []))) s.parts.stack ∙ none_open c.tree b.document (codes "template" ∷ []) refl b.stack [] s.parts.fits.0 s.parts.fits.2
    ∙ same_Some false met h
decided_is page around is b c s now e N.TemplateModeSet met h = ap (λ l. not (is_empty l)) s.templates ∙ same_Some false met h
decided_is page around is b c s now e N.Quirks met h = ap is_quirks s.quirks ∙ same_Some false met h
decided_is page around is b c s now e N.Fragment met h =
    let k = taken_some page false met h in
    ap (λ x. option_map_or (λ kind. true) x false) (s.parts.around ∙ is k.0) ∙ k.1
decided_is page around is b c s now e (N.Context names) met h =
    let k = taken_some (none_among (new_list (own_name c.token) names) flow_contexts) false met h in
    ap (λ x. option_map_or (is_named (names_for names c.token)) x false) s.parts.around ∙ by_context b.context around s.context k.0 ∙ k.1
  where
    by_context : (x : Option (List ℕ)) (y : Option Kind) → ContextIs x y → none_among (new_list (own_name c.token) names) flow_contexts ≡ true →
        option_map_or (is_named (names_for names c.token)) y false ≡ false
    by_context None None f k = refl
    by_context (Some name) (Some kind) f k =
        ap (is_named (names_for names c.token)) f.1 ∙ ap (is_among name) (new_names c.token names) ∙ none_is (new_list (own_name c.token) names) flow_contexts k name f.2
    by_context None (Some kind) f k = absurd f
    by_context (Some name) None f k = absurd f
decided_is page around is b c s now e (N.InScope kind names) met h = by_names (none_among (new_list (own_name c.token) names) known) refl h
  where
    by_names : (x : Bool) → none_among (new_list (own_name c.token) names) known ≡ x → cond x (Some false) (by_case (own_name c.token) now (N.InScope kind names)) ≡ Some met →
        has_in_scope kind (names_for names c.token) c.tree ≡ met
    by_names true f k =
        ap (λ l. in_scope (is_one c.tree l) (ends_scope kind c.tree) c.tree.stack) (new_names c.token names)
        ∙ ap (in_scope (is_one c.tree (new_list (own_name c.token) names)) (ends_scope kind c.tree)) s.parts.stack
        ∙ none_scope c.tree b.document (new_list (own_name c.token) names) (ends_scope kind c.tree) f b.stack [] s.parts.fits.0 s.parts.fits.2 ∙ same_Some false met k
    by_names false f k = by_case_is around b c s now (N.InScope kind names) met k e
decided_is page around is b c s now e other met h = by_case_is around b c s now other met h e

-- ---- tests

abbrev pub VerdictIs : Verdict → Bool → Type 0
VerdictIs Ever x = x ≡ true
VerdictIs Never x = x ≡ false
VerdictIs Unsure x = Unit {0}

tested_is : (page : Bool) (around : Option Kind) → IsPage page around → (b : Building) (c : WholeBuilding) → Stands around b c → (now : Option Case) → CaseHolds now c.token b →
    (test : N.Test) (met : Bool) → tested page (own_name c.token) now test ≡ Some met → is_met c test ≡ met
tested_is page around is b c s now e (N.is new) met h = decided_is page around is b c s now e new met h
tested_is page around is b c s now e (N.isnt new) met h = by_decided (decided page (own_name c.token) now new) refl h
  where
    by_decided : (x : Option Bool) → decided page (own_name c.token) now new ≡ x → elim x [ None ↦ None | Some m ↦ Some (not m) ] ≡ Some met → not (holds new c) ≡ met
    by_decided None f k = cc
    by_decided (Some m) f k = ap not (decided_is page around is b c s now e new m f) ∙ same_Some (not m) met k

pub verdict_is : (page : Bool) (around : Option Kind) → IsPage page around → (b : Building) (c : WholeBuilding) → Stands around b c → (now : Option Case) → CaseHolds now c.token b →
    (tests : List N.Test) → VerdictIs (verdict page (own_name c.token) now tests) (list_all (is_met c) tests)
verdict_is page around is b c s now e [] = refl
verdict_is page around is b c s now e (test ∷ tests) =
    by_test (tested page (own_name c.token) now test) refl (verdict page (own_name c.token) now tests) (verdict_is page around is b c s now e tests)
  where
    no : (x y : Bool) → y ≡ false → x && y ≡ false
    no true y h = h
    no false y h = refl

    by_test : (x : Option Bool) → tested page (own_name c.token) now test ≡ x → (v : Verdict) → VerdictIs v (list_all (is_met c) tests) →
        VerdictIs (elim x [ None ↦ unsure_or v | Some met ↦ elim met [ true ↦ v | false ↦ Never ] ]) (is_met c test && list_all (is_met c) tests)
    by_test None f Ever later = tt
    by_test None f Never later = no (is_met c test) (list_all (is_met c) tests) later
    by_test None f Unsure later = tt
    by_test (Some true) f Ever later = ap (λ x. x && list_all (is_met c) tests) (tested_is page around is b c s now e test true f) ∙ later
    by_test (Some true) f Never later = no (is_met c test) (list_all (is_met c) tests) later
    by_test (Some true) f Unsure later = tt
    by_test (Some false) f v later = ap (λ x. x && list_all (is_met c) tests) (tested_is page around is b c s now e test false f)

-- ---- tokens

zero_space : (c : ℕ) → (c == 0) ≡ true → is_space c ≡ false
zero_space c h = ap is_space (eqb-true c 0 h)

space_like : (c : ℕ) → is_space c ≡ is_space (char_like c)
space_like c = by_cases (c == 0) refl (is_space c) refl
  where
    by_cases : (x : Bool) → (c == 0) ≡ x → (y : Bool) → is_space c ≡ y → y ≡ is_space (elim x [ true ↦ 0 | false ↦ elim y [ true ↦ 32 | false ↦ 97 ] ])
    by_cases true e y f = sym f ∙ zero_space c e
    by_cases false e true f = refl
    by_cases false e false f = refl

zero_like : (c : ℕ) → (c == 0) ≡ (char_like c == 0)
zero_like c = by_cases (c == 0) (is_space c)
  where
    by_cases : (x y : Bool) → x ≡ (elim x [ true ↦ 0 | false ↦ elim y [ true ↦ 32 | false ↦ 97 ] ] == 0)
    by_cases true y = refl
    by_cases false true = refl
    by_cases false false = refl

start_like : (pattern : N.Pattern) (name : List ℕ) (attrs : List Attr) (closing : Bool) → fits pattern (AStart name attrs closing) ≡ fits pattern (AStart name [] false)
start_like N.AnyStartTag name attrs closing = refl
start_like _ name attrs closing = refl

comment_like : (pattern : N.Pattern) (text : List ℕ) → fits pattern (AComment text) ≡ fits pattern (AComment [])
comment_like N.Comment text = refl
comment_like _ text = refl

doctype_like : (pattern : N.Pattern) (one other : Doctype) → fits pattern (ADoctype one) ≡ fits pattern (ADoctype other)
doctype_like N.Doctype one other = refl
doctype_like _ one other = refl

char_fits : (pattern : N.Pattern) (c : ℕ) → fits pattern (AChar c) ≡ fits pattern (AChar (char_like c))
char_fits N.WhiteSpace c = space_like c
char_fits N.Null c = zero_like c
char_fits _ c = refl

fits_like : (pattern : N.Pattern) (t : Token) → fits pattern t ≡ fits pattern (like t)
fits_like pattern (AChar c) = char_fits pattern c
fits_like pattern (AStart name attrs closing) = start_like pattern name attrs closing
fits_like pattern (AnEnd name) = refl
fits_like pattern (AComment text) = comment_like pattern text
fits_like pattern (ADoctype doctype) = doctype_like pattern doctype no_doctype
fits_like pattern AnEof = refl

old_start_like : (pattern : O.Pattern) (name : List ℕ) (attrs : List Attr) (closing : Bool) → old_fits pattern (AStart name attrs closing) ≡ old_fits pattern (AStart name [] false)
old_start_like O.AnyStart name attrs closing = refl
old_start_like _ name attrs closing = refl

old_comment_like : (pattern : O.Pattern) (text : List ℕ) → old_fits pattern (AComment text) ≡ old_fits pattern (AComment [])
old_comment_like O.Comment text = refl
old_comment_like _ text = refl

old_char_fits : (pattern : O.Pattern) (c : ℕ) → old_fits pattern (AChar c) ≡ old_fits pattern (AChar (char_like c))
old_char_fits O.WhiteSpace c = space_like c
old_char_fits O.Null c = zero_like c
old_char_fits _ c = refl

pub old_fits_like : (pattern : O.Pattern) (t : Token) → is_doctype t ≡ false → old_fits pattern t ≡ old_fits pattern (like t)
old_fits_like pattern (AChar c) plain = old_char_fits pattern c
old_fits_like pattern (AStart name attrs closing) plain = old_start_like pattern name attrs closing
old_fits_like pattern (AnEnd name) plain = refl
old_fits_like pattern (AComment text) plain = old_comment_like pattern text
old_fits_like pattern (ADoctype doctype) plain = cc
old_fits_like pattern AnEof plain = refl

own_like : (t : Token) → own_name (like t) ≡ own_name t
own_like (AStart name attrs closing) = refl
own_like (AnEnd name) = refl
own_like (AChar c) = refl
own_like (AComment text) = refl
own_like (ADoctype doctype) = refl
own_like AnEof = refl

any_like : (t : Token) (patterns : List N.Pattern) → list_any (λ pattern. fits pattern t) patterns ≡ list_any (λ pattern. fits pattern (like t)) patterns
any_like t [] = refl
any_like t (pattern ∷ more) = ap (λ x. x || list_any (λ p. fits p t) more) (fits_like pattern t) ∙ ap (λ x. fits pattern (like t) || x) (any_like t more)

-- ---- rules

resolved_is : (page : Bool) (around : Option Kind) → IsPage page around → (b : Building) (c : WholeBuilding) → Stands around b c → (now : Option Case) → CaseHolds now c.token b →
    (news : List N.Rule) (acts : List N.Act) → resolved page (like c.token) now news ≡ Some acts → taken c news ≡ acts
unfolding taken
resolved_is page around is b c s now e [] acts h = cc
resolved_is page around is b c s now e (N.rule patterns tests own ∷ more) acts h =
    ap (λ x. elim x [ true ↦ elim (list_all (is_met c) tests) [ true ↦ own | false ↦ taken c more ] | false ↦ taken c more ]) (any_like c.token patterns)
    ∙ by_fits (list_any (λ pattern. fits pattern (like c.token)) patterns) h (resolved_is page around is b c s now e more acts)
  where
    by_verdict : (v : Verdict) → VerdictIs v (list_all (is_met c) tests) → elim v [ Ever ↦ Some own | Never ↦ resolved page (like c.token) now more | Unsure ↦ None ] ≡ Some acts →
        (resolved page (like c.token) now more ≡ Some acts → taken c more ≡ acts) → elim (list_all (is_met c) tests) [ true ↦ own | false ↦ taken c more ] ≡ acts
    by_verdict Ever f k later = ap (λ x. elim x [ true ↦ own | false ↦ taken c more ]) f ∙ same_Some own acts k
    by_verdict Never f k later = ap (λ x. elim x [ true ↦ own | false ↦ taken c more ]) f ∙ later k
    by_verdict Unsure f k later = cc

    by_fits : (x : Bool) → elim x [
      | false ↦ resolved page (like c.token) now more
      | true ↦ elim (verdict page (own_name (like c.token)) now tests) [ Ever ↦ Some own | Never ↦ resolved page (like c.token) now more | Unsure ↦ None ]
    ] ≡ Some acts → (resolved page (like c.token) now more ≡ Some acts → taken c more ≡ acts) →
        elim x [ true ↦ elim (list_all (is_met c) tests) [ true ↦ own | false ↦ taken c more ] | false ↦ taken c more ] ≡ acts
    by_fits false k later = later k
    by_fits true k later =
        by_verdict (verdict page (own_name (like c.token)) now tests)
        (subst (λ name. VerdictIs (verdict page name now tests) (list_all (is_met c) tests)) (sym (own_like c.token)) (verdict_is page around is b c s now e tests)) k later

-- what both definitions take
pub data Agreed (page : Bool) (b : Building) (c : WholeBuilding) (one : Taken) (news : List N.Rule) : Type 0 where
  outside : one.goes ≡ O.NoRule → Agreed page b c one news
  alike_acts : (now : Option Case) → CaseHolds now c.token b → follows page (own_name c.token) (ignored_in (like c.token)) one.goes None None now one.acts (taken c news) ≡ true →
      Agreed page b c one news

is_no_rule : (next : O.Next) → is_outside next ≡ true → next ≡ O.NoRule
is_no_rule O.NoRule h = refl
is_no_rule _ h = cc

on_rule : (page : Bool) (around : Option Kind) → IsPage page around → (b : Building) (c : WholeBuilding) → Stands around b c → (now : Option Case) → CaseHolds now c.token b →
    (news : List N.Rule) (acts : List O.Action) (next : O.Next) → agrees_on page (like c.token) now news acts next ≡ true → Agreed page b c (record { acts = acts; goes = next }) news
on_rule page around is b c s now e news acts next h = by_outside (is_outside next) refl h
  where
    by_resolved : (x : Option (List N.Act)) → resolved page (like c.token) now news ≡ x →
        elim x [ None ↦ false | Some more ↦ follows page (own_name (like c.token)) (ignored_in (like c.token)) next None None now acts more ] ≡ true →
        Agreed page b c (record { acts = acts; goes = next }) news
    by_resolved None f k = cc
    by_resolved (Some more) f k =
        alike_acts now e (ap (λ name. follows page name (ignored_in (like c.token)) next None None now acts (taken c news)) (sym (own_like c.token))
        ∙ ap (follows page (own_name (like c.token)) (ignored_in (like c.token)) next None None now acts) (resolved_is page around is b c s now e news more f) ∙ k)

    by_outside : (x : Bool) → is_outside next ≡ x → elim x [
      | true ↦ true
      | false ↦ elim (resolved page (like c.token) now news) [ None ↦ false | Some more ↦ follows page (own_name (like c.token)) (ignored_in (like c.token)) next None None now acts more ]
    ] ≡ true → Agreed page b c (record { acts = acts; goes = next }) news
    by_outside true f k = outside (is_no_rule next f)
    by_outside false f k = by_resolved (resolved page (like c.token) now news) refl k

always_is : (condition : O.Condition) → is_always condition ≡ true → condition ≡ O.Always
always_is O.Always h = refl
always_is _ h = cc

no_case : (now : Option Case) → is_none now ≡ true → now ≡ None
no_case None h = refl
no_case (Some one) h = cc

pub agreed : (page : Bool) (around : Option Kind) → IsPage page around → (b : Building) (c : WholeBuilding) → Stands around b c → is_doctype c.token ≡ false → (now : Option Case) →
    CaseHolds now c.token b → (news : List N.Rule) (olds : List O.Rule) → agrees page (like c.token) now news olds ≡ true → Agreed page b c (old_taken c.token b olds) news
unfolding old_taken
agreed page around is b c s plain now e news [] h = outside refl
agreed page around is b c s plain now e news (O.rule pattern condition acts next ∷ more) h =
    subst (λ x. Agreed page b c (elim x [
      | true ↦ elim (old_holds condition c.token b) [ true ↦ record { acts = acts; goes = next } | false ↦ old_taken c.token b more ]
      | false ↦ old_taken c.token b more
    ]) news) (sym (old_fits_like pattern c.token plain))
    (by_fits (old_fits pattern (like c.token)) h (agreed page around is b c s plain now e news more)
    (λ one f k. agreed page around is b c s plain (Some one) f news more k))
  where
    here : Taken
    here = record { acts = acts; goes = next }

    by_holds : (x : Bool) → old_holds condition c.token b ≡ x → agrees_on page (like c.token) (Some (case condition true)) news acts next ≡ true →
        agrees page (like c.token) (Some (case condition false)) news more ≡ true →
        ((one : Case) → CaseHolds (Some one) c.token b → agrees page (like c.token) (Some one) news more ≡ true → Agreed page b c (old_taken c.token b more) news) →
        Agreed page b c (elim x [ true ↦ here | false ↦ old_taken c.token b more ]) news
    by_holds true f j k later = on_rule page around is b c s (Some (case condition true)) f news acts next j
    by_holds false f j k later = later (case condition false) f k

    by_always : (x : Bool) → is_always condition ≡ x → elim x [
      | true ↦ agrees_on page (like c.token) now news acts next
      | false ↦ is_none now && (agrees_on page (like c.token) (Some (case condition true)) news acts next && agrees page (like c.token) (Some (case condition false)) news more)
    ] ≡ true →
        ((one : Case) → CaseHolds (Some one) c.token b → agrees page (like c.token) (Some one) news more ≡ true → Agreed page b c (old_taken c.token b more) news) →
        Agreed page b c (elim (old_holds condition c.token b) [ true ↦ here | false ↦ old_taken c.token b more ]) news
    by_always true f k later =
        subst (λ y. Agreed page b c (elim y [ true ↦ here | false ↦ old_taken c.token b more ]) news) (sym (ap (λ o. old_holds o c.token b) (always_is condition f)))
        (on_rule page around is b c s now e news acts next k)
    by_always false f k later =
        let parts = both (is_none now) (agrees_on page (like c.token) (Some (case condition true)) news acts next && agrees page (like c.token) (Some (case condition false)) news more) k in
        let others =
        both (agrees_on page (like c.token) (Some (case condition true)) news acts next) (agrees page (like c.token) (Some (case condition false)) news more) parts.1 in
        by_holds (old_holds condition c.token b) refl others.0 others.1 later

    by_fits : (x : Bool) → elim x [
      | false ↦ agrees page (like c.token) now news more
      | true ↦ elim (is_always condition) [
        | true ↦ agrees_on page (like c.token) now news acts next
        | false ↦ is_none now && (agrees_on page (like c.token) (Some (case condition true)) news acts next && agrees page (like c.token) (Some (case condition false)) news more)
      ]
    ] ≡ true → (agrees page (like c.token) now news more ≡ true → Agreed page b c (old_taken c.token b more) news) →
        ((one : Case) → CaseHolds (Some one) c.token b → agrees page (like c.token) (Some one) news more ≡ true → Agreed page b c (old_taken c.token b more) news) →
        Agreed page b c (elim x [
          | true ↦ elim (old_holds condition c.token b) [ true ↦ here | false ↦ old_taken c.token b more ]
          | false ↦ old_taken c.token b more
        ]) news
    by_fits false k here_same later = here_same k
    by_fits true k here_same later = by_always (is_always condition) refl k later
