-- Which rule is taken, and what is known when its acts begin.
use Rattle.std.specs.Prelude.{◌≡◌, ◌||◌, refl, ℕ, Bool, true, false, not, ◌&&◌, List, [], ◌∷◌, ◌++◌, bytes_eq, codes}
use Rattle.std.proofs.Common.{inl, inr}
use Rattle.std.specs.List.{list_all, list_any}
use mathlib.Core.Path.{◌∙◌, sym, ap, subst}
use Rattle.standard_tokens.specs.Tokens.{AChar, AComment, ADoctype, AStart, AnEnd, AnEof, Token}
use Rattle.standard_trees.specs.RuleWords.{Act, AnyEndTag, AnyStartTag, Anything, Character, Comment, CurrentNode}
use Rattle.standard_trees.specs.RuleWords.{CurrentNodeIsTopmost, Doctype, EndOfFile, EndTagOf, InHead, InScope, Mode, Names, Null}
use Rattle.standard_trees.specs.RuleWords.{OwnBeforeHtml, Pattern, Rule}
use Rattle.standard_trees.specs.RuleWords.{StartTagBut, StartTagOf, TemplateOpen, Test, These, WhiteSpace, is, isnt, rule}
use Rattle.standard_trees.specs.RuleWords.{Dispatcher, Initial, BeforeHtml, BeforeHead, InHeadNoscript, AfterHead, InBody, Text, InTable}
use Rattle.standard_trees.specs.RuleWords.{InTableText, InCaption, InColumnGroup, InTableBody, InRow, InCell, InTemplate, AfterBody}
use Rattle.standard_trees.specs.RuleWords.{InFrameset, AfterFrameset, AfterAfterBody, AfterAfterFrameset, ForeignContent}
use Rattle.standard_trees.specs.GrowingTree.{GrowingTree, current, is_among, is_one, is_single, key}
use Rattle.standard_trees.specs.Building.{Building, fits, is_met, taken}
use Rattle.standard_order.proofs.Labels.{Is as IsAt, kind_at, labels, named}
use Rattle.standard_order.proofs.StandingStacks.{Closed, Framed, IsHead, Sort, Stands, both, fixed, html, never, opposite}
use Rattle.standard_order.proofs.StandingStacks.{allowed}
use Rattle.standard_order.proofs.GoodTrees.{Good, among_more, apart}
use Rattle.standard_order.proofs.Levels.{skips, is_in_head, is_frames, fact_of, Above, Any, End, Exact, Fixed, Foreign, Frames}
use Rattle.standard_order.proofs.Levels.{Info, Late, Level, Never, NoPrior, Of, OfHeld, OfPlain, Opened, Prior, PriorTo}
use Rattle.standard_order.proofs.Levels.{Rel, Scoped, Start, Std, Where, end_names, has_all}
use Rattle.standard_order.proofs.Levels.{has_sort, info_of, is_framed, is_in, negated, own, prior_facts, prior_of}
use Rattle.standard_order.proofs.Levels.{rule_pass, rules_pass, ruled_out, same_pattern, start_names, with_fact, with_facts}
use Rattle.standard_order.proofs.LevelFacts.{At, LateAt, Stk, TreeIs}
use Rattle.standard_order.proofs.LevelTrees.{holds_of}
use Rattle.standard_order.proofs.LevelSteps.{current_named, no_keep}
use Rattle.standard_order.proofs.LevelNext.{own_good}
use Rattle.standard_trees.specs.RuleWords.{ScopeKind}
use Rattle.standard_order.proofs.StandingStacks.{named_apart, fewer, framing}
use Rattle.standard_order.proofs.Labels.{label_of}
use Rattle.standard_trees.specs.GrowingTree.{kind_of}
use Rattle.standard_order.proofs.Levels.{Plain, Fine, Bare, RootMade, Before, HeadMade, TextMode, TableText, Behind, OpenedFree}
use Rattle.standard_trees.specs.Building.{holds}
use Rattle.standard_tokens.specs.Tokens.{Attr}

-- ---- the facts at the beginning

pub unkept : (place : Where) (rel : Rel) (kept : Bool) (b : Building) → LateAt place rel kept b → LateAt place rel false b
unkept place rel kept b at = (at.0, at.1, at.2, no_keep b)

scope_fact : (place : Where) (kept : Bool) (kind : ScopeKind) (names : Names) (b : Building) → is_met b (is (InScope kind names)) ≡ true →
    LateAt place Of kept b → (x : Bool) → is_in place ≡ x →
    At (elim x [ true ↦ Scoped place kind names | false ↦ Late place Of kept ]) b
scope_fact place kept kind names b met at true e = (e, unkept place Of kept b at, met)
scope_fact place kept kind names b met at false e = at

open_fact : (place : Where) (kept : Bool) (b : Building) → is_met b (is TemplateOpen) ≡ true → LateAt place Of kept b → (x : Bool) →
    is_in place ≡ x → At (elim x [ true ↦ Opened place | false ↦ Late place Of kept ]) b
open_fact place kept b met at true e = (e, unkept place Of kept b at, met)
open_fact place kept b met at false e = at

none_open : (t : GrowingTree) (s : List ℕ) → IsHead (labels t.nodes) s → list_any (is_one t (codes "template" ∷ [])) s ≡ true → ⊥
none_open t [] h e = h
none_open t (n ∷ []) h e = h.1
none_open t (n ∷ m ∷ k ∷ ns) h e = h.1
none_open t (n ∷ r ∷ []) h e = by (is_one t (codes "template" ∷ []) n) (is_one t (codes "template" ∷ []) r) refl refl e
  where
    clash : (one : List ℕ) (i : ℕ) → apart (one ∷ []) (codes "template" ∷ []) ≡ true → IsAt (named (one ∷ [])) (labels t.nodes) i →
        is_one t (codes "template" ∷ []) i ≡ true → ⊥
    clash one i off at f = opposite (is_one t (codes "template" ∷ []) i) (named_apart (one ∷ []) (codes "template" ∷ []) off
        (label_of (kind_of t i)) (kind_at (named (one ∷ [])) t.nodes i at)) f

    by : (x y : Bool) → is_one t (codes "template" ∷ []) n ≡ x → is_one t (codes "template" ∷ []) r ≡ y → x || (y || false) ≡ true → ⊥
    by true y f g k = clash (codes "head") n refl h.0 f
    by false true f g k = clash (codes "html") r refl h.1 g
    by false false f g k = cc

current_fact : (place : Where) (kept : Bool) (names : List (List ℕ)) (b : Building) → is_one b.tree names (current b.tree) ≡ true →
    LateAt place Of kept b → (x : Bool) → has_sort place && apart names fixed ≡ x →
    At (elim x [ true ↦ Late place OfPlain kept | false ↦ Late place Of kept ]) b
current_fact place kept names b met at true e =
    let good : (k : Sort) × (c : Bool) × (own b.mode ≡ Std k c) × Good k c b.tree = own_good place b kept Of refl
    (both (has_sort place) (apart names fixed) e).0 at in (
      at.0,
      at.1,
      subst (λ x. TreeIs (Plain x) b.tree) (sym good.2) (current_named good.0 good.1 b.tree names
          (both (has_sort place) (apart names fixed) e).1 met good.3),
      at.3,
    )
current_fact place kept names b met at false e = at

own_fact : (place : Where) (kept : Bool) (b : Building) → is_met b (is OwnBeforeHtml) ≡ true → LateAt place Of kept b → (x : Bool) →
    has_sort place ≡ x → At (elim x [ true ↦ Foreign place | false ↦ Late place Of kept ]) b
own_fact place kept b met at true e = (e, unkept place Of kept b at, met)
own_fact place kept b met at false e = at

pub framed_own : (mode : Mode) → is_framed mode ≡ true → own mode ≡ Std Framed false
framed_own Dispatcher h = never h
framed_own Initial h = never h
framed_own BeforeHtml h = never h
framed_own BeforeHead h = never h
framed_own InHead h = never h
framed_own InHeadNoscript h = never h
framed_own AfterHead h = never h
framed_own InBody h = never h
framed_own Text h = never h
framed_own InTable h = never h
framed_own InTableText h = never h
framed_own InCaption h = never h
framed_own InColumnGroup h = never h
framed_own InTableBody h = never h
framed_own InRow h = never h
framed_own InCell h = never h
framed_own InTemplate h = never h
framed_own AfterBody h = never h
framed_own InFrameset h = refl
framed_own AfterFrameset h = refl
framed_own AfterAfterBody h = never h
framed_own AfterAfterFrameset h = refl
framed_own ForeignContent h = never h

not_single : (kept : Bool) (b : Building) → not (is_single b.tree.stack) ≡ true → LateAt Frames Of kept b →
    LateAt Frames (Fixed (Above (Std Framed false))) kept b
not_single kept b met at = (
  at.0,
  at.1,
  (
    by b.tree.stack met (subst (λ x. Stk x (labels b.tree.nodes) b.tree.stack) (framed_own b.mode at.0)
        at.2.0),
    at.2.1,
  ),
  at.3,
)
  where
    by : (s : List ℕ) → not (is_single s) ≡ true → Stk (Std Framed false) (labels b.tree.nodes) s → Stk (Above (Std Framed false))
        (labels b.tree.nodes) s
    by [] m st = absurd st.0
    by (n ∷ []) m st = cc
    by (n ∷ k ∷ ns) m st = below st.0
      where
        no_more : k ∷ ns ≡ [] → ⊥
        no_more e = cc

        below : Stands Framed (labels b.tree.nodes) (n ∷ k ∷ ns) → Stk (Std Framed false) (labels b.tree.nodes) (k ∷ ns)
        below (inl a) = absurd (no_more a.1)
        below (inr (inl a)) = never a.0
        below (inr (inr a)) = (a.1, λ c. never c)

none_closed : (t : GrowingTree) (s : List ℕ) → Stands Closed (labels t.nodes) s → list_any (is_one t (codes "template" ∷ [])) s ≡ true → ⊥
none_closed t [] st e = st
none_closed t (n ∷ ns) (inl root) e = by ns root.1 e
  where
    by : (q : List ℕ) → q ≡ [] → is_one t (codes "template" ∷ []) n || list_any (is_one t (codes "template" ∷ [])) q ≡ true → ⊥
    by [] k h = first (is_one t (codes "template" ∷ []) n) refl h
      where
        first : (x : Bool) → is_one t (codes "template" ∷ []) n ≡ x → x || false ≡ true → ⊥
        first true f h = opposite (is_one t (codes "template" ∷ []) n) (named_apart (codes "html" ∷ []) (codes "template" ∷ []) refl
            (label_of (kind_of t n)) (kind_at html t.nodes n root.0)) f
        first false f h = cc
    by (m ∷ ms) k h = cc
none_closed t (n ∷ ns) (inr (inl a)) e = never a.0
none_closed t (n ∷ ns) (inr (inr a)) e = by (is_one t (codes "template" ∷ []) n) refl e (λ h. none_closed t ns a.1 h)
  where
    by : (x : Bool) → is_one t (codes "template" ∷ []) n ≡ x → x || list_any (is_one t (codes "template" ∷ [])) ns ≡ true →
        (list_any (is_one t (codes "template" ∷ [])) ns ≡ true → ⊥) → ⊥
    by true f h go = opposite (is_one t (codes "template" ∷ []) n) (fewer (key t n) (codes "template" ∷ []) framing refl
        (kind_at (allowed Closed) t.nodes n a.0)) f
    by false f h go = go h

head_fact : (place : Where) (kept : Bool) (b : Building) → is_met b (is TemplateOpen) ≡ true → LateAt place Of kept b → (x y : Bool) →
    is_in_head place ≡ x → is_in place ≡ y →
    At (elim x [ true ↦ Never | false ↦ elim y [ true ↦ Opened place | false ↦ Late place Of kept ] ]) b
head_fact (Exact InHead) kept b met at true y e f = none_open b.tree b.tree.stack
    (subst (λ m. Stk (own m) (labels b.tree.nodes) b.tree.stack) at.0 at.2.0) met
head_fact (Exact AfterHead) kept b met at true y e f = none_closed b.tree b.tree.stack
    (subst (λ m. Stk (own m) (labels b.tree.nodes) b.tree.stack) at.0 at.2.0).0 met
head_fact place kept b met at false y e f = open_fact place kept b met at y f
head_fact _ kept b met at true y e f = never e

frames_fact : (place : Where) (kept : Bool) (b : Building) → not (is_single b.tree.stack) ≡ true → LateAt place Of kept b → (x : Bool) →
    is_frames place ≡ x →
    At (elim x [ true ↦ Late place (Fixed (Above (Std Framed false))) kept | false ↦ Late place Of kept ]) b
frames_fact Frames kept b met at true e = not_single kept b met at
frames_fact place kept b met at false e = at
frames_fact _ kept b met at true e = never e

fact_late : (place : Where) (kept : Bool) (test : Test) (b : Building) → is_met b test ≡ true → LateAt place Of kept b →
    At (fact_of place kept test) b
fact_late place kept (is (InScope kind names)) b met at = scope_fact place kept kind names b met at (is_in place) refl
fact_late place kept (is (CurrentNode (These names))) b met at = current_fact place kept names b met at
    (has_sort place && apart names fixed) refl
fact_late place kept (is OwnBeforeHtml) b met at = own_fact place kept b met at (has_sort place) refl
fact_late place kept (is TemplateOpen) b met at = head_fact place kept b met at (is_in_head place) (is_in place) refl refl
fact_late place kept (isnt CurrentNodeIsTopmost) b met at = frames_fact place kept b met at (is_frames place) refl
fact_late place kept _ b met at = at

pub fact_at : (test : Test) (level : Level) (b : Building) → is_met b test ≡ true → At level b → At (with_fact test level) b
fact_at test (Late place Of kept) b met at = fact_late place kept test b met at
fact_at test (Late place OfHeld kept) b met at = at
fact_at test (Late place OfPlain kept) b met at = at
fact_at test (Late place (Fixed shape) kept) b met at = at
fact_at test Fine b met at = at
fact_at test Bare b met at = at
fact_at test RootMade b met at = at
fact_at test Before b met at = at
fact_at test HeadMade b met at = at
fact_at test TextMode b met at = at
fact_at test TableText b met at = at
fact_at test Behind b met at = at
fact_at test Never b met at = at
fact_at test (Scoped place kind names) b met at = at
fact_at test (Opened place) b met at = at
fact_at test (OpenedFree place) b met at = at
fact_at test (Foreign place) b met at = at

pub facts_at : (tests : List Test) (level : Level) (b : Building) → list_all (is_met b) tests ≡ true → At level b →
    At (with_facts tests level) b
facts_at [] level b met at = at
facts_at (test ∷ tests) level b met at =
    facts_at tests (with_fact test level) b (both (is_met b test) (list_all (is_met b) tests) met).1
    (fact_at test level b (both (is_met b test) (list_all (is_met b) tests) met).0 at)

-- ---- the rule that is taken

fits_same : (one other : Pattern) (t : Token) → same_pattern one other ≡ true → fits one t ≡ true → fits other t ≡ true
fits_same (EndTagOf some) (EndTagOf others) (AnEnd name) s f = among_more name some others s f
fits_same (StartTagOf some) (StartTagOf others) (AStart name attrs closing) s f = among_more name some others s f
fits_same EndOfFile EndOfFile t s f = f
fits_same AnyEndTag AnyEndTag t s f = f
fits_same Anything Anything t s f = f
fits_same _ _ _ s f = cc

-- names that the token of a rule that comes later can't have
abbrev pub rules_out : List (List ℕ) → List (List ℕ) → Token → Type 0
rules_out starts ends_ (AStart name attrs closing) = is_among name starts ≡ false
rules_out starts ends_ (AnEnd name) = is_among name ends_ ≡ false
rules_out starts ends_ _ = Unit {0}

not_in : (x : Bool) → x ≡ false → not x ≡ true
not_in true h = cc
not_in false h = refl

pub info_holds : (starts ends_ : List (List ℕ)) (pattern : Pattern) (t : Token) → rules_out starts ends_ t → fits pattern t ≡ true →
    holds_of (info_of starts ends_ pattern) t ≡ true
info_holds starts ends_ WhiteSpace (AChar c) out f = f
info_holds starts ends_ Null (AChar c) out f = refl
info_holds starts ends_ Character (AChar c) out f = refl
info_holds starts ends_ Comment (AComment text) out f = refl
info_holds starts ends_ Doctype (ADoctype d) out f = refl
info_holds starts ends_ EndOfFile AnEof out f = refl
info_holds starts ends_ AnyStartTag (AStart name attrs closing) out f = not_in (is_among name starts) out
info_holds starts ends_ (StartTagOf names) (AStart name attrs closing) out f = f
info_holds starts ends_ (StartTagBut names) (AStart name attrs closing) out f = refl
info_holds starts ends_ AnyEndTag (AnEnd name) out f = not_in (is_among name ends_) out
info_holds starts ends_ (EndTagOf names) (AnEnd name) out f = f
info_holds starts ends_ Anything (AStart name attrs closing) out f = not_in (is_among name starts) out
info_holds starts ends_ Anything (AnEnd name) out f = not_in (is_among name ends_) out
info_holds starts ends_ Anything (AChar c) out f = refl
info_holds starts ends_ Anything (AComment text) out f = refl
info_holds starts ends_ Anything (ADoctype d) out f = refl
info_holds starts ends_ Anything AnEof out f = refl
info_holds starts ends_ _ _ out f = cc

-- the rule before was not taken
abbrev pub PriorSo : Prior → Building → Type 0
PriorSo NoPrior b = Unit {0}
PriorSo (PriorTo patterns test) b = list_any (λ pattern. fits pattern b.token) patterns ≡ true → is_met b test ≡ false

negated_met : (b : Building) (test : Test) → is_met b test ≡ false → is_met b (negated test) ≡ true
negated_met b (is c) h = not_in (holds c b) h
negated_met b (isnt c) h = back (holds c b) h
  where
    back : (x : Bool) → not x ≡ false → x ≡ true
    back true k = refl
    back false k = cc

pub prior_met : (prior : Prior) (pattern : Pattern) (b : Building) → PriorSo prior b → fits pattern b.token ≡ true →
    list_all (is_met b) (prior_facts prior pattern) ≡ true
prior_met NoPrior pattern b so f = refl
prior_met (PriorTo patterns test) pattern b so f = by (list_any (same_pattern pattern) patterns) refl
  where
    fitted : (qs : List Pattern) → list_any (same_pattern pattern) qs ≡ true → list_any (λ p. fits p b.token) qs ≡ true
    fitted [] h = h
    fitted (q ∷ qs) h = first (same_pattern pattern q) (fits q b.token) refl refl h (λ more. fitted qs more)
      where
        first : (x y : Bool) → same_pattern pattern q ≡ x → fits q b.token ≡ y → x || list_any (same_pattern pattern) qs ≡ true →
            (list_any (same_pattern pattern) qs ≡ true → list_any (λ p. fits p b.token) qs ≡ true) →
            y || list_any (λ p. fits p b.token) qs ≡ true
        first x true e g k go = refl
        first true false e g k go = never (sym g ∙ fits_same pattern q b.token e f)
        first false false e g k go = go k

    by : (x : Bool) → list_any (same_pattern pattern) patterns ≡ x →
        list_all (is_met b) (elim x as (λ _. List Test) [ true ↦ negated test ∷ [] | false ↦ [] ]) ≡ true
    by true e = ap (λ x. x && true) (negated_met b test (so (fitted patterns e)))
    by false e = refl

-- the acts with what is known when they begin
abbrev pub Ready : List Act → Building → Type 0
Ready acts b = (level : Level) × (info : Info) × (tests : List Test) × (holds_of info b.token ≡ true) × At level b ×
    (list_all (is_met b) tests ≡ true) × (rule_pass level tests info acts ≡ true)

pub any_holds : (t : Token) → holds_of (Any [] []) t ≡ true
any_holds (AStart name attrs closing) = refl
any_holds (AnEnd name) = refl
any_holds (AChar c) = refl
any_holds (AComment text) = refl
any_holds (ADoctype d) = refl
any_holds AnEof = refl

-- a pattern that is skipped doesn't fit
pub within_not : (name : List ℕ) (some starts : List (List ℕ)) → has_all some starts ≡ true → is_among name some ≡ true →
    is_among name starts ≡ false → ⊥
within_not name some starts all h out = never (sym out ∙ among_more name some starts all h)

pub apart_not : (name : List ℕ) (some others : List (List ℕ)) → apart some others ≡ true → is_among name some ≡ true →
    is_among name others ≡ true → ⊥
apart_not name some others off h k = opposite (is_among name others) (named_apart some others off (record { name = name; html = true }) h) k

pub skipped : (asked : Info) (starts ends_ : List (List ℕ)) (pattern : Pattern) (t : Token) → rules_out starts ends_ t →
    holds_of asked t ≡ true → fits pattern t ≡ true → skips asked starts ends_ pattern ≡ true → ⊥
skipped (Start some) starts ends_ (StartTagOf names) (AStart name attrs closing) out h f s = apart_not name some names s h f
skipped (Start some) starts ends_ AnyStartTag (AStart name attrs closing) out h f s = within_not name some starts s h out
skipped (Start some) starts ends_ Anything (AStart name attrs closing) out h f s = within_not name some starts s h out
skipped (Start some) starts ends_ pattern (AStart name attrs closing) out h f s = cc
skipped (Start some) starts ends_ pattern (AnEnd name) out h f s = cc
skipped (Start some) starts ends_ pattern (AChar c) out h f s = cc
skipped (Start some) starts ends_ pattern (AComment text) out h f s = cc
skipped (Start some) starts ends_ pattern (ADoctype d) out h f s = cc
skipped (Start some) starts ends_ pattern AnEof out h f s = cc
skipped (End some) starts ends_ (EndTagOf names) (AnEnd name) out h f s = apart_not name some names s h f
skipped (End some) starts ends_ AnyEndTag (AnEnd name) out h f s = within_not name some ends_ s h out
skipped (End some) starts ends_ Anything (AnEnd name) out h f s = within_not name some ends_ s h out
skipped (End some) starts ends_ pattern (AnEnd name) out h f s = cc
skipped (End some) starts ends_ pattern (AStart name attrs closing) out h f s = cc
skipped (End some) starts ends_ pattern (AChar c) out h f s = cc
skipped (End some) starts ends_ pattern (AComment text) out h f s = cc
skipped (End some) starts ends_ pattern (ADoctype d) out h f s = cc
skipped (End some) starts ends_ pattern AnEof out h f s = cc
skipped asked starts ends_ pattern t out h f s = cc

-- one of the patterns fits
pub fitting : (f g : Pattern → Bool) (ps : List Pattern) → list_all f ps ≡ true → list_any g ps ≡ true → (p : Pattern) × (f p ≡ true) ×
    (g p ≡ true)
fitting f g [] all any = cc
fitting f g (p ∷ ps) all any = by (g p) refl any (λ k. fitting f g ps (both (f p) (list_all f ps) all).1 k)
  where
    by : (x : Bool) → g p ≡ x → x || list_any g ps ≡ true → (list_any g ps ≡ true → (q : Pattern) × (f q ≡ true) × (g q ≡ true)) →
        (q : Pattern) × (f q ≡ true) × (g q ≡ true)
    by true e k go = (p, (both (f p) (list_all f ps) all).0, e)
    by false e k go = go k

pub second : (x y : Bool) → (x ≡ true → ⊥) → x || y ≡ true → y ≡ true
second true y none h = absurd (none refl)
second false y none h = h

-- what later rules may count on
more_names : (name : List ℕ) (some names : List (List ℕ)) → is_among name some ≡ false → is_among name names ≡ false →
    is_among name (some ++ names) ≡ false
more_names name [] names h k = k
more_names name (one ∷ some) names h k = by (bytes_eq name one) h (λ q. more_names name some names q k)
  where
    by : (x : Bool) → x || is_among name some ≡ false → (is_among name some ≡ false → is_among name (some ++ names) ≡ false) →
        x || is_among name (some ++ names) ≡ false
    by true q go = cc
    by false q go = go q

either_not : (x y : Bool) → x || y ≡ false → (x ≡ false) × (y ≡ false)
either_not true y h = cc
either_not false y h = (refl, h)

starts_out : (name : List ℕ) (attrs : List Attr) (closing : Bool) (ps : List Pattern) → list_any (λ p. fits p (AStart name attrs closing))
    ps ≡ false → is_among name (start_names ps) ≡ false
starts_out name attrs closing [] h = refl
starts_out name attrs closing (StartTagOf names ∷ ps) h =
    let two : (is_among name names ≡ false) × (list_any (λ p. fits p (AStart name attrs closing)) ps ≡ false) = either_not _ _ h in
    more_names name names (start_names ps) two.0 (starts_out name attrs closing ps two.1)
starts_out name attrs closing (p ∷ ps) h = starts_out name attrs closing ps (either_not (fits p (AStart name attrs closing))
    (list_any (λ q. fits q (AStart name attrs closing)) ps) h).1

ends_out : (name : List ℕ) (ps : List Pattern) → list_any (λ p. fits p (AnEnd name)) ps ≡ false → is_among name (end_names ps) ≡ false
ends_out name [] h = refl
ends_out name (EndTagOf names ∷ ps) h =
    let two : (is_among name names ≡ false) × (list_any (λ p. fits p (AnEnd name)) ps ≡ false) = either_not _ _ h in
    more_names name names (end_names ps) two.0 (ends_out name ps two.1)
ends_out name (p ∷ ps) h = ends_out name ps (either_not (fits p (AnEnd name)) (list_any (λ q. fits q (AnEnd name)) ps) h).1

pub out_more : (starts ends_ : List (List ℕ)) (ps : List Pattern) (tests : List Test) (t : Token) → rules_out starts ends_ t →
    list_any (λ p. fits p t) ps ≡ false →
    rules_out (ruled_out tests (start_names ps) starts) (ruled_out tests (end_names ps) ends_) t
out_more starts ends_ ps [] (AStart name attrs closing) out h = more_names name (start_names ps) starts (starts_out name attrs closing ps h)
    out
out_more starts ends_ ps [] (AnEnd name) out h = more_names name (end_names ps) ends_ (ends_out name ps h) out
out_more starts ends_ ps [] (AChar c) out h = tt
out_more starts ends_ ps [] (AComment text) out h = tt
out_more starts ends_ ps [] (ADoctype d) out h = tt
out_more starts ends_ ps [] AnEof out h = tt
out_more starts ends_ ps (test ∷ tests) t out h = out

pub out_same : (starts ends_ some others : List (List ℕ)) (tests : List Test) (b : Building) → list_all (is_met b) tests ≡ false →
    rules_out starts ends_ b.token →
    rules_out (ruled_out tests some starts) (ruled_out tests others ends_) b.token
out_same starts ends_ some others [] b h out = cc
out_same starts ends_ some others (test ∷ tests) b h out = out

pub prior_unfit : (ps : List Pattern) (tests : List Test) (b : Building) → list_any (λ p. fits p b.token) ps ≡ false →
    PriorSo (prior_of ps tests) b
prior_unfit ps [] b h = tt
prior_unfit ps (test ∷ []) b h = λ k. never (sym h ∙ k)
prior_unfit ps (test ∷ other ∷ tests) b h = tt

pub prior_unmet : (ps : List Pattern) (tests : List Test) (b : Building) → list_all (is_met b) tests ≡ false → PriorSo (prior_of ps tests) b
prior_unmet ps [] b h = tt
prior_unmet ps (test ∷ []) b h = λ k. first (is_met b test) h
  where
    first : (x : Bool) → x && true ≡ false → x ≡ false
    first true q = q
    first false q = refl
prior_unmet ps (test ∷ other ∷ tests) b h = tt

no_rule : (x : Bool) → not x ≡ true → x ≡ true → ⊥
no_rule true h k = cc
no_rule false h k = cc

-- where the rules pass, what the rule that is taken says may begin
pub taken_ready : (asked : Info) (level : Level) (b : Building) (rs : List Rule) (prior : Prior) (starts ends_ : List (List ℕ)) →
    holds_of asked b.token ≡ true → At level b → PriorSo prior b → rules_out starts ends_ b.token →
    rules_pass asked level prior starts ends_ rs ≡ true → Ready (taken b rs) b
unfolding taken
taken_ready asked level b [] prior starts ends_ h at so out pass = (level, Any [] [], [], any_holds b.token, at, refl, pass)
taken_ready asked level b (rule ps tests acts ∷ more) prior starts ends_ h at so out pass =
    by (list_any (λ p. fits p b.token) ps) (list_all (is_met b) tests) refl refl (both _ _ pass).0
    (λ k p. taken_ready asked level b more (prior_of ps tests) (ruled_out tests (start_names ps) starts)
    (ruled_out tests (end_names ps) ends_) h at p k (both _ _ pass).1)
  where
    ok : Pattern → Bool
    ok p = skips asked starts ends_ p || rule_pass (with_facts (prior_facts prior p) (with_facts tests level)) tests
        (info_of starts ends_ p) acts

    found : list_all (is_met b) tests ≡ true → (p : Pattern) × (ok p ≡ true) × (fits p b.token ≡ true) → Ready acts b
    found met one = (
      with_facts (prior_facts prior one.0) (with_facts tests level),
      info_of starts ends_ one.0,
      tests,
      info_holds starts ends_ one.0 b.token out one.2,
      facts_at (prior_facts prior one.0) (with_facts tests level) b (prior_met prior one.0 b so one.2) (facts_at tests level b met at),
      met,
      second _ _ (λ s. skipped asked starts ends_ one.0 b.token out h one.2 s) one.1,
    )

    by : (x y : Bool) → list_any (λ p. fits p b.token) ps ≡ x → list_all (is_met b) tests ≡ y → list_all ok ps ≡ true →
        (rules_out (ruled_out tests (start_names ps) starts) (ruled_out tests (end_names ps) ends_) b.token →
        PriorSo (prior_of ps tests) b → Ready (taken b more) b) →
        Ready (elim x as (λ _. List Act) [ true ↦ elim y as (λ _. List Act) [ true ↦ acts | false ↦ taken b more ] | false ↦ taken b more ])
        b
    by true true e f all go = found f (fitting ok (λ p. fits p b.token) ps all e)
    by true false e f all go = go (out_same starts ends_ (start_names ps) (end_names ps) tests b f out) (prior_unmet ps tests b f)
    by false y e f all go = go (out_more starts ends_ ps tests b.token out e) (prior_unfit ps tests b e)
