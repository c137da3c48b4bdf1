-- Where rules are used for a token, and what is known there of the parts of a page.
use Rattle.std.specs.Prelude.{◌≡◌, ◌&&◌, ◌||◌, ◌⊎◌, ◌==◌, refl, ℕ, zero, suc, Bool, true, false, not, List, [], ◌∷◌, ◌++◌, bytes_eq, codes}
use Rattle.std.proofs.Common.{inl, inr}
use mathlib.Core.Path.{◌∙◌, sym, ap, subst}
use Rattle.standard_tokens.specs.Tokens.{AChar, AComment, ADoctype, AStart, AnEnd, AnEof, Token}
use Rattle.standard_trees.specs.RuleWords.{Act, AfterAfterBody, AfterAfterFrameset, AfterBody, AfterFrameset, AfterHead, BeforeHead, BeforeHtml, Comment, Dispatcher, Doctype}
use Rattle.standard_trees.specs.RuleWords.{ForeignContent, InBody, InCaption, InCell, InColumnGroup, InFrameset, InHead, InHeadNoscript, InRow, InTable, InTableBody, InTableText}
use Rattle.standard_trees.specs.RuleWords.{InTemplate, Initial, InsertCharacter, InsertComment, Mode, Null, Pattern, ReconstructFormatting, Rule, Text, WhiteSpace, does}
use Rattle.standard_trees.specs.TreeRules.{rules}
use Rattle.standard_trees.specs.GrowingTree.{is_among}
use Rattle.standard_trees.specs.Building.{Building, fits, taken}
use Rattle.standard_trees.specs.RuleWords.{AdjustedCurrentNodeInHtml}
use Rattle.standard_order.proofs.StandingStacks.{both, never}
use Rattle.standard_order.proofs.GoodTrees.{among_more}
use Rattle.standard_order.proofs.Levels.{Any, Before, End, EndBut, Exact, Frames, In, Info, Late, Level, Of, Remark, Sorted, Space, Start, TableText, TextMode, Typed, Where, ends_no_cell}
use Rattle.standard_order.proofs.Levels.{ends_template, has_root, heads, is_cell, is_frames, is_in, is_inside, is_light_info, is_plain_info, light_heads, may_use, may_use_head, no_cell, own}
use Rattle.standard_order.proofs.Levels.{skips, starts_one}
use Rattle.standard_order.proofs.LevelFacts.{At, Content, LateAt, TreeIs, Turn, TurnIs}
use Rattle.standard_order.proofs.LevelTrees.{holds_of}
use Rattle.standard_order.proofs.RulesPassed.{apart_not, skipped, unkept}
use Rattle.standard_order.proofs.RulesUsed.{both_cells, by_token, ends_so, in_any, late, none_out, starts_so, taken_first, taken_next, with_tok}
use Rattle.standard_order.proofs.NodeTags.{Cls, Entry, class_in, class_of, classes, name_class}
use Rattle.standard_order.proofs.PartKids.{is_body}
use Rattle.standard_order.proofs.Chains.{is_plain, is_template}
use Rattle.standard_order.proofs.PartPlaces.{class_among}
use Rattle.standard_order.proofs.PartScopes.{home}
use Rattle.standard_order.proofs.PartStates.{EarlyAt, Headless, OnHead, OnHtml}
use Rattle.standard_order.proofs.PartPhases.{BodyAt, Few, Fits, Fitting, Framing, HomeAt, Inner, InnerAt, NoPeak, Outer, Phase, PhaseAt, Range, RangeIs, Tabling, Texting, Told, ToldAmong}
use Rattle.standard_order.proofs.PartPhases.{classes_in, fits_all, has_class, inner_classes, is_told, may_use_part, names_for, rules_part, skips_none, skips_starts, skips_tokens, starts_no_part}
use Rattle.standard_order.proofs.PartPhases.{table_starts, told_in, Peak}
use Rattle.standard_order.proofs.PartInner.{class_told, either_so, has_filtered, told_home}
use Rattle.standard_order.proofs.PartBegins.{PartReady, taken_part}
use Rattle.standard_order.proofs.PartPasses.{parts_AfterAfterBody, parts_AfterAfterFrameset, parts_AfterBody, parts_AfterFrameset, parts_AfterHead, parts_BeforeHead, parts_InBody}
use Rattle.standard_order.proofs.PartPasses.{parts_InCaption, parts_InCell, parts_InColumnGroup, parts_InFrameset, parts_InHead, parts_InHeadNoscript, parts_InRow, parts_InTable}
use Rattle.standard_order.proofs.PartPasses.{parts_InTableBody, parts_InTableText, parts_InTemplate, parts_Text, parts_foreign, parts_foreign_framed, parts_head_ends, parts_head_starts}
use Rattle.standard_order.proofs.PartPasses.{parts_html_after_head, parts_html_before, parts_html_framed, parts_html_in_head, parts_html_in_noscript, parts_light, parts_noframes}
use Rattle.standard_order.proofs.PartPasses.{parts_table_below, parts_template_after, parts_template_end}

-- what is known of the parts where the rules for a mode are used
abbrev pub UsesPart : ℕ → Mode → Building → Type 0
UsesPart r Dispatcher b = HomeAt b.mode r b
UsesPart r mode b = PartReady r (taken b (rules mode)) b

-- ---- end tags

among_left : (name : List ℕ) (xs ys : List (List ℕ)) → is_among name xs ≡ true → is_among name (xs ++ ys) ≡ true
among_left name [] ys h = never h
among_left name (x ∷ xs) ys h = by (bytes_eq name x) h (λ k. among_left name xs ys k)
  where
    by : (b : Bool) → b || is_among name xs ≡ true → (is_among name xs ≡ true → is_among name (xs ++ ys) ≡ true) → b || is_among name (xs ++ ys) ≡ true
    by true k go = refl
    by false k go = go k

among_right : (name : List ℕ) (xs ys : List (List ℕ)) → is_among name ys ≡ true → is_among name (xs ++ ys) ≡ true
among_right name [] ys h = h
among_right name (x ∷ xs) ys h = by (bytes_eq name x) (among_right name xs ys h)
  where
    by : (b : Bool) → is_among name (xs ++ ys) ≡ true → b || is_among name (xs ++ ys) ≡ true
    by true k = refl
    by false k = k

names_for_has : (cs : List Cls) (c : Cls) (name : List ℕ) (es : List Entry) → has_class cs c && not (is_body c || is_template c) ≡ true → is_plain c ≡ false →
    class_in es name ≡ c → is_among name (names_for cs es) ≡ true
names_for_has cs c name [] h p e = never (sym p ∙ ap is_plain (sym e))
names_for_has cs c name (class_of names one ∷ more) h p e =
    by (is_among name names) (has_class cs one && not (is_body one || is_template one)) refl refl e (λ k. names_for_has cs c name more h p k)
  where
    by : (x y : Bool) → is_among name names ≡ x → has_class cs one && not (is_body one || is_template one) ≡ y →
        elim x as (λ _. Cls) [ true ↦ one | false ↦ class_in more name ] ≡ c → (class_in more name ≡ c → is_among name (names_for cs more) ≡ true) →
        is_among name (elim y as (λ _. List (List ℕ)) [ true ↦ names ++ names_for cs more | false ↦ names_for cs more ]) ≡ true
    by true true f g k go = among_left name names (names_for cs more) f
    by true false f g k go = never (sym g ∙ subst (λ d. has_class cs d && not (is_body d || is_template d) ≡ true) (sym k) h)
    by false true f g k go = among_right name names (names_for cs more) (go k)
    by false false f g k go = go k

-- an element `body` or a template has that name
framing_name : (c : Cls) (name : List ℕ) → is_body c || is_template c ≡ true → name_class name ≡ c → is_among name (codes "body" ∷ codes "template" ∷ []) ≡ true
framing_name c name h e =
    class_among (λ d. is_body d || is_template d) (codes "body" ∷ codes "template" ∷ []) classes refl name (ap (λ d. is_body d || is_template d) e ∙ h)

body_fits : (c : Cls) (token : Token) → home InBody c ≡ true → Fits c token
body_fits c (AnEnd name) h = λ off d e p same. never (sym off ∙ framing_name c name h (e ∙ same))
body_fits c (AStart name attrs closing) h = tt
body_fits c (AChar x) h = tt
body_fits c (AComment text) h = tt
body_fits c (ADoctype d) h = tt
body_fits c AnEof h = tt

and_not : (x y : Bool) → x ≡ true → y ≡ false → x && not y ≡ true
and_not true false e f = refl
and_not true true e f = never (sym f)
and_not false y e f = never e

all_fit : (cs : List Cls) (c : Cls) (info : Info) (token : Token) → has_class cs c ≡ true → fits_all cs info ≡ true → holds_of info token ≡ true → Fits c token
all_fit cs c info (AnEnd name) has fit h = λ off d e p same. by off p same (is_body c || is_template c) refl (e ∙ same)
  where
    excluded : (info : Info) → fits_all cs info ≡ true → holds_of info (AnEnd name) ≡ true → is_among name (names_for cs classes) ≡ true → ⊥
    excluded (End names) f k among = apart_not name names (names_for cs classes) f k among
    excluded (EndBut names) f k among = Rattle.standard_order.proofs.StandingStacks.opposite (is_among name names) k (among_more name (names_for cs classes) names f among)
    excluded (Any starts ends_) f k among = Rattle.standard_order.proofs.StandingStacks.opposite (is_among name ends_) k (among_more name (names_for cs classes) ends_ f among)
    excluded _ f k among = never k

    by : is_among name (codes "body" ∷ codes "template" ∷ []) ≡ false → {d : Cls} → is_plain d ≡ false → d ≡ c → (x : Bool) → is_body c || is_template c ≡ x →
        name_class name ≡ c → ⊥
    by off p same true g e = never (sym off ∙ framing_name c name g e)
    by off p same false g e =
        excluded info fit h (names_for_has cs c name classes (and_not (has_class cs c) (is_body c || is_template c) has g) (subst (λ x. is_plain x ≡ false) same p) e)
all_fit cs c info (AStart name attrs closing) has fit h = tt
all_fit cs c info (AChar x) has fit h = tt
all_fit cs c info (AComment text) has fit h = tt
all_fit cs c info (ADoctype d) has fit h = tt
all_fit cs c info AnEof has fit h = tt

-- ---- in the body

inner_told : (r : ℕ) (range : Range) (peak : Peak) (kept sure : Bool) (b : Building) → is_told range ≡ true → InnerAt r range peak kept sure b →
    InnerAt r Told NoPeak false false b
inner_told r range peak kept sure b t (c, i, ranged, few, peaked, was, sured) = (c, i, told_home range c b t ranged, few, tt, λ k. never k, tt)

inner_fits : (r : ℕ) (range : Range) (peak : Peak) (kept sure : Bool) (info : Info) (b : Building) → is_told range ≡ true → fits_all (classes_in range) info ≡ true →
    holds_of info b.token ≡ true → InnerAt r range peak kept sure b → InnerAt r Fitting NoPeak false false b
inner_fits r range peak kept sure info b t f h (c, i, ranged, few, peaked, was, sured) =
    (c, i, (told_home range c b t ranged, all_fit (classes_in range) c.inner info b.token (class_told r range c b i ranged) f h), few, tt, λ k. never k, tt)

inner_begun : (r : ℕ) (m : Mode) (b : Building) → b.mode ≡ m → BodyAt m r b → InnerAt r (told_in m) NoPeak false false b
inner_begun r m b e (c, i, h, few) =
    (c, i, (ap (λ q. home q c.inner) e ∙ h, has_filtered (home m) inner_classes c.inner h (class_told r Told c b i (ap (λ q. home q c.inner) e ∙ h))), few, tt, λ k. never k, tt)

-- ---- where the rules for a mode are used

plainly_part : (r : ℕ) (level : Level) (phase : Phase) (b : Building) (rs : List Rule) → At level b → PhaseAt r phase b →
    rules_part skips_none level phase [] [] [] false rs ≡ true → PartReady r (taken b rs) b
plainly_part r level phase b rs at p pass =
    taken_part r skips_none level phase b rs [] [] [] false (λ starts ends_ q ruled fit k. never k) at p tt (none_out b.token) (λ k. never k) pass

-- for tokens of a kind
info_part : (r : ℕ) (info : Info) (level : Level) (phase : Phase) (b : Building) (rs : List Rule) → holds_of info b.token ≡ true → At level b → PhaseAt r phase b →
    rules_part (skips info) level phase [] [] [] false rs ≡ true → PartReady r (taken b rs) b
info_part r info level phase b rs h at p pass =
    taken_part r (skips info) level phase b rs [] [] [] false (λ starts ends_ q ruled fit k. skipped info starts ends_ q b.token ruled h fit k) at p tt (none_out b.token)
    (λ k. never k) pass

-- in foreign content; the token isn't the end of the page
pub foreign_part : (r : ℕ) (b : Building) → (b.token ≡ AnEof → ⊥) → LateAt Sorted Of false b → BodyAt b.mode r b → UsesPart r ForeignContent b
foreign_part r b other at (c, i, h, few) =
    taken_part r skips_none (Late Sorted Of false) (Inner Told NoPeak false false) b (rules ForeignContent) [] [] [] true (λ starts ends_ q ruled fit k. never k) at
    (c, i, h, few, tt, λ k. never k, tt) tt (none_out b.token) (λ k e. other e) parts_foreign

pub foreign_framed_part : (r : ℕ) (b : Building) → (b.token ≡ AnEof → ⊥) → LateAt Sorted Of false b → PhaseAt r (Framing true false) b → UsesPart r ForeignContent b
foreign_framed_part r b other at p =
    taken_part r skips_none (Late Sorted Of false) (Framing true false) b (rules ForeignContent) [] [] [] true (λ starts ends_ q ruled fit k. never k) at
    p tt (none_out b.token) (λ k e. other e) parts_foreign_framed

-- at the end of the page
pub template_end_part : (r : ℕ) (range : Range) (peak : Peak) (kept sure : Bool) (b : Building) → b.token ≡ AnEof → LateAt (In true) Of false b → is_told range ≡ true →
    InnerAt r range peak kept sure b → UsesPart r InTemplate b
template_end_part r range peak kept sure b e at t inner =
    taken_part r skips_tokens (Late (In true) Of false) (Inner Told NoPeak false false) b (rules InTemplate) [] [] [] false
    (λ starts ends_ q ruled fit k. skip q (subst (λ u. fits q u ≡ true) e fit) k) at (inner_told r range peak kept sure b t inner) tt (none_out b.token) (λ k. never k)
    parts_template_end
  where
    skip : (q : Pattern) → fits q AnEof ≡ true → not (Rattle.standard_order.proofs.PartPhases.may_end q) ≡ true → ⊥
    skip Rattle.standard_trees.specs.RuleWords.EndOfFile f k = never k
    skip Rattle.standard_trees.specs.RuleWords.Anything f k = never k
    skip _ f k = never f

table_part : (r : ℕ) (range : Range) (peak : Peak) (kept sure : Bool) (info : Info) (b : Building) → LateAt (In false) Of false b → is_told range ≡ true →
    starts_no_part info ≡ true → holds_of info b.token ≡ true → InnerAt r range peak kept sure b → UsesPart r InTable b
table_part r range peak kept sure info b at t s h inner =
    taken_part r (skips_starts table_starts) (Late (In false) Of false) (Inner Told NoPeak false false) b (rules InTable) [] [] [] false
    (λ starts ends_ q ruled fit k. skip q b.token info s h fit k) at (inner_told r range peak kept sure b t inner) tt (none_out b.token) (λ k. never k) parts_table_below
  where
    skip : (q : Pattern) (token : Token) (info : Info) → starts_no_part info ≡ true → holds_of info token ≡ true → fits q token ≡ true →
        skips_starts table_starts [] [] q ≡ true → ⊥
    skip (Rattle.standard_trees.specs.RuleWords.StartTagOf some) (AStart name attrs closing) (Any starts ends_) s h f k =
        Rattle.standard_order.proofs.StandingStacks.opposite (is_among name starts) h
        (among_more name table_starts starts s (among_more name some table_starts k f))
    skip (Rattle.standard_trees.specs.RuleWords.StartTagOf some) (AnEnd name) info s h f k = never f
    skip (Rattle.standard_trees.specs.RuleWords.StartTagOf some) (AChar x) info s h f k = never f
    skip (Rattle.standard_trees.specs.RuleWords.StartTagOf some) (AComment text) info s h f k = never f
    skip (Rattle.standard_trees.specs.RuleWords.StartTagOf some) (ADoctype d) info s h f k = never f
    skip (Rattle.standard_trees.specs.RuleWords.StartTagOf some) AnEof info s h f k = never f
    skip (Rattle.standard_trees.specs.RuleWords.StartTagOf some) (AStart name attrs closing) _ s h f k = never s
    skip _ token info s h f k = never k

-- ---- the rules for "in head"

light_space : (r : ℕ) (t : Token) (u : Building) → holds_of Space t ≡ true → LateAt (Exact InHeadNoscript) Of false (with_tok t u) →
    PhaseAt r (Outer OnHead 1 InHeadNoscript false) (with_tok t u) → PartReady r (taken (with_tok t u) (rules InHead)) (with_tok t u)
unfolding rules
light_space r (AChar c) u h at p = subst (λ acts. PartReady r acts (with_tok (AChar c) u))
    (sym (taken_first (with_tok (AChar c) u) (WhiteSpace ∷ []) (does InsertCharacter [] ∷ []) _ (ap (λ x. x || false) h))) (
      Late (Exact InHeadNoscript) Of false,
      Outer OnHead 1 InHeadNoscript false,
      Any [] [],
      [],
      WhiteSpace,
      false,
      refl,
      at,
      p,
      refl,
      h,
      λ k. never k,
      refl,
    )
light_space r (AStart name attrs closing) u h at p = never h
light_space r (AnEnd name) u h at p = never h
light_space r (AComment text) u h at p = never h
light_space r (ADoctype d) u h at p = never h
light_space r AnEof u h at p = never h

light_remark : (r : ℕ) (t : Token) (u : Building) → holds_of Remark t ≡ true → LateAt (Exact InHeadNoscript) Of false (with_tok t u) →
    PhaseAt r (Outer OnHead 1 InHeadNoscript false) (with_tok t u) → PartReady r (taken (with_tok t u) (rules InHead)) (with_tok t u)
unfolding rules taken
light_remark r (AComment text) u h at p = (
  Late (Exact InHeadNoscript) Of false,
  Outer OnHead 1 InHeadNoscript false,
  Any [] [],
  [],
  Comment,
  false,
  refl,
  at,
  p,
  refl,
  refl,
  λ k. never k,
  refl,
)
light_remark r (AChar c) u h at p = never h
light_remark r (AStart name attrs closing) u h at p = never h
light_remark r (AnEnd name) u h at p = never h
light_remark r (ADoctype d) u h at p = never h
light_remark r AnEof u h at p = never h

light_part : (r : ℕ) (info : Info) (b : Building) → is_light_info info ≡ true → holds_of info b.token ≡ true → LateAt (Exact InHeadNoscript) Of false b →
    PhaseAt r (Outer OnHead 1 InHeadNoscript false) b → PartReady r (taken b (rules InHead)) b
light_part r (Start some) b i h at p =
    info_part r (Start light_heads) (Late (Exact InHeadNoscript) Of false) (Outer OnHead 1 InHeadNoscript false) b (rules InHead)
    (starts_so light_heads (Start some) b.token i h) at p parts_light
light_part r Space b i h at p = by_token (λ u. holds_of Space u.token ≡ true → LateAt (Exact InHeadNoscript) Of false u →
    PhaseAt r (Outer OnHead 1 InHeadNoscript false) u → PartReady r (taken u (rules InHead)) u) (light_space r) b h at p
light_part r Remark b i h at p = by_token (λ u. holds_of Remark u.token ≡ true → LateAt (Exact InHeadNoscript) Of false u →
    PhaseAt r (Outer OnHead 1 InHeadNoscript false) u → PartReady r (taken u (rules InHead)) u) (light_remark r) b h at p
light_part r _ b i h at p = never i

head_part : (r : ℕ) (cell : Bool) (range : Range) (peak : Peak) (k sure : Bool) (info : Info) (b : Building) → may_use_head (In cell) info ≡ true →
    holds_of info b.token ≡ true → LateAt (In cell) Of false b → is_told range ≡ true → InnerAt r range peak k sure b → PartReady r (taken b (rules InHead)) b
head_part r cell range peak k sure info b m h at t inner = by (either_so (starts_one heads info) (ends_template info) m)
  where
    by : (starts_one heads info ≡ true) ⊎ (ends_template info ≡ true) → PartReady r (taken b (rules InHead)) b
    by (inl s) = info_part r (Start heads) (Late (In cell) Of false) (Inner Told NoPeak false false) b (rules InHead) (starts_so heads info b.token s h) at
        (inner_told r range peak k sure b t inner) (parts_head_starts cell)
    by (inr e) = info_part r (End (codes "template" ∷ [])) (Late (In cell) Of false) (Inner Told NoPeak false false) b (rules InHead) (ends_so info b.token e h) at
        (inner_told r range peak k sure b t inner) (parts_head_ends cell)

-- ---- the rules for "in body"

html_part : (r : ℕ) (info : Info) (level : Level) (phase : Phase) (b : Building) → starts_one (codes "html" ∷ []) info ≡ true → holds_of info b.token ≡ true → At level b →
    PhaseAt r phase b → rules_part (skips (Start (codes "html" ∷ []))) level phase [] [] [] false (rules InBody) ≡ true → PartReady r (taken b (rules InBody)) b
html_part r info level phase b s h at p pass = info_part r (Start (codes "html" ∷ [])) level phase b (rules InBody) (starts_so (codes "html" ∷ []) info b.token s h) at p pass

framed_space : (r : ℕ) (t : Token) (u : Building) → holds_of Space t ≡ true → LateAt Frames Of false (with_tok t u) → PhaseAt r (Framing true false) (with_tok t u) →
    PartReady r (taken (with_tok t u) (rules InBody)) (with_tok t u)
unfolding rules
framed_space r (AChar c) u h at p = by (c == 0) refl
  where
    by : (x : Bool) → c == 0 ≡ x → PartReady r (taken (with_tok (AChar c) u) (rules InBody)) (with_tok (AChar c) u)
    by true e = subst (λ acts. PartReady r acts (with_tok (AChar c) u))
        (sym (taken_first (with_tok (AChar c) u) (Null ∷ []) [] _ (ap (λ x. x || false) e)))
        (Late Frames Of false, Framing true false, Any [] [], [], Null, false, refl, at, p, refl, e, λ k. never k, refl)
    by false e = subst (λ acts. PartReady r acts (with_tok (AChar c) u))
        (sym (taken_next (with_tok (AChar c) u) (Null ∷ []) [] [] _ (ap (λ x. x || false) e) ∙ taken_first (with_tok (AChar c) u)
        (WhiteSpace ∷ []) (does ReconstructFormatting [] ∷ does InsertCharacter [] ∷ []) _ (ap (λ x. x || false) h)))
        (Late Frames Of false, Framing true false, Any [] [], [], WhiteSpace, false, refl, at, p, refl, h, λ k. never k, refl)
framed_space r (AStart name attrs closing) u h at p = never h
framed_space r (AnEnd name) u h at p = never h
framed_space r (AComment text) u h at p = never h
framed_space r (ADoctype d) u h at p = never h
framed_space r AnEof u h at p = never h

framed_typed : (r : ℕ) (t : Token) (u : Building) → holds_of Typed t ≡ true → LateAt Frames Of false (with_tok t u) → PhaseAt r (Framing true false) (with_tok t u) →
    PartReady r (taken (with_tok t u) (rules InBody)) (with_tok t u)
unfolding rules taken
framed_typed r (ADoctype d) u h at p = (Late Frames Of false, Framing true false, Any [] [], [], Doctype, false, refl, at, p, refl, refl, λ k. never k, refl)
framed_typed r (AChar c) u h at p = never h
framed_typed r (AComment text) u h at p = never h
framed_typed r (AStart name attrs closing) u h at p = never h
framed_typed r (AnEnd name) u h at p = never h
framed_typed r AnEof u h at p = never h

framed_plain : (r : ℕ) (info : Info) (b : Building) → is_plain_info info ≡ true → holds_of info b.token ≡ true → LateAt Frames Of false b → PhaseAt r (Framing true false) b →
    PartReady r (taken b (rules InBody)) b
framed_plain r Space b i h at p = by_token (λ u. holds_of Space u.token ≡ true → LateAt Frames Of false u → PhaseAt r (Framing true false) u →
    PartReady r (taken u (rules InBody)) u) (framed_space r) b h at p
framed_plain r Typed b i h at p = by_token (λ u. holds_of Typed u.token ≡ true → LateAt Frames Of false u → PhaseAt r (Framing true false) u →
    PartReady r (taken u (rules InBody)) u) (framed_typed r) b h at p
framed_plain r _ b i h at p = never i

root_in : (place : Where) → has_root place ≡ true → is_in place ≡ true → ⊥
root_in (Exact AfterHead) h i = never i
root_in (Exact InHead) h i = never i
root_in (Exact InHeadNoscript) h i = never i
root_in Frames h i = never i
root_in _ h i = never h

frames_in : (place : Where) → is_frames place ≡ true → is_in place ≡ true → ⊥
frames_in Frames h i = never i
frames_in _ h i = never h

body_part : (r : ℕ) (place : Where) (kept : Bool) (range : Range) (peak : Peak) (k sure : Bool) (info : Info) (b : Building) → may_use (Late place Of kept) info InBody ≡ true →
    holds_of info b.token ≡ true → LateAt place Of kept b → is_in place ≡ true → is_told range ≡ true → fits_all (classes_in range) info ≡ true →
    InnerAt r range peak k sure b → PartReady r (taken b (rules InBody)) b
body_part r place kept range peak k sure info b m h at i t f inner =
    plainly_part r (Late (In true) Of false) (Inner Fitting NoPeak false false) b (rules InBody)
    (in_any place kept info b i (cells (either_so _ _ m)) h at) (inner_fits r range peak k sure info b t f h inner) parts_InBody
  where
    rest : (has_root place && starts_one (codes "html" ∷ []) info ≡ true) ⊎ (is_frames place && is_plain_info info ≡ true) →
        (no_cell place ≡ true) ⊎ (ends_no_cell info ≡ true)
    rest (inl two) = absurd (root_in place (both (has_root place) _ two).0 i)
    rest (inr two) = absurd (frames_in place (both (is_frames place) _ two).0 i)

    cells : (is_in place && (no_cell place || ends_no_cell info) ≡ true) ⊎ ((has_root place && starts_one (codes "html" ∷ []) info)
        || (is_frames place && is_plain_info info) ≡ true) → (no_cell place ≡ true) ⊎ (ends_no_cell info ≡ true)
    cells (inl two) = either_so (no_cell place) (ends_no_cell info) (both (is_in place) _ two).1
    cells (inr two) = rest (either_so _ _ two)

first_of_two : (x : Bool) → x || false ≡ true → x ≡ true
first_of_two true h = refl
first_of_two false h = h

unkept_phase : (r : ℕ) (base : Rattle.standard_order.proofs.PartStates.Base) (k : ℕ) (mode : Mode) (kept : Bool) (b : Building) → PhaseAt r (Outer base k mode kept) b →
    PhaseAt r (Outer base k mode false) b
unkept_phase r base k mode kept b p = (p.0, p.1, λ q. never q)

framed_phase : (r : ℕ) (known kept : Bool) (b : Building) → known ≡ true → PhaseAt r (Framing known kept) b → PhaseAt r (Framing true false) b
framed_phase r known kept b e p = (p.0, λ q. p.1 e, λ q. never q)

pub use_part : (r : ℕ) (level : Level) (phase : Phase) (info : Info) (mode : Mode) (b : Building) → may_use level info mode ≡ true → may_use_part level phase info mode ≡ true →
    holds_of info b.token ≡ true → At level b → PhaseAt r phase b → UsesPart r mode b
use_part r (Late (In cell) Of kept) (Inner range peak k sure) info InHead b m n h at p = head_part r cell range peak k sure info b m h (unkept (In cell) Of kept b at) n p
use_part r (Late Frames Of kept) (Framing known k) info InHead b m n h at p =
    info_part r (Start (codes "noframes" ∷ [])) (Late Frames Of false) (Framing true false) b (rules InHead) (starts_so (codes "noframes" ∷ []) info b.token m h)
    (unkept Frames Of kept b at) (framed_phase r known k b n p) parts_noframes
use_part r (Late (Exact AfterHead) Of kept) (Outer OnHtml zero AfterHead k) info InHead b m n h at p =
    info_part r (End (codes "template" ∷ [])) (Late (Exact AfterHead) Of false) (Outer OnHtml 0 AfterHead false) b (rules InHead) (ends_so info b.token m h)
    (unkept (Exact AfterHead) Of kept b at) (unkept_phase r OnHtml 0 AfterHead k b p) parts_template_after
use_part r (Late (Exact InHeadNoscript) Of kept) (Outer OnHead (suc zero) InHeadNoscript k) info InHead b m n h at p =
    light_part r info b m h (unkept (Exact InHeadNoscript) Of kept b at) (unkept_phase r OnHead 1 InHeadNoscript k b p)
use_part r (Late place Of kept) (Inner range peak k sure) info InBody b m n h at p =
    let two : (is_in place ≡ true) × (is_told range && fits_all (classes_in range) info ≡ true) = both (is_in place) _ n in
    let more : (is_told range ≡ true) × (fits_all (classes_in range) info ≡ true) = both (is_told range) _ two.1 in
    body_part r place kept range peak k sure info b m h at two.0 more.0 more.1 p
use_part r Before (Outer Headless zero BeforeHead k) info InBody b m n h at p =
    html_part r info Before (Outer Headless 0 BeforeHead false) b m h at (unkept_phase r Headless 0 BeforeHead k b p) parts_html_before
use_part r (Late (Exact InHead) Of kept) (Outer OnHead zero InHead k) info InBody b m n h at p =
    html_part r info (Late (Exact InHead) Of false) (Outer OnHead 0 InHead false) b (first_of_two (starts_one (codes "html" ∷ []) info) m) h (unkept (Exact InHead) Of kept b at)
    (unkept_phase r OnHead 0 InHead k b p) parts_html_in_head
use_part r (Late (Exact InHeadNoscript) Of kept) (Outer OnHead (suc zero) InHeadNoscript k) info InBody b m n h at p =
    html_part r info (Late (Exact InHeadNoscript) Of false) (Outer OnHead 1 InHeadNoscript false) b (first_of_two (starts_one (codes "html" ∷ []) info) m) h
    (unkept (Exact InHeadNoscript) Of kept b at) (unkept_phase r OnHead 1 InHeadNoscript k b p) parts_html_in_noscript
use_part r (Late (Exact AfterHead) Of kept) (Outer OnHtml zero AfterHead k) info InBody b m n h at p =
    html_part r info (Late (Exact AfterHead) Of false) (Outer OnHtml 0 AfterHead false) b (first_of_two (starts_one (codes "html" ∷ []) info) m) h
    (unkept (Exact AfterHead) Of kept b at) (unkept_phase r OnHtml 0 AfterHead k b p) parts_html_after_head
use_part r (Late Frames Of kept) (Framing known k) info InBody b m n h at p = by (either_so (starts_one (codes "html" ∷ []) info) (is_plain_info info) m)
  where
    by : (starts_one (codes "html" ∷ []) info ≡ true) ⊎ (is_plain_info info ≡ true) → PartReady r (taken b (rules InBody)) b
    by (inl s) = html_part r info (Late Frames Of false) (Framing true false) b s h (unkept Frames Of kept b at) (framed_phase r known k b n p) parts_html_framed
    by (inr s) = framed_plain r info b s h (unkept Frames Of kept b at) (framed_phase r known k b n p)
use_part r (Late (In false) Of kept) (Inner range peak k sure) info InTable b m n h at p =
    table_part r range peak k sure info b (unkept (In false) Of kept b at) (both (is_told range) _ n).0 (both (is_told range) _ n).1 h p
use_part r _ _ info mode b m n h at p = never n

-- ---- in the current mode

pub current_part : (r : ℕ) (b : Building) → Turn b → HomeAt b.mode r b → UsesPart r b.mode b
current_part r b turn home_ = by b.mode refl turn.1 home_
  where
    c : Content b.template_modes
    c = turn.0

    inside : (m : Mode) → b.mode ≡ m → is_inside m ≡ true → is_cell m ≡ false → TreeIs (own m) b.tree → LateAt (In false) Of false b
    inside m e i n h = late (In false) b m e (i, λ k. n, λ k. absurd (both_cells (is_cell m) n k)) c h

    inside_any : (m : Mode) → b.mode ≡ m → is_inside m ≡ true → is_cell m ≡ false → TreeIs (own m) b.tree → LateAt (In true) Of false b
    inside_any m e i n h = late (In true) b m e (i, λ k. n, λ k. absurd (both_cells (is_cell m) n k)) c h

    by : (m : Mode) → b.mode ≡ m → TurnIs m b → HomeAt m r b → UsesPart r m b
    by Dispatcher e h p = never p.2
    by Initial e h p = never p.2
    by BeforeHtml e h p = never p.2
    by ForeignContent e h p = never p.2
    by BeforeHead e h p = plainly_part r Before (Outer Headless 0 BeforeHead false) b (rules BeforeHead) (e, c, h) (p, e, λ k. never k) parts_BeforeHead
    by InHead e h p = plainly_part r (Late (Exact InHead) Of false) (Outer OnHead 0 InHead false) b (rules InHead) (late (Exact InHead) b InHead e refl c h)
        (p, e, λ k. never k) parts_InHead
    by InHeadNoscript e h p = plainly_part r (Late (Exact InHeadNoscript) Of false) (Outer OnHead 1 InHeadNoscript false) b (rules InHeadNoscript)
        (late (Exact InHeadNoscript) b InHeadNoscript e refl c h) (p, e, λ k. never k) parts_InHeadNoscript
    by AfterHead e h p = plainly_part r (Late (Exact AfterHead) Of false) (Outer OnHtml 0 AfterHead false) b (rules AfterHead)
        (late (Exact AfterHead) b AfterHead e refl c h) (p, e, λ k. never k) parts_AfterHead
    by InBody e h p = plainly_part r (Late (In true) Of false) (Inner Fitting NoPeak false false) b (rules InBody) (inside_any InBody e refl refl h) (
      p.0,
      p.1,
      (ap (λ m. home m p.0.inner) e ∙ p.2, body_fits p.0.inner b.token p.2),
      p.3,
      tt,
      λ k. never k,
      tt,
    ) parts_InBody
    by Text e h p = plainly_part r TextMode Texting b (rules Text) (e, c, h) (e, p) parts_Text
    by InTable e h p = plainly_part r (Late (In false) Of false) (Inner (told_in InTable) NoPeak false false) b (rules InTable) (inside InTable e refl refl h)
        (inner_begun r InTable b e p) parts_InTable
    by InTableText e h p = plainly_part r TableText Tabling b (rules InTableText) (e, c, h.0, h.1, h.2) (e, p) parts_InTableText
    by InCaption e h p = plainly_part r (Late (In false) Of false) (Inner (told_in InCaption) NoPeak false false) b (rules InCaption) (inside InCaption e refl refl h)
        (inner_begun r InCaption b e p) parts_InCaption
    by InColumnGroup e h p = plainly_part r (Late (In false) Of false) (Inner (told_in InColumnGroup) NoPeak false false) b (rules InColumnGroup)
        (inside InColumnGroup e refl refl h) (inner_begun r InColumnGroup b e p) parts_InColumnGroup
    by InTableBody e h p = plainly_part r (Late (In false) Of false) (Inner (told_in InTableBody) NoPeak false false) b (rules InTableBody) (inside InTableBody e refl refl h)
        (inner_begun r InTableBody b e p) parts_InTableBody
    by InRow e h p = plainly_part r (Late (In false) Of false) (Inner (told_in InRow) NoPeak false false) b (rules InRow) (inside InRow e refl refl h)
        (inner_begun r InRow b e p) parts_InRow
    by InCell e h p = plainly_part r (Late (Exact InCell) Of false) (Inner (told_in InCell) NoPeak false false) b (rules InCell) (late (Exact InCell) b InCell e refl c h)
        (inner_begun r InCell b e p) parts_InCell
    by InTemplate e h p = plainly_part r (Late (In true) Of false) (Inner (told_in InTemplate) NoPeak false false) b (rules InTemplate) (inside_any InTemplate e refl refl h)
        (inner_begun r InTemplate b e p) parts_InTemplate
    by AfterBody e h p = plainly_part r (Late (In false) Of false) (Inner (told_in AfterBody) NoPeak false false) b (rules AfterBody) (inside AfterBody e refl refl h)
        (inner_begun r AfterBody b e p) parts_AfterBody
    by AfterAfterBody e h p = plainly_part r (Late (In false) Of false) (Inner (told_in AfterAfterBody) NoPeak false false) b (rules AfterAfterBody)
        (inside AfterAfterBody e refl refl h) (inner_begun r AfterAfterBody b e p) parts_AfterAfterBody
    by InFrameset e h p = plainly_part r (Late Frames Of false) (Framing true false) b (rules InFrameset) (late Frames b InFrameset e refl c h)
        (p, λ k. ap Rattle.standard_order.proofs.Levels.is_framed e, λ k. never k) parts_InFrameset
    by AfterFrameset e h p = plainly_part r (Late Frames Of false) (Framing true false) b (rules AfterFrameset) (late Frames b AfterFrameset e refl c h)
        (p, λ k. ap Rattle.standard_order.proofs.Levels.is_framed e, λ k. never k) parts_AfterFrameset
    by AfterAfterFrameset e h p = plainly_part r (Late Frames Of false) (Framing true false) b (rules AfterAfterFrameset) (late Frames b AfterAfterFrameset e refl c h)
        (p, λ k. ap Rattle.standard_order.proofs.Levels.is_framed e, λ k. never k) parts_AfterAfterFrameset
