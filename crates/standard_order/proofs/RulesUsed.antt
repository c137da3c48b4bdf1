-- Where rules are used for a token, and what is known there.
use Rattle.std.specs.Prelude.{◌≡◌, ◌||◌, ◌⊎◌, refl, ℕ, Bool, true, false, ◌&&◌, ◌==◌, List, [], ◌∷◌, Option, None, Some, codes, cond}
use Rattle.std.specs.Prelude.{unwrap_or}
use Rattle.std.proofs.Common.{inl, inr}
use Rattle.std.specs.List.{list_all, list_any}
use mathlib.Core.Path.{◌∙◌, sym, ap, subst}
use Rattle.standard_tokens.specs.Tokens.{AChar, AComment, ADoctype, AStart, AnEnd, AnEof, Token}
use Rattle.standard_trees.specs.RuleWords.{Act, Action, AdjustSvgName, AdjustedCurrentNodeInHtml, Anything, InsertCharacter, Mode}
use Rattle.standard_trees.specs.RuleWords.{NoOpenElements, Null, ReconstructFormatting, Rename, Rule, Test, UseCurrentMode, WhiteSpace}
use Rattle.standard_trees.specs.RuleWords.{does, goes, is, rule, Pattern}
use Rattle.standard_trees.specs.RuleWords.{Dispatcher, Initial, BeforeHtml, BeforeHead, InHead, InHeadNoscript, AfterHead, InBody, Text}
use Rattle.standard_trees.specs.RuleWords.{InTable, InTableText, InCaption, InColumnGroup, InTableBody, InRow, InCell, InTemplate}
use Rattle.standard_trees.specs.RuleWords.{AfterBody, InFrameset, AfterFrameset, AfterAfterBody, AfterAfterFrameset, ForeignContent}
use Rattle.standard_trees.specs.TreeRules.{rules}
use Rattle.standard_trees.specs.TreeStore.{ElementNode, Html, Kind, MathMl, Svg, is_html, key_in, space_in}
use Rattle.standard_trees.specs.GrowingTree.{current, is_among, is_single, kind_of, top}
use Rattle.standard_trees.specs.Building.{Building, fits, holds, is_empty, is_met, perform, taken}
use Rattle.standard_order.proofs.Labels.{kind_at, labels}
use Rattle.standard_order.proofs.StandingStacks.{Framed, Inside, IsHead, IsRoot, Sort, both, head, html, never}
use Rattle.standard_order.proofs.GoodTrees.{Good, among_more, held, is_whole}
use Rattle.standard_order.proofs.Levels.{Any, Bare, Before, Behind, End, Exact, Fine, Fixed, Foreign, Frames, Head, HeadMade, Held}
use Rattle.standard_order.proofs.Levels.{In, Info, Late, Level, Never, NoPrior, Nowhere, Of, OfHeld, OfPlain, Opened, OpenedFree}
use Rattle.standard_order.proofs.Levels.{Rel, Remark, RootMade, Scoped, Shape, Sorted, Space, Start, Std}
use Rattle.standard_order.proofs.Levels.{TableText, TextMode, Typed, Where}
use Rattle.standard_order.proofs.Levels.{tabled_names, ends, ends_no_cell, ends_template, has_root, has_sort}
use Rattle.standard_order.proofs.Levels.{heads, info_after, is_cell}
use Rattle.standard_order.proofs.Levels.{is_frames, is_in, is_inside, is_light_info, is_mild, is_plain_info, is_still}
use Rattle.standard_order.proofs.Levels.{light_heads, may_use, may_use_head, next, next_of, no_cell, own, rules_pass}
use Rattle.standard_order.proofs.Levels.{starts_one, takes_mild, takes_still, weak}
use Rattle.standard_order.proofs.Passes.{head_ends, head_ends_after, head_in_frames, head_in_noscript, head_starts, html_before, html_in}
use Rattle.standard_order.proofs.Passes.{passes_Initial, passes_BeforeHtml, passes_BeforeHead, passes_InHead, passes_InHeadNoscript}
use Rattle.standard_order.proofs.Passes.{passes_AfterHead, passes_InBody, passes_Text, passes_InTable, passes_InTableText, passes_InCaption}
use Rattle.standard_order.proofs.Passes.{passes_InColumnGroup, passes_InTableBody, passes_InRow, passes_InCell, passes_InTemplate}
use Rattle.standard_order.proofs.Passes.{passes_AfterBody, passes_InFrameset, passes_AfterFrameset, passes_AfterAfterBody}
use Rattle.standard_order.proofs.Passes.{passes_AfterAfterFrameset, passes_ForeignContent}
use Rattle.standard_order.proofs.LevelFacts.{At, Content, Is, LateAt, Stk, TreeIs, Turn, TurnIs, held_more, head_more, inner, inner_more, keeps_cells, mild_kept}
use Rattle.standard_order.proofs.LevelFacts.{sorted_mode, still_kept, weak_stk}
use Rattle.standard_order.proofs.LevelTrees.{ends_no_cell_so, good_of, of_good, holds_of, inside_own, place_inside, place_sorted}
use Rattle.standard_order.proofs.LevelTrees.{sorted_own}
use Rattle.standard_order.proofs.LevelSteps.{either_way, no_keep, some_at}
use Rattle.standard_order.proofs.LevelNext.{after, no_cell_mode}
use Rattle.standard_order.proofs.LevelAll.{next_at}
use Rattle.standard_order.proofs.RulesPassed.{Ready, any_holds, framed_own, rules_out, taken_ready, unkept}
use Rattle.standard_order.proofs.Levels.{is_first}
use Rattle.standard_order.proofs.LevelFacts.{EarlyIs, IsBare}

-- ---- actions

pub next_of_at : (level : Level) (info : Info) (action : Action) (tests : List Test) (b : Building) (new : Level) →
    holds_of info b.token ≡ true → next_of level info action tests ≡ Some new → At level b → At new (after tests action b)
next_of_at level info action tests b new k e at = by (is_still action && takes_still level) (is_mild action && takes_mild level) refl refl e
  where
    by : (x y : Bool) → is_still action && takes_still level ≡ x → is_mild action && takes_mild level ≡ y →
        elim x as (λ _. Option Level) [
          | true ↦ Some level
          | false ↦ elim y as (λ _. Option Level) [
            | true ↦ Some level
            | false ↦ next level
                info action tests
          ]
        ] ≡ Some new → At new (after tests action b)
    by true y f g h = some_at level new _ h (either_way (At level) (list_all (is_met b) tests) b (perform action b)
        (still_kept level action b (both _ _ f).0 (both _ _ f).1 at) at)
    by false true f g h = some_at level new _ h (either_way (At level) (list_all (is_met b) tests) b (perform action b)
        (mild_kept level action b (both _ _ g).0 (both _ _ g).1 at) at)
    by false false f g h = next_at level info action tests b new k h at

-- only a new name changes the token
pub holds_after : (info : Info) (action : Action) (tests : List Test) (b : Building) → holds_of info b.token ≡ true →
    holds_of (info_after action info) (after tests action b).token ≡ true
unfolding perform
holds_after info (Rename name) tests b h = any_holds _
holds_after info AdjustSvgName tests b h = any_holds _
holds_after info action tests b h = either_way (λ u. holds_of info u.token ≡ true) (list_all (is_met b) tests) b (perform action b) h h

-- ---- a turn may begin

pub of_turn : (b : Building) → Content b.template_modes → TreeIs (own b.mode) b.tree → Turn b
of_turn b c h = (c, by b.mode h)
  where
    by : (m : Mode) → TreeIs (own m) b.tree → TurnIs m b
    by Dispatcher h = absurd h.0
    by Initial h = absurd h.0
    by BeforeHtml h = absurd h.0
    by BeforeHead h = absurd h.0
    by Text h = absurd h.0
    by InTableText h = absurd h.0
    by ForeignContent h = absurd h.0
    by _ h = h

sorted_turn : (place : Where) (rel : Rel) (kept : Bool) (b : Building) → has_sort place ≡ true →
    (rel ≡ Of) ⊎ ((rel ≡ OfHeld) ⊎ (rel ≡ OfPlain)) → LateAt place rel kept b → Turn b
sorted_turn place rel kept b s one at =
    let shape : (k : Sort) × (c : Bool) × (own b.mode ≡ Std k c) = sorted_own b.mode (place_sorted place b.mode b.token s at.0) in
    of_turn b at.1 (of_good shape.0 shape.1 b.mode b.tree shape.2 (good_of shape.0 shape.1 b.mode rel b.tree shape.2 one at.2))

in_turn : (place : Where) (kept : Bool) (b : Building) → LateAt place Of kept b → Turn b
in_turn place kept b at = of_turn b at.1 at.2

inside_turn : (shape : Shape) (kept : Bool) (b : Building) → weak shape (Std Inside false) ≡ true → LateAt (In false) (Fixed shape) kept b →
    Turn b
inside_turn shape kept b w at =
    of_turn b at.1 (subst (λ q. TreeIs q b.tree) (sym (inside_own b.mode at.0.0 ∙ ap (Std Inside) (at.0.1 refl)))
    (weak_stk shape (Std Inside false) w (labels b.tree.nodes) b.tree.stack at.2.0, at.2.1))

framed_turn : (shape : Shape) (kept : Bool) (b : Building) → weak shape (Std Framed false) ≡ true → LateAt Frames (Fixed shape) kept b →
    Turn b
framed_turn shape kept b w at =
    of_turn b at.1 (subst (λ q. TreeIs q b.tree) (sym (framed_own b.mode at.0)) (
      weak_stk shape (Std Framed false) w (labels b.tree.nodes)
          b.tree.stack at.2.0,
      at.2.1,
    ))

pub with_mode : (m : Mode) (b : Building) → b.mode ≡ m → Content b.template_modes → TurnIs m b → Turn b
with_mode m b e c h = (c, subst (λ q. TurnIs q b) (sym e) h)

bare_turn : (m : Mode) (b : Building) → b.mode ≡ m → is_first m ≡ true → Content b.template_modes → EarlyIs IsBare b.tree → Turn b
bare_turn Initial b e f c h = with_mode Initial b e c h
bare_turn BeforeHtml b e f c h = with_mode BeforeHtml b e c h
bare_turn _ b e f c h = never f

pub ends_turn : (level : Level) (b : Building) → ends level ≡ true → At level b → Turn b
ends_turn Fine b h at = at
ends_turn Bare b h at = bare_turn b.mode b refl at.0 at.1 at.2
ends_turn Before b h at = with_mode BeforeHead b at.0 at.1 at.2
ends_turn TextMode b h at = with_mode Text b at.0 at.1 at.2
ends_turn TableText b h at = with_mode InTableText b at.0 at.1 (at.2, at.3, at.4)
ends_turn Never b h at = absurd at
ends_turn RootMade b h at = never h
ends_turn HeadMade b h at = never h
ends_turn Behind b h at = never h
ends_turn (Late (Exact one) Of kept) b h at = in_turn (Exact one) kept b at
ends_turn (Late (In c) Of kept) b h at = in_turn (In c) kept b at
ends_turn (Late Frames Of kept) b h at = in_turn Frames kept b at
ends_turn (Late Sorted Of kept) b h at = in_turn Sorted kept b at
ends_turn (Late Nowhere rel kept) b h at = never h
ends_turn (Late (Exact one) OfHeld kept) b h at = sorted_turn (Exact one) OfHeld kept b h (inr (inl refl)) at
ends_turn (Late (In c) OfHeld kept) b h at = sorted_turn (In c) OfHeld kept b h (inr (inl refl)) at
ends_turn (Late Frames OfHeld kept) b h at = sorted_turn Frames OfHeld kept b h (inr (inl refl)) at
ends_turn (Late Sorted OfHeld kept) b h at = sorted_turn Sorted OfHeld kept b h (inr (inl refl)) at
ends_turn (Late (Exact one) OfPlain kept) b h at = sorted_turn (Exact one) OfPlain kept b h (inr (inr refl)) at
ends_turn (Late (In c) OfPlain kept) b h at = sorted_turn (In c) OfPlain kept b h (inr (inr refl)) at
ends_turn (Late Frames OfPlain kept) b h at = sorted_turn Frames OfPlain kept b h (inr (inr refl)) at
ends_turn (Late Sorted OfPlain kept) b h at = sorted_turn Sorted OfPlain kept b h (inr (inr refl)) at
ends_turn (Late (In false) (Fixed shape) kept) b h at = inside_turn shape kept b h at
ends_turn (Late Frames (Fixed shape) kept) b h at = framed_turn shape kept b h at
ends_turn (Late (In true) (Fixed shape) kept) b h at = never h
ends_turn (Late (Exact one) (Fixed shape) kept) b h at = never h
ends_turn (Late Sorted (Fixed shape) kept) b h at = never h
ends_turn (Scoped place kind wanted) b h at = in_turn place false b at.1
ends_turn (Opened place) b h at = in_turn place false b at.1
ends_turn (OpenedFree place) b h at = never h
ends_turn (Foreign place) b h at = in_turn place false b at.1

-- ---- where the rules for a mode are used

pub none_out : (t : Token) → rules_out [] [] t
none_out (AStart name attrs closing) = refl
none_out (AnEnd name) = refl
none_out (AChar c) = tt
none_out (AComment text) = tt
none_out (ADoctype d) = tt
none_out AnEof = tt

ready_for : (asked : Info) (level : Level) (mode : Mode) (b : Building) → holds_of asked b.token ≡ true → At level b →
    rules_pass asked level NoPrior [] [] (rules mode) ≡ true → Ready (taken b (rules mode)) b
ready_for asked level mode b h at pass = taken_ready asked level b (rules mode) NoPrior [] [] h at tt (none_out b.token) pass

pub starts_so : (names : List (List ℕ)) (info : Info) (t : Token) → starts_one names info ≡ true → holds_of info t ≡ true →
    holds_of (Start names) t ≡ true
starts_so names (Start some) (AStart name attrs closing) s h = among_more name some names s h
starts_so names (Start some) (AnEnd name) s h = never h
starts_so names (Start some) (AChar c) s h = never h
starts_so names (Start some) (AComment text) s h = never h
starts_so names (Start some) (ADoctype d) s h = never h
starts_so names (Start some) AnEof s h = never h
starts_so names _ t s h = never s

pub ends_so : (info : Info) (t : Token) → ends_template info ≡ true → holds_of info t ≡ true → holds_of (End (codes "template" ∷ [])) t ≡ true
ends_so (End some) (AnEnd name) s h = among_more name some (codes "template" ∷ []) s h
ends_so (End some) (AStart name attrs closing) s h = never h
ends_so (End some) (AChar c) s h = never h
ends_so (End some) (AComment text) s h = never h
ends_so (End some) (ADoctype d) s h = never h
ends_so (End some) AnEof s h = never h
ends_so _ t s h = never s

-- a rule without tests that the token fits, and one that it doesn't fit
pub taken_first : (b : Building) (ps : List Pattern) (acts : List Act) (more : List Rule) → list_any (λ p. fits p b.token) ps ≡ true →
    taken b (rule ps [] acts ∷ more) ≡ acts
unfolding taken
taken_first b ps acts more e = ap (λ x. elim x as (λ _. List Act) [ true ↦ acts | false ↦ taken b more ]) e

pub taken_next : (b : Building) (ps : List Pattern) (tests : List Test) (acts : List Act) (more : List Rule) →
    list_any (λ p. fits p b.token) ps ≡ false → taken b (rule ps tests acts ∷ more) ≡ taken b more
unfolding taken
taken_next b ps tests acts more e = ap (λ x. elim x as (λ _. List Act) [
  | true ↦ elim (list_all (is_met b) tests) as (λ _. List Act)
      [ true ↦ acts | false ↦ taken b more ]
  | false ↦ taken b more
]) e

-- of a state, by its token
abbrev pub with_tok : Token → Building → Building
with_tok t u = record u { token = t }

pub by_token : (P : Building → Type 0) → ((t : Token) (u : Building) → P (with_tok t u)) → (b : Building) → P b
by_token P f b = f b.token b

at_in_noscript : (kept : Bool) (b : Building) → LateAt (Exact InHeadNoscript) Of kept b → LateAt (Exact InHeadNoscript) Of false b
at_in_noscript kept b at = unkept (Exact InHeadNoscript) Of kept b at

space_light : (t : Token) (u : Building) → holds_of Space t ≡ true → LateAt (Exact InHeadNoscript) Of false (with_tok t u) →
    Ready (taken (with_tok t u) (rules InHead)) (with_tok t u)
unfolding rules
space_light (AChar c) u h at = subst (λ acts. Ready acts (with_tok (AChar c) u))
    (sym (taken_first (with_tok (AChar c) u) (WhiteSpace ∷ []) (does InsertCharacter [] ∷ []) _ (ap (λ x. x || false) h)))
    (Late (Exact InHeadNoscript) Of false, Any [] [], [], refl, at, refl, refl)
space_light (AStart name attrs closing) u h at = never h
space_light (AnEnd name) u h at = never h
space_light (AComment text) u h at = never h
space_light (ADoctype d) u h at = never h
space_light AnEof u h at = never h

remark_light : (t : Token) (u : Building) → holds_of Remark t ≡ true → LateAt (Exact InHeadNoscript) Of false (with_tok t u) →
    Ready (taken (with_tok t u) (rules InHead)) (with_tok t u)
unfolding rules taken
remark_light (AComment text) u h at = (Late (Exact InHeadNoscript) Of false, Any [] [], [], refl, at, refl, refl)
remark_light (AChar c) u h at = never h
remark_light (AStart name attrs closing) u h at = never h
remark_light (AnEnd name) u h at = never h
remark_light (ADoctype d) u h at = never h
remark_light AnEof u h at = never h

use_light : (info : Info) (b : Building) → is_light_info info ≡ true → holds_of info b.token ≡ true →
    LateAt (Exact InHeadNoscript) Of false b → Ready (taken b (rules InHead)) b
use_light (Start some) b i h at = ready_for (Start light_heads) (Late (Exact InHeadNoscript) Of false) InHead b
    (starts_so light_heads (Start some) b.token i h) at head_in_noscript
use_light Space b i h at = by_token (λ u. holds_of Space u.token ≡ true → LateAt (Exact InHeadNoscript) Of false u →
    Ready (taken u (rules InHead)) u) space_light b h at
use_light Remark b i h at = by_token (λ u. holds_of Remark u.token ≡ true → LateAt (Exact InHeadNoscript) Of false u →
    Ready (taken u (rules InHead)) u) remark_light b h at
use_light _ b i h at = never i

one_or_other : (x y : Bool) → x || y ≡ true → (x ≡ true) ⊎ (y ≡ true)
one_or_other true y h = inl refl
one_or_other false y h = inr h

use_head : (place : Where) (kept : Bool) (info : Info) (b : Building) → may_use_head place info ≡ true → holds_of info b.token ≡ true →
    LateAt place Of kept b → Ready (taken b (rules InHead)) b
use_head (In c) kept info b m h at = by (one_or_other (starts_one heads info) (ends_template info) m)
  where
    by : (starts_one heads info ≡ true) ⊎ (ends_template info ≡ true) → Ready (taken b (rules InHead)) b
    by (inl s) = ready_for (Start heads) (Late (In c) Of false) InHead b (starts_so heads info b.token s h) (unkept (In c) Of kept b at)
        (head_starts c)
    by (inr e) = ready_for (End (codes "template" ∷ [])) (Late (In c) Of false) InHead b (ends_so info b.token e h)
        (unkept (In c) Of kept b at) (head_ends c)
use_head Frames kept info b m h at =
    ready_for (Start (codes "noframes" ∷ [])) (Late Frames Of false) InHead b (starts_so (codes "noframes" ∷ []) info b.token m h)
    (unkept Frames Of kept b at) head_in_frames
use_head (Exact AfterHead) kept info b m h at =
    ready_for (End (codes "template" ∷ [])) (Late (Exact AfterHead) Of false) InHead b (ends_so info b.token m h)
    (unkept (Exact AfterHead) Of kept b at) head_ends_after
use_head (Exact InHeadNoscript) kept info b m h at = use_light info b m h (unkept (Exact InHeadNoscript) Of kept b at)
use_head _ kept info b m h at = never m

-- ---- the rules for "in body"

-- in framesets white space and doctypes
space_plain : (t : Token) (u : Building) → holds_of Space t ≡ true → LateAt Frames Of false (with_tok t u) →
    Ready (taken (with_tok t u) (rules InBody)) (with_tok t u)
unfolding rules
space_plain (AChar c) u h at = by (c == 0) refl
  where
    by : (x : Bool) → c == 0 ≡ x → Ready (taken (with_tok (AChar c) u) (rules InBody)) (with_tok (AChar c) u)
    by true e = subst (λ acts. Ready acts (with_tok (AChar c) u))
        (sym (taken_first (with_tok (AChar c) u) (Null ∷ []) [] _ (ap (λ x. x || false) e)))
        (Late Frames Of false, Any [] [], [], refl, at, refl, refl)
    by false e = subst (λ acts. Ready acts (with_tok (AChar c) u))
        (sym (taken_next (with_tok (AChar c) u) (Null ∷ []) [] [] _ (ap (λ x. x || false) e) ∙ taken_first (with_tok (AChar c) u)
        (WhiteSpace ∷ []) (does ReconstructFormatting [] ∷ does InsertCharacter [] ∷ []) _ (ap (λ x. x || false) h)))
        (Late Frames Of false, Any [] [], [], refl, at, refl, refl)
space_plain (AStart name attrs closing) u h at = never h
space_plain (AnEnd name) u h at = never h
space_plain (AComment text) u h at = never h
space_plain (ADoctype d) u h at = never h
space_plain AnEof u h at = never h

typed_plain : (t : Token) (u : Building) → holds_of Typed t ≡ true → LateAt Frames Of false (with_tok t u) →
    Ready (taken (with_tok t u) (rules InBody)) (with_tok t u)
unfolding rules taken
typed_plain (ADoctype d) u h at = (Late Frames Of false, Any [] [], [], refl, at, refl, refl)
typed_plain (AChar c) u h at = never h
typed_plain (AComment text) u h at = never h
typed_plain (AStart name attrs closing) u h at = never h
typed_plain (AnEnd name) u h at = never h
typed_plain AnEof u h at = never h

use_plain : (info : Info) (b : Building) → is_plain_info info ≡ true → holds_of info b.token ≡ true → LateAt Frames Of false b →
    Ready (taken b (rules InBody)) b
use_plain Space b i h at = by_token (λ u. holds_of Space u.token ≡ true → LateAt Frames Of false u → Ready (taken u (rules InBody)) u)
    space_plain b h at
use_plain Typed b i h at = by_token (λ u. holds_of Typed u.token ≡ true → LateAt Frames Of false u → Ready (taken u (rules InBody)) u)
    typed_plain b h at
use_plain _ b i h at = never i

pub both_cells : (x : Bool) → x ≡ false → x ≡ true → ⊥
both_cells true e f = cc
both_cells false e f = cc

pub in_any : (place : Where) (kept : Bool) (info : Info) (b : Building) → is_in place ≡ true → (no_cell place ≡ true) ⊎
    (ends_no_cell info ≡ true) → holds_of info b.token ≡ true → LateAt place Of kept b → LateAt (In true) Of false b
in_any place kept info b i one h at = (
  (place_inside place b.mode b.token i at.0, λ k. never (sym k), cells_kept one),
  at.1,
  at.2,
  no_keep b,
)
  where
    cells_kept : (no_cell place ≡ true) ⊎ (ends_no_cell info ≡ true) → is_cell b.mode ≡ true → keeps_cells b.token ≡ true
    cells_kept (inl n) c = absurd (both_cells (is_cell b.mode) (no_cell_mode place b.mode b.token n at.0).1 c)
    cells_kept (inr e) c = ends_no_cell_so info b.token e h

use_html : (place : Where) (kept : Bool) (info : Info) (b : Building) → has_root place ≡ true → starts_one (codes "html" ∷ []) info ≡ true →
    holds_of info b.token ≡ true → LateAt place Of kept b → Ready (taken b (rules InBody)) b
use_html place kept info b r s h at = ready_for (Start (codes "html" ∷ [])) (Late place Of false) InBody b
    (starts_so (codes "html" ∷ []) info b.token s h) (unkept place Of kept b at) (html_in place r)

frames_only : (place : Where) → is_frames place ≡ true → Frames ≡ place
frames_only Frames h = refl
frames_only _ h = never h

use_body : (place : Where) (kept : Bool) (info : Info) (b : Building) → may_use (Late place Of kept) info InBody ≡ true →
    holds_of info b.token ≡ true → LateAt place Of kept b → Ready (taken b (rules InBody)) b
use_body place kept info b m h at = by (one_or_other (is_in place && (no_cell place || ends_no_cell info))
    ((has_root place && starts_one (codes "html" ∷ []) info) || (is_frames place && is_plain_info info)) m)
  where
    by_frames : (is_frames place ≡ true) × (is_plain_info info ≡ true) → Ready (taken b (rules InBody)) b
    by_frames two = use_plain info b two.1 h (unkept Frames Of kept b (subst (λ p. LateAt p Of kept b) (sym (frames_only place two.0)) at))

    by_rest : (has_root place && starts_one (codes "html" ∷ []) info ≡ true) ⊎ (is_frames place && is_plain_info info ≡ true) →
        Ready (taken b (rules InBody)) b
    by_rest (inl two) = use_html place kept info b (both _ _ two).0 (both _ _ two).1 h at
    by_rest (inr two) = by_frames (both _ _ two)

    by : (is_in place && (no_cell place || ends_no_cell info) ≡ true) ⊎ ((has_root place && starts_one (codes "html" ∷ []) info)
        || (is_frames place && is_plain_info info) ≡ true) → Ready (taken b (rules InBody)) b
    by (inl two) = ready_for (Any [] []) (Late (In true) Of false) InBody b (any_holds b.token) (in_any place kept info b (both _ _ two).0
        (one_or_other _ _ (both _ _ two).1) h at) passes_InBody
    by (inr rest) = by_rest (one_or_other _ _ rest)

-- what is known where the rules for a mode are used
abbrev pub Uses : Mode → Building → Type 0
Uses Dispatcher b = Turn b
Uses mode b = Ready (taken b (rules mode)) b

pub use_at : (level : Level) (info : Info) (mode : Mode) (b : Building) → may_use level info mode ≡ true → holds_of info b.token ≡ true →
    At level b → Uses mode b
use_at (Late place Of kept) info InHead b m h at = use_head place kept info b m h at
use_at (Late place Of kept) info InBody b m h at = use_body place kept info b m h at
use_at Before info InBody b m h at = ready_for (Start (codes "html" ∷ [])) Before InBody b (starts_so (codes "html" ∷ []) info b.token m h)
    at html_before
use_at (Late (In false) Of kept) info InTable b m h at = ready_for (Any [] []) (Late (In false) Of false) InTable b (any_holds b.token)
    (unkept (In false) Of kept b at) passes_InTable
use_at (Late (In true) Of kept) info InTemplate b m h at = ready_for (Any [] []) (Late (In true) Of false) InTemplate b (any_holds b.token)
    (unkept (In true) Of kept b at) passes_InTemplate
use_at (Late (In false) Of kept) info InTemplate b m h at =
    ready_for (Any [] []) (Late (In true) Of false) InTemplate b (any_holds b.token) (in_any (In false) kept info b refl (inl refl) h at)
    passes_InTemplate
use_at (Late Sorted Of kept) info ForeignContent b m h at = ready_for (Any [] []) (Late Sorted Of false) ForeignContent b
    (any_holds b.token) (unkept Sorted Of kept b at) passes_ForeignContent
use_at _ info mode b m h at = never m

-- ---- in the current mode

pub late : (place : Where) (b : Building) (m : Mode) → b.mode ≡ m → Is place m b.token → Content b.template_modes → TreeIs (own m) b.tree →
    LateAt place Of false b
late place b m e here c h = (subst (λ q. Is place q b.token) (sym e) here, c, subst (λ q. TreeIs (own q) b.tree) (sym e) h, no_keep b)

pub uses_current : (b : Building) → Turn b → Uses b.mode b
uses_current b turn = by b.mode refl turn.1
  where
    c : Content b.template_modes
    c = turn.0

    any : holds_of (Any [] []) b.token ≡ true
    any = any_holds b.token

    inside : (m : Mode) → b.mode ≡ m → is_inside m ≡ true → is_cell m ≡ false → TreeIs (own m) b.tree → LateAt (In false) Of false b
    inside m e i n h = late (In false) b m e (i, λ k. n, λ k. absurd (both_cells (is_cell m) n k)) c h

    inside_any : (m : Mode) → b.mode ≡ m → is_inside m ≡ true → is_cell m ≡ false → TreeIs (own m) b.tree → LateAt (In true) Of false b
    inside_any m e i n h = late (In true) b m e (i, λ k. n, λ k. absurd (both_cells (is_cell m) n k)) c h

    by : (m : Mode) → b.mode ≡ m → TurnIs m b → Uses m b
    by Dispatcher e h = absurd h.0
    by Initial e h = ready_for (Any [] []) Bare Initial b any (ap is_first e, c, h) passes_Initial
    by BeforeHtml e h = ready_for (Any [] []) Bare BeforeHtml b any (ap is_first e, c, h) passes_BeforeHtml
    by BeforeHead e h = ready_for (Any [] []) Before BeforeHead b any (e, c, h) passes_BeforeHead
    by InHead e h = ready_for (Any [] []) (Late (Exact InHead) Of false) InHead b any (late (Exact InHead) b InHead e refl c h)
        passes_InHead
    by InHeadNoscript e h = ready_for (Any [] []) (Late (Exact InHeadNoscript) Of false) InHeadNoscript b any
        (late (Exact InHeadNoscript) b InHeadNoscript e refl c h) passes_InHeadNoscript
    by AfterHead e h = ready_for (Any [] []) (Late (Exact AfterHead) Of false) AfterHead b any (late (Exact AfterHead) b AfterHead e refl c
        h) passes_AfterHead
    by InBody e h = ready_for (Any [] []) (Late (In true) Of false) InBody b any (inside_any InBody e refl refl h) passes_InBody
    by Text e h = ready_for (Any [] []) TextMode Text b any (e, c, h) passes_Text
    by InTable e h = ready_for (Any [] []) (Late (In false) Of false) InTable b any (inside InTable e refl refl h) passes_InTable
    by InTableText e h = ready_for (Any [] []) TableText InTableText b any (e, c, h.0, h.1, h.2) passes_InTableText
    by InCaption e h = ready_for (Any [] []) (Late (In false) Of false) InCaption b any (inside InCaption e refl refl h) passes_InCaption
    by InColumnGroup e h = ready_for (Any [] []) (Late (In false) Of false) InColumnGroup b any (inside InColumnGroup e refl refl h)
        passes_InColumnGroup
    by InTableBody e h = ready_for (Any [] []) (Late (In false) Of false) InTableBody b any (inside InTableBody e refl refl h)
        passes_InTableBody
    by InRow e h = ready_for (Any [] []) (Late (In false) Of false) InRow b any (inside InRow e refl refl h) passes_InRow
    by InCell e h = ready_for (Any [] []) (Late (Exact InCell) Of false) InCell b any (late (Exact InCell) b InCell e refl c h)
        passes_InCell
    by InTemplate e h = ready_for (Any [] []) (Late (In true) Of false) InTemplate b any (inside_any InTemplate e refl refl h)
        passes_InTemplate
    by AfterBody e h = ready_for (Any [] []) (Late (In false) Of false) AfterBody b any (inside AfterBody e refl refl h) passes_AfterBody
    by InFrameset e h = ready_for (Any [] []) (Late Frames Of false) InFrameset b any (late Frames b InFrameset e refl c h)
        passes_InFrameset
    by AfterFrameset e h = ready_for (Any [] []) (Late Frames Of false) AfterFrameset b any (late Frames b AfterFrameset e refl c h)
        passes_AfterFrameset
    by AfterAfterBody e h = ready_for (Any [] []) (Late (In false) Of false) AfterAfterBody b any (inside AfterAfterBody e refl refl h)
        passes_AfterAfterBody
    by AfterAfterFrameset e h = ready_for (Any [] []) (Late Frames Of false) AfterAfterFrameset b any
        (late Frames b AfterAfterFrameset e refl c h) passes_AfterAfterFrameset
    by ForeignContent e h = absurd h.0

-- ---- the dispatcher

-- elements of these names are in HTML
pub html_in_html : (kind : Kind) → is_among (key_in kind) (codes "html" ∷ []) ≡ true → is_html (space_in kind) ≡ true
html_in_html (ElementNode Html name attrs contents) h = refl
html_in_html (ElementNode Svg name attrs contents) h = never h
html_in_html (ElementNode MathMl name attrs contents) h = never h
html_in_html _ h = refl

head_in_html : (kind : Kind) → is_among (key_in kind) (codes "head" ∷ []) ≡ true → is_html (space_in kind) ≡ true
head_in_html (ElementNode Html name attrs contents) h = refl
head_in_html (ElementNode Svg name attrs contents) h = never h
head_in_html (ElementNode MathMl name attrs contents) h = never h
head_in_html _ h = refl

pub tabled_in_html : (kind : Kind) → is_among (key_in kind) tabled_names ≡ true → is_html (space_in kind) ≡ true
tabled_in_html (ElementNode Html name attrs contents) h = refl
tabled_in_html (ElementNode Svg name attrs contents) h = never h
tabled_in_html (ElementNode MathMl name attrs contents) h = never h
tabled_in_html _ h = refl

-- the current node is in HTML, and more elements are open; or it is `html`, and so is the context element, if there is one
current_in_html : (b : Building) → is_single b.tree.stack ≡ false → is_html (space_in (kind_of b.tree (current b.tree))) ≡ true →
    holds AdjustedCurrentNodeInHtml b ≡ true
current_in_html b more h =
    ap (λ x. is_html (space_in (cond x (unwrap_or b.tree.context (kind_of b.tree (current b.tree))) (kind_of b.tree (current b.tree))))) more ∙ h

whole_in_html : (b : Building) → is_whole b.tree.context ≡ true → is_html (space_in (kind_of b.tree (current b.tree))) ≡ true →
    holds AdjustedCurrentNodeInHtml b ≡ true
whole_in_html b whole h = by (is_single b.tree.stack) b.tree.context whole
  where
    by : (x : Bool) (o : Option Kind) → is_whole o ≡ true →
        is_html (space_in (cond x (unwrap_or o (kind_of b.tree (current b.tree))) (kind_of b.tree (current b.tree)))) ≡ true
    by true None w = h
    by true (Some kind) w = html_in_html kind w
    by false o w = h

-- no context element is there
pub page_in_html : (b : Building) → b.tree.context ≡ None → is_html (space_in (kind_of b.tree (current b.tree))) ≡ true →
    holds AdjustedCurrentNodeInHtml b ≡ true
page_in_html b none h = whole_in_html b (ap is_whole none) h

root_current : (b : Building) → (s : List ℕ) → IsRoot (labels b.tree.nodes) s → is_html (space_in (kind_of b.tree (top s))) ≡ true
root_current b [] h = absurd h
root_current b (r ∷ []) h = html_in_html (kind_of b.tree r) (kind_at html b.tree.nodes r h)
root_current b (r ∷ m ∷ ns) h = absurd h

head_current : (b : Building) → (s : List ℕ) → IsHead (labels b.tree.nodes) s → is_html (space_in (kind_of b.tree (top s))) ≡ true
head_current b [] h = absurd h
head_current b (n ∷ ns) h = head_in_html (kind_of b.tree n) (kind_at head b.tree.nodes n h.0)

held_current : (shape : Shape) (b : Building) → (s : List ℕ) → Stk (Held shape) (labels b.tree.nodes) s →
    is_html (space_in (kind_of b.tree (top s))) ≡ true
held_current shape b [] h = absurd h
held_current shape b (n ∷ ns) h = (both _ _ (kind_at held b.tree.nodes n h.0)).0

empty_now : (s : List ℕ) → s ≡ [] → is_empty s ≡ false → ⊥
empty_now [] e h = cc
empty_now (n ∷ ns) e h = cc

clash : {A : Type 0} (x : Bool) → x ≡ true → x ≡ false → A
clash true e f = cc
clash false e f = cc

-- where neither lets the rules for the current mode be used, the mode is one whose stack has such an end
pub sorted_turns : (b : Building) → Turn b → holds NoOpenElements b ≡ false → holds AdjustedCurrentNodeInHtml b ≡ false →
    LateAt Sorted Of false b
sorted_turns b turn filled foreign = by b.mode refl turn.1
  where
    here : (m : Mode) → b.mode ≡ m → sorted_mode m ≡ true → TreeIs (own m) b.tree → LateAt Sorted Of false b
    here m e s h = late Sorted b m e s turn.0 h

    none : is_single b.tree.stack ≡ false → is_html (space_in (kind_of b.tree (current b.tree))) ≡ true → LateAt Sorted Of false b
    none more h = clash (holds AdjustedCurrentNodeInHtml b) (current_in_html b more h) foreign

    tabled : is_inside b.original ≡ true → TreeIs (own b.original) b.tree → Good Inside (is_cell b.original) b.tree
    tabled i h = good_of Inside (is_cell b.original) b.original Of b.tree (inside_own b.original i) (inl refl) h

    by : (m : Mode) → b.mode ≡ m → TurnIs m b → LateAt Sorted Of false b
    by Dispatcher e h = absurd h.0
    by Initial e h = absurd (empty_now b.tree.stack h.0 filled)
    by BeforeHtml e h = absurd (empty_now b.tree.stack h.0 filled)
    by BeforeHead e h =
        clash (holds AdjustedCurrentNodeInHtml b) (whole_in_html b h.1.3 (root_current b b.tree.stack h.0)) foreign
    by InHead e h = none (head_more (labels b.tree.nodes) b.tree.stack h.0) (head_current b b.tree.stack h.0)
    by InHeadNoscript e h = none (held_more Head (labels b.tree.nodes) b.tree.stack h.0) (held_current Head b b.tree.stack h.0)
    by Text e h = none (held_more (own b.original) (labels b.tree.nodes) b.tree.stack h.0) (held_current (own b.original) b b.tree.stack h.0)
    by InTableText e h =
        none (inner_more Inside (labels b.tree.nodes) b.tree.stack (tabled h.1 h.0).0 h.2)
        (both (is_html (space_in (kind_of b.tree (current b.tree)))) _ (kind_at inner b.tree.nodes (top b.tree.stack) h.2)).0
    by ForeignContent e h = absurd h.0
    by AfterHead e h = here AfterHead e refl h
    by InBody e h = here InBody e refl h
    by InTable e h = here InTable e refl h
    by InCaption e h = here InCaption e refl h
    by InColumnGroup e h = here InColumnGroup e refl h
    by InTableBody e h = here InTableBody e refl h
    by InRow e h = here InRow e refl h
    by InCell e h = here InCell e refl h
    by InTemplate e h = here InTemplate e refl h
    by AfterBody e h = here AfterBody e refl h
    by InFrameset e h = here InFrameset e refl h
    by AfterFrameset e h = here AfterFrameset e refl h
    by AfterAfterBody e h = here AfterAfterBody e refl h
    by AfterAfterFrameset e h = here AfterAfterFrameset e refl h

abbrev pub EachActs : (List Act → Type 0) → List Rule → Type 0
EachActs P [] = P []
EachActs P (rule ps tests acts ∷ more) = P acts × EachActs P more

pub taken_among : (P : List Act → Type 0) (b : Building) (rs : List Rule) → EachActs P rs → P (taken b rs)
unfolding taken
taken_among P b [] h = h
taken_among P b (rule ps tests acts ∷ more) h = by (list_any (λ p. fits p b.token) ps) (list_all (is_met b) tests)
    (taken_among P b more h.1)
  where
    by : (x y : Bool) → P (taken b more) → P (elim x as (λ _. List Act) [
      | true ↦ elim y as (λ _. List Act) [
        | true ↦ acts
        | false ↦ taken b
            more
      ]
      | false ↦ taken b more
    ])
    by true true k = h.0
    by true false k = k
    by false y k = k

pub anything_met : (b : Building) (test : Test) (acts : List Act) (more : List Rule) → is_met b test ≡ true →
    taken b (rule (Anything ∷ []) (test ∷ []) acts ∷ more) ≡ acts
unfolding taken
anything_met b test acts more e = ap (λ x. elim (x && true) as (λ _. List Act) [ true ↦ acts | false ↦ taken b more ]) e

pub anything_unmet : (b : Building) (test : Test) (acts : List Act) (more : List Rule) → is_met b test ≡ false →
    taken b (rule (Anything ∷ []) (test ∷ []) acts ∷ more) ≡ taken b more
unfolding taken
anything_unmet b test acts more e = ap (λ x. elim (x && true) as (λ _. List Act) [ true ↦ acts | false ↦ taken b more ]) e

pub dispatched : (b : Building) → Turn b → Ready (taken b (rules Dispatcher)) b
unfolding rules
dispatched b turn = by (holds NoOpenElements b) (holds AdjustedCurrentNodeInHtml b) refl refl
  where
    current_mode : Ready (goes UseCurrentMode ∷ []) b
    current_mode = (Fine, Any [] [], [], any_holds b.token, turn, refl, refl)

    by : (x y : Bool) → holds NoOpenElements b ≡ x → holds AdjustedCurrentNodeInHtml b ≡ y → Ready (taken b (rules Dispatcher)) b
    by true y e f = subst (λ acts. Ready acts b) (sym (anything_met b (is NoOpenElements) (goes UseCurrentMode ∷ []) _ e)) current_mode
    by false true e f = subst (λ acts. Ready acts b)
        (sym (anything_unmet b (is NoOpenElements) (goes UseCurrentMode ∷ []) _ e ∙ anything_met b (is AdjustedCurrentNodeInHtml)
        (goes UseCurrentMode ∷ []) _ f)) current_mode
    by false false e f = subst (λ acts. Ready acts b)
        (sym (anything_unmet b (is NoOpenElements) (goes UseCurrentMode ∷ []) _ e ∙ anything_unmet b (is AdjustedCurrentNodeInHtml)
        (goes UseCurrentMode ∷ []) _ f))
        (taken_among (λ acts. Ready acts b) b _ (
          current_mode,
          (
            current_mode,
            (
              current_mode,
              (
                current_mode,
                (
                  current_mode,
                  (
                    current_mode,
                    (
                      (Late Sorted Of false, Any [] [], [], any_holds b.token, sorted_turns b turn e f, refl, refl),
                      (Fine, Any [] [], [], any_holds b.token, turn, refl, refl),
                    ),
                  ),
                ),
              ),
            ),
          ),
        ))

-- which acts are taken, and what is known when they begin
pub ready : (mode : Mode) (b : Building) → Uses mode b → Ready (taken b (rules mode)) b
ready Dispatcher b uses = dispatched b uses
ready _ b uses = uses
