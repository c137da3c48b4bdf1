-- In the body, each action leaves what is computed for it.
use Rattle.std.specs.Prelude.{◌≡◌, ◌&&◌, ◌||◌, ◌⊎◌, refl, ℕ, suc, Bool, true, false, not, List, [], ◌∷◌, Option, None, Some, bytes_eq, codes, filter, length, cond}
use Rattle.std.proofs.Common.{inl, inr}
use Rattle.std.specs.List.{list_all}
use Rattle.std.specs.Option.{option_map_or}
use Rattle.std.proofs.lemmas.Option.{same_Some}
use Rattle.std.proofs.lemmas.Slice.Eq.{bytes_eq-Decides}
use mathlib.Core.Path.{◌∙◌, sym, ap, subst}
use Rattle.standard_tokens.specs.Tokens.{AChar, AComment, ADoctype, AStart, AnEnd, AnEof, Token}
use Rattle.standard_trees.specs.NameLists.{table_body_context, table_context, table_row_context}
use Rattle.standard_trees.specs.RuleWords.{Action, AllImpliedEndTags, AnyOtherEndTag, CurrentNode, FramesetNotOk, InScope, InTemplate, InsertElement, InsertMathmlElement}
use Rattle.standard_trees.specs.RuleWords.{AfterAfterFrameset, AfterFrameset, AfterHead, BeforeHead, InFrameset, InHead, InHeadNoscript, InTableText}
use Rattle.standard_trees.specs.RuleWords.{InRow, InTable, InTableBody}
use Rattle.standard_trees.specs.RuleWords.{InsertNamed, InsertSvgElement, KeepMode, Mode, Names, Own, Pop, PopTemplateMode, PopUntil, PopUntilOwnInAnyCase, PopUpTo, PushTemplateMode}
use Rattle.standard_trees.specs.RuleWords.{RemoveBody, ResetMode, ScopeKind, SwitchBack, SwitchTo, TableScope, Test, Text, These, is, isnt}
use Rattle.standard_trees.specs.TreeStore.{ElementNode, Html, Node, NodeAttr, Space, node_at}
use Rattle.standard_trees.specs.GrowingTree.{GrowingTree, created_element, current, ends_scope, fresh, in_scope, inserted, is_among, is_one, past, place, popped_until, second}
use Rattle.standard_trees.specs.GrowingTree.{topmost, with_stack}
use Rattle.standard_trees.specs.Building.{Building, is_met, own_name, perform}
use Rattle.standard_order.proofs.StandingStacks.{both, never}
use Rattle.standard_order.proofs.Levels.{Info, Level, Start, next_of, own_apart}
use Rattle.standard_order.proofs.LevelFacts.{At}
use Rattle.standard_order.proofs.LevelTrees.{holds_of}
use Rattle.standard_order.proofs.LevelSteps.{either_way}
use Rattle.standard_order.proofs.LevelNext.{after}
use Rattle.standard_order.proofs.NodeTags.{BodyC, CaptionC, CellC, Cls, GroupC, HtmlC, PlainC, RowC, TableC, TemplateC, class_at, classes, is_element, name_class, tags, tags_put}
use Rattle.standard_order.proofs.TreeTops.{fresh_passes}
use Rattle.standard_order.proofs.AdoptionTops.{is_not}
use Rattle.standard_order.proofs.Chains.{Site, above, at_most, chain, context, counted_on, first, first_deep, has_body, is_inner, is_plain, is_table, is_template, of, on}
use Rattle.standard_order.proofs.PartTrees.{In as InTree, cls, named_class}
use Rattle.standard_order.proofs.PartPlaces.{in_inserted}
use Rattle.standard_order.proofs.PartTables.{InAt, in_opened, is_opened, opened_inner, same_inner, same_is, same_none, same_self}
use Rattle.standard_order.proofs.PartRows.{in_body_context, in_row_context, in_table_context, is_bound}
use Rattle.standard_order.proofs.PartScopes.{home}
use Rattle.standard_order.proofs.PartSteps.{in_performed, is_ordinary, odd_names, own_plain}
use Rattle.standard_order.proofs.PartPhases.{Among, BodyAt, BodySecond, Few, Fitting, HomeAt, Inner, InnerAt, Innermost, KeptIs, NoPeak, Ordinary, Peak, PeakIs, Phase, PhaseAt, Range}
use Rattle.standard_order.proofs.PartPhases.{RangeIs, TextAt, Told, ToldAmong, Unknown, classes_in, has_class, inner_classes, is_innermost, is_low, is_told}
use Rattle.standard_order.proofs.PartPhases.{kept_after, keeps_peak, made_next, may_open, named_next, opened_next, ordinary_next, part_of, peak_after}
use Rattle.standard_order.proofs.PartPhases.{same_names, some_if, told_class, under, unfitted, up_to_next}

-- ---- what a phase says

pub none_some : {A P : Type 0} {x : A} → None ≡ Some x → P
none_some e = cc

pub some_so : (r : ℕ) (x : Bool) (phase next : Phase) (b : Building) → some_if x phase ≡ Some next → (x ≡ true → PhaseAt r phase b) → PhaseAt r next b
some_so r true phase next b e h = subst (λ p. PhaseAt r p b) (same_Some phase next e) (h refl)
some_so r false phase next b e h = none_some e

pub it_is : (r : ℕ) (phase next : Phase) (b : Building) → Some phase ≡ Some next → PhaseAt r phase b → PhaseAt r next b
it_is r phase next b e h = subst (λ p. PhaseAt r p b) (same_Some phase next e) h

pub body_home : (mode : Mode) (r : ℕ) (b : Building) → BodyAt mode r b → HomeAt mode r b
body_home BeforeHead r b (c, i, h, f) = never h
body_home InHead r b (c, i, h, f) = never h
body_home InHeadNoscript r b (c, i, h, f) = never h
body_home AfterHead r b (c, i, h, f) = never h
body_home InFrameset r b (c, i, h, f) = never h
body_home AfterFrameset r b (c, i, h, f) = never h
body_home AfterAfterFrameset r b (c, i, h, f) = never h
body_home Text r b (c, i, h, f) = never h
body_home InTableText r b (c, i, h, f) = never h
body_home _ r b body = body

pub body_text : (mode : Mode) (r : ℕ) (b : Building) → (c : Site) → InTree r c b.tree → home mode c.inner ≡ true → Few c b →
    is_plain (class_at (tags b.tree.nodes) (current b.tree)) ≡ true → TextAt mode r b
body_text InHead r b c i h f p = never h
body_text InHeadNoscript r b c i h f p = never h
body_text AfterHead r b c i h f p = never h
body_text InFrameset r b c i h f p = never h
body_text AfterFrameset r b c i h f p = never h
body_text AfterAfterFrameset r b c i h f p = never h
body_text _ r b c i h f p = (c, i, h, f, p)

-- ---- classes

inner_all : (c : Cls) → is_inner c ≡ true → has_class inner_classes c ≡ true
inner_all BodyC h = refl
inner_all TemplateC h = refl
inner_all TableC h = refl
inner_all GroupC h = refl
inner_all RowC h = refl
inner_all CellC h = refl
inner_all CaptionC h = refl
inner_all _ h = never h

pub class_told : (r : ℕ) (range : Range) (c : Site) (b : Building) → InTree r c b.tree → RangeIs range c b → has_class (classes_in range) c.inner ≡ true
class_told r Told c b i h = inner_all c.inner i.inner
class_told r Fitting c b i h = inner_all c.inner i.inner
class_told r Unknown c b i h = inner_all c.inner i.inner
class_told r (ToldAmong cs) c b i h = h.1
class_told r (Among cs) c b i h = h

pub told_home : (range : Range) (c : Site) (b : Building) → is_told range ≡ true → RangeIs range c b → home b.mode c.inner ≡ true
told_home Told c b t h = h
told_home Fitting c b t h = h.0
told_home (ToldAmong cs) c b t h = h.0
told_home Unknown c b t h = never t
told_home (Among cs) c b t h = never t

pub each_class : (P : Cls → Bool) (cs : List Cls) (c : Cls) → list_all P cs ≡ true → has_class cs c ≡ true → P c ≡ true
each_class P [] c all h = never h
each_class P (d ∷ ds) c all h = by (same_inner d c) refl h (λ k. each_class P ds c (both (P d) (list_all P ds) all).1 k)
  where
    by : (x : Bool) → same_inner d c ≡ x → x || has_class ds c ≡ true → (has_class ds c ≡ true → P c ≡ true) → P c ≡ true
    by true e k go = ap P (same_is d c e) ∙ (both (P d) (list_all P ds) all).0
    by false e k go = go k

pub has_filtered : (P : Cls → Bool) (cs : List Cls) (c : Cls) → P c ≡ true → has_class cs c ≡ true → has_class (filter P cs) c ≡ true
has_filtered P [] c p h = h
has_filtered P (d ∷ ds) c p h = by (same_inner d c) (P d) refl refl h (λ k. has_filtered P ds c p k)
  where
    by : (x y : Bool) → same_inner d c ≡ x → P d ≡ y → x || has_class ds c ≡ true → (has_class ds c ≡ true → has_class (filter P ds) c ≡ true) →
        has_class (cond y (d ∷ filter P ds) (filter P ds)) c ≡ true
    by true true e f k go = ap (λ x. x || has_class (filter P ds) c) e
    by true false e f k go = never (sym f ∙ subst (λ x. P x ≡ true) (same_is d c e) p)
    by false true e f k go = ap (λ x. x || has_class (filter P ds) c) e ∙ go k
    by false false e f k go = go k

pub has_one : (c : Cls) → is_inner c ≡ true → has_class (c ∷ []) c ≡ true
has_one c h = ap (λ x. x || false) (same_self c h)

pub one_has : (d c : Cls) → has_class (d ∷ []) c ≡ true → c ≡ d
one_has d c h = by (same_inner d c) refl h
  where
    by : (x : Bool) → same_inner d c ≡ x → x || false ≡ true → c ≡ d
    by true e k = same_is d c e
    by false e k = never k

pub part_is : (cs : List Cls) (c : Cls) → is_bound (part_of cs) ≡ true → has_class cs c ≡ true → c ≡ part_of cs
part_is [] c b h = never b
part_is (d ∷ []) c b h = one_has d c h
part_is (d ∷ e ∷ es) c b h = never b

pub under_has : (c d : Cls) → on c d ≡ true → is_inner d ≡ true → has_class (under c) d ≡ true
under_has c d o i = has_filtered (on c) inner_classes d o (inner_all d i)

pub range_same : (range : Range) (c : Site) (b u : Building) → u.mode ≡ b.mode → RangeIs range c b → RangeIs (unfitted range) c u
range_same Told c b u e h = ap (λ m. home m c.inner) e ∙ h
range_same Fitting c b u e h = ap (λ m. home m c.inner) e ∙ h.0
range_same Unknown c b u e h = tt
range_same (ToldAmong cs) c b u e h = (ap (λ m. home m c.inner) e ∙ h.0, h.1)
range_same (Among cs) c b u e h = h

pub names_same : (xs ys : List (List ℕ)) → same_names xs ys ≡ true → xs ≡ ys
names_same [] [] h = refl
names_same (x ∷ xs) (y ∷ ys) h =
    let two : (bytes_eq x y ≡ true) × (same_names xs ys ≡ true) = both (bytes_eq x y) (same_names xs ys) h in
    ap (λ n. n ∷ xs) ((bytes_eq-Decides x y).0 two.0) ∙ ap (λ ns. y ∷ ns) (names_same xs ys two.1)
names_same [] (y ∷ ys) h = never h
names_same (x ∷ xs) [] h = never h

-- ---- actions on ordinary elements

ordinary_mode : (now : Bool) (info : Info) (action : Action) (b : Building) → is_ordinary now info action ≡ true → (perform action b).mode ≡ b.mode
unfolding perform
ordinary_mode now info SwitchBack b h = never h
ordinary_mode now info ResetMode b h = never h
ordinary_mode now info (SwitchTo mode) b h = never h
ordinary_mode now info _ b h = refl

ordinary_modes : (now : Bool) (info : Info) (action : Action) (b : Building) → is_ordinary now info action ≡ true → (perform action b).template_modes ≡ b.template_modes
unfolding perform
ordinary_modes now info PopTemplateMode b h = never h
ordinary_modes now info (PushTemplateMode mode) b h = never h
ordinary_modes now info _ b h = refl

peak_nodes : (action : Action) (b : Building) → keeps_peak action ≡ true → (perform action b).tree.nodes ≡ b.tree.nodes
unfolding perform
peak_nodes Rattle.standard_trees.specs.RuleWords.ListMarker b h = refl
peak_nodes Rattle.standard_trees.specs.RuleWords.ListElement b h = refl
peak_nodes Rattle.standard_trees.specs.RuleWords.SetFormPointer b h = refl
peak_nodes FramesetNotOk b h = refl
peak_nodes Rattle.standard_trees.specs.RuleWords.SkipNextLineFeed b h = refl
peak_nodes (Rattle.standard_trees.specs.RuleWords.TokenizerTo state) b h = refl
peak_nodes KeepMode b h = refl
peak_nodes Rattle.standard_trees.specs.RuleWords.AdjustMathmlAttributes b h = refl
peak_nodes Rattle.standard_trees.specs.RuleWords.AdjustSvgAttributes b h = refl
peak_nodes Rattle.standard_trees.specs.RuleWords.AdjustForeignAttributes b h = refl
peak_nodes Rattle.standard_trees.specs.RuleWords.AdjustSvgName b h = refl
peak_nodes _ b h = never h

peak_stack : (action : Action) (b : Building) → keeps_peak action ≡ true → (perform action b).tree.stack ≡ b.tree.stack
unfolding perform
peak_stack Rattle.standard_trees.specs.RuleWords.ListMarker b h = refl
peak_stack Rattle.standard_trees.specs.RuleWords.ListElement b h = refl
peak_stack Rattle.standard_trees.specs.RuleWords.SetFormPointer b h = refl
peak_stack FramesetNotOk b h = refl
peak_stack Rattle.standard_trees.specs.RuleWords.SkipNextLineFeed b h = refl
peak_stack (Rattle.standard_trees.specs.RuleWords.TokenizerTo state) b h = refl
peak_stack KeepMode b h = refl
peak_stack Rattle.standard_trees.specs.RuleWords.AdjustMathmlAttributes b h = refl
peak_stack Rattle.standard_trees.specs.RuleWords.AdjustSvgAttributes b h = refl
peak_stack Rattle.standard_trees.specs.RuleWords.AdjustForeignAttributes b h = refl
peak_stack Rattle.standard_trees.specs.RuleWords.AdjustSvgName b h = refl
peak_stack _ b h = never h

abbrev pub PeakOf : Peak → Site → List Node → List ℕ → Type 0
PeakOf NoPeak c nodes s = Unit {0}
PeakOf Ordinary c nodes s = is_plain (class_at (tags nodes) (Rattle.standard_trees.specs.GrowingTree.top s)) ≡ true
PeakOf Innermost c nodes s = first (of (class_at (tags nodes)) s) ≡ c.inner
PeakOf BodySecond c nodes s =
    option_map_or (λ n. Rattle.standard_trees.specs.GrowingTree.is_named (codes "body" ∷ []) (node_at nodes n).kind) (second s) false ≡ true

peak_of : (peak : Peak) (c : Site) (t : GrowingTree) → PeakIs peak c t → PeakOf peak c t.nodes t.stack
peak_of NoPeak c t h = h
peak_of Ordinary c t h = h
peak_of Innermost c t h = h
peak_of BodySecond c t h = h

of_peak : (peak : Peak) (c : Site) (t : GrowingTree) → PeakOf peak c t.nodes t.stack → PeakIs peak c t
of_peak NoPeak c t h = h
of_peak Ordinary c t h = h
of_peak Innermost c t h = h
of_peak BodySecond c t h = h

peak_done : (peak : Peak) (action : Action) (c : Site) (b : Building) → PeakIs peak c b.tree → PeakIs (peak_after peak action) c (perform action b).tree
peak_done peak action c b h = by (keeps_peak action) refl
  where
    by : (x : Bool) → keeps_peak action ≡ x → PeakIs (elim x as (λ _. Peak) [ true ↦ peak | false ↦ NoPeak ]) c (perform action b).tree
    by true e = of_peak peak c (perform action b).tree
        (subst (λ nodes. PeakOf peak c nodes (perform action b).tree.stack) (sym (peak_nodes action b e))
        (subst (PeakOf peak c b.tree.nodes) (sym (peak_stack action b e)) (peak_of peak c b.tree h)))
    by false e = tt

peak_left : (peak : Peak) (action : Action) (c : Site) (t : GrowingTree) → PeakIs peak c t → PeakIs (peak_after peak action) c t
peak_left peak action c t h = by (keeps_peak action)
  where
    by : (x : Bool) → PeakIs (elim x as (λ _. Peak) [ true ↦ peak | false ↦ NoPeak ]) c t
    by true = h
    by false = tt

kept_done : (kept : Bool) (action : Action) (tests : List Test) (b : Building) → KeptIs kept b → KeptIs (kept_after kept action tests) (perform action b)
unfolding perform
kept_done kept KeepMode [] b h = λ k. refl
kept_done kept KeepMode (test ∷ tests) b h = λ k. never k
kept_done kept FramesetNotOk tests b h = h
kept_done kept _ tests b h = λ k. never k

kept_left : (kept : Bool) (action : Action) (test : Test) (tests : List Test) (b : Building) → KeptIs kept b → KeptIs (kept_after kept action (test ∷ tests)) b
kept_left kept FramesetNotOk test tests b h = h
kept_left kept _ test tests b h = λ k. never k

pub low_plain : (peak : Peak) (c : Site) (t : GrowingTree) → PeakIs peak c t → is_low peak ≡ true → is_plain (class_at (tags t.nodes) (current t)) ≡ true
low_plain Ordinary c t h l = h
low_plain NoPeak c t h l = never l
low_plain Innermost c t h l = never l
low_plain BodySecond c t h l = never l

ordinary_done : (r : ℕ) (level : Level) (range : Range) (peak : Peak) (kept sure : Bool) (info : Info) (action : Action) (tests : List Test) (b : Building) (new : Level) →
    is_ordinary (is_low peak) info action ≡ true → holds_of info b.token ≡ true → next_of level info action tests ≡ Some new → At level b →
    InnerAt r range peak kept sure b → InnerAt r (unfitted range) (peak_after peak action) (kept_after kept action tests) false (perform action b)
ordinary_done r level range peak kept sure info action tests b new o h e at (c, i, ranged, few, peaked, was, sured) = (
  c,
  in_performed r c (is_low peak) level info action tests b new o (low_plain peak c b.tree peaked) h e at i,
  range_same range c b (perform action b) (ordinary_mode (is_low peak) info action b o) ranged,
  subst (λ modes. at_most c.templates (length modes) ≡ true) (sym (ordinary_modes (is_low peak) info action b o)) few,
  peak_done peak action c b peaked,
  kept_done kept action tests b was,
  tt,
)

pub ordinary_at : (r : ℕ) (level : Level) (range : Range) (peak : Peak) (kept sure : Bool) (info : Info) (action : Action) (tests : List Test) (b : Building) (new : Level)
    (next : Phase) → holds_of info b.token ≡ true → next_of level info action tests ≡ Some new → At level b →
    ordinary_next range peak kept info action tests ≡ Some next → InnerAt r range peak kept sure b → PhaseAt r next (after tests action b)
ordinary_at r level range peak kept sure info action [] b new next h e at f inner =
    some_so r (is_ordinary (is_low peak) info action) _ next (perform action b) f
    (λ o. ordinary_done r level range peak kept sure info action [] b new o h e at inner)
ordinary_at r level range peak kept sure info action (test ∷ tests) b new next h e at f inner =
    some_so r (is_ordinary (is_low peak) info action) _ next (after (test ∷ tests) action b) f
    (λ o. either_way (InnerAt r (unfitted range) (peak_after peak action) (kept_after kept action (test ∷ tests)) false) (list_all (is_met b) (test ∷ tests)) b
    (perform action b) (ordinary_done r level range peak kept sure info action (test ∷ tests) b new o h e at inner) (left inner))
  where
    left : InnerAt r range peak kept sure b → InnerAt r (unfitted range) (peak_after peak action) (kept_after kept action (test ∷ tests)) false b
    left (c, i, ranged, few, peaked, was, sured) =
        (c, i, range_same range c b b refl ranged, few, peak_left peak action c b.tree peaked, kept_left kept action test tests b was, tt)

-- ---- another tree

-- in the same mode, where nothing else is known of the current node
pub with_tree_at : (r : ℕ) (range : Range) (peak : Peak) (c : Site) (b : Building) (t : GrowingTree) → InTree r c t → RangeIs range c b → Few c b → PeakIs peak c t →
    InnerAt r (unfitted range) peak false false (record b { tree = t })
with_tree_at r range peak c b t i ranged few peaked = (c, i, range_same range c b (record b { tree = t }) refl ranged, few, peaked, λ k. never k, tt)

pub among_at : (r : ℕ) (cs : List Cls) (peak : Peak) (c : Site) (b : Building) (t : GrowingTree) → InTree r c t → has_class cs c.inner ≡ true → Few c b → PeakIs peak c t →
    InnerAt r (Among cs) peak false false (record b { tree = t })
among_at r cs peak c b t i has few peaked = (c, i, has, few, peaked, λ k. never k, tt)

-- ---- elements that are inserted

new_plain : (space : Space) (name : List ℕ) (attrs : List NodeAttr) (t : GrowingTree) →
    ((contents : Option ℕ) → is_plain (Rattle.standard_order.proofs.NodeTags.kind_class (ElementNode space name attrs contents)) ≡ true) →
    is_plain (class_at (tags (inserted space name attrs t).nodes) (current (inserted space name attrs t))) ≡ true
new_plain space name attrs t p =
    subst (λ ts. is_plain (class_at ts (fresh t)) ≡ true) (sym (tags_put (fresh t) (place t) (created_element space name attrs t).nodes))
    (fresh_passes is_plain refl space name attrs p t)

inserted_at : (r : ℕ) (range : Range) (c : Site) (b : Building) (space : Space) (name : List ℕ) (attrs : List NodeAttr) →
    ((contents : Option ℕ) → is_plain (Rattle.standard_order.proofs.NodeTags.kind_class (ElementNode space name attrs contents)) ≡ true) →
    InTree r c b.tree → RangeIs range c b → Few c b → InnerAt r (unfitted range) Ordinary false false (record b { tree = inserted space name attrs b.tree })
inserted_at r range c b space name attrs p i ranged few =
    with_tree_at r range Ordinary c b (inserted space name attrs b.tree) (in_inserted r c space name attrs b.tree p i) ranged few (new_plain space name attrs b.tree p)

new_class : (d : Cls) (name : List ℕ) (attrs : List NodeAttr) (t : GrowingTree) → name_class name ≡ d → is_inner d ≡ true →
    class_at (tags (inserted Html name attrs t).nodes) (fresh t) ≡ d
new_class d name attrs t e i =
    same_is d _ (subst (λ ts. same_inner d (class_at ts (fresh t)) ≡ true) (sym (tags_put (fresh t) (place t) (created_element Html name attrs t).nodes))
    (fresh_passes (same_inner d) (same_none d) Html name attrs (λ contents. ap (same_inner d) e ∙ same_self d i) t))

class_named : (info : Info) (token : Token) → is_inner (told_class info) ≡ true → holds_of info token ≡ true → name_class (own_name token) ≡ told_class info
class_named (Start []) token i h = never i
class_named (Start (one ∷ more)) (AStart name attrs closing) i h =
    by (list_all (λ n. same_inner (name_class one) (name_class n)) (one ∷ more)) refl i
  where
    by : (x : Bool) → list_all (λ n. same_inner (name_class one) (name_class n)) (one ∷ more) ≡ x →
        is_inner (elim x as (λ _. Cls) [ true ↦ name_class one | false ↦ Rattle.standard_order.proofs.NodeTags.NoC ]) ≡ true →
        name_class name ≡ elim x as (λ _. Cls) [ true ↦ name_class one | false ↦ Rattle.standard_order.proofs.NodeTags.NoC ]
    by true e k = same_is (name_class one) (name_class name) (named_class (same_inner (name_class one)) name (one ∷ more) e h)
    by false e k = never k
class_named (Start (one ∷ more)) (AnEnd name) i h = never h
class_named (Start (one ∷ more)) (AChar x) i h = never h
class_named (Start (one ∷ more)) (AComment text) i h = never h
class_named (Start (one ∷ more)) (ADoctype d) i h = never h
class_named (Start (one ∷ more)) AnEof i h = never h
class_named _ token i h = never i

named_class_is : (name : List ℕ) → is_inner (told_class (Start (name ∷ []))) ≡ true → name_class name ≡ told_class (Start (name ∷ []))
named_class_is name i = by (same_inner (name_class name) (name_class name) && true) i
  where
    by : (x : Bool) → is_inner (elim x as (λ _. Cls) [ true ↦ name_class name | false ↦ Rattle.standard_order.proofs.NodeTags.NoC ]) ≡ true →
        name_class name ≡ elim x as (λ _. Cls) [ true ↦ name_class name | false ↦ Rattle.standard_order.proofs.NodeTags.NoC ]
    by true k = refl
    by false k = never k

counted_same : (d : Cls) (n : ℕ) → not (is_template d) ≡ true → counted_on d n ≡ n
counted_same d n h = ap (λ x. elim x as (λ _. ℕ) [ true ↦ suc n | false ↦ n ]) (is_not (is_template d) h)

innermost_first : (peak : Peak) (c : Site) (t : GrowingTree) → PeakIs peak c t → is_innermost peak ≡ true → first (cls t) ≡ c.inner
innermost_first Innermost c t h l = h
innermost_first NoPeak c t h l = never l
innermost_first Ordinary c t h l = never l
innermost_first BodySecond c t h l = never l

pub either_so : (x y : Bool) → x || y ≡ true → (x ≡ true) ⊎ (y ≡ true)
either_so true y h = inl refl
either_so false y h = inr h

table_on : (d : Cls) → is_table d ≡ true → (e : Cls) → Rattle.standard_order.proofs.Chains.is_deep e ≡ true → on d e ≡ true
table_on TableC h e k = k
table_on _ h e k = never h

opened_at : (r : ℕ) (range : Range) (peak : Peak) (kept sure : Bool) (d : Cls) (name : List ℕ) (attrs : List NodeAttr) (b : Building) →
    (is_inner d ≡ true → name_class name ≡ d) → may_open d range peak ≡ true → InnerAt r range peak kept sure b →
    InnerAt r (Among (d ∷ [])) Innermost false false (record b { tree = inserted Html name attrs b.tree })
opened_at r range peak kept sure d name attrs b named may (c, i, ranged, few, peaked, was, sured) =
    among_at r (d ∷ []) Innermost (above d c) b (inserted Html name attrs b.tree) (in_opened r c d name attrs b.tree (named inner) two.0 stands i)
    (has_one d inner) (ap (λ n. at_most n (length b.template_modes)) (counted_same d c.templates more.0) ∙ few) (new_class d name attrs b.tree (named inner) inner)
  where
    two : (is_opened d ≡ true) × (not (is_template d) && (is_table d || (is_innermost peak && list_all (on d) (classes_in range))) ≡ true)
    two = both (is_opened d) _ may

    more : (not (is_template d) ≡ true) × (is_table d || (is_innermost peak && list_all (on d) (classes_in range)) ≡ true)
    more = both (not (is_template d)) _ two.1

    inner : is_inner d ≡ true
    inner = opened_inner d two.0

    stands : on d (first (cls b.tree)) ≡ true
    stands = by (either_so (is_table d) (is_innermost peak && list_all (on d) (classes_in range)) more.1)
      where
        by : (is_table d ≡ true) ⊎ (is_innermost peak && list_all (on d) (classes_in range) ≡ true) → on d (first (cls b.tree)) ≡ true
        by (inl t) = table_on d t (first (cls b.tree)) (first_deep (cls b.tree) (ap is_inner i.within ∙ i.inner))
        by (inr k) =
            let these : (is_innermost peak ≡ true) × (list_all (on d) (classes_in range) ≡ true) = both (is_innermost peak) _ k in
            ap (on d) (innermost_first peak c b.tree peaked these.0) ∙ each_class (on d) (classes_in range) c.inner these.1 (class_told r range c b i ranged)

pub made_at : (r : ℕ) (range : Range) (peak : Peak) (kept sure : Bool) (info : Info) (b : Building) (next : Phase) → holds_of info b.token ≡ true →
    made_next range peak info ≡ Some next → InnerAt r range peak kept sure b → PhaseAt r next (record b { tree = inserted Html (own_name b.token) b.attrs b.tree })
made_at r range peak kept sure info b next h f inner = by (own_apart odd_names info) refl f
  where
    ordinary : own_apart odd_names info ≡ true → InnerAt r range peak kept sure b →
        InnerAt r (unfitted range) Ordinary false false (record b { tree = inserted Html (own_name b.token) b.attrs b.tree })
    ordinary o (c, i, ranged, few, peaked, was, sured) =
        inserted_at r range c b Html (own_name b.token) b.attrs (λ contents. own_plain info b.token o h) i ranged few

    by : (x : Bool) → own_apart odd_names info ≡ x →
        elim x as (λ _. Option Phase) [ true ↦ Some (Inner (unfitted range) Ordinary false false) | false ↦ opened_next range peak info ] ≡ Some next →
        PhaseAt r next (record b { tree = inserted Html (own_name b.token) b.attrs b.tree })
    by true o g = it_is r _ next _ g (ordinary o inner)
    by false o g = some_so r (may_open (told_class info) range peak) _ next _ g
        (λ may. opened_at r range peak kept sure (told_class info) (own_name b.token) b.attrs b (λ d. class_named info b.token d h) may inner)

pub named_at : (r : ℕ) (range : Range) (peak : Peak) (kept sure : Bool) (name : List ℕ) (b : Building) (next : Phase) →
    named_next range peak name ≡ Some next → InnerAt r range peak kept sure b → PhaseAt r next (record b { tree = inserted Html name [] b.tree })
named_at r range peak kept sure name b next f inner = by (is_plain (name_class name)) refl f
  where
    ordinary : is_plain (name_class name) ≡ true → InnerAt r range peak kept sure b →
        InnerAt r (unfitted range) Ordinary false false (record b { tree = inserted Html name [] b.tree })
    ordinary o (c, i, ranged, few, peaked, was, sured) = inserted_at r range c b Html name [] (λ contents. o) i ranged few

    by : (x : Bool) → is_plain (name_class name) ≡ x →
        elim x as (λ _. Option Phase) [ true ↦ Some (Inner (unfitted range) Ordinary false false) | false ↦ opened_next range peak (Start (name ∷ [])) ] ≡ Some next →
        PhaseAt r next (record b { tree = inserted Html name [] b.tree })
    by true o g = it_is r _ next _ g (ordinary o inner)
    by false o g = some_so r (may_open (told_class (Start (name ∷ []))) range peak) _ next _ g
        (λ may. opened_at r range peak kept sure (told_class (Start (name ∷ []))) name [] b (λ d. named_class_is name d) may inner)

pub foreign_at : (r : ℕ) (range : Range) (peak : Peak) (kept sure : Bool) (space : Space) (name : List ℕ) (attrs : List NodeAttr) (b : Building) →
    ((contents : Option ℕ) → is_plain (Rattle.standard_order.proofs.NodeTags.kind_class (ElementNode space name attrs contents)) ≡ true) →
    InnerAt r range peak kept sure b → InnerAt r (unfitted range) Ordinary false false (record b { tree = inserted space name attrs b.tree })
foreign_at r range peak kept sure space name attrs b p (c, i, ranged, few, peaked, was, sured) = inserted_at r range c b space name attrs p i ranged few

-- ---- elements that are popped

pub up_to_at : (r : ℕ) (range : Range) (peak : Peak) (kept sure : Bool) (names : List (List ℕ)) (b : Building) (next : Phase) → up_to_next range names ≡ Some next →
    InnerAt r range peak kept sure b → PhaseAt r next (record b { tree = Rattle.standard_trees.specs.GrowingTree.popped_up_to names b.tree })
up_to_at r range peak kept sure names b next f (c, i, ranged, few, peaked, was, sured) =
    some_so r _ (Inner (unfitted range) Innermost false false) next _ f (λ h. by (either_so _ _ h))
  where
    at : (others : List (List ℕ)) → same_names names others ≡ true → InAt r c (Rattle.standard_trees.specs.GrowingTree.popped_up_to others b.tree) →
        InnerAt r (unfitted range) Innermost false false (record b { tree = Rattle.standard_trees.specs.GrowingTree.popped_up_to names b.tree })
    at others same one =
        subst (λ ns. InnerAt r (unfitted range) Innermost false false (record b { tree = Rattle.standard_trees.specs.GrowingTree.popped_up_to ns b.tree }))
        (sym (names_same names others same))
        (with_tree_at r range Innermost c b (Rattle.standard_trees.specs.GrowingTree.popped_up_to others b.tree) one.now ranged few one.top_)

    told : (P : Cls → Bool) → list_all P (classes_in range) ≡ true → P c.inner ≡ true
    told P all = each_class P (classes_in range) c.inner all (class_told r range c b i ranged)

    rest : (same_names names table_body_context && list_all (home InTableBody) (classes_in range) ≡ true)
        ⊎ (same_names names table_row_context && list_all (home InRow) (classes_in range) ≡ true) →
        InnerAt r (unfitted range) Innermost false false (record b { tree = Rattle.standard_trees.specs.GrowingTree.popped_up_to names b.tree })
    rest (inl k) = at table_body_context (both _ _ k).0 (in_body_context r c b.tree (told (home InTableBody) (both (same_names names table_body_context) _ k).1) i)
    rest (inr k) = at table_row_context (both _ _ k).0 (in_row_context r c b.tree (told (home InRow) (both (same_names names table_row_context) _ k).1) i)

    by : (same_names names table_context && list_all (home InTable) (classes_in range) ≡ true)
        ⊎ ((same_names names table_body_context && list_all (home InTableBody) (classes_in range)) ||
        (same_names names table_row_context && list_all (home InRow) (classes_in range)) ≡ true) →
        InnerAt r (unfitted range) Innermost false false (record b { tree = Rattle.standard_trees.specs.GrowingTree.popped_up_to names b.tree })
    by (inl k) = at table_context (both _ _ k).0 (in_table_context r c b.tree (told (home InTable) (both (same_names names table_context) _ k).1) i)
    by (inr k) = rest (either_so _ _ k)
