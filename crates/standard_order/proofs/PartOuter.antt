-- Before the body, in framesets, in texts and around templates each action leaves what is computed for it.
use Rattle.std.specs.Prelude.{◌≡◌, ◌&&◌, ◌||◌, ◌⊎◌, refl, ℕ, zero, suc, Bool, true, false, not, List, [], ◌∷◌, Option, None, Some, bytes_eq, codes, drop, length, reverse, unwrap_or}
use Rattle.std.proofs.Common.{inl, inr}
use Rattle.std.specs.List.{list_all}
use Rattle.std.proofs.lemmas.Slice.Eq.{bytes_eq-Decides}
use mathlib.Core.Path.{◌∙◌, sym, ap, subst}
use Rattle.standard_tokens.specs.Tokens.{Token}
use Rattle.standard_trees.specs.RuleWords.{Action, AddToPending, AdjustForeignAttributes, AdjustMathmlAttributes, AdjustSvgAttributes, AdjustSvgName, AfterAfterFrameset}
use Rattle.standard_trees.specs.RuleWords.{AfterFrameset, AfterHead, BeforeHead, BeforeHtml, ClearListToMarker, FosterOff, FosterOn, FramesetNotOk, InFrameset, InHead, InHeadNoscript}
use Rattle.standard_trees.specs.RuleWords.{InTableText, InTemplate, Initial, InsertCharacter, InsertComment, InsertCommentInDocument, InsertElement, InsertMathmlElement, InsertNamed}
use Rattle.standard_trees.specs.RuleWords.{InsertPending, InsertReplacement, InsertSvgElement, KeepMode, ListMarker, MergeAttributesIntoHtml, Mode, Pop, PopForeignElements}
use Rattle.standard_trees.specs.RuleWords.{PopTemplateMode, PopToTopmost, PopUntil, PopUntilOwnInAnyCase, PushTemplateMode, ReconstructFormatting, ResetMode, SetHeadPointer, Stop}
use Rattle.standard_trees.specs.RuleWords.{SwitchBack, SwitchTo, Test, Text, TokenizerTo, These}
use Rattle.standard_trees.specs.TreeStore.{Html, Kind, MathMl, NodeAttr, Svg, key_in}
use Rattle.standard_trees.specs.GrowingTree.{Entry, Formatting, GrowingTree, Marker, beyond, current, inserted, is_among, is_foreign, is_one, key, kind_of, past, place, popped_until, topmost}
use Rattle.standard_trees.specs.GrowingTree.{with_stack}
use Rattle.standard_trees.specs.Formatting.{cleared}
use Rattle.standard_trees.specs.Building.{Building, char_of, comment_of, is_met, names_for, own_name, perform, reset_from}
use Rattle.standard_order.proofs.Labels.{labels}
use Rattle.standard_order.proofs.StandingStacks.{both, never}
use Rattle.standard_order.proofs.GoodTrees.{IsHeadPointer, PointersOf}
use Rattle.standard_order.proofs.Levels.{Info, Late, Level, Never, Scoped, Start, is_first, is_framed, next_of, own_apart, own_within}
use Rattle.standard_order.proofs.LevelFacts.{At, Content}
use Rattle.standard_order.proofs.LevelTrees.{holds_of, own_apart_so, own_within_so}
use Rattle.standard_order.proofs.LevelSteps.{either_way}
use Rattle.standard_order.proofs.LevelNext.{after}
use Rattle.standard_order.proofs.NodeTags.{BodyC, Cls, FramesetC, HeadC, HtmlC, NoC, TemplateC, Tag, class_at, classes, is_element, kind_class, name_class, tag_at, tag_of, tag_there, tags, there}
use Rattle.standard_order.proofs.NodeTops.{Rooted, is_root}
use Rattle.standard_order.proofs.TreeTops.{Filled, current_off}
use Rattle.standard_order.proofs.TopSteps.{content_at, filled_at, not_fine}
use Rattle.standard_order.proofs.AdoptionTops.{is_not}
use Rattle.standard_order.proofs.PartKids.{Framed, Headed, Parts, is_body, is_frameset, is_head}
use Rattle.standard_order.proofs.Chains.{Site, at_most, is_plain, is_template, on}
use Rattle.standard_order.proofs.PartTrees.{In as InTree, PlainListed, Step, cls, doc_in, elements_there, in_nodes, is_single, named_class, parts_for}
use Rattle.standard_order.proofs.PartPlaces.{class_among, class_is_one}
use Rattle.standard_order.proofs.PartOps.{in_chars, in_listed}
use Rattle.standard_order.proofs.PartEnds.{in_popped}
use Rattle.standard_order.proofs.PartTables.{in_opened}
use Rattle.standard_order.proofs.PartScopes.{home}
use Rattle.standard_order.proofs.PartSteps.{entries_at, name_plain, odd_names, own_plain, same_in}
use Rattle.standard_order.proofs.PartTemplates.{Closing}
use Rattle.standard_order.proofs.PartBegun.{adds_frameset, adds_frameset_emptied, in_body, in_template}
use Rattle.standard_order.proofs.PartStates.{Base, EarlyAt, FramedAt, Headless, OnHead, OnHtml, Stays, all_beyond, all_dropped, all_past, base_parts, char_stays, chars_stay, comment_stays}
use Rattle.standard_order.proofs.PartStates.{early_body, early_head, early_open, early_popped, early_pushed, early_stays, early_template, framed_begun, framed_pushed, framed_reconstructed}
use Rattle.standard_order.proofs.PartStates.{framed_stack, framed_stays, head_popped, is_flat, merged_stays, over_filled, remark_stays}
use Rattle.standard_order.proofs.PartPhases.{Among, BodyAt, Cleared, Emptying, Ended, Ending, Framing, HomeAt, HostAt, Inner, KeptIs, Lent, NoPeak, Opening, Outer, Phase, PhaseAt, Returning}
use Rattle.standard_order.proofs.PartPhases.{Shut, ShutAt, Tabling, TextAt, Texting, Turning, framed_next, framed_switched, has_class, is_text_base, outer_made, outer_next, outer_popped}
use Rattle.standard_order.proofs.PartPhases.{outer_switched, part_next, some_if, these_are, unframed_names}
use Rattle.standard_order.proofs.PartInner.{body_home, it_is, none_some, some_so}
use Rattle.standard_order.proofs.PartPopped.{inner_at, most_both, these_is}

-- ---- names

class_within : (test : Cls → Bool) (names : List (List ℕ)) → list_all (λ one. test (name_class one)) names ≡ true → (info : Info) (token : Token) →
    own_within names info ≡ true → holds_of info token ≡ true → test (name_class (own_name token)) ≡ true
class_within test names all info token w h = named_class test (own_name token) names all (own_within_so names info token w h)

is_head_class : (c : Cls) → is_head c ≡ true → c ≡ HeadC
is_head_class HeadC h = refl
is_head_class _ h = never h

is_body_class : (c : Cls) → is_body c ≡ true → c ≡ BodyC
is_body_class BodyC h = refl
is_body_class _ h = never h

is_frameset_class : (c : Cls) → is_frameset c ≡ true → c ≡ FramesetC
is_frameset_class FramesetC h = refl
is_frameset_class _ h = never h

is_template_class : (c : Cls) → is_template c ≡ true → c ≡ TemplateC
is_template_class TemplateC h = refl
is_template_class _ h = never h

-- ---- before the body

abbrev pub OuterAt : ℕ → Base → ℕ → Mode → Bool → Building → Type 0
OuterAt r base k mode kept b = EarlyAt r base k b.tree × (b.mode ≡ mode) × KeptIs kept b

unkept : {A : Type 0} → false ≡ true → A
unkept h = never h

early_stack : (r : ℕ) (base : Base) (k : ℕ) (t : GrowingTree) → EarlyAt r base k t → Filled t.stack
early_stack r base k t e = over_filled r (class_at (tags t.nodes)) base k t.stack e.stack

with_lists : (r : ℕ) (base : Base) (k : ℕ) (t : GrowingTree) (es : List Entry) → PlainListed (tags t.nodes) es → EarlyAt r base k t → EarlyAt r base k (record t { listed = es })
with_lists r base k t es h e = record { nodes = e.nodes; stack = e.stack; plainly = record { listed = h; form = e.plainly.form; page = e.plainly.page; found = e.plainly.found } }

made_at : (r : ℕ) (base : Base) (k : ℕ) (mode : Mode) (info : Info) (name : List ℕ) (attrs : List NodeAttr) (b : Building) (next : Phase) →
    ((test : Cls → Bool) (names : List (List ℕ)) → list_all (λ one. test (name_class one)) names ≡ true → own_within names info ≡ true → test (name_class name) ≡ true) →
    (own_apart odd_names info ≡ true → is_plain (name_class name) ≡ true) → outer_made base k mode info ≡ Some next → EarlyAt r base k b.tree → b.mode ≡ mode →
    PhaseAt r next (record b { tree = inserted Html name attrs b.tree })
made_at r Headless zero mode info name attrs b next within plain f e m =
    some_so r (own_within (codes "head" ∷ []) info) (Outer OnHead 0 mode false) next _ f
    (λ w. (early_head r name attrs b.tree (is_head_class _ (within is_head (codes "head" ∷ []) refl w)) e, m, λ k. unkept k))
made_at r Headless (suc k) mode info name attrs b next within plain f e m = none_some f
made_at r OnHead k mode info name attrs b next within plain f e m =
    some_so r (own_apart odd_names info) (Outer OnHead (suc k) mode false) next _ f (λ a. (early_pushed r k name attrs b.tree (plain a) e, m, λ q. unkept q))
made_at r OnHtml zero mode info name attrs b next within plain f e m = by (own_within (codes "body" ∷ []) info) refl f
  where
    by : (x : Bool) → own_within (codes "body" ∷ []) info ≡ x →
        elim x as (λ _. Option Phase) [
          | true ↦ Some (Inner (Among (BodyC ∷ [])) NoPeak false false)
          | false ↦ some_if (own_within (codes "frameset" ∷ []) info) (Framing false false)
        ] ≡ Some next → PhaseAt r next (record b { tree = inserted Html name attrs b.tree })
    by true w g = it_is r (Inner (Among (BodyC ∷ [])) NoPeak false false) next _ g (
      in_body,
      early_body r name attrs b.tree (is_body_class _ (within is_body (codes "body" ∷ []) refl w)) e,
      refl,
      refl,
      tt,
      λ k. unkept k,
      tt,
    )
    by false w g = some_so r (own_within (codes "frameset" ∷ []) info) (Framing false false) next _ g (λ v. (
      framed_begun r Headed name attrs b.tree (is_frameset_class _ (within is_frameset (codes "frameset" ∷ []) refl v)) adds_frameset (early_open r b.tree e),
      λ k. unkept k,
      λ k. unkept k,
    ))
made_at r OnHtml (suc k) mode info name attrs b next within plain f e m = none_some f

text_base : (mode : Mode) (base : Base) (k : ℕ) (r : ℕ) (b : Building) → is_text_base mode base k ≡ true → EarlyAt r base k b.tree → TextAt mode r b
text_base InHead OnHead (suc zero) r b h e = e
text_base InHeadNoscript OnHead (suc (suc zero)) r b h e = e
text_base AfterHead OnHtml (suc zero) r b h e = e
text_base _ _ _ r b h e = never h

switched_at : (r : ℕ) (base : Base) (k : ℕ) (mode : Mode) (kept : Bool) (to : Mode) (b : Building) (next : Phase) → outer_switched base k mode kept to ≡ Some next →
    OuterAt r base k mode kept b → PhaseAt r next (record b { mode = to })
switched_at r OnHead zero mode kept InTemplate b next f o = it_is r (Opening false) next _ f (refl, inr (o.0, refl))
switched_at r OnHead (suc k) mode kept InTemplate b next f o = none_some f
switched_at r Headless k mode kept InTemplate b next f o = none_some f
switched_at r OnHtml k mode kept InTemplate b next f o = none_some f
switched_at r base k mode kept Text b next f o =
    some_so r (kept && is_text_base mode base k) Turning next (record b { mode = Text }) f (λ h.
    let two : (kept ≡ true) × (is_text_base mode base k ≡ true) = both kept _ h in
    subst (λ m. TextAt m r (record b { mode = Text })) (sym (o.2 two.0 ∙ o.1)) (text_base mode base k r (record b { mode = Text }) two.1 o.0))
switched_at r base k mode kept to b next f o = it_is r (Outer base k to false) next _ f (o.0, refl, λ q. unkept q)

popped_at : (r : ℕ) (base : Base) (k : ℕ) (mode : Mode) (b : Building) (next : Phase) → outer_popped base k mode ≡ Some next → EarlyAt r base k b.tree → b.mode ≡ mode →
    PhaseAt r next (record b { tree = with_stack b.tree (drop 1 b.tree.stack) })
popped_at r base (suc k) mode b next f e m = it_is r (Outer base k mode false) next _ f (early_popped r base k b.tree e, m, λ q. unkept q)
popped_at r OnHead zero mode b next f e m = it_is r (Outer OnHtml 0 mode false) next _ f (head_popped r b.tree e, m, λ q. unkept q)
popped_at r Headless zero mode b next f e m = none_some f
popped_at r OnHtml zero mode b next f e m = none_some f

outer_at : (r : ℕ) (base : Base) (k : ℕ) (mode : Mode) (kept : Bool) (info : Info) (action : Action) (tests : List Test) (b : Building) (next : Phase) →
    holds_of info b.token ≡ true → outer_next base k mode kept info action tests ≡ Some next → OuterAt r base k mode kept b → PhaseAt r next (after tests action b)
unfolding perform
outer_at r base k mode kept info InsertCharacter [] b next h f o =
    it_is r (Outer base k mode false) next _ f (chars_stay r (base_parts base) (EarlyAt r base k) (early_stays r base k) (char_of b.token) b.tree o.0, o.1, λ q. unkept q)
outer_at r base k mode kept info InsertComment [] b next h f o =
    it_is r (Outer base k mode false) next _ f (
      comment_stays r (base_parts base) (EarlyAt r base k) (early_stays r base k) (comment_of b.token) (place b.tree) b.tree
          (current_off Rooted b.tree ((early_stays r base k).doc b.tree o.0) (early_stack r base k b.tree o.0)) o.0,
      o.1,
      λ q. unkept q,
    )
outer_at r base k mode kept info MergeAttributesIntoHtml [] b next h f o =
    it_is r (Outer base k mode false) next _ f
    (merged_stays r (base_parts base) (EarlyAt r base k) (early_stays r base k) (Some (topmost b.tree.stack)) b.attrs b.tree o.0, o.1, λ q. unkept q)
outer_at r base k mode kept info SetHeadPointer [] b next h f o =
    it_is r (Outer base k mode false) next _ f (
      record { nodes = o.0.nodes; stack = o.0.stack; plainly = record { listed = o.0.plainly.listed; form = o.0.plainly.form; page = o.0.plainly.page; found = o.0.plainly.found } },
      o.1,
      λ q. unkept q,
    )
outer_at r base k mode kept info ListMarker [] b next h f o =
    it_is r (Outer base k mode false) next _ f (with_lists r base k b.tree (Marker ∷ b.tree.listed) o.0.plainly.listed o.0, o.1, λ q. unkept q)
outer_at r base k mode kept info FramesetNotOk [] b next h f o = it_is r (Outer base k mode false) next _ f (o.0, o.1, λ q. unkept q)
outer_at r base k mode kept info (TokenizerTo state) [] b next h f o = it_is r (Outer base k mode false) next _ f (o.0, o.1, λ q. unkept q)
outer_at r base k mode kept info KeepMode [] b next h f o = it_is r (Outer base k mode true) next _ f (o.0, o.1, λ q. refl)
outer_at r base k mode kept info InsertElement [] b next h f o =
    made_at r base k mode info (own_name b.token) b.attrs b next (λ test names all w. class_within test names all info b.token w h)
    (λ a. own_plain info b.token a h) f o.0 o.1
outer_at r base k mode kept info (InsertNamed name) [] b next h f o =
    made_at r base k mode (Start (name ∷ [])) name [] b next (λ test names all w. named_class test name names all (both (is_among name names) true w).0)
    (λ a. name_plain name (both (Rattle.std.specs.Prelude.not (is_among name odd_names)) true a).0) f o.0 o.1
outer_at r base k mode kept info Pop [] b next h f o = popped_at r base k mode b next f o.0 o.1
outer_at r base k mode kept info (SwitchTo to) [] b next h f o = switched_at r base k mode kept to b next f o
outer_at r base k mode kept info action tests b next h f o = none_some f

-- ---- with framesets

abbrev pub FramingAt : ℕ → Bool → Bool → Building → Type 0
FramingAt r known kept b = FramedAt r b.tree × (known ≡ true → is_framed b.mode ≡ true) × KeptIs kept b

abbrev pub is_framable : Cls → Bool
is_framable c = is_flat c && not (is_single c)

framable_name : (name : List ℕ) → not (is_among name unframed_names) ≡ true → is_framable (name_class name) ≡ true
framable_name name off = by (is_framable (name_class name)) refl
  where
    by : (x : Bool) → is_framable (name_class name) ≡ x → x ≡ true
    by true e = refl
    by false e = never (sym (is_not (is_among name unframed_names) off) ∙ class_among (λ c. not (is_framable c)) unframed_names classes refl name (ap not e))

framed_first : (mode : Mode) → is_framed mode ≡ true → is_first mode ≡ false
framed_first InFrameset h = refl
framed_first AfterFrameset h = refl
framed_first AfterAfterFrameset h = refl
framed_first _ h = never h

framed_text : (mode : Mode) (r : ℕ) (b : Building) → is_framed mode ≡ true → FramedAt r b.tree → TextAt mode r b
framed_text InFrameset r b h e = e
framed_text AfterFrameset r b h e = e
framed_text AfterAfterFrameset r b h e = e
framed_text _ r b h e = never h

framed_switched_at : (r : ℕ) (known kept : Bool) (mode : Mode) (tests : List Test) (b : Building) (next : Phase) → framed_switched known kept mode tests ≡ Some next →
    FramingAt r known kept b → PhaseAt r next (after tests (SwitchTo mode) b)
unfolding perform
framed_switched_at r known kept Text [] b next f o =
    some_so r (known && kept) Turning next (record b { mode = Text }) f (λ h.
    framed_text b.original r (record b { mode = Text }) (ap is_framed (o.2 (both known kept h).1) ∙ o.1 (both known kept h).0) o.0)
framed_switched_at r known kept mode [] b next f o =
    some_so r (is_framed mode) (Framing true false) next (record b { mode = mode }) f (λ h. (o.0, λ k. h, λ k. unkept k))
framed_switched_at r known kept mode (test ∷ tests) b next f o =
    some_so r (known && is_framed mode) (Framing true false) next _ f (λ h.
    either_way (λ u. FramingAt r true false u) (list_all (is_met b) (test ∷ tests)) b (record b { mode = mode }) (o.0, λ k. (both known _ h).1, λ k. unkept k)
    (o.0, λ k. o.1 (both known _ h).0, λ k. unkept k))

framed_tree : (r : ℕ) (kept : Bool) (b : Building) (t : GrowingTree) → FramedAt r t → FramingAt r true kept b → FramingAt r true false (record b { tree = t })
framed_tree r kept b t e o = (e, o.1, λ k. unkept k)

framed_at : (r : ℕ) (level : Level) (known kept : Bool) (info : Info) (action : Action) (tests : List Test) (b : Building) (new : Level) (next : Phase) →
    holds_of info b.token ≡ true → next_of level info action tests ≡ Some new → At level b → framed_next known kept info action tests ≡ Some next →
    FramingAt r known kept b → PhaseAt r next (after tests action b)
unfolding perform
framed_at r level known kept info (SwitchTo mode) tests b new next h e at f o = framed_switched_at r known kept mode tests b next f o
framed_at r level true kept info InsertCharacter [] b new next h e at f o =
    it_is r (Framing true false) next _ f (framed_tree r kept b _ (chars_stay r Framed (FramedAt r) (framed_stays r) (char_of b.token) b.tree o.0) o)
framed_at r level true kept info InsertReplacement [] b new next h e at f o =
    it_is r (Framing true false) next _ f (framed_tree r kept b _ (char_stays r Framed (FramedAt r) (framed_stays r) 0xfffd b.tree o.0) o)
framed_at r level true kept info InsertComment [] b new next h e at f o =
    it_is r (Framing true false) next _ f (framed_tree r kept b _ (comment_stays r Framed (FramedAt r) (framed_stays r) (comment_of b.token) (place b.tree) b.tree
    (current_off Rooted b.tree ((framed_stays r).doc b.tree o.0)
    (filled_at level b (not_fine level info InsertComment [] new refl e) at (framed_first b.mode (o.1 refl)))) o.0) o)
framed_at r level true kept info InsertCommentInDocument [] b new next h e at f o =
    it_is r (Framing true false) next _ f (framed_tree r kept b _ (remark_stays r Framed (FramedAt r) (framed_stays r) (comment_of b.token) b.tree o.0) o)
framed_at r level true kept info MergeAttributesIntoHtml [] b new next h e at f o =
    it_is r (Framing true false) next _ f
    (framed_tree r kept b _ (merged_stays r Framed (FramedAt r) (framed_stays r) (Some (topmost b.tree.stack)) b.attrs b.tree o.0) o)
framed_at r level true kept info InsertElement [] b new next h e at f o =
    some_so r (own_apart unframed_names info) (Framing true false) next _ f (λ a.
    let able : is_framable (name_class (own_name b.token)) ≡ true = framable_name (own_name b.token) (own_apart_so unframed_names info b.token refl a h) in
    let two : (is_flat (name_class (own_name b.token)) ≡ true) × (not (is_single (name_class (own_name b.token))) ≡ true) =
    both (is_flat (name_class (own_name b.token))) (not (is_single (name_class (own_name b.token)))) able in
    framed_tree r kept b _ (framed_pushed r Html (own_name b.token) b.attrs b.tree
    (filled_at level b (not_fine level info InsertElement [] new refl e) at (framed_first b.mode (o.1 refl)))
    (λ contents. is_not (is_single (name_class (own_name b.token))) two.1) (λ contents. two.0) o.0) o)
framed_at r level true kept info InsertMathmlElement [] b new next h e at f o =
    it_is r (Framing true false) next _ f (framed_tree r kept b _ (framed_pushed r MathMl (own_name b.token) b.attrs b.tree
    (filled_at level b (not_fine level info InsertMathmlElement [] new refl e) at (framed_first b.mode (o.1 refl))) (λ contents. refl) (λ contents. refl) o.0) o)
framed_at r level true kept info InsertSvgElement [] b new next h e at f o =
    it_is r (Framing true false) next _ f (framed_tree r kept b _ (framed_pushed r Svg (own_name b.token) b.attrs b.tree
    (filled_at level b (not_fine level info InsertSvgElement [] new refl e) at (framed_first b.mode (o.1 refl))) (λ contents. refl) (λ contents. refl) o.0) o)
framed_at r level true kept info Pop tests b new next h e at f o =
    it_is r (Framing true false) next _ f (either_way (λ u. FramingAt r true false u) (list_all (is_met b) tests) b
    (record b { tree = with_stack b.tree (drop 1 b.tree.stack) })
    (framed_tree r kept b (with_stack b.tree (drop 1 b.tree.stack))
    (framed_stack r b.tree (drop 1 b.tree.stack) (all_dropped (λ n. is_flat (class_at (tags b.tree.nodes) n)) b.tree.stack o.0.flat) o.0) o)
    (o.0, o.1, λ k. unkept k))
framed_at r level true kept info PopForeignElements [] b new next h e at f o =
    it_is r (Framing true false) next _ f (framed_tree r kept b _ (framed_stack r b.tree (beyond (is_foreign b.tree) b.tree.stack)
    (all_beyond (λ n. is_flat (class_at (tags b.tree.nodes) n)) (is_foreign b.tree) b.tree.stack o.0.flat) o.0) o)
framed_at r level true kept info PopUntilOwnInAnyCase [] b new next h e at f o =
    it_is r (Framing true false) next _ f (framed_tree r kept b _ (framed_stack r b.tree _
    (all_past (λ n. is_flat (class_at (tags b.tree.nodes) n)) _ b.tree.stack o.0.flat) o.0) o)
framed_at r level true kept info ReconstructFormatting [] b new next h e at f o =
    it_is r (Framing true false) next _ f (framed_tree r kept b _ (framed_reconstructed r b.tree
    (filled_at level b (not_fine level info ReconstructFormatting [] new refl e) at (framed_first b.mode (o.1 refl))) (entries_at level info [] new b e at) o.0) o)
framed_at r level true kept info FramesetNotOk [] b new next h e at f o = it_is r (Framing true false) next _ f (o.0, o.1, λ k. unkept k)
framed_at r level true kept info (TokenizerTo state) [] b new next h e at f o = it_is r (Framing true false) next _ f (o.0, o.1, λ k. unkept k)
framed_at r level true kept info AdjustMathmlAttributes [] b new next h e at f o = it_is r (Framing true false) next _ f (o.0, o.1, λ k. unkept k)
framed_at r level true kept info AdjustSvgAttributes [] b new next h e at f o = it_is r (Framing true false) next _ f (o.0, o.1, λ k. unkept k)
framed_at r level true kept info AdjustForeignAttributes [] b new next h e at f o = it_is r (Framing true false) next _ f (o.0, o.1, λ k. unkept k)
framed_at r level true kept info AdjustSvgName [] b new next h e at f o = it_is r (Framing true false) next _ f (o.0, o.1, λ k. unkept k)
framed_at r level true kept info KeepMode [] b new next h e at f o = it_is r (Framing true true) next _ f (o.0, o.1, λ k. refl)
framed_at r level true kept info Stop [] b new next h e at f o = it_is r (Framing true false) next _ f (o.0, o.1, λ k. unkept k)
framed_at r level known kept info action tests b new next h e at f o = none_some f

-- ---- texts

-- foster parenting is no part of what is known
early_foster : (r : ℕ) (base : Base) (k : ℕ) (t : GrowingTree) (x : Bool) → EarlyAt r base k t → EarlyAt r base k (record t { fostering = x })
early_foster r base k t x e = record { nodes = e.nodes; stack = e.stack; plainly = record { listed = e.plainly.listed; form = e.plainly.form; page = e.plainly.page; found = e.plainly.found } }

framed_foster : (r : ℕ) (t : GrowingTree) (x : Bool) → FramedAt r t → FramedAt r (record t { fostering = x })
framed_foster r t x e = record { nodes = e.nodes; flat = e.flat; plainly = record { listed = e.plainly.listed; form = e.plainly.form; page = e.plainly.page; found = e.plainly.found } }

abbrev pub fostered : Bool → Building → Building
fostered x b = record b { tree = record b.tree { fostering = x } }

body_foster : (mode : Mode) (r : ℕ) (b : Building) (x : Bool) → BodyAt mode r b → BodyAt mode r (fostered x b)
body_foster mode r b x (c, i, h, f) = (c, same_in r c b.tree x i, h, f)

text_foster : (mode : Mode) (r : ℕ) (b : Building) (x : Bool) → TextAt mode r b → TextAt mode r (fostered x b)
text_foster InHead r b x h = early_foster r OnHead 1 b.tree x h
text_foster InHeadNoscript r b x h = early_foster r OnHead 2 b.tree x h
text_foster AfterHead r b x h = early_foster r OnHtml 1 b.tree x h
text_foster InFrameset r b x h = framed_foster r b.tree x h
text_foster AfterFrameset r b x h = framed_foster r b.tree x h
text_foster AfterAfterFrameset r b x h = framed_foster r b.tree x h
text_foster _ r b x h = (h.0, same_in r h.0 b.tree x h.1, h.2, h.3, h.4)

home_foster : (mode : Mode) (r : ℕ) (b : Building) (x : Bool) → HomeAt mode r b → HomeAt mode r (fostered x b)
home_foster BeforeHead r b x h = early_foster r Headless 0 b.tree x h
home_foster InHead r b x h = early_foster r OnHead 0 b.tree x h
home_foster InHeadNoscript r b x h = early_foster r OnHead 1 b.tree x h
home_foster AfterHead r b x h = early_foster r OnHtml 0 b.tree x h
home_foster InFrameset r b x h = framed_foster r b.tree x h
home_foster AfterFrameset r b x h = framed_foster r b.tree x h
home_foster AfterAfterFrameset r b x h = framed_foster r b.tree x h
home_foster Text r b x h = text_foster b.original r b x h
home_foster InTableText r b x h = body_foster b.original r b x h
home_foster _ r b x h = (h.0, same_in r h.0 b.tree x h.1, h.2, h.3)

-- in the body, with an ordinary element as the current node
abbrev pub LowAt : ℕ → Parts → Site → GrowingTree → Type 0
LowAt r parts c t = (parts_for (cls t) ≡ parts) × InTree r c t × (is_plain (class_at (tags t.nodes) (current t)) ≡ true)

low_stays : (r : ℕ) (parts : Parts) (c : Site) → Stays r parts (LowAt r parts c)
low_stays r parts c = record {
  doc = λ t h. doc_in r c t h.1;
  nodes = λ t nodes step h.
      let same : Rattle.standard_order.proofs.Chains.of (class_at (tags nodes)) t.stack ≡ cls t =
      Rattle.standard_order.proofs.PartKids.classes_kept (tags t.nodes) (tags nodes) step.keeps t.stack (elements_there (tags t.nodes) t.stack h.1.open_) in (
        ap parts_for same ∙ h.0,
        in_nodes r c t nodes (subst (λ p. Step r p t.nodes nodes) (sym h.0) step) h.1,
        Rattle.standard_order.proofs.NodeTags.class_kept is_plain refl (tags t.nodes) (tags nodes) step.keeps (current t) h.2,
      );
}

abbrev pub with_chars_of : Building → Building
with_chars_of b = record b { tree = Rattle.standard_trees.specs.GrowingTree.with_chars (char_of b.token) b.tree }

text_chars : (mode : Mode) (r : ℕ) (b : Building) → TextAt mode r b → TextAt mode r (with_chars_of b)
text_chars InHead r b h = chars_stay r Headed (EarlyAt r OnHead 1) (early_stays r OnHead 1) (char_of b.token) b.tree h
text_chars InHeadNoscript r b h = chars_stay r Headed (EarlyAt r OnHead 2) (early_stays r OnHead 2) (char_of b.token) b.tree h
text_chars AfterHead r b h = chars_stay r Headed (EarlyAt r OnHtml 1) (early_stays r OnHtml 1) (char_of b.token) b.tree h
text_chars InFrameset r b h = chars_stay r Framed (FramedAt r) (framed_stays r) (char_of b.token) b.tree h
text_chars AfterFrameset r b h = chars_stay r Framed (FramedAt r) (framed_stays r) (char_of b.token) b.tree h
text_chars AfterAfterFrameset r b h = chars_stay r Framed (FramedAt r) (framed_stays r) (char_of b.token) b.tree h
text_chars _ r b (c, i, home_, few, low) =
    let now : LowAt r (parts_for (cls b.tree)) c (with_chars_of b).tree =
    chars_stay r (parts_for (cls b.tree)) (LowAt r (parts_for (cls b.tree)) c) (low_stays r (parts_for (cls b.tree)) c) (char_of b.token) b.tree (refl, i, low) in
    (c, now.1, home_, few, now.2)

abbrev pub dropped : Building → Building
dropped b = record b { tree = with_stack b.tree (drop 1 b.tree.stack) }

text_popped : (mode : Mode) (r : ℕ) (b : Building) → TextAt mode r b → HomeAt mode r (dropped b)
text_popped InHead r b h = early_popped r OnHead 0 b.tree h
text_popped InHeadNoscript r b h = early_popped r OnHead 1 b.tree h
text_popped AfterHead r b h = early_popped r OnHtml 0 b.tree h
text_popped InFrameset r b h =
    framed_stack r b.tree (drop 1 b.tree.stack) (all_dropped (λ n. is_flat (class_at (tags b.tree.nodes) n)) b.tree.stack h.flat) h
text_popped AfterFrameset r b h =
    framed_stack r b.tree (drop 1 b.tree.stack) (all_dropped (λ n. is_flat (class_at (tags b.tree.nodes) n)) b.tree.stack h.flat) h
text_popped AfterAfterFrameset r b h =
    framed_stack r b.tree (drop 1 b.tree.stack) (all_dropped (λ n. is_flat (class_at (tags b.tree.nodes) n)) b.tree.stack h.flat) h
text_popped BeforeHead r b h = never h.2
text_popped Text r b h = never h.2
text_popped InTableText r b h = never h.2
text_popped _ r b (c, i, home_, few, low) = (c, in_popped r c b.tree low i, home_, few)

-- what is said of the original mode is so of the mode, once that is told again
home_back : (mode : Mode) (r : ℕ) (b : Building) → HomeAt mode r b → HomeAt mode r (record b { mode = b.original })
home_back BeforeHead r b h = h
home_back InHead r b h = h
home_back InHeadNoscript r b h = h
home_back AfterHead r b h = h
home_back InFrameset r b h = h
home_back AfterFrameset r b h = h
home_back AfterAfterFrameset r b h = h
home_back Text r b h = text_back b.original r b h
  where
    text_back : (mode : Mode) (r : ℕ) (b : Building) → TextAt mode r b → TextAt mode r (record b { mode = b.original })
    text_back InHead r b h = h
    text_back InHeadNoscript r b h = h
    text_back AfterHead r b h = h
    text_back InFrameset r b h = h
    text_back AfterFrameset r b h = h
    text_back AfterAfterFrameset r b h = h
    text_back _ r b h = h
home_back InTableText r b h = h
home_back _ r b h = h

-- ---- templates

cleared_plainly : (ts : List Tag) (es : List Entry) → PlainListed ts es → PlainListed ts (cleared es)
cleared_plainly ts [] h = h
cleared_plainly ts (Marker ∷ es) h = h
cleared_plainly ts (Formatting n ∷ es) h = cleared_plainly ts es h.1

closing_cleared : (r k : ℕ) (t : GrowingTree) → Closing r k t → Closing r k (record t { listed = cleared t.listed })
closing_cleared r k t (inl (c, i, less)) = inl (c, in_listed r c t (cleared t.listed) (cleared_plainly (tags t.nodes) t.listed i.listed) i, less)
closing_cleared r k t (inr (inl (h, o, head))) = inr (inl (
  h,
  record {
    nodes = o.nodes;
    stack_is = o.stack_is;
    plainly = record { listed = cleared_plainly (tags t.nodes) t.listed o.plainly.listed; form = o.plainly.form; page = o.plainly.page; found = o.plainly.found };
  },
  head,
))
closing_cleared r k t (inr (inr o)) = inr (inr (record {
  nodes = o.nodes;
  stack_is = o.stack_is;
  plainly = record { listed = cleared_plainly (tags t.nodes) t.listed o.plainly.listed; form = o.plainly.form; page = o.plainly.page; found = o.plainly.found };
}))

less_lent : {X : Type 0} (n k : ℕ) (xs : List X) → at_most (suc n) k ≡ true → at_most k (length xs) ≡ true → at_most n (length (drop 1 xs)) ≡ true
less_lent n zero xs h l = never h
less_lent n (suc k) [] h l = never l
less_lent n (suc k) (x ∷ xs) h l = most_both n k (length xs) h l

shut_at : (r : ℕ) (b : Building) → PhaseAt r Ended b → ShutAt r (record b { template_modes = drop 1 b.template_modes })
shut_at r b (k, inl (c, i, less), few) = inl (c, i, less_lent c.templates k b.template_modes less few)
shut_at r b (k, inr (inl (h, o, head)), few) = inr (inl (record { nodes = o.nodes; stack = (h, o.stack_is, head); plainly = o.plainly }))
shut_at r b (k, inr (inr o), few) = inr (inr (record { nodes = o.nodes; stack = o.stack_is; plainly = o.plainly }))

pointers_at : (level : Level) (info : Info) (tests : List Test) (new : Level) (b : Building) → next_of level info ResetMode tests ≡ Some new → At level b → PointersOf b.tree
pointers_at (Late place rel kept) info tests new b e at = at.2.1
pointers_at (Scoped place kind Rattle.standard_trees.specs.RuleWords.Own) info tests new b e at = at.1.2.1
pointers_at (Scoped place kind (These names)) info tests new b e at = at.1.2.1
pointers_at Never info tests new b e at = absurd at
pointers_at _ info tests new b e at = none_some e

named_key : (test : Cls → Bool) (name : List ℕ) (t : GrowingTree) (n : ℕ) → Rattle.standard_order.proofs.PartPlaces.names_have test (name ∷ []) classes ≡ true → test NoC ≡ false →
    is_element (class_at (tags t.nodes) n) ≡ true → test (class_at (tags t.nodes) n) ≡ true → key t n ≡ name
named_key test name t n all off element h = by (bytes_eq (key t n) name) refl (class_is_one test (name ∷ []) all off t n element h)
  where
    by : (x : Bool) → bytes_eq (key t n) name ≡ x → x || false ≡ true → key t n ≡ name
    by true e k = (bytes_eq-Decides (key t n) name).0 e
    by false e k = never k

head_reset : (r : ℕ) (t : GrowingTree) (modes : List Mode) → EarlyAt r OnHead 0 t → reset_from t modes t.stack ≡ InHead
head_reset r t modes e =
    ap (reset_from t modes) e.stack.1 ∙ ap (λ name. elim (Rattle.standard_trees.specs.Building.reset_by Rattle.standard_trees.specs.TreeRules.resets name modes t.head (r ∷ [])) as (λ _. Mode) [
      | Some mode ↦ mode
      | None ↦ reset_from t modes (r ∷ [])
    ]) (named_key is_head (codes "head") t e.stack.0 refl refl (head_element _ e.stack.2) e.stack.2)
  where
    head_element : (c : Cls) → is_head c ≡ true → is_element c ≡ true
    head_element HeadC h = refl
    head_element _ h = never h

html_reset : (r : ℕ) (t : GrowingTree) (modes : List Mode) → PointersOf t → EarlyAt r OnHtml 0 t → reset_from t modes t.stack ≡ AfterHead
html_reset r t modes p e =
    ap (reset_from t modes) e.stack ∙ ap (λ o. told (key_in (unwrap_or o (kind_of t r))) t.head) e.plainly.page
    ∙ ap (λ name. told name t.head) (named_key is_root (codes "html") t r refl refl (ap is_element e.nodes.frame.root) (ap is_root e.nodes.frame.root)) ∙ present t.context t.head e.plainly.page p.head_is
  where
    told : List ℕ → Option ℕ → Mode
    told name pointer = unwrap_or (Rattle.standard_trees.specs.Building.reset_by Rattle.standard_trees.specs.TreeRules.resets name modes pointer []) Rattle.standard_trees.specs.RuleWords.InBody

    present : (context : Option Kind) (o : Option ℕ) → context ≡ None → IsHeadPointer (labels t.nodes) context o → told (codes "html") o ≡ AfterHead
    present None None f h = never (sym h)
    present (Some kind) None f h = cc
    present context (Some n) f h = refl

shut_reset : (r : ℕ) (b : Building) → Content b.template_modes → PointersOf b.tree → ShutAt r b → PhaseAt r Turning (perform ResetMode b)
unfolding perform
shut_reset r b content p (inl (c, i, few)) =
    body_home (perform ResetMode b).mode r (perform ResetMode b) (
      c,
      i,
      subst (λ d. home (reset_from b.tree b.template_modes b.tree.stack) d ≡ true) i.within
          (Rattle.standard_order.proofs.PartScopes.reset_home b.tree b.template_modes b.tree.stack content i.chained i.open_
          (ap Rattle.standard_order.proofs.Chains.is_inner i.within ∙ i.inner)),
      few,
    )
shut_reset r b content p (inr (inl e)) =
    subst (λ m. HomeAt m r (record b { mode = reset_from b.tree b.template_modes b.tree.stack })) (sym (head_reset r b.tree b.template_modes e)) e
shut_reset r b content p (inr (inr e)) =
    subst (λ m. HomeAt m r (record b { mode = reset_from b.tree b.template_modes b.tree.stack })) (sym (html_reset r b.tree b.template_modes p e)) e

-- a template is opened
host_lent : (r : ℕ) (mode : Mode) (b : Building) → HostAt false r b → HostAt true r (record b { template_modes = mode ∷ b.template_modes })
host_lent r mode b (inl (c, i, few)) = inl (c, i, few)
host_lent r mode b (inr (e, few)) = inr (e, few)

template_opened : (r : ℕ) (name : List ℕ) (attrs : List NodeAttr) (b : Building) → name_class name ≡ TemplateC → b.mode ≡ InTemplate → HostAt true r b →
    HomeAt b.mode r (record b { tree = inserted Html name attrs b.tree })
template_opened r name attrs b is m host = subst (λ mode. HomeAt mode r (record b { tree = inserted Html name attrs b.tree })) (sym m) (by host)
  where
    on_deep : (d : Cls) → Rattle.standard_order.proofs.Chains.is_deep d ≡ true → on TemplateC d ≡ true
    on_deep d h = ap (λ x. x || (is_head d || is_root d)) h

    by : HostAt true r b → BodyAt InTemplate r (record b { tree = inserted Html name attrs b.tree })
    by (inl (c, i, few)) = (
      Rattle.standard_order.proofs.Chains.above TemplateC c,
      in_opened r c TemplateC name attrs b.tree is refl (on_deep _ (Rattle.standard_order.proofs.Chains.first_deep (cls b.tree)
          (ap Rattle.standard_order.proofs.Chains.is_inner i.within ∙ i.inner))) i,
      refl,
      few,
    )
    by (inr (e, few)) = (in_template, early_template r name attrs b.tree is e, refl, few)

-- ---- each action

pub part_at : (r : ℕ) (level : Level) (phase : Phase) (info : Info) (action : Action) (tests : List Test) (b : Building) (new : Level) (next : Phase) →
    holds_of info b.token ≡ true → next_of level info action tests ≡ Some new → At level b → part_next level phase info action tests ≡ Some next → PhaseAt r phase b →
    PhaseAt r next (after tests action b)
unfolding perform
part_at r level (Inner range peak kept sure) info action tests b new next h e at f p = inner_at r level range peak kept sure info action tests b new next h e at f p
part_at r level (Outer base k mode kept) info action tests b new next h e at f p = outer_at r base k mode kept info action tests b next h f p
part_at r level (Framing known kept) info action tests b new next h e at f p = framed_at r level known kept info action tests b new next h e at f p
part_at r level Turning info FosterOff [] b new next h e at f p = it_is r Turning next _ f (home_foster b.mode r b false p)
part_at r level Texting info InsertCharacter [] b new next h e at f p = it_is r Texting next _ f (p.0, text_chars b.original r b p.1)
part_at r level Texting info Pop [] b new next h e at f p = it_is r Returning next _ f (text_popped b.original r b p.1)
part_at r level Tabling info AddToPending [] b new next h e at f p = it_is r Tabling next _ f p
part_at r level Tabling info InsertPending [] b new next h e at f p =
    it_is r Tabling next _ f (p.0, (p.1.0, in_chars r p.1.0 (reverse b.pending) b.tree p.1.1, p.1.2, p.1.3))
part_at r level Tabling info FosterOn [] b new next h e at f p = it_is r Tabling next _ f (p.0, body_foster b.original r b true p.1)
part_at r level Tabling info SwitchBack [] b new next h e at f p = it_is r Turning next _ f (body_home b.original r (record b { mode = b.original }) p.1)
part_at r level Returning info FosterOff [] b new next h e at f p = it_is r Returning next _ f (home_foster b.original r b false p)
part_at r level Returning info SwitchBack [] b new next h e at f p = it_is r Turning next _ f (home_back b.original r b p)
part_at r level Ending info (PopUntil names) [] b new next h e at f p =
    some_so r (these_are names (codes "template" ∷ [])) Ended next _ f (λ t.
    subst (λ ns. PhaseAt r Ended (record b { tree = popped_until (names_for ns b.token) b.tree })) (sym (these_is names (codes "template" ∷ []) t)) p)
part_at r level Ended info ClearListToMarker [] b new next h e at f p = it_is r Ended next _ f (p.0, closing_cleared r p.0 b.tree p.1, p.2)
part_at r level Ended info PopTemplateMode [] b new next h e at f p = it_is r Shut next _ f (shut_at r b p)
part_at r level Shut info ResetMode [] b new next h e at f p =
    it_is r Turning next _ f (shut_reset r b (content_at level b at) (pointers_at level info [] new b e at) p)
part_at r level (Opening false) info (PushTemplateMode mode) [] b new next h e at f p = it_is r (Opening true) next _ f (p.0, host_lent r mode b p.1)
part_at r level (Opening true) info InsertElement [] b new next h e at f p =
    some_so r (own_within (codes "template" ∷ []) info) Turning next _ f (λ w.
    template_opened r (own_name b.token) b.attrs b (is_template_class _ (class_within is_template (codes "template" ∷ []) refl info b.token w h)) p.0 p.1)
part_at r level Lent info (PushTemplateMode mode) [] b new next h e at f p =
    it_is r (Inner (Among (TemplateC ∷ [])) NoPeak false false) next _ f (p.0, p.1, ap (has_class (TemplateC ∷ [])) p.2, p.3, tt, λ k. unkept k, tt)
part_at r level Emptying info PopToTopmost [] b new next h e at f p =
    it_is r Cleared next _ f (record {
      nodes = p.0;
      stack_is = ap (λ n. n ∷ []) p.1;
      plainly = record { listed = p.2.listed; form = p.2.form; page = p.2.page; found = p.2.found };
    })
part_at r level Cleared info InsertElement [] b new next h e at f p =
    some_so r (own_within (codes "frameset" ∷ []) info) (Framing false false) next _ f (λ w. (
      framed_begun r Rattle.standard_order.proofs.PartKids.Emptied (own_name b.token) b.attrs b.tree
          (is_frameset_class _ (class_within is_frameset (codes "frameset" ∷ []) refl info b.token w h)) adds_frameset_emptied p,
      λ k. unkept k,
      λ k. unkept k,
    ))
part_at r level phase info action tests b new next h e at f p = none_some f
