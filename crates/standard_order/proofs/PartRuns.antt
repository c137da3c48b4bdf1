-- Rules leave the parts of a page as a turn needs them, and at the end of the page they are there; by induction on how deep rules use rules.
use Rattle.std.specs.Prelude.{◌≡◌, ◌&&◌, ◌||◌, ◌⊎◌, ◌==◌, refl, ℕ, zero, suc, Bool, true, false, not, List, [], ◌∷◌, Option, None, Some, codes, cond, drop, nat_eq}
use Rattle.std.specs.Prelude.{reverse}
use Rattle.std.proofs.Common.{inl, inr}
use Rattle.std.specs.List.{list_all}
use Rattle.std.specs.Option.{option_map_or}
use Rattle.std.proofs.lemmas.Option.{same_Some}
use mathlib.Core.Path.{◌∙◌, sym, ap, subst}
use Rattle.standard_tokens.specs.Tokens.{AChar, AComment, ADoctype, AStart, AnEnd, AnEof, Attr, Token}
use Rattle.standard_trees.specs.RuleWords.{Act, Action, AdjustSvgName, AdjustedCurrentNodeInHtml, AfterAfterFrameset, AfterFrameset, AfterHead, Anything, BeforeHead, Dispatcher}
use Rattle.standard_trees.specs.RuleWords.{EndOfFile, ForeignContent, FramesetNotOk, InBody, InFrameset, InHead, InHeadNoscript, InTableText, InTemplate, InsertCharacter}
use Rattle.standard_trees.specs.RuleWords.{Mode, NoOpenElements, Pattern, RawText, RcdataText, ReconstructFormatting}
use Rattle.standard_trees.specs.RuleWords.{RemoveHeadFromStack, Rename, Reprocess, ScriptText, Stop, Test, Text, TextState, Use, UseCurrentMode}
use Rattle.standard_trees.specs.RuleWords.{UseForEachPending, does, goes, is}
use Rattle.standard_trees.specs.TreeRules.{rules}
use Rattle.standard_trees.specs.TreeStore.{CommentNode, ContentsNode, DoctypeNode, DocumentNode, ElementNode, Html, Kind, MathMl, NodeAttr, Svg, TextNode, is_html, space_in}
use Rattle.standard_trees.specs.TreeStore.{without}
use Rattle.standard_trees.specs.GrowingTree.{GrowingTree, Marker, current, fresh, inserted, is_among, kind_of, place, pushed, put, top, unstacked, with_chars, with_stack}
use Rattle.standard_trees.specs.Formatting.{reconstructed}
use Rattle.standard_trees.specs.Building.{Building, char_of, each_char, fits, gone, holds, is_met, is_space, own_name, perform, performed, run, taken, with_head, with_token, with_tree}
use Rattle.standard_order.proofs.Labels.{Is as IsAt, kind_at, labels}
use Rattle.standard_order.proofs.StandingStacks.{both, head, never, same_number}
use Rattle.standard_order.proofs.GoodTrees.{IsHeadPointer, PointersOf}
use Rattle.standard_order.proofs.GoodEnds.{same_again}
use Rattle.standard_order.proofs.Levels.{Any, Behind, Exact, Fine, In, Info, Late, Level, Of, Sorted, Start, TableText, ends, heads, info_after, is_after_head, is_carried}
use Rattle.standard_order.proofs.Levels.{is_inside_level, is_pending, is_table_text, is_tabled, may_use, next_of, starts_one}
use Rattle.standard_order.proofs.LevelFacts.{At, LateAt, Turn, sorted_mode}
use Rattle.standard_order.proofs.LevelTrees.{holds_of}
use Rattle.standard_order.proofs.LevelSteps.{either_way}
use Rattle.standard_order.proofs.LevelNext.{after}
use Rattle.standard_order.proofs.RulesPassed.{any_holds, unkept}
use Rattle.standard_order.proofs.RulesUsed.{Uses, anything_met, anything_unmet, by_token, page_in_html, ends_turn, holds_after, in_any, next_of_at, sorted_turns, starts_so, use_at}
use Rattle.standard_order.proofs.RulesUsed.{uses_current, with_tok}
use Rattle.standard_order.proofs.Carried.{Carries, each_name, template_acts, text_acts, void_acts}
use Rattle.standard_order.proofs.PendingRun.{PendingAt, body_acts, body_taken, turn_pending, with_char}
use Rattle.standard_order.proofs.TurnsRun.{after_head_is, all_in_order, carried_acts, carried_holds, carried_is, pending_acts, pending_is, table_text_is}
use Rattle.standard_order.proofs.NodeTags.{Cls, HeadC, HtmlC, PlainC, TemplateC, class_at, is_element, kind_class, name_class, tag_there, tags}
use Rattle.standard_order.proofs.NodeTops.{is_root}
use Rattle.standard_order.proofs.TreeTops.{created_only}
use Rattle.standard_order.proofs.TopRuns.{map_some, then_some}
use Rattle.standard_order.proofs.PartKids.{Headed, is_head}
use Rattle.standard_order.proofs.Chains.{is_plain, is_template}
use Rattle.standard_order.proofs.PartTrees.{In as InTree, is_single}
use Rattle.standard_order.proofs.PartPops.{in_reconstructed, one_any}
use Rattle.standard_order.proofs.PartOps.{in_chars}
use Rattle.standard_order.proofs.PartBegun.{Open, in_classes, in_template, open_in_head}
use Rattle.standard_order.proofs.PartStates.{Base, EarlyAt, FramedAt, Headless, OnHead, OnHtml, Over, early_popped, early_pushed}
use Rattle.standard_order.proofs.PartPhases.{BodyAt, Framing, HomeAt, Inner, Outer, Phase, PhaseAt, Returning, Tabling, Texting, Turning, acts_begin, acts_part, ends_well, goes_on, is_after_phase}
use Rattle.standard_order.proofs.PartPhases.{are_none, is_end, is_home_of, is_last_use, is_never, is_stop, is_tabling, is_told_phase, is_whole_phase, may_end, may_use_part, part_ends, part_next}
use Rattle.standard_order.proofs.PartPhases.{TextAt}
use Rattle.standard_order.proofs.PartInner.{body_home, either_so, told_home}
use Rattle.standard_order.proofs.PartOuter.{part_at}
use Rattle.standard_order.proofs.PartBegins.{PartReady, Whole, whole_phase}
use Rattle.standard_order.proofs.PartUses.{UsesPart, current_part, foreign_framed_part, foreign_part, template_end_part, use_part}

-- ---- where a turn may begin

outer_home : (mode : Mode) (base : Base) (k : ℕ) (r : ℕ) (b : Building) → is_home_of mode base k ≡ true → EarlyAt r base k b.tree → HomeAt mode r b
outer_home BeforeHead Headless zero r b h e = e
outer_home InHead OnHead zero r b h e = e
outer_home InHeadNoscript OnHead (suc zero) r b h e = e
outer_home AfterHead OnHtml zero r b h e = e
outer_home _ _ _ r b h e = never h

framed_home : (mode : Mode) (r : ℕ) (b : Building) → Rattle.standard_order.proofs.Levels.is_framed mode ≡ true → FramedAt r b.tree → HomeAt mode r b
framed_home InFrameset r b h e = e
framed_home AfterFrameset r b h e = e
framed_home AfterAfterFrameset r b h e = e
framed_home _ r b h e = never h

ends_home : (r : ℕ) (phase : Phase) (b : Building) → part_ends phase ≡ true → PhaseAt r phase b → HomeAt b.mode r b
ends_home r Turning b h p = p
ends_home r Texting b h p = subst (λ m. HomeAt m r b) (sym p.0) p.1
ends_home r Tabling b h p = subst (λ m. HomeAt m r b) (sym p.0) p.1
ends_home r (Inner range peak kept sure) b h (c, i, ranged, few, peaked, was, sured) = body_home b.mode r b (c, i, told_home range c b h ranged, few)
ends_home r (Outer base k mode kept) b h p = subst (λ m. HomeAt m r b) (sym p.1) (outer_home mode base k r b h p.0)
ends_home r (Framing known kept) b h p = framed_home b.mode r b (p.1 h) p.0
ends_home r _ b h p = never h

-- no action makes another token of the end of the page
token_performed : (action : Action) (b : Building) → b.token ≡ AnEof → (perform action b).token ≡ AnEof
unfolding perform
token_performed AdjustSvgName b e = ap (Rattle.standard_trees.specs.Building.renamed (Rattle.standard_trees.specs.Building.adjusted Rattle.standard_trees.specs.NameLists.svg_names (own_name b.token))) e
token_performed (Rename name) b e = ap (Rattle.standard_trees.specs.Building.renamed name) e
token_performed _ b e = e

token_after : (tests : List Test) (action : Action) (b : Building) → b.token ≡ AnEof → (after tests action b).token ≡ AnEof
token_after tests action b e = either_way (λ u. u.token ≡ AnEof) (list_all (is_met b) tests) b (perform action b) (token_performed action b e) e

-- ---- runs

pub record PartRuns (r : ℕ) (f : Mode → Building → Option Building) : Type 0 where
  pub uses : (mode : Mode) (b c : Building) → Uses mode b → UsesPart r mode b → f mode b ≡ Some c → Turn c × HomeAt c.mode r c × (b.token ≡ AnEof → Whole c)
  pub carries : (n : ℕ) (s : List ℕ) (b c : Building) → Carries (Some n) s b → holds_of (Start heads) b.token ≡ true → EarlyAt r OnHead 0 b.tree → f InHead b ≡ Some c →
      HomeAt c.mode r (perform RemoveHeadFromStack c)
  pub chars : (x : ℕ) (b c : Building) → PendingAt b → BodyAt b.original r b → f InBody (with_char x b) ≡ Some c → PendingAt c × BodyAt c.original r c

-- ---- characters of tables

each_part : (r : ℕ) (f : Mode → Building → Option Building) → PartRuns r f → (xs : List ℕ) (b c : Building) → PendingAt b → BodyAt b.original r b →
    each_char (f InBody) xs b ≡ Some c → PendingAt c × BodyAt c.original r c
each_part r f runs [] b c p s e = subst (λ u. PendingAt u × BodyAt u.original r u) (same_Some b c e) (p, s)
each_part r f runs (x ∷ xs) b c p s e =
    let one : (y : Building) × (f InBody (with_char x b) ≡ Some y) × (each_char (f InBody) xs y ≡ Some c) =
    then_some (each_char (f InBody) xs) (f InBody (with_char x b)) c e in
    let now : PendingAt one.0 × BodyAt one.0.original r one.0 = runs.chars x b one.0 p s one.1 in
    each_part r f runs xs one.0 c now.0 now.1 one.2

pending_part : (r : ℕ) (f : Mode → Building → Option Building) → PartRuns r f → (b c : Building) → PendingAt b → BodyAt b.original r b →
    gone f (UseForEachPending InBody) b ≡ Some c → PendingAt c × BodyAt c.original r c × (c.token ≡ b.token)
pending_part r f runs b c p s e =
    let one : (y : Building) × (each_char (f InBody) (reverse b.pending) b ≡ Some y) × (with_token b.token b.attrs y ≡ c) =
    map_some (with_token b.token b.attrs) (each_char (f InBody) (reverse b.pending) b) c e in
    let now : PendingAt one.0 × BodyAt one.0.original r one.0 = each_part r f runs (reverse b.pending) b one.0 p s one.1 in
    subst (λ u. PendingAt u × BodyAt u.original r u × (u.token ≡ b.token)) one.2 (now.0, now.1, refl)

body_chars : (r : ℕ) (f : Mode → Building → Option Building) (x : ℕ) (b c : Building) → PendingAt b → BodyAt b.original r b → performed f (body_acts x) b ≡ Some c →
    BodyAt c.original r c
unfolding perform
body_chars r f x b c p (site, i, h, few) e = by (x == 0 || false) (is_space x || false) e
  where
    now : InTree r site (with_chars (char_of b.token) (reconstructed b.tree))
    now = in_chars r site (char_of b.token) (reconstructed b.tree) (in_reconstructed r site b.tree p.1.1.entries i)

    by : (y z : Bool) → performed f (elim y [
      | true ↦ []
      | false ↦ elim z [
        | true ↦ does ReconstructFormatting [] ∷ does InsertCharacter [] ∷ []
        | false ↦ does ReconstructFormatting [] ∷ does InsertCharacter [] ∷ does FramesetNotOk [] ∷ []
      ]
    ]) b ≡ Some c → BodyAt c.original r c
    by true z k = subst (λ u. BodyAt u.original r u) (same_Some b c k) (site, i, h, few)
    by false true k = subst (λ u. BodyAt u.original r u) (same_Some _ c k) (site, now, h, few)
    by false false k = subst (λ u. BodyAt u.original r u) (same_Some _ c k) (site, now, h, few)

-- ---- acts

abbrev pub Ends : ℕ → List Act → Building → Building → Type 0
Ends r acts b c = HomeAt c.mode r c × (goes_on acts ≡ true → b.token ≡ AnEof → Whole c)

-- behind what the first act comes to
went_on : (r : ℕ) (f : Mode → Building → Option Building) (acts : List Act) (b x c : Building) → (b.token ≡ AnEof → Whole x) → performed f acts x ≡ Some c →
    HomeAt c.mode r c → HomeAt c.mode r c × (are_none acts ≡ true → b.token ≡ AnEof → Whole c)
went_on r f [] b x c whole e h = (h, λ k eof. subst Whole (same_Some x c e) (whole eof))
went_on r f (act ∷ acts) b x c whole e h = (h, λ k. never k)

acts_parts : (r : ℕ) (f : Mode → Building → Option Building) → PartRuns r f → (acts : List Act) (level : Level) (phase : Phase) (info : Info) (b c : Building) →
    holds_of info b.token ≡ true → acts_part level phase info acts ≡ true → At level b → PhaseAt r phase b → performed f acts b ≡ Some c → Ends r acts b c
acts_parts r f runs [] level phase info b c k pass at p e =
    (subst (λ u. HomeAt u.mode r u) (same_Some b c e) (ends_home r phase b pass p), λ q. never q)
acts_parts r f runs (does action tests ∷ acts) level phase info b c k pass at p e =
    by (next_of level info action tests) (part_next level phase info action tests) refl refl pass
    (λ new next w now q. acts_parts r f runs acts new next (info_after action info) (after tests action b) c (holds_after info action tests b k) w now q e)
  where
    later : Ends r acts (after tests action b) c → Ends r (does action tests ∷ acts) b c
    later ended = (ended.0, λ g eof. ended.1 g (token_after tests action b eof))

    by : (o : Option Level) (q : Option Phase) → next_of level info action tests ≡ o → part_next level phase info action tests ≡ q →
        elim o as (λ _. Bool) [
          | Some new ↦ elim q as (λ _. Bool) [ Some next ↦ acts_part new next (info_after action info) acts | None ↦ false ]
          | None ↦ false
        ] ≡ true → ((new : Level) (next : Phase) → acts_part new next (info_after action info) acts ≡ true → At new (after tests action b) →
        PhaseAt r next (after tests action b) → Ends r acts (after tests action b) c) → Ends r (does action tests ∷ acts) b c
    by (Some new) (Some next) g h w more =
        later (more new next w (next_of_at level info action tests b new k g at) (part_at r level phase info action tests b new next k g at h p))
    by (Some new) None g h w more = never w
    by None q g h w more = never w
acts_parts r f runs (goes Reprocess ∷ acts) level phase info b c k pass at p e =
    let two : (ends level && part_ends phase ≡ true) × (acts_part Fine Turning (Any [] []) acts ≡ true) = both _ _ pass in
    let more : (ends level ≡ true) × (part_ends phase ≡ true) = both (ends level) (part_ends phase) two.0 in
    let one : (x : Building) × (f Dispatcher b ≡ Some x) × (performed f acts x ≡ Some c) = then_some (performed f acts) (f Dispatcher b) c e in
    let now : Turn one.0 × HomeAt one.0.mode r one.0 × (b.token ≡ AnEof → Whole one.0) =
    runs.uses Dispatcher b one.0 (ends_turn level b more.0 at) (ends_home r phase b more.1 p) one.1 in
    went_on r f acts b one.0 c now.2 one.2 (acts_parts r f runs acts Fine Turning (Any [] []) one.0 c (any_holds one.0.token) two.1 now.0 now.1 one.2).0
acts_parts r f runs (goes UseCurrentMode ∷ acts) level phase info b c k pass at p e =
    let two : (ends level && part_ends phase ≡ true) × (acts_part Fine Turning (Any [] []) acts ≡ true) = both _ _ pass in
    let more : (ends level ≡ true) × (part_ends phase ≡ true) = both (ends level) (part_ends phase) two.0 in
    let one : (x : Building) × (f b.mode b ≡ Some x) × (performed f acts x ≡ Some c) = then_some (performed f acts) (f b.mode b) c e in
    let now : Turn one.0 × HomeAt one.0.mode r one.0 × (b.token ≡ AnEof → Whole one.0) =
    runs.uses b.mode b one.0 (uses_current b (ends_turn level b more.0 at)) (current_part r b (ends_turn level b more.0 at) (ends_home r phase b more.1 p)) one.1 in
    went_on r f acts b one.0 c now.2 one.2 (acts_parts r f runs acts Fine Turning (Any [] []) one.0 c (any_holds one.0.token) two.1 now.0 now.1 one.2).0
acts_parts r f runs (goes (Use mode) ∷ acts) level phase info b c k pass at p e =
    let two : (may_use level info mode && may_use_part level phase info mode ≡ true) × (acts_part Fine Turning (Any [] []) acts ≡ true) = both _ _ pass in
    let more : (may_use level info mode ≡ true) × (may_use_part level phase info mode ≡ true) = both (may_use level info mode) _ two.0 in
    let one : (x : Building) × (f mode b ≡ Some x) × (performed f acts x ≡ Some c) = then_some (performed f acts) (f mode b) c e in
    let now : Turn one.0 × HomeAt one.0.mode r one.0 × (b.token ≡ AnEof → Whole one.0) =
    runs.uses mode b one.0 (use_at level info mode b more.0 k at) (use_part r level phase info mode b more.0 more.1 k at p) one.1 in
    went_on r f acts b one.0 c now.2 one.2 (acts_parts r f runs acts Fine Turning (Any [] []) one.0 c (any_holds one.0.token) two.1 now.0 now.1 one.2).0
acts_parts r f runs (goes (UseForEachPending mode) ∷ acts) level phase info b c k pass at p e =
    let two : (is_table_text level mode && is_tabling phase ≡ true) × (acts_part Behind Returning (Any [] []) acts ≡ true) = both _ _ pass in
    let more : (is_table_text level mode ≡ true) × (is_tabling phase ≡ true) = both (is_table_text level mode) (is_tabling phase) two.0 in
    let here : (InBody ≡ mode) × PendingAt b = table_text_is level mode b more.0 at in
    let one : (x : Building) × (gone f (UseForEachPending mode) b ≡ Some x) × (performed f acts x ≡ Some c) =
    then_some (performed f acts) (gone f (UseForEachPending mode) b) c e in
    let now : PendingAt one.0 × BodyAt one.0.original r one.0 × (one.0.token ≡ b.token) =
    pending_part r f runs b one.0 here.1 (tabling phase more.1 p) (subst (λ m. gone f (UseForEachPending m) b ≡ Some one.0) (sym here.0) one.1) in
    let rest : Ends r acts one.0 c =
    acts_parts r f runs acts Behind Returning (Any [] []) one.0 c (any_holds one.0.token) two.1 (now.0.0, now.0.1) (body_home one.0.original r one.0 now.1) one.2 in
    (rest.0, λ g eof. rest.1 g (now.2 ∙ eof))
  where
    tabling : (phase : Phase) → is_tabling phase ≡ true → PhaseAt r phase b → BodyAt b.original r b
    tabling Tabling h q = q.1
    tabling _ h q = never h

-- ---- with the head element on the stack

abbrev pub HeadParts : List ℕ → List Act → Type 0
HeadParts name acts =
    ((acts ≡ void_acts) × (is_plain (name_class name) ≡ true))
    ⊎ (((state : TextState) × (acts ≡ text_acts state) × (is_plain (name_class name) ≡ true)) ⊎ ((acts ≡ template_acts) × (name_class name ≡ TemplateC)))

named_parts : (attrs : List Attr) (closing : Bool) (u : Building) (name : List ℕ) → is_among name heads ≡ true →
    HeadParts name (taken (with_tok (AStart name attrs closing) u) (rules InHead))
unfolding rules taken
named_parts attrs closing u = each_name (λ name. HeadParts name (taken (with_tok (AStart name attrs closing) u) (rules InHead))) heads (
  inl (refl, refl),
  (
    inl (refl, refl),
    (
      inl (refl, refl),
      (
        inl (refl, refl),
        (
          inl (refl, refl),
          (
            inr (inl (RawText, refl, refl)),
            (inr (inl (ScriptText, refl, refl)), (inr (inl (RawText, refl, refl)), (inr (inr (refl, refl)), (inr (inl (RcdataText, refl, refl)), tt)))),
          ),
        ),
      ),
    ),
  ),
)

token_parts : (t : Token) (u : Building) → holds_of (Start heads) t ≡ true → HeadParts (own_name t) (taken (with_tok t u) (rules InHead))
token_parts (AStart name attrs closing) u h = named_parts attrs closing u name h
token_parts (AnEnd name) u h = never h
token_parts (AChar c) u h = never h
token_parts (AComment text) u h = never h
token_parts (ADoctype d) u h = never h
token_parts AnEof u h = never h

head_parts : (b : Building) → holds_of (Start heads) b.token ≡ true → HeadParts (own_name b.token) (taken b (rules InHead))
head_parts b h = token_parts b.token b h

inserted_head : (name : List ℕ) (attrs : List NodeAttr) (t : GrowingTree) → (inserted Html name attrs t).head ≡ t.head
inserted_head name attrs t = ap (λ (made : GrowingTree). (pushed (fresh t) (put (fresh t) (place t) made)).head) (created_only Html name attrs t)

inserted_stack : (name : List ℕ) (attrs : List NodeAttr) (t : GrowingTree) → (inserted Html name attrs t).stack ≡ fresh t ∷ t.stack
inserted_stack name attrs t = ap (λ (made : GrowingTree). (pushed (fresh t) (put (fresh t) (place t) made)).stack) (created_only Html name attrs t)

-- nodes of other classes are others
apart : (f : ℕ → Cls) (test : Cls → Bool) (m n : ℕ) → test (f m) ≡ false → test (f n) ≡ true → nat_eq m n ≡ false
apart f test m n off is_ = by (nat_eq m n) refl
  where
    by : (x : Bool) → nat_eq m n ≡ x → nat_eq m n ≡ false
    by true e = never (sym off ∙ subst (λ i. test (f i) ≡ true) (sym (same_number m n e)) is_)
    by false e = e

root_head : (c : Cls) → c ≡ HtmlC → is_head c ≡ false
root_head c e = ap is_head e

plain_head : (c : Cls) → is_plain c ≡ true → is_head c ≡ false
plain_head PlainC h = refl
plain_head _ h = never h

template_head : (c : Cls) → is_template c ≡ true → is_head c ≡ false
template_head TemplateC h = refl
template_head _ h = never h

without_head : (n r : ℕ) → nat_eq r n ≡ false → without n (n ∷ r ∷ []) ≡ r ∷ []
without_head n r off =
    ap (λ x. cond (not x) (n ∷ without n (r ∷ [])) (without n (r ∷ []))) (same_again n) ∙ ap (λ x. cond (not x) (r ∷ []) []) off

without_below : (m n r : ℕ) → nat_eq m n ≡ false → nat_eq r n ≡ false → without n (m ∷ n ∷ r ∷ []) ≡ m ∷ r ∷ []
without_below m n r first off =
    ap (λ x. cond (not x) (m ∷ without n (n ∷ r ∷ [])) (without n (n ∷ r ∷ []))) first ∙ ap (λ s. m ∷ s) (without_head n r off)

-- the head element is taken from the stack
taken_away : (P : GrowingTree → Type 0) (t : GrowingTree) (n : ℕ) (rest : List ℕ) → t.head ≡ Some n → without n t.stack ≡ rest → P (with_stack t rest) →
    P (option_map_or (λ m. unstacked m t) t.head t)
taken_away P t n rest e f h = subst (λ o. P (option_map_or (λ m. unstacked m t) o t)) (sym e) (subst (λ q. P (with_stack t q)) (sym f) h)

away_now : (r n : ℕ) (t : GrowingTree) → t.head ≡ Some n → t.stack ≡ n ∷ r ∷ [] → is_head (class_at (tags t.nodes) n) ≡ true → EarlyAt r OnHead 0 t →
    EarlyAt r OnHtml 0 (option_map_or (λ m. unstacked m t) t.head t)
away_now r n t e s h early =
    taken_away (EarlyAt r OnHtml 0) t n (r ∷ []) e (subst (λ q. without n q ≡ r ∷ []) (sym s)
    (without_head n r (apart (class_at (tags t.nodes)) is_head r n (root_head _ early.nodes.frame.root) h))) (record {
      nodes = early.nodes;
      stack = refl;
      plainly = record { listed = early.plainly.listed; form = early.plainly.form; page = early.plainly.page; found = early.plainly.found };
    })

away_below : (r m n : ℕ) (t : GrowingTree) → t.head ≡ Some n → t.stack ≡ m ∷ n ∷ r ∷ [] → is_head (class_at (tags t.nodes) n) ≡ true → EarlyAt r OnHead 1 t →
    EarlyAt r OnHtml 1 (option_map_or (λ i. unstacked i t) t.head t)
away_below r m n t e s h early =
    taken_away (EarlyAt r OnHtml 1) t n (m ∷ r ∷ []) e (subst (λ q. without n q ≡ m ∷ r ∷ []) (sym s)
    (without_below m n r (apart (class_at (tags t.nodes)) is_head m n (plain_head _ plain) h)
    (apart (class_at (tags t.nodes)) is_head r n (root_head _ early.nodes.frame.root) h))) (record {
      nodes = early.nodes;
      stack = (plain, refl);
      plainly = record { listed = early.plainly.listed; form = early.plainly.form; page = early.plainly.page; found = early.plainly.found };
    })
  where
    first_plain : (q : List ℕ) → q ≡ m ∷ n ∷ r ∷ [] → Over (class_at (tags t.nodes)) (Rattle.standard_order.proofs.PartStates.BaseIs r (class_at (tags t.nodes)) OnHead) 1 q →
        is_plain (class_at (tags t.nodes) m) ≡ true
    first_plain q f o = (subst (Over (class_at (tags t.nodes)) (Rattle.standard_order.proofs.PartStates.BaseIs r (class_at (tags t.nodes)) OnHead) 1) f o).0

    plain : is_plain (class_at (tags t.nodes) m) ≡ true
    plain = first_plain t.stack s early.stack

-- which nodes are on the stack
head_is : (r n : ℕ) (s : List ℕ) (t : GrowingTree) → t.stack ≡ n ∷ s → EarlyAt r OnHead 0 t → (t.stack ≡ n ∷ r ∷ []) × (is_head (class_at (tags t.nodes) n) ≡ true)
head_is r n s t e early =
    let same : early.stack.0 ≡ n = ap top (sym early.stack.1 ∙ e) in
    (early.stack.1 ∙ ap (λ h. h ∷ r ∷ []) same, subst (λ h. is_head (class_at (tags t.nodes) h) ≡ true) same early.stack.2)

carried_part : (r : ℕ) (f : Mode → Building → Option Building) (acts : List Act) (n : ℕ) (s : List ℕ) (b c : Building) → HeadParts (own_name b.token) acts →
    Carries (Some n) s b → EarlyAt r OnHead 0 b.tree → performed f acts b ≡ Some c → HomeAt c.mode r (perform RemoveHeadFromStack c)
unfolding perform
carried_part r f acts n s b c (inl (is_, plain)) carries early e =
    subst (λ u. HomeAt u.mode r (perform RemoveHeadFromStack u)) (same_Some _ c (subst (λ a. performed f a b ≡ Some c) is_ e))
    (subst (λ m. HomeAt m r (perform RemoveHeadFromStack (with_tree b now))) (sym carries.mode_is)
    (away_now r n now (inserted_head (own_name b.token) b.attrs b.tree ∙ carries.head_at) stack_is
    (subst (λ h. is_head (class_at (tags now.nodes) h) ≡ true) same popped.stack.2) popped))
  where
    now : GrowingTree
    now = with_stack (inserted Html (own_name b.token) b.attrs b.tree) (drop 1 (inserted Html (own_name b.token) b.attrs b.tree).stack)

    popped : EarlyAt r OnHead 0 (with_stack (inserted Html (own_name b.token) b.attrs b.tree) (drop 1 (inserted Html (own_name b.token) b.attrs b.tree).stack))
    popped = early_popped r OnHead 0 (inserted Html (own_name b.token) b.attrs b.tree) (early_pushed r 0 (own_name b.token) b.attrs b.tree plain early)

    stack_is : drop 1 (inserted Html (own_name b.token) b.attrs b.tree).stack ≡ n ∷ r ∷ []
    stack_is = ap (drop 1) (inserted_stack (own_name b.token) b.attrs b.tree) ∙ (head_is r n s b.tree carries.stack_is early).0

    same : popped.stack.0 ≡ n
    same = ap top (sym popped.stack.1 ∙ stack_is)
carried_part r f acts n s b c (inr (inl (state, is_, plain))) carries early e =
    subst (λ u. HomeAt u.mode r (perform RemoveHeadFromStack u)) (same_Some _ c (subst (λ a. performed f a b ≡ Some c) is_ e))
    (subst (λ m. TextAt m r (perform RemoveHeadFromStack (record (with_tree b now) { tokenizer = Some state; original = m; mode = Text }))) (sym carries.mode_is)
    (away_below r (fresh b.tree) n now (inserted_head (own_name b.token) b.attrs b.tree ∙ carries.head_at)
    (inserted_stack (own_name b.token) b.attrs b.tree ∙ ap (λ q. fresh b.tree ∷ q) was.0) still pushed_now))
  where
    now : GrowingTree
    now = inserted Html (own_name b.token) b.attrs b.tree

    was : (b.tree.stack ≡ n ∷ r ∷ []) × (is_head (class_at (tags b.tree.nodes) n) ≡ true)
    was = head_is r n s b.tree carries.stack_is early

    pushed_now : EarlyAt r OnHead 1 (inserted Html (own_name b.token) b.attrs b.tree)
    pushed_now = early_pushed r 0 (own_name b.token) b.attrs b.tree plain early

    below : (q : List ℕ) → q ≡ fresh b.tree ∷ n ∷ r ∷ [] → Over (class_at (tags (inserted Html (own_name b.token) b.attrs b.tree).nodes))
        (Rattle.standard_order.proofs.PartStates.BaseIs r (class_at (tags (inserted Html (own_name b.token) b.attrs b.tree).nodes)) OnHead) 1 q →
        is_head (class_at (tags (inserted Html (own_name b.token) b.attrs b.tree).nodes) n) ≡ true
    below q g o = cut (subst (Over (class_at (tags (inserted Html (own_name b.token) b.attrs b.tree).nodes))
        (Rattle.standard_order.proofs.PartStates.BaseIs r (class_at (tags (inserted Html (own_name b.token) b.attrs b.tree).nodes)) OnHead) 1) g o).1
      where
        cut : Rattle.standard_order.proofs.PartStates.BaseIs r (class_at (tags (inserted Html (own_name b.token) b.attrs b.tree).nodes)) OnHead (n ∷ r ∷ []) →
            is_head (class_at (tags (inserted Html (own_name b.token) b.attrs b.tree).nodes) n) ≡ true
        cut (h, k, head_) = subst (λ j. is_head (class_at (tags (inserted Html (own_name b.token) b.attrs b.tree).nodes) j) ≡ true) (ap top (sym k)) head_

    still : is_head (class_at (tags (inserted Html (own_name b.token) b.attrs b.tree).nodes) n) ≡ true
    still = below (inserted Html (own_name b.token) b.attrs b.tree).stack
        (inserted_stack (own_name b.token) b.attrs b.tree ∙ ap (λ q. fresh b.tree ∷ q) was.0) pushed_now.stack
carried_part r f acts n s b c (inr (inr (is_, template))) carries early e =
    subst (λ u. HomeAt u.mode r (perform RemoveHeadFromStack u)) (same_Some _ c (subst (λ a. performed f a b ≡ Some c) is_ e)) (
      in_template,
      taken_away (InTree r in_template) now n (fresh host ∷ r ∷ []) (inserted_head (own_name b.token) b.attrs host ∙ carries.head_at)
          (subst (λ q. without n q ≡ fresh host ∷ r ∷ []) (sym opened.0.stack_is)
          (without_below (fresh host) n r (apart (class_at (tags now.nodes)) is_head (fresh host) n (template_head _ opened.1) opened.2)
          (apart (class_at (tags now.nodes)) is_head r n (root_head _ opened.0.nodes.frame.root) opened.2))) left,
      refl,
      refl,
    )
  where
    host : GrowingTree
    host = record b.tree { listed = Marker ∷ b.tree.listed }

    now : GrowingTree
    now = inserted Html (own_name b.token) b.attrs (record b.tree { listed = Marker ∷ b.tree.listed })

    was : (b.tree.stack ≡ n ∷ r ∷ []) × (is_head (class_at (tags b.tree.nodes) n) ≡ true)
    was = head_is r n s b.tree carries.stack_is early

    opened : Open r Headed (fresh host ∷ n ∷ r ∷ []) (inserted Html (own_name b.token) b.attrs (record b.tree { listed = Marker ∷ b.tree.listed })) ×
        (is_template (class_at (tags (inserted Html (own_name b.token) b.attrs (record b.tree { listed = Marker ∷ b.tree.listed })).nodes) (fresh host)) ≡ true) ×
        (is_head (class_at (tags (inserted Html (own_name b.token) b.attrs (record b.tree { listed = Marker ∷ b.tree.listed })).nodes) n) ≡ true)
    opened = open_in_head r n is_template (own_name b.token) b.attrs (record b.tree { listed = Marker ∷ b.tree.listed }) refl (ap is_template template) (ap is_single template)
        was.1 (record {
          nodes = early.nodes;
          stack_is = was.0;
          plainly = record { listed = early.plainly.listed; form = early.plainly.form; page = early.plainly.page; found = early.plainly.found };
        })

    template_is : (d : Cls) → is_template d ≡ true → d ≡ TemplateC
    template_is TemplateC h = refl
    template_is _ h = never h

    left : InTree r in_template (with_stack (inserted Html (own_name b.token) b.attrs (record b.tree { listed = Marker ∷ b.tree.listed })) (fresh host ∷ r ∷ []))
    left = in_classes r in_template (TemplateC ∷ HtmlC ∷ []) (with_stack now (fresh host ∷ r ∷ []))
        (ap (λ d. d ∷ class_at (tags now.nodes) r ∷ []) (template_is _ opened.1) ∙ ap (λ d. TemplateC ∷ d ∷ []) opened.0.nodes.frame.root) opened.0.nodes
        (ap (λ d. is_element d && (is_element (class_at (tags now.nodes) r) && true)) (template_is _ opened.1) ∙ ap (λ d. is_element d && true) opened.0.nodes.frame.root)
        refl refl refl refl (record { listed = opened.0.plainly.listed; form = opened.0.plainly.form; page = opened.0.plainly.page; found = opened.0.plainly.found })

-- ---- acts of certain rules

after_outer : (r : ℕ) (phase : Phase) (b : Building) → is_after_phase phase ≡ true → PhaseAt r phase b → EarlyAt r OnHtml 0 b.tree
after_outer r (Outer OnHtml zero AfterHead kept) b h p = p.0
after_outer r _ b h p = never h

-- the head element of a page
head_node : (t : GrowingTree) → t.context ≡ None → PointersOf t → (n : ℕ) × (t.head ≡ Some n) × IsAt head (labels t.nodes) n
head_node t page p = by t.context t.head page refl p.head_is
  where
    by : (context : Option Kind) (o : Option ℕ) → context ≡ None → t.head ≡ o → IsHeadPointer (labels t.nodes) context o →
        (n : ℕ) × (t.head ≡ Some n) × IsAt head (labels t.nodes) n
    by None None f e h = never (sym h)
    by (Some kind) None f e h = cc
    by context (Some n) f e h = (n, e, h)

carries_part : (r d : ℕ) → PartRuns r (run d) → (b c : Building) → LateAt (Exact AfterHead) Of false b → holds_of (Start heads) b.token ≡ true → EarlyAt r OnHtml 0 b.tree →
    performed (run d) carried_acts b ≡ Some c → HomeAt c.mode r c
unfolding perform
carries_part r d runs b c at h early e =
    let node : (n : ℕ) × (b.tree.head ≡ Some n) × IsAt head (labels b.tree.nodes) n = head_node b.tree early.plainly.page at.2.1 in
    let with_it : Building = with_tree b (with_stack b.tree (with_head b.tree.head b.tree.stack)) in
    let one : (x : Building) × (run d InHead with_it ≡ Some x) × (performed (run d) (does RemoveHeadFromStack [] ∷ []) x ≡ Some c) =
    then_some (performed (run d) (does RemoveHeadFromStack [] ∷ [])) (run d InHead with_it) c e in
    subst (λ u. HomeAt u.mode r u) (same_Some _ c one.2)
    (runs.carries node.0 b.tree.stack with_it one.0 (subst (λ o. Carries o b.tree.stack with_it) node.1 (carried_holds b at)) h (record {
      nodes = early.nodes;
      stack = (
        node.0,
        ap (λ o. with_head o b.tree.stack) node.1 ∙ ap (λ s. node.0 ∷ s) early.stack,
        one_any is_head (codes "head" ∷ []) refl (λ name. refl) (λ name. refl) refl b.tree.nodes node.0 (kind_at head b.tree.nodes node.0 node.2),
      );
      plainly = record { listed = early.plainly.listed; form = early.plainly.form; page = early.plainly.page; found = early.plainly.found };
    }) one.1)

begun_part : (r d : ℕ) → PartRuns r (run d) → (b c : Building) → Turn (record b { pending = []; original = b.mode; mode = InTableText }) → BodyAt b.mode r b →
    performed (run d) pending_acts b ≡ Some c → HomeAt c.mode r c × (b.token ≡ AnEof → Whole c)
unfolding perform
begun_part r d runs b c turn body e =
    let u : Building = record b { pending = []; original = b.mode; mode = InTableText } in
    let one : (x : Building) × (run d Dispatcher u ≡ Some x) × (performed (run d) [] x ≡ Some c) = then_some (performed (run d) []) (run d Dispatcher u) c e in
    let now : Turn one.0 × HomeAt one.0.mode r one.0 × (b.token ≡ AnEof → Whole one.0) = runs.uses Dispatcher u one.0 turn body one.1 in
    subst (λ v. HomeAt v.mode r v × (b.token ≡ AnEof → Whole v)) (same_Some one.0 c one.2) (now.1, now.2)

told_body : (r : ℕ) (phase : Phase) (b : Building) → is_told_phase phase ≡ true → PhaseAt r phase b → BodyAt b.mode r b
told_body r (Inner range peak kept sure) b h (c, i, ranged, few, peaked, was, sured) = (c, i, told_home range c b h ranged, few)
told_body r _ b h p = never h

inside_true : (level : Level) (info : Info) (b : Building) → may_use level info InTemplate ≡ true → holds_of info b.token ≡ true → At level b → LateAt (In true) Of false b
inside_true (Late (In true) Of kept) info b m h at = unkept (In true) Of kept b at
inside_true (Late (In false) Of kept) info b m h at = in_any (In false) kept info b refl (inl refl) h at
inside_true (Late _ Of kept) info b m h at = never m
inside_true (Late _ Rattle.standard_order.proofs.Levels.OfHeld kept) info b m h at = never m
inside_true (Late _ Rattle.standard_order.proofs.Levels.OfPlain kept) info b m h at = never m
inside_true (Late _ (Rattle.standard_order.proofs.Levels.Fixed shape) kept) info b m h at = never m
inside_true _ info b m h at = never m

last_is : (acts : List Act) → is_last_use acts ≡ true → goes (Use InTemplate) ∷ [] ≡ acts
last_is (goes (Use InTemplate) ∷ []) h = refl
last_is _ h = never h

end_token : (pattern : Pattern) (t : Token) → is_end pattern ≡ true → fits pattern t ≡ true → t ≡ AnEof
end_token EndOfFile AnEof h f = refl
end_token EndOfFile (AStart name attrs closing) h f = never f
end_token EndOfFile (AnEnd name) h f = never f
end_token EndOfFile (AChar x) h f = never f
end_token EndOfFile (AComment text) h f = never f
end_token EndOfFile (ADoctype d) h f = never f
end_token _ t h f = never h

use_last : (r d : ℕ) → PartRuns r (run d) → (level : Level) (info : Info) (phase : Phase) (b c : Building) → is_told_phase phase ≡ true →
    may_use level info InTemplate ≡ true → b.token ≡ AnEof → holds_of info b.token ≡ true → At level b → PhaseAt r phase b →
    performed (run d) (goes (Use InTemplate) ∷ []) b ≡ Some c → HomeAt c.mode r c × (b.token ≡ AnEof → Whole c)
use_last r d runs level info (Inner range peak kept sure) b c t m eof h at p e =
    let one : (x : Building) × (run d InTemplate b ≡ Some x) × (performed (run d) [] x ≡ Some c) = then_some (performed (run d) []) (run d InTemplate b) c e in
    let now : Turn one.0 × HomeAt one.0.mode r one.0 × (b.token ≡ AnEof → Whole one.0) =
    runs.uses InTemplate b one.0 (use_at level info InTemplate b m h at)
    (template_end_part r range peak kept sure b eof (inside_true level info b m h at) t p) one.1 in
    subst (λ v. HomeAt v.mode r v × (b.token ≡ AnEof → Whole v)) (same_Some one.0 c one.2) (now.1, now.2)
use_last r d runs level info _ b c t m eof h at p e = never t

begin_parts : (r d : ℕ) → PartRuns r (run d) → (acts : List Act) (level : Level) (phase : Phase) (info : Info) (tests : List Test) (pattern : Pattern) (b c : Building) →
    holds_of info b.token ≡ true → At level b → PhaseAt r phase b → list_all (is_met b) tests ≡ true → fits pattern b.token ≡ true →
    acts_begin level phase tests info pattern acts ≡ true → performed (run d) acts b ≡ Some c → Ends r acts b c
begin_parts r d runs acts level phase info tests pattern b c k at p met fit pass e =
    by (is_carried acts) (is_pending acts) (is_last_use acts) refl refl refl pass
  where
    by : (x y z : Bool) → is_carried acts ≡ x → is_pending acts ≡ y → is_last_use acts ≡ z →
        elim x as (λ _. Bool) [
          | true ↦ is_after_phase phase && (is_after_head level && starts_one heads info)
          | false ↦ elim y as (λ _. Bool) [
            | true ↦ is_told_phase phase && (is_inside_level level && is_tabled tests)
            | false ↦ elim z as (λ _. Bool) [
              | true ↦ is_told_phase phase && (may_use level info InTemplate && is_end pattern)
              | false ↦ acts_part level phase info acts
            ]
          ]
        ] ≡ true → Ends r acts b c
    by true y z f g h w =
        let two : (is_after_phase phase ≡ true) × (is_after_head level && starts_one heads info ≡ true) = both (is_after_phase phase) _ w in
        let more : (is_after_head level ≡ true) × (starts_one heads info ≡ true) = both (is_after_head level) (starts_one heads info) two.1 in (
          carries_part r d runs b c (after_head_is level b more.0 at) (starts_so heads info b.token more.1 k) (after_outer r phase b two.0 p)
              (subst (λ a. performed (run d) a b ≡ Some c) (sym (carried_is acts f)) e),
          λ on eof. never (subst (λ a. goes_on a ≡ true) (sym (carried_is acts f)) on),
        )
    by false true z f g h w =
        let two : (is_told_phase phase ≡ true) × (is_inside_level level && is_tabled tests ≡ true) = both (is_told_phase phase) _ w in
        let more : (is_inside_level level ≡ true) × (is_tabled tests ≡ true) = both (is_inside_level level) (is_tabled tests) two.1 in
        let now : HomeAt c.mode r c × (b.token ≡ AnEof → Whole c) =
        begun_part r d runs b c (turn_pending level tests b more.0 more.1 met at) (told_body r phase b two.0 p)
        (subst (λ a. performed (run d) a b ≡ Some c) (sym (pending_is acts g)) e) in
        (now.0, λ on eof. now.1 eof)
    by false false true f g h w =
        let two : (is_told_phase phase ≡ true) × (may_use level info InTemplate && is_end pattern ≡ true) = both (is_told_phase phase) _ w in
        let more : (may_use level info InTemplate ≡ true) × (is_end pattern ≡ true) = both (may_use level info InTemplate) (is_end pattern) two.1 in
        let now : HomeAt c.mode r c × (b.token ≡ AnEof → Whole c) =
        use_last r d runs level info phase b c two.0 more.0 (end_token pattern b.token more.1 fit) k at p
        (subst (λ a. performed (run d) a b ≡ Some c) (sym (last_is acts h)) e) in
        (now.0, λ on eof. now.1 eof)
    by false false false f g h w = acts_parts r (run d) runs acts level phase info b c k w at p e

never_so : (level : Level) (b : Building) → is_never level ≡ true → At level b → ⊥
never_so Rattle.standard_order.proofs.Levels.Never b h at = at
never_so _ b h at = never h

fits_end : (pattern : Pattern) (t : Token) → t ≡ AnEof → fits pattern t ≡ true → may_end pattern ≡ true
fits_end pattern t e f = by pattern (subst (λ u. fits pattern u ≡ true) e f)
  where
    by : (q : Pattern) → fits q AnEof ≡ true → may_end q ≡ true
    by EndOfFile h = refl
    by Anything h = refl
    by _ h = never h

stop_is : (acts : List Act) → is_stop acts ≡ true → does Stop [] ∷ [] ≡ acts
stop_is (does Stop [] ∷ []) h = refl
stop_is _ h = never h

stopped : (d : ℕ) (b c : Building) → performed (run d) (does Stop [] ∷ []) b ≡ Some c → b ≡ c
unfolding perform
stopped d b c e = same_Some b c e

ready_parts : (r d : ℕ) → PartRuns r (run d) → (acts : List Act) (b c : Building) → PartReady r acts b → performed (run d) acts b ≡ Some c →
    HomeAt c.mode r c × (b.token ≡ AnEof → Whole c)
ready_parts r d runs acts b c (level, phase, info, tests, pattern, out, k, at, p, met, fit, over, pass) e =
    by (either_so (is_never level) _ pass)
  where
    end : acts_begin level phase tests info pattern acts && (not (may_end pattern) || (out || ends_well phase acts)) ≡ true →
        HomeAt c.mode r c × (b.token ≡ AnEof → Whole c)
    end h =
        let two : (acts_begin level phase tests info pattern acts ≡ true) × (not (may_end pattern) || (out || ends_well phase acts) ≡ true) =
        both (acts_begin level phase tests info pattern acts) _ h in
        let now : Ends r acts b c = begin_parts r d runs acts level phase info tests pattern b c k at p met fit two.0 e in
        (now.0, λ eof. whole now eof (well (may_end pattern) (fits_end pattern b.token eof fit) two.1 eof))
      where
        well : (x : Bool) → x ≡ true → not x || (out || ends_well phase acts) ≡ true → b.token ≡ AnEof → ends_well phase acts ≡ true
        well true f g eof = cut (either_so out (ends_well phase acts) g)
          where
            cut : (out ≡ true) ⊎ (ends_well phase acts ≡ true) → ends_well phase acts ≡ true
            cut (inl o) = absurd (over o eof)
            cut (inr w) = w
        well false f g eof = never f

        whole : Ends r acts b c → b.token ≡ AnEof → ends_well phase acts ≡ true → Whole c
        whole now eof w = cut (either_so (goes_on acts) _ w)
          where
            cut : (goes_on acts ≡ true) ⊎ (is_stop acts && is_whole_phase phase ≡ true) → Whole c
            cut (inl g) = now.1 g eof
            cut (inr s) = subst Whole (stopped d b c (subst (λ a. performed (run d) a b ≡ Some c) (sym (stop_is acts (both (is_stop acts) _ s).0)) e))
                (whole_phase r phase b (both (is_stop acts) (is_whole_phase phase) s).1 p)

    by : (is_never level ≡ true) ⊎ (acts_begin level phase tests info pattern acts && (not (may_end pattern) || (out || ends_well phase acts)) ≡ true) →
        HomeAt c.mode r c × (b.token ≡ AnEof → Whole c)
    by (inl n) = absurd (never_so level b n at)
    by (inr h) = end h

-- ---- the dispatcher

abbrev pub current_acts : List Act
current_acts = goes UseCurrentMode ∷ []

abbrev pub foreign_acts : List Act
foreign_acts = goes (Use ForeignContent) ∷ []

-- to the current mode; or to foreign content or nowhere, if the token isn't the end of the page
abbrev pub SentTo : Building → List Act → Type 0
SentTo b acts = (acts ≡ current_acts)
    ⊎ (((acts ≡ foreign_acts) × (holds NoOpenElements b ≡ false) × (holds AdjustedCurrentNodeInHtml b ≡ false) × (b.token ≡ AnEof → ⊥))
    ⊎ ((acts ≡ []) × (b.token ≡ AnEof → ⊥)))

sent_end : (u : Building) → taken (with_tok AnEof u) (rules Dispatcher) ≡ current_acts
unfolding rules taken
sent_end u = by (holds NoOpenElements (with_tok AnEof u)) (holds AdjustedCurrentNodeInHtml (with_tok AnEof u))
  where
    by : (x y : Bool) → elim (x && true) as (λ _. List Act) [ true ↦ current_acts | false ↦ elim (y && true) as (λ _. List Act) [ true ↦ current_acts | false ↦ current_acts ] ]
        ≡ current_acts
    by true y = refl
    by false true = refl
    by false false = refl

sent_other : (b : Building) → (b.token ≡ AnEof → ⊥) → SentTo b (taken b (rules Dispatcher))
unfolding rules
sent_other b other = by (holds NoOpenElements b) (holds AdjustedCurrentNodeInHtml b) refl refl
  where
    by : (x y : Bool) → holds NoOpenElements b ≡ x → holds AdjustedCurrentNodeInHtml b ≡ y → SentTo b (taken b (rules Dispatcher))
    by true y e f = inl (anything_met b (is NoOpenElements) current_acts _ e)
    by false true e f = inl (anything_unmet b (is NoOpenElements) current_acts _ e ∙ anything_met b (is AdjustedCurrentNodeInHtml) current_acts _ f)
    by false false e f = subst (SentTo b) (sym (anything_unmet b (is NoOpenElements) current_acts _ e ∙ anything_unmet b (is AdjustedCurrentNodeInHtml) current_acts _ f))
        (Rattle.standard_order.proofs.RulesUsed.taken_among (SentTo b) b _
        (inl refl, (inl refl, (inl refl, (inl refl, (inl refl, (inl refl, (inr (inl (refl, e, f, other)), inr (inr (refl, other))))))))))

sent : (b : Building) → SentTo b (taken b (rules Dispatcher))
sent b = by_token (λ u. SentTo u (taken u (rules Dispatcher))) each b
  where
    each : (t : Token) (u : Building) → SentTo (with_tok t u) (taken (with_tok t u) (rules Dispatcher))
    each AnEof u = inl (sent_end u)
    each (AStart name attrs closing) u = sent_other (with_tok (AStart name attrs closing) u) (λ e. no e)
      where
        no : AStart name attrs closing ≡ AnEof → ⊥
        no e = cc
    each (AnEnd name) u = sent_other (with_tok (AnEnd name) u) (λ e. no e)
      where
        no : AnEnd name ≡ AnEof → ⊥
        no e = cc
    each (AChar x) u = sent_other (with_tok (AChar x) u) (λ e. no e)
      where
        no : AChar x ≡ AnEof → ⊥
        no e = cc
    each (AComment text) u = sent_other (with_tok (AComment text) u) (λ e. no e)
      where
        no : AComment text ≡ AnEof → ⊥
        no e = cc
    each (ADoctype d) u = sent_other (with_tok (ADoctype d) u) (λ e. no e)
      where
        no : ADoctype d ≡ AnEof → ⊥
        no e = cc

html_space : (kind : Kind) → kind_class kind ≡ HtmlC → is_html (space_in kind) ≡ true
html_space (ElementNode Html name attrs contents) h = refl
html_space (ElementNode Svg name attrs contents) h = never (ap is_root h)
html_space (ElementNode MathMl name attrs contents) h = never (ap is_root h)
html_space (TextNode text) h = refl
html_space (CommentNode text) h = refl
html_space (DoctypeNode d) h = refl
html_space DocumentNode h = refl
html_space ContentsNode h = refl

foreign_uses : (r : ℕ) (b : Building) → (b.token ≡ AnEof → ⊥) → holds AdjustedCurrentNodeInHtml b ≡ false → LateAt Sorted Of false b → HomeAt b.mode r b →
    UsesPart r ForeignContent b
foreign_uses r b other foreign at home_ = by b.mode refl home_
  where
    out : (m : Mode) → b.mode ≡ m → sorted_mode m ≡ false → {A : Type 0} → A
    out m e off = never (sym off ∙ subst (λ q. sorted_mode q ≡ true) e at.0)

    root : EarlyAt r OnHtml 0 b.tree → is_html (space_in (kind_of b.tree (current b.tree))) ≡ true
    root early = ap (λ s. is_html (space_in (kind_of b.tree (top s)))) early.stack
        ∙ html_space (kind_of b.tree r) (ap (λ u. u.cls) (sym (tag_there b.tree.nodes r (ap Rattle.standard_order.proofs.NodeTags.is_there early.nodes.frame.root)))
        ∙ early.nodes.frame.root)

    framed : (m : Mode) → b.mode ≡ m → Rattle.standard_order.proofs.Levels.is_framed m ≡ true → FramedAt r b.tree → UsesPart r ForeignContent b
    framed m e f h = foreign_framed_part r b other at (h, λ k. ap Rattle.standard_order.proofs.Levels.is_framed e ∙ f, λ k. never k)

    body : (m : Mode) → b.mode ≡ m → BodyAt m r b → UsesPart r ForeignContent b
    body m e h = foreign_part r b other at (subst (λ q. BodyAt q r b) (sym e) h)

    by : (m : Mode) → b.mode ≡ m → HomeAt m r b → UsesPart r ForeignContent b
    by BeforeHead e h = out BeforeHead e refl
    by InHead e h = out InHead e refl
    by InHeadNoscript e h = out InHeadNoscript e refl
    by Text e h = out Text e refl
    by InTableText e h = out InTableText e refl
    by AfterHead e h = never (sym foreign ∙ page_in_html b h.plainly.page (root h))
    by InFrameset e h = framed InFrameset e refl h
    by AfterFrameset e h = framed AfterFrameset e refl h
    by AfterAfterFrameset e h = framed AfterAfterFrameset e refl h
    by m e h = body m e h

sent_parts : (r d : ℕ) → PartRuns r (run d) → (b c : Building) → Turn b → HomeAt b.mode r b → performed (run d) (taken b (rules Dispatcher)) b ≡ Some c →
    HomeAt c.mode r c × (b.token ≡ AnEof → Whole c)
sent_parts r d runs b c turn home_ e = by (sent b)
  where
    by : SentTo b (taken b (rules Dispatcher)) → HomeAt c.mode r c × (b.token ≡ AnEof → Whole c)
    by (inl is_) =
        let one : (x : Building) × (run d b.mode b ≡ Some x) × (performed (run d) [] x ≡ Some c) =
        then_some (performed (run d) []) (run d b.mode b) c (subst (λ a. performed (run d) a b ≡ Some c) is_ e) in
        let now : Turn one.0 × HomeAt one.0.mode r one.0 × (b.token ≡ AnEof → Whole one.0) =
        runs.uses b.mode b one.0 (uses_current b turn) (current_part r b turn home_) one.1 in
        subst (λ v. HomeAt v.mode r v × (b.token ≡ AnEof → Whole v)) (same_Some one.0 c one.2) (now.1, now.2)
    by (inr (inr (is_, other))) =
        (subst (λ v. HomeAt v.mode r v) (same_Some b c (subst (λ a. performed (run d) a b ≡ Some c) is_ e)) home_, λ eof. absurd (other eof))
    by (inr (inl (is_, filled, foreign, other))) =
        let at : LateAt Sorted Of false b = sorted_turns b turn filled foreign in
        let one : (x : Building) × (run d ForeignContent b ≡ Some x) × (performed (run d) [] x ≡ Some c) =
        then_some (performed (run d) []) (run d ForeignContent b) c (subst (λ a. performed (run d) a b ≡ Some c) is_ e) in
        let now : Turn one.0 × HomeAt one.0.mode r one.0 × (b.token ≡ AnEof → Whole one.0) =
        runs.uses ForeignContent b one.0 (use_at (Late Sorted Of false) (Any [] []) ForeignContent b refl (any_holds b.token) at)
        (foreign_uses r b other foreign at home_) one.1 in
        subst (λ v. HomeAt v.mode r v × (b.token ≡ AnEof → Whole v)) (same_Some one.0 c one.2) (now.1, now.2)

-- ---- all runs

used_parts : (r d : ℕ) → PartRuns r (run d) → (mode : Mode) (b c : Building) → Uses mode b → UsesPart r mode b → performed (run d) (taken b (rules mode)) b ≡ Some c →
    HomeAt c.mode r c × (b.token ≡ AnEof → Whole c)
used_parts r d runs Dispatcher b c u p e = sent_parts r d runs b c u p e
used_parts r d runs mode b c u p e = ready_parts r d runs (taken b (rules mode)) b c p e

no_result : {P : Type 0} (c : Building) → None ≡ Some c → P
no_result c h = cc

pub all_parts : (r d : ℕ) → PartRuns r (run d)
unfolding run
all_parts r zero = record {
  uses = λ mode b c u p e. no_result c e;
  carries = λ n s b c h k early e. no_result c e;
  chars = λ x b c p s e. no_result c e;
}
all_parts r (suc d) = record {
  uses = λ mode b c u p e.
      let now : HomeAt c.mode r c × (b.token ≡ AnEof → Whole c) = used_parts r d (all_parts r d) mode b c u p e in
      (((all_in_order (suc d)).uses mode b u c e).1, now.0, now.1);
  carries = λ n s b c h k early e. carried_part r (run d) (taken b (rules InHead)) n s b c (head_parts b k) h early e;
  chars = λ x b c p s e. (
    ((all_in_order (suc d)).chars x b p c e).1,
    body_chars r (run d) x (with_char x b) c p s (subst (λ acts. performed (run d) acts (with_char x b) ≡ Some c) (body_taken x b) e),
  );
}
