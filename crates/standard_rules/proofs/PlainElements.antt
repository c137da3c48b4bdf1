-- Elements of each class among the contents of a body.
use Rattle.std.specs.Prelude.{◌≡◌, ℕ, suc, Bool, true, false, not, List, [], ◌∷◌, ◌++◌, None, Some, codes, refl}
use Rattle.std.proofs.lemmas.Bool.{and_parts, true≢false}
use mathlib.Core.Path.{sym, ap, subst}
use Rattle.standard_rules.specs.Building.{Building, Open, closed_item, closed_p, tree_step, with_stack}
use Rattle.standard_rules.specs.ElementNames.{scope_of}
use Rattle.standard_rules.specs.PlainTrees.{Class, ABlock, AList, ADescriptionList, AHeading, AParagraph, APhrase, AFormatting, AnAnchor, AVoid, AnItem, ADescription, AButton, ABreak, ASource, AnInput, ARuby, ARubyText, FlowPlace, HeadingPlace, ListPlace, DescriptionListPlace, RubyPlace, Within}
use Rattle.standard_rules.specs.PlainTrees.{admits, are_plain, holds_blocks, inside, is_flow, is_heading, is_none, names_of}
use Rattle.standard_rules.specs.RuleWords.{Scope}
use Rattle.standard_rules.specs.TreeRules.{headings}
use Rattle.standard_tokens.specs.Reading.{switch_at}
use Rattle.standard_tokens.specs.Tokens.{Attr, Token, AStart}
use Rattle.standard_rules.specs.TreeTokens.{Trees, no_trees, text_node, comment_node, doctype_node, element_node, end_of, is_among, tokens}
use Rattle.standard_rules.proofs.ElementSteps.{Begun, Ended, IsBuilt, begun, begun_formatting, begun_plainly, element_built, ended, ended_formatting, one}
use Rattle.standard_rules.proofs.RuleFacts.{block_opens, block_ordinary, block_no_heading, block_barless, list_opens, list_ordinary, list_no_heading, list_barless, list_holds, description_list_opens, description_list_ordinary, description_list_no_heading, description_list_barless}
use Rattle.standard_rules.proofs.RuleFacts.{description_list_holds, paragraph_opens, paragraph_ordinary, paragraph_no_heading, heading_opens, heading_ordinary, heading_barless, phrase_opens, phrase_ordinary, phrase_no_heading, phrase_barless, ruby_opens, ruby_ordinary, ruby_no_heading, ruby_barless}
use Rattle.standard_rules.proofs.RuleFacts.{ruby_text_opens, ruby_text_ordinary, ruby_text_no_heading, ruby_text_barless, item_opens, item_ordinary, item_no_heading, item_barless, description_opens, description_ordinary, description_no_heading, description_barless, button_ordinary}
use Rattle.standard_rules.proofs.RuleFacts.{button_no_heading, formatting_opens, formatting_is, formatting_no_heading, formatting_barless, anchor_is, anchor_no_heading, void_is, break_is, source_is}
use Rattle.standard_rules.proofs.RuleShapes.{Formatting, HoldsItems, IsBreak, IsSource, IsVoid, OpensBlock, OpensFormatting, OpensHeading, OpensItem, OpensPhrase, OpensRubyText, Ordinary, Runs, with_leaf}
use Rattle.standard_rules.proofs.StackKeys.{At, Barless, InFlow, Key, Outer, Passes, Ready, Steady, below_more, description_list_at, flow_of, into_flow, key, key_of, keys, lacking, lacks, lacks_more, list_at, none_needed, not_heading_at, outer, ruby_at, steady_in, top_key_is, unlisted_name}
use Rattle.standard_rules.proofs.TextSteps.{Built, anchor_opens, button_opens, input_made, nothing_to_close, step_by_rules}
use Rattle.standard_rules.proofs.TreeLists.{Steps, of_each, plain_start, step_on}

-- an element of one name, wherever it may stand
abbrev pub ElementBuilt : List ℕ → Class → Type 0
ElementBuilt name kind = (attrs : List Attr) (children : Trees) (w : Within) → admits w kind children ≡ true → are_plain (inside w kind) children ≡ true → IsBuilt (inside w kind) children →
    (b : Building) (o : Open) (os : List Open) → Steady w (outer b) (key o ∷ keys os) → Ready b (key o ∷ keys os) →
    Built b o os (AStart name attrs false ∷ (tokens children ++ end_of name)) (one name attrs children)

pub not_so : (b : Bool) → not b ≡ true → b ≡ false
not_so true k = cc
not_so false k = refl

-- ---- elements with an end tag

-- one that is not listed
pub ordinary : (name : List ℕ) → Ordinary name → (attrs : List Attr) (children : Trees) (v : Within) (b : Building) (o : Open) (os : List Open) → InFlow (outer b) (key o ∷ keys os) →
    Begun b o os name attrs (outer b) → Steady v (outer b) (key_of b.next name ∷ key o ∷ keys os) → IsBuilt v children →
    Built b o os (AStart name attrs false ∷ (tokens children ++ end_of name)) (one name attrs children)
ordinary name facts attrs children v b o os f start steady inner =
    element_built name attrs children v b o os (outer b) facts.ends facts.unswitched start steady inner
    (λ d kept r. subst (λ (y : Outer). Ended d b.next name attrs children o os y) kept
    (ended name facts.closes facts.unlisted d b.next attrs children o os (key o ∷ keys os) (subst (λ (y : Outer). InFlow y (key o ∷ keys os)) (sym kept) f) r))

-- one that is listed
formatted : (name : List ℕ) → Formatting name → (attrs : List Attr) (children : Trees) (v : Within) (b : Building) (o : Open) (os : List Open) → InFlow (outer b) (key o ∷ keys os) →
    Begun b o os name attrs (outer b) → Steady v (outer b) (key_of b.next name ∷ key o ∷ keys os) → IsBuilt v children → Ready b (key o ∷ keys os) →
    Built b o os (AStart name attrs false ∷ (tokens children ++ end_of name)) (one name attrs children)
formatted name facts attrs children v b o os f start steady inner r =
    element_built name attrs children v b o os (outer b) facts.ends facts.unswitched start steady inner
    (λ d kept rd. subst (λ (y : Outer). Ended d b.next name attrs children o os y) kept
    (ended_formatting name facts.listed facts.closes d b.next attrs children o os (key o ∷ keys os) (subst (λ (y : Outer). InFlow y (key o ∷ keys os)) (sym kept) f) rd r.numbers))

-- what flow holds is read in the mode, and is no heading
pub flow_at : (name : List ℕ) (n : ℕ) (x : Outer) (k : Key) (ks : List Key) → Passes name → is_among name headings ≡ false → InFlow x (k ∷ ks) → At FlowPlace x (key_of n name ∷ k ∷ ks)
flow_at name n x k ks passes other f = (into_flow name n x k ks passes f, other)

-- where blocks may stand
pub record Spot (w : Within) (b : Building) (o : Open) (os : List Open) : Type 0 where
  pub flow : InFlow (outer b) (key o ∷ keys os)
  pub no_p : closed_p (o ∷ os) ≡ Some (o ∷ os)
  pub lacks_p : lacks (codes "p") (key o ∷ keys os) ≡ true

pub spot : (w : Within) (b : Building) (o : Open) (os : List Open) → holds_blocks w ≡ true → Steady w (outer b) (key o ∷ keys os) → Spot w b o os
spot w b o os h s =
    let parts : (is_flow w.place ≡ true) × (not w.paragraph ≡ true) = and_parts (is_flow w.place) (not w.paragraph) h in
    record { flow = flow_of w.place (outer b) (key o ∷ keys os) parts.0 s.place; no_p = nothing_to_close (o ∷ os) (s.bars.no_p (not_so w.paragraph parts.1)); lacks_p = s.bars.no_p (not_so w.paragraph parts.1) }

pub block : (name : List ℕ) → is_among name (names_of ABlock) ≡ true → ElementBuilt name ABlock
block name is attrs children w h plain inner b o os s r =
    let p : Spot w b o os = spot w b o os h s in
    let facts : Ordinary name = of_each Ordinary (names_of ABlock) block_ordinary name is in
    ordinary name facts attrs children (inside w ABlock) b o os p.flow
    (begun name attrs b o os p.flow r (of_each OpensBlock (names_of ABlock) block_opens name is attrs (with_stack b (o ∷ os)) p.no_p))
    (steady_in w FlowPlace (outer b) b.next name (key o ∷ keys os) (of_each Barless (names_of ABlock) block_barless name is)
    (flow_at name b.next (outer b) (key o) (keys os) facts.passes (of_each (λ n. is_among n headings ≡ false) (names_of ABlock) block_no_heading name is) p.flow) s.bars) inner

pub list : (name : List ℕ) → is_among name (names_of AList) ≡ true → ElementBuilt name AList
list name is attrs children w h plain inner b o os s r =
    let p : Spot w b o os = spot w b o os h s in
    let facts : Ordinary name = of_each Ordinary (names_of AList) list_ordinary name is in
    ordinary name facts attrs children (inside w AList) b o os p.flow
    (begun name attrs b o os p.flow r (of_each OpensBlock (names_of AList) list_opens name is attrs (with_stack b (o ∷ os)) p.no_p))
    (steady_in w ListPlace (outer b) b.next name (key o ∷ keys os) (of_each Barless (names_of AList) list_barless name is) (
      into_flow name b.next (outer b) (key o) (keys os) facts.passes p.flow,
      of_each (λ n. is_among n headings ≡ false) (names_of AList) list_no_heading name is,
      is,
      lacks_more (codes "p") name b.next (key o ∷ keys os) (of_each Barless (names_of AList) list_barless name is).no_p p.lacks_p,
    ) s.bars) inner

pub description_list : (name : List ℕ) → is_among name (names_of ADescriptionList) ≡ true → ElementBuilt name ADescriptionList
description_list name is attrs children w h plain inner b o os s r =
    let p : Spot w b o os = spot w b o os h s in
    let facts : Ordinary name = of_each Ordinary (names_of ADescriptionList) description_list_ordinary name is in
    ordinary name facts attrs children (inside w ADescriptionList) b o os p.flow
    (begun name attrs b o os p.flow r (of_each OpensBlock (names_of ADescriptionList) description_list_opens name is attrs (with_stack b (o ∷ os)) p.no_p))
    (steady_in w DescriptionListPlace (outer b) b.next name (key o ∷ keys os) (of_each Barless (names_of ADescriptionList) description_list_barless name is) (
      into_flow name b.next (outer b) (key o) (keys os) facts.passes p.flow,
      of_each (λ n. is_among n headings ≡ false) (names_of ADescriptionList) description_list_no_heading name is,
      is,
      lacks_more (codes "p") name b.next (key o ∷ keys os) (of_each Barless (names_of ADescriptionList) description_list_barless name is).no_p p.lacks_p,
    ) s.bars) inner

pub heading : (name : List ℕ) → is_among name (names_of AHeading) ≡ true → ElementBuilt name AHeading
heading name is attrs children w h plain inner b o os s r =
    let parts : (holds_blocks w ≡ true) × (not (is_heading w.place) ≡ true) = and_parts (holds_blocks w) (not (is_heading w.place)) h in
    let p : Spot w b o os = spot w b o os parts.0 s in
    let facts : Ordinary name = of_each Ordinary (names_of AHeading) heading_ordinary name is in
    let top : top_key_is headings (key o ∷ keys os) ≡ false =
    not_heading_at w.place (outer b) (key o ∷ keys os) (and_parts (is_flow w.place) (not w.paragraph) parts.0).0 (not_so (is_heading w.place) parts.1) s.place in
    ordinary name facts attrs children (inside w AHeading) b o os p.flow
    (begun name attrs b o os p.flow r (of_each OpensHeading (names_of AHeading) heading_opens name is attrs (with_stack b (o ∷ os)) p.no_p top))
    (steady_in w HeadingPlace (outer b) b.next name (key o ∷ keys os) (of_each Barless (names_of AHeading) heading_barless name is)
    (into_flow name b.next (outer b) (key o) (keys os) facts.passes p.flow) s.bars) inner

paragraph_p : ElementBuilt (codes "p") AParagraph
paragraph_p attrs children w h plain inner b o os s r =
    let p : Spot w b o os = spot w b o os h s in
    let k : At FlowPlace (outer b) (key_of b.next (codes "p") ∷ key o ∷ keys os) =
    flow_at (codes "p") b.next (outer b) (key o) (keys os) paragraph_ordinary.0.passes paragraph_no_heading.0 p.flow in
    ordinary (codes "p") paragraph_ordinary.0 attrs children (inside w AParagraph) b o os p.flow
    (begun (codes "p") attrs b o os p.flow r (paragraph_opens.0 attrs (with_stack b (o ∷ os)) p.no_p))
    (record {
      place = k;
      bars = record {
        no_p = λ e. absurd (true≢false e);
        no_a = λ e. lacks_more (codes "a") (codes "p") b.next (key o ∷ keys os) refl (s.bars.no_a e);
        no_button = λ e. lacks_more (codes "button") (codes "p") b.next (key o ∷ keys os) refl (s.bars.no_button e);
        no_form = s.bars.no_form;
      };
    }) inner

pub paragraph : (name : List ℕ) → is_among name (names_of AParagraph) ≡ true → ElementBuilt name AParagraph
paragraph = of_each (λ n. ElementBuilt n AParagraph) (names_of AParagraph) (paragraph_p, tt)

pub phrase : (name : List ℕ) → is_among name (names_of APhrase) ≡ true → ElementBuilt name APhrase
phrase name is attrs children w h plain inner b o os s r =
    let f : InFlow (outer b) (key o ∷ keys os) = flow_of w.place (outer b) (key o ∷ keys os) h s.place in
    let facts : Ordinary name = of_each Ordinary (names_of APhrase) phrase_ordinary name is in
    ordinary name facts attrs children (inside w APhrase) b o os f
    (begun name attrs b o os f r (of_each OpensPhrase (names_of APhrase) phrase_opens name is attrs (with_stack b (o ∷ os)) (none_needed (o ∷ os) b.listed r.fits)))
    (steady_in w FlowPlace (outer b) b.next name (key o ∷ keys os) (of_each Barless (names_of APhrase) phrase_barless name is)
    (flow_at name b.next (outer b) (key o) (keys os) facts.passes (of_each (λ n. is_among n headings ≡ false) (names_of APhrase) phrase_no_heading name is) f) s.bars) inner

pub ruby : (name : List ℕ) → is_among name (names_of ARuby) ≡ true → ElementBuilt name ARuby
ruby name is attrs children w h plain inner b o os s r =
    let f : InFlow (outer b) (key o ∷ keys os) = flow_of w.place (outer b) (key o ∷ keys os) h s.place in
    let facts : Ordinary name = of_each Ordinary (names_of ARuby) ruby_ordinary name is in
    ordinary name facts attrs children (inside w ARuby) b o os f
    (begun name attrs b o os f r (of_each OpensPhrase (names_of ARuby) ruby_opens name is attrs (with_stack b (o ∷ os)) (none_needed (o ∷ os) b.listed r.fits)))
    (steady_in w RubyPlace (outer b) b.next name (key o ∷ keys os) (of_each Barless (names_of ARuby) ruby_barless name is)
    (into_flow name b.next (outer b) (key o) (keys os) facts.passes f, of_each (λ n. is_among n headings ≡ false) (names_of ARuby) ruby_no_heading name is, is, refl) s.bars) inner

pub ruby_text : (name : List ℕ) → is_among name (names_of ARubyText) ≡ true → ElementBuilt name ARubyText
ruby_text name is attrs children w h plain inner b o [] s r = absurd (true≢false (sym (ruby_at w.place (outer b) (key o ∷ []) h s.place).3))
ruby_text name is attrs children w h plain inner b o (p ∷ os) s r =
    let a : At RubyPlace (outer b) (key o ∷ key p ∷ keys os) = ruby_at w.place (outer b) (key o ∷ key p ∷ keys os) h s.place in
    let facts : Ordinary name = of_each Ordinary (names_of ARubyText) ruby_text_ordinary name is in
    let opens : OpensRubyText o.name name = of_each (λ parent. OpensRubyText parent name) (names_of ARuby) (of_each (OpensRubyText (codes "ruby")) (names_of ARubyText) ruby_text_opens name is, tt) o.name a.2 in
    ordinary name facts attrs children (inside w ARubyText) b o (p ∷ os) a.0
    (begun name attrs b o (p ∷ os) a.0 r (opens attrs b o.number o.attrs o.children p os))
    (steady_in w FlowPlace (outer b) b.next name (key o ∷ key p ∷ keys os) (of_each Barless (names_of ARubyText) ruby_text_barless name is)
    (flow_at name b.next (outer b) (key o) (key p ∷ keys os) facts.passes (of_each (λ n. is_among n headings ≡ false) (names_of ARubyText) ruby_text_no_heading name is) a.0) s.bars) inner

pub item : (name : List ℕ) → is_among name (names_of AnItem) ≡ true → ElementBuilt name AnItem
item name is attrs children w h plain inner b o os s r =
    let a : At ListPlace (outer b) (key o ∷ keys os) = list_at w.place (outer b) (key o ∷ keys os) h s.place in
    let facts : Ordinary name = of_each Ordinary (names_of AnItem) item_ordinary name is in
    let holds : HoldsItems (names_of AnItem) o.name = of_each (HoldsItems (names_of AnItem)) (names_of AList) list_holds o.name a.2 in
    ordinary name facts attrs children (inside w AnItem) b o os a.0
    (begun_plainly name attrs b o os a.0 r (of_each (OpensItem (names_of AnItem)) (names_of AnItem) item_opens name is attrs (with_stack b (o ∷ os))
    (ap (λ x. closed_item x (o ∷ os)) (holds o.number o.attrs o.children os)) (nothing_to_close (o ∷ os) a.3)))
    (steady_in w FlowPlace (outer b) b.next name (key o ∷ keys os) (of_each Barless (names_of AnItem) item_barless name is)
    (flow_at name b.next (outer b) (key o) (keys os) facts.passes (of_each (λ n. is_among n headings ≡ false) (names_of AnItem) item_no_heading name is) a.0) s.bars) inner

pub description : (name : List ℕ) → is_among name (names_of ADescription) ≡ true → ElementBuilt name ADescription
description name is attrs children w h plain inner b o os s r =
    let a : At DescriptionListPlace (outer b) (key o ∷ keys os) = description_list_at w.place (outer b) (key o ∷ keys os) h s.place in
    let facts : Ordinary name = of_each Ordinary (names_of ADescription) description_ordinary name is in
    let holds : HoldsItems (names_of ADescription) o.name = of_each (HoldsItems (names_of ADescription)) (names_of ADescriptionList) description_list_holds o.name a.2 in
    ordinary name facts attrs children (inside w ADescription) b o os a.0
    (begun_plainly name attrs b o os a.0 r (of_each (OpensItem (names_of ADescription)) (names_of ADescription) description_opens name is attrs (with_stack b (o ∷ os))
    (ap (λ x. closed_item x (o ∷ os)) (holds o.number o.attrs o.children os)) (nothing_to_close (o ∷ os) a.3)))
    (steady_in w FlowPlace (outer b) b.next name (key o ∷ keys os) (of_each Barless (names_of ADescription) description_barless name is)
    (flow_at name b.next (outer b) (key o) (keys os) facts.passes (of_each (λ n. is_among n headings ≡ false) (names_of ADescription) description_no_heading name is) a.0) s.bars) inner

pub formatting_element : (name : List ℕ) → is_among name (names_of AFormatting) ≡ true → ElementBuilt name AFormatting
formatting_element name is attrs children w h plain inner b o os s r =
    let f : InFlow (outer b) (key o ∷ keys os) = flow_of w.place (outer b) (key o ∷ keys os) h s.place in
    let facts : Formatting name = of_each Formatting (names_of AFormatting) formatting_is name is in
    formatted name facts attrs children (inside w AFormatting) b o os f
    (begun_formatting name attrs b o os facts.listed.0 f r (of_each OpensFormatting (names_of AFormatting) formatting_opens name is attrs (with_stack b (o ∷ os)) (none_needed (o ∷ os) b.listed r.fits)))
    (steady_in w FlowPlace (outer b) b.next name (key o ∷ keys os) (of_each Barless (names_of AFormatting) formatting_barless name is)
    (flow_at name b.next (outer b) (key o) (keys os) facts.passes (of_each (λ n. is_among n headings ≡ false) (names_of AFormatting) formatting_no_heading name is) f) s.bars) inner r

anchor_a : ElementBuilt (codes "a") AnAnchor
anchor_a attrs children w h plain inner b o os s r =
    let parts : (is_flow w.place ≡ true) × (not w.anchor ≡ true) = and_parts (is_flow w.place) (not w.anchor) h in
    let f : InFlow (outer b) (key o ∷ keys os) = flow_of w.place (outer b) (key o ∷ keys os) parts.0 s.place in
    formatted (codes "a") anchor_is.0 attrs children (inside w AnAnchor) b o os f
    (begun_formatting (codes "a") attrs b o os refl f r (anchor_opens attrs (with_stack b (o ∷ os)) (none_needed (o ∷ os) b.listed r.fits) (unlisted_name (codes "a") (s.bars.no_a (not_so w.anchor parts.1)) r.fits)))
    (record {
      place = flow_at (codes "a") b.next (outer b) (key o) (keys os) anchor_is.0.passes anchor_no_heading.0 f;
      bars = record {
        no_p = λ e. lacks_more (codes "p") (codes "a") b.next (key o ∷ keys os) refl (s.bars.no_p e);
        no_a = λ e. absurd (true≢false e);
        no_button = λ e. lacks_more (codes "button") (codes "a") b.next (key o ∷ keys os) refl (s.bars.no_button e);
        no_form = s.bars.no_form;
      };
    }) inner r

pub anchor : (name : List ℕ) → is_among name (names_of AnAnchor) ≡ true → ElementBuilt name AnAnchor
anchor = of_each (λ n. ElementBuilt n AnAnchor) (names_of AnAnchor) (anchor_a, tt)

button_b : ElementBuilt (codes "button") AButton
button_b attrs children w h plain inner b o os s r =
    let parts : (is_flow w.place ≡ true) × (not w.button ≡ true) = and_parts (is_flow w.place) (not w.button) h in
    let f : InFlow (outer b) (key o ∷ keys os) = flow_of w.place (outer b) (key o ∷ keys os) parts.0 s.place in
    ordinary (codes "button") button_ordinary.0 attrs children (inside w AButton) b o os f
    (begun_plainly (codes "button") attrs b o os f r (button_opens attrs (with_stack b (o ∷ os)) (none_needed (o ∷ os) b.listed r.fits)
    (lacking (scope_of Scope) (codes "button") (o ∷ os) (s.bars.no_button (not_so w.button parts.1)))))
    (record {
      place = flow_at (codes "button") b.next (outer b) (key o) (keys os) button_ordinary.0.passes button_no_heading.0 f;
      bars = record {
        no_p = λ e. lacks_more (codes "p") (codes "button") b.next (key o ∷ keys os) refl (s.bars.no_p e);
        no_a = λ e. lacks_more (codes "a") (codes "button") b.next (key o ∷ keys os) refl (s.bars.no_a e);
        no_button = λ e. absurd (true≢false e);
        no_form = s.bars.no_form;
      };
    }) inner

pub button : (name : List ℕ) → is_among name (names_of AButton) ≡ true → ElementBuilt name AButton
button = of_each (λ n. ElementBuilt n AButton) (names_of AButton) (button_b, tt)

-- ---- void elements

none_only : (t : Trees) → is_none t ≡ true → no_trees ≡ t
none_only no_trees h = refl
none_only (text_node contents later) h = absurd (true≢false (sym h))
none_only (comment_node contents later) h = absurd (true≢false (sym h))
none_only (doctype_node name later) h = absurd (true≢false (sym h))
none_only (element_node name attrs children later) h = absurd (true≢false (sym h))

pub leaf : (name : List ℕ) (attrs : List Attr) (children : Trees) (ok : Bool) (b : Building) (o : Open) (os : List Open) → is_none children ≡ true → end_of name ≡ [] → switch_at name ≡ None → Ready b (key o ∷ keys os) →
    tree_step (with_stack b (o ∷ os)) (AStart name attrs false) ≡ Some (with_leaf name attrs ok b o os) →
    Built b o os (AStart name attrs false ∷ (tokens children ++ end_of name)) (one name attrs children)
leaf name attrs children ok b o os none ends unswitched r step =
    subst (λ (t : Trees). Built b o os (AStart name attrs false ∷ (tokens t ++ end_of name)) (one name attrs t)) (none_only children none)
    (record {
      after = record b { next = suc b.next; frameset_ok = ok };
      steps = subst (λ (xs : List Token). Steps (with_stack b (o ∷ os)) (AStart name attrs false ∷ xs) (with_leaf name attrs ok b o os)) (sym ends)
          (step_on (with_stack b (o ∷ os)) (with_leaf name attrs ok b o os) (with_leaf name attrs ok b o os) (AStart name attrs false) [] (plain_start name attrs (with_leaf name attrs ok b o os) unswitched) step refl);
      ready = record { skip = r.skip; fits = r.fits; numbers = below_more b.next (key o ∷ keys os) r.numbers };
      kept = refl;
    })

flow_leaf : (name : List ℕ) (attrs : List Attr) (children : Trees) (ok : Bool) (b : Building) (o : Open) (os : List Open) → is_none children ≡ true → end_of name ≡ [] → switch_at name ≡ None →
    InFlow (outer b) (key o ∷ keys os) → Ready b (key o ∷ keys os) → Runs (AStart name attrs false) (with_stack b (o ∷ os)) (with_leaf name attrs ok b o os) →
    Built b o os (AStart name attrs false ∷ (tokens children ++ end_of name)) (one name attrs children)
flow_leaf name attrs children ok b o os none ends unswitched f r runs =
    leaf name attrs children ok b o os none ends unswitched r (step_by_rules (with_stack b (o ∷ os)) (with_leaf name attrs ok b o os) (key o ∷ keys os) (AStart name attrs false) f r.skip runs)

pub void : (name : List ℕ) → is_among name (names_of AVoid) ≡ true → ElementBuilt name AVoid
void name is attrs children w h plain inner b o os s r =
    let parts : (is_flow w.place ≡ true) × (is_none children ≡ true) = and_parts (is_flow w.place) (is_none children) h in
    let facts : IsVoid name = of_each IsVoid (names_of AVoid) void_is name is in
    flow_leaf name attrs children false b o os parts.1 facts.ends facts.unswitched (flow_of w.place (outer b) (key o ∷ keys os) parts.0 s.place) r (facts.made attrs b o os (none_needed (o ∷ os) b.listed r.fits))

pub source : (name : List ℕ) → is_among name (names_of ASource) ≡ true → ElementBuilt name ASource
source name is attrs children w h plain inner b o os s r =
    let parts : (is_flow w.place ≡ true) × (is_none children ≡ true) = and_parts (is_flow w.place) (is_none children) h in
    let facts : IsSource name = of_each IsSource (names_of ASource) source_is name is in
    flow_leaf name attrs children b.frameset_ok b o os parts.1 facts.ends facts.unswitched (flow_of w.place (outer b) (key o ∷ keys os) parts.0 s.place) r (facts.made attrs b o os)

pub thematic_break : (name : List ℕ) → is_among name (names_of ABreak) ≡ true → ElementBuilt name ABreak
thematic_break name is attrs children w h plain inner b o os s r =
    let parts : (holds_blocks w ≡ true) × (is_none children ≡ true) = and_parts (holds_blocks w) (is_none children) h in
    let p : Spot w b o os = spot w b o os parts.0 s in
    let facts : IsBreak name = of_each IsBreak (names_of ABreak) break_is name is in
    flow_leaf name attrs children false b o os parts.1 facts.ends facts.unswitched p.flow r (facts.made attrs b o os p.no_p)

input_i : ElementBuilt (codes "input") AnInput
input_i attrs children w h plain inner b o os s r =
    let parts : (is_flow w.place ≡ true) × (is_none children ≡ true) = and_parts (is_flow w.place) (is_none children) h in
    let made : (ok : Bool) × Runs (AStart (codes "input") attrs false) (with_stack b (o ∷ os)) (with_leaf (codes "input") attrs ok b o os) = input_made attrs b o os (none_needed (o ∷ os) b.listed r.fits) in
    flow_leaf (codes "input") attrs children made.0 b o os parts.1 refl refl (flow_of w.place (outer b) (key o ∷ keys os) parts.0 s.place) r made.1

pub input : (name : List ℕ) → is_among name (names_of AnInput) ≡ true → ElementBuilt name AnInput
input = of_each (λ n. ElementBuilt n AnInput) (names_of AnInput) (input_i, tt)
