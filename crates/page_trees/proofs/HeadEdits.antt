-- What the state of tree construction stands for after steps of the rules for "in head".
use Rattle.std.proofs.Common.{◌≡◌, true, false, ◌&&◌, List, [], ◌∷◌, ◌++◌, drop, map, reverse, refl, sym, ap, subst, ◌∙◌, codes, true≢false}
use Rattle.std.specs.Prelude.{None, Option, Some}
use Rattle.std.specs.List.{list_all}
use Rattle.std.specs.Option.{option_to_list}
use Rattle.std.proofs.lemmas.List.{append-nil, reverse-append}
use Rattle.std.proofs.lemmas.List.Folds.{list_all-append}
use Rattle.standard_trees.specs.Building.{Building, perform}
use Rattle.standard_trees.specs.GrowingTree.{GrowingTree, popped_until}
use Rattle.standard_trees.specs.RuleWords.{ClearListToMarker, FramesetNotOk, InTemplate, ListMarker, Mode as StandardMode, Pop, PopTemplateMode, PopUntil}
use Rattle.standard_trees.specs.RuleWords.{PushTemplateMode, TextState, These}
use Rattle.page_tokens.specs.declared.tokenizer.state.State.{State}
use Rattle.page_trees.specs.Constructs.{AreTemplateModes, Constructs, Performs, all_performed, is_entered_plainly, returns_later, state_for}
use Rattle.page_trees.specs.HeadSteps.{after_element, before_element, reading_text, starting_template}
use Rattle.page_trees.specs.Modes.{mode_of}
use Rattle.page_trees.specs.Stands.{Does, without_marker}
use Rattle.page_trees.specs.TokenSteps.{keeps_characters}
use Rattle.page_trees.specs.TreeState.{TreeState}
use Rattle.page_trees.specs.declared.builder.Mode.{Mode}
use Rattle.page_trees.specs.declared.builder.TreeBuilder.{TreeBuilder}
use Rattle.page_trees.specs.declared.name.Name.{Name}
use Rattle.page_trees.proofs.BuilderSteps.{entered, moved}
use Rattle.page_trees.proofs.ClosedEntries.{no_frameset}
use Rattle.page_trees.proofs.NamesAgree.{both}

-- ---- the text of an element

pub text_read : (old new : TreeBuilder) (s : TextState) (state : State) → state ≡ state_for s → new ≡ record old { switch = Some state; original = old.mode; mode = Mode.Text } →
    (b : Building) → Constructs old b → Constructs new (all_performed (reading_text s) b)
unfolding perform
text_read old new s state is e b c = subst (λ (x : TreeBuilder). Constructs x (all_performed (reading_text s) b)) (sym e) (record {
  tree = c.tree;
  foster = c.foster;
  in_head = c.in_head;
  mode = refl;
  original = λ h. c.mode;
  template_modes = c.template_modes;
  frameset_ok = c.frameset_ok;
  scripting = c.scripting;
  quirks = c.quirks;
  unread = λ h. absurd (true≢false (ap returns_later h));
  pending = λ h. absurd (true≢false (sym (ap keeps_characters h)));
  skip = c.skip;
  tokenizer = ap Some (sym is);
})

-- ---- the stack of template insertion modes

with_modes : (old mid : TreeBuilder) (b : Building) (modes : List StandardMode) → mid ≡ record old { template_modes = mid.template_modes } →
    AreTemplateModes mid.template_modes.items modes → Constructs old b → Constructs mid (record b { template_modes = modes })
with_modes old mid b modes e are c = subst (λ (x : TreeBuilder). Constructs x (record b { template_modes = modes })) (sym e) (record {
  tree = c.tree;
  foster = c.foster;
  in_head = c.in_head;
  mode = c.mode;
  original = c.original;
  template_modes = are;
  frameset_ok = c.frameset_ok;
  scripting = c.scripting;
  quirks = c.quirks;
  unread = c.unread;
  pending = c.pending;
  skip = c.skip;
  tokenizer = c.tokenizer;
})

pushed_modes : (items new : List Mode) (m : Mode) (modes : List StandardMode) → new ≡ items ++ m ∷ [] → is_entered_plainly m ≡ true → AreTemplateModes items modes →
    AreTemplateModes new (mode_of m ∷ modes)
pushed_modes items new m modes e plain are = (
  ap (λ ms. mode_of m ∷ ms) are.0 ∙ sym (ap (λ ms. map mode_of (reverse ms)) e ∙ ap (map mode_of) (reverse-append items (m ∷ []))),
  ap (list_all is_entered_plainly) e ∙ list_all-append is_entered_plainly items (m ∷ []) ∙ ap (λ x. x && (is_entered_plainly m && true)) are.1 ∙ ap (λ x. x && true) plain,
)

pub mode_pushed : (old mid : TreeBuilder) (m : Mode) → mid ≡ record old { template_modes = mid.template_modes } → mid.template_modes.items ≡ old.template_modes.items ++ m ∷ [] →
    is_entered_plainly m ≡ true → (b : Building) → Constructs old b → Constructs mid (perform (PushTemplateMode (mode_of m)) b)
unfolding perform
mode_pushed old mid m e pushed plain b c =
    with_modes old mid b (mode_of m ∷ b.template_modes) e (pushed_modes old.template_modes.items mid.template_modes.items m b.template_modes pushed plain c.template_modes) c

popped_modes : (items new : List Mode) (r : Option Mode) (modes : List StandardMode) → items ≡ new ++ option_to_list r → (r ≡ None → items ≡ []) → AreTemplateModes items modes →
    AreTemplateModes new (drop 1 modes)
popped_modes items new None modes e none are =
    let nothing : new ≡ [] = sym (append-nil new) ∙ sym e ∙ none refl in
    (ap (drop 1) (are.0 ∙ ap (λ ms. map mode_of (reverse ms)) (none refl)) ∙ sym (ap (λ ms. map mode_of (reverse ms)) nothing), ap (list_all is_entered_plainly) nothing)
popped_modes items new (Some m) modes e none are = (
  ap (drop 1) (are.0 ∙ ap (λ ms. map mode_of (reverse ms)) e ∙ ap (map mode_of) (reverse-append new (m ∷ []))),
  (both (list_all is_entered_plainly new) (list_all is_entered_plainly (m ∷ [])) (sym (list_all-append is_entered_plainly new (m ∷ [])) ∙ sym (ap (list_all is_entered_plainly) e) ∙ are.1)).0,
)

pub mode_popped : (old new : TreeBuilder) (r : Option Mode) → new ≡ record old { template_modes = new.template_modes } →
    old.template_modes.items ≡ new.template_modes.items ++ option_to_list r → (r ≡ None → old.template_modes.items ≡ []) → (b : Building) → Constructs old b →
    Constructs new (perform PopTemplateMode b)
unfolding perform
mode_popped old new r e items none b c =
    with_modes old new b (drop 1 b.template_modes) e (popped_modes old.template_modes.items new.template_modes.items r b.template_modes items none c.template_modes) c

-- ---- templates

-- what is behind a marker and the flag of framesets: the mode is pushed, and entered
pub template_started : (marked pushed : TreeBuilder) (b : Building) → Constructs marked (perform ListMarker b) →
    ((d : Building) → Constructs (record marked { frameset_ok = false }) d → Constructs pushed (perform (PushTemplateMode InTemplate) d)) →
    Constructs (record pushed { mode = Mode.InTemplate }) (all_performed starting_template b)
unfolding perform
template_started marked pushed b c push =
    entered pushed (record pushed { mode = Mode.InTemplate }) Mode.InTemplate refl refl (perform (PushTemplateMode InTemplate) (perform FramesetNotOk (perform ListMarker b)))
    (push (perform FramesetNotOk (perform ListMarker b)) (no_frameset marked (perform ListMarker b) c))

-- elements are popped until a template has been popped, and the list of active formatting elements is cleared up to the last marker
pub template_popped : (old : TreeBuilder) (popped cleared : TreeState) → Does (popped_until (codes "template" ∷ [])) old.tree popped → Does without_marker popped cleared →
    (b : Building) → Constructs old b → Constructs (record old { tree = cleared }) (perform ClearListToMarker (perform (PopUntil (These (codes "template" ∷ []))) b))
unfolding perform
template_popped old popped cleared pops clears b c =
    let inner : GrowingTree = popped_until (codes "template" ∷ []) b.tree in
    moved old (record old { tree = cleared }) cleared old.fault old.too_deep refl b (without_marker inner) c (clears inner (pops b.tree c.tree)) refl

-- ---- around the element

pub nothing_before : (name : Name) (s : TreeBuilder) → (name ≡ Name.Template → ⊥) → Performs (before_element name) s s
nothing_before Name.Template s other = absurd (other refl)
nothing_before _ s other = λ within b stands. stands

-- the elements of the head whose content is no text are closed at once
pub closed_after : (name : Name) (old new : TreeBuilder) → (name ≡ Name.Title → ⊥) → (name ≡ Name.Noframes → ⊥) → (name ≡ Name.Style → ⊥) → (name ≡ Name.Noscript → ⊥) → (name ≡ Name.Script → ⊥) →
    (name ≡ Name.Template → ⊥) → Performs (Pop ∷ []) old new → Performs (after_element name) old new
closed_after Name.Title old new i j k o l m by = absurd (i refl)
closed_after Name.Noframes old new i j k o l m by = absurd (j refl)
closed_after Name.Style old new i j k o l m by = absurd (k refl)
closed_after Name.Noscript old new i j k o l m by = absurd (o refl)
closed_after Name.Script old new i j k o l m by = absurd (l refl)
closed_after Name.Template old new i j k o l m by = absurd (m refl)
closed_after _ old new i j k o l m by = by
