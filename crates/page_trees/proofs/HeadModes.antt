-- What the rules for the modes around the head, and for templates, make of a tag.
use Rattle.std.proofs.Common.{◌≡◌, Bool, true, false, ◌&&◌, ◌⊎◌, inl, inr, List, [], ◌∷◌, codes, refl, ap, subst, ◌∙◌, true≢false}
use Rattle.standard_trees.specs.Building.{Building, perform, taken}
use Rattle.standard_trees.specs.RuleWords.{Act, Action, AfterHead, InBody, InFrameset, InHead, InHeadNoscript, InTemplate, InsertElement, InsertNamed, FramesetNotOk, Mode as StandardMode}
use Rattle.standard_trees.specs.RuleWords.{Pop, PopTemplateMode, PushHeadPointer, PushTemplateMode, RawText, RemoveHeadFromStack, SwitchTo, Use, does, goes}
use Rattle.standard_trees.specs.TreeRules.{rules}
use Rattle.page_tokens.specs.declared.token.Tag.{Tag}
use Rattle.page_trees.specs.Constructs.{Constructs, HaveOneToken, IsCurrentTag, Outcome, all_performed, is_entered_plainly}
use Rattle.page_trees.specs.Groups.{is_metadata_name}
use Rattle.page_trees.specs.HeadSteps.{content_mode, is_noscript_name, is_outer_name, reading_text}
use Rattle.page_trees.specs.Modes.{is_start_kind, mode_of}
use Rattle.page_trees.specs.Names.{html_rows, rare_rows}
use Rattle.page_trees.specs.declared.builder.Mode.{Mode}
use Rattle.page_trees.specs.declared.builder.Next.{Next}
use Rattle.page_trees.specs.declared.builder.TreeBuilder.{TreeBuilder}
use Rattle.page_trees.specs.declared.name.Name.{Name}
use Rattle.page_trees.proofs.BuilderSteps.{entered}
use Rattle.page_trees.proofs.HeadRules.{in_head_known}
use Rattle.page_trees.proofs.RulesRun.{outcome, outcome_by, plainly}
use Rattle.page_trees.proofs.RulesTaken.{are_of_names, chosen, plain_tag, taken_tag}

-- ---- in head

abbrev leaves_head : List Action
leaves_head = Pop ∷ SwitchTo AfterHead ∷ []

abbrev noscript_acts : Bool → List Act
noscript_acts x = elim (x && true) [
  | true ↦ plainly (InsertElement ∷ reading_text RawText) Next.Done
  | false ↦ plainly (InsertElement ∷ SwitchTo InHeadNoscript ∷ []) Next.Done
]

html_row : (b : Building) → chosen (plain_tag true Name.Html) b (rules InHead) ≡ goes (Use InBody) ∷ []
unfolding rules
html_row b = refl

noscript_row : (b : Building) (x : Bool) → b.scripting ≡ x → chosen (plain_tag true Name.Noscript) b (rules InHead) ≡ noscript_acts x
unfolding rules
noscript_row b x e = ap noscript_acts e

head_row : (b : Building) → chosen (plain_tag true Name.Head) b (rules InHead) ≡ plainly [] Next.Done
unfolding rules
head_row b = refl

other_row : (b : Building) (name : Name) → is_metadata_name name ≡ false → (name ≡ Name.Html → ⊥) → (name ≡ Name.Noscript → ⊥) → (name ≡ Name.Head → ⊥) →
    chosen (plain_tag true name) b (rules InHead) ≡ plainly leaves_head Next.Again
unfolding rules
other_row b Name.Html h i j k = absurd (i refl)
other_row b Name.Noscript h i j k = absurd (j refl)
other_row b Name.Head h i j k = absurd (k refl)
other_row b Name.Base h i j k = absurd (true≢false h)
other_row b Name.Basefont h i j k = absurd (true≢false h)
other_row b Name.Bgsound h i j k = absurd (true≢false h)
other_row b Name.Link h i j k = absurd (true≢false h)
other_row b Name.Meta h i j k = absurd (true≢false h)
other_row b Name.Noframes h i j k = absurd (true≢false h)
other_row b Name.Script h i j k = absurd (true≢false h)
other_row b Name.Style h i j k = absurd (true≢false h)
other_row b Name.Template h i j k = absurd (true≢false h)
other_row b Name.Title h i j k = absurd (true≢false h)
other_row b _ h i j k = refl

outer_end_row : (b : Building) (name : Name) → is_outer_name name ≡ true → chosen (plain_tag false name) b (rules InHead) ≡ plainly leaves_head Next.Again
unfolding rules
outer_end_row b Name.Body h = refl
outer_end_row b Name.Html h = refl
outer_end_row b Name.Br h = refl
outer_end_row b _ h = absurd (cc)

head_end_row : (b : Building) → chosen (plain_tag false Name.Head) b (rules InHead) ≡ plainly leaves_head Next.Done
unfolding rules
head_end_row b = refl

stray_end_row : (b : Building) (name : Name) → is_outer_name name ≡ false → (name ≡ Name.Head → ⊥) → (name ≡ Name.Template → ⊥) →
    chosen (plain_tag false name) b (rules InHead) ≡ plainly [] Next.Done
unfolding rules
stray_end_row b Name.Body h i j = absurd (true≢false h)
stray_end_row b Name.Html h i j = absurd (true≢false h)
stray_end_row b Name.Br h i j = absurd (true≢false h)
stray_end_row b Name.Head h i j = absurd (i refl)
stray_end_row b Name.Template h i j = absurd (j refl)
stray_end_row b _ h i j = refl

-- what comes of a tag by a row of the table
pub by_row : (mode : StandardMode) (name : Name) (tag : Tag) (b : Building) (new : TreeBuilder) (start : Bool) (actions : List Action) (next : Next) → IsCurrentTag name tag b →
    is_start_kind tag.kind ≡ start → are_of_names (rules mode) ≡ true → chosen (plain_tag start name) b (rules mode) ≡ plainly actions next → HaveOneToken b (all_performed actions b) →
    Constructs new (all_performed actions b) → Outcome mode b new next
by_row mode name tag b new start actions next c e known row same stands =
    outcome mode b new actions next stands same (taken_tag name tag b c start e (rules mode) known ∙ row)

pub by_other : (mode other : StandardMode) (name : Name) (tag : Tag) (b : Building) (new : TreeBuilder) (start : Bool) (next : Next) → IsCurrentTag name tag b →
    is_start_kind tag.kind ≡ start → are_of_names (rules mode) ≡ true → chosen (plain_tag start name) b (rules mode) ≡ goes (Use other) ∷ [] →
    Outcome other b new next → Outcome mode b new next
by_other mode other name tag b new start next c e known row o = outcome_by mode other b new next (taken_tag name tag b c start e (rules mode) known ∙ row) o

pub same_token : (b : Building) → HaveOneToken b b
same_token b = record { token = refl; attrs = refl }

left_token : (b : Building) → HaveOneToken b (all_performed leaves_head b)
unfolding perform
left_token b = record { token = refl; attrs = refl }

pub html_in_head : (tag : Tag) (b : Building) (new : TreeBuilder) (next : Next) → IsCurrentTag Name.Html tag b → is_start_kind tag.kind ≡ true → Outcome InBody b new next → Outcome InHead b new next
html_in_head tag b new next c e o = by_other InHead InBody Name.Html tag b new true next c e in_head_known (html_row b) o

pub text_noscript : (tag : Tag) (b : Building) (new : TreeBuilder) → IsCurrentTag Name.Noscript tag b → is_start_kind tag.kind ≡ true → b.scripting ≡ true →
    Constructs new (all_performed (InsertElement ∷ reading_text RawText) b) → Outcome InHead b new Next.Done
unfolding perform
text_noscript tag b new c e x stands =
    by_row InHead Name.Noscript tag b new true (InsertElement ∷ reading_text RawText) Next.Done c e in_head_known (noscript_row b true x) (record { token = refl; attrs = refl }) stands

pub open_noscript : (tag : Tag) (b : Building) (new : TreeBuilder) → IsCurrentTag Name.Noscript tag b → is_start_kind tag.kind ≡ true → b.scripting ≡ false →
    Constructs new (all_performed (InsertElement ∷ SwitchTo InHeadNoscript ∷ []) b) → Outcome InHead b new Next.Done
unfolding perform
open_noscript tag b new c e x stands =
    by_row InHead Name.Noscript tag b new true (InsertElement ∷ SwitchTo InHeadNoscript ∷ []) Next.Done c e in_head_known (noscript_row b false x) (record { token = refl; attrs = refl }) stands

pub head_ignored : (tag : Tag) (b : Building) (new : TreeBuilder) → IsCurrentTag Name.Head tag b → is_start_kind tag.kind ≡ true → Constructs new b → Outcome InHead b new Next.Done
head_ignored tag b new c e stands = by_row InHead Name.Head tag b new true [] Next.Done c e in_head_known (head_row b) (same_token b) stands

pub head_left : (name : Name) (tag : Tag) (b : Building) (new : TreeBuilder) → IsCurrentTag name tag b → is_start_kind tag.kind ≡ true → is_metadata_name name ≡ false →
    (name ≡ Name.Html → ⊥) → (name ≡ Name.Noscript → ⊥) → (name ≡ Name.Head → ⊥) → Constructs new (all_performed leaves_head b) → Outcome InHead b new Next.Again
head_left name tag b new c e h i j k stands = by_row InHead name tag b new true leaves_head Next.Again c e in_head_known (other_row b name h i j k) (left_token b) stands

pub head_left_by_end : (name : Name) (tag : Tag) (b : Building) (new : TreeBuilder) → IsCurrentTag name tag b → is_start_kind tag.kind ≡ false → is_outer_name name ≡ true →
    Constructs new (all_performed leaves_head b) → Outcome InHead b new Next.Again
head_left_by_end name tag b new c e h stands = by_row InHead name tag b new false leaves_head Next.Again c e in_head_known (outer_end_row b name h) (left_token b) stands

pub head_ended : (tag : Tag) (b : Building) (new : TreeBuilder) → IsCurrentTag Name.Head tag b → is_start_kind tag.kind ≡ false → Constructs new (all_performed leaves_head b) →
    Outcome InHead b new Next.Done
head_ended tag b new c e stands = by_row InHead Name.Head tag b new false leaves_head Next.Done c e in_head_known (head_end_row b) (left_token b) stands

pub head_end_ignored : (name : Name) (tag : Tag) (b : Building) (new : TreeBuilder) → IsCurrentTag name tag b → is_start_kind tag.kind ≡ false → is_outer_name name ≡ false →
    (name ≡ Name.Head → ⊥) → (name ≡ Name.Template → ⊥) → Constructs new b → Outcome InHead b new Next.Done
head_end_ignored name tag b new c e h i j stands = by_row InHead name tag b new false [] Next.Done c e in_head_known (stray_end_row b name h i j) (same_token b) stands

-- ---- in head noscript

noscript_known : are_of_names (rules InHeadNoscript) ≡ true
unfolding rules html_rows rare_rows
noscript_known = refl

abbrev leaves_noscript : List Action
leaves_noscript = Pop ∷ SwitchTo InHead ∷ []

left_noscript_token : (b : Building) → HaveOneToken b (all_performed leaves_noscript b)
unfolding perform
left_noscript_token b = record { token = refl; attrs = refl }

noscript_html_row : (b : Building) → chosen (plain_tag true Name.Html) b (rules InHeadNoscript) ≡ goes (Use InBody) ∷ []
unfolding rules
noscript_html_row b = refl

noscript_element_row : (b : Building) (name : Name) → is_noscript_name name ≡ true → chosen (plain_tag true name) b (rules InHeadNoscript) ≡ goes (Use InHead) ∷ []
unfolding rules
noscript_element_row b Name.Basefont h = refl
noscript_element_row b Name.Bgsound h = refl
noscript_element_row b Name.Link h = refl
noscript_element_row b Name.Meta h = refl
noscript_element_row b Name.Noframes h = refl
noscript_element_row b Name.Style h = refl
noscript_element_row b _ h = absurd (cc)

noscript_ignores_row : (b : Building) (name : Name) → (name ≡ Name.Head) ⊎ (name ≡ Name.Noscript) → chosen (plain_tag true name) b (rules InHeadNoscript) ≡ plainly [] Next.Done
unfolding rules
noscript_ignores_row b name (inl e) = ap (λ n. chosen (plain_tag true n) b (rules InHeadNoscript)) e
noscript_ignores_row b name (inr e) = ap (λ n. chosen (plain_tag true n) b (rules InHeadNoscript)) e

noscript_other_row : (b : Building) (name : Name) → is_noscript_name name ≡ false → (name ≡ Name.Html → ⊥) → (name ≡ Name.Head → ⊥) → (name ≡ Name.Noscript → ⊥) →
    chosen (plain_tag true name) b (rules InHeadNoscript) ≡ plainly leaves_noscript Next.Again
unfolding rules
noscript_other_row b Name.Html h i j k = absurd (i refl)
noscript_other_row b Name.Head h i j k = absurd (j refl)
noscript_other_row b Name.Noscript h i j k = absurd (k refl)
noscript_other_row b Name.Basefont h i j k = absurd (true≢false h)
noscript_other_row b Name.Bgsound h i j k = absurd (true≢false h)
noscript_other_row b Name.Link h i j k = absurd (true≢false h)
noscript_other_row b Name.Meta h i j k = absurd (true≢false h)
noscript_other_row b Name.Noframes h i j k = absurd (true≢false h)
noscript_other_row b Name.Style h i j k = absurd (true≢false h)
noscript_other_row b _ h i j k = refl

noscript_end_row : (b : Building) → chosen (plain_tag false Name.Noscript) b (rules InHeadNoscript) ≡ plainly leaves_noscript Next.Done
unfolding rules
noscript_end_row b = refl

noscript_br_row : (b : Building) → chosen (plain_tag false Name.Br) b (rules InHeadNoscript) ≡ plainly leaves_noscript Next.Again
unfolding rules
noscript_br_row b = refl

noscript_stray_row : (b : Building) (name : Name) → (name ≡ Name.Noscript → ⊥) → (name ≡ Name.Br → ⊥) → chosen (plain_tag false name) b (rules InHeadNoscript) ≡ plainly [] Next.Done
unfolding rules
noscript_stray_row b Name.Noscript i j = absurd (i refl)
noscript_stray_row b Name.Br i j = absurd (j refl)
noscript_stray_row b _ i j = refl

pub html_in_noscript : (tag : Tag) (b : Building) (new : TreeBuilder) (next : Next) → IsCurrentTag Name.Html tag b → is_start_kind tag.kind ≡ true → Outcome InBody b new next →
    Outcome InHeadNoscript b new next
html_in_noscript tag b new next c e o = by_other InHeadNoscript InBody Name.Html tag b new true next c e noscript_known (noscript_html_row b) o

pub element_in_noscript : (name : Name) (tag : Tag) (b : Building) (new : TreeBuilder) (next : Next) → IsCurrentTag name tag b → is_start_kind tag.kind ≡ true → is_noscript_name name ≡ true →
    Outcome InHead b new next → Outcome InHeadNoscript b new next
element_in_noscript name tag b new next c e h o = by_other InHeadNoscript InHead name tag b new true next c e noscript_known (noscript_element_row b name h) o

pub ignored_in_noscript : (name : Name) (tag : Tag) (b : Building) (new : TreeBuilder) → IsCurrentTag name tag b → is_start_kind tag.kind ≡ true →
    (name ≡ Name.Head) ⊎ (name ≡ Name.Noscript) → Constructs new b → Outcome InHeadNoscript b new Next.Done
ignored_in_noscript name tag b new c e h stands = by_row InHeadNoscript name tag b new true [] Next.Done c e noscript_known (noscript_ignores_row b name h) (same_token b) stands

pub noscript_left : (name : Name) (tag : Tag) (b : Building) (new : TreeBuilder) → IsCurrentTag name tag b → is_start_kind tag.kind ≡ true → is_noscript_name name ≡ false →
    (name ≡ Name.Html → ⊥) → (name ≡ Name.Head → ⊥) → (name ≡ Name.Noscript → ⊥) → Constructs new (all_performed leaves_noscript b) → Outcome InHeadNoscript b new Next.Again
noscript_left name tag b new c e h i j k stands =
    by_row InHeadNoscript name tag b new true leaves_noscript Next.Again c e noscript_known (noscript_other_row b name h i j k) (left_noscript_token b) stands

pub noscript_ended : (tag : Tag) (b : Building) (new : TreeBuilder) → IsCurrentTag Name.Noscript tag b → is_start_kind tag.kind ≡ false → Constructs new (all_performed leaves_noscript b) →
    Outcome InHeadNoscript b new Next.Done
noscript_ended tag b new c e stands = by_row InHeadNoscript Name.Noscript tag b new false leaves_noscript Next.Done c e noscript_known (noscript_end_row b) (left_noscript_token b) stands

pub noscript_left_by_br : (tag : Tag) (b : Building) (new : TreeBuilder) → IsCurrentTag Name.Br tag b → is_start_kind tag.kind ≡ false → Constructs new (all_performed leaves_noscript b) →
    Outcome InHeadNoscript b new Next.Again
noscript_left_by_br tag b new c e stands = by_row InHeadNoscript Name.Br tag b new false leaves_noscript Next.Again c e noscript_known (noscript_br_row b) (left_noscript_token b) stands

pub noscript_end_ignored : (name : Name) (tag : Tag) (b : Building) (new : TreeBuilder) → IsCurrentTag name tag b → is_start_kind tag.kind ≡ false → (name ≡ Name.Noscript → ⊥) →
    (name ≡ Name.Br → ⊥) → Constructs new b → Outcome InHeadNoscript b new Next.Done
noscript_end_ignored name tag b new c e i j stands = by_row InHeadNoscript name tag b new false [] Next.Done c e noscript_known (noscript_stray_row b name i j) (same_token b) stands

-- ---- after head

after_head_known : are_of_names (rules AfterHead) ≡ true
unfolding rules html_rows rare_rows
after_head_known = refl

abbrev implies_body : List Action
implies_body = InsertNamed (codes "body") ∷ SwitchTo InBody ∷ []

implied_body_token : (b : Building) → HaveOneToken b (all_performed implies_body b)
unfolding perform
implied_body_token b = record { token = refl; attrs = refl }

after_html_row : (b : Building) → chosen (plain_tag true Name.Html) b (rules AfterHead) ≡ goes (Use InBody) ∷ []
unfolding rules
after_html_row b = refl

body_row : (b : Building) → chosen (plain_tag true Name.Body) b (rules AfterHead) ≡ plainly (InsertElement ∷ FramesetNotOk ∷ SwitchTo InBody ∷ []) Next.Done
unfolding rules
body_row b = refl

frameset_row : (b : Building) → chosen (plain_tag true Name.Frameset) b (rules AfterHead) ≡ plainly (InsertElement ∷ SwitchTo InFrameset ∷ []) Next.Done
unfolding rules
frameset_row b = refl

after_head_row : (b : Building) → chosen (plain_tag true Name.Head) b (rules AfterHead) ≡ plainly [] Next.Done
unfolding rules
after_head_row b = refl

-- the head element pointer is pushed, the rules for "in head" are used, and the head element is removed from the stack
abbrev pub again_acts : List Act
again_acts = does PushHeadPointer [] ∷ goes (Use InHead) ∷ does RemoveHeadFromStack [] ∷ []

again_row : (b : Building) (name : Name) → is_metadata_name name ≡ true → chosen (plain_tag true name) b (rules AfterHead) ≡ again_acts
unfolding rules
again_row b Name.Base h = refl
again_row b Name.Basefont h = refl
again_row b Name.Bgsound h = refl
again_row b Name.Link h = refl
again_row b Name.Meta h = refl
again_row b Name.Noframes h = refl
again_row b Name.Script h = refl
again_row b Name.Style h = refl
again_row b Name.Template h = refl
again_row b Name.Title h = refl
again_row b _ h = absurd (cc)

after_other_row : (b : Building) (name : Name) → is_metadata_name name ≡ false → (name ≡ Name.Html → ⊥) → (name ≡ Name.Body → ⊥) → (name ≡ Name.Frameset → ⊥) → (name ≡ Name.Head → ⊥) →
    chosen (plain_tag true name) b (rules AfterHead) ≡ plainly implies_body Next.Again
unfolding rules
after_other_row b Name.Html h i j k l = absurd (i refl)
after_other_row b Name.Body h i j k l = absurd (j refl)
after_other_row b Name.Frameset h i j k l = absurd (k refl)
after_other_row b Name.Head h i j k l = absurd (l refl)
after_other_row b Name.Base h i j k l = absurd (true≢false h)
after_other_row b Name.Basefont h i j k l = absurd (true≢false h)
after_other_row b Name.Bgsound h i j k l = absurd (true≢false h)
after_other_row b Name.Link h i j k l = absurd (true≢false h)
after_other_row b Name.Meta h i j k l = absurd (true≢false h)
after_other_row b Name.Noframes h i j k l = absurd (true≢false h)
after_other_row b Name.Script h i j k l = absurd (true≢false h)
after_other_row b Name.Style h i j k l = absurd (true≢false h)
after_other_row b Name.Template h i j k l = absurd (true≢false h)
after_other_row b Name.Title h i j k l = absurd (true≢false h)
after_other_row b _ h i j k l = refl

template_end_row : (b : Building) → chosen (plain_tag false Name.Template) b (rules AfterHead) ≡ goes (Use InHead) ∷ []
unfolding rules
template_end_row b = refl

after_outer_row : (b : Building) (name : Name) → is_outer_name name ≡ true → chosen (plain_tag false name) b (rules AfterHead) ≡ plainly implies_body Next.Again
unfolding rules
after_outer_row b Name.Body h = refl
after_outer_row b Name.Html h = refl
after_outer_row b Name.Br h = refl
after_outer_row b _ h = absurd (cc)

after_stray_row : (b : Building) (name : Name) → is_outer_name name ≡ false → (name ≡ Name.Template → ⊥) → chosen (plain_tag false name) b (rules AfterHead) ≡ plainly [] Next.Done
unfolding rules
after_stray_row b Name.Body h i = absurd (true≢false h)
after_stray_row b Name.Html h i = absurd (true≢false h)
after_stray_row b Name.Br h i = absurd (true≢false h)
after_stray_row b Name.Template h i = absurd (i refl)
after_stray_row b _ h i = refl

pub html_after_head : (tag : Tag) (b : Building) (new : TreeBuilder) (next : Next) → IsCurrentTag Name.Html tag b → is_start_kind tag.kind ≡ true → Outcome InBody b new next →
    Outcome AfterHead b new next
html_after_head tag b new next c e o = by_other AfterHead InBody Name.Html tag b new true next c e after_head_known (after_html_row b) o

pub body_opened : (tag : Tag) (b : Building) (new : TreeBuilder) → IsCurrentTag Name.Body tag b → is_start_kind tag.kind ≡ true →
    Constructs new (all_performed (InsertElement ∷ SwitchTo InBody ∷ []) (perform FramesetNotOk b)) → Outcome AfterHead b new Next.Done
unfolding perform
body_opened tag b new c e stands =
    by_row AfterHead Name.Body tag b new true (InsertElement ∷ FramesetNotOk ∷ SwitchTo InBody ∷ []) Next.Done c e after_head_known (body_row b) (record { token = refl; attrs = refl }) stands

pub frameset_opened : (tag : Tag) (b : Building) (new : TreeBuilder) → IsCurrentTag Name.Frameset tag b → is_start_kind tag.kind ≡ true →
    Constructs new (all_performed (InsertElement ∷ SwitchTo InFrameset ∷ []) b) → Outcome AfterHead b new Next.Done
unfolding perform
frameset_opened tag b new c e stands =
    by_row AfterHead Name.Frameset tag b new true (InsertElement ∷ SwitchTo InFrameset ∷ []) Next.Done c e after_head_known (frameset_row b) (record { token = refl; attrs = refl }) stands

pub head_after_head : (tag : Tag) (b : Building) (new : TreeBuilder) → IsCurrentTag Name.Head tag b → is_start_kind tag.kind ≡ true → Constructs new b → Outcome AfterHead b new Next.Done
head_after_head tag b new c e stands = by_row AfterHead Name.Head tag b new true [] Next.Done c e after_head_known (after_head_row b) (same_token b) stands

pub body_implied : (name : Name) (tag : Tag) (b : Building) (new : TreeBuilder) → IsCurrentTag name tag b → is_start_kind tag.kind ≡ true → is_metadata_name name ≡ false →
    (name ≡ Name.Html → ⊥) → (name ≡ Name.Body → ⊥) → (name ≡ Name.Frameset → ⊥) → (name ≡ Name.Head → ⊥) → Constructs new (all_performed implies_body b) →
    Outcome AfterHead b new Next.Again
body_implied name tag b new c e h i j k l stands =
    by_row AfterHead name tag b new true implies_body Next.Again c e after_head_known (after_other_row b name h i j k l) (implied_body_token b) stands

pub body_implied_by_end : (name : Name) (tag : Tag) (b : Building) (new : TreeBuilder) → IsCurrentTag name tag b → is_start_kind tag.kind ≡ false → is_outer_name name ≡ true →
    Constructs new (all_performed implies_body b) → Outcome AfterHead b new Next.Again
body_implied_by_end name tag b new c e h stands =
    by_row AfterHead name tag b new false implies_body Next.Again c e after_head_known (after_outer_row b name h) (implied_body_token b) stands

pub template_end_after_head : (tag : Tag) (b : Building) (new : TreeBuilder) (next : Next) → IsCurrentTag Name.Template tag b → is_start_kind tag.kind ≡ false → Outcome InHead b new next →
    Outcome AfterHead b new next
template_end_after_head tag b new next c e o = by_other AfterHead InHead Name.Template tag b new false next c e after_head_known (template_end_row b) o

pub end_ignored_after_head : (name : Name) (tag : Tag) (b : Building) (new : TreeBuilder) → IsCurrentTag name tag b → is_start_kind tag.kind ≡ false → is_outer_name name ≡ false →
    (name ≡ Name.Template → ⊥) → Constructs new b → Outcome AfterHead b new Next.Done
end_ignored_after_head name tag b new c e h i stands = by_row AfterHead name tag b new false [] Next.Done c e after_head_known (after_stray_row b name h i) (same_token b) stands

pub again_taken : (name : Name) (tag : Tag) (b : Building) → IsCurrentTag name tag b → is_start_kind tag.kind ≡ true → is_metadata_name name ≡ true → taken b (rules AfterHead) ≡ again_acts
again_taken name tag b c e known = taken_tag name tag b c true e (rules AfterHead) after_head_known ∙ again_row b name known

-- ---- in template

in_template_known : are_of_names (rules InTemplate) ≡ true
unfolding rules html_rows rare_rows
in_template_known = refl

-- the actions for content that is processed in another mode
abbrev pub content_actions : Name → List Action
content_actions name = PopTemplateMode ∷ PushTemplateMode (mode_of (content_mode name)) ∷ SwitchTo (mode_of (content_mode name)) ∷ []

template_element_row : (b : Building) (name : Name) → is_metadata_name name ≡ true → chosen (plain_tag true name) b (rules InTemplate) ≡ goes (Use InHead) ∷ []
unfolding rules
template_element_row b Name.Base h = refl
template_element_row b Name.Basefont h = refl
template_element_row b Name.Bgsound h = refl
template_element_row b Name.Link h = refl
template_element_row b Name.Meta h = refl
template_element_row b Name.Noframes h = refl
template_element_row b Name.Script h = refl
template_element_row b Name.Style h = refl
template_element_row b Name.Template h = refl
template_element_row b Name.Title h = refl
template_element_row b _ h = absurd (cc)

content_row : (b : Building) (name : Name) → is_metadata_name name ≡ false → chosen (plain_tag true name) b (rules InTemplate) ≡ plainly (content_actions name) Next.Again
unfolding rules
content_row b Name.Base h = absurd (true≢false h)
content_row b Name.Basefont h = absurd (true≢false h)
content_row b Name.Bgsound h = absurd (true≢false h)
content_row b Name.Link h = absurd (true≢false h)
content_row b Name.Meta h = absurd (true≢false h)
content_row b Name.Noframes h = absurd (true≢false h)
content_row b Name.Script h = absurd (true≢false h)
content_row b Name.Style h = absurd (true≢false h)
content_row b Name.Template h = absurd (true≢false h)
content_row b Name.Title h = absurd (true≢false h)
content_row b Name.Caption h = refl
content_row b Name.Colgroup h = refl
content_row b Name.Tbody h = refl
content_row b Name.Tfoot h = refl
content_row b Name.Thead h = refl
content_row b Name.Col h = refl
content_row b Name.Tr h = refl
content_row b Name.Td h = refl
content_row b Name.Th h = refl
content_row b _ h = refl

content_token : (name : Name) (b : Building) → HaveOneToken b (all_performed (content_actions name) b)
unfolding perform
content_token name b = record { token = refl; attrs = refl }

end_in_template_row : (b : Building) → chosen (plain_tag false Name.Template) b (rules InTemplate) ≡ goes (Use InHead) ∷ []
unfolding rules
end_in_template_row b = refl

stray_in_template_row : (b : Building) (name : Name) → (name ≡ Name.Template → ⊥) → chosen (plain_tag false name) b (rules InTemplate) ≡ plainly [] Next.Done
unfolding rules
stray_in_template_row b Name.Template i = absurd (i refl)
stray_in_template_row b _ i = refl

pub content_plain : (name : Name) → is_entered_plainly (content_mode name) ≡ true
content_plain Name.Caption = refl
content_plain Name.Colgroup = refl
content_plain Name.Tbody = refl
content_plain Name.Tfoot = refl
content_plain Name.Thead = refl
content_plain Name.Col = refl
content_plain Name.Tr = refl
content_plain Name.Td = refl
content_plain Name.Th = refl
content_plain _ = refl

pub element_in_template : (name : Name) (tag : Tag) (b : Building) (new : TreeBuilder) (next : Next) → IsCurrentTag name tag b → is_start_kind tag.kind ≡ true → is_metadata_name name ≡ true →
    Outcome InHead b new next → Outcome InTemplate b new next
element_in_template name tag b new next c e h o = by_other InTemplate InHead name tag b new true next c e in_template_known (template_element_row b name h) o

pub content_in_template : (name : Name) (tag : Tag) (b : Building) (new : TreeBuilder) → IsCurrentTag name tag b → is_start_kind tag.kind ≡ true → is_metadata_name name ≡ false →
    Constructs new (all_performed (content_actions name) b) → Outcome InTemplate b new Next.Again
content_in_template name tag b new c e h stands =
    by_row InTemplate name tag b new true (content_actions name) Next.Again c e in_template_known (content_row b name h) (content_token name b) stands

pub template_ended : (tag : Tag) (b : Building) (new : TreeBuilder) (next : Next) → IsCurrentTag Name.Template tag b → is_start_kind tag.kind ≡ false → Outcome InHead b new next →
    Outcome InTemplate b new next
template_ended tag b new next c e o = by_other InTemplate InHead Name.Template tag b new false next c e in_template_known (end_in_template_row b) o

pub end_ignored_in_template : (name : Name) (tag : Tag) (b : Building) (new : TreeBuilder) → IsCurrentTag name tag b → is_start_kind tag.kind ≡ false → (name ≡ Name.Template → ⊥) →
    Constructs new b → Outcome InTemplate b new Next.Done
end_ignored_in_template name tag b new c e i stands =
    by_row InTemplate name tag b new false [] Next.Done c e in_template_known (stray_in_template_row b name i) (same_token b) stands

-- the mode for the content is pushed, and entered
pub plain_content : (name : Name) (m : Mode) (popped pushed new : TreeBuilder) (b : Building) → m ≡ content_mode name → new ≡ record pushed { mode = m } →
    Constructs popped (perform PopTemplateMode b) →
    (is_entered_plainly m ≡ true → (d : Building) → Constructs popped d → Constructs pushed (perform (PushTemplateMode (mode_of m)) d)) →
    Constructs new (all_performed (content_actions name) b)
unfolding perform
plain_content name m popped pushed new b e f stands push =
    let plain : is_entered_plainly m ≡ true = ap is_entered_plainly e ∙ content_plain name in
    subst (λ (k : Mode). Constructs new (all_performed (PopTemplateMode ∷ PushTemplateMode (mode_of k) ∷ SwitchTo (mode_of k) ∷ []) b)) e
    (entered pushed new m f plain _ (push plain _ stands))

-- the names of "in head noscript" are names of metadata
pub of_metadata : (name : Name) → is_noscript_name name ≡ true → is_metadata_name name ≡ true
of_metadata Name.Basefont h = refl
of_metadata Name.Bgsound h = refl
of_metadata Name.Link h = refl
of_metadata Name.Meta h = refl
of_metadata Name.Noframes h = refl
of_metadata Name.Style h = refl
of_metadata _ h = absurd (cc)

pub spoiled_current : (tag : Tag) (b : Building) → IsCurrentTag Name.Body tag b → IsCurrentTag Name.Body tag (perform FramesetNotOk b)
unfolding perform
spoiled_current tag b c = record { standard = c.standard; is = c.is; written = c.written; plain = c.plain; named = c.named; token = c.token; attrs = c.attrs }
