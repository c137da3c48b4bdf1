-- What the rules for "in body" make of the start tags of elements of the head, of elements whose content is text, and of tables.
use Rattle.std.proofs.Common.{◌≡◌, ◌⊎◌, inl, inr, Bool, true, false, ◌&&◌, not, List, [], ◌∷◌, refl, sym, ap, subst, ◌∙◌}
use Rattle.standard_trees.specs.Building.{Building, FullQuirks, LimitedQuirks, NoQuirks, QuirksMode as StandardQuirks, is_quirks, perform}
use Rattle.standard_trees.specs.RuleWords.{Act, CloseP, FramesetNotOk, InBody, InHead, InTable, InsertElement, KeepMode, Quirks, RawText, RcdataText, ReconstructFormatting}
use Rattle.standard_trees.specs.RuleWords.{SkipNextLineFeed, SwitchTo, Text, TokenizerTo, Use, does, goes, isnt}
use Rattle.standard_trees.specs.TreeRules.{rules}
use Rattle.dom_trees.specs.declared.quirks.QuirksMode.{QuirksMode}
use Rattle.page_tokens.specs.declared.token.Tag.{Tag}
use Rattle.page_trees.specs.BodyTags.{Acts, ActsFor, Continues, IsContinued, begun}
use Rattle.page_trees.specs.Constructs.{Constructs, IsCurrentTag, Outcome, Performs, PerformsFor, ProcessesTag, RemembersLimits}
use Rattle.page_trees.specs.Groups.{body_rules_for, example_of, group_named, is_metadata_name}
use Rattle.page_trees.specs.HeadSteps.{reading_text}
use Rattle.page_trees.specs.LateMerges.{ProcessesHtmlTag}
use Rattle.page_trees.specs.Modes.{is_start_kind}
use Rattle.page_trees.specs.Quirks.{mode_of as mode_for}
use Rattle.page_trees.specs.declared.builder.Next.{Next}
use Rattle.page_trees.specs.declared.builder.TreeBuilder.{TreeBuilder}
use Rattle.page_trees.specs.declared.modes.groups.Group.{Group}
use Rattle.page_trees.specs.declared.name.Name.{Name}
use Rattle.page_trees.proofs.BodyRules.{choice, group_rows, started_by}
use Rattle.page_trees.proofs.BodyStarts.{continues, skips, still}
use Rattle.page_trees.proofs.RulesRun.{outcome_by}

-- ---- elements of the head

metadata_row : (b : Building) → choice b (body_rules_for (example_of Group.Metadata)) ≡ goes (Use InHead) ∷ []
unfolding rules
metadata_row b = refl

template_row : (b : Building) → choice b (body_rules_for (example_of Group.Template)) ≡ goes (Use InHead) ∷ []
unfolding rules
template_row b = refl

metadata_known : (name : Name) → group_named name ≡ Group.Metadata → is_metadata_name name ≡ true
metadata_known Name.Base e = refl
metadata_known Name.Basefont e = refl
metadata_known Name.Bgsound e = refl
metadata_known Name.Link e = refl
metadata_known Name.Meta e = refl
metadata_known Name.Noframes e = refl
metadata_known Name.Script e = refl
metadata_known Name.Style e = refl
metadata_known Name.Title e = refl
metadata_known _ e = absurd (cc)

template_known : (name : Name) → group_named name ≡ Group.Template → is_metadata_name name ≡ true
template_known Name.Template e = refl
template_known _ e = absurd (cc)

metadata_continued : (name : Name) (tag : Tag) (old new : TreeBuilder) (next : Next) → group_named name ≡ Group.Metadata → RemembersLimits old new →
    (is_metadata_name name ≡ true → is_start_kind tag.kind ≡ true → ProcessesTag InHead name tag old new next) → IsContinued Group.Metadata name tag old new next
metadata_continued name tag old new next e remembers rule = record {
  limits = remembers;
  rule = λ starts within b current html stands test. outcome_by InBody InHead b new next (group_rows Group.Metadata name tag b e current starts ∙ metadata_row b)
      (rule (metadata_known name e) starts within b current stands);
}

template_continued : (name : Name) (tag : Tag) (old new : TreeBuilder) (next : Next) → group_named name ≡ Group.Template → RemembersLimits old new →
    (is_metadata_name name ≡ true → is_start_kind tag.kind ≡ true → ProcessesTag InHead name tag old new next) → IsContinued Group.Template name tag old new next
template_continued name tag old new next e remembers rule = record {
  limits = remembers;
  rule = λ starts within b current html stands test. outcome_by InBody InHead b new next (group_rows Group.Template name tag b e current starts ∙ template_row b)
      (rule (template_known name e) starts within b current stands);
}

pub head_started : (group : Group) (name : Name) (tag : Tag) (old new : TreeBuilder) (next : Next) → (group ≡ Group.Metadata) ⊎ (group ≡ Group.Template) → RemembersLimits old new →
    (is_metadata_name name ≡ true → is_start_kind tag.kind ≡ true → ProcessesTag InHead name tag old new next) → Continues group name tag old new next
head_started group name tag old new next (inl e) remembers rule covers named =
    subst (λ g. IsContinued g name tag old new next) (sym e) (metadata_continued name tag old new next (named ∙ e) remembers rule)
head_started group name tag old new next (inr e) remembers rule covers named =
    subst (λ g. IsContinued g name tag old new next) (sym e) (template_continued name tag old new next (named ∙ e) remembers rule)

-- ---- `html`

pub html_named : (name : Name) → group_named name ≡ Group.Html → name ≡ Name.Html
html_named Name.Html e = refl
html_named _ e = absurd (cc)

pub html_started : (tag : Tag) (old new : TreeBuilder) (next : Next) → RemembersLimits old new → ProcessesHtmlTag tag old new next → Continues Group.Html Name.Html tag old new next
html_started tag old new next remembers rule covers named = record {
  limits = remembers;
  rule = λ starts within b current html stands test. rule starts within b current html stands;
}

-- ---- elements whose content is text

abbrev text_acts : List Act
text_acts = does InsertElement [] ∷ does (TokenizerTo RawText) [] ∷ does KeepMode [] ∷ does (SwitchTo Text) [] ∷ []

xmp_row : (b : Building) → choice b (body_rules_for (example_of Group.Xmp)) ≡ does CloseP [] ∷ does ReconstructFormatting [] ∷ does FramesetNotOk [] ∷ text_acts
unfolding rules
xmp_row b = refl

iframe_row : (b : Building) → choice b (body_rules_for (example_of Group.Iframe)) ≡ does FramesetNotOk [] ∷ text_acts
unfolding rules
iframe_row b = refl

noembed_row : (b : Building) → choice b (body_rules_for (example_of Group.Noembed)) ≡ text_acts
unfolding rules
noembed_row b = refl

pub raw_started : (group : Group) (name : Name) (tag : Tag) (old new : TreeBuilder) (next : Next) → (group ≡ Group.Xmp) ⊎ ((group ≡ Group.Iframe) ⊎ (group ≡ Group.Noembed)) →
    next ≡ Next.Done → RemembersLimits old new → PerformsFor name tag (InsertElement ∷ reading_text RawText) old new → Continues group name tag old new next
unfolding perform
raw_started group name tag old new next (inl e) done remembers inserts =
    subst (λ g. Continues g name tag old new next) (sym e)
    (continues Group.Xmp (does CloseP [] ∷ does ReconstructFormatting [] ∷ does FramesetNotOk [] ∷ text_acts) name tag old new next xmp_row refl done remembers
    (λ b starts within current stands. inserts starts within (begun Group.Xmp b) (still name tag b (begun Group.Xmp b) refl refl current) stands))
raw_started group name tag old new next (inr (inl e)) done remembers inserts =
    subst (λ g. Continues g name tag old new next) (sym e)
    (continues Group.Iframe (does FramesetNotOk [] ∷ text_acts) name tag old new next iframe_row refl done remembers
    (λ b starts within current stands. inserts starts within (begun Group.Iframe b) (still name tag b (begun Group.Iframe b) refl refl current) stands))
raw_started group name tag old new next (inr (inr e)) done remembers inserts =
    subst (λ g. Continues g name tag old new next) (sym e)
    (continues Group.Noembed text_acts name tag old new next noembed_row refl done remembers
    (λ b starts within current stands. inserts starts within b current stands))

pub textarea_acts : (name : Name) (tag : Tag) (old new : TreeBuilder) → PerformsFor name tag (InsertElement ∷ reading_text RcdataText) (record old { skip_line_feed = true }) new →
    PerformsFor name tag (SkipNextLineFeed ∷ InsertElement ∷ reading_text RcdataText) old new
unfolding perform
textarea_acts name tag old new inserts starts within b current stands =
    inserts starts within (perform SkipNextLineFeed b) (still name tag b (perform SkipNextLineFeed b) refl refl current) (skips old b stands)

textarea_row : (b : Building) → choice b (body_rules_for (example_of Group.Textarea)) ≡
    does InsertElement [] ∷ does SkipNextLineFeed [] ∷ does (TokenizerTo RcdataText) [] ∷ does KeepMode [] ∷ does FramesetNotOk [] ∷ does (SwitchTo Text) [] ∷ []
unfolding rules
textarea_row b = refl

pub textarea_started : (group : Group) (name : Name) (tag : Tag) (old new : TreeBuilder) (next : Next) → group ≡ Group.Textarea → next ≡ Next.Done → RemembersLimits old new →
    PerformsFor name tag (SkipNextLineFeed ∷ InsertElement ∷ reading_text RcdataText) old new → Continues group name tag old new next
unfolding perform
textarea_started group name tag old new next e done remembers inserts =
    subst (λ g. Continues g name tag old new next) (sym e)
    (continues Group.Textarea
    (does InsertElement [] ∷ does SkipNextLineFeed [] ∷ does (TokenizerTo RcdataText) [] ∷ does KeepMode [] ∷ does FramesetNotOk [] ∷ does (SwitchTo Text) [] ∷ [])
    name tag old new next textarea_row refl done remembers
    (λ b starts within current stands. inserts starts within (begun Group.Textarea b) (still name tag b (begun Group.Textarea b) refl refl current) stands))

-- ---- `noscript`

abbrev noscript_acts : Bool → List Act
noscript_acts x = elim (x && true) [ true ↦ text_acts | false ↦ does ReconstructFormatting [] ∷ does InsertElement [] ∷ [] ]

noscript_row : (b : Building) → choice b (body_rules_for (example_of Group.Noscript)) ≡ noscript_acts b.scripting
unfolding rules
noscript_row b = refl

pub noscript_read : (name : Name) (tag : Tag) (old new : TreeBuilder) (next : Next) → old.scripting ≡ true → next ≡ Next.Done → RemembersLimits old new →
    PerformsFor name tag (InsertElement ∷ reading_text RawText) old new → Continues Group.Noscript name tag old new next
unfolding perform
noscript_read name tag old new next e done remembers inserts covers named = record {
  limits = remembers;
  rule = λ starts within b current html stands test. subst (λ (n : Next). Outcome InBody b new n) (sym done)
      (started_by Group.Noscript name tag b new text_acts named current starts (noscript_row b ∙ ap noscript_acts (stands.scripting ∙ e)) refl
      (inserts starts within b current stands));
}

pub noscript_kept : (name : Name) (tag : Tag) (old new : TreeBuilder) (next : Next) → old.scripting ≡ false → next ≡ Next.Done → RemembersLimits old new →
    PerformsFor name tag (ReconstructFormatting ∷ InsertElement ∷ []) old new → Continues Group.Noscript name tag old new next
unfolding perform
noscript_kept name tag old new next e done remembers inserts covers named = record {
  limits = remembers;
  rule = λ starts within b current html stands test. subst (λ (n : Next). Outcome InBody b new n) (sym done)
      (started_by Group.Noscript name tag b new (does ReconstructFormatting [] ∷ does InsertElement [] ∷ []) named current starts
      (noscript_row b ∙ ap noscript_acts (stands.scripting ∙ e)) refl (inserts starts within b current stands));
}

pub noscript_started : (group : Group) (name : Name) (tag : Tag) (old new : TreeBuilder) (next : Next) → group ≡ Group.Noscript → Continues Group.Noscript name tag old new next →
    Continues group name tag old new next
noscript_started group name tag old new next e rule = subst (λ g. Continues g name tag old new next) (sym e) rule

-- ---- `table`

abbrev closed_unless : Bool → Building → Building
closed_unless x b = elim (not x && true) [ true ↦ perform CloseP b | false ↦ b ]

quirks_told : (q : StandardQuirks) → mode_for q ≡ QuirksMode.Quirks → is_quirks q ≡ true
quirks_told FullQuirks e = refl
quirks_told LimitedQuirks e = absurd (cc)
quirks_told NoQuirks e = absurd (cc)

no_quirks_told : (q : StandardQuirks) → (mode_for q ≡ QuirksMode.Quirks → ⊥) → is_quirks q ≡ false
no_quirks_told FullQuirks h = absurd (h refl)
no_quirks_told LimitedQuirks h = refl
no_quirks_told NoQuirks h = refl

pub quirks_kept : (s : TreeBuilder) → s.quirks ≡ QuirksMode.Quirks → Acts (does CloseP (isnt Quirks ∷ []) ∷ []) s s
quirks_kept s e within b stands = subst (λ x. Constructs s (closed_unless x b)) (sym (quirks_told b.quirks (stands.quirks ∙ e))) stands

pub quirks_closed : (old new : TreeBuilder) → (old.quirks ≡ QuirksMode.Quirks → ⊥) → Performs (CloseP ∷ []) old new → Acts (does CloseP (isnt Quirks ∷ []) ∷ []) old new
quirks_closed old new h closes within b stands =
    subst (λ x. Constructs new (closed_unless x b)) (sym (no_quirks_told b.quirks (λ e. h (sym stands.quirks ∙ e)))) (closes within b stands)

still_closed : (name : Name) (tag : Tag) (b : Building) (x : Bool) → IsCurrentTag name tag b → IsCurrentTag name tag (closed_unless x b)
unfolding perform
still_closed name tag b true c = c
still_closed name tag b false c = still name tag b (perform CloseP b) refl refl c

pub table_acts : (name : Name) (tag : Tag) (old mid new : TreeBuilder) → Acts (does CloseP (isnt Quirks ∷ []) ∷ []) old mid → RemembersLimits mid new →
    PerformsFor name tag (InsertElement ∷ SwitchTo InTable ∷ []) mid new →
    ActsFor name tag (does CloseP (isnt Quirks ∷ []) ∷ does InsertElement [] ∷ does (SwitchTo InTable) [] ∷ []) old new
table_acts name tag old mid new closes before inserts starts within b current stands =
    inserts starts within (closed_unless (is_quirks b.quirks) b) (still_closed name tag b (is_quirks b.quirks) current) (closes (before within) b stands)

table_row : (b : Building) → choice b (body_rules_for (example_of Group.Table)) ≡
    does CloseP (isnt Quirks ∷ []) ∷ does InsertElement [] ∷ does FramesetNotOk [] ∷ does (SwitchTo InTable) [] ∷ []
unfolding rules
table_row b = refl

-- the frameset-ok flag may be set before
flag_first : (b : Building) (new : TreeBuilder) (x : Bool) → Constructs new (perform (SwitchTo InTable) (perform InsertElement (closed_unless x (perform FramesetNotOk b)))) →
    Constructs new (perform (SwitchTo InTable) (perform FramesetNotOk (perform InsertElement (closed_unless x b))))
unfolding perform
flag_first b new true c = c
flag_first b new false c = c

table_continues : (name : Name) (tag : Tag) (old new : TreeBuilder) (next : Next) → next ≡ Next.Done → RemembersLimits old new →
    ActsFor name tag (does CloseP (isnt Quirks ∷ []) ∷ does InsertElement [] ∷ does (SwitchTo InTable) [] ∷ []) old new → Continues Group.Table name tag old new next
unfolding perform
table_continues name tag old new next done remembers inserts =
    continues Group.Table (does CloseP (isnt Quirks ∷ []) ∷ does InsertElement [] ∷ does FramesetNotOk [] ∷ does (SwitchTo InTable) [] ∷ []) name tag old new next table_row refl done
    remembers
    (λ b starts within current stands. flag_first b new (is_quirks b.quirks)
    (inserts starts within (perform FramesetNotOk b) (still name tag b (perform FramesetNotOk b) refl refl current) stands))

pub table_named : (name : Name) → group_named name ≡ Group.Table → name ≡ Name.Table
table_named Name.Table e = refl
table_named _ e = absurd (cc)

pub table_started : (tag : Tag) (old new : TreeBuilder) (next : Next) → next ≡ Next.Done → RemembersLimits old new →
    ActsFor Name.Table tag (does CloseP (isnt Quirks ∷ []) ∷ does InsertElement [] ∷ does (SwitchTo InTable) [] ∷ []) old new → Continues Group.Table Name.Table tag old new next
table_started tag old new next done remembers inserts = table_continues Name.Table tag old new next done remembers inserts
