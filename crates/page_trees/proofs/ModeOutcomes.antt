-- What the rules for the modes before the body make of a tag.
use Rattle.std.proofs.Common.{◌≡◌, Bool, true, false, [], ◌∷◌, refl, ◌∙◌}
use Rattle.standard_trees.specs.Building.{Building, perform}
use Rattle.standard_trees.specs.RuleWords.{BeforeHead, BeforeHtml, InBody, InHead, Initial, InsertElement, InsertRootElement}
use Rattle.standard_trees.specs.RuleWords.{SetHeadPointer, SetQuirks, SwitchTo}
use Rattle.standard_trees.specs.TreeRules.{rules}
use Rattle.page_tokens.specs.declared.token.Tag.{Tag}
use Rattle.page_trees.specs.Constructs.{Constructs, HaveOneToken, IsCurrentTag, Outcome, all_performed}
use Rattle.page_trees.specs.Modes.{is_early_end_name, is_start_kind}
use Rattle.page_trees.specs.declared.builder.Next.{Next}
use Rattle.page_trees.specs.declared.builder.TreeBuilder.{TreeBuilder}
use Rattle.page_trees.specs.declared.name.Name.{Name}
use Rattle.page_trees.proofs.ModeTables.{before_head_known, before_html_known, early_end, early_end_in_before_head, head_tag, html_in_before_head, html_tag}
use Rattle.page_trees.proofs.ModeTables.{implies_head, implies_html, initial_known, initial_tag, no_head_tag, no_html_tag, stray_end, stray_end_in_before_head}
use Rattle.page_trees.proofs.RulesRun.{outcome, outcome_by}
use Rattle.page_trees.proofs.RulesTaken.{taken_tag}

one_token : (b : Building) → HaveOneToken b b
one_token b = record { token = refl; attrs = refl }

-- ---- initial

pub from_initial : (name : Name) (tag : Tag) (start : Bool) (b : Building) (new : TreeBuilder) → IsCurrentTag name tag b → is_start_kind tag.kind ≡ start →
    Constructs new (all_performed (SetQuirks ∷ SwitchTo BeforeHtml ∷ []) b) → Outcome Initial b new Next.Again
unfolding perform
from_initial name tag start b new c e stands =
    outcome Initial b new (SetQuirks ∷ SwitchTo BeforeHtml ∷ []) Next.Again stands (record { token = refl; attrs = refl })
    (taken_tag name tag b c start e (rules Initial) initial_known ∙ initial_tag b start name)

-- ---- before html

pub root_from_html : (tag : Tag) (b : Building) (new : TreeBuilder) → IsCurrentTag Name.Html tag b → is_start_kind tag.kind ≡ true →
    Constructs new (all_performed (InsertRootElement ∷ SwitchTo BeforeHead ∷ []) b) → Outcome BeforeHtml b new Next.Done
unfolding perform
root_from_html tag b new c e stands =
    outcome BeforeHtml b new (InsertRootElement ∷ SwitchTo BeforeHead ∷ []) Next.Done stands (record { token = refl; attrs = refl })
    (taken_tag Name.Html tag b c true e (rules BeforeHtml) before_html_known ∙ html_tag b)

pub root_implied : (name : Name) (tag : Tag) (b : Building) (new : TreeBuilder) → IsCurrentTag name tag b → is_start_kind tag.kind ≡ true → (name ≡ Name.Html → ⊥) →
    Constructs new (all_performed implies_html b) → Outcome BeforeHtml b new Next.Again
unfolding perform
root_implied name tag b new c e other stands =
    outcome BeforeHtml b new implies_html Next.Again stands (record { token = refl; attrs = refl })
    (taken_tag name tag b c true e (rules BeforeHtml) before_html_known ∙ no_html_tag b name other)

pub root_implied_by_end : (name : Name) (tag : Tag) (b : Building) (new : TreeBuilder) → IsCurrentTag name tag b → is_start_kind tag.kind ≡ false → is_early_end_name name ≡ true →
    Constructs new (all_performed implies_html b) → Outcome BeforeHtml b new Next.Again
unfolding perform
root_implied_by_end name tag b new c e early stands =
    outcome BeforeHtml b new implies_html Next.Again stands (record { token = refl; attrs = refl })
    (taken_tag name tag b c false e (rules BeforeHtml) before_html_known ∙ early_end b name early)

pub end_before_html : (name : Name) (tag : Tag) (b : Building) (new : TreeBuilder) → IsCurrentTag name tag b → is_start_kind tag.kind ≡ false → is_early_end_name name ≡ false →
    Constructs new b → Outcome BeforeHtml b new Next.Done
end_before_html name tag b new c e late stands =
    outcome BeforeHtml b new [] Next.Done stands (one_token b)
    (taken_tag name tag b c false e (rules BeforeHtml) before_html_known ∙ stray_end b name late)

-- ---- before head

pub html_before_head : (tag : Tag) (b : Building) (new : TreeBuilder) (next : Next) → IsCurrentTag Name.Html tag b → is_start_kind tag.kind ≡ true →
    Outcome InBody b new next → Outcome BeforeHead b new next
html_before_head tag b new next c e o =
    outcome_by BeforeHead InBody b new next (taken_tag Name.Html tag b c true e (rules BeforeHead) before_head_known ∙ html_in_before_head b) o

pub head_opened : (tag : Tag) (b : Building) (new : TreeBuilder) → IsCurrentTag Name.Head tag b → is_start_kind tag.kind ≡ true →
    Constructs new (all_performed (InsertElement ∷ SetHeadPointer ∷ SwitchTo InHead ∷ []) b) → Outcome BeforeHead b new Next.Done
unfolding perform
head_opened tag b new c e stands =
    outcome BeforeHead b new (InsertElement ∷ SetHeadPointer ∷ SwitchTo InHead ∷ []) Next.Done stands (record { token = refl; attrs = refl })
    (taken_tag Name.Head tag b c true e (rules BeforeHead) before_head_known ∙ head_tag b)

pub head_implied : (name : Name) (tag : Tag) (b : Building) (new : TreeBuilder) → IsCurrentTag name tag b → is_start_kind tag.kind ≡ true → (name ≡ Name.Html → ⊥) →
    (name ≡ Name.Head → ⊥) → Constructs new (all_performed implies_head b) → Outcome BeforeHead b new Next.Again
unfolding perform
head_implied name tag b new c e one other stands =
    outcome BeforeHead b new implies_head Next.Again stands (record { token = refl; attrs = refl })
    (taken_tag name tag b c true e (rules BeforeHead) before_head_known ∙ no_head_tag b name one other)

pub head_implied_by_end : (name : Name) (tag : Tag) (b : Building) (new : TreeBuilder) → IsCurrentTag name tag b → is_start_kind tag.kind ≡ false → is_early_end_name name ≡ true →
    Constructs new (all_performed implies_head b) → Outcome BeforeHead b new Next.Again
unfolding perform
head_implied_by_end name tag b new c e early stands =
    outcome BeforeHead b new implies_head Next.Again stands (record { token = refl; attrs = refl })
    (taken_tag name tag b c false e (rules BeforeHead) before_head_known ∙ early_end_in_before_head b name early)

pub end_before_head : (name : Name) (tag : Tag) (b : Building) (new : TreeBuilder) → IsCurrentTag name tag b → is_start_kind tag.kind ≡ false → is_early_end_name name ≡ false →
    Constructs new b → Outcome BeforeHead b new Next.Done
end_before_head name tag b new c e late stands =
    outcome BeforeHead b new [] Next.Done stands (one_token b)
    (taken_tag name tag b c false e (rules BeforeHead) before_head_known ∙ stray_end_in_before_head b name late)
