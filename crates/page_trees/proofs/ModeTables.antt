-- The rules for tags, by the name of the tag.
use Rattle.std.proofs.Common.{◌≡◌, Bool, true, false, List, [], ◌∷◌, codes, refl}
use Rattle.standard_trees.specs.Building.{Building}
use Rattle.standard_trees.specs.RuleWords.{Action, BeforeHead, BeforeHtml, InBody, InHead, InsertElement, InsertNamed, InsertRootElement}
use Rattle.standard_trees.specs.RuleWords.{InsertRootNamed, Initial, SetHeadPointer, SetQuirks, SwitchTo, Use, goes}
use Rattle.standard_trees.specs.TreeRules.{rules}
use Rattle.page_trees.specs.Modes.{is_early_end_name}
use Rattle.page_trees.specs.Names.{html_rows, rare_rows}
use Rattle.page_trees.specs.declared.builder.Next.{Next}
use Rattle.page_trees.specs.declared.name.Name.{Name}
use Rattle.page_trees.proofs.RulesRun.{plainly}
use Rattle.page_trees.proofs.RulesTaken.{are_of_names, chosen, plain_tag}

-- ---- initial

pub initial_tag : (b : Building) (start : Bool) (name : Name) → chosen (plain_tag start name) b (rules Initial) ≡ plainly (SetQuirks ∷ SwitchTo BeforeHtml ∷ []) Next.Again
unfolding rules
initial_tag b true name = refl
initial_tag b false name = refl

pub initial_known : are_of_names (rules Initial) ≡ true
unfolding rules html_rows rare_rows
initial_known = refl

-- ---- before html

pub before_html_known : are_of_names (rules BeforeHtml) ≡ true
unfolding rules html_rows rare_rows
before_html_known = refl

abbrev pub implies_html : List Action
implies_html = InsertRootNamed (codes "html") ∷ SwitchTo BeforeHead ∷ []

pub html_tag : (b : Building) → chosen (plain_tag true Name.Html) b (rules BeforeHtml) ≡ plainly (InsertRootElement ∷ SwitchTo BeforeHead ∷ []) Next.Done
unfolding rules
html_tag b = refl

pub no_html_tag : (b : Building) (name : Name) → (name ≡ Name.Html → ⊥) → chosen (plain_tag true name) b (rules BeforeHtml) ≡ plainly implies_html Next.Again
unfolding rules
no_html_tag b Name.Html h = absurd (h refl)
no_html_tag b _ h = refl

pub early_end : (b : Building) (name : Name) → is_early_end_name name ≡ true → chosen (plain_tag false name) b (rules BeforeHtml) ≡ plainly implies_html Next.Again
unfolding rules
early_end b Name.Head h = refl
early_end b Name.Body h = refl
early_end b Name.Html h = refl
early_end b Name.Br h = refl
early_end b _ h = absurd (cc)

pub stray_end : (b : Building) (name : Name) → is_early_end_name name ≡ false → chosen (plain_tag false name) b (rules BeforeHtml) ≡ plainly [] Next.Done
unfolding rules
stray_end b Name.Head h = absurd (cc)
stray_end b Name.Body h = absurd (cc)
stray_end b Name.Html h = absurd (cc)
stray_end b Name.Br h = absurd (cc)
stray_end b _ h = refl

-- ---- before head

pub before_head_known : are_of_names (rules BeforeHead) ≡ true
unfolding rules html_rows rare_rows
before_head_known = refl

abbrev pub implies_head : List Action
implies_head = InsertNamed (codes "head") ∷ SetHeadPointer ∷ SwitchTo InHead ∷ []

pub html_in_before_head : (b : Building) → chosen (plain_tag true Name.Html) b (rules BeforeHead) ≡ goes (Use InBody) ∷ []
unfolding rules
html_in_before_head b = refl

pub head_tag : (b : Building) → chosen (plain_tag true Name.Head) b (rules BeforeHead) ≡ plainly (InsertElement ∷ SetHeadPointer ∷ SwitchTo InHead ∷ []) Next.Done
unfolding rules
head_tag b = refl

pub no_head_tag : (b : Building) (name : Name) → (name ≡ Name.Html → ⊥) → (name ≡ Name.Head → ⊥) → chosen (plain_tag true name) b (rules BeforeHead) ≡ plainly implies_head Next.Again
unfolding rules
no_head_tag b Name.Html h k = absurd (h refl)
no_head_tag b Name.Head h k = absurd (k refl)
no_head_tag b _ h k = refl

pub early_end_in_before_head : (b : Building) (name : Name) → is_early_end_name name ≡ true → chosen (plain_tag false name) b (rules BeforeHead) ≡ plainly implies_head Next.Again
unfolding rules
early_end_in_before_head b Name.Head h = refl
early_end_in_before_head b Name.Body h = refl
early_end_in_before_head b Name.Html h = refl
early_end_in_before_head b Name.Br h = refl
early_end_in_before_head b _ h = absurd (cc)

pub stray_end_in_before_head : (b : Building) (name : Name) → is_early_end_name name ≡ false → chosen (plain_tag false name) b (rules BeforeHead) ≡ plainly [] Next.Done
unfolding rules
stray_end_in_before_head b Name.Head h = absurd (cc)
stray_end_in_before_head b Name.Body h = absurd (cc)
stray_end_in_before_head b Name.Html h = absurd (cc)
stray_end_in_before_head b Name.Br h = absurd (cc)
stray_end_in_before_head b _ h = refl
