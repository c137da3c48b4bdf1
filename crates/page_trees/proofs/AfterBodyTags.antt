-- What the rules for the modes after the body make of a tag.
use Rattle.std.proofs.Common.{◌≡◌, Bool, true, false, ◌&&◌, List, [], ◌∷◌, refl, ap, ◌∙◌}
use Rattle.standard_trees.specs.Building.{Building, perform}
use Rattle.standard_trees.specs.RuleWords.{Act, AfterAfterBody, AfterBody, InBody, SwitchTo, Use, does, goes}
use Rattle.standard_trees.specs.TreeRules.{rules}
use Rattle.page_tokens.specs.declared.token.Tag.{Tag}
use Rattle.page_trees.specs.Constructs.{Constructs, IsCurrentTag, Outcome, all_performed}
use Rattle.page_trees.specs.Modes.{is_start_kind}
use Rattle.page_trees.specs.Names.{html_rows, rare_rows}
use Rattle.page_trees.specs.Stands.{is_fragment}
use Rattle.page_trees.specs.declared.builder.Next.{Next}
use Rattle.page_trees.specs.declared.builder.TreeBuilder.{TreeBuilder}
use Rattle.page_trees.specs.declared.name.Name.{Name}
use Rattle.page_trees.proofs.RulesRun.{outcome, outcome_by, plainly}
use Rattle.page_trees.proofs.RulesTaken.{are_of_names, chosen, plain_tag, taken_tag}

-- ---- the tables

after_body_known : are_of_names (rules AfterBody) ≡ true
unfolding rules html_rows rare_rows
after_body_known = refl

after_after_body_known : are_of_names (rules AfterAfterBody) ≡ true
unfolding rules html_rows rare_rows
after_after_body_known = refl

html_row : (b : Building) → chosen (plain_tag true Name.Html) b (rules AfterBody) ≡ goes (Use InBody) ∷ []
unfolding rules
html_row b = refl

abbrev end_acts : Bool → List Act
end_acts fragment = elim (fragment && true) [ true ↦ [] | false ↦ does (SwitchTo AfterAfterBody) [] ∷ [] ]

html_end_row : (b : Building) (x : Bool) → is_fragment b.tree ≡ x → chosen (plain_tag false Name.Html) b (rules AfterBody) ≡ end_acts x
unfolding rules
html_end_row b x e = ap end_acts e

other_row : (b : Building) (start : Bool) (name : Name) → (name ≡ Name.Html → ⊥) → chosen (plain_tag start name) b (rules AfterBody) ≡ plainly (SwitchTo InBody ∷ []) Next.Again
unfolding rules
other_row b true Name.Html h = absurd (h refl)
other_row b true _ h = refl
other_row b false Name.Html h = absurd (h refl)
other_row b false _ h = refl

html_after_row : (b : Building) → chosen (plain_tag true Name.Html) b (rules AfterAfterBody) ≡ goes (Use InBody) ∷ []
unfolding rules
html_after_row b = refl

start_after_row : (b : Building) (name : Name) → (name ≡ Name.Html → ⊥) → chosen (plain_tag true name) b (rules AfterAfterBody) ≡ plainly (SwitchTo InBody ∷ []) Next.Again
unfolding rules
start_after_row b Name.Html h = absurd (h refl)
start_after_row b _ h = refl

end_after_row : (b : Building) (name : Name) → chosen (plain_tag false name) b (rules AfterAfterBody) ≡ plainly (SwitchTo InBody ∷ []) Next.Again
unfolding rules
end_after_row b name = refl

-- ---- after body

pub html_starts : (tag : Tag) (b : Building) (new : TreeBuilder) (next : Next) → IsCurrentTag Name.Html tag b → is_start_kind tag.kind ≡ true → Outcome InBody b new next →
    Outcome AfterBody b new next
html_starts tag b new next c e o = outcome_by AfterBody InBody b new next (taken_tag Name.Html tag b c true e (rules AfterBody) after_body_known ∙ html_row b) o

pub html_stays : (tag : Tag) (b : Building) (new : TreeBuilder) → IsCurrentTag Name.Html tag b → is_start_kind tag.kind ≡ false → is_fragment b.tree ≡ true → Constructs new b →
    Outcome AfterBody b new Next.Done
html_stays tag b new c e fragment stands =
    outcome AfterBody b new [] Next.Done stands (record { token = refl; attrs = refl })
    (taken_tag Name.Html tag b c false e (rules AfterBody) after_body_known ∙ html_end_row b true fragment)

pub html_ends : (tag : Tag) (b : Building) (new : TreeBuilder) → IsCurrentTag Name.Html tag b → is_start_kind tag.kind ≡ false → is_fragment b.tree ≡ false →
    Constructs new (all_performed (SwitchTo AfterAfterBody ∷ []) b) → Outcome AfterBody b new Next.Done
unfolding perform
html_ends tag b new c e page stands =
    outcome AfterBody b new (SwitchTo AfterAfterBody ∷ []) Next.Done stands (record { token = refl; attrs = refl })
    (taken_tag Name.Html tag b c false e (rules AfterBody) after_body_known ∙ html_end_row b false page)

pub back_in_body_by : (name : Name) (tag : Tag) (b : Building) (new : TreeBuilder) → IsCurrentTag name tag b → (name ≡ Name.Html → ⊥) →
    Constructs new (all_performed (SwitchTo InBody ∷ []) b) → Outcome AfterBody b new Next.Again
unfolding perform
back_in_body_by name tag b new c other stands =
    outcome AfterBody b new (SwitchTo InBody ∷ []) Next.Again stands (record { token = refl; attrs = refl })
    (taken_tag name tag b c (is_start_kind tag.kind) refl (rules AfterBody) after_body_known ∙ other_row b (is_start_kind tag.kind) name other)

-- ---- after after body

pub html_starts_again : (tag : Tag) (b : Building) (new : TreeBuilder) (next : Next) → IsCurrentTag Name.Html tag b → is_start_kind tag.kind ≡ true → Outcome InBody b new next →
    Outcome AfterAfterBody b new next
html_starts_again tag b new next c e o =
    outcome_by AfterAfterBody InBody b new next (taken_tag Name.Html tag b c true e (rules AfterAfterBody) after_after_body_known ∙ html_after_row b) o

pub start_goes_back : (name : Name) (tag : Tag) (b : Building) (new : TreeBuilder) → IsCurrentTag name tag b → is_start_kind tag.kind ≡ true → (name ≡ Name.Html → ⊥) →
    Constructs new (all_performed (SwitchTo InBody ∷ []) b) → Outcome AfterAfterBody b new Next.Again
unfolding perform
start_goes_back name tag b new c e other stands =
    outcome AfterAfterBody b new (SwitchTo InBody ∷ []) Next.Again stands (record { token = refl; attrs = refl })
    (taken_tag name tag b c true e (rules AfterAfterBody) after_after_body_known ∙ start_after_row b name other)

pub end_goes_back : (name : Name) (tag : Tag) (b : Building) (new : TreeBuilder) → IsCurrentTag name tag b → is_start_kind tag.kind ≡ false →
    Constructs new (all_performed (SwitchTo InBody ∷ []) b) → Outcome AfterAfterBody b new Next.Again
unfolding perform
end_goes_back name tag b new c e stands =
    outcome AfterAfterBody b new (SwitchTo InBody ∷ []) Next.Again stands (record { token = refl; attrs = refl })
    (taken_tag name tag b c false e (rules AfterAfterBody) after_after_body_known ∙ end_after_row b name)
