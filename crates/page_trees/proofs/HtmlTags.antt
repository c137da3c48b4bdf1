-- What comes of a start tag `html` once the element is there (13.2.6.4.7).
use Rattle.std.proofs.Common.{◌≡◌, ◌&&◌, Bool, true, false, List, [], ◌∷◌, codes, drop, take, refl, sym, ap, subst, ◌∙◌}
use Rattle.std.proofs.lemmas.List.{take-append-drop}
use Rattle.standard_trees.specs.Building.{Building, perform, taken, with_tree}
use Rattle.standard_trees.specs.GrowingTree.{merged_into, topmost}
use Rattle.standard_trees.specs.RuleWords.{Act, InBody, MergeAttributesIntoHtml, does}
use Rattle.standard_trees.specs.TreeRules.{rules}
use Rattle.std.specs.Prelude.{Some}
use Rattle.page_tokens.specs.declared.token.Tag.{Tag}
use Rattle.page_trees.specs.Constructs.{Constructs, IsCurrentTag, Outcome, WithinLimits}
use Rattle.page_trees.specs.LateMerges.{HasHtml, MergesTagInto, id_at, is_open}
use Rattle.page_trees.specs.Modes.{is_start_kind}
use Rattle.page_trees.specs.Names.{html_rows, rare_rows}
use Rattle.page_trees.specs.declared.builder.Next.{Next}
use Rattle.page_trees.specs.declared.builder.TreeBuilder.{TreeBuilder}
use Rattle.page_trees.specs.declared.name.Name.{Name}
use Rattle.page_trees.proofs.ElementSteps.{current_element}
use Rattle.page_trees.proofs.FirstRules.{chosen_or, first_for_tag}
use Rattle.page_trees.proofs.OpenNames.{first_is_html, html_may_merge}
use Rattle.page_trees.proofs.RulesRun.{outcome, plainly}
use Rattle.page_trees.proofs.RulesTaken.{are_of_names, plain_tag}

first_known : are_of_names (take 7 (rules InBody)) ≡ true
unfolding rules html_rows rare_rows
first_known = refl

where_met : {A : Type 0} → (x : Bool) (acts other : A) → x ≡ true → elim (x && true) [ true ↦ acts | false ↦ other ] ≡ acts
where_met true acts other e = refl
where_met false acts other e = absurd (cc)

where_unmet : {A : Type 0} → (x : Bool) (acts other : A) → x ≡ false → elim (x && true) [ true ↦ acts | false ↦ other ] ≡ other
where_unmet true acts other e = absurd (cc)
where_unmet false acts other e = refl

in_template : (b : Building) (other : List Act) → is_open (codes "template") b.tree ≡ true → chosen_or other (plain_tag true Name.Html) b (take 7 (rules InBody)) ≡ plainly [] Next.Done
unfolding rules
in_template b other open_here = where_met (is_open (codes "template") b.tree) [] (does MergeAttributesIntoHtml [] ∷ []) open_here

in_no_template : (b : Building) (other : List Act) → is_open (codes "template") b.tree ≡ false →
    chosen_or other (plain_tag true Name.Html) b (take 7 (rules InBody)) ≡ plainly (MergeAttributesIntoHtml ∷ []) Next.Done
unfolding rules
in_no_template b other none = where_unmet (is_open (codes "template") b.tree) [] (does MergeAttributesIntoHtml [] ∷ []) none

-- the rule for the tag is one of the first
first_rules : (tag : Tag) (b : Building) → IsCurrentTag Name.Html tag b → is_start_kind tag.kind ≡ true →
    taken b (rules InBody) ≡ chosen_or (taken b (drop 7 (rules InBody))) (plain_tag true Name.Html) b (take 7 (rules InBody))
first_rules tag b c e =
    ap (taken b) (sym (take-append-drop 7 (rules InBody)))
    ∙ first_for_tag Name.Html tag b c true e (take 7 (rules InBody)) (drop 7 (rules InBody)) first_known

-- in a template the tag is ignored
pub html_ignored : (tag : Tag) (b : Building) (new : TreeBuilder) → IsCurrentTag Name.Html tag b → is_start_kind tag.kind ≡ true → is_open (codes "template") b.tree ≡ true →
    Constructs new b → Outcome InBody b new Next.Done
html_ignored tag b new c e open_here stands =
    outcome InBody b new [] Next.Done stands (record { token = refl; attrs = refl })
    (first_rules tag b c e ∙ in_template b (taken b (drop 7 (rules InBody))) open_here)

html_merged : (tag : Tag) (b : Building) (new : TreeBuilder) → IsCurrentTag Name.Html tag b → is_start_kind tag.kind ≡ true → is_open (codes "template") b.tree ≡ false →
    Constructs new (with_tree b (merged_into (Some (topmost b.tree.stack)) b.attrs b.tree)) → Outcome InBody b new Next.Done
unfolding perform
html_merged tag b new c e none stands =
    outcome InBody b new (MergeAttributesIntoHtml ∷ []) Next.Done stands (record { token = refl; attrs = refl })
    (first_rules tag b c e ∙ in_no_template b (taken b (drop 7 (rules InBody))) none)

-- elsewhere its attributes are merged into the outermost element
pub html_added : (tag : Tag) (b : Building) (old new : TreeBuilder) → IsCurrentTag Name.Html tag b → is_start_kind tag.kind ≡ true → HasHtml b → is_open (codes "template") b.tree ≡ false →
    MergesTagInto (id_at old.tree.stack 0) tag old new → WithinLimits new → Constructs old b → Outcome InBody b new Next.Done
html_added tag b old new c e html none merges within stands =
    html_merged tag b new c e none
    (subst (λ n. Constructs new (with_tree b (merged_into n b.attrs b.tree))) (first_is_html old.tree b.tree stands.tree html)
    (merges b.attrs (current_element Name.Html tag b e c).same_attrs within b (html_may_merge old.tree b.tree stands.tree html) stands))
