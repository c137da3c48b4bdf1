-- Which rule is taken for a tag, where it is one of the first of a mode.
use Rattle.std.proofs.Common.{◌≡◌, Bool, true, false, List, [], ◌∷◌, ◌++◌, sym, ap, refl, ◌∙◌}
use Rattle.std.specs.List.{list_all, list_any}
use Rattle.standard_tokens.specs.Machine.{token_of}
use Rattle.standard_tokens.specs.Tokens.{Token}
use Rattle.standard_trees.specs.Building.{Building, fits, is_met, taken}
use Rattle.standard_trees.specs.RuleWords.{Act, Rule, rule}
use Rattle.page_tokens.specs.declared.token.Tag.{Tag}
use Rattle.page_trees.specs.Constructs.{IsCurrentTag}
use Rattle.page_trees.specs.Modes.{is_start_kind}
use Rattle.page_trees.specs.Names.{name_of}
use Rattle.page_trees.specs.declared.name.Name.{Name}
use Rattle.page_trees.proofs.NamesAgree.{both}
use Rattle.page_trees.proofs.RulesTaken.{FitAlike, any_alike, are_of_names, kind_fits, knows, plain_tag}

-- what the first of these rules says that is for the token and whose tests are met, and else something other
abbrev pub chosen_or : List Act → Token → Building → List Rule → List Act
chosen_or other t b [] = other
chosen_or other t b (rule patterns tests acts ∷ more) =
    elim (list_any (λ pattern. fits pattern t) patterns) [
      | true ↦ elim (list_all (is_met b) tests) [ true ↦ acts | false ↦ chosen_or other t b more ]
      | false ↦ chosen_or other t b more
    ]

first_is : (t u : Token) → FitAlike t u → (b : Building) → b.token ≡ t → (rs rest : List Rule) → are_of_names rs ≡ true →
    taken b (rs ++ rest) ≡ chosen_or (taken b rest) u b rs
unfolding taken
first_is t u same b e [] rest h = refl
first_is t u same b e (rule patterns tests acts ∷ more) rest h =
    let parts = both (list_all knows patterns) (are_of_names more) h in
    ap (λ v. elim (list_any (λ pattern. fits pattern v) patterns) [
      | true ↦ elim (list_all (is_met b) tests) [ true ↦ acts | false ↦ taken b (more ++ rest) ]
      | false ↦ taken b (more ++ rest)
    ]) e
    ∙ ap (λ x. elim x [
      | true ↦ elim (list_all (is_met b) tests) [ true ↦ acts | false ↦ taken b (more ++ rest) ]
      | false ↦ taken b (more ++ rest)
    ]) (any_alike t u same patterns parts.0)
    ∙ ap (λ others. elim (list_any (λ pattern. fits pattern u) patterns) [
      | true ↦ elim (list_all (is_met b) tests) [ true ↦ acts | false ↦ others ]
      | false ↦ others
    ]) (first_is t u same b e more rest parts.1)

-- the rule for a tag is the one for the plain tag of its name
pub first_for_tag : (name : Name) (tag : Tag) (b : Building) → IsCurrentTag name tag b → (start : Bool) → is_start_kind tag.kind ≡ start → (rs rest : List Rule) →
    are_of_names rs ≡ true → taken b (rs ++ rest) ≡ chosen_or (taken b rest) (plain_tag start name) b rs
first_for_tag name tag b c start e rs rest h =
    first_is (token_of c.standard) (plain_tag start (name_of c.standard.name)) (kind_fits c.standard tag.kind start e c.is.kind c.written) b c.token rs rest h
    ∙ ap (λ n. chosen_or (taken b rest) (plain_tag start n) b rs) (sym c.named)
