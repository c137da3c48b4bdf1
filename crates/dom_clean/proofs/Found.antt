-- The document of a calm page, which was found.
use Rattle.std.proofs.Common.{◌≡◌, Option, None, Some, sym, ap, ◌∙◌}
use Rattle.std.specs.Prelude.{MatchOption}
use Rattle.std.proofs.lemmas.Option.{none-some, same_Some}
use Rattle.dom_links.specs.Forest.{Forest}
use Rattle.dom_markup.specs.declared.document.Document.{Document}

-- the document that was found
pub found_is : (found : Option Document) (document : Document) (forest : Forest) → found ≡ Some document → MatchOption found ⊥ (λ d. d.tree ≡ forest) → document.tree ≡ forest
found_is None document forest is holds = absurd holds
found_is (Some d) document forest is holds = ap (λ (x : Document). x.tree) (sym (same_Some d document is)) ∙ holds

pub found_none : (found : Option Document) (forest : Forest) → found ≡ None → MatchOption found ⊥ (λ d. d.tree ≡ forest) → ⊥
found_none None forest is holds = holds
found_none (Some d) forest is holds = none-some d (sym is)
