use Rattle.std.proofs.Common.{◌≡◌, true, sym, subst, ◌∙◌}
use Rattle.calm_pages.specs.Calm.{has_elements_at_ends}
use Rattle.page_trees.specs.Shape.{IsPage}
use Rattle.calm_pages.proofs.CalmPages.{calm_shape}
use Rattle.calm_pages.proofs.reading.is_calm.Goals as goal

pub returns-then-not-branch-clause-calm : goal.returns-then-not-branch-clause-calm
returns-then-not-branch-clause-calm c = λ trees e calm. sym c.if-not-branch.true ∙ (c.in_ok-is_page.ensures ∙ subst IsPage (sym e) ((calm_shape trees calm).page))

pub returns-then-not-has_elements_at_ends-clause-calm : goal.returns-then-not-has_elements_at_ends-clause-calm
returns-then-not-has_elements_at_ends-clause-calm c = λ trees e calm. sym c.if-not-has_elements_at_ends.true ∙ (c.has_elements_at_ends.ensures ∙ subst (λ f. has_elements_at_ends f ≡ true) (sym e) ((calm_shape trees calm).ends))
