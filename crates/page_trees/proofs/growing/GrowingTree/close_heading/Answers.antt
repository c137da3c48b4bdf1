use Rattle.standard_trees.specs.GrowingTree.{ends_scope as ends_scope_of}
use Rattle.standard_trees.specs.NameLists.{headings}
use Rattle.standard_trees.specs.RuleWords.{Scope as DefaultScope}
use Rattle.page_trees.specs.Sets.{ends_scope, is_a_heading}
use Rattle.page_trees.proofs.ClosedElements.{closed_at, headings_agree, nothing_closed}
use Rattle.page_trees.proofs.growing.GrowingTree.close_heading.Goals as goal

pub returns-in-Some : goal.returns-in-Some
returns-in-Some c t b =
    closed_at is_a_heading ends_scope (λ t. ends_scope_of DefaultScope t) headings headings_agree _ _ _ t _ c.self.view_is b (c.in-Some.ensures c.self.invariant.1) c.truncate.ensures

pub returns-in_default : goal.returns-in_default
returns-in_default c t b =
    nothing_closed is_a_heading ends_scope (λ t. ends_scope_of DefaultScope t) headings headings_agree _ _ t c.self.view_is b (c.in_default.ensures c.self.invariant.1)
