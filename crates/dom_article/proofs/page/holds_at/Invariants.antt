use Rattle.std.proofs.Common.{◌≡◌}
use Rattle.std.specs.List.{list_any}
use Rattle.dom_links.specs.Forest.{children_of}
use Rattle.dom_article.specs.Best.{facts_at}
use Rattle.dom_article.proofs.page.holds_at.Given as goal

-- the children that are left decide
abbrev pub invariant-loop-child : goal.invariant-loop-child
invariant-loop-child l = list_any (λ m. (facts_at l.facts m).holds) l.child-iterator ≡ list_any (λ m. (facts_at l.facts m).holds) (children_of l.tree l.fn.id)
