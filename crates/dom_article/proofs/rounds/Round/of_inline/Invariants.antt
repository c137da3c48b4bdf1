use Rattle.std.proofs.Common.{◌≡◌}
use Rattle.dom_links.specs.Forest.{children_of}
use Rattle.dom_article.specs.Best.{facts_at, is_gone, sums_at}
use Rattle.dom_article.specs.Nodes.{begun_inline, with_inline_children}
use Rattle.dom_article.proofs.rounds.Round.of_inline.Given as goal

-- the children that are left are still to be added
abbrev pub invariant-loop-child : goal.invariant-loop-child
invariant-loop-child l =
    with_inline_children (is_gone l.self) (sums_at l.self.sums.items) l.sums l.child-iterator
    ≡ with_inline_children (is_gone l.self) (sums_at l.self.sums.items)
    (begun_inline (facts_at l.page.facts.items l.fn.id)) (children_of l.page.tree.now l.fn.id)
