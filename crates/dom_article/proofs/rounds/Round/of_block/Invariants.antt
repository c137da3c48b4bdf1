use Rattle.std.proofs.Common.{◌≡◌, not}
use Rattle.dom_links.specs.Forest.{children_of}
use Rattle.dom_article.specs.Best.{facts_at, is_gone, sums_at}
use Rattle.dom_article.specs.Blocks.{begun}
use Rattle.dom_article.specs.Nodes.{with_children}
use Rattle.dom_article.proofs.rounds.Round.of_block.Given as goal

-- the children that are left are still to be added
abbrev pub invariant-loop-child : goal.invariant-loop-child
invariant-loop-child l =
    with_children l.page.facts.items (is_gone l.self) (sums_at l.self.sums.items) l.block l.child-iterator
    ≡ with_children l.page.facts.items (is_gone l.self) (sums_at l.self.sums.items)
    (begun (not (facts_at l.page.facts.items l.fn.id).kind.is_heading) l.self.rules.cleans)
    (children_of l.page.tree.now l.fn.id)
