use Rattle.std.proofs.Common.{◌≡◌}
use Rattle.std.specs.List.{list_any}
use Rattle.dom_links.specs.Forest.{children_of}
use Rattle.dom_article.specs.Best.{is_gone, sums_at}
use Rattle.dom_article.specs.Nodes.{is_block}
use Rattle.dom_article.proofs.rounds.Round.has_block.Given as goal

-- the children that are left decide
abbrev pub invariant-loop-child : goal.invariant-loop-child
invariant-loop-child l =
    list_any (is_block (is_gone l.self) (sums_at l.self.sums.items)) l.child-iterator
    ≡ list_any (is_block (is_gone l.self) (sums_at l.self.sums.items)) (children_of l.page.tree.now l.fn.id)
