use Rattle.std.proofs.Common.{◌≡◌}
use Rattle.std.specs.List.{list_any}
use Rattle.dom_links.specs.Trees.{descendants_in_order}
use Rattle.dom_article.specs.Texts.{is_kept_text_at}
use Rattle.dom_article.proofs.marking.keeps_text.Given as goal

-- the nodes that are left decide
abbrev pub invariant-loop-id : goal.invariant-loop-id
invariant-loop-id l = list_any (is_kept_text_at l.tree l.marks) l.id-iterator.left ≡ list_any (is_kept_text_at l.tree l.marks) (descendants_in_order l.tree 0)
