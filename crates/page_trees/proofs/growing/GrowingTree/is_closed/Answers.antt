use Rattle.std.proofs.Common.{ap, subst, sym, ◌∙◌, ◌≡◌}
use Rattle.page_trees.specs.Reopening.{is_closed, is_this}
use Rattle.page_trees.specs.TreeState.{TreeState}
use Rattle.page_trees.specs.declared.formatting.Entry.{Entry}
use Rattle.page_trees.proofs.ThisElement.{none_there}
use Rattle.page_trees.proofs.growing.GrowingTree.is_closed.Goals as goal

pub returns-in-Element : goal.returns-in-Element
returns-in-Element c =
    subst (λ (s : TreeState). c.is_none.result ≡ is_closed s.stack (Entry.Element c.in-Element.open)) c.self.view_is
    (none_there (is_this c.in-Element.open.name c.in-Element.open.id) _ c.place_among.result c.is_none.result (c.place_among.ensures c.self.invariant.1) c.is_none.ensures)
    ∙ ap (is_closed c.args.self.now.stack) (sym c.in-Element.is)
