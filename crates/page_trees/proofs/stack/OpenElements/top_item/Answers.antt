use Rattle.std.proofs.Common.{ap, sym, ◌∙◌}
use Rattle.page_trees.specs.Closing.{item_names}
use Rattle.page_trees.specs.Scopes.{is_among, last_place}
use Rattle.page_trees.proofs.ClosedElements.{other_items}
use Rattle.page_trees.proofs.stack.OpenElements.top_item.Goals as goal

pub returns-in-Li : goal.returns-in-Li
returns-in-Li c is = c.top_among.ensures is ∙ ap (λ n. last_place (is_among (item_names n)) c.args.self.now.elements.items) (sym c.in-Li.is)

pub returns-in_default : goal.returns-in_default
returns-in_default c is =
    c.top_among-in_default.ensures is ∙ ap (λ names. last_place (is_among names) c.args.self.now.elements.items) (sym (other_items c.args.name c.in_default.not-Li))
