use Rattle.std.proofs.Common.{ap, sym, ◌∙◌, length, take}
use Rattle.page_trees.specs.Scopes.{last_place}
use Rattle.page_trees.specs.SearchIndex.{is_sought}
use Rattle.page_trees.proofs.IndexLemmas.{key_found}
use Rattle.page_trees.proofs.stack.marks.Marks.last.Goals as goal

pub returns-in-Html : goal.returns-in-Html
returns-in-Html c elements is = ap (λ m. m.html) (c.last_row.ensures elements is) ∙ ap (λ s. last_place (is_sought s) (take (length c.args.self.now.rows.items) elements)) (sym c.in-Html.is)

pub returns-in-Special : goal.returns-in-Special
returns-in-Special c elements is = ap (λ m. m.special) (c.last_row-in-Special.ensures elements is) ∙ ap (λ s. last_place (is_sought s) (take (length c.args.self.now.rows.items) elements)) (sym c.in-Special.is)

pub returns-in-ScopeEnd : goal.returns-in-ScopeEnd
returns-in-ScopeEnd c elements is = ap (λ m. m.ends) (c.last_row-in-ScopeEnd.ensures elements is) ∙ ap (λ s. last_place (is_sought s) (take (length c.args.self.now.rows.items) elements)) (sym c.in-ScopeEnd.is)

pub returns-in-ItemEnd : goal.returns-in-ItemEnd
returns-in-ItemEnd c elements is = ap (λ m. m.item_ends) (c.last_row-in-ItemEnd.ensures elements is) ∙ ap (λ s. last_place (is_sought s) (take (length c.args.self.now.rows.items) elements)) (sym c.in-ItemEnd.is)

pub returns-in-Key : goal.returns-in-Key
returns-in-Key c elements is = key_found elements c.args.self.now c.in-Key.key c.top.result c.top.ensures is ∙ ap (λ s. last_place (is_sought s) (take (length c.args.self.now.rows.items) elements)) (sym c.in-Key.is)
