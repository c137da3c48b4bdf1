use Rattle.std.proofs.Common.{◌≡◌, ap, arith, sym, ◌∙◌}
use Rattle.page_trees.specs.Scopes.{ends_in, last_place}
use Rattle.page_trees.specs.declared.sets.Scope.TheVariants.{ListItem, Button, Table}
use Rattle.page_trees.proofs.ScopeEnds.{button_ends, list_item_ends, table_ends}
use Rattle.page_trees.proofs.stack.OpenElements.scope_end.Goals as goal

pub returns-in-Default : goal.returns-in-Default
returns-in-Default c is = c.last.ensures is ∙ ap (λ s. last_place (ends_in s) c.args.self.now.elements.items) (sym c.in-Default.is)

pub returns-in-ListItem : goal.returns-in-ListItem
returns-in-ListItem c is =
    let all = c.args.self.now.elements.items in
    let scope : last_place (ends_in c.args.scope) all ≡ last_place (ends_in ListItem) all = ap (λ s. last_place (ends_in s) all) c.in-ListItem.is in
    omega (arith, scope, list_item_ends all, c.last-ends.ensures is, c.top.ensures is, c.top-in-ListItem.ensures is, c.max.ensures, c.max-in-ListItem.ensures)

pub returns-in-Button : goal.returns-in-Button
returns-in-Button c is =
    let all = c.args.self.now.elements.items in
    let scope : last_place (ends_in c.args.scope) all ≡ last_place (ends_in Button) all = ap (λ s. last_place (ends_in s) all) c.in-Button.is in
    omega (arith, scope, button_ends all, c.last-in-Button.ensures is, c.top-in-Button.ensures is, c.max-in-Button.ensures)

pub returns-in-Table : goal.returns-in-Table
returns-in-Table c is =
    let all = c.args.self.now.elements.items in
    let scope : last_place (ends_in c.args.scope) all ≡ last_place (ends_in Table) all = ap (λ s. last_place (ends_in s) all) c.in-Table.is in
    omega (arith, scope, table_ends all, c.top-top.ensures is, c.top-in-Table.ensures is, c.top-in-Table-2.ensures is, c.max-in-Table.ensures, c.max-in-Table-2.ensures)
