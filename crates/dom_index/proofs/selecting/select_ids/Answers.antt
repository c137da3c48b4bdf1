use Rattle.std.proofs.Common.{subst}
use Rattle.std.specs.Result.{IfOk}
use Rattle.dom_select.specs.Selected.{Selected}
use Rattle.dom_index.proofs.selecting.select_ids.Goals as goal

pub returns-then-are_traversed : goal.returns-then-are_traversed
returns-then-are_traversed c = subst (λ list. IfOk c.select_plain.result (λ ids. Selected c.args.tree.now c.args.roots.now list ids.items)) c.selectors-selectors.ensures c.select_plain.ensures
