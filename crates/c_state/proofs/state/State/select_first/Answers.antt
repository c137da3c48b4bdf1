use Rattle.std.proofs.Common.{rules}
use Rattle.c_state.proofs.Found.{first_found}
use Rattle.c_state.proofs.state.State.select_first.Goals as goal

pub returns-in-Some : goal.returns-in-Some
returns-in-Some c = first_found c.args.selectors.now c.in_ok-selectors.selectors.now c.args.self.now.document.tree c.get_unchecked.result.tree c.args.root c.value.result c.from-root.result c.in_ok-found.found c.in-Some.node.now c.in_ok-found.ensures.ok (search rules) (search rules) (search rules) (search rules) (search rules)
