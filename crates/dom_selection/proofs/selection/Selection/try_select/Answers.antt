use Rattle.std.proofs.Common.{subst, [], List, chars}
use Rattle.dom_trees.specs.declared.node_ref.NodeRef.{NodeRef}
use Rattle.dom_selectors.specs.Syntax.{SelectorList}
use Rattle.dom_selectors.proofs.SelectorLemmas.{stands_once}
use Rattle.dom_selection.specs.Selecting.{Selects}
use Rattle.dom_selection.proofs.selection.Selection.try_select.Goals as goal

pub returns-in_default : goal.returns-in_default
returns-in_default c = λ selector stands. absurd ((rw c.in_default.is at c.in_ok-matcher.ensures) selector stands)

pub returns-then-is_empty : goal.returns-then-is_empty
returns-then-is_empty c = λ selector stands.
    subst (λ (list : SelectorList). Selects list c.args.self.now []) (stands_once (chars c.args.selectors.now) c.in-Some.matcher selector (rw c.in-Some.is at c.in_ok-matcher.ensures) stands)
    (subst (λ (ns : List NodeRef). Selects c.in-Some.matcher c.args.self.now ns) c.if-is_empty.ensures c.in_ok-found.ensures)
