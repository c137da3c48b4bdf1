use Rattle.dom_selectors.specs.Grammar.{stands_behind}
use Rattle.dom_selectors.specs.Nth.{SpellsNth}
use Rattle.dom_selectors.specs.Spelling.{large_stands}
use Rattle.dom_selectors.proofs.FaultLemmas.{passes_on, refuses_more}
use Rattle.dom_selectors.proofs.DeepLemmas.{large_inside}
use Rattle.dom_selectors.proofs.NthLemmas.{nth_once}
use Rattle.dom_selectors.proofs.RefusalLemmas.{closing_refused, enclosed_no_value, opening_refused}
use Rattle.dom_selectors.proofs.parser.take_enclosed_nth.Goals as goal

pub returns-in_err-inside : goal.returns-in_err-inside
returns-in_err-inside c = passes_on c.from_residual.result _ _ c.from_residual.ensures.1 (opening_refused c.args.context SpellsNth c.args.text.now _ c.in_err-inside.ensures)

pub returns-in_err-nth : goal.returns-in_err-nth
returns-in_err-nth c =
    passes_on c.from_residual-in_err-nth.result _ _ c.from_residual-in_err-nth.ensures.1
    (refuses_more _ (large_stands c.in_ok-inside.inside.now) (stands_behind c.args.context c.args.text.now) _ _ (large_inside c.args.context c.args.text.now c.in_ok-inside.inside.now c.in_ok-inside.ensures)
    (enclosed_no_value c.args.context.depth SpellsNth c.args.text.now c.in_ok-inside.inside.now c.in_ok-inside.ensures) c.in_err-nth.ensures)

pub returns-in_err-rest : goal.returns-in_err-rest
returns-in_err-rest c =
    passes_on c.from_residual-in_err-rest.result _ _ c.from_residual-in_err-rest.ensures.1
    (closing_refused c.args.context SpellsNth c.args.text.now _ nth_once c.in_ok-inside.inside.now c.in_ok-nth.after.now c.in_ok-nth.nth c.in_ok-inside.ensures c.in_ok-nth.ensures c.in_err-rest.ensures)
