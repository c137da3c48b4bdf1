use Rattle.dom_selectors.specs.Grammar.{stands_behind}
use Rattle.dom_selectors.specs.Strings.{SpellsString}
use Rattle.dom_selectors.proofs.FaultLemmas.{passes_on, refuses_without_cause}
use Rattle.dom_selectors.proofs.StringLemmas.{string_once}
use Rattle.dom_selectors.proofs.RefusalLemmas.{closing_refused, enclosed_no_value, opening_refused}
use Rattle.dom_selectors.proofs.parser.take_enclosed_string.Goals as goal

pub returns-in_err-inside : goal.returns-in_err-inside
returns-in_err-inside c = passes_on c.from_residual.result _ _ c.from_residual.ensures.1 (opening_refused c.args.context SpellsString c.args.text.now _ c.in_err-inside.ensures)

pub returns-in_err-string : goal.returns-in_err-string
returns-in_err-string c =
    passes_on c.from_residual-in_err-string.result _ _ c.from_residual-in_err-string.ensures.1
    (refuses_without_cause _ (stands_behind c.args.context c.args.text.now) _ _ (enclosed_no_value c.args.context.depth SpellsString c.args.text.now c.in_ok-inside.inside.now c.in_ok-inside.ensures) c.in_err-string.ensures)

pub returns-in_err-rest : goal.returns-in_err-rest
returns-in_err-rest c =
    passes_on c.from_residual-in_err-rest.result _ _ c.from_residual-in_err-rest.ensures.1
    (closing_refused c.args.context SpellsString c.args.text.now _ string_once c.in_ok-inside.inside.now c.in_ok-string.after.now c.in_ok-string.string c.in_ok-inside.ensures c.in_ok-string.ensures c.in_err-rest.ensures)
