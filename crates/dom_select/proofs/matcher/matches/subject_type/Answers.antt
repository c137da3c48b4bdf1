use Rattle.std.proofs.Common.{map}
use Rattle.dom_selectors.specs.ValuesAsTrees.{read_compound, read_step}
use Rattle.dom_select.proofs.EndLemmas.{behind_as}
use Rattle.dom_select.proofs.StepLemmas.{read_front_and_last}
use Rattle.dom_select.proofs.matcher.matches.subject_type.Goals as goal

pub returns-in-Some : goal.returns-in-Some
returns-in-Some c =
    let is = read_front_and_last c.args.steps.now c.in-Some.field-0-1.now c.in-Some.last.now c.in-Some.ensures.cases.0 in
    behind_as c.type_selector-in-Some.result (read_compound c.args.first.now) (map read_step c.args.steps.now) _ _ is c.type_selector-in-Some.ensures
