use Rattle.std.proofs.Common.{◌∷◌, ◌++◌, [], sym, ap, ◌∙◌}
use Rattle.std.specs.Option.{option_map_or}
use Rattle.std.proofs.lemmas.Result.{on_ok_weaker}
use Rattle.dom_sanitize.specs.Clean.{fate_of}
use Rattle.dom_sanitize.specs.Plan.{with_below}
use Rattle.dom_sanitize.specs.declared.plan.Fate.TheVariants.{Vanish}
use Rattle.dom_sanitize.proofs.Rows.{looked}
use Rattle.dom_sanitize.proofs.plan.plan_node.Goals as goal

pub returns : goal.returns
returns c =
    let forest = c.args.tree.now in
    let node = c.in-Some.ensures in
    on_ok_weaker c.push_step.result
    (λ made. looked c.args.allow.now forest (c.trees_of_a_forest.ensures forest c.requires.sound) (c.lines_of_a_forest.ensures forest c.requires.sound) c.fate_of-fate.result c.args.row c.args.rows.now c.push_below.new.rows c.args.steps.now.items c.push_step.new.steps.items
    c.get.result c.get-2.result c.requires.known c.requires.rows
    (c.fate_of-fate.ensures ∙ sym (ap (λ o. option_map_or (fate_of c.args.allow.now) o Vanish) node.content_is))
    (c.get.ensures ∙ node.next_is) (c.get-2.ensures ∙ node.first_is)
    (c.in_ok-push_below.ensures ∙ ap (with_below c.fate_of-fate.result c.get-2.result c.args.row) c.in_ok-push_row.ensures)
    (made ∙ ap (λ o. c.args.steps.now.items ++ record { id = c.args.row.first; home = o } ∷ []) c.home_of.ensures))
    c.push_step.ensures
