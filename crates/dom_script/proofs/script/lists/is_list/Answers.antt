use Rattle.std.proofs.Common.{◌∙◌, ◌≢◌, [], ap, rules}
use Rattle.std.specs.List.{list_all}
use Rattle.dom_script.specs.Words.{is_name}
use Rattle.dom_script.proofs.ListLines.{some-list}
use Rattle.dom_script.proofs.script.lists.is_list.Goals as goal

pub returns : goal.returns
returns c =
    let some : c.args.text.now ≢ [] = λ e. search rules in
    c.are_names.ensures ∙ ap (list_all is_name) (some-list c.args.text.now some)
