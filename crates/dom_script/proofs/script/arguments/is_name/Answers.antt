use Rattle.std.proofs.Common.{◌∙◌, ◌≢◌, [], ap, rules}
use Rattle.std.specs.List.{list_all}
use Rattle.dom_markup.specs.Bytes.{is_name_byte}
use Rattle.dom_script.proofs.Lines.{some-name}
use Rattle.dom_script.proofs.script.arguments.is_name.Goals as goal

pub returns : goal.returns
returns c =
    let some : c.args.text.now ≢ [] = λ e. search rules in
    c.are_name_bytes.ensures ∙ ap (list_all is_name_byte) c.as_bytes.ensures.value ∙ some-name c.args.text.now some
