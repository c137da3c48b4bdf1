use Rattle.std.proofs.Common.{◌∙◌, ap, string_bytes}
use Rattle.std.specs.Str.{trim_end}
use Rattle.dom_md.proofs.SolidLemmas.{formatted-is, words-kept}
use Rattle.dom_md.proofs.formatting.formatted_text.Goals as goal

pub returns-clause-text : goal.returns-clause-text
returns-clause-text c =
    formatted-is c.args.node.now.tree.now c.args.node.now.id (string_bytes c.in_ok-text.text) (string_bytes c.in_ok-from_str.field-0) c.in_ok-text.ensures
    (c.in_ok-from_str.ensures.ok ∙ (c.trim_end.ensures.trim ∙ ap trim_end c.as_str.ensures.value))

pub returns-clause-words : goal.returns-clause-words
returns-clause-words c =
    words-kept c.args.node.now.tree.now c.args.node.now.id (string_bytes c.in_ok-text.text) (string_bytes c.in_ok-from_str.field-0) c.in_ok-text.ensures
    (c.in_ok-from_str.ensures.ok ∙ (c.trim_end.ensures.trim ∙ ap trim_end c.as_str.ensures.value))
