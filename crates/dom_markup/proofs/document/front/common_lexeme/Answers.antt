use Rattle.std.proofs.Common.{◌∙◌, sym, ap}
use Rattle.dom_markup.specs.References.{decoded}
use Rattle.dom_markup.proofs.grammar.Items.{no_markup, some_text}
use Rattle.dom_markup.proofs.document.front.common_lexeme.Goals as goal

pub returns-in_default-strip : goal.returns-in_default-strip
returns-in_default-strip c =
    let plain = no_markup c.args.text.now c.in_default-strip.ensures.none in
    let found = c.in_ok-contents.ensures in
    let made = some_text c.args.text.now _ _ c.requires plain found.front found.whole in
    (made.1, made.2, sym found.plain ∙ ap decoded found.front)
