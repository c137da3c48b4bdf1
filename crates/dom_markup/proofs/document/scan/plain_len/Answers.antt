use Rattle.std.proofs.Common.{ap, sym, ◌∙◌}
use Rattle.dom_markup.specs.Markup.{begins_markup}
use Rattle.dom_markup.proofs.grammar.Texts.{plain_ends}
use Rattle.dom_markup.proofs.document.scan.plain_len.Goals as goal

pub returns-clause-len : goal.returns-clause-len
returns-clause-len c =
    let begins = sym (c.begins_markup.ensures ∙ ap begins_markup c.bytes_from.ensures) ∙ c.if-not-begins_markup.false in
    plain_ends c.args.bytes.now c.in_ok-at.at c.in_ok-at.ensures.first.0 begins
