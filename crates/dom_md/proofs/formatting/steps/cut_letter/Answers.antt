use Rattle.std.proofs.Common.{◌++◌, ◌∙◌, ap, encode_utf8, sym}
use Rattle.dom_md.proofs.SpacedLemmas.{spaced-char, spaced-letter}
use Rattle.dom_md.proofs.formatting.steps.cut_letter.Goals as goal

pub returns : goal.returns
returns c =
    let text = c.args.text.now in
    let after = c.as_str.result.now in
    let letter = c.in_ok-c.c in
    let dark = sym c.is_whitespace.ensures ∙ c.if-is_whitespace.false in
    let is = sym c.chars-chars.ensures.rest ∙ (c.in_ok-c.ensures.steps.0 ∙ ap (λ t. encode_utf8 letter ++ t) (sym c.as_str.ensures)) in
    (is, spaced-char text after letter c.utf8.text is dark, spaced-letter text after letter c.utf8.text is dark)
