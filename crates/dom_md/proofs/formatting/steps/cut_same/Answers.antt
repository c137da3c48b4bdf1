use Rattle.std.proofs.Common.{◌++◌, ◌∙◌, ap, arith, sym}
use Rattle.std.proofs.lemmas.Str.Ascii.{encode_ascii}
use Rattle.std.proofs.lemmas.Str.Pattern.{strip_prefix_char}
use Rattle.dom_md.specs.Formatted.{spaced_words}
use Rattle.dom_md.proofs.formatting.steps.cut_same.Goals as goal

pub returns-in-Some-cut_letter : goal.returns-in-Some-cut_letter
returns-in-Some-cut_letter c =
    let after = c.in_ok-after.after.now in
    let front = rw c.in_ok-after.was at (strip_prefix_char 32 c.args.text.now c.strip_prefix.result c.strip_prefix.ensures.cases (omega arith)) in
    let one = sym (encode_ascii 32 (omega arith)) in
    (front ∙ ap (λ e. e ++ after) one, ap spaced_words front ∙ (c.in-Some-cut_letter.ensures.2 ∙ ap (λ e. e ++ spaced_words after) one))
