use Rattle.std.proofs.Common.{ℕ, ◌∙◌, List, ap, sym}
use Rattle.std.proofs.lemmas.Str.{chars-IsAscii}
use Rattle.dom_article.specs.Contents.{no_text, with_chars}
use Rattle.dom_article.proofs.texts.TextFacts.of.Goals as goal

pub returns-then-is_ascii : goal.returns-then-is_ascii
returns-then-is_ascii c =
    let counted = λ (cs : List ℕ). with_chars no_text cs in
    c.of_ascii.ensures ∙ (ap counted c.as_bytes.ensures.value ∙ ap counted (sym (chars-IsAscii c.args.text.now c.if-is_ascii.ensures.cases)))
