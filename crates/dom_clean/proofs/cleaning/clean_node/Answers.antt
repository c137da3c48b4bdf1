use Rattle.std.proofs.Common.{◌≡◌, ◌∙◌, ap, string_bytes, subst}
use Rattle.std.specs.Str.{IsUtf8}
use Rattle.dom_clean.specs.Cleaned.{cleaned_below}
use Rattle.dom_clean.specs.Laws.{left_below}
use Rattle.dom_clean.specs.Policy.{Policy}
use Rattle.dom_clean.specs.Written.{text_of}
use Rattle.dom_clean.proofs.CleanedParsed.{cleaned_text}
use Rattle.dom_clean.proofs.cleaning.clean_node.Goals as goal

pub returns-clause-text : goal.returns-clause-text
returns-clause-text c =
    c.in_ok-text.ensures ∙ ap (λ (p : Policy). text_of (cleaned_below p c.args.tree.now c.args.id)) c.lists.ensures.value

pub returns-clause-cleaned : goal.returns-clause-cleaned
returns-clause-cleaned c =
    let policy = c.args.policy.now in
    let forest = c.args.tree.now in (
      left_below policy forest c.args.id,
      cleaned_text c.cleaned_text_is_parsed.ensures.text policy c.lists.ensures.sound forest c.args.id (string_bytes c.in_ok-text.text) (subst IsUtf8 c.as_str.ensures.value c.as_str.utf8)
          (c.in_ok-text.ensures ∙ ap (λ (p : Policy). text_of (cleaned_below p forest c.args.id)) c.lists.ensures.value),
    )
