use Rattle.std.proofs.Common.{◌≡◌, ◌∙◌, ap, string_bytes, subst, ℕ}
use Rattle.std.specs.Str.{IsUtf8}
use Rattle.dom_clean.specs.Cleaned.{cleaned_below}
use Rattle.dom_clean.specs.Policy.{Policy}
use Rattle.dom_clean.specs.Written.{text_of}
use Rattle.dom_clean.proofs.CleanedParsed.{cleaned_text}
use Rattle.dom_clean.proofs.writer.clean_tree.Goals as goal

pub returns-clause-text : goal.returns-clause-text
returns-clause-text c =
    let forest = c.args.tree.now in
    c.in_ok-text.ensures ∙ ap (λ (p : Policy). text_of (cleaned_below p forest c.root_id.result)) c.lists.ensures.value
    ∙ ap (λ (n : ℕ). text_of (cleaned_below c.args.policy.now forest n)) c.root_id.ensures

pub returns-clause-cleaned : goal.returns-clause-cleaned
returns-clause-cleaned c =
    let policy = c.args.policy.now in
    let forest = c.args.tree.now in
    cleaned_text c.cleaned_text_is_parsed.ensures.text policy c.lists.ensures.sound forest 0 (string_bytes c.in_ok-text.text) (subst IsUtf8 c.as_str.ensures.value c.as_str.utf8)
    (c.in_ok-text.ensures ∙ ap (λ (p : Policy). text_of (cleaned_below p forest c.root_id.result)) c.lists.ensures.value ∙ ap (λ (n : ℕ). text_of (cleaned_below policy forest n)) c.root_id.ensures)
