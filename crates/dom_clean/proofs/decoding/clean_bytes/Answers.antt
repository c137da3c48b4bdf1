use Rattle.std.proofs.Common.{List, string_bytes, subst, ◌∙◌, ℕ}
use Rattle.text_decoding.proofs.PageTexts.{replaced_is, text_is}
use Rattle.dom_clean.specs.Sources.{IsCleanOf}
use Rattle.dom_clean.proofs.decoding.clean_bytes.Goals as goal

pub returns-clause-text : goal.returns-clause-text
returns-clause-text c = subst (λ (source : List ℕ). IsCleanOf c.args.policy.now source (string_bytes c.in_ok-text.text)) (c.as_str.ensures ∙ text_is _ _ c.in_ok-page.ensures.text) (record {
  cleaned = c.in_ok-text.ensures.cleaned;
  calm = c.in_ok-text.ensures.calm;
  left = c.in_ok-text.ensures.left;
  again = c.in_ok-text.ensures.again;
})

pub returns-clause-replaced : goal.returns-clause-replaced
returns-clause-replaced c = c.replaced.ensures ∙ replaced_is _ _ c.in_ok-page.ensures.text
