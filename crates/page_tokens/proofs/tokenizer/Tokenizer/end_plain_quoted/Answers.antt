use Rattle.std.proofs.Common.{ℕ, ◌∷◌, ap, ◌∙◌}
use Rattle.page_tokens.proofs.Fronts.{none_read}
use Rattle.page_tokens.proofs.PlainAttrs.{quote_closes}
use Rattle.page_tokens.proofs.tokenizer.Tokenizer.end_plain_quoted.Goals as goal

pub returns-in_default : goal.returns-in_default
returns-in_default c outside is = none_read c.args.self.now c.args.text.now

pub returns : goal.returns
returns c outside is =
    quote_closes c.args.self.now c.args.quote c.args.text.now c.in-Some.after.now outside is (c.in-Some.ensures.cut c.byte.ensures.ascii ∙ ap (λ (b : ℕ). b ∷ c.in-Some.after.now) c.byte.ensures.is)
