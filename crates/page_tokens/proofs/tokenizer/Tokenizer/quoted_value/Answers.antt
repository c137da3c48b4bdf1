use Rattle.std.proofs.Common.{ℕ, ◌≡◌, ◌∙◌, subst}
use Rattle.page_tokens.proofs.AttrValues.{letter_in_value, quote_in_value, reference_in_value}
use Rattle.page_tokens.proofs.tokenizer.Tokenizer.quoted_value.Goals as goal

pub returns-then-c-letter : goal.returns-then-c-letter
returns-then-c-letter c is = quote_in_value c.args.self.now _ c.args.quote c.args.c _ is (c.if-c-letter.true ∙ c.letter.ensures) c.then.ensures.only c.then.ensures.told

pub returns-then-c-eq38 : goal.returns-then-c-eq38
returns-then-c-eq38 c is = reference_in_value c.args.self.now _ c.args.quote c.args.c _ is c.if-c-eq38.true c.begin_reference.ensures.begins c.begin_reference.ensures.told

pub returns : goal.returns
returns c is = letter_in_value c.args.self.now _ c.args.quote c.args.c _ is (subst (λ (d : ℕ). c.args.c ≡ d → ⊥) c.letter.ensures c.if-c-letter.false) c.if-c-eq38.false c.letter-2.ensures.gains c.letter-2.ensures.memory c.letter-2.ensures.told
