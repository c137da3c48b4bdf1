use Rattle.std.proofs.Common.{arith, refl}
use Rattle.page_tokens.specs.declared.tokenizer.state.Quote.TheVariants as quote
use Rattle.page_tokens.proofs.Fronts.{plain_on}
use Rattle.page_tokens.proofs.PlainAttrs.{quote_read}
use Rattle.page_tokens.proofs.tokenizer.Tokenizer.read_plain_value.Goals as goal

pub returns-in-Some : goal.returns-in-Some
returns-in-Some c outside is =
    plain_on c.args.self.now _ _ c.args.text.now c.in-Some.inner.now _ c.read_plain_quoted.result (quote_read c.args.self.now quote.Double c.args.text.now c.in-Some.inner.now outside is (c.in-Some.ensures.cut (omega arith)))
    (c.read_plain_quoted.ensures (record { reference = outside.reference; after_return = outside.after_return }) refl)

pub returns-in-Some-behind : goal.returns-in-Some-behind
returns-in-Some-behind c outside is =
    plain_on c.args.self.now _ _ c.args.text.now c.in-Some-behind.inner.now _ c.read_plain_quoted-in-Some-behind.result (quote_read c.args.self.now quote.Single c.args.text.now c.in-Some-behind.inner.now outside is (c.in-Some-behind.ensures.cut (omega arith)))
    (c.read_plain_quoted-in-Some-behind.ensures (record { reference = outside.reference; after_return = outside.after_return }) refl)

pub returns : goal.returns
returns c outside is = c.read_plain_unquoted.ensures outside is
