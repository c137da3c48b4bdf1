use Rattle.std.proofs.Common.{refl, sym, ◌∙◌}
use Rattle.page_tokens.specs.declared.tokenizer.state.Quote.TheVariants as quote
use Rattle.page_tokens.proofs.AttrValues.{greater_before_value, quote_before_value, space_before_value, value_begins}
use Rattle.page_tokens.proofs.tokenizer.Tokenizer.before_attr_value.Goals as goal

pub returns-then-is_space : goal.returns-then-is_space
returns-then-is_space c is = space_before_value c.args.self.now c.args.c is (sym c.is_space.ensures ∙ c.if-is_space.true)

pub returns-then-c-eq34 : goal.returns-then-c-eq34
returns-then-c-eq34 c is = quote_before_value c.args.self.now _ quote.Double c.args.c _ is c.if-c-eq34.true c.then.ensures.only c.then.ensures.told

pub returns-then-c-eq39 : goal.returns-then-c-eq39
returns-then-c-eq39 c is = quote_before_value c.args.self.now _ quote.Single c.args.c _ is c.if-c-eq39.true c.then-then-c-eq39.ensures.only c.then-then-c-eq39.ensures.told

pub returns-then-c-eq62 : goal.returns-then-c-eq62
returns-then-c-eq62 c is = greater_before_value c.args.self.now c.error.new.self _ c.args.c _ is c.if-c-eq62.true c.error.ensures.only c.error.ensures.memory c.emit_tag.ensures.keeps c.emit_tag.ensures.emits

pub returns : goal.returns
returns c is = value_begins c.args.self.now _ c.args.c _ is (sym c.is_space.ensures ∙ c.if-is_space.false) c.if-c-eq34.false c.if-c-eq39.false c.if-c-eq62.false (c.unquoted_value.ensures refl)
