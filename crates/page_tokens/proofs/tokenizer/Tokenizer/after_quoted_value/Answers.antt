use Rattle.std.proofs.Common.{refl, sym, ◌∙◌}
use Rattle.page_tokens.proofs.AttrValues.{greater_after_value, other_after_value, slash_after_value, space_after_value}
use Rattle.page_tokens.proofs.tokenizer.Tokenizer.after_quoted_value.Goals as goal

pub returns-then-is_space : goal.returns-then-is_space
returns-then-is_space c is = space_after_value c.args.self.now _ c.args.c _ is (sym c.is_space.ensures ∙ c.if-is_space.true) c.then.ensures.only c.then.ensures.told

pub returns-then-c-eq47 : goal.returns-then-c-eq47
returns-then-c-eq47 c is = slash_after_value c.args.self.now _ c.args.c _ is c.if-c-eq47.true c.then-then-c-eq47.ensures.only c.then-then-c-eq47.ensures.told

pub returns-then-c-eq62 : goal.returns-then-c-eq62
returns-then-c-eq62 c is = greater_after_value c.args.self.now _ c.args.c _ is c.if-c-eq62.true c.emit_tag.ensures.keeps c.emit_tag.ensures.emits

pub returns : goal.returns
returns c is = other_after_value c.args.self.now c.error.new.self _ c.args.c _ is (sym c.is_space.ensures ∙ c.if-is_space.false) c.if-c-eq47.false c.if-c-eq62.false c.error.ensures.only c.error.ensures.memory (c.before_attr_name.ensures refl)
