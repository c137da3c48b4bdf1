use Rattle.std.proofs.Common.{refl}
use Rattle.page_tokens.proofs.AttrValues.{greater_closes, other_closes}
use Rattle.page_tokens.proofs.tokenizer.Tokenizer.self_closing.Goals as goal

pub returns-then-c-eq62 : goal.returns-then-c-eq62
returns-then-c-eq62 c is = greater_closes c.args.self.now _ c.args.c _ is c.if-c-eq62.true c.emit_tag.ensures.keeps c.emit_tag.ensures.emits

pub returns : goal.returns
returns c is = other_closes c.args.self.now c.error.new.self _ c.args.c _ is c.if-c-eq62.false c.error.ensures.only c.error.ensures.memory (c.before_attr_name.ensures refl)
