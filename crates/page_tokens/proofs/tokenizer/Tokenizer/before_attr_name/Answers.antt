use Rattle.std.proofs.Common.{sym, ◌∙◌}
use Rattle.page_tokens.proofs.AttrNames.{greater_before, name_begins, slash_before, space_before}
use Rattle.page_tokens.proofs.tokenizer.Tokenizer.before_attr_name.Goals as goal

pub returns-then-is_space : goal.returns-then-is_space
returns-then-is_space c is = space_before c.args.self.now c.args.c is (sym c.is_space.ensures ∙ c.if-is_space.true)

pub returns-then-c-eq47 : goal.returns-then-c-eq47
returns-then-c-eq47 c is = slash_before c.args.self.now _ c.args.c _ is c.if-c-eq47.true c.then.ensures.only c.then.ensures.told

pub returns-then-c-eq62 : goal.returns-then-c-eq62
returns-then-c-eq62 c is = greater_before c.args.self.now _ c.args.c _ is c.if-c-eq62.true c.emit_tag.ensures.keeps c.emit_tag.ensures.emits

pub returns : goal.returns
returns c is = name_begins c.args.self.now _ c.args.c _ is (sym c.is_space.ensures ∙ c.if-is_space.false) c.if-c-eq47.false c.if-c-eq62.false c.begin_attr.ensures.begins c.begin_attr.ensures.told
