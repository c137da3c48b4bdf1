use Rattle.std.proofs.Common.{sym, ◌∙◌}
use Rattle.page_tokens.proofs.AttrNames.{equals_after, greater_after, name_begins_after, slash_after, space_after}
use Rattle.page_tokens.proofs.tokenizer.Tokenizer.after_attr_name.Goals as goal

pub returns-then-is_space : goal.returns-then-is_space
returns-then-is_space c is = space_after c.args.self.now c.args.c is (sym c.is_space.ensures ∙ c.if-is_space.true)

pub returns-then-c-eq47 : goal.returns-then-c-eq47
returns-then-c-eq47 c is = slash_after c.args.self.now _ c.args.c _ is c.if-c-eq47.true c.then.ensures.only c.then.ensures.told

pub returns-then-c-eq61 : goal.returns-then-c-eq61
returns-then-c-eq61 c is = equals_after c.args.self.now _ c.args.c _ is c.if-c-eq61.true c.then-then-c-eq61.ensures.only c.then-then-c-eq61.ensures.told

pub returns-then-c-eq62 : goal.returns-then-c-eq62
returns-then-c-eq62 c is = greater_after c.args.self.now _ c.args.c _ is c.if-c-eq62.true c.emit_tag.ensures.keeps c.emit_tag.ensures.emits

pub returns : goal.returns
returns c is = name_begins_after c.args.self.now _ c.args.c _ is (sym c.is_space.ensures ∙ c.if-is_space.false) c.if-c-eq47.false c.if-c-eq61.false c.if-c-eq62.false c.begin_attr.ensures.begins c.begin_attr.ensures.told
