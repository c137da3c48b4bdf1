use Rattle.std.proofs.Common.{sym, ◌∙◌}
use Rattle.page_tokens.proofs.TagNames.{greater_arm, name_arm, slash_arm, space_arm}
use Rattle.page_tokens.proofs.tokenizer.Tokenizer.tag_name.Goals as goal

pub returns-then-c-eq47 : goal.returns-then-c-eq47
returns-then-c-eq47 c is = slash_arm c.args.self.now _ c.args.c _ is c.if-c-eq47.true c.then.ensures.only c.then.ensures.told

pub returns-then-c-eq62 : goal.returns-then-c-eq62
returns-then-c-eq62 c is = greater_arm c.args.self.now _ c.args.c _ is c.if-c-eq62.true c.emit_tag.ensures.keeps c.emit_tag.ensures.emits

pub returns-then-is_space : goal.returns-then-is_space
returns-then-is_space c is = space_arm c.args.self.now _ c.args.c _ is (sym c.is_space.ensures ∙ c.if-is_space.true) c.then-then-is_space.ensures.only c.then-then-is_space.ensures.told

pub returns : goal.returns
returns c is =
    name_arm c.args.self.now _ c.args.c _ is c.if-c-eq47.false c.if-c-eq62.false (sym c.is_space.ensures ∙ c.if-is_space.false) c.letter.ensures.gains c.letter.ensures.memory c.letter.ensures.told
