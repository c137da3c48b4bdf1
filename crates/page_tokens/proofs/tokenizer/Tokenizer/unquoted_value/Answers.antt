use Rattle.std.proofs.Common.{sym, ◌∙◌}
use Rattle.page_tokens.proofs.AttrValues.{greater_unquoted, letter_unquoted, reference_unquoted, space_unquoted}
use Rattle.page_tokens.proofs.tokenizer.Tokenizer.unquoted_value.Goals as goal

pub returns-then-is_space : goal.returns-then-is_space
returns-then-is_space c is = space_unquoted c.args.self.now _ c.args.c _ is (sym c.is_space.ensures ∙ c.if-is_space.true) c.then.ensures.only c.then.ensures.told

pub returns-then-c-eq38 : goal.returns-then-c-eq38
returns-then-c-eq38 c is = reference_unquoted c.args.self.now _ c.args.c _ is c.if-c-eq38.true c.begin_reference.ensures.begins c.begin_reference.ensures.told

pub returns-then-c-eq62 : goal.returns-then-c-eq62
returns-then-c-eq62 c is = greater_unquoted c.args.self.now _ c.args.c _ is c.if-c-eq62.true c.emit_tag.ensures.keeps c.emit_tag.ensures.emits

pub returns : goal.returns
returns c is = letter_unquoted c.args.self.now c.report.new.self _ c.args.c _ is (sym c.is_space.ensures ∙ c.if-is_space.false) c.if-c-eq38.false c.if-c-eq62.false c.report.ensures.only c.report.ensures.memory c.letter.ensures.gains c.letter.ensures.memory c.letter.ensures.told
