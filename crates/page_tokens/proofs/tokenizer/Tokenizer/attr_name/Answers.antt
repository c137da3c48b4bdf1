use Rattle.std.proofs.Common.{refl, sym, ◌∙◌}
use Rattle.page_tokens.proofs.AttrNames.{end_in_name, equals_in_name, letter_in_name}
use Rattle.page_tokens.proofs.tokenizer.Tokenizer.attr_name.Goals as goal

pub returns-then-c-eq61 : goal.returns-then-c-eq61
returns-then-c-eq61 c is = equals_in_name c.args.self.now c.note_repeated_name.new.self _ c.args.c _ is c.if-c-eq61.true c.note_repeated_name.ensures.only c.note_repeated_name.ensures.memory c.then.ensures.only c.then.ensures.told

pub returns-then-ends_name : goal.returns-then-ends_name
returns-then-ends_name c is = end_in_name c.args.self.now c.note_repeated_name-then-ends_name.new.self _ c.args.c _ is (sym c.ends_name.ensures ∙ c.if-ends_name.true) c.note_repeated_name-then-ends_name.ensures.only c.note_repeated_name-then-ends_name.ensures.memory (c.after_attr_name.ensures refl)

pub returns : goal.returns
returns c is = letter_in_name c.args.self.now c.report.new.self _ c.args.c _ is c.if-c-eq61.false (sym c.ends_name.ensures ∙ c.if-ends_name.false) c.report.ensures.only c.report.ensures.memory c.letter.ensures.gains c.letter.ensures.memory c.letter.ensures.told
