use Rattle.std.proofs.Common.{refl, sym, ◌∙◌}
use Rattle.page_tokens.proofs.TagOpens.{declaration_opens, other_opens, question_begins, slash_opens, start_begins}
use Rattle.page_tokens.proofs.tokenizer.Tokenizer.tag_open.Goals as goal

pub returns-then-c-eq33 : goal.returns-then-c-eq33
returns-then-c-eq33 c is = declaration_opens c.args.self.now (record c.args.self.now { comment = c.clear.new.self }) _ c.args.c _ is c.if-c-eq33.true refl c.clear.ensures.bytes c.then.ensures.only c.then.ensures.told

pub returns-then-c-eq47 : goal.returns-then-c-eq47
returns-then-c-eq47 c is = slash_opens c.args.self.now _ c.args.c _ is c.if-c-eq47.true c.then-then-c-eq47.ensures.only c.then-then-c-eq47.ensures.told

pub returns-then-is_ascii_alphabetic : goal.returns-then-is_ascii_alphabetic
returns-then-is_ascii_alphabetic c is = start_begins c.args.self.now _ c.args.c _ is (sym c.is_ascii_alphabetic.ensures.value ∙ c.if-is_ascii_alphabetic.true) c.begin_tag.ensures.begins c.begin_tag.ensures.told

pub returns-then-c-eq63 : goal.returns-then-c-eq63
returns-then-c-eq63 c is = question_begins c.args.self.now c.error.new.self _ c.args.c _ is c.if-c-eq63.true c.error.ensures.only c.error.ensures.memory c.bogus_comment.ensures

pub returns : goal.returns
returns c is =
    other_opens c.args.self.now c.error-2.new.self c.put_text.new.self _ c.args.c _ is (sym c.is_ascii_alphabetic.ensures.value ∙ c.if-is_ascii_alphabetic.false) c.if-c-eq33.false c.if-c-eq47.false c.if-c-eq63.false
    c.error-2.ensures.only c.error-2.ensures.memory c.put_text.ensures (c.in_data.ensures refl)
