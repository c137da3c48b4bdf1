use Rattle.std.proofs.Common.{sym, ◌∙◌}
use Rattle.page_tokens.proofs.TagOpens.{end_begins, greater_after_slash, other_end_begins}
use Rattle.page_tokens.proofs.tokenizer.Tokenizer.end_tag_open.Goals as goal

pub returns-then-is_ascii_alphabetic : goal.returns-then-is_ascii_alphabetic
returns-then-is_ascii_alphabetic c is = end_begins c.args.self.now _ c.args.c _ is (sym c.is_ascii_alphabetic.ensures.value ∙ c.if-is_ascii_alphabetic.true) c.begin_tag.ensures.begins c.begin_tag.ensures.told

pub returns-then-c-eq62 : goal.returns-then-c-eq62
returns-then-c-eq62 c is = greater_after_slash c.args.self.now c.error.new.self _ c.args.c _ is c.if-c-eq62.true c.error.ensures.only c.error.ensures.memory c.then.ensures.only c.then.ensures.told

pub returns : goal.returns
returns c is = other_end_begins c.args.self.now c.error-2.new.self _ c.args.c _ is (sym c.is_ascii_alphabetic.ensures.value ∙ c.if-is_ascii_alphabetic.false) c.if-c-eq62.false c.error-2.ensures.only c.error-2.ensures.memory c.bogus_comment.ensures
