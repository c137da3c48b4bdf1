use Rattle.std.proofs.Common.{refl, sym, ◌∙◌}
use Rattle.page_tokens.proofs.RawEndTags.{begins_arm, no_letter_arm}
use Rattle.page_tokens.proofs.tokenizer.Tokenizer.raw_end_tag_open.Goals as goal

pub returns-then-is_ascii_alphabetic : goal.returns-then-is_ascii_alphabetic
returns-then-is_ascii_alphabetic c is =
    begins_arm c.args.self.now _ c.args.raw c.args.c _ is (sym c.is_ascii_alphabetic.ensures.value ∙ c.if-is_ascii_alphabetic.true) c.begin_end_tag.ensures.begins c.begin_end_tag.ensures.told

pub returns : goal.returns
returns c is =
    no_letter_arm c.args.self.now c.put_text.new.self _ _ c.args.raw c.args.c _ is (sym c.is_ascii_alphabetic.ensures.value ∙ c.if-is_ascii_alphabetic.false) c.put_text.ensures refl c.back_to.ensures
