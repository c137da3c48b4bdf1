use Rattle.std.proofs.Common.{refl, sym, ◌∙◌}
use Rattle.page_tokens.proofs.RawEndTags.{greater_arm, letter_arm, no_tag_arm, self_closing_arm, space_arm}
use Rattle.page_tokens.proofs.tokenizer.Tokenizer.raw_end_tag_name.Goals as goal

pub returns-then-is_ascii_alphabetic : goal.returns-then-is_ascii_alphabetic
returns-then-is_ascii_alphabetic c is =
    letter_arm c.args.self.now _ c.args.raw c.args.c _ is (sym c.is_ascii_alphabetic.ensures.value ∙ c.if-is_ascii_alphabetic.true) c.name_letter.ensures.adds c.name_letter.ensures.told

pub returns-in-SelfClosing : goal.returns-in-SelfClosing
returns-in-SelfClosing c is = self_closing_arm c.args.self.now _ c.args.raw c.is_appropriate.result c.args.c _ is c.is_appropriate.ensures c.in-SelfClosing.ensures c.then.ensures.only c.then.ensures.told

pub returns-in-Ends : goal.returns-in-Ends
returns-in-Ends c is = greater_arm c.args.self.now _ c.args.raw c.is_appropriate.result c.args.c _ is c.is_appropriate.ensures c.in-Ends.ensures c.emit_tag.ensures.keeps c.emit_tag.ensures.emits

pub returns-in-Space : goal.returns-in-Space
returns-in-Space c is = space_arm c.args.self.now _ c.args.raw c.is_appropriate.result c.args.c _ is c.is_appropriate.ensures c.in-Space.ensures c.then-in-Space.ensures.only c.then-in-Space.ensures.told

pub returns-in-Text : goal.returns-in-Text
returns-in-Text c is =
    no_tag_arm c.args.self.now c.put_text.new.self c.put_name.new.self _ _ c.args.raw c.is_appropriate.result c.args.c _ is (sym c.is_ascii_alphabetic.ensures.value ∙ c.if-is_ascii_alphabetic.false) c.is_appropriate.ensures
    c.in-Text.ensures c.put_text.ensures c.put_name.ensures refl c.back_to.ensures
