use Rattle.std.proofs.Common.{refl}
use Rattle.page_tokens.proofs.RawEndTags.{double_arm, end_tag_arm, escape_arm, text_arm}
use Rattle.page_tokens.proofs.tokenizer.Tokenizer.raw_less_than.Goals as goal

pub returns-in-EndTag : goal.returns-in-EndTag
returns-in-EndTag c is = end_tag_arm c.args.self.now _ c.args.raw c.args.c _ is c.in-EndTag.ensures c.then.ensures.only c.then.ensures.told

pub returns-in-Escape : goal.returns-in-Escape
returns-in-Escape c is = escape_arm c.args.self.now c.put_text.new.self _ c.args.raw c.args.c _ is c.in-Escape.ensures c.put_text.ensures c.then-in-Escape.ensures.only c.then-in-Escape.ensures.told

pub returns-in-Double : goal.returns-in-Double
returns-in-Double c is =
    double_arm c.args.self.now (record c.args.self.now { letters = c.clear.new.self }) c.put_text-in-Double.new.self _ _ c.args.raw c.args.c _ is c.in-Double.ensures refl c.clear.ensures.bytes c.put_text-in-Double.ensures refl
    (c.in_script.ensures refl)

pub returns-in-Text : goal.returns-in-Text
returns-in-Text c is = text_arm c.args.self.now c.put_text-in-Text.new.self _ _ c.args.raw c.args.c _ is c.in-Text.ensures c.put_text-in-Text.ensures refl c.back_to.ensures
