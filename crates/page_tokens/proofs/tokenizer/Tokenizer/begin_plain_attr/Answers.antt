use Rattle.std.proofs.Common.{refl}
use Rattle.page_tokens.proofs.PlainAttrs.{begins_plain_arm}
use Rattle.page_tokens.proofs.tokenizer.Tokenizer.begin_plain_attr.Goals as goal

pub returns-clause-begins : goal.returns-clause-begins
returns-clause-begins c = begins_plain_arm c.args.self.now c.finish_attr.new.self _ c.args.name.now c.append.result c.finish_attr.ensures.only_tag c.finish_attr.ensures.none c.in_ok-finish_attr.ensures.some refl c.append.ensures
