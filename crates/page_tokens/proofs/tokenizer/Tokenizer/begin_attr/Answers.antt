use Rattle.page_tokens.proofs.AttrFollows.{begins_arm}
use Rattle.page_tokens.proofs.tokenizer.Tokenizer.begin_attr.Goals as goal

pub returns-clause-begins : goal.returns-clause-begins
returns-clause-begins c = begins_arm c.args.self.now c.finish_attr.new.self c.report.new.self _ _ _ c.finish_attr.ensures.only_tag c.finish_attr.ensures.none c.in_ok-finish_attr.ensures.some c.report.ensures.only c.report.ensures.memory c.letter.ensures.gains c.letter.ensures.memory
