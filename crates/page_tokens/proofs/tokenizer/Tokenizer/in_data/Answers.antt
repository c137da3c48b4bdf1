use Rattle.page_tokens.proofs.RawTexts.{data_arm, data_reference_arm, tag_opens_arm}
use Rattle.page_tokens.proofs.tokenizer.Tokenizer.in_data.Goals as goal

pub returns-then-c-eq38 : goal.returns-then-c-eq38
returns-then-c-eq38 c is = data_reference_arm c.args.self.now _ c.args.c _ is c.if-c-eq38.true c.begin_reference.ensures.begins c.begin_reference.ensures.told

pub returns-then-c-eq60 : goal.returns-then-c-eq60
returns-then-c-eq60 c is = tag_opens_arm c.args.self.now _ c.args.c _ is c.if-c-eq60.true c.then.ensures.only c.then.ensures.told

pub returns : goal.returns
returns c is =
    data_arm c.args.self.now c.report.new.self _ c.args.c _ is c.if-c-eq38.false c.if-c-eq60.false c.report.ensures.only c.report.ensures.memory c.text_then.ensures.goes_on c.text_then.ensures.told
