use Rattle.page_tokens.proofs.RawTexts.{end_tag_begins_arm, raw_arm}
use Rattle.page_tokens.proofs.tokenizer.Tokenizer.in_raw.Goals as goal

pub returns-then-c-eq60 : goal.returns-then-c-eq60
returns-then-c-eq60 c is reads = end_tag_begins_arm c.args.self.now _ c.args.raw c.args.c _ is reads c.if-c-eq60.true c.then.ensures.only c.then.ensures.told

pub returns : goal.returns
returns c is reads = raw_arm c.args.self.now _ c.args.raw c.args.c _ is reads c.if-c-eq60.false c.letter.ensures.gains c.letter.ensures.memory c.letter.ensures.told
