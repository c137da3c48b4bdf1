use Rattle.page_tokens.proofs.CdataSections.{bracket_arm, text_arm, then_arm}
use Rattle.page_tokens.proofs.tokenizer.Tokenizer.in_cdata.Goals as goal

pub returns-in-Then : goal.returns-in-Then
returns-in-Then c is = then_arm c.args.self.now _ c.args.state c.in-Then.next c.args.c _ is c.in-Then.ensures c.then.ensures.only c.then.ensures.told

pub returns-in-Bracket : goal.returns-in-Bracket
returns-in-Bracket c is = bracket_arm c.args.self.now _ c.args.state c.args.c _ is c.in-Bracket.ensures c.text_then.ensures.goes_on c.text_then.ensures.told

pub returns-in-Text : goal.returns-in-Text
returns-in-Text c is =
    text_arm c.args.self.now c.put_text.new.self _ c.args.state c.args.c _ _ is c.in-Text.ensures c.brackets.ensures c.put_text.ensures c.text_then-in-Text.ensures.goes_on c.text_then-in-Text.ensures.told
