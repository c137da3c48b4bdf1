use Rattle.page_tokens.proofs.RawTexts.{plaintext_arm}
use Rattle.page_tokens.proofs.tokenizer.Tokenizer.in_plaintext.Goals as goal

pub returns : goal.returns
returns c is = plaintext_arm c.args.self.now _ c.args.c _ is c.letter.ensures.gains c.letter.ensures.memory c.letter.ensures.told
