use Rattle.page_tokens.proofs.NameFollows.{goes_on_arm}
use Rattle.page_tokens.proofs.tokenizer.Tokenizer.named.Goals as goal

pub returns-in-Some : goal.returns-in-Some
returns-in-Some c = goes_on_arm c.args.self.now _ c.args.found c.in-Some.more c.args.c _ c.in-Some.ensures c.name_goes_on.ensures.is c.name_goes_on.ensures.on
