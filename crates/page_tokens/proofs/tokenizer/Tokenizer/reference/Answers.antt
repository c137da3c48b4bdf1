use Rattle.page_tokens.proofs.NameFollows.{in_its_reference}
use Rattle.page_tokens.proofs.tokenizer.Tokenizer.reference.Goals as goal

pub returns-in-Named : goal.returns-in-Named
returns-in-Named c = in_its_reference c.args.self.now _ c.in-Named.found c.args.c _ c.in-Named.is c.named.ensures
