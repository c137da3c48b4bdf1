use Rattle.page_tokens.proofs.PlainReferences.{plain_read}
use Rattle.page_tokens.proofs.tokenizer.Tokenizer.read_plain_reference.Goals as goal

pub returns : goal.returns
returns c allows outside fresh = plain_read c.args.self.now c.put_meant.new.self c.args.text.now c.in-Some.meant.now c.in-Some.rest.now c.in-Some.ensures allows outside fresh c.in_ok-put_meant.ensures
