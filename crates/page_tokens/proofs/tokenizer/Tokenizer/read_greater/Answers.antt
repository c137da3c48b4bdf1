use Rattle.std.proofs.Common.{sym, ◌∙◌}
use Rattle.page_tokens.proofs.Fronts.{none_told}
use Rattle.page_tokens.proofs.PlainSpaces.{greater_read}
use Rattle.page_tokens.proofs.tokenizer.Tokenizer.read_greater.Goals as goal

pub returns-in_default : goal.returns-in_default
returns-in_default c outside none cut = none_told c.args.self.now c.args.text.now _ none

pub returns : goal.returns
returns c outside none cut =
    greater_read c.args.self.now _ c.args.text.now c.args.after.now _ _ outside (sym c.after_spaces.ensures ∙ c.in-Some.is) cut c.in_ok-read.ensures.keeps c.in_ok-read.ensures.emits
