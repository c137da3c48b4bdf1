use Rattle.std.proofs.Common.{sym, ◌∙◌}
use Rattle.page_tokens.proofs.TagLemmas.{front_byte, get_behind}
use Rattle.page_tokens.proofs.tokenizer.plain.behind.Goals as goal

pub returns-then-first_byte-byte-clause-some : goal.returns-then-first_byte-byte-clause-some
returns-then-first_byte-byte-clause-some c rest low is = get_behind c.args.text.now rest c.args.byte c.get.result c.utf8.text low is c.get.ensures.cases

pub returns-then-first_byte-byte-clause-cut : goal.returns-then-first_byte-byte-clause-cut
returns-then-first_byte-byte-clause-cut c low = front_byte c.args.text.now c.args.byte c.get.result (sym c.first_byte.ensures ∙ c.if-first_byte-byte.true) c.get.ensures.cases
