use Rattle.std.proofs.Common.{sym, ◌∙◌}
use Rattle.page_tokens.proofs.Fronts.{none_read}
use Rattle.page_tokens.proofs.PlainSpaces.{spaces_read}
use Rattle.page_tokens.proofs.tokenizer.Tokenizer.skip_spaces.Goals as goal

pub returns-then-count-eq0-clause-follows : goal.returns-then-count-eq0-clause-follows
returns-then-count-eq0-clause-follows c outside = none_read c.args.self.now c.args.text.now

pub returns-in_default-clause-follows : goal.returns-in_default-clause-follows
returns-in_default-clause-follows c outside = none_read c.args.self.now c.args.text.now

pub returns-clause-follows : goal.returns-clause-follows
returns-clause-follows c outside =
    spaces_read c.args.self.now c.args.text.now c.split_at.result.1.now c.spaces_len-count.result _ outside c.spaces_len-count.ensures.len c.if-count-eq0.false
    (sym c.after_spaces.ensures ∙ c.in-Some.is) c.split_at.ensures.back
