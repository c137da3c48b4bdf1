use Rattle.std.proofs.Common.{sym, ◌∙◌}
use Rattle.page_tokens.proofs.PageTexts.{letter_arm, pair_arm}
use Rattle.page_tokens.proofs.tokenizer.Tokenizer.step.Goals as goal

pub returns-then-ends_line_end : goal.returns-then-ends_line_end
returns-then-ends_line_end c memory = pair_arm c.args.self.now c.args.letter (sym c.ends_line_end.ensures ∙ c.if-ends_line_end.true) memory

pub returns : goal.returns
returns c =
    letter_arm c.args.self.now _ c.args.letter _ _ (sym c.ends_line_end.ensures ∙ c.if-ends_line_end.false) c.line_end.ensures c.take.ensures
