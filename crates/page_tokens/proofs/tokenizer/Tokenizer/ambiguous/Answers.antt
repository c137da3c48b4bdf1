use Rattle.std.proofs.Common.{refl, sym, ◌∙◌}
use Rattle.page_tokens.proofs.AmbiguousFollows.{letter_arm, other_arm}
use Rattle.page_tokens.proofs.tokenizer.Tokenizer.ambiguous.Goals as goal

pub returns-then-is_ascii_alphanumeric : goal.returns-then-is_ascii_alphanumeric
returns-then-is_ascii_alphanumeric c is =
    letter_arm c.args.self.now _ c.args.c _ (sym c.is_ascii_alphanumeric.ensures.value ∙ c.if-is_ascii_alphanumeric.true) c.put_letter.ensures.is c.put_letter.ensures.put is

pub returns : goal.returns
returns c is =
    other_arm c.args.self.now c.report.new.self _ c.args.c _ (sym c.is_ascii_alphanumeric.ensures.value ∙ c.if-is_ascii_alphanumeric.false) refl c.report.ensures.only c.report.ensures.memory refl is
