use Rattle.std.proofs.Common.{refl}
use Rattle.page_tokens.proofs.PageTexts.{character_arm, nothing_arm}
use Rattle.page_tokens.proofs.tokenizer.Tokenizer.read_char.Goals as goal

pub returns-in_default-clause-follows : goal.returns-in_default-clause-follows
returns-in_default-clause-follows c _ = nothing_arm c.args.self.now c.args.text.now c.args.kind.now (c.split_char.ensures.none c.in_default.is)

pub returns-clause-follows : goal.returns-clause-follows
returns-clause-follows c none =
    character_arm c.args.self.now c.step.new.self _ c.args.text.now c.in-Some.after.now c.in-Some.c c.in_ok-made.made _ _ none c.in-Some.ensures.cut
    c.in_ok-made.ensures refl c.in_ok-kind.ensures.is
