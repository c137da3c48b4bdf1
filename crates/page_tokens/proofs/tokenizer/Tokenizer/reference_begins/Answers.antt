use Rattle.std.proofs.Common.{refl, sym, ◌∙◌}
use Rattle.page_tokens.proofs.AmbiguousFollows.{none_arm, number_arm}
use Rattle.page_tokens.proofs.NameFollows.{begins_arm}
use Rattle.page_tokens.proofs.tokenizer.Tokenizer.reference_begins.Goals as goal

pub returns-then-is_ascii_alphanumeric : goal.returns-then-is_ascii_alphanumeric
returns-then-is_ascii_alphanumeric c is =
    begins_arm c.args.self.now (record c.args.self.now { behind = c.clear.new.self }) _ c.new.result c.args.c _ (sym c.is_ascii_alphanumeric.ensures.value ∙ c.if-is_ascii_alphanumeric.true) c.new.ensures.read refl
    c.clear.ensures.bytes c.named.ensures is

pub returns-then-c-eq35 : goal.returns-then-c-eq35
returns-then-c-eq35 c is = number_arm c.args.self.now _ c.args.c _ c.if-c-eq35.true c.go_on.ensures.is c.go_on.ensures.on is

pub returns : goal.returns
returns c is = none_arm c.args.self.now _ c.args.c _ (sym c.is_ascii_alphanumeric.ensures.value ∙ c.if-is_ascii_alphanumeric.false) c.if-c-eq35.false refl c.put_written.ensures.put is
